-- Slices, one after another, make a run.
use Rattle.std.proofs.Common.{◌≡◌, ◌≢◌, not, ℕ, Bool, true, false, Option, Some, List, [], ◌∷◌, ◌++◌, get_or, slice_get, refl, sym, subst, ap, ◌∙◌, ◌<◌, take, length, append_assoc, append-nil, All, inl, inr}
use Rattle.std.specs.Prelude.{MatchBool}
use Rattle.std.proofs.lemmas.Bool.{ne_eqb}
use Rattle.std.proofs.lemmas.List.Elements.{All-cons, All-head, All-tail}
use Rattle.std.proofs.lemmas.Option.{slice_get-get_or}
use Rattle.os9_outer.specs.Stream.{stream_with, GainsPrefix}
use Rattle.os9_outer.specs.TerminalState.{TerminalState}
use Rattle.device_table.proofs.StreamLemmas.{appended-twice, appended-nothing}
use Rattle.file_drives.specs.Drives.{DriveView}
use Rattle.machine_model.specs.declared.ends.SliceEnd.{SliceEnd}
use Rattle.machine_model.specs.Console.{terminals_emptied, console_bytes}
use Rattle.machine_model.specs.Living.{living_count}
use Rattle.machine_model.specs.Terminals.{TerminalsOnlyGain}
use Rattle.machine_model.proofs.TerminalLaws.{gain-emptied}
use Rattle.machine_model.specs.Run.{BeginsSlice, Run, Slice}
use Rattle.machine_model.specs.State.{State, has_living}
use Rattle.machine_model.proofs.Gains.{slice-gains}
use Rattle.os9_kernel.specs.declared.kernel.Kernel.{Kernel}
use Rattle.os9_kernel.specs.Calls.{KernelSlice, StopsSlice}
use Rattle.os9_kernel.specs.Changes.{BeginsEventAt, KeepsImages}
use Rattle.os9_kernel.specs.Outside.{Outside}
use Rattle.os9_kernel.specs.Tie.{Represents, RepresentsSomeState}
use Rattle.os9_kernel.proofs.Changing.{none-before}
use Rattle.os9_kernel.proofs.Holding.{holds-still}
use Rattle.os9_kernel.proofs.Represented.{represents-emptied}
use Rattle.boot_run.specs.Console.{IsObserved, emptied_front}
use Rattle.boot_run.specs.Slices.{ComesInto, RunsPartly}
use Rattle.boot_run.specs.World.{World, HasNoFault}

-- ---- what is observed stays observed

pub observed-later : (before now : List TerminalState) → TerminalsOnlyGain before now → All IsObserved before → All IsObserved now
observed-later [] [] gain observed = observed
observed-later [] (y ∷ now) gain observed = absurd gain
observed-later (x ∷ before) [] gain observed = absurd gain
observed-later (x ∷ before) (y ∷ now) gain observed =
    All-cons IsObserved y now (gain.0.observed ∙ All-head IsObserved x before observed) (observed-later before now gain.1 (All-tail IsObserved x before observed))

pub observed-slice : (n : ℕ) (s : State) (states : List State) (end : SliceEnd) (t : State) → Slice n s states end t → All IsObserved s.terms → All IsObserved t.terms
observed-slice n s states end t slice = observed-later s.terms t.terms (slice-gains n s t states end slice).terminals

pub observed-emptied : (terms : List TerminalState) → All IsObserved terms → All IsObserved (terminals_emptied terms)
observed-emptied terms = observed-later terms (terminals_emptied terms) (gain-emptied terms)

-- ---- a kernel and its devices

-- the terminals of a state that they stand for
pub terms-standing : (kernel : Kernel) (devices : Outside) (s : State) → Represents kernel devices s → devices.terms ≡ s.terms
terms-standing kernel devices s tied = sym (ap (λ (s : State). s.terms) tied.is)

-- where the bytes are taken from the terminals, the kernel stands for the state without them
pub represents-taken : (kernel : Kernel) (mid now : Outside) (t : State) → now.drives ≡ mid.drives
    → now.terms ≡ terminals_emptied mid.terms → Represents kernel mid t → Represents kernel now
    (record t { terms = terminals_emptied t.terms })
represents-taken kernel mid now t drives terms tied =
    let taken : Outside = record mid { terms = terminals_emptied mid.terms } in
    let is : taken ≡ now = λ i. record { drives = sym drives i; terms = sym terms i } in
    subst (λ (devices : Outside). Represents kernel devices (record t { terms = terminals_emptied t.terms })) is (represents-emptied kernel mid t tied)

-- a slice that was run leaves a kernel that stands, also when the bytes are taken from the terminals
pub stands-emptied : (n : ℕ) (old new : Kernel) (before mid now : Outside) (end : SliceEnd) → RepresentsSomeState old before
    → end ≢ SliceEnd.NoMemory → KernelSlice n old new before mid end → now.drives ≡ mid.drives
    → now.terms ≡ terminals_emptied mid.terms → RepresentsSomeState new now
stands-emptied n old new before mid now end (s, tied) more slice drives terms =
    let (states, t, steps, there, kept) = slice.step more s tied in
    (record t { terms = terminals_emptied t.terms }, represents-taken new mid now t drives terms there)

-- ---- whether one lives

pub none-living : (s : State) → living_count s.processes ≡ 0 → has_living s ≡ false
none-living s none = rw none refl

pub some-living : (s : State) → living_count s.processes ≢ 0 → has_living s ≡ true
some-living s some = ap not (ne_eqb (living_count s.processes) 0 some)

-- ---- runs in pieces

-- a run where nobody lives is over at once
pub run-idle : (slices : List ℕ) (m : State) → has_living m ≡ false → Run slices m [] [] m
run-idle [] m idle = (refl, refl, refl)
run-idle (n ∷ ns) m idle = rw idle (refl, refl, refl)

-- and there is no other
run-over : (slices : List ℕ) (s : State) (states : List State) (written : List ℕ) (t : State) → has_living s ≡ false → Run slices s states written t → (states ≡ []) × (written ≡ []) × (t ≡ s)
run-over [] s states written t idle run = run
run-over (n ∷ ns) s states written t idle run = rw idle at run

-- one slice is a run
pub run-slice : (n : ℕ) (m t : State) (states : List State) (end : SliceEnd) → has_living m ≡ true
    → Slice n m states end t → Run (n ∷ []) m states (console_bytes t.terms)
    (record t { terms = terminals_emptied t.terms })
run-slice n m t states end lives slice =
    rw lives (end, t, states, [], [], slice, sym (append-nil states), sym (append-nil (console_bytes t.terms)), (refl, refl, refl))

-- a run over the first slices, and one over the rest from where it came to, are a run
pub run-append : (first rest : List ℕ) (s m t : State) (states others : List State) (written more : List ℕ)
    → Run first s states written m → Run rest m others more t → Run (first ++ rest) s (states ++ others)
    (written ++ more) t
run-append [] rest s m t states others written more (none, nothing, same) next = rw (none, nothing) (rw same at next)
run-append (n ∷ first) rest s m t states others written more run next =
    by_living (has_living s) refl (λ mid later out after. run-append first rest mid m t later others out more after next) run
  where
    by_living : (living : Bool) → has_living s ≡ living → ((mid : State) (later : List State) (out : List ℕ)
        → Run first mid later out m → Run (first ++ rest) mid (later ++ others) (out ++ more) t)
        → MatchBool living ((end : SliceEnd) × (mid : State) × (begun later : List State) × (out : List ℕ) × Slice n s
        begun end mid × (states ≡ begun ++ later) × (written ≡ console_bytes mid.terms ++ out) × Run first
        (record mid { terms = terminals_emptied mid.terms }) later out m) ((states ≡ []) × (written ≡ []) × (m ≡ s))
        → Run (n ∷ (first ++ rest)) s (states ++ others) (written ++ more) t
    by_living true lives joined (end, mid, begun, later, out, slice, visited, all, after) =
        rw lives (
          end,
          mid,
          begun,
          later ++ others,
          out ++ more,
          slice,
          ap (λ states. states ++ others) visited ∙ append_assoc begun later others,
          ap (λ bytes. bytes ++ more) all ∙ append_assoc (console_bytes mid.terms) out more,
          joined (record mid { terms = terminals_emptied mid.terms }) later out after,
        )
    by_living false idle joined (none, nothing, same) =
        let over = run-over rest s others more t idle (rw same at next) in
        rw idle (
          ap (λ states. states ++ others) none ∙ over.0,
          ap (λ bytes. bytes ++ more) nothing ∙ over.1,
          over.2,
        )

-- a kernel and its devices have come so far from s, with these drives, over the first of these slices: a run over them
-- wrote what the output gained, and kept the images that none of its events asked to change
abbrev pub Reaches : List DriveView → List ℕ → Option (List ℕ) → List ℕ → State → Kernel → Outside → Option (List ℕ) → Type 0
Reaches start slices first ran s kernel devices out =
    (m : State) × (states : List State) × (written : List ℕ) × All IsObserved devices.terms × Represents kernel
    devices m × (out ≡ stream_with first written) × Run ran s states written m × KeepsImages (ComesInto slices s)
    states start devices.drives

pub reaches-none : (slices : List ℕ) (first : Option (List ℕ)) (s : State) (kernel : Kernel) (devices : Outside) → All IsObserved devices.terms → Represents kernel devices s
    → Reaches devices.drives slices first [] s kernel devices first
reaches-none slices first s kernel devices told tied =
    (s, [], [], told, tied, sym (appended-nothing first), (refl, refl, refl), λ drive none. refl)

-- where some process lives
abbrev pub SomeLives : Kernel → Outside → Type 0
SomeLives kernel devices = (m : State) → Represents kernel devices m → living_count m.processes ≢ 0

-- and a slice was run
abbrev pub RunsSlice : ℕ → Kernel → Outside → SliceEnd → Kernel → Outside → Type 0
RunsSlice n kernel devices end after mid =
    (m : State) → Represents kernel devices m → (states : List State) × (t : State) × Slice n m states end t × Represents after mid t × KeepsImages (BeginsSlice n m) states devices.drives mid.drives

-- an event of the next slice is one of the run
begins-later : (slices : List ℕ) (count n : ℕ) (s m : State) (states begun : List State) (written : List ℕ) → slice_get slices count ≡ Some n → has_living m ≡ true
    → Run (take count slices) s states written m → (at : State) → BeginsEventAt (BeginsSlice n m) begun at → BeginsEventAt (ComesInto slices s) (states ++ begun) at
begins-later slices count n s m states begun written here lives run at it = record {
  first = states ++ it.first;
  there = record {
    count = count;
    passed = states;
    written = written;
    reached = m;
    run = run;
    n = n;
    next = here;
    lives = lives;
    first = it.first;
    begins = it.there;
    all = refl;
  };
  next = it.next;
  end = it.end;
  event = it.event;
  later = it.later;
  all = ap (λ begun. states ++ begun) it.all ∙ sym (append_assoc states it.first (it.next ∷ it.later));
}

-- the images that none of its events asks to change are as they were, and so are those of the run
pub images-later : (slices : List ℕ) (count n : ℕ) (s m : State) (states begun : List State) (written : List ℕ) (start before mid : List DriveView) → slice_get slices count ≡ Some n
    → has_living m ≡ true → Run (take count slices) s states written m → KeepsImages (ComesInto slices s) states start before → KeepsImages (BeginsSlice n m) begun before mid
    → KeepsImages (ComesInto slices s) (states ++ begun) start mid
images-later slices count n s m states begun written start before mid here lives run so_far kept drive none =
    kept drive (λ at it. none at (begins-later slices count n s m states begun written here lives run at it))
    ∙ so_far drive (none-before (ComesInto slices s) states begun drive none)

pub reaches-more : (start : List DriveView) (slices : List ℕ) (count : ℕ) (s : State) (n : ℕ) (kernel after : Kernel) (devices mid now : Outside) (first out next : Option (List ℕ)) (end : SliceEnd)
    → slice_get slices count ≡ Some n → Reaches start slices first (take count slices) s kernel devices out → SomeLives kernel devices → RunsSlice n kernel devices end after mid
    → now.drives ≡ mid.drives → now.terms ≡ terminals_emptied mid.terms → (All IsObserved mid.terms → next ≡ stream_with out (console_bytes mid.terms))
    → Reaches start slices first (take count slices ++ n ∷ []) s after now next
reaches-more start slices count s n kernel after devices mid now first out next end at (m, states, written, told, tied, is, so_far, images) some steps drives emptied gained =
    let (begun, t, slice, left, kept) = steps m tied in
    let lives = some-living m (some m tied) in
    let here : m.terms ≡ devices.terms = ap (λ (s : State). s.terms) tied.is in
    let there : t.terms ≡ mid.terms = ap (λ (s : State). s.terms) left.is in
    let told_m : All IsObserved m.terms = subst (λ terms. All IsObserved terms) (sym here) told in
    let told_mid : All IsObserved mid.terms = subst (λ terms. All IsObserved terms) there (observed-slice n m begun end t slice told_m) in (
      record t { terms = terminals_emptied t.terms },
      states ++ begun,
      written ++ console_bytes t.terms,
      subst (λ terms. All IsObserved terms) (sym emptied) (observed-emptied mid.terms told_mid),
      represents-taken after mid now t drives emptied left,
      gained told_mid ∙ ap (λ stream. stream_with stream (console_bytes mid.terms)) is ∙ appended-twice first written
          (console_bytes mid.terms) ∙ ap (λ terms. stream_with first (written ++ console_bytes terms)) (sym there),
      run-append (take count slices) (n ∷ []) s m (record t { terms = terminals_emptied t.terms }) states begun written (console_bytes t.terms) so_far (run-slice n m t begun end lives slice),
      subst (λ (views : List DriveView). KeepsImages (ComesInto slices s) (states ++ begun) start views) (sym drives)
          (images-later slices count n s m states begun written start devices.drives mid.drives at lives so_far images
          kept),
    )

-- a run over these slices comes to a state that the kernel represents, the output gained what it writes, and the images
-- that none of its events asked to change are as they were
abbrev pub HasRun : List DriveView → Option (List ℕ) → List ℕ → State → Kernel → Outside → Option (List ℕ) → Type 0
HasRun start first slices s kernel devices out =
    (states : List State) × (written : List ℕ) × (t : State) × Run slices s states written t × Represents kernel
    devices t × (out ≡ stream_with first written) × KeepsImages (ComesInto slices s) states start devices.drives

pub reaches-idle : (start : List DriveView) (first out : Option (List ℕ)) (slices ran rest : List ℕ) (s : State) (kernel : Kernel) (devices : Outside) → ran ++ rest ≡ slices
    → Reaches start slices first ran s kernel devices out → ((m : State) → Represents kernel devices m → living_count m.processes ≡ 0) → HasRun start first slices s kernel devices out
reaches-idle start first out slices ran rest s kernel devices all (m, states, written, told, tied, is, so_far, images) none =
    let ended : Run (ran ++ rest) s (states ++ []) (written ++ []) m = run-append ran rest s m m states [] written [] so_far (run-idle rest m (none-living m (none m tied))) in
    (states, written, m, rw (all, append-nil states, append-nil written) at ended, tied, is, images)

pub reaches-all : (start : List DriveView) (first out : Option (List ℕ)) (slices : List ℕ) (s : State) (kernel : Kernel) (devices : Outside)
    → Reaches start slices first slices s kernel devices out → HasRun start first slices s kernel devices out
reaches-all start first out slices s kernel devices (m, states, written, told, tied, is, so_far, images) =
    (states, written, m, so_far, tied, is, images)

-- if memory was out in a slice, the output holds all that the slices before it wrote
pub partly-before : (start : List DriveView) (slices : List ℕ) (count n : ℕ) (s : State) (kernel : Kernel) (devices : Outside) (before after : World)
    → slice_get slices count ≡ Some n → Reaches start slices before.out (take count slices) s kernel devices after.out → SomeLives kernel devices
    → ((m : State) → Represents kernel devices m → StopsSlice n m after.devices) → HasNoFault before after → RunsPartly slices s before after
partly-before start slices count n s kernel devices before after here (m, states, written, told, tied, is, so_far, images) some begins kept =
    record {
      count = count;
      states = states;
      written = written;
      reached = m;
      run = so_far;
      n = n;
      next = here;
      lives = some-living m (some m tied);
      stopped = inl (begins m tied, is, kept);
    }

-- if a slice was run and its bytes were not all passed on, the output holds those of the slices before it, and a prefix
pub partly-after : (start : List DriveView) (slices : List ℕ) (count : ℕ) (s : State) (kernel later : Kernel) (devices mid : Outside) (before after : World) (out : Option (List ℕ)) (end : SliceEnd)
    → count < length slices → Reaches start slices before.out (take count slices) s kernel devices out → SomeLives kernel devices
    → RunsSlice (get_or slices count 0) kernel devices end later mid → (All IsObserved mid.terms
    → GainsPrefix out (console_bytes mid.terms) after.out) → (All IsObserved mid.terms → console_bytes mid.terms ≢
    [])
    → (taken : ℕ) × (after.devices.terms ≡ emptied_front taken mid.terms) → after.devices.drives ≡ mid.drives → RunsPartly slices s before after
partly-after start slices count s kernel later devices mid before after out end within (m, states, written, told, tied, is, so_far, images) some steps gained filled (taken, left) drives =
    let (begun, t, slice, stands, kept) = steps m tied in
    let n = get_or slices count 0 in
    let here : m.terms ≡ devices.terms = ap (λ (s : State). s.terms) tied.is in
    let there : t.terms ≡ mid.terms = ap (λ (s : State). s.terms) stands.is in
    let told_m : All IsObserved m.terms = subst (λ terms. All IsObserved terms) (sym here) told in
    let told_mid : All IsObserved mid.terms = subst (λ terms. All IsObserved terms) there (observed-slice n m begun end t slice told_m) in
    let part : GainsPrefix (stream_with before.out written) (console_bytes mid.terms) after.out = subst
    (λ (o : Option (List ℕ)). GainsPrefix o (console_bytes mid.terms) after.out) is (gained told_mid) in
    record {
      count = count;
      states = states;
      written = written;
      reached = m;
      run = so_far;
      n = n;
      next = slice_get-get_or slices count 0 within;
      lives = some-living m (some m tied);
      stopped = inr (record {
        states = begun;
        end = end;
        t = t;
        slice = slice;
        some = λ none. filled told_mid (ap console_bytes (sym there) ∙ none);
        output = subst (λ terms. GainsPrefix (stream_with before.out written) (console_bytes terms) after.out) (sym there) part;
        taken = taken;
        terminals = left ∙ ap (λ (terms : List TerminalState). emptied_front taken terms) (sym there);
        drives = holds-still later mid t stands after.devices drives;
      });
    }
