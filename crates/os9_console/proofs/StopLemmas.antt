-- A session that stopped, with the images in the drives again.
use Rattle.std.proofs.Common.{◌≡◌, ◌⊎◌, ◌≤◌, ℕ, zero, suc, Option, Some, None, List, [], ◌∷◌, length, slice_get, refl, sym, ap, subst, ◌∙◌, All, inl, inr, arith}
use Rattle.std.specs.Prelude.{IsSome}
use Rattle.std.proofs.lemmas.List.{length-map}
use Rattle.std.proofs.lemmas.List.Elements.{All-cons, All-head, All-tail}
use Rattle.std.proofs.lemmas.Option.{none-some}
use Rattle.os9_base.specs.declared.registers.TimePacket.{TimePacket}
use Rattle.os9_outer.specs.Stream.{stream_with}
use Rattle.os9_outer.specs.TerminalState.{TerminalState}
use Rattle.rbf_model.specs.Volume.{DiskVolume, Vol}
use Rattle.file_rules.specs.Files.{volume_at}
use Rattle.file_rules.specs.Memory.{LacksEntry, LacksMemory}
use Rattle.file_rules.specs.declared.path_call.PathCall.{PathCall}
use Rattle.file_drives.specs.Drives.{drive_states}
use Rattle.file_drives.proofs.DriveLemmas.{media-there}
use Rattle.machine_model.specs.Run.{BreaksTick}
use Rattle.machine_model.specs.Start.{Boot, Starts}
use Rattle.machine_model.specs.State.{State}
use Rattle.run_laws.specs.Session.{with_keys}
use Rattle.run_laws.proofs.Attempts.{path-keeps}
use Rattle.run_laws.proofs.EndsAlong.{first-events-keep-ends, run-keeps-ends, slice-keeps-ends}
use Rattle.run_laws.proofs.Starts.{start-has-no-more}
use Rattle.os9_kernel.specs.Breaks.{BreaksEvent, BreaksAtByte, BreaksAtEntry}
use Rattle.os9_kernel.specs.Calls.{StopsSlice}
use Rattle.os9_kernel.specs.Outside.{Outside}
use Rattle.os9_kernel.specs.Volumes.{HoldsVolumes}
use Rattle.boot_run.specs.Console.{IsObserved}
use Rattle.boot_run.specs.Slices.{BreaksOutput}
use Rattle.boot_run.specs.World.{World}
use Rattle.boot_run.specs.Drives.{TakesImages, holding, without_media}
use Rattle.boot_run.specs.Outcome.{with_images_in}
use Rattle.boot_run.proofs.DriveLemmas.{counts-holding, counts-without, holding-view}
use Rattle.console_run.specs.Typed.{kept_keys}
use Rattle.console_run.specs.declared.typed.TheConstants.{SLICE}
use Rattle.console_run.specs.declared.typed.Typed.{Typed}
use Rattle.console_run.specs.Kept.{load_of}
use Rattle.console_run.specs.Keyboard.{KeyboardState}
use Rattle.console_run.specs.Session.{HasPartOfSession, with_bytes}
use Rattle.console_run.specs.Turn.{StopsTurn}

-- the bytes of all terminals are observed, or not
observed-or-not : (put : Option (List ℕ)) → IsSome put ⊎ (¬ IsSome put)
observed-or-not None = inr (λ is. cc is)
observed-or-not (Some bytes) = inl refl

pub all-observed : (terms : List TerminalState) → All IsObserved terms ⊎ (¬ All IsObserved terms)
all-observed [] = inl (λ k d low. absurd (omega (arith, low)))
all-observed (terminal ∷ terms) =
    elim (observed-or-not terminal.put) [
      | inl one ↦
          elim (all-observed terms) [
            | inl others ↦ inl (All-cons IsObserved terminal terms one others)
            | inr other ↦ inr (λ all. other (All-tail IsObserved terminal terms all))
          ]
      | inr none ↦ inr (λ all. none (All-head IsObserved terminal terms all))
    ]

-- there is one of each at a place, or none
both-there : (one other : List (List ℕ)) → length one ≡ length other → (n : ℕ)
    → ((slice_get one n ≡ None) × (slice_get other n ≡ None)) ⊎ ((x : List ℕ) × (y : List ℕ) × (slice_get one n ≡ Some x) × (slice_get other n ≡ Some y))
both-there [] [] same n = inl (refl, refl)
both-there [] (y ∷ ys) same n = absurd (omega (arith, same))
both-there (x ∷ xs) [] same n = absurd (omega (arith, same))
both-there (x ∷ xs) (y ∷ ys) same zero = inr (x, y, refl, refl)
both-there (x ∷ xs) (y ∷ ys) same (suc n) = both-there xs ys (omega (arith, same)) n

-- no drive has got a volume
abbrev GetsNone : State → State → Type 0
GetsNone s t = (drive : ℕ) → volume_at s.files drive ≡ None → volume_at t.files drive ≡ None

module _ (boot : Boot) (s : State) (starts : Starts boot s) (ran : World) (new : List (List ℕ)) (left : Outside)
    (as_many : length new ≡ length boot.images) (enough : length new ≤ length ran.devices.drives)
    (taken : TakesImages new ran.devices.drives left.drives) (terms_left : left.terms ≡ ran.devices.terms) where
  -- the world with the images that were taken out in the drives again
  abbrev again : World
  again = with_images_in new (record ran { devices = left })

  room : length new ≤ length left.drives
  room = omega (arith, enough, ap length taken.left, length-map ran.devices.drives without_media)

  -- a drive with a volume has an image
  has-image : (t : State) → GetsNone s t → (drive : ℕ) (v : DiskVolume) → volume_at t.files drive ≡ Some v → (image : List ℕ) × (slice_get new drive ≡ Some image)
  has-image t none drive v is = elim (both-there new boot.images as_many drive) [
    | inl neither ↦ absurd (none-some v (sym (none drive (start-has-no-more _ s starts drive neither.1)) ∙ is))
    | inr there ↦ (there.0, there.2)
  ]

  holds-again : (t : State) → GetsNone s t → HoldsVolumes t ran.devices.drives → HoldsVolumes t again.devices.drives
  holds-again t none it = record {
    counts = it.counts ∙ sym (counts-holding new left.drives ∙ ap drive_states taken.left ∙ counts-without ran.devices.drives);
    volumes = λ drive v is.
        let holds = it.volumes drive v is in
        let (image, there) = has-image t none drive v is in
        let same : image ≡ holds.on.image = taken.each drive image holds.on.image there (media-there ran.devices.drives drive holds.view holds.is ∙ holds.on.is) in
        let (view, at, in_drive) = holding-view new left.drives room drive image there in
        record { view = view; is = at; on = record { image = image; is = in_drive; vol = subst (λ (image : List ℕ). Vol image v) (sym same) holds.on.vol } };
  }

  lacks-again : (t : State) (call : PathCall) (now : TimePacket) (p : ℕ) → GetsNone s t → BreaksAtByte call t now p
      ran.devices ⊎ BreaksAtEntry call t now p ran.devices → BreaksAtByte call t now p again.devices ⊎ BreaksAtEntry
      call t now p again.devices
  lacks-again t call now p none (inl it) =
      inl (record { lacks = subst (λ (terms : List TerminalState). LacksMemory call t.processes t.files now p t.terms terms) (sym terms_left) it.lacks; drives = holds-again t none it.drives })
  lacks-again t call now p none (inr it) =
      inr (record {
        done = it.done;
        lacks = subst (λ (terms : List TerminalState). LacksEntry call t.processes t.files now p it.done t.terms terms) (sym terms_left) it.lacks;
        drives = holds-again (record t { files = it.done })
            (λ drive is. (path-keeps call t.processes t.files now p it.lacks.result it.done t.terms _
            it.lacks.attempts).none drive (none drive is)) it.drives;
      })

  breaks-again : (t : State) → GetsNone s t → BreaksEvent t ran.devices → BreaksEvent t again.devices
  breaks-again t none it = record {
    p = it.p;
    chosen = it.chosen;
    lives = it.lives;
    code = it.code;
    act = it.act;
    call = it.call;
    is_call = it.is_call;
    now = it.now;
    is_now = it.is_now;
    lacks = lacks-again t it.call it.now it.p none it.lacks;
  }

  stops-again : (n : ℕ) (t : State) → GetsNone s t → StopsSlice n t ran.devices → StopsSlice n t again.devices
  stops-again n t none (inl (breaks, holds)) =
      inl (subst (λ (terms : List TerminalState). BreaksTick t terms) (sym terms_left) breaks, holds-again t none holds)
  stops-again n t none (inr (states, u, begins, breaks)) =
      inr (states, u, begins, breaks-again u (λ drive is. (first-events-keep-ends n t u states begins).none drive (none drive is)) breaks)

  output-again : (n : ℕ) (t : State) (out : Option (List ℕ)) → GetsNone s t → BreaksOutput n t out ran → BreaksOutput n t out again
  output-again n t out none it = record {
    states = it.states;
    end = it.end;
    t = it.t;
    slice = it.slice;
    some = it.some;
    output = it.output;
    taken = it.taken;
    terminals = terms_left ∙ it.terminals;
    drives = holds-again it.t (λ drive is. (slice-keeps-ends n t it.t it.states it.end it.slice).none drive (none drive is)) it.drives;
  }

  turn-again : (u : State) (before : World) (inside : Outside) (written : List ℕ) → GetsNone s u
      → StopsTurn u (record before { devices = inside; out = stream_with before.out written }) ran
      → StopsTurn u (record before { out = stream_with before.out written }) again
  turn-again u before inside written none (inl (stops, gained, kept)) = inl (stops-again SLICE u none stops, gained, kept)
  turn-again u before inside written none (inr breaks) = inr (output-again SLICE u (stream_with before.out written) none breaks)

  -- a part of a session from where it started
  pub part-again : (typed : Typed) (from to : KeyboardState) (before : World) (inside : Outside)
      → HasPartOfSession s typed from to (record before { devices = inside }) ran → HasPartOfSession s typed from to before again
  part-again typed from to before inside it = record {
    turns = it.turns;
    states = it.states;
    written = it.written;
    m = it.m;
    turns_typed = it.turns_typed;
    lives = it.lives;
    line = it.line;
    bytes = it.bytes;
    types = it.types;
    keys = it.keys;
    slices = it.slices;
    through = it.through;
    run = it.run;
    stopped = turn-again (with_bytes it.m it.bytes) before inside it.written
        (run-keeps-ends _ it.written (with_keys s (load_of (kept_keys typed))) (with_bytes it.m it.bytes) it.through it.run).none it.stopped;
    taken = it.taken;
  }
