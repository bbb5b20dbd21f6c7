-- Turns, one after another, make a session and the run of what it keeps.
use Rattle.std.proofs.Common.{◌≡◌, ◌≢◌, ℕ, ◌+◌, true, Option, Some, List, [], ◌∷◌, ◌++◌, length, map, take, slice_get, refl, sym, ap, ◌∙◌, subst, All, append_assoc, append-nil, inl, inr, length-append}
use Rattle.std.specs.Prelude.{IfOk, OnErr, OnOk, Result, Ok, Err, replicate}
use Rattle.std.specs.List.{flat_map}
use Rattle.std.proofs.lemmas.List.{map-append, replicate_more}
use Rattle.std.proofs.lemmas.List.Concat.{flat_map-append}
use Rattle.os9_outer.specs.Stream.{stream_with}
use Rattle.os9_outer.specs.TerminalState.{TerminalState}
use Rattle.os9_outer.specs.declared.terminal.Key.{Key}
use Rattle.boot_run.specs.Loaded.{keys_for}
use Rattle.script_text.specs.declared.script.ScriptKey.{ScriptKey}
use Rattle.device_table.proofs.StreamLemmas.{appended-twice, appended-nothing}
use Rattle.file_drives.specs.Drives.{DriveView}
use Rattle.proc_model.specs.Processes.{Processes}
use Rattle.machine_model.specs.Console.{console_bytes, terminals_emptied}
use Rattle.machine_model.specs.Living.{living_count}
use Rattle.machine_model.specs.declared.ends.SliceEnd.{SliceEnd}
use Rattle.file_rules.specs.Attempts.{asker_of, file_step}
use Rattle.machine_model.specs.Run.{BeginsSlice, Run, Slice}
use Rattle.machine_model.specs.State.{State, has_living}
use Rattle.run_laws.specs.Session.{AreLater, Keys, SessionTurn, keys_loaded, keys_then, with_keys}
use Rattle.run_laws.specs.SoFar.{SessionSoFar, each_with}
use Rattle.run_laws.proofs.Loads.{begins-with, event-with, later-before, later-then, load-bytes, load-emptied, load-then, slice-with}
use Rattle.run_laws.proofs.Onward.{comes-first, comes-on}
use Rattle.os9_kernel.specs.Changes.{AsksToChange, BeginsEventAt, KeepsImages}
use Rattle.os9_kernel.specs.Outside.{Outside}
use Rattle.os9_kernel.specs.Tie.{Represents, ticks}
use Rattle.os9_kernel.specs.declared.kernel.Kernel.{Kernel}
use Rattle.boot_run.specs.Console.{IsObserved}
use Rattle.boot_run.specs.Slices.{BreaksOutput, ComesInto, RunsPartly}
use Rattle.boot_run.specs.World.{World, HasNoFault}
use Rattle.boot_run.specs.declared.run.RunFault.{RunFault}
use Rattle.boot_run.proofs.RunLemmas.{images-later, observed-emptied, observed-slice, run-append, run-slice, some-living}
use Rattle.console_run.specs.Kept.{load_of}
use Rattle.console_run.specs.Typed.{IsUntyped, kept_keys, kept_slices, keys_typed}
use Rattle.console_run.specs.Keyboard.{KeyboardState, TakesLines, line_list, shown_for}
use Rattle.console_run.specs.Lines.{TypesIf, left_after}
use Rattle.console_run.specs.Session.{HasPartOfSession, at_start, with_bytes}
use Rattle.console_run.specs.Turn.{ConsoleState, PassesSlice, RunsTurn, StopsTurn, TypesLine}
use Rattle.console_run.specs.TypedTurn.{KeepsTypedTurns, TypedTurn, TypedTurns, last_end, left_of, lines_of, shown_at, turn_keys, turn_of}
use Rattle.console_run.specs.Waiting.{WaitsForLine}
use Rattle.console_run.specs.declared.typed.TheConstants.{SLICE}
use Rattle.console_run.specs.declared.typed.Typed.{Typed}
use Rattle.console_run.proofs.KeyLemmas.{all-typed, count-loaded, keys-more, load-later, loaded-none, none-kept, then-then}
use Rattle.console_run.proofs.LineLemmas.{takes-none, takes-then}
use Rattle.console_run.proofs.LoadLemmas.{observed-loaded, represents-loaded}

-- ---- images that no event asks to change

-- an event asks for the same with keys behind
asks-with : (drive : ℕ) (at : State) (keys : Keys) → AsksToChange drive at → AsksToChange drive (with_keys at keys)
asks-with drive at keys it = record {
  p = it.p;
  chosen = it.chosen;
  code = it.code;
  act = it.act;
  call = it.call;
  serves = it.serves;
  now = it.now;
  is_now = it.is_now;
  step = it.step;
  step_is = it.step_is ∙ ap (λ (count : ℕ). file_step it.call (asker_of at.processes it.p it.now) at.files count) (sym (count-loaded at.terms keys));
  reached = it.reached;
  change = it.change;
  deed = it.deed;
}

begins-at-with : (n : ℕ) (u at : State) (states : List State) (keys : Keys) → AreLater (u.processes.tick + 1) keys
    → BeginsEventAt (BeginsSlice n u) states at → BeginsEventAt (BeginsSlice n (with_keys u keys)) (each_with keys states)
    (with_keys at keys)
begins-at-with n u at states keys later it = record {
  first = each_with keys it.first;
  there = begins-with n u at it.first keys later it.there;
  next = with_keys it.next keys;
  end = it.end;
  event = event-with (u.processes.tick + 1) at it.next it.end keys later it.event;
  later = each_with keys it.later;
  all = ap (each_with keys) it.all ∙ map-append (λ (s : State). with_keys s keys) it.first (it.next ∷ it.later);
}

keeps-with : (n : ℕ) (u : State) (states : List State) (keys : Keys) (before after : List DriveView)
    → AreLater (u.processes.tick + 1) keys → KeepsImages (BeginsSlice n u) states before after
    → KeepsImages (BeginsSlice n (with_keys u keys)) (each_with keys states) before after
keeps-with n u states keys before after later kept drive none =
    kept drive (λ at it asks. none (with_keys at keys) (begins-at-with n u at states keys later it) (asks-with drive at keys asks))

-- ---- how far a session has come

-- the run of its keys and slices, where these keys and slices come behind them
pub record GoesWith (start now : List DriveView) (keys : List Key) (ran : List ℕ) (s m : State) (written : List ℕ) (more : Keys) (extra : List ℕ) : Type 0 where
  pub states : List State
  pub run : Run ran (with_keys s (keys_then (keys ∷ []) more)) states written (with_keys m more)
  pub images : KeepsImages (ComesInto (ran ++ extra) (with_keys s (keys_then (keys ∷ []) more))) states start now

-- the bytes that the slices of turns write
abbrev pub written_of : List TypedTurn → List ℕ
written_of turns = flat_map (λ turn. turn.written) turns

-- its turns at the keyboard
pub record HasTurns (place : ConsoleState) (last : SliceEnd) (first : Option (List ℕ)) (from : KeyboardState) (s m : State) (written : List ℕ) : Type 0 where
  pub turns : List TypedTurn
  pub states : List State
  pub comes : SessionSoFar (map turn_of turns) s states written m
  pub types : TypedTurns at_start [] turns s states written m
  pub kept : KeepsTypedTurns place.typed turns
  pub last_is : last_end at_start turns ≡ last
  pub rest_is : left_of [] turns ≡ place.rest
  pub wrote : written_of turns ≡ written
  pub taken : TakesLines (lines_of turns) (shown_at first turns) from place.keyboard

-- from s it has come to a state that is represented now, and the output gained what it wrote
pub record HasCome (start : List DriveView) (first : Option (List ℕ)) (place : ConsoleState) (last : SliceEnd)
    (from : KeyboardState) (s : State) (kernel : Kernel) (devices : Outside) (out : Option (List ℕ)) : Type 0 where
  pub m : State
  pub written : List ℕ
  pub told : All IsObserved devices.terms
  pub tied : Represents kernel devices m
  pub gained : out ≡ stream_with first written
  pub turns : HasTurns place last first from s m written
  pub goes : (more : Keys) (extra : List ℕ) → AreLater m.processes.tick more → GoesWith start devices.drives (keys_for 0 (kept_keys place.typed)) (kept_slices place.typed) s m written more extra

-- nothing was typed or run yet
goes-none : (start : List DriveView) (s : State) (more : Keys) (extra : List ℕ) → GoesWith start start [] [] s s [] more extra
goes-none start s more extra = record { states = []; run = (refl, refl, sym (begun more)); images = λ drive none. refl }
  where
    begun : (more : Keys) → with_keys s (keys_then ([] ∷ []) more) ≡ with_keys s more
    begun [] = ap (λ (terms : List TerminalState). record s { terms = terms }) (loaded-none s.terms)
    begun (keys ∷ more) = refl

pub comes-untyped : (first : Option (List ℕ)) (place : ConsoleState) (s : State) (kernel : Kernel) (devices : Outside)
    → IsUntyped place.typed → place.rest ≡ [] → All IsObserved devices.terms → Represents kernel devices s
    → HasCome devices.drives first place at_start place.keyboard s kernel devices first
comes-untyped first place s kernel devices untyped no_rest told tied =
    let typed : Typed = place.typed in
    let none : kept_keys typed ≡ [] = none-kept typed untyped.parts in
    record {
      m = s;
      written = [];
      told = told;
      tied = tied;
      gained = sym (appended-nothing first);
      turns = record {
        turns = [];
        states = [];
        comes = comes-first s;
        types = (refl, refl, refl);
        kept = record { keys = none; slices = untyped.slices };
        last_is = refl;
        rest_is = sym no_rest;
        wrote = refl;
        taken = takes-none place.keyboard;
      };
      goes = λ more extra later.
          subst (λ (count : ℕ). GoesWith devices.drives devices.drives (keys_for 0 (kept_keys typed)) (replicate count SLICE) s s [] more extra) (sym untyped.slices)
          (subst (λ (keys : List ScriptKey). GoesWith devices.drives devices.drives (keys_for 0 keys) [] s s [] more extra) (sym none) (goes-none devices.drives s more extra));
    }

-- ---- one turn more

pub tick-tied : (kernel : Kernel) (devices : Outside) (m : State) → Represents kernel devices m → m.processes.tick ≡ ticks kernel
tick-tied kernel devices m tied = ap (λ (processes : Processes). processes.tick) tied.processes.is

-- one turn
types-one : (last : SliceEnd) (rest : List ℕ) (m t : State) (turn : TypedTurn) (first : List State) → has_living m ≡ true
    → turn.tick ≡ m.processes.tick + 1 → TypesIf (WaitsForLine last m) rest turn.line turn.bytes
    → Slice SLICE (with_keys m (turn_of turn).load) first turn.end t → turn.written ≡ console_bytes t.terms
    → TypedTurns last rest (turn ∷ []) m first (console_bytes t.terms) (record t { terms = terminals_emptied t.terms })
types-one last rest m t turn first lives tick asked slice wrote =
    (lives, tick, asked, t, first, [], [], slice, sym (append-nil first), wrote, sym wrote ∙ sym (append-nil turn.written), (refl, refl, refl))

-- turns with one more
types-more : (last : SliceEnd) (rest : List ℕ) (turns : List TypedTurn) (s m t : State) (turn : TypedTurn)
    (states first : List State) (written : List ℕ) → TypedTurns last rest turns s states written m → has_living m ≡ true
    → turn.tick ≡ m.processes.tick + 1
    → TypesIf (WaitsForLine (last_end last turns) m) (left_of rest turns) turn.line turn.bytes
    → Slice SLICE (with_keys m (turn_of turn).load) first turn.end t → turn.written ≡ console_bytes t.terms
    → TypedTurns last rest (turns ++ turn ∷ []) s (states ++ first) (written ++ console_bytes t.terms) (record t { terms = terminals_emptied t.terms })
types-more last rest [] s m t turn states first written (none, nothing, same) lives tick asked slice wrote =
    subst (λ (s : State). TypedTurns last rest (turn ∷ []) s (states ++ first) (written ++ console_bytes t.terms) (record t { terms = terminals_emptied t.terms })) same
    (subst (λ (states : List State). TypedTurns last rest (turn ∷ []) m (states ++ first) (written ++ console_bytes t.terms) (record t { terms = terminals_emptied t.terms })) (sym none)
    (subst (λ (written : List ℕ). TypedTurns last rest (turn ∷ []) m first (written ++ console_bytes t.terms)
    (record t { terms = terminals_emptied t.terms })) (sym nothing) (types-one last rest m t turn first lives tick
    asked slice wrote)))
types-more last rest (here ∷ turns) s m t turn states first written (alive, ticked, was_asked, next, passed, later, more, ran, all, said, bytes, types) lives tick asked slice wrote = (
  alive,
  ticked,
  was_asked,
  next,
  passed,
  later ++ first,
  more ++ console_bytes t.terms,
  ran,
  ap (λ (states : List State). states ++ first) all ∙ append_assoc passed later first,
  said,
  ap (λ (written : List ℕ). written ++ console_bytes t.terms) bytes ∙ append_assoc here.written more (console_bytes t.terms),
  types-more here.end (left_after rest here.line here.bytes) turns (record next { terms = terminals_emptied next.terms }) m t turn later first more types lives tick asked slice wrote,
)

last-more : (end : SliceEnd) (turns : List TypedTurn) (turn : TypedTurn) → last_end end (turns ++ turn ∷ []) ≡ turn.end
last-more end [] turn = refl
last-more end (first ∷ turns) turn = last-more first.end turns turn

left-more : (rest : List ℕ) (turns : List TypedTurn) (turn : TypedTurn) → left_of rest (turns ++ turn ∷ []) ≡ left_after (left_of rest turns) turn.line turn.bytes
left-more rest [] turn = refl
left-more rest (first ∷ turns) turn = left-more (left_after rest first.line first.bytes) turns turn

written-more : (turns : List TypedTurn) (turn : TypedTurn) → written_of (turns ++ turn ∷ []) ≡ written_of turns ++ turn.written
written-more turns turn =
    let bytes : TypedTurn → List ℕ = λ turn. turn.written in
    flat_map-append bytes turns (turn ∷ []) ∙ ap (λ (rest : List ℕ). written_of turns ++ rest) (append-nil turn.written)

-- what was shown with the next line is what was written so far
shown-more : (out : Option (List ℕ)) (turns : List TypedTurn) (turn : TypedTurn) → shown_at out (turns ++ turn ∷ [])
    ≡ shown_at out turns ++ shown_for (stream_with out (written_of turns)) turn.line
shown-more out [] turn =
    append-nil (shown_for out turn.line) ∙ ap (λ (out : Option (List ℕ)). shown_for out turn.line) (sym (appended-nothing out))
shown-more out (here ∷ turns) turn =
    let then : Option (List ℕ) = stream_with out here.written in
    ap (λ (rest : List ℕ). shown_for out here.line ++ rest) (shown-more then turns turn)
    ∙ sym (append_assoc (shown_for out here.line) (shown_at then turns) (shown_for (stream_with then (written_of turns)) turn.line))
    ∙ ap (λ (out_then : Option (List ℕ)). (shown_for out here.line ++ shown_at then turns) ++ shown_for out_then turn.line) (appended-twice out here.written (written_of turns))

count-more : (turns : List TypedTurn) (turn : TypedTurn) → length (turns ++ turn ∷ []) ≡ length turns + 1
count-more turns turn = length-append turns (turn ∷ [])

keys-behind : (turns : List TypedTurn) (turn : TypedTurn) → flat_map turn_keys (turns ++ turn ∷ []) ≡ flat_map turn_keys turns ++ turn_keys turn
keys-behind turns turn = flat_map-append turn_keys turns (turn ∷ []) ∙ ap (λ (rest : List ScriptKey). flat_map turn_keys turns ++ rest) (append-nil (turn_keys turn))

lines-behind : (turns : List TypedTurn) (turn : TypedTurn) → lines_of (turns ++ turn ∷ []) ≡ lines_of turns ++ line_list turn.line
lines-behind turns turn =
    let lines : TypedTurn → List (List ℕ) = λ turn. line_list turn.line in
    flat_map-append lines turns (turn ∷ []) ∙ ap (λ (rest : List (List ℕ)). lines_of turns ++ rest) (append-nil (lines turn))

-- where some process lives
abbrev pub SomeLives : Kernel → Outside → Type 0
SomeLives kernel devices = (m : State) → Represents kernel devices m → living_count m.processes ≢ 0

pub get-behind : (ran extra : List ℕ) (n : ℕ) → slice_get (ran ++ n ∷ extra) (length ran) ≡ Some n
get-behind [] extra n = refl
get-behind (first ∷ ran) extra n = get-behind ran extra n

pub take-front : (ran extra : List ℕ) → take (length ran) (ran ++ extra) ≡ ran
take-front [] extra = refl
take-front (first ∷ ran) extra = ap (λ (rest : List ℕ). first ∷ rest) (take-front ran extra)

-- the slice that stopped, as it was seen from an earlier world
stops-from : (u : State) (origin before now : World) (first : Option (List ℕ)) (written : List ℕ) → origin.out ≡ first
    → before.out ≡ stream_with first written → HasNoFault origin before → StopsTurn u before now
    → StopsTurn u (record origin { out = stream_with origin.out written }) now
stops-from u origin before now first written out gained_first none stops = by stops
  where
    gained : before.out ≡ stream_with origin.out written
    gained = gained_first ∙ ap (λ (stream : Option (List ℕ)). stream_with stream written) (sym out)

    by : StopsTurn u before now → StopsTurn u (record origin { out = stream_with origin.out written }) now
    by (inl (slice, same, kept)) = inl (slice, same ∙ gained, (kept.0 ∙ none.0, kept.1 ∙ none.1, kept.2 ∙ none.2))
    by (inr breaks) = inr (subst (λ (stream : Option (List ℕ)). BreaksOutput SLICE u stream now) gained breaks)

module _ (start : List DriveView) (keys load : List Key) (ran : List ℕ) (s m : State) (written : List ℕ)
    (kernel after : Kernel) (before now : World) (tied : Represents kernel before.devices m)
    (alive : has_living m ≡ true) (goes : (more : Keys) (extra : List ℕ) → AreLater m.processes.tick more
    → GoesWith start before.devices.drives keys ran s m written more extra) (due : AreLater m.processes.tick (load ∷ []))
  where
    -- a slice was run from there, with the keys that were loaded
    module _ (end : SliceEnd) (passes : PassesSlice (with_keys m (load ∷ [])) after before now end) (count : ticks after ≡ ticks kernel + 1) where
      abbrev u : State
      u = with_keys m (load ∷ [])

      abbrev t : State
      t = passes.t

      abbrev emptied : State
      emptied = record t { terms = terminals_emptied t.terms }

      pub ticked : t.processes.tick ≡ m.processes.tick + 1
      ticked = tick-tied after now.devices emptied passes.there ∙ count ∙ ap (λ (tick : ℕ). tick + 1) (sym (tick-tied kernel before.devices m tied))

      pub goes-on : (more : Keys) (extra : List ℕ) → AreLater t.processes.tick more → GoesWith start now.devices.drives
          (keys ++ load) (ran ++ SLICE ∷ []) s emptied (written ++ console_bytes t.terms) more extra
      goes-on more extra later =
          let due_more : AreLater (m.processes.tick + 1) more = subst (λ (tick : ℕ). AreLater tick more) ticked later in
          let behind : Keys = keys_then (load ∷ []) more in
          let it : GoesWith start before.devices.drives keys ran s m written behind (SLICE ∷ extra) = goes behind
          (SLICE ∷ extra) (later-then m.processes.tick (load ∷ []) more due (later-before m.processes.tick more due_more))
          in
          let loaded : with_keys m behind ≡ with_keys u more = ap (λ (terms : List TerminalState). record m { terms = terms }) (load-then m.terms (load ∷ []) more) in
          let slice : Slice SLICE (with_keys u more) (each_with more passes.states) end (with_keys t more) = slice-with SLICE u t passes.states end more due_more passes.slice in
          let one : Run (SLICE ∷ []) (with_keys u more) (each_with more passes.states)
          (console_bytes (keys_loaded t.terms more))
          (record (with_keys t more) { terms = terminals_emptied (keys_loaded t.terms more) }) = run-slice SLICE
          (with_keys u more) (with_keys t more) (each_with more passes.states) end alive slice in
          let one_bytes : Run (SLICE ∷ []) (with_keys u more) (each_with more passes.states) (console_bytes t.terms)
          (record (with_keys t more) { terms = terminals_emptied (keys_loaded t.terms more) }) = subst
          (λ (bytes : List ℕ). Run (SLICE ∷ []) (with_keys u more) (each_with more passes.states) bytes
          (record (with_keys t more) { terms = terminals_emptied (keys_loaded t.terms more) }))
          (load-bytes t.terms more) one in
          let one_to : Run (SLICE ∷ []) (with_keys u more) (each_with more passes.states) (console_bytes t.terms)
          (with_keys emptied more) = subst (λ (terms : List TerminalState). Run (SLICE ∷ []) (with_keys u more)
          (each_with more passes.states) (console_bytes t.terms) (record t { terms = terms }))
          (load-emptied t.terms more) one_bytes in
          let from : State = with_keys s (keys_then (keys ∷ []) behind) in
          let so_far : Run ran from it.states written (with_keys u more) = subst (λ (u : State). Run ran from it.states written u) loaded it.run in
          let whole : Run (ran ++ SLICE ∷ []) from (it.states ++ each_with more passes.states)
          (written ++ console_bytes t.terms) (with_keys emptied more) = run-append ran (SLICE ∷ []) from
          (with_keys u more) (with_keys emptied more) it.states (each_with more passes.states) written
          (console_bytes t.terms) so_far one_to in
          let front : Run (take (length ran) (ran ++ SLICE ∷ extra)) from it.states written (with_keys u more) = subst
          (λ (slices : List ℕ). Run slices from it.states written (with_keys u more))
          (sym (take-front ran (SLICE ∷ extra))) so_far in
          let kept : KeepsImages (ComesInto (ran ++ SLICE ∷ extra) from) (it.states ++ each_with more passes.states)
          start now.devices.drives = images-later (ran ++ SLICE ∷ extra) (length ran) SLICE from (with_keys u more)
          it.states (each_with more passes.states) written start before.devices.drives now.devices.drives
          (get-behind ran extra SLICE) alive front it.images (keeps-with SLICE u passes.states more
          before.devices.drives now.devices.drives due_more passes.images) in
          let same : from ≡ with_keys s (keys_then ((keys ++ load) ∷ []) more) = ap (with_keys s) (then-then keys load more) in
          record {
            states = it.states ++ each_with more passes.states;
            run = subst (λ (from : State). Run (ran ++ SLICE ∷ []) from (it.states ++ each_with more passes.states) (written ++ console_bytes t.terms) (with_keys emptied more)) same whole;
            images =
                subst (λ (from : State). KeepsImages (ComesInto ((ran ++ SLICE ∷ []) ++ extra) from) (it.states ++ each_with more passes.states) start now.devices.drives) same
                (subst (λ (slices : List ℕ). KeepsImages (ComesInto slices from) (it.states ++ each_with more
                passes.states) start now.devices.drives) (sym (append_assoc ran (SLICE ∷ []) extra)) kept);
          }

    -- or it was not run to its end
    pub comes-partly : (origin : World) (first : Option (List ℕ)) → origin.out ≡ first → before.out ≡ stream_with first
        written → HasNoFault origin before → StopsTurn (with_keys m (load ∷ [])) before now
        → RunsPartly (ran ++ SLICE ∷ []) (with_keys s ((keys ++ load) ∷ [])) origin now
    comes-partly origin first out gained_first none stops =
        let it : GoesWith start before.devices.drives keys ran s m written (load ∷ []) (SLICE ∷ []) = goes (load ∷ []) (SLICE ∷ []) due in
        record {
          count = length ran;
          states = it.states;
          written = written;
          reached = with_keys m (load ∷ []);
          run = subst (λ (slices : List ℕ). Run slices (with_keys s ((keys ++ load) ∷ [])) it.states written (with_keys m (load ∷ []))) (sym (take-front ran (SLICE ∷ []))) it.run;
          n = SLICE;
          next = get-behind ran [] SLICE;
          lives = alive;
          stopped = stops-from (with_keys m (load ∷ [])) origin before now first written out gained_first none stops;
        }

-- ---- a turn at a keyboard

-- something was typed or nothing, a slice was run behind it, and the answer is how that ended
pub record TakesTurn (old new : ConsoleState) (last : SliceEnd) (kernel after : Kernel) (answer : Result SliceEnd RunFault) (before now : World) : Type 0 where
  pub line : Option (List ℕ)
  pub bytes : List ℕ
  pub types : (s : State) → Represents kernel before.devices s → TypesIf (WaitsForLine last s) old.rest line bytes
  pub left_is : new.rest ≡ left_after old.rest line bytes
  pub taken : TakesLines (line_list line) (shown_for before.out line) old.keyboard new.keyboard
  pub kept : kept_keys new.typed ≡ kept_keys old.typed ++ keys_typed (ticks kernel + 1) bytes
  pub slices : new.typed.slices ≡ old.typed.slices + 1
  pub ran : IfOk answer (λ end. (s : State) → Represents kernel before.devices s → PassesSlice (with_keys s (load_of (keys_typed (ticks kernel + 1) bytes))) after before now end)
  pub stopped : OnErr answer ((s : State) → All IsObserved before.devices.terms → Represents kernel before.devices s
      → StopsTurn (with_keys s (load_of (keys_typed (ticks kernel + 1) bytes))) before now)
  pub count : OnOk answer (ticks after ≡ ticks kernel + 1)

-- the world before, with other devices
abbrev pub with_devices : World → Outside → World
with_devices world devices = record world { devices = devices }

-- a console that has kept something else
abbrev pub with_kept : ConsoleState → Typed → ConsoleState
with_kept place typed = record place { typed = typed }

-- what was typed, and the slice behind it
module _ (old mid : ConsoleState) (new : Typed) (last : SliceEnd) (kernel after : Kernel) (before now : World)
    (loaded : Outside) (typed : TypesLine last kernel before.out old mid before.devices loaded)
    (same : kept_keys new ≡ kept_keys mid.typed) (slices : new.slices ≡ mid.typed.slices + 1) where
  abbrev load : Keys
  load = load_of (keys_typed (ticks kernel + 1) typed.bytes)

  here : (s : State) → Represents kernel before.devices s → Represents kernel loaded (with_keys s load)
  here s tied = represents-loaded kernel before.devices loaded s load typed.drives typed.loaded.terms tied

  told-loaded : All IsObserved before.devices.terms → All IsObserved loaded.terms
  told-loaded told =
      subst (λ (terms : List TerminalState). All IsObserved terms) (sym typed.loaded.terms) (observed-loaded before.devices.terms load told)

  pub turn-taken : (end : SliceEnd) → RunsTurn kernel after (Ok end) (with_devices before loaded) now → TakesTurn old (with_kept mid new) last kernel after (Ok end) before now
  turn-taken end turn = record {
    line = typed.line;
    bytes = typed.bytes;
    types = typed.types;
    left_is = typed.left_is;
    taken = typed.taken;
    kept = same ∙ typed.loaded.kept;
    slices = slices ∙ ap (λ (count : ℕ). count + 1) typed.loaded.slices;
    ran = λ s tied.
        let it = turn.ran (with_keys s load) (here s tied) in
        record {
          states = it.states;
          t = it.t;
          slice = it.slice;
          there = it.there;
          output = λ told. it.output (told-loaded told);
          images = subst (λ (views : List DriveView). KeepsImages (BeginsSlice SLICE (with_keys s load)) it.states views now.devices.drives) typed.drives it.images;
        };
    stopped = tt;
    count = turn.count;
  }

  pub turn-stopped : (fault : RunFault) → RunsTurn kernel after (Err fault) (with_devices before loaded) now → TakesTurn old (with_kept mid new) last kernel after (Err fault) before now
  turn-stopped fault turn = record {
    line = typed.line;
    bytes = typed.bytes;
    types = typed.types;
    left_is = typed.left_is;
    taken = typed.taken;
    kept = same ∙ typed.loaded.kept;
    slices = slices ∙ ap (λ (count : ℕ). count + 1) typed.loaded.slices;
    ran = tt;
    stopped = λ s told tied. turn.stopped (with_keys s load) (told-loaded told) (here s tied);
    count = tt;
  }

-- ---- what is kept

-- the slices with one more
slices-more : (old new : Typed) → new.slices ≡ old.slices + 1 → kept_slices old ++ SLICE ∷ [] ≡ kept_slices new
slices-more old new more = replicate_more old.slices SLICE ∙ ap (λ (count : ℕ). replicate count SLICE) (sym more)

-- the keys with those that were loaded
all-keys : (old new : Typed) (load : List ScriptKey) → kept_keys new ≡ kept_keys old ++ load → keys_for 0 (kept_keys old) ++ keys_for 0 load ≡ keys_for 0 (kept_keys new)
all-keys old new load kept = sym (keys-more (kept_keys old) load) ∙ ap (keys_for 0) (sym kept)

module _ (start : List DriveView) (first : Option (List ℕ)) (was place : ConsoleState) (last : SliceEnd)
    (from : KeyboardState) (s : State) (kernel after : Kernel) (before now : World) (here : HasCome start first was
    last from s kernel before.devices before.out) (lives : SomeLives kernel before.devices) where
  abbrev old : Typed
  old = was.typed

  abbrev new : Typed
  new = place.typed

  abbrev m : State
  m = here.m

  alive : has_living m ≡ true
  alive = some-living m (lives m here.tied)

  tick-here : m.processes.tick ≡ ticks kernel
  tick-here = tick-tied kernel before.devices m here.tied

  -- a turn was made
  module _ (end : SliceEnd) (made : TakesTurn was place last kernel after (Ok end) before now) where
    passes : PassesSlice (with_keys m (load_of (keys_typed (m.processes.tick + 1) made.bytes))) after before now end
    passes =
        subst (λ (tick : ℕ). PassesSlice (with_keys m (load_of (keys_typed (tick + 1) made.bytes))) after before now end) (sym tick-here) (made.ran m here.tied)

    abbrev over : State
    over = passes.t

    abbrev turn : TypedTurn
    turn = record {
      tick = m.processes.tick + 1;
      line = made.line;
      bytes = made.bytes;
      end = end;
      written = console_bytes over.terms;
    }

    due : AreLater m.processes.tick (load_of (turn_keys turn))
    due = load-later m.processes.tick (turn_keys turn) (all-typed (m.processes.tick + 1) made.bytes)

    kept : kept_keys new ≡ kept_keys old ++ turn_keys turn
    kept = made.kept ∙ ap (λ (tick : ℕ). kept_keys old ++ keys_typed (tick + 1) made.bytes) (sym tick-here)

    abbrev bare : State
    bare = record over { terms = terminals_emptied over.terms }

    ticked-then : over.processes.tick ≡ m.processes.tick + 1
    ticked-then = ticked start (keys_for 0 (kept_keys old)) (keys_for 0 (turn_keys turn)) (kept_slices old) s m here.written kernel after before now here.tied alive here.goes due end passes made.count

    turns-on : HasTurns place end first from s bare (here.written ++ console_bytes over.terms)
    turns-on =
        let it : HasTurns was last first from s m here.written = here.turns in
        let shown : shown_at first (it.turns ++ turn ∷ []) ≡ shown_at first it.turns ++ shown_for before.out made.line =
        shown-more first it.turns turn
        ∙ ap (λ (written : List ℕ). shown_at first it.turns ++ shown_for (stream_with first written) made.line) it.wrote
        ∙ ap (λ (out : Option (List ℕ)). shown_at first it.turns ++ shown_for out made.line) (sym here.gained) in
        record {
          turns = it.turns ++ turn ∷ [];
          states = it.states ++ passes.states;
          comes =
              subst (λ (turns : List SessionTurn). SessionSoFar turns s (it.states ++ passes.states) (here.written ++ console_bytes over.terms) bare) (sym (map-append turn_of it.turns (turn ∷ [])))
              (comes-on (map turn_of it.turns) (turn_of turn) s m over it.states passes.states here.written end it.comes alive due ticked-then passes.slice);
          types =
              types-more at_start [] it.turns s m over turn it.states passes.states here.written it.types alive refl
              (subst (λ (end : SliceEnd). TypesIf (WaitsForLine end m) (left_of [] it.turns) made.line made.bytes) (sym it.last_is)
              (subst (λ (rest : List ℕ). TypesIf (WaitsForLine last m) rest made.line made.bytes) (sym it.rest_is) (made.types m here.tied))) passes.slice refl;
          kept = record {
            keys = kept ∙ ap (λ (keys : List ScriptKey). keys ++ turn_keys turn) it.kept.keys ∙ sym (keys-behind it.turns turn);
            slices = made.slices ∙ ap (λ (count : ℕ). count + 1) it.kept.slices ∙ sym (count-more it.turns turn);
          };
          last_is = last-more at_start it.turns turn;
          rest_is =
              left-more [] it.turns turn
              ∙ ap (λ (rest : List ℕ). left_after rest made.line made.bytes) it.rest_is
              ∙ sym made.left_is;
          wrote = written-more it.turns turn ∙ ap (λ (written : List ℕ). written ++ console_bytes over.terms) it.wrote;
          taken =
              subst (λ (lines : List (List ℕ)). TakesLines lines (shown_at first (it.turns ++ turn ∷ [])) from place.keyboard) (sym (lines-behind it.turns turn))
              (subst (λ (shown : List ℕ). TakesLines (lines_of it.turns ++ line_list made.line) shown from place.keyboard) (sym shown)
              (takes-then (lines_of it.turns) (line_list made.line) (shown_at first it.turns) (shown_for before.out made.line) from was.keyboard place.keyboard it.taken made.taken));
        }

    goes-then : (more : Keys) (extra : List ℕ) → AreLater over.processes.tick more → GoesWith start now.devices.drives
        (keys_for 0 (kept_keys new)) (kept_slices new) s bare (here.written ++ console_bytes over.terms) more extra
    goes-then more extra later =
        let gone : GoesWith start now.devices.drives (keys_for 0 (kept_keys old) ++ keys_for 0 (turn_keys turn))
        (kept_slices old ++ SLICE ∷ []) s bare (here.written ++ console_bytes over.terms) more extra = goes-on
        start (keys_for 0 (kept_keys old)) (keys_for 0 (turn_keys turn)) (kept_slices old) s m here.written kernel
        after before now here.tied alive here.goes due end passes made.count more extra later in
        subst (λ (slices : List ℕ). GoesWith start now.devices.drives (keys_for 0 (kept_keys new)) slices s bare
        (here.written ++ console_bytes over.terms) more extra) (slices-more old new made.slices)
        (subst (λ (keys : List Key). GoesWith start now.devices.drives keys (kept_slices old ++ SLICE ∷ []) s bare
        (here.written ++ console_bytes over.terms) more extra) (all-keys old new (turn_keys turn) kept) gone)

    pub comes-typed : HasCome start first place end from s after now.devices now.out
    comes-typed =
        let was : m.terms ≡ before.devices.terms = ap (λ (s : State). s.terms) here.tied.is in
        let told_m : All IsObserved (with_keys m (load_of (turn_keys turn))).terms = observed-loaded m.terms
        (load_of (turn_keys turn)) (subst (λ (terms : List TerminalState). All IsObserved terms) (sym was)
        here.told) in
        let told_t : All IsObserved over.terms = observed-slice SLICE (with_keys m (load_of (turn_keys turn))) passes.states end over passes.slice told_m in
        let is : bare.terms ≡ now.devices.terms = ap (λ (s : State). s.terms) passes.there.is in
        record {
          m = bare;
          written = here.written ++ console_bytes over.terms;
          told = subst (λ (terms : List TerminalState). All IsObserved terms) is (observed-emptied over.terms told_t);
          tied = passes.there;
          gained = passes.output here.told ∙ ap (λ (stream : Option (List ℕ)). stream_with stream
              (console_bytes over.terms)) here.gained ∙ appended-twice first here.written (console_bytes over.terms);
          turns = turns-on;
          goes = goes-then;
        }

  -- or it stopped
  pub part-typed : (fault : RunFault) (origin : World) → origin.out ≡ first → HasNoFault origin before
      → TakesTurn was place last kernel after (Err fault) before now → HasPartOfSession s new from place.keyboard origin now
  part-typed fault origin out none made =
      let it : HasTurns was last first from s m here.written = here.turns in
      let load : List ScriptKey = keys_typed (m.processes.tick + 1) made.bytes in
      let kept : kept_keys new ≡ kept_keys old ++ load = made.kept ∙ ap (λ (tick : ℕ). kept_keys old ++ keys_typed (tick + 1) made.bytes) (sym tick-here) in
      let gone : GoesWith start before.devices.drives (keys_for 0 (kept_keys old)) (kept_slices old) s m here.written
      (load_of load) (SLICE ∷ []) = here.goes (load_of load) (SLICE ∷ []) (load-later m.processes.tick load (all-typed (m.processes.tick + 1) made.bytes)) in
      let ran : Run (kept_slices old) (with_keys s (load_of (kept_keys new))) gone.states here.written (with_bytes m made.bytes) = subst
      (λ (keys : List Key). Run (kept_slices old) (with_keys s (keys ∷ [])) gone.states here.written (with_bytes m made.bytes)) (all-keys old new load kept) gone.run in
      let stops : StopsTurn (with_bytes m made.bytes) before now = subst (λ (tick : ℕ). StopsTurn (with_keys m (load_of (keys_typed (tick + 1) made.bytes))) before now)
      (sym tick-here) (made.stopped m here.told here.tied) in
      let taken : TakesLines (lines_of it.turns ++ line_list made.line) (shown_at first it.turns ++ shown_for before.out made.line) from place.keyboard = takes-then
      (lines_of it.turns) (line_list made.line) (shown_at first it.turns) (shown_for before.out made.line) from was.keyboard place.keyboard it.taken made.taken in
      record {
        turns = it.turns;
        states = it.states;
        written = here.written;
        m = m;
        turns_typed = it.types;
        lives = alive;
        line = made.line;
        bytes = made.bytes;
        types =
            subst (λ (end : SliceEnd). TypesIf (WaitsForLine end m) (left_of [] it.turns) made.line made.bytes) (sym it.last_is)
            (subst (λ (rest : List ℕ). TypesIf (WaitsForLine last m) rest made.line made.bytes) (sym it.rest_is) (made.types m here.tied));
        keys = kept ∙ ap (λ (keys : List ScriptKey). keys ++ load) it.kept.keys;
        slices = made.slices ∙ ap (λ (count : ℕ). count + 1) it.kept.slices;
        through = gone.states;
        run =
            subst (λ (count : ℕ). Run (replicate count SLICE) (with_keys s (load_of (kept_keys new))) gone.states here.written (with_bytes m made.bytes)) it.kept.slices ran;
        stopped = stops-from (with_bytes m made.bytes) origin before now first here.written out here.gained none stops;
        taken =
            subst (λ (first : Option (List ℕ)). TakesLines (lines_of it.turns ++ line_list made.line)
            (shown_at first it.turns ++ shown_for (stream_with first here.written) made.line) from place.keyboard) (sym out)
            (subst (λ (out : Option (List ℕ)). TakesLines (lines_of it.turns ++ line_list made.line) (shown_at first it.turns ++ shown_for out made.line) from place.keyboard) here.gained taken);
      }

  pub partly-typed : (fault : RunFault) (origin : World) → origin.out ≡ first → HasNoFault origin before
      → TakesTurn was place last kernel after (Err fault) before now → RunsPartly (kept_slices new)
      (with_keys s (load_of (kept_keys new))) origin now
  partly-typed fault origin out none made =
      let load : List ScriptKey = keys_typed (ticks kernel + 1) made.bytes in
      let due : AreLater m.processes.tick (load_of load) =
      subst (λ (tick : ℕ). AreLater tick (load_of load)) (sym tick-here) (load-later (ticks kernel) load (all-typed (ticks kernel + 1) made.bytes)) in
      let part : RunsPartly (kept_slices old ++ SLICE ∷ [])
      (with_keys s ((keys_for 0 (kept_keys old) ++ keys_for 0 load) ∷ [])) origin now = comes-partly start
      (keys_for 0 (kept_keys old)) (keys_for 0 load) (kept_slices old) s m here.written kernel after before now
      here.tied alive here.goes due origin first out here.gained none (made.stopped m here.told here.tied) in
      subst (λ (slices : List ℕ). RunsPartly slices (with_keys s (load_of (kept_keys new))) origin now) (slices-more old new made.slices)
      (subst (λ (keys : List Key). RunsPartly (kept_slices old ++ SLICE ∷ []) (with_keys s (keys ∷ [])) origin now) (all-keys old new load made.kept) part)
