-- From what a session leaves to what comes of its machine.
use Rattle.std.proofs.Common.{◌≡◌, ◌≢◌, ℕ, zero, suc, Bool, true, false, Some, Err, List, [], ◌∷◌, ◌++◌, length, take, slice_get, refl, sym, ap, ◌∙◌, subst, All, arith, inl}
use Rattle.std.specs.Prelude.{replicate}
use Rattle.std.proofs.lemmas.List.{replicate_more}
use Rattle.std.proofs.lemmas.List.Elements.{All-append, All-nil}
use Rattle.os9_outer.specs.TerminalState.{TerminalState}
use Rattle.boot_run.specs.Loaded.{HasNoKeys, loaded}
use Rattle.lock_model.specs.declared.history.Entry.{Entry}
use Rattle.file_rules.specs.Files.{DriveState, KeepsDriveFaults}
use Rattle.file_drives.specs.Drives.{drive_states}
use Rattle.cold_start.specs.Start.{StartsDrives}
use Rattle.machine_model.specs.Living.{living_count}
use Rattle.machine_model.specs.declared.ends.BootFault.TheVariants.{OutOfMemory, BadModule, NoFirst, TooLarge}
use Rattle.machine_model.specs.Run.{Run}
use Rattle.machine_model.specs.Start.{Starts}
use Rattle.machine_model.specs.State.{State, has_living}
use Rattle.run_laws.specs.Session.{keys_loaded, with_keys}
use Rattle.os9_kernel.specs.Outside.{Outside}
use Rattle.os9_kernel.specs.Starting.{drive_fault}
use Rattle.os9_kernel.specs.Tie.{Represents, RepresentsSomeState}
use Rattle.os9_kernel.specs.declared.kernel.Kernel.{Kernel}
use Rattle.os9_kernel.specs.declared.new.StartError.{StartError}
use Rattle.os9_kernel.specs.declared.new.StartError.TheVariants.{Boot, Drive}
use Rattle.os9_kernel.proofs.Holding.{holds-volumes}
use Rattle.boot_run.specs.Console.{IsObserved}
use Rattle.boot_run.specs.Machine.{IsUnrun, RunsFirst, Setup, StartsLoaded, boot_of}
use Rattle.boot_run.specs.RunEnd.{start_end}
use Rattle.boot_run.specs.World.{World}
use Rattle.boot_run.specs.declared.machine.RunEnd.{RunEnd}
use Rattle.boot_run.specs.declared.machine.RunEnd.TheVariants.{Ended, Living}
use Rattle.boot_run.proofs.MachineLemmas.{Begins, boot_with, media-kept, with_devices}
use Rattle.boot_run.proofs.RunLemmas.{none-living, some-living, terms-standing}
use Rattle.script_text.specs.declared.script.ScriptKey.{ScriptKey}
use Rattle.console_run.specs.Kept.{load_of}
use Rattle.console_run.specs.Keyboard.{KeyboardState}
use Rattle.console_run.specs.Session.{AsksKeyboard, HasPartOfSession, IsPartTo, IsSessionTo, LeadsSession, RunsSession, StopsConsoleSession, StopsWithin, untyped, with_bytes}
use Rattle.console_run.specs.TypedTurn.{TypedTurn}
use Rattle.console_run.specs.Typed.{kept_keys, kept_slices, keys_of_parts, keys_typed, part_bytes}
use Rattle.console_run.specs.declared.typed.TheConstants.{SLICE}
use Rattle.console_run.specs.declared.typed.Typed.{Typed}
use Rattle.console_run.specs.declared.typed.TypedPart.{TypedPart}
use Rattle.console_run.specs.declared.session.SessionEnd.TheVariants.{LineLost, OfRun}
use Rattle.console_run.specs.declared.turns.Stop.{Stop}
use Rattle.console_run.proofs.KeyLemmas.{IsOfTerm, all-typed, loaded-none, loaded-typed, of-term}
use Rattle.console_run.proofs.TurnLemmas.{get-behind, take-front}

-- no machine ran, so there was no session
pub never-began : (comes : List TypedTurn → State → Type 0) (error : StartError) (from to : KeyboardState) (before after : World) → IsSessionTo comes (OfRun (start_end error)) from to before after
never-began comes (Boot OutOfMemory) from to before after = tt
never-began comes (Boot (BadModule at error)) from to before after = tt
never-began comes (Boot NoFirst) from to before after = tt
never-began comes (Boot TooLarge) from to before after = tt
never-began comes (Drive drive number) from to before after = tt

pub never-part : (within : Type 0) (images : ℕ) (world : World) (devices : Outside) (error : StartError)
    (keyboard : KeyboardState) → StartsDrives {A = Kernel} images (drive_fault (Err error)) world.devices.drives
    devices.drives → length devices.drives ≡ length world.devices.drives → devices.terms ≡ world.devices.terms
    → IsPartTo (IsUnrun world (with_devices world devices)) within (OfRun (start_end error)) keyboard keyboard
never-part within images world devices (Boot OutOfMemory) keyboard moved count terms =
    inl (record { out = refl; terminals = terms; none_failed = moved.moves; media_kept = media-kept world.devices.drives devices.drives count moved.media }, refl)
never-part within images world devices (Boot (BadModule at error)) keyboard moved count terms = tt
never-part within images world devices (Boot NoFirst) keyboard moved count terms = tt
never-part within images world devices (Boot TooLarge) keyboard moved count terms = tt
never-part within images world devices (Drive drive number) keyboard moved count terms = tt

-- it came to its end
pub whole-part : (unrun within : Type 0) (living ticks : ℕ) (end : RunEnd) (from to : KeyboardState)
    → (living ≡ 0 → end ≡ Ended ticks) → (living ≢ 0 → end ≡ Living ticks) → IsPartTo unrun within (OfRun end) from to
whole-part unrun within zero ticks end from to idle lives = subst (λ (end : RunEnd). IsPartTo unrun within (OfRun end) from to) (sym (idle refl)) tt
whole-part unrun within (suc living) ticks end from to idle lives =
    subst (λ (end : RunEnd). IsPartTo unrun within (OfRun end) from to) (sym (lives (λ e. omega (arith, e)))) tt

-- a run that came to its end did not fail at the output
pub not-output : (living ticks : ℕ) (end : RunEnd) → (living ≡ 0 → end ≡ Ended ticks) → (living ≢ 0 → end ≡ Living ticks) → end ≢ RunEnd.OutputFailed
not-output zero ticks end idle lives is =
    let never : Ended ticks ≡ RunEnd.OutputFailed = sym (idle refl) ∙ is in
    absurd (cc never)
not-output (suc living) ticks end idle lives is =
    let never : Living ticks ≡ RunEnd.OutputFailed = sym (lives (λ e. omega (arith, e))) ∙ is in
    absurd (cc never)

-- the keyboard was not asked
pub asks-none : (error : StartError) (keyboard : KeyboardState) → AsksKeyboard (OfRun (start_end error)) keyboard keyboard
asks-none (Boot OutOfMemory) keyboard = tt
asks-none (Boot (BadModule at error)) keyboard = refl
asks-none (Boot NoFirst) keyboard = refl
asks-none (Boot TooLarge) keyboard = refl
asks-none (Drive drive number) keyboard = refl

-- or it may have been
pub asks-over : (living ticks : ℕ) (end : RunEnd) (from to : KeyboardState) → (living ≡ 0 → end ≡ Ended ticks) → (living ≢ 0 → end ≡ Living ticks) → AsksKeyboard (OfRun end) from to
asks-over zero ticks end from to idle lives = subst (λ (end : RunEnd). AsksKeyboard (OfRun end) from to) (sym (idle refl)) tt
asks-over (suc living) ticks end from to idle lives =
    subst (λ (end : RunEnd). AsksKeyboard (OfRun end) from to) (sym (lives (λ e. omega (arith, e)))) tt

-- a kernel that a start made stands
pub stands-begun : (setup : Setup) (kernel : Kernel) (started : Outside) → Begins setup kernel started → RepresentsSomeState kernel started
stands-begun setup kernel started (s, starts, tied) = (s, tied)

-- no keys are loaded
loaded-nothing : (terms : List TerminalState) → All HasNoKeys terms → loaded [] terms ≡ terms
loaded-nothing terms none = loaded-typed [] terms (All-nil IsOfTerm) none ∙ loaded-none terms

-- ---- a part of a session is one of a run

-- every key that is kept is one of TERM
all-kept : (parts : List TypedPart) → All IsOfTerm (keys_of_parts parts)
all-kept [] = All-nil IsOfTerm
all-kept (part ∷ parts) =
    let keys : List ScriptKey = keys_typed part.tick (part_bytes part) in
    All-append IsOfTerm keys (keys_of_parts parts) (of-term part.tick keys (all-typed part.tick (part_bytes part))) (all-kept parts)

-- the machine that what is kept of a session drives
abbrev pub driven : Setup → Typed → Setup
driven setup typed = record setup { keys = kept_keys typed; slices = kept_slices typed }

-- it starts with all of its keys loaded
starts-driven : (setup : Setup) (typed : Typed) (before : World) (s : State) → All HasNoKeys before.devices.terms
    → StartsLoaded (untyped (driven setup typed)) before s
    → StartsLoaded (driven setup typed) before (with_keys s (load_of (kept_keys typed)))
starts-driven setup typed before s none it =
    let keys : List ScriptKey = kept_keys typed in
    let same : keys_loaded (loaded [] before.devices.terms) (load_of keys) ≡ loaded keys before.devices.terms =
    ap (λ (terms : List TerminalState). keys_loaded terms (load_of keys)) (loaded-nothing before.devices.terms none)
    ∙ sym (loaded-typed keys before.devices.terms (all-kept typed.parts.items) none) in
    let starts : Starts (record (boot_of (driven setup typed) before) { terms = keys_loaded (loaded [] before.devices.terms) (load_of keys) }) (with_keys s (load_of keys)) = record {
      entries = it.entries;
      number = it.number;
      entry = it.entry;
      memory = it.memory;
      has = it.has;
      begins = it.begins;
      files = it.files;
      mounted = it.mounted;
      is = ap (λ (s : State). with_keys s (load_of keys)) it.is;
    } in
    subst (λ (terms : List TerminalState). Starts (record (boot_of (driven setup typed) before) { terms = terms }) (with_keys s (load_of keys))) same starts

-- what was run of its slices are the turns
pub runs-first : (setup : Setup) (typed : Typed) (from to : KeyboardState) (before after : World)
    → All HasNoKeys before.devices.terms → StopsWithin (driven setup typed) typed from to before after
    → RunsFirst (driven setup typed) before after
runs-first setup typed from to before after none it =
    let part : HasPartOfSession it.s typed from to before after = it.part in
    let ran : List ℕ = replicate (length part.turns) SLICE in
    let reached : State = with_bytes part.m part.bytes in
    let start : State = with_keys it.s (load_of (kept_keys typed)) in
    let all : ran ++ SLICE ∷ [] ≡ kept_slices typed = replicate_more (length part.turns) SLICE ∙ ap (λ (count : ℕ). replicate count SLICE) (sym part.slices) in
    record {
      s = start;
      starts = starts-driven setup typed before it.s none it.starts;
      partly = record {
        count = length ran;
        states = part.through;
        written = part.written;
        reached = reached;
        run =
            subst (λ (slices : List ℕ). Run (take (length ran) slices) start part.through part.written reached) all
            (subst (λ (slices : List ℕ). Run slices start part.through part.written reached) (sym (take-front ran (SLICE ∷ []))) part.run);
        n = SLICE;
        next = subst (λ (slices : List ℕ). slice_get slices (length ran) ≡ Some SLICE) all (get-behind ran [] SLICE);
        lives = part.lives;
        stopped = part.stopped;
      };
    }

-- a part of a session leaves the same, whatever the devices were
pub part-from : (s : State) (typed : Typed) (from to : KeyboardState) (before after : World) (devices : Outside)
    → HasPartOfSession s typed from to (with_devices before devices) after → HasPartOfSession s typed from to before after
part-from s typed from to before after devices it = record {
  turns = it.turns;
  states = it.states;
  written = it.written;
  m = it.m;
  turns_typed = it.turns_typed;
  lives = it.lives;
  line = it.line;
  bytes = it.bytes;
  types = it.types;
  keys = it.keys;
  slices = it.slices;
  through = it.through;
  run = it.run;
  stopped = it.stopped;
  taken = it.taken;
}

-- a kernel stood where nothing was typed yet, and there was a session
module _ (setup : Setup) (typed : Typed) (from to : KeyboardState) (kernel later : Kernel) (before after : World)
    (started : Outside) (unloaded : All HasNoKeys before.devices.terms)
    (none_failed : KeepsDriveFaults (drive_states before.devices.drives) (drive_states started.drives))
    (terms : started.terms ≡ before.devices.terms) (begins : Begins setup kernel started) where
  abbrev began : World
  began = with_devices before started

  starts-here : StartsLoaded (untyped setup) before begins.0
  starts-here =
      let same : started.terms ≡ loaded [] before.devices.terms = terms ∙ sym (loaded-nothing before.devices.terms unloaded) in
      subst (λ (drives : List DriveState). Starts (boot_with (untyped setup) drives (loaded [] before.devices.terms)) begins.0) none_failed
      (subst (λ (terms : List TerminalState). Starts (boot_with (untyped setup) (drive_states started.drives) terms) begins.0) same begins.1)

  -- it was stopped within a slice
  pub session-part : ((s : State) → All IsObserved started.terms → Represents kernel started s → HasPartOfSession s typed from to
      began after) → All IsObserved before.devices.terms → StopsWithin setup typed from to before after
  session-part part told =
      let told_started : All IsObserved started.terms = subst (λ (terms : List TerminalState). All IsObserved terms) (sym terms) told in
      record { s = begins.0; starts = starts-here; part = part-from begins.0 typed from to before after started (part begins.0 told_started begins.2) }

  module _ (history : List Entry) (entered : (t : State) → Represents later after.devices t → history ≡ t.files.records.history) where
    -- it stopped
    pub session-stopped : (stop : Stop) (lives : Bool) → ((s : State) → All IsObserved started.terms → Represents kernel
        started s → RunsSession stop s later typed from to began after) → ((t : State) → Represents later after.devices
        t → has_living t ≡ lives) → All IsObserved before.devices.terms
        → StopsConsoleSession (LeadsSession setup typed history before after) lives stop from to before after
    session-stopped stop lives session living told =
        let told_started : All IsObserved started.terms = subst (λ (terms : List TerminalState). All IsObserved terms) (sym terms) told in
        let it : RunsSession stop begins.0 later typed from to began after = session begins.0 told_started begins.2 in
        record {
          turns = it.turns;
          t = it.t;
          came = record {
            s = begins.0;
            starts = starts-here;
            session = it.session;
            terminals = terms-standing later after.devices it.t it.there;
            drives = holds-volumes later after.devices it.t it.there;
            recorded = entered it.t it.there;
          };
          living = living it.t it.there;
          stops = it.stops;
        }

    -- to its end
    pub session-over : (living ticks : ℕ) (end : RunEnd) → ((s : State) → All IsObserved started.terms
        → Represents kernel started s → RunsSession Stop.Over s later typed from to began after)
        → ((t : State) → Represents later after.devices t → living ≡ living_count t.processes)
        → (living ≡ 0 → end ≡ Ended ticks) → (living ≢ 0 → end ≡ Living ticks)
        → All IsObserved before.devices.terms → IsSessionTo (LeadsSession setup typed history before after) (OfRun end) from to before after
    session-over zero ticks end session alive idle lives told =
        subst (λ (end : RunEnd). IsSessionTo (LeadsSession setup typed history before after) (OfRun end) from to before after)
        (sym (idle refl)) (session-stopped Stop.Over false session (λ t there. none-living t (sym (alive t there)))
        told)
    session-over (suc living) ticks end session alive idle lives told =
        subst (λ (end : RunEnd). IsSessionTo (LeadsSession setup typed history before after) (OfRun end) from to before after) (sym (lives (λ e. omega (arith, e))))
        (session-stopped Stop.Over true session (λ t there. some-living t (λ none. omega (arith, alive t there, none))) told)

    -- to a line for which memory was out; a process lives then
    pub session-lost : (end : RunEnd) → ((s : State) → All IsObserved started.terms → Represents kernel started s
        → RunsSession Stop.LineLost s later typed from to began after) → All IsObserved before.devices.terms
        → IsSessionTo (LeadsSession setup typed history before after) (LineLost end) from to before after
    session-lost end session told =
        let told_started : All IsObserved started.terms = subst (λ (terms : List TerminalState). All IsObserved terms) (sym terms) told in
        let it : RunsSession Stop.LineLost begins.0 later typed from to began after = session begins.0 told_started begins.2 in
        record {
          turns = it.turns;
          t = it.t;
          came = record {
            s = begins.0;
            starts = starts-here;
            session = it.session;
            terminals = terms-standing later after.devices it.t it.there;
            drives = holds-volumes later after.devices it.t it.there;
            recorded = entered it.t it.there;
          };
          living = it.stops.lives;
          stops = it.stops;
        }
