-- What a session leaves, as the run of what it keeps.
use Rattle.std.proofs.Common.{◌≡◌, ℕ, true, Option, List, [], length, map, refl, sym, ap, ◌∙◌, subst, All, append-nil, inl, inr}
use Rattle.std.specs.Prelude.{Result, Ok, Err, replicate}
use Rattle.os9_outer.specs.Stream.{stream_with}
use Rattle.os9_outer.specs.TerminalState.{TerminalState}
use Rattle.boot_run.specs.Loaded.{HasNoKeys, keys_for}
use Rattle.machine_model.specs.declared.ends.SliceEnd.{SliceEnd}
use Rattle.machine_model.specs.Run.{Run}
use Rattle.machine_model.specs.State.{State, has_living}
use Rattle.run_laws.specs.Session.{keys_loaded, with_keys}
use Rattle.run_laws.proofs.Onward.{comes-last}
use Rattle.os9_kernel.specs.Changes.{KeepsImages}
use Rattle.os9_kernel.specs.Outside.{Outside}
use Rattle.os9_kernel.specs.Tie.{Represents}
use Rattle.os9_kernel.specs.declared.kernel.Kernel.{Kernel}
use Rattle.boot_run.specs.Console.{IsObserved}
use Rattle.boot_run.specs.RunFault.{OnOutputFault, UnlessOutputFault}
use Rattle.boot_run.specs.Slices.{ComesInto, RunsPartly}
use Rattle.boot_run.specs.World.{World, FailsToWrite, HasNoFault}
use Rattle.boot_run.specs.declared.run.RunFault.{RunFault}
use Rattle.boot_run.specs.declared.run.RunFault.TheVariants.{Output, NoMemory}
use Rattle.console_run.specs.Kept.{IsKept, load_of, with_typed}
use Rattle.console_run.specs.Typed.{kept_keys, kept_slices}
use Rattle.console_run.specs.declared.typed.TheConstants.{SLICE}
use Rattle.script_text.specs.declared.script.ScriptKey.{ScriptKey}
use Rattle.file_drives.specs.Drives.{DriveView}
use Rattle.console_run.specs.Keyboard.{KeyboardState, line_list, shown_for}
use Rattle.console_run.specs.Lines.{LacksKeys}
use Rattle.console_run.specs.Session.{RunsSession, StopsFor, at_start}
use Rattle.console_run.specs.Turn.{AllWait, ConsoleState, LosesLine, MeetsEnd}
use Rattle.console_run.specs.TypedTurn.{last_end, lines_of, shown_at, turn_of}
use Rattle.console_run.specs.Waiting.{IsRunOver, WaitsForLine}
use Rattle.console_run.specs.declared.typed.Typed.{Typed}
use Rattle.console_run.specs.declared.turns.Stop.{Stop}
use Rattle.console_run.proofs.KeyLemmas.{IsOfTerm, count-loaded, keys-still, loaded-typed}
use Rattle.console_run.proofs.LineLemmas.{takes-then}
use Rattle.console_run.proofs.LoadLemmas.{represents-with, unladen}
use Rattle.console_run.proofs.TurnLemmas.{GoesWith, HasCome, HasTurns, with_kept}

-- a session has come so far from where this kernel stood
abbrev pub ComesFrom : ConsoleState → SliceEnd → KeyboardState → Kernel → Kernel → World → World → Type 0
ComesFrom place last from kernel later before after =
    (s : State) → All IsObserved before.devices.terms → Represents kernel before.devices s
    → HasCome before.devices.drives before.out place last from s later after.devices after.out

-- what is kept is as it was
pub of-term-still : (typed now : Typed) → IsKept typed now → All IsOfTerm (kept_keys typed) → All IsOfTerm (kept_keys now)
of-term-still typed now same all = subst (λ (keys : List ScriptKey). All IsOfTerm keys) (sym (keys-still typed now same)) all

has-still : (start : List DriveView) (first : Option (List ℕ)) (place : ConsoleState) (now : Typed) (last : SliceEnd)
    (from : KeyboardState) (s : State) (kernel : Kernel) (devices : Outside) (out : Option (List ℕ))
    → IsKept place.typed now → HasCome start first place last from s kernel devices out
    → HasCome start first (with_kept place now) last from s kernel devices out
has-still start first place now last from s kernel devices out same come = record {
  m = come.m;
  written = come.written;
  told = come.told;
  tied = come.tied;
  gained = come.gained;
  turns = record {
    turns = come.turns.turns;
    states = come.turns.states;
    comes = come.turns.comes;
    types = come.turns.types;
    kept = record { keys = keys-still place.typed now same ∙ come.turns.kept.keys; slices = same.slices ∙ come.turns.kept.slices };
    last_is = come.turns.last_is;
    rest_is = come.turns.rest_is;
    wrote = come.turns.wrote;
    taken = come.turns.taken;
  };
  goes = λ more extra later.
      subst (λ (count : ℕ). GoesWith start devices.drives (keys_for 0 (kept_keys now)) (replicate count SLICE) s come.m come.written more extra) (sym same.slices)
      (subst (λ (keys : List ScriptKey). GoesWith start devices.drives (keys_for 0 keys) (kept_slices place.typed) s come.m
      come.written more extra) (sym (keys-still place.typed now same)) (come.goes more extra later));
}

-- and so is what is seen of the devices
pub comes-still : (place : ConsoleState) (now : Typed) (last : SliceEnd) (from : KeyboardState) (kernel later : Kernel)
    (before mid : World) (devices : Outside) → IsKept place.typed now → devices ≡ mid.devices → ComesFrom place last
    from kernel later before mid → ComesFrom (with_kept place now) last from kernel later before
    (record mid { devices = devices })
comes-still place now last from kernel later before mid devices same seen comes =
    subst (λ (devices : Outside). ComesFrom (with_kept place now) last from kernel later before (record mid { devices = devices })) (sym seen)
    (λ s told tied. has-still before.devices.drives before.out place now last from s later mid.devices mid.out same (comes s told tied))

-- every process waits where nothing was typed
pub waits-there : (last : SliceEnd) (kernel : Kernel) (before after : Outside) → AllWait last kernel before
    → after ≡ before → (m : State) → Represents kernel after m → WaitsForLine last m
waits-there last kernel before after waits same m tied = waits m (subst (λ (devices : Outside). Represents kernel devices m) same tied)

-- its slices are a run, of terminals that were loaded with its keys before it
abbrev pub RunsAll : Typed → Kernel → World → World → State → Type 0
RunsAll typed later before after from =
    (states : List State) × (written : List ℕ) × (t : State) × Run (kept_slices typed) from states written t × Represents later after.devices t × (after.out ≡ stream_with before.out written)
    × KeepsImages (ComesInto (kept_slices typed) from) states before.devices.drives after.devices.drives

-- a part of a run leaves the same, whatever the devices were
partly-from : (slices : List ℕ) (s : State) (before after : World) (devices : Outside) → RunsPartly slices s before after → RunsPartly slices s (record before { devices = devices }) after
partly-from slices s before after devices ran = record {
  count = ran.count;
  states = ran.states;
  written = ran.written;
  reached = ran.reached;
  run = ran.run;
  n = ran.n;
  next = ran.next;
  lives = ran.lives;
  stopped = ran.stopped;
}

-- a kernel stood, at terminals without keys; these keys of TERM were typed later
module _ (place : ConsoleState) (last : SliceEnd) (from : KeyboardState) (kernel later : Kernel)
    (before after : World) (of_term : All IsOfTerm (kept_keys place.typed))
    (unloaded : All HasNoKeys before.devices.terms) where
  abbrev typed : Typed
  typed = place.typed

  abbrev laden : World
  laden = with_typed (kept_keys typed) before

  laden-is : laden.devices.terms ≡ keys_loaded before.devices.terms (load_of (kept_keys typed))
  laden-is = loaded-typed (kept_keys typed) before.devices.terms of_term unloaded

  laden-count : length laden.devices.terms ≡ length before.devices.terms
  laden-count = ap length laden-is ∙ count-loaded before.devices.terms (load_of (kept_keys typed))

  observed-before : All IsObserved laden.devices.terms → All IsObserved before.devices.terms
  observed-before told = unladen before.devices.terms (load_of (kept_keys typed)) (subst (λ (terms : List TerminalState). All IsObserved terms) laden-is told)

  -- the state that it would stand for with those keys, and the one for which it stood
  module _ (laden_state : State) (told : All IsObserved laden.devices.terms) (tied : Represents kernel laden.devices laden_state) where
    abbrev s : State
    s = record laden_state { terms = before.devices.terms }

    stood : Represents kernel before.devices s
    stood = represents-with kernel laden.devices before.devices laden_state refl (sym laden-count) tied

    loads : with_keys s (load_of (kept_keys typed)) ≡ laden_state
    loads =
        let there : laden_state.terms ≡ laden.devices.terms = ap (λ (s : State). s.terms) tied.is in
        λ i. record laden_state { terms = sym (there ∙ laden-is) i }

    -- it was the run of these slices
    pub runs-all : ComesFrom place last from kernel later before after → RunsAll typed later before after laden_state
    runs-all comes =
        let come : HasCome before.devices.drives before.out place last from s later after.devices after.out = comes s (observed-before told) stood in
        let it : GoesWith before.devices.drives after.devices.drives (keys_for 0 (kept_keys typed)) (kept_slices typed) s come.m come.written [] [] = come.goes [] [] tt in (
          it.states,
          come.written,
          come.m,
          subst (λ (from : State). Run (kept_slices typed) from it.states come.written come.m) loads it.run,
          come.tied,
          come.gained,
          subst (λ (from : State). KeepsImages (ComesInto (kept_slices typed) from) it.states before.devices.drives after.devices.drives) loads
              (subst (λ (slices : List ℕ). KeepsImages (ComesInto slices (with_keys s (load_of (kept_keys typed))))
              it.states before.devices.drives after.devices.drives) (append-nil (kept_slices typed)) it.images),
        )

    -- or of the first of them
    pub runs-part : ((s : State) → All IsObserved before.devices.terms → Represents kernel before.devices s
        → RunsPartly (kept_slices typed) (with_keys s (load_of (kept_keys typed))) before after)
        → RunsPartly (kept_slices typed) laden_state laden after
    runs-part partly =
        subst (λ (from : State). RunsPartly (kept_slices typed) from laden after) loads
        (partly-from (kept_slices typed) (with_keys s (load_of (kept_keys typed))) before after laden.devices (partly s (observed-before told) stood))

-- from the state for which it stood it was a session
pub session-all : (stop : Stop) (place : ConsoleState) (last : SliceEnd) (from to : KeyboardState) (s : State) (later : Kernel) (before after : World)
    → (come : HasCome before.devices.drives before.out place last from s later after.devices after.out)
    → StopsFor stop come.turns.turns come.m from to before.out after.out
    → RunsSession stop s later place.typed from to before after
session-all stop place last from to s later before after come stops =
    let it : HasTurns place last before.out from s come.m come.written = come.turns in
    let gone : GoesWith before.devices.drives after.devices.drives (keys_for 0 (kept_keys place.typed)) (kept_slices place.typed) s come.m come.written [] [] = come.goes [] [] tt in
    record {
      turns = it.turns;
      t = come.m;
      session = record {
        states = it.states;
        written = come.written;
        session = comes-last (map turn_of it.turns) s come.m it.states come.written it.comes;
        through = gone.states;
        run = gone.run;
        turns_typed = it.types;
        kept = it.kept;
        output = come.gained;
      };
      there = come.tied;
      stops = stops;
    }

-- what is kept is the same at an end, or if memory was out
pub met-still : (out : Option (List ℕ)) (place new : ConsoleState) → MeetsEnd out place new → MeetsEnd out (with_kept place new.typed) new
met-still out place new it = record { none_left = it.none_left; end = it.end; typed = record { parts = refl; slices = refl } }

pub lost-still : (out : Option (List ℕ)) (place new : ConsoleState) → LosesLine out place new → LosesLine out (with_kept place new.typed) new
lost-still out place new it =
    record { lost = it.lost; none_left = it.none_left; mid = it.mid; taken = it.taken; lacks = it.lacks; typed = record { parts = refl; slices = refl } }

module _ (place : ConsoleState) (last : SliceEnd) (first : Option (List ℕ)) (from : KeyboardState) (s t : State)
    (written : List ℕ) (it : HasTurns place last first from s t written) where
  -- no slice can follow
  pub stops-over : (after : Option (List ℕ)) → IsRunOver t → StopsFor Stop.Over it.turns t from place.keyboard first after
  stops-over after over = inl (record { taken = it.taken; over = over })

  module _ (waits : WaitsForLine last t) (new : ConsoleState) (out : Option (List ℕ)) where
    waits-last : WaitsForLine (last_end at_start it.turns) t
    waits-last = subst (λ (end : SliceEnd). WaitsForLine end t) (sym it.last_is) waits

    -- the keyboard gave its end
    pub stops-end : has_living t ≡ true → MeetsEnd out place new → StopsFor Stop.Over it.turns t from new.keyboard first out
    stops-end lives meets = inr (record {
      mid = place.keyboard;
      taken = it.taken;
      waits = waits-last;
      lives = lives;
      none_left = it.rest_is ∙ meets.none_left;
      end = meets.end;
    })

    -- memory was out for keys
    pub stops-lost : has_living t ≡ true → LosesLine out place new → StopsFor Stop.LineLost it.turns t from new.keyboard first out
    stops-lost lives loses = record {
      lost = loses.lost;
      taken = takes-then (lines_of it.turns) (line_list loses.lost) (shown_at first it.turns) (shown_for out loses.lost)
          from place.keyboard loses.mid it.taken loses.taken;
      mid = loses.mid;
      lacks = subst (λ (rest : List ℕ). LacksKeys loses.lost rest loses.mid new.keyboard) (sym it.rest_is) loses.lacks;
      none_left = λ is. it.rest_is ∙ loses.none_left is;
      waits = waits-last;
      lives = lives;
    }

-- ---- faults of the host

-- it failed in the last turn, at the output
pub fails-then : {Value : Type 0} (answer : Result Value RunFault) (origin mid after : World) → HasNoFault origin mid
    → OnOutputFault answer (FailsToWrite mid after) → OnOutputFault answer (FailsToWrite origin after)
fails-then (Ok value) origin mid after none fails = tt
fails-then (Err Output) origin mid after none fails = (rw (← none.0) fails.0, fails.1, fails.2)
fails-then (Err NoMemory) origin mid after none fails = tt

-- or not at all
pub kept-then : {Value : Type 0} (answer : Result Value RunFault) (origin mid after : World) → HasNoFault origin mid
    → UnlessOutputFault answer (HasNoFault mid after) → UnlessOutputFault answer (HasNoFault origin after)
kept-then (Ok value) origin mid after none kept = (kept.0 ∙ none.0, kept.1 ∙ none.1, kept.2 ∙ none.2)
kept-then (Err Output) origin mid after none kept = tt
kept-then (Err NoMemory) origin mid after none kept = (kept.0 ∙ none.0, kept.1 ∙ none.1, kept.2 ∙ none.2)
