use Rattle.std.proofs.Common.{◌≡◌, ◌+◌, ℕ, List, [], All, length, ap, refl, sym, subst, ◌∙◌, arith, inl, inr}
use Rattle.std.specs.Prelude.{Err}
use Rattle.std.specs.Vec.{vec_len}
use Rattle.std.proofs.lemmas.List.{length-map}
use Rattle.std.proofs.lemmas.List.Elements.{All-append, All-nil}
use Rattle.device_table.specs.Seen.{terminal_states}
use Rattle.script_text.specs.declared.script.ScriptKey.{ScriptKey}
use Rattle.os9_kernel.specs.Outside.{outside}
use Rattle.os9_kernel.specs.Tie.{ticks}
use Rattle.boot_run.specs.World.{world_of}
use Rattle.boot_run.proofs.RunLemmas.{none-living, some-living}
use Rattle.console_run.specs.Typed.{kept_bytes, kept_keys, keys_typed}
use Rattle.console_run.specs.Kept.{load_of}
use Rattle.console_run.specs.Keyboard.{keyboard_state}
use Rattle.console_run.specs.Lines.{GaveLines}
use Rattle.console_run.specs.Shown.{shown_length}
use Rattle.console_run.specs.Turn.{console_state}
use Rattle.console_run.specs.declared.turns.Stop.{Stop}
use Rattle.console_run.proofs.EndLemmas.{ComesFrom, comes-still, fails-then, kept-then, lost-still, met-still, of-term-still, runs-all, runs-part, session-all, stops-end, stops-lost, stops-over, waits-there}
use Rattle.console_run.proofs.KeyLemmas.{IsOfTerm, all-typed, none-kept, of-term}
use Rattle.console_run.proofs.LoadLemmas.{stands-loaded}
use Rattle.console_run.proofs.PartLemmas.{gave-none, gave-then, keeps-end, keeps-lost, keeps-so}
use Rattle.console_run.proofs.TurnLemmas.{comes-typed, comes-untyped, part-typed, partly-typed, tick-tied, turn-stopped, turn-taken, with_kept}
use Rattle.console_run.proofs.turns.run_turns.Goals as goal

pub loop-init : goal.loop-init
loop-init g c =
    let typed = c.args.console.now.typed in
    let none : c.new.result.items ≡ [] = c.new.ensures.items in
    record {
      begun = sym c.ticks-counter.ensures.count;
      within = omega (arith, c.ticks-counter.ensures.count, c.requires.begins);
      slices = c.requires.untyped.slices ∙ sym (c.ticks-counter.ensures.count ∙ c.requires.begins);
      stands = c.requires.stands;
      of_term = subst (λ (keys : List ScriptKey). All IsOfTerm keys) (sym (none-kept typed c.requires.untyped.parts)) (All-nil IsOfTerm);
      gave =
          subst (λ (rest : List ℕ). GaveLines (kept_bytes typed) rest (keyboard_state g.K.Keyboard
          c.args.console.now.keyboard) (keyboard_state g.K.Keyboard c.args.console.now.keyboard)) (sym none)
          (gave-none typed _ c.requires.untyped);
      comes = λ s told tied. comes-untyped _ _ s c.args.kernel.now _ c.requires.untyped none told tied;
      count = (refl, refl, refl);
      files = refl;
      notes = refl;
      terminals = refl;
      drives = refl;
    }

pub loop-preserved : goal.loop-preserved
loop-preserved g c =
    let so_far = c.loop.invariant in
    let typed = c.in-GoesOn.ensures.asked in
    let ran = c.in-Ok.ensures in
    let before = world_of g.H.Host c.args.host.now (outside (λ box. (g.dyn-1.0.entry box.vtable).1) (λ box. (g.dyn-2.0.entry box.vtable).1) c.args.devices.now) in
    let mid = world_of g.H.Host c.loop.host (outside (λ box. (g.dyn-1.0.entry box.vtable).1) (λ box. (g.dyn-2.0.entry box.vtable).1) c.loop.devices) in
    let loaded = outside (λ box. (g.dyn-1.0.entry box.vtable).1) (λ box. (g.dyn-2.0.entry box.vtable).1) c.type_line.new.devices in
    let now = world_of g.H.Host c.run_turn.new.host (outside (λ box. (g.dyn-1.0.entry box.vtable).1) (λ box. (g.dyn-2.0.entry box.vtable).1) c.run_turn.new.devices)
    in
    let from = keyboard_state g.K.Keyboard c.args.console.now.keyboard in
    let was = console_state g.K.Keyboard c.loop.console in
    let place = console_state g.K.Keyboard c.type_line.new.console in
    let new = record place.typed { slices = place.typed.slices + 1 } in
    let (s_here, tied_here) = so_far.stands in
    let gave : GaveLines (kept_bytes new) place.rest from place.keyboard = gave-then _ was.typed new was.rest
    place.rest typed.bytes (ticks c.loop.kernel + 1) typed.line mid.out from was.keyboard place.keyboard so_far.gave
    (typed.types s_here tied_here) typed.left_is typed.loaded.kept typed.taken in
    record {
      within = omega arith;
      begun = ran.turn.count ∙ ap (λ (count : ℕ). count + 1) so_far.begun;
      slices = ap (λ (count : ℕ). count + 1) (typed.loaded.slices ∙ so_far.slices);
      stands = ran.turn.stands;
      of_term =
          subst (λ (keys : List ScriptKey). All IsOfTerm keys) (sym typed.loaded.kept)
          (All-append IsOfTerm (kept_keys c.loop.console.typed) (keys_typed (ticks c.loop.kernel + 1) typed.bytes)
          so_far.of_term (of-term _ (keys_typed (ticks c.loop.kernel + 1) typed.bytes) (all-typed _ typed.bytes)));
      gave = gave;
      comes = λ s told tied.
          comes-typed _ _ was (with_kept place new) c.loop.last from s c.loop.kernel c.run_turn.new.kernel mid now
          (so_far.comes s told tied) (λ m tied none. c.if-living-eq0.false (c.living.ensures _ m tied ∙ none))
          c.in-Ok.end
          (turn-taken was place new c.loop.last c.loop.kernel c.run_turn.new.kernel mid now loaded typed refl refl c.in-Ok.end ran.turn);
      count = (ran.turn.no_fault.0 ∙ so_far.count.0, ran.turn.no_fault.1 ∙ so_far.count.1, ran.turn.no_fault.2 ∙ so_far.count.2);
      files = ran.turn.files_kept ∙ so_far.files;
      notes = ran.notes_kept ∙ so_far.notes;
      terminals = ran.places.terms ∙ c.type_line.ensures.places.terms ∙ so_far.terminals;
      drives = ran.places.drives ∙ c.type_line.ensures.places.drives ∙ so_far.drives;
    }

-- ---- keys may be typed, and a slice run

pub type_line-requires-clause-early : goal.type_line-requires-clause-early
type_line-requires-clause-early g c = omega (arith, c.loop.invariant.begun)

pub type_line-requires-clause-some : goal.type_line-requires-clause-some
type_line-requires-clause-some g c =
    let terms = c.args.devices.now.terms in
    let long : length (terminal_states (λ box. (g.dyn-2.0.entry box.vtable).1) terms.items) ≡ vec_len terms = simp length-map (sym terms.ok.0) in
    omega (arith, long, c.requires.unloaded.some, c.loop.invariant.terminals)

pub type_line-requires-clause-stands : goal.type_line-requires-clause-stands
type_line-requires-clause-stands g c = c.loop.invariant.stands

pub run_turn-requires-clause-early : goal.run_turn-requires-clause-early
run_turn-requires-clause-early g c = omega (arith, c.loop.invariant.begun)

pub run_turn-requires-clause-stands : goal.run_turn-requires-clause-stands
run_turn-requires-clause-stands g c =
    let typed = c.in-GoesOn.ensures.asked in
    stands-loaded c.loop.kernel _ _ (load_of (keys_typed (ticks c.loop.kernel + 1) typed.bytes)) typed.drives typed.loaded.terms c.loop.invariant.stands

-- ---- no process lives

pub returns-then-living-eq0-clause-ran : goal.returns-then-living-eq0-clause-ran
returns-then-living-eq0-clause-ran g c =
    let so_far = c.loop.invariant in
    let before = world_of g.H.Host c.args.host.now (outside (λ box. (g.dyn-1.0.entry box.vtable).1) (λ box. (g.dyn-2.0.entry box.vtable).1) c.args.devices.now) in
    let now = world_of g.H.Host c.loop.host (outside (λ box. (g.dyn-1.0.entry box.vtable).1) (λ box. (g.dyn-2.0.entry box.vtable).1) c.loop.devices) in
    let from = keyboard_state g.K.Keyboard c.args.console.now.keyboard in
    let was = console_state g.K.Keyboard c.loop.console in
    record {
      ran = record {
        run = λ s told tied. runs-all was c.loop.last from c.args.kernel.now c.loop.kernel before now so_far.of_term c.requires.unloaded.unloaded s told tied so_far.comes;
        partial = tt;
        output_fault = tt;
        no_fault = so_far.count;
        files_kept = so_far.files;
      };
      lines = keeps-so was.typed was.rest from was.keyboard so_far.gave;
      stopped = tt;
      session = λ s told tied.
          let come = so_far.comes s told tied in
          session-all Stop.Over was c.loop.last from was.keyboard s c.loop.kernel before now come
          (stops-over was c.loop.last before.out from s come.m come.written come.turns now.out
          (inl (none-living come.m (sym (c.living.ensures _ come.m come.tied) ∙ c.if-living-eq0.true))));
    }

-- ---- the input is at its end

pub returns-in-AtEnd-clause-ran : goal.returns-in-AtEnd-clause-ran
returns-in-AtEnd-clause-ran g c =
    let so_far = c.loop.invariant in
    let (waits, same, meets) = c.in-AtEnd.ensures.asked in
    let before = world_of g.H.Host c.args.host.now (outside (λ box. (g.dyn-1.0.entry box.vtable).1) (λ box. (g.dyn-2.0.entry box.vtable).1) c.args.devices.now) in
    let mid = world_of g.H.Host c.loop.host (outside (λ box. (g.dyn-1.0.entry box.vtable).1) (λ box. (g.dyn-2.0.entry box.vtable).1) c.loop.devices) in
    let now = world_of g.H.Host c.loop.host (outside (λ box. (g.dyn-1.0.entry box.vtable).1) (λ box. (g.dyn-2.0.entry box.vtable).1) c.type_line.new.devices)
    in
    let from = keyboard_state g.K.Keyboard c.args.console.now.keyboard in
    let was = console_state g.K.Keyboard c.loop.console in
    let place = console_state g.K.Keyboard c.type_line.new.console in
    let still = with_kept was place.typed in
    let comes : ComesFrom still c.loop.last from c.args.kernel.now c.loop.kernel before now = comes-still was
    place.typed c.loop.last from c.args.kernel.now c.loop.kernel before mid _ meets.typed same so_far.comes in
    record {
      ran = record {
        run = λ s told tied.
            runs-all still c.loop.last from c.args.kernel.now c.loop.kernel before now
            (of-term-still was.typed place.typed meets.typed so_far.of_term) c.requires.unloaded.unloaded s told tied
            comes;
        partial = tt;
        output_fault = tt;
        no_fault = so_far.count;
        files_kept = so_far.files;
      };
      lines = keeps-end was.typed place.typed was.rest (shown_length mid.out) from was.keyboard place.keyboard
          meets.typed so_far.gave meets.end;
      stopped = tt;
      session = λ s told tied.
          let come = comes s told tied in
          session-all Stop.Over still c.loop.last from place.keyboard s c.loop.kernel before now come
          (stops-end still c.loop.last before.out from s come.m come.written come.turns
          (waits-there c.loop.last c.loop.kernel _ _ waits same come.m come.tied) place mid.out
          (some-living come.m (λ none_lives. c.if-living-eq0.false (c.living.ensures _ come.m come.tied ∙
          none_lives))) (met-still mid.out was place meets));
    }

-- ---- memory is out for keys

pub returns-in-NoMemory-clause-ran : goal.returns-in-NoMemory-clause-ran
returns-in-NoMemory-clause-ran g c =
    let so_far = c.loop.invariant in
    let (waits, same, loses) = c.in-NoMemory.ensures.asked in
    let before = world_of g.H.Host c.args.host.now (outside (λ box. (g.dyn-1.0.entry box.vtable).1) (λ box. (g.dyn-2.0.entry box.vtable).1) c.args.devices.now) in
    let mid = world_of g.H.Host c.loop.host (outside (λ box. (g.dyn-1.0.entry box.vtable).1) (λ box. (g.dyn-2.0.entry box.vtable).1) c.loop.devices) in
    let now = world_of g.H.Host c.loop.host (outside (λ box. (g.dyn-1.0.entry box.vtable).1) (λ box. (g.dyn-2.0.entry box.vtable).1) c.type_line.new.devices)
    in
    let from = keyboard_state g.K.Keyboard c.args.console.now.keyboard in
    let was = console_state g.K.Keyboard c.loop.console in
    let place = console_state g.K.Keyboard c.type_line.new.console in
    let still = with_kept was place.typed in
    let comes : ComesFrom still c.loop.last from c.args.kernel.now c.loop.kernel before now = comes-still was
    place.typed c.loop.last from c.args.kernel.now c.loop.kernel before mid _ loses.typed same so_far.comes in
    record {
      ran = record {
        run = λ s told tied.
            runs-all still c.loop.last from c.args.kernel.now c.loop.kernel before now
            (of-term-still was.typed place.typed loses.typed so_far.of_term) c.requires.unloaded.unloaded s told tied
            comes;
        partial = tt;
        output_fault = tt;
        no_fault = so_far.count;
        files_kept = so_far.files;
      };
      lines = keeps-lost was.typed place.typed was.rest loses.lost mid.out from was.keyboard loses.mid place.keyboard
          loses.typed so_far.gave loses.none_left loses.taken loses.lacks;
      stopped = tt;
      session = λ s told tied.
          let come = comes s told tied in
          session-all Stop.LineLost still c.loop.last from place.keyboard s c.loop.kernel before now come
          (stops-lost still c.loop.last before.out from s come.m come.written come.turns
          (waits-there c.loop.last c.loop.kernel _ _ waits same come.m come.tied) place mid.out
          (some-living come.m (λ none_lives. c.if-living-eq0.false (c.living.ensures _ come.m come.tied ∙
          none_lives))) (lost-still mid.out was place loses));
    }

-- ---- a turn stopped

pub returns-in-Err-clause-ran : goal.returns-in-Err-clause-ran
returns-in-Err-clause-ran g c =
    let so_far = c.loop.invariant in
    let typed = c.in-GoesOn.ensures.asked in
    let turn = c.in-Err.ensures.turn in
    let before = world_of g.H.Host c.args.host.now (outside (λ box. (g.dyn-1.0.entry box.vtable).1) (λ box. (g.dyn-2.0.entry box.vtable).1) c.args.devices.now) in
    let mid = world_of g.H.Host c.loop.host (outside (λ box. (g.dyn-1.0.entry box.vtable).1) (λ box. (g.dyn-2.0.entry box.vtable).1) c.loop.devices) in
    let loaded = outside (λ box. (g.dyn-1.0.entry box.vtable).1) (λ box. (g.dyn-2.0.entry box.vtable).1) c.type_line.new.devices in
    let now = world_of g.H.Host c.run_turn.new.host (outside (λ box. (g.dyn-1.0.entry box.vtable).1) (λ box. (g.dyn-2.0.entry box.vtable).1) c.run_turn.new.devices)
    in
    let from = keyboard_state g.K.Keyboard c.args.console.now.keyboard in
    let was = console_state g.K.Keyboard c.loop.console in
    let place = console_state g.K.Keyboard c.type_line.new.console in
    let new = record place.typed { slices = place.typed.slices + 1 } in
    let (s_here, tied_here) = so_far.stands in
    let gave : GaveLines (kept_bytes new) place.rest from place.keyboard = gave-then _ was.typed new was.rest
    place.rest typed.bytes (ticks c.loop.kernel + 1) typed.line mid.out from was.keyboard place.keyboard so_far.gave
    (typed.types s_here tied_here) typed.left_is typed.loaded.kept typed.taken in
    let then = with_kept place new in
    let of_term : All IsOfTerm (kept_keys new) =
    subst (λ (keys : List ScriptKey). All IsOfTerm keys) (sym typed.loaded.kept)
    (All-append IsOfTerm (kept_keys c.loop.console.typed) (keys_typed (ticks c.loop.kernel + 1) typed.bytes)
    so_far.of_term (of-term _ (keys_typed (ticks c.loop.kernel + 1) typed.bytes) (all-typed _ typed.bytes))) in
    record {
      ran = record {
        run = tt;
        partial = λ s told tied.
            runs-part then c.loop.last from c.args.kernel.now c.run_turn.new.kernel before now of_term c.requires.unloaded.unloaded s told tied
            (λ s told tied. partly-typed _ _ was then c.loop.last from s c.loop.kernel
            c.run_turn.new.kernel mid now (so_far.comes s told tied) (λ m tied none. c.if-living-eq0.false
            (c.living.ensures _ m tied ∙ none)) c.in-Err.fault before refl so_far.count
            (turn-stopped was place new c.loop.last c.loop.kernel c.run_turn.new.kernel mid now loaded typed refl refl
            c.in-Err.fault turn));
        output_fault = fails-then {Value = Unit {0}} (Err c.in-Err.fault) before mid now so_far.count turn.output_fault;
        no_fault = kept-then {Value = Unit {0}} (Err c.in-Err.fault) before mid now so_far.count turn.no_fault;
        files_kept = turn.files_kept ∙ so_far.files;
      };
      lines = keeps-so new place.rest from place.keyboard gave;
      session = tt;
      stopped = λ s told tied.
          part-typed _ _ was then c.loop.last from s c.loop.kernel c.run_turn.new.kernel mid now
          (so_far.comes s told tied) (λ m tied none. c.if-living-eq0.false (c.living.ensures _ m tied ∙ none))
          c.in-Err.fault before refl so_far.count
          (turn-stopped was place new c.loop.last c.loop.kernel c.run_turn.new.kernel mid now loaded typed refl refl c.in-Err.fault turn);
    }

-- ---- the last tick would come

pub returns-clause-ran : goal.returns-clause-ran
returns-clause-ran g c =
    let so_far = c.loop.invariant in
    let before = world_of g.H.Host c.args.host.now (outside (λ box. (g.dyn-1.0.entry box.vtable).1) (λ box. (g.dyn-2.0.entry box.vtable).1) c.args.devices.now) in
    let now = world_of g.H.Host c.loop.host (outside (λ box. (g.dyn-1.0.entry box.vtable).1) (λ box. (g.dyn-2.0.entry box.vtable).1) c.loop.devices) in
    let from = keyboard_state g.K.Keyboard c.args.console.now.keyboard in
    let was = console_state g.K.Keyboard c.loop.console in
    record {
      ran = record {
        run = λ s told tied. runs-all was c.loop.last from c.args.kernel.now c.loop.kernel before now so_far.of_term c.requires.unloaded.unloaded s told tied so_far.comes;
        partial = tt;
        output_fault = tt;
        no_fault = so_far.count;
        files_kept = so_far.files;
      };
      lines = keeps-so was.typed was.rest from was.keyboard so_far.gave;
      stopped = tt;
      session = λ s told tied.
          let come = so_far.comes s told tied in
          session-all Stop.Over was c.loop.last from was.keyboard s c.loop.kernel before now come
          (stops-over was c.loop.last before.out from s come.m come.written come.turns now.out
          (inr (omega (arith, so_far.begun, so_far.within, tick-tied c.loop.kernel _ come.m come.tied))));
    }
