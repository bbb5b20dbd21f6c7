use Rattle.std.proofs.Common.{◌≡◌, [], List, length, ap, subst, refl, sym, ◌∙◌, arith, inr}
use Rattle.std.specs.Vec.{vec_len}
use Rattle.std.proofs.lemmas.List.{length-map}
use Rattle.os9_outer.specs.TerminalState.{TerminalState}
use Rattle.device_table.specs.Seen.{terminal_states}
use Rattle.boot_run.specs.Loaded.{AreUnloaded, loaded}
use Rattle.file_drives.specs.Drives.{drive_views}
use Rattle.lock_model.specs.Records.{Records}
use Rattle.lock_model.specs.declared.history.Entry.{Entry}
use Rattle.machine_model.specs.State.{State}
use Rattle.os9_kernel.specs.Outside.{Outside, outside}
use Rattle.os9_kernel.specs.Tie.{Represents}
use Rattle.boot_run.specs.Machine.{MachineCall, setup_with}
use Rattle.boot_run.specs.World.{world_of}
use Rattle.boot_run.proofs.MachineLemmas.{called-output, called-refused, called-whole, called-without_memory, drives-counted, drives-started, images-there, where-refused}
use Rattle.console_run.specs.Keyboard.{keyboard_state}
use Rattle.console_run.specs.Typed.{kept_keys, kept_slices}
use Rattle.console_run.proofs.PartLemmas.{keeps-none}
use Rattle.console_run.proofs.SessionLemmas.{asks-none, asks-over, never-began, never-part, not-output, session-lost, session-over, session-part, stands-begun, whole-part}
use Rattle.console_run.proofs.session.run_session.Goals as goal

pub new-requires-clause-drives : goal.new-requires-clause-drives
new-requires-clause-drives g c =
    let drives = c.args.devices.now.drives in
    let long : length (drive_views (λ box. (g.dyn-1.0.entry box.vtable).1) drives.items) ≡ vec_len drives = simp length-map (sym drives.ok.0) in
    (omega (arith, long, c.requires.machine.enough), omega (arith, long, c.requires.machine.few_drives))

pub run_turns-requires-clause-begins : goal.run_turns-requires-clause-begins
run_turns-requires-clause-begins g c = c.in-Ok.ensures.starts.count

pub run_turns-requires-clause-unloaded : goal.run_turns-requires-clause-unloaded
run_turns-requires-clause-unloaded g c =
    let kept = ap (λ terms. terminal_states (λ box. (g.dyn-2.0.entry box.vtable).1) terms.items) c.in-Ok.ensures.terms_kept in
    subst (λ (terms : List TerminalState). AreUnloaded terms) (sym kept) c.requires.machine.terminals

pub run_turns-requires-clause-stands : goal.run_turns-requires-clause-stands
run_turns-requires-clause-stands g c =
    let drives = drive_views (λ box. (g.dyn-1.0.entry box.vtable).1) c.args.devices.now.drives.items in
    let (images, have) = images-there c.args.config.images drives c.requires.machine.volumes in
    stands-begun (setup_with c.args.config c.args.file.now images [] []) c.in-Ok.kernel
    (outside (λ box. (g.dyn-1.0.entry box.vtable).1) (λ box. (g.dyn-2.0.entry box.vtable).1) c.new.new.devices) (c.in-Ok.ensures.starts.stands images
    have)

-- ---- the start was refused

pub returns-in-Err-clause-call : goal.returns-in-Err-clause-call
returns-in-Err-clause-call g c =
    let before = world_of g.H.Host c.args.host.now (outside (λ box. (g.dyn-1.0.entry box.vtable).1) (λ box. (g.dyn-2.0.entry box.vtable).1) c.args.devices.now) in
    let started = outside (λ box. (g.dyn-1.0.entry box.vtable).1) (λ box. (g.dyn-2.0.entry box.vtable).1) c.new.new.devices in
    let untouched = where-refused c.in-Err.error (λ same. ap (λ devices. outside (λ box. (g.dyn-1.0.entry box.vtable).1) (λ box. (g.dyn-2.0.entry box.vtable).1) devices) same)
    c.in-Err.ensures.untouched in
    let typed = c.args.console.now.typed in
    λ images have.
    let setup = setup_with c.args.config c.args.file.now images (kept_keys typed) (kept_slices typed) in
    record {
      machine =
          subst (MachineCall setup [] before (world_of g.H.Host c.args.host.now started)) (sym c.end_of_start.ensures)
          (called-refused setup c.args.config before started c.in-Err.error refl have.as_many
          c.in-Err.ensures.starts.refused untouched c.in-Err.ensures.starts.drives
          (drives-started c.args.config.images _ _ _ c.requires.machine.volumes c.in-Err.ensures.starts.drives)
          (ap (λ terms. terminal_states (λ box. (g.dyn-2.0.entry box.vtable).1) terms.items)
          c.in-Err.ensures.terms_kept));
      at_line = tt;
      keyboard = rw c.end_of_start.ensures (asks-none c.in-Err.error _);
      lines = keeps-none typed _ c.requires.untyped;
      stopped = λ told. rw c.end_of_start.ensures (never-part _ c.args.config.images before started c.in-Err.error _
          c.in-Err.ensures.starts.drives (drives-started c.args.config.images _ _ _ c.requires.machine.volumes
          c.in-Err.ensures.starts.drives) (ap (λ terms. terminal_states (λ box. (g.dyn-2.0.entry box.vtable).1) terms.items) c.in-Err.ensures.terms_kept));
      session = λ told. rw c.end_of_start.ensures (never-began _ c.in-Err.error _ _ _ _);
    }

-- ---- the machine was run

pub returns-in-Over-clause-call : goal.returns-in-Over-clause-call
returns-in-Over-clause-call g c =
    let before = world_of g.H.Host c.args.host.now (outside (λ box. (g.dyn-1.0.entry box.vtable).1) (λ box. (g.dyn-2.0.entry box.vtable).1) c.args.devices.now) in
    let started = outside (λ box. (g.dyn-1.0.entry box.vtable).1) (λ box. (g.dyn-2.0.entry box.vtable).1) c.new.new.devices in
    let starts = c.in-Ok.ensures.starts in
    let kept = ap (λ terms. terminal_states (λ box. (g.dyn-2.0.entry box.vtable).1) terms.items) c.in-Ok.ensures.terms_kept in
    let after = world_of g.H.Host c.run_turns.new.host (outside (λ box. (g.dyn-1.0.entry box.vtable).1) (λ box. (g.dyn-2.0.entry box.vtable).1) c.run_turns.new.devices)
    in
    let typed = c.run_turns.new.console.typed in
    let from = keyboard_state g.K.Keyboard c.args.console.now.keyboard in
    let to = keyboard_state g.K.Keyboard c.run_turns.new.console.keyboard in
    let ran = rw c.in-Over.is at c.in-Ok-run_turns.ensures.ran in
    let later : Outside = record { drives = started.drives; terms = loaded (kept_keys typed) started.terms } in
    let history : List Entry = c.into_records.result.history in
    let entered : (t : State) → Represents c.run_turns.new.kernel after.devices t → history ≡ t.files.records.history =
    λ t tied. ap (λ (records : Records). records.history) (c.into_records.ensures _ t tied) in
    λ images have.
    let setup = setup_with c.args.config c.args.file.now images (kept_keys typed) (kept_slices typed) in
    record {
      machine =
          called-whole setup c.in-Ok.kernel before started later c.requires.machine.terminals c.requires.machine.time
          starts.drives.moves refl starts.drives.media (ap (λ terms. loaded (kept_keys typed) terms) kept)
          (starts.stands images have) _ c.run_turns.new.kernel after c.living.result c.ticks.result
          c.run_end-end.result ran.ran (λ t tied. c.living.ensures _ t tied) (λ t tied. c.ticks.ensures.machine _
          t tied) c.run_end-end.ensures.idle c.run_end-end.ensures.lives history entered;
      at_line = tt;
      keyboard = asks-over c.living.result c.ticks.result c.run_end-end.result from to c.run_end-end.ensures.idle c.run_end-end.ensures.lives;
      lines = ran.lines;
      stopped = λ told. whole-part _ _ c.living.result c.ticks.result c.run_end-end.result from to c.run_end-end.ensures.idle c.run_end-end.ensures.lives;
      session = session-over setup typed from to c.in-Ok.kernel c.run_turns.new.kernel before after started
          c.requires.machine.terminals.unloaded starts.drives.moves kept (starts.stands images have) history entered c.living.result
          c.ticks.result c.run_end-end.result ran.session (λ t tied. c.living.ensures _ t tied)
          c.run_end-end.ensures.idle c.run_end-end.ensures.lives;
    }

pub returns-in-LineLost-clause-call : goal.returns-in-LineLost-clause-call
returns-in-LineLost-clause-call g c =
    let before = world_of g.H.Host c.args.host.now (outside (λ box. (g.dyn-1.0.entry box.vtable).1) (λ box. (g.dyn-2.0.entry box.vtable).1) c.args.devices.now) in
    let started = outside (λ box. (g.dyn-1.0.entry box.vtable).1) (λ box. (g.dyn-2.0.entry box.vtable).1) c.new.new.devices in
    let starts = c.in-Ok.ensures.starts in
    let kept = ap (λ terms. terminal_states (λ box. (g.dyn-2.0.entry box.vtable).1) terms.items) c.in-Ok.ensures.terms_kept in
    let after = world_of g.H.Host c.run_turns.new.host (outside (λ box. (g.dyn-1.0.entry box.vtable).1) (λ box. (g.dyn-2.0.entry box.vtable).1) c.run_turns.new.devices)
    in
    let typed = c.run_turns.new.console.typed in
    let from = keyboard_state g.K.Keyboard c.args.console.now.keyboard in
    let to = keyboard_state g.K.Keyboard c.run_turns.new.console.keyboard in
    let ran = rw c.in-LineLost.is at c.in-Ok-run_turns.ensures.ran in
    let later : Outside = record { drives = started.drives; terms = loaded (kept_keys typed) started.terms } in
    let history : List Entry = c.into_records.result.history in
    let entered : (t : State) → Represents c.run_turns.new.kernel after.devices t → history ≡ t.files.records.history =
    λ t tied. ap (λ (records : Records). records.history) (c.into_records.ensures _ t tied) in
    λ images have.
    let setup = setup_with c.args.config c.args.file.now images (kept_keys typed) (kept_slices typed) in
    record {
      machine =
          called-whole setup c.in-Ok.kernel before started later c.requires.machine.terminals c.requires.machine.time
          starts.drives.moves refl starts.drives.media (ap (λ terms. loaded (kept_keys typed) terms) kept)
          (starts.stands images have) _ c.run_turns.new.kernel after c.living.result c.ticks.result
          c.run_end-end.result ran.ran (λ t tied. c.living.ensures _ t tied) (λ t tied. c.ticks.ensures.machine _
          t tied) c.run_end-end.ensures.idle c.run_end-end.ensures.lives history entered;
      at_line = not-output c.living.result c.ticks.result c.run_end-end.result c.run_end-end.ensures.idle c.run_end-end.ensures.lives;
      keyboard = tt;
      lines = ran.lines;
      stopped = λ told. tt;
      session = session-lost setup typed from to c.in-Ok.kernel c.run_turns.new.kernel before after started
          c.requires.machine.terminals.unloaded starts.drives.moves kept (starts.stands images have)
          history entered c.run_end-end.result ran.session;
    }

pub returns-in-Err-Output-clause-call : goal.returns-in-Err-Output-clause-call
returns-in-Err-Output-clause-call g c =
    let before = world_of g.H.Host c.args.host.now (outside (λ box. (g.dyn-1.0.entry box.vtable).1) (λ box. (g.dyn-2.0.entry box.vtable).1) c.args.devices.now) in
    let started = outside (λ box. (g.dyn-1.0.entry box.vtable).1) (λ box. (g.dyn-2.0.entry box.vtable).1) c.new.new.devices in
    let starts = c.in-Ok.ensures.starts in
    let kept = ap (λ terms. terminal_states (λ box. (g.dyn-2.0.entry box.vtable).1) terms.items) c.in-Ok.ensures.terms_kept in
    let after = world_of g.H.Host c.run_turns.new.host (outside (λ box. (g.dyn-1.0.entry box.vtable).1) (λ box. (g.dyn-2.0.entry box.vtable).1) c.run_turns.new.devices)
    in
    let typed = c.run_turns.new.console.typed in
    let from = keyboard_state g.K.Keyboard c.args.console.now.keyboard in
    let to = keyboard_state g.K.Keyboard c.run_turns.new.console.keyboard in
    let ran = rw c.in-Err-Output.field-0-is at c.in-Err-Output.ensures.ran in
    let later : Outside = record { drives = started.drives; terms = loaded (kept_keys typed) started.terms } in
    λ images have.
    let setup = setup_with c.args.config c.args.file.now images (kept_keys typed) (kept_slices typed) in
    record {
      machine =
          called-output (setup_with c.args.config c.args.file.now images (kept_keys typed) (kept_slices typed))
          c.in-Ok.kernel before started later c.requires.machine.terminals c.requires.machine.time
          starts.drives.moves refl starts.drives.media (ap (λ terms. loaded (kept_keys typed) terms) kept)
          (starts.stands images have) c.run_turns.new.kernel after ran.ran;
      at_line = tt;
      keyboard = tt;
      lines = ran.lines;
      stopped = session-part setup typed from to c.in-Ok.kernel c.run_turns.new.kernel before after started
          c.requires.machine.terminals.unloaded starts.drives.moves kept (starts.stands images have) ran.stopped;
      session = λ told. tt;
    }

pub returns-in-Err-NoMemory-clause-call : goal.returns-in-Err-NoMemory-clause-call
returns-in-Err-NoMemory-clause-call g c =
    let before = world_of g.H.Host c.args.host.now (outside (λ box. (g.dyn-1.0.entry box.vtable).1) (λ box. (g.dyn-2.0.entry box.vtable).1) c.args.devices.now) in
    let started = outside (λ box. (g.dyn-1.0.entry box.vtable).1) (λ box. (g.dyn-2.0.entry box.vtable).1) c.new.new.devices in
    let starts = c.in-Ok.ensures.starts in
    let kept = ap (λ terms. terminal_states (λ box. (g.dyn-2.0.entry box.vtable).1) terms.items) c.in-Ok.ensures.terms_kept in
    let after = world_of g.H.Host c.run_turns.new.host (outside (λ box. (g.dyn-1.0.entry box.vtable).1) (λ box. (g.dyn-2.0.entry box.vtable).1) c.run_turns.new.devices)
    in
    let typed = c.run_turns.new.console.typed in
    let from = keyboard_state g.K.Keyboard c.args.console.now.keyboard in
    let to = keyboard_state g.K.Keyboard c.run_turns.new.console.keyboard in
    let ran = rw c.in-Err-NoMemory.field-0-is at c.in-Err-NoMemory.ensures.ran in
    let later : Outside = record { drives = started.drives; terms = loaded (kept_keys typed) started.terms } in
    λ images have.
    let setup = setup_with c.args.config c.args.file.now images (kept_keys typed) (kept_slices typed) in
    record {
      machine =
          called-without_memory (setup_with c.args.config c.args.file.now images (kept_keys typed)
          (kept_slices typed)) c.in-Ok.kernel before started later c.requires.machine.terminals
          c.requires.machine.time starts.drives.moves refl starts.drives.media
          (ap (λ terms. loaded (kept_keys typed) terms) kept) (starts.stands images have) c.run_turns.new.kernel
          after ran.ran;
      at_line = tt;
      keyboard = tt;
      lines = ran.lines;
      stopped = λ told. inr (session-part setup typed from to c.in-Ok.kernel c.run_turns.new.kernel before after started
          c.requires.machine.terminals.unloaded starts.drives.moves kept (starts.stands images have) ran.stopped told);
      session = λ told. tt;
    }

-- ---- as many places

pub returns-in-Err-clause-places : goal.returns-in-Err-clause-places
returns-in-Err-clause-places g c = record {
  terms = ap vec_len c.in-Err.ensures.terms_kept;
  drives =
      omega (
        arith,
        drives-counted (λ box. (g.dyn-1.0.entry box.vtable).1) c.args.config.images _
            c.args.devices.now.drives.items c.new.new.devices.drives.items c.requires.machine.volumes
            c.in-Err.ensures.starts.drives,
        c.args.devices.now.drives.ok.0,
        c.new.new.devices.drives.ok.0,
      );
}

pub returns-in-Over-clause-places : goal.returns-in-Over-clause-places
returns-in-Over-clause-places g c = record {
  terms = c.in-Ok-run_turns.ensures.places.terms ∙ ap vec_len c.in-Ok.ensures.terms_kept;
  drives =
      omega (
        arith,
        drives-counted (λ box. (g.dyn-1.0.entry box.vtable).1) c.args.config.images _
            c.args.devices.now.drives.items c.new.new.devices.drives.items c.requires.machine.volumes
            c.in-Ok.ensures.starts.drives,
        c.args.devices.now.drives.ok.0,
        c.new.new.devices.drives.ok.0,
        c.in-Ok-run_turns.ensures.places.drives,
      );
}

pub returns-in-LineLost-clause-places : goal.returns-in-LineLost-clause-places
returns-in-LineLost-clause-places g c = record {
  terms = c.in-Ok-run_turns.ensures.places.terms ∙ ap vec_len c.in-Ok.ensures.terms_kept;
  drives =
      omega (
        arith,
        drives-counted (λ box. (g.dyn-1.0.entry box.vtable).1) c.args.config.images _
            c.args.devices.now.drives.items c.new.new.devices.drives.items c.requires.machine.volumes
            c.in-Ok.ensures.starts.drives,
        c.args.devices.now.drives.ok.0,
        c.new.new.devices.drives.ok.0,
        c.in-Ok-run_turns.ensures.places.drives,
      );
}

pub returns-in-Err-Output-clause-places : goal.returns-in-Err-Output-clause-places
returns-in-Err-Output-clause-places g c = record {
  terms = c.in-Err-Output.ensures.places.terms ∙ ap vec_len c.in-Ok.ensures.terms_kept;
  drives =
      omega (
        arith,
        drives-counted (λ box. (g.dyn-1.0.entry box.vtable).1) c.args.config.images _
            c.args.devices.now.drives.items c.new.new.devices.drives.items c.requires.machine.volumes
            c.in-Ok.ensures.starts.drives,
        c.args.devices.now.drives.ok.0,
        c.new.new.devices.drives.ok.0,
        c.in-Err-Output.ensures.places.drives,
      );
}

pub returns-in-Err-NoMemory-clause-places : goal.returns-in-Err-NoMemory-clause-places
returns-in-Err-NoMemory-clause-places g c = record {
  terms = c.in-Err-NoMemory.ensures.places.terms ∙ ap vec_len c.in-Ok.ensures.terms_kept;
  drives =
      omega (
        arith,
        drives-counted (λ box. (g.dyn-1.0.entry box.vtable).1) c.args.config.images _
            c.args.devices.now.drives.items c.new.new.devices.drives.items c.requires.machine.volumes
            c.in-Ok.ensures.starts.drives,
        c.args.devices.now.drives.ok.0,
        c.new.new.devices.drives.ok.0,
        c.in-Err-NoMemory.ensures.places.drives,
      );
}
