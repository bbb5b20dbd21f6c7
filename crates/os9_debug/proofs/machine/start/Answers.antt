use Rattle.std.proofs.Common.{◌≡◌, List, All, [], length, ap, subst, sym, ◌∙◌, arith}
use Rattle.std.specs.Prelude.{Err}
use Rattle.std.specs.Vec.{vec_len}
use Rattle.std.proofs.lemmas.List.{length-map}
use Rattle.os9_outer.specs.TerminalState.{TerminalState}
use Rattle.device_table.specs.Seen.{terminal_states}
use Rattle.boot_run.specs.Loaded.{HasNoKeys, loaded}
use Rattle.file_drives.specs.Drives.{drive_states, drive_views}
use Rattle.os9_kernel.specs.Outside.{outside}
use Rattle.boot_run.proofs.MachineLemmas.{drives-counted, where-refused}
use Rattle.os9_debug.specs.Machine.{start_fault}
use Rattle.os9_debug.specs.Moves.{HasStartedMachine}
use Rattle.os9_debug.specs.declared.machine.SessionFault.{SessionFault}
use Rattle.os9_debug.specs.declared.machine.SessionFault.TheVariants.{NoMemory}
use Rattle.os9_debug.proofs.Counted.{fell-kept}
use Rattle.os9_debug.proofs.Starting.{has-started, no-drive, no-images, no-start, no-volumes, start-refused}
use Rattle.os9_debug.proofs.machine.start.Goals as goal

pub new-requires-clause-drives : goal.new-requires-clause-drives
new-requires-clause-drives g c =
    let drives = c.args.devices.now.drives in
    let long : length (drive_views (λ box. (g.dyn-1.0.entry box.vtable).1) drives.items) ≡ vec_len drives = simp length-map (sym drives.ok.0) in
    (omega arith, omega (arith, long, c.requires.can_run.few_drives))

pub new-requires-clause-volumes : goal.new-requires-clause-volumes
new-requires-clause-volumes g c = no-volumes _

pub load_keys-requires : goal.load_keys-requires
load_keys-requires g c =
    let kept = ap (λ terms. terminal_states (λ box. (g.dyn-2.0.entry box.vtable).1) terms.items) c.in-Ok.ensures.terms_kept in
    subst (λ (terms : List TerminalState). All HasNoKeys terms) (sym kept) c.requires.can_run.terminals.unloaded

pub start-requires : goal.start-requires
start-requires g c = c.in-Ok.ensures.starts.count

pub unreachable-requires : goal.unreachable-requires
unreachable-requires g c =
    no-drive c.in-Err-Drive.field-0 _ _ _ _ c.in-Err-Drive.field-0-is c.in-Err-Drive.ensures.starts.drives

pub returns-in-Err-Boot-clause-started : goal.returns-in-Err-Boot-clause-started
returns-in-Err-Boot-clause-started g c =
    let before = outside (λ box. (g.dyn-1.0.entry box.vtable).1) (λ box. (g.dyn-2.0.entry box.vtable).1) c.args.devices.now in
    let after = outside (λ box. (g.dyn-1.0.entry box.vtable).1) (λ box. (g.dyn-2.0.entry box.vtable).1) c.new.new.devices in
    let same = where-refused c.in-Err-Boot.field-0
    (λ same. ap (λ devices. outside (λ box. (g.dyn-1.0.entry box.vtable).1) (λ box. (g.dyn-2.0.entry box.vtable).1) devices) same) c.in-Err-Boot.ensures.untouched in
    subst (λ (fault : SessionFault). HasStartedMachine c.args.machine.now (Err fault) before after)
    (sym (c.fault_of.ensures ∙ ap start_fault c.in-Err-Boot.fault-is))
    (start-refused c.args.machine.now c.in-Err-Boot.field-0 c.in-Err-Boot.fault before after c.in-Err-Boot.field-0-is
    c.in-Err-Boot.ensures.starts.refused same (ap (λ terms. terminal_states (λ box. (g.dyn-2.0.entry box.vtable).1)
    terms.items) c.in-Err-Boot.ensures.terms_kept) c.in-Err-Boot.ensures.starts.drives)

pub returns-in-Err-clause-started : goal.returns-in-Err-clause-started
returns-in-Err-clause-started g c =
    let before = outside (λ box. (g.dyn-1.0.entry box.vtable).1) (λ box. (g.dyn-2.0.entry box.vtable).1) c.args.devices.now in
    let started = outside (λ box. (g.dyn-1.0.entry box.vtable).1) (λ box. (g.dyn-2.0.entry box.vtable).1) c.new.new.devices in
    let after = outside (λ box. (g.dyn-1.0.entry box.vtable).1) (λ box. (g.dyn-2.0.entry box.vtable).1) c.load_keys.new.devices in
    let moved : drive_states started.drives ≡ drive_states before.drives = c.in-Ok.ensures.starts.drives.moves in
    let drives : drive_states after.drives ≡ drive_states started.drives = ap (λ drives. drive_states (drive_views (λ box. (g.dyn-1.0.entry box.vtable).1) drives.items))
    c.in-Err.ensures.drives_kept in
    let terms = ap (λ devices. terminal_states (λ box. (g.dyn-2.0.entry box.vtable).1) devices.terms.items)
    c.in-Err.ensures.kept ∙ ap (λ terms. terminal_states (λ box. (g.dyn-2.0.entry box.vtable).1) terms.items)
    c.in-Ok.ensures.terms_kept in
    no-start c.args.machine.now NoMemory before after (fell-kept before after terms (drives ∙ moved))

pub returns-in-Ok-load_keys-clause-started : goal.returns-in-Ok-load_keys-clause-started
returns-in-Ok-load_keys-clause-started g c =
    let before = outside (λ box. (g.dyn-1.0.entry box.vtable).1) (λ box. (g.dyn-2.0.entry box.vtable).1) c.args.devices.now in
    let started = outside (λ box. (g.dyn-1.0.entry box.vtable).1) (λ box. (g.dyn-2.0.entry box.vtable).1) c.new.new.devices in
    let after = outside (λ box. (g.dyn-1.0.entry box.vtable).1) (λ box. (g.dyn-2.0.entry box.vtable).1) c.load_keys.new.devices in
    let drives = ap (λ drives. drive_views (λ box. (g.dyn-1.0.entry box.vtable).1) drives.items) c.in-Ok-load_keys.ensures.drives_kept in
    let terms = c.in-Ok-load_keys.ensures.loaded ∙ ap (λ terms. loaded c.args.machine.now.keys.now terms)
    (ap (λ terms. terminal_states (λ box. (g.dyn-2.0.entry box.vtable).1) terms.items) c.in-Ok.ensures.terms_kept) in
    has-started c.args.machine.now c.in-Ok.kernel before started after c.requires c.in-Ok.ensures.starts.drives.moves
    drives terms (c.in-Ok.ensures.starts.stands [] (no-images _)) c.start.result c.start.ensures.goes_on
    c.start.ensures.at c.start.ensures.first c.in-Ok.ensures.starts.accepted

pub returns-in-Err-Boot-clause-drives : goal.returns-in-Err-Boot-clause-drives
returns-in-Err-Boot-clause-drives g c =
    omega (
      arith,
      drives-counted (λ box. (g.dyn-1.0.entry box.vtable).1) 0 _ c.args.devices.now.drives.items
          c.new.new.devices.drives.items (no-volumes _) c.in-Err-Boot.ensures.starts.drives,
      c.args.devices.now.drives.ok.0,
      c.new.new.devices.drives.ok.0,
    )

pub returns-in-Err-clause-drives : goal.returns-in-Err-clause-drives
returns-in-Err-clause-drives g c =
    omega (
      arith,
      drives-counted (λ box. (g.dyn-1.0.entry box.vtable).1) 0 _ c.args.devices.now.drives.items
          c.new.new.devices.drives.items (no-volumes _) c.in-Ok.ensures.starts.drives,
      c.args.devices.now.drives.ok.0,
      c.new.new.devices.drives.ok.0,
      ap vec_len c.in-Err.ensures.drives_kept,
    )

pub returns-in-Ok-load_keys-clause-drives : goal.returns-in-Ok-load_keys-clause-drives
returns-in-Ok-load_keys-clause-drives g c =
    omega (
      arith,
      drives-counted (λ box. (g.dyn-1.0.entry box.vtable).1) 0 _ c.args.devices.now.drives.items
          c.new.new.devices.drives.items (no-volumes _) c.in-Ok.ensures.starts.drives,
      c.args.devices.now.drives.ok.0,
      c.new.new.devices.drives.ok.0,
      ap vec_len c.in-Ok-load_keys.ensures.drives_kept,
    )
