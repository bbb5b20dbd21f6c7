use Rattle.std.proofs.Common.{Err, Ok, arith}
use Rattle.std.proofs.lemmas.List.{length-map}
use Rattle.file_drives.specs.Drives.{boxed_seen}
use Rattle.file_state.specs.declared.state.FileState.{FileState}
use Rattle.cold_start.proofs.StartLemmas.{among-as, moves-as, started-on, starts-drives}
use Rattle.cold_start.proofs.files.start_files.Goals as goal

pub returns-in-Err-clause-drives : goal.returns-in-Err-clause-drives
returns-in-Err-clause-drives g c =
    let views = length-map c.args.devices.now.drives.items (boxed_seen (λ box. (g.dyn-1.0.entry box.vtable).1)) in
    let few = c.requires.few in
    starts-drives {A = FileState} (Err c.in-Err.fault) c.mount_first.new.state c.args.drives _ _ _ c.requires.volumes
    (λ volumes many hold. c.in_ok-mount_first.ensures.mounts.mounted volumes many hold
    (c.in_ok-state.ensures.state _ (omega (arith, few, views)))) c.in_ok-mount_first.ensures.mounts.read
    c.in_ok-mount_first.ensures.mounts.moves c.in-Err.ensures.gives.read (moves-as (Unit {0}) FileState
    c.in-Err.fault _ _ c.in-Err.ensures.gives.moves) (λ volumes has. among-as (Unit {0}) FileState c.in-Err.fault
    _ (c.in-Err.ensures.gives.among volumes has))

pub returns-in-Ok-clause-started : goal.returns-in-Ok-clause-started
returns-in-Ok-clause-started g c images at =
    let have = c.requires.volumes in
    let views = length-map c.args.devices.now.drives.items (boxed_seen (λ box. (g.dyn-1.0.entry box.vtable).1)) in
    let few = c.requires.few in
    started-on images c.give_directories.new.state _ _ c.args.drives have at
    (c.in-Ok.ensures.gives.stands have.volumes (c.in_ok-mount_first.ensures.mounts.mounted have.volumes have.as_many have.hold (c.in_ok-state.ensures.state _ (omega (arith, few, views)))))

pub returns-in-Ok-clause-drives : goal.returns-in-Ok-clause-drives
returns-in-Ok-clause-drives g c =
    let views = length-map c.args.devices.now.drives.items (boxed_seen (λ box. (g.dyn-1.0.entry box.vtable).1)) in
    let few = c.requires.few in
    starts-drives {A = FileState} (Ok c.give_directories.new.state) c.mount_first.new.state c.args.drives _ _ _
    c.requires.volumes (λ volumes many hold. c.in_ok-mount_first.ensures.mounts.mounted volumes many hold
    (c.in_ok-state.ensures.state _ (omega (arith, few, views)))) c.in_ok-mount_first.ensures.mounts.read
    c.in_ok-mount_first.ensures.mounts.moves c.in-Ok.ensures.gives.read c.in-Ok.ensures.gives.moves
    (λ volumes has. tt)
