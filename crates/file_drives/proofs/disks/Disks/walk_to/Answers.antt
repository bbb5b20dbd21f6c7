use Rattle.std.proofs.Common.{rules, Some}
use Rattle.rbf_model.specs.Walk.{step}
use Rattle.rbf_walk.specs.Walk.{AnswersWalk, directory_fault, step_calls}
use Rattle.file_drives.proofs.WalkLemmas.{few-calls, walked-on}
use Rattle.file_drives.proofs.PlacedLemmas.{arrives-on, has-file, is-mounted, none-kept, reads-placed, walked-placed}
use Rattle.file_drives.proofs.disks.Disks.walk_to.Goals as goal

pub walk-requires-clause-mounted : goal.walk-requires-clause-mounted
walk-requires-clause-mounted g c =
    is-mounted (goal.BlockDriver-dyn g) c.args.devices.now.drives.items c.self.view_is c.self.invariant c.index_mut.ensures.value
    c.in-Some.is c.index_mut-in-Some.ensures.value (search rules) c.requires.file

pub walk-requires-clause-file : goal.walk-requires-clause-file
walk-requires-clause-file g c =
    has-file (goal.BlockDriver-dyn g) c.args.devices.now.drives.items c.self.view_is c.self.invariant c.index_mut.ensures.value
    c.in-Some.is c.index_mut-in-Some.ensures.value (search rules) c.requires.file

pub unreachable-requires : goal.unreachable-requires
unreachable-requires g c = none-kept c.self.view_is c.self.invariant c.index_mut.ensures.value c.requires.file c.in-None.is

pub returns-clause-walked : goal.returns-clause-walked
returns-clause-walked g c =
    walked-placed (goal.BlockDriver-dyn g) c.args.devices.now.drives.items c.self.view_is c.self.invariant c.index_mut.ensures.value
    c.in-Some.is c.index_mut-in-Some.ensures.value (search rules) c.requires.file
    (λ v file end. AnswersWalk (step (Some file) c.args.by.user c.args.by.execute c.args.name.now) end) c.walk.result c.placed.result
    c.placed.ensures.number (walked-on _ c.args.place.number c.args.by.user c.args.by.execute c.args.name.now c.walk.result c.walk.ensures.walked)

pub returns-clause-file : goal.returns-clause-file
returns-clause-file g c =
    arrives-on (goal.BlockDriver-dyn g) c.args.devices.now.drives.items c.self.view_is c.self.invariant c.index_mut.ensures.value
    c.in-Some.is c.index_mut-in-Some.ensures.value (search rules) c.requires.file _
    c.walk.result c.placed.result c.placed.ensures.number c.placed.ensures.drive c.walk.ensures.media_kept c.walk.ensures.mounted c.walk.ensures.file

pub returns-clause-drive : goal.returns-clause-drive
returns-clause-drive g c =
    reads-placed (goal.BlockDriver-dyn g) c.args.devices.now.drives.items c.self.view_is c.self.invariant c.index_mut.ensures.value
    c.in-Some.is c.index_mut-in-Some.ensures.value (search rules) c.requires.file _
    (λ v file. step_calls (Some file) c.args.by.user c.args.by.execute c.args.name.now) c.walk.result c.placed.result c.placed.ensures.number
    c.walk.ensures.media_kept c.walk.ensures.volume_kept c.walk.ensures.mounted
    (few-calls _ c.args.place.number c.args.by.user c.args.by.execute c.args.name.now (directory_fault c.walk.result) _ _ c.walk.ensures.counts)
