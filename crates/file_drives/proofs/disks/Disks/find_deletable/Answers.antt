use Rattle.std.proofs.Common.{rules}
use Rattle.rbf_change.specs.Names.{deletion_end}
use Rattle.rbf_entries.specs.Deletions.{deletion_calls, descriptor_found}
use Rattle.rbf_walk.specs.Walk.{AnswersWalk, directory_fault}
use Rattle.file_drives.proofs.FindLemmas.{entry-found}
use Rattle.file_drives.proofs.PlacedLemmas.{has-file, is-mounted, none-kept, on-file, only-reads, view-after}
use Rattle.file_drives.proofs.disks.Disks.find_deletable.Goals as goal

pub find_deletable-requires-clause-mounted : goal.find_deletable-requires-clause-mounted
find_deletable-requires-clause-mounted g c =
    is-mounted (goal.BlockDriver-dyn g) c.args.devices.now.drives.items c.self.view_is c.self.invariant c.index_mut.ensures.value
    c.in-Some.is c.index_mut-in-Some.ensures.value (search rules) c.requires.file

pub find_deletable-requires-clause-file : goal.find_deletable-requires-clause-file
find_deletable-requires-clause-file g c =
    has-file (goal.BlockDriver-dyn g) c.args.devices.now.drives.items c.self.view_is c.self.invariant c.index_mut.ensures.value
    c.in-Some.is c.index_mut-in-Some.ensures.value (search rules) c.requires.file

pub unreachable-requires : goal.unreachable-requires
unreachable-requires g c = none-kept c.self.view_is c.self.invariant c.index_mut.ensures.value c.requires.file c.in-None.is

pub returns-clause-answer : goal.returns-clause-answer
returns-clause-answer g c =
    on-file (goal.BlockDriver-dyn g) c.args.devices.now.drives.items c.self.view_is c.self.invariant c.index_mut.ensures.value
    c.in-Some.is c.index_mut-in-Some.ensures.value (search rules) c.requires.file
    (λ v file. AnswersWalk (deletion_end v.files file c.args.name.now c.args.by.user c.args.by.execute) (descriptor_found c.find_deletable.result)) c.find_deletable.ensures.answer

pub returns-clause-found : goal.returns-clause-found
returns-clause-found g c =
    entry-found _ _ _ c.args.dir c.args.name.now c.find_deletable.result
    (view-after _ c.args.devices.now.drives.items _ c.requires.file)
    c.find_deletable.ensures.media_kept c.find_deletable.ensures.ok

pub returns-clause-drive : goal.returns-clause-drive
returns-clause-drive g c =
    only-reads (goal.BlockDriver-dyn g) c.args.devices.now.drives.items c.self.view_is c.self.invariant c.index_mut.ensures.value
    c.in-Some.is c.index_mut-in-Some.ensures.value (search rules) c.requires.file _
    (directory_fault c.find_deletable.result) (λ v file. deletion_calls file c.args.name.now c.args.by.user c.args.by.execute) c.find_deletable.ensures.media_kept
    c.find_deletable.ensures.volume_kept c.find_deletable.ensures.mounted c.find_deletable.ensures.counts
