use Rattle.std.proofs.Common.{rules}
use Rattle.rbf_entries.specs.Places.{AnswersPlace, place_calls, place_found}
use Rattle.rbf_walk.specs.Walk.{directory_fault}
use Rattle.file_drives.proofs.FindLemmas.{place-found}
use Rattle.file_drives.proofs.PlacedLemmas.{has-file, is-mounted, none-kept, on-file, only-reads, view-after}
use Rattle.file_drives.proofs.disks.Disks.find_place.Goals as goal

pub find_place-requires-clause-mounted : goal.find_place-requires-clause-mounted
find_place-requires-clause-mounted g c =
    is-mounted (goal.BlockDriver-dyn g) c.args.devices.now.drives.items c.self.view_is c.self.invariant c.index_mut.ensures.value
    c.in-Some.is c.index_mut-in-Some.ensures.value (search rules) c.requires.file

pub find_place-requires-clause-file : goal.find_place-requires-clause-file
find_place-requires-clause-file g c =
    has-file (goal.BlockDriver-dyn g) c.args.devices.now.drives.items c.self.view_is c.self.invariant c.index_mut.ensures.value
    c.in-Some.is c.index_mut-in-Some.ensures.value (search rules) c.requires.file

pub unreachable-requires : goal.unreachable-requires
unreachable-requires g c = none-kept c.self.view_is c.self.invariant c.index_mut.ensures.value c.requires.file c.in-None.is

pub returns-clause-answer : goal.returns-clause-answer
returns-clause-answer g c =
    on-file (goal.BlockDriver-dyn g) c.args.devices.now.drives.items c.self.view_is c.self.invariant c.index_mut.ensures.value
    c.in-Some.is c.index_mut-in-Some.ensures.value (search rules) c.requires.file
    (λ v file. AnswersPlace file c.args.name.now c.args.by.user c.args.by.execute (place_found c.find_place.result)) c.find_place.ensures.answer

pub returns-clause-found : goal.returns-clause-found
returns-clause-found g c =
    place-found _ _ _ c.args.dir c.args.name.now c.args.by.user c.args.by.execute c.find_place.result
    (view-after _ c.args.devices.now.drives.items _ c.requires.file)
    (has-file (goal.BlockDriver-dyn g) c.args.devices.now.drives.items c.self.view_is c.self.invariant c.index_mut.ensures.value
    c.in-Some.is c.index_mut-in-Some.ensures.value (search rules) c.requires.file)
    c.find_place.ensures.media_kept c.find_place.ensures.answer c.find_place.ensures.read

pub returns-clause-drive : goal.returns-clause-drive
returns-clause-drive g c =
    only-reads (goal.BlockDriver-dyn g) c.args.devices.now.drives.items c.self.view_is c.self.invariant c.index_mut.ensures.value
    c.in-Some.is c.index_mut-in-Some.ensures.value (search rules) c.requires.file _
    (directory_fault c.find_place.result) (λ v file. place_calls file c.args.name.now c.args.by.user c.args.by.execute) c.find_place.ensures.media_kept c.find_place.ensures.volume_kept
    c.find_place.ensures.mounted c.find_place.ensures.counts
