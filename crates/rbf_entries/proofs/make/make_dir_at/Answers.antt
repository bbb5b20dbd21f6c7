use Rattle.std.proofs.Common.{◌+◌, refl, arith}
use Rattle.std.proofs.lemmas.Result.{err_from_is_err_and}
use Rattle.rbf_change.specs.Calls.{cluster_size}
use Rattle.rbf_change.specs.NewFiles.{file_clusters}
use Rattle.rbf_access.proofs.Counting.{counts_then}
use Rattle.rbf_alloc.proofs.Growing.{sizes_are}
use Rattle.rbf_entries.proofs.Counted.{room_calls, device_calls, as_number, some_number}
use Rattle.rbf_entries.proofs.FolderStepped.{reading_place, parent_low, no_room, folder_calls_here, not_made, number_low, read_there, entry_calls_here, enter_may, not_entered, is_entered, entered_calls}
use Rattle.rbf_entries.proofs.make.make_dir_at.Goals as goal

pub new_clusters-clusters-requires : goal.new_clusters-clusters-requires
new_clusters-clusters-requires g c =
    let m = c.requires.mounted in
    (sizes_are c.args.v.now m.on.image m.content m.on.vol m.agrees).some

pub returns-in_err-check_room-clause-answer : goal.returns-in_err-check_room-clause-answer
returns-in_err-check_room-clause-answer g c v file on is =
    let p = err_from_is_err_and c.from_residual.result c.from_residual.ensures.1 in
    rw (p.1, p.2) ((no_room _ c.args.found.now.dir.number c.args.found.now.place c.args.file.now.name c.args.file.now.attr
    c.args.found.now.by.user c.args.file.now.date c.requires.place.file
    (reading_place _ c.args.file.now.name c.args.found.now c.requires.place c.requires.reading) _ refl c.args.found.now.dir
    c.requires.place.read c.args.v.now c.requires.mounted c.new_clusters-clusters.result
    c.new_clusters-clusters.ensures.value c.in_err-check_room.field-0.0 c.in_err-check_room.ensures).1 v file on is)

pub returns-in_err-check_room-clause-counts : goal.returns-in_err-check_room-clause-counts
returns-in_err-check_room-clause-counts g c v file on is =
    let p = err_from_is_err_and c.from_residual.result c.from_residual.ensures.1 in
    rw (p.1, p.2) (room_calls v file (file_clusters (cluster_size v) 64 + 2) 0 c.in_err-check_room.field-0.0 _
    (no_room _ c.args.found.now.dir.number c.args.found.now.place c.args.file.now.name c.args.file.now.attr c.args.found.now.by.user
    c.args.file.now.date c.requires.place.file (reading_place _ c.args.file.now.name c.args.found.now c.requires.place
    c.requires.reading) _ refl c.args.found.now.dir c.requires.place.read c.args.v.now c.requires.mounted
    c.new_clusters-clusters.result c.new_clusters-clusters.ensures.value c.in_err-check_room.field-0.0
    c.in_err-check_room.ensures).0)

pub create_folder-requires-clause-parent : goal.create_folder-requires-clause-parent
create_folder-requires-clause-parent g c = parent_low _ c.args.found.now.dir.number c.requires.place.file

pub returns-in_err-n-clause-answer : goal.returns-in_err-n-clause-answer
returns-in_err-n-clause-answer g c v file on is =
    let p = err_from_is_err_and c.from_residual-in_err-n.result c.from_residual-in_err-n.ensures.1 in
    rw (p.1, p.2) ((not_made _ c.args.found.now.dir.number c.args.found.now.place c.args.file.now.name c.args.file.now.attr
    c.args.found.now.by.user c.args.file.now.date c.requires.place.file
    (reading_place _ c.args.file.now.name c.args.found.now c.requires.place c.requires.reading) _ refl c.args.found.now.dir
    c.requires.place.read c.args.v.now c.requires.mounted c.new_clusters-clusters.result
    c.new_clusters-clusters.ensures.value c.in_ok-check_room.ensures _ c.in_err-n.field-0.0 c.in_err-n.ensures.makes).1
    v file on is)

pub returns-in_err-n-clause-counts : goal.returns-in_err-n-clause-counts
returns-in_err-n-clause-counts g c v file on is =
    let p = err_from_is_err_and c.from_residual-in_err-n.result c.from_residual-in_err-n.ensures.1 in
    let calls =
    folder_calls_here _ c.args.found.now.dir.number c.args.found.now.place c.args.file.now.name c.args.file.now.attr
    c.args.found.now.by.user c.args.file.now.date c.requires.place.file
    (reading_place _ c.args.file.now.name c.args.found.now c.requires.place c.requires.reading) _ refl c.args.found.now.dir
    c.requires.place.read c.args.v.now c.requires.mounted c.new_clusters-clusters.result
    c.new_clusters-clusters.ensures.value c.in_ok-check_room.ensures (λ u. file_clusters (cluster_size u) 64 + 2) _ _ _
    c.in_err-n.ensures.counts v file on is in
    rw (p.1, p.2) (device_calls v file (file_clusters (cluster_size v) 64 + 2) 0 c.in_err-n.field-0.0
    (file_clusters (cluster_size v) 64 + 2) _ _ (omega arith)
    (not_made _ c.args.found.now.dir.number c.args.found.now.place c.args.file.now.name c.args.file.now.attr c.args.found.now.by.user
    c.args.file.now.date c.requires.place.file (reading_place _ c.args.file.now.name c.args.found.now c.requires.place
    c.requires.reading) _ refl c.args.found.now.dir c.requires.place.read c.args.v.now c.requires.mounted
    c.new_clusters-clusters.result c.new_clusters-clusters.ensures.value c.in_ok-check_room.ensures _
    c.in_err-n.field-0.0 c.in_err-n.ensures.makes).0 calls)

pub new_entry-requires : goal.new_entry-requires
new_entry-requires g c =
    number_low _ c.args.found.now.dir.number c.args.found.now.place c.args.file.now.name c.args.file.now.attr c.args.found.now.by.user
    c.args.file.now.date c.requires.place.file (reading_place _ c.args.file.now.name c.args.found.now c.requires.place
    c.requires.reading) _ refl c.args.found.now.dir c.requires.place.read c.args.v.now c.requires.mounted
    c.new_clusters-clusters.result c.new_clusters-clusters.ensures.value c.in_ok-check_room.ensures _ c.in_ok-n.n
    c.in_ok-n.ensures.makes

pub enter_file-requires-clause-read : goal.enter_file-requires-clause-read
enter_file-requires-clause-read g c =
    read_there _ c.args.found.now.dir.number c.args.found.now.place c.args.file.now.name c.args.file.now.attr c.args.found.now.by.user
    c.args.file.now.date c.requires.place.file (reading_place _ c.args.file.now.name c.args.found.now c.requires.place
    c.requires.reading) _ refl c.args.found.now.dir c.requires.place.read c.args.v.now c.requires.mounted
    c.new_clusters-clusters.result c.new_clusters-clusters.ensures.value c.in_ok-check_room.ensures _ c.in_ok-n.n
    c.in_ok-n.ensures.makes

pub enter_file-requires-clause-place : goal.enter_file-requires-clause-place
enter_file-requires-clause-place g c =
    enter_may _ c.args.found.now.dir.number c.args.found.now.place c.args.file.now.name c.args.file.now.attr c.args.found.now.by.user
    c.args.file.now.date c.requires.place.file (reading_place _ c.args.file.now.name c.args.found.now c.requires.place
    c.requires.reading) _ refl c.args.found.now.dir c.requires.place.read c.args.v.now c.requires.mounted
    c.new_clusters-clusters.result c.new_clusters-clusters.ensures.value c.in_ok-check_room.ensures _ c.in_ok-n.n
    c.in_ok-n.ensures.makes c.new_entry.result c.new_entry.ensures

pub returns-in_err-enter_file-clause-answer : goal.returns-in_err-enter_file-clause-answer
returns-in_err-enter_file-clause-answer g c v file on is =
    let p = err_from_is_err_and c.from_residual-in_err-enter_file.result c.from_residual-in_err-enter_file.ensures.1 in
    rw (p.1, p.2) (not_entered _ c.args.found.now.dir.number c.args.found.now.place c.args.file.now.name c.args.file.now.attr
    c.args.found.now.by.user c.args.file.now.date c.requires.place.file
    (reading_place _ c.args.file.now.name c.args.found.now c.requires.place c.requires.reading) _ refl c.args.found.now.dir
    c.requires.place.read c.args.v.now c.requires.mounted c.new_clusters-clusters.result
    c.new_clusters-clusters.ensures.value c.in_ok-check_room.ensures _ c.in_ok-n.n c.in_ok-n.ensures.makes
    c.new_entry.result c.new_entry.ensures _ c.in_err-enter_file.field-0.0 c.in_err-enter_file.ensures.device
    c.in_err-enter_file.ensures.answer v file on is)

pub returns-in_err-enter_file-clause-counts : goal.returns-in_err-enter_file-clause-counts
returns-in_err-enter_file-clause-counts g c v file on is =
    let p = err_from_is_err_and c.from_residual-in_err-enter_file.result c.from_residual-in_err-enter_file.ensures.1 in
    let made =
    folder_calls_here _ c.args.found.now.dir.number c.args.found.now.place c.args.file.now.name c.args.file.now.attr
    c.args.found.now.by.user c.args.file.now.date c.requires.place.file
    (reading_place _ c.args.file.now.name c.args.found.now c.requires.place c.requires.reading) _ refl c.args.found.now.dir
    c.requires.place.read c.args.v.now c.requires.mounted c.new_clusters-clusters.result
    c.new_clusters-clusters.ensures.value c.in_ok-check_room.ensures _ _ _ _ c.in_ok-n.ensures.counts v file on is in
    let calls =
    entry_calls_here _ c.args.found.now.dir.number c.args.found.now.place c.args.file.now.name c.args.file.now.attr
    c.args.found.now.by.user c.args.file.now.date c.requires.place.file
    (reading_place _ c.args.file.now.name c.args.found.now c.requires.place c.requires.reading) _ refl c.args.found.now.dir
    c.requires.place.read c.args.v.now c.requires.mounted c.new_clusters-clusters.result
    c.new_clusters-clusters.ensures.value c.in_ok-check_room.ensures _ c.in_ok-n.n c.in_ok-n.ensures.makes _ _ _
    c.in_err-enter_file.ensures.counts v file on is in
    rw (p.1, p.2) (device_calls v file (file_clusters (cluster_size v) 64 + 2) 0 c.in_err-enter_file.field-0.0 _ _ _
    (omega arith) (some_number c.in_err-enter_file.field-0.0 c.in_err-enter_file.ensures.device)
    (counts_then _ _ _ _ _ _ made (as_number c.in_err-enter_file.field-0.0 _ _ _ calls)))

pub returns-clause-answer : goal.returns-clause-answer
returns-clause-answer g c v file on is =
    is_entered _ c.args.found.now.dir.number c.args.found.now.place c.args.file.now.name c.args.file.now.attr c.args.found.now.by.user
    c.args.file.now.date c.requires.place.file (reading_place _ c.args.file.now.name c.args.found.now c.requires.place
    c.requires.reading) _ refl c.args.found.now.dir c.requires.place.read c.args.v.now c.requires.mounted
    c.new_clusters-clusters.result c.new_clusters-clusters.ensures.value c.in_ok-check_room.ensures _ c.in_ok-n.n
    c.in_ok-n.ensures.makes c.new_entry.result c.new_entry.ensures _ c.in_ok-enter_file.ensures.answer v file on is

pub returns-clause-counts : goal.returns-clause-counts
returns-clause-counts g c v file on is =
    let made =
    folder_calls_here _ c.args.found.now.dir.number c.args.found.now.place c.args.file.now.name c.args.file.now.attr
    c.args.found.now.by.user c.args.file.now.date c.requires.place.file
    (reading_place _ c.args.file.now.name c.args.found.now c.requires.place c.requires.reading) _ refl c.args.found.now.dir
    c.requires.place.read c.args.v.now c.requires.mounted c.new_clusters-clusters.result
    c.new_clusters-clusters.ensures.value c.in_ok-check_room.ensures _ _ _ _ c.in_ok-n.ensures.counts v file on is in
    entered_calls _ c.args.found.now.dir.number c.args.found.now.place c.args.file.now.name c.args.file.now.attr c.args.found.now.by.user
    c.args.file.now.date c.requires.place.file (reading_place _ c.args.file.now.name c.args.found.now c.requires.place
    c.requires.reading) _ refl c.args.found.now.dir c.requires.place.read c.args.v.now c.requires.mounted
    c.new_clusters-clusters.result c.new_clusters-clusters.ensures.value c.in_ok-check_room.ensures _ c.in_ok-n.n
    c.in_ok-n.ensures.makes c.new_entry.result c.new_entry.ensures _ c.in_ok-enter_file.ensures.answer v file _ _ _ made
    (entry_calls_here _ c.args.found.now.dir.number c.args.found.now.place c.args.file.now.name c.args.file.now.attr
    c.args.found.now.by.user c.args.file.now.date c.requires.place.file
    (reading_place _ c.args.file.now.name c.args.found.now c.requires.place c.requires.reading) _ refl c.args.found.now.dir
    c.requires.place.read c.args.v.now c.requires.mounted c.new_clusters-clusters.result
    c.new_clusters-clusters.ensures.value c.in_ok-check_room.ensures _ c.in_ok-n.n c.in_ok-n.ensures.makes _ _ _
    c.in_ok-enter_file.ensures.counts v file on is)
