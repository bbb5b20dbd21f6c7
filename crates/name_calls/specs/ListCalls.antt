-- The greatest number of drive calls in the calls on names of files and directories (this project's own): for each
-- directory of the walk, and for the work at its end.
use Rattle.std.specs.Prelude.{ℕ, ◌+◌, Bool, false, Option, Some, None, List}
use Rattle.std.specs.Option.{option_map_or}
use Rattle.rbf_model.specs.File.{DiskFile}
use Rattle.rbf_model.specs.Volume.{DiskVolume, in_file}
use Rattle.rbf_model.specs.Walk.{look_up}
use Rattle.rbf_change.specs.Calls.{cluster_size, shape}
use Rattle.rbf_change.specs.NewFiles.{file_clusters}
use Rattle.rbf_access.specs.MapMarks.{marking_sectors}
use Rattle.rbf_entries.specs.Entering.{entry_calls}
use Rattle.rbf_entries.specs.Places.{place_calls}
use Rattle.rbf_entries.specs.Deletions.{deletion_calls}
use Rattle.file_rules.specs.Files.{Asker, Files, volume_at}
use Rattle.file_rules.specs.MakDir.{new_directory_size}
use Rattle.file_rules.specs.Open.{is_for_execution}
use Rattle.file_rules.specs.Route.{Route, along, to_device, nowhere, before_last, last_of, list_of, route_of}
use Rattle.file_routes.specs.Calls.{listed_calls, walk_and}
use Rattle.file_routes.specs.Routes.{route_for}
use Rattle.file_routes.specs.declared.route.Purpose.{Purpose}
use Rattle.file_routes.specs.declared.route.Purpose.TheVariants.{Existing, New}

-- ---- to a file

abbrev pub route_calls : Asker → Files → Bool → (DiskVolume → DiskFile → ℕ) → Route → ℕ
route_calls asker files execute most (along from names) =
    walk_and asker.user execute from.number names most (volume_at files from.drive)
route_calls asker files execute most to_device = 0
route_calls asker files execute most (nowhere number) = 0

-- by the list at X, for execution or not
abbrev pub located_calls : Bool → (DiskVolume → DiskFile → ℕ) → Asker → Files → ℕ → ℕ
located_calls execute most asker files terms =
    listed_calls (list_of asker) (λ list. route_calls asker files execute most (route_of asker files terms execute
    list))

-- the descriptor of the found file is read
abbrev pub i_chgdir_calls : Asker → Files → ℕ → ℕ
i_chgdir_calls asker files terms =
    located_calls (is_for_execution asker.caller.regs.a) (λ v file. 1) asker files terms

-- ---- to the directory of the last name

-- by that name; a list without names calls no drive
abbrev pub last_calls : Asker → Files → Bool → (List ℕ → DiskVolume → DiskFile → ℕ) → Route → Option (List ℕ) → ℕ
last_calls asker files execute most (along from names) None = 0
last_calls asker files execute most (along from names) (Some name) =
    walk_and asker.user execute from.number (before_last names) (most name) (volume_at files from.drive)
last_calls asker files execute most to_device name = 0
last_calls asker files execute most (nowhere number) name = 0

-- by the list at X, for execution or not
abbrev pub named_calls : Purpose → Bool → (List ℕ → DiskVolume → DiskFile → ℕ) → Asker → Files → ℕ → ℕ
named_calls purpose execute most asker files terms =
    listed_calls (list_of asker)
    (λ list. last_calls asker files execute most (route_for purpose asker files terms execute list)
    (last_of list.names))

-- the search for the place of the new entry, the making of the directory, and its entry
abbrev pub making_calls : ℕ → List ℕ → DiskVolume → DiskFile → ℕ
making_calls user name v dir =
    place_calls dir name user false + (file_clusters (cluster_size v) new_directory_size + 2 + entry_calls v dir)

abbrev pub i_makdir_calls : Asker → Files → ℕ → ℕ
i_makdir_calls asker files terms = named_calls New false (making_calls asker.user) asker files terms

-- the search for the entry; then the entry and the clusters of its file are made free
abbrev pub deleting_calls : ℕ → Bool → List ℕ → DiskVolume → DiskFile → ℕ
deleting_calls user execute name v dir =
    deletion_calls dir name user execute
    + option_map_or (λ n. 2 + marking_sectors (shape v) (in_file (shape v) n (v.files n)))
    (look_up dir.contents name) 0

-- for execution or not
abbrev pub deletes_by_calls : Bool → Asker → Files → ℕ → ℕ
deletes_by_calls execute asker files terms =
    named_calls Existing execute (deleting_calls asker.user execute) asker files terms

abbrev pub i_delete_calls : Asker → Files → ℕ → ℕ
i_delete_calls asker files terms = deletes_by_calls false asker files terms

abbrev pub i_deletx_calls : Asker → Files → ℕ → ℕ
i_deletx_calls asker files terms = deletes_by_calls (is_for_execution asker.caller.regs.a) asker files terms
