-- I$Create (System Programmer's Manual, I$Create).
-- Takes the mode in A, the attributes in B and the path list at X; returns the number of the path in A, and X past the
-- list. The file is empty, and the caller's user owns it. Neither it nor its mode is tested against the attributes. A
-- terminal or a pipe is opened.
-- Errors: E$BPAddr, E$BMode, E$BPNam, E$MNF, E$FNA, E$PNNF, E$FNA (of the directory, and of bit 7 in B), E$CEF,
-- E$PthFul, E$Full, E$SLF.
use Rattle.std.specs.Prelude.{ℕ, ◌+◌, ◌==◌, ◌&&◌, not, is_some, nat_lt, List, length}
use Rattle.os9_base.specs.declared.errors.TheConstants.{E_BPNAM, E_FNA, E_CEF, E_PTHFUL, E_FULL, E_SLF}
use Rattle.io_model.specs.Path.{new_number, paths_after_begin}
use Rattle.io_model.specs.declared.path.Target.TheVariants.{File}
use Rattle.rbf_model.specs.Walk.{look_up}
use Rattle.rbf_change.specs.Calls.{cluster_size, free_total}
use Rattle.rbf_change.specs.Names.{may_change}
use Rattle.rbf_change.specs.NewFiles.{entry_clusters, file_clusters}
use Rattle.io_model.specs.Io.{new_desc}
use Rattle.io_model.specs.Modes.{can_write}
use Rattle.io_model.specs.Open.{i_create as opens_for_create, opened_regs}
use Rattle.io_model.specs.PathList.{PathList}
use Rattle.io_model.specs.Step.{answers}
use Rattle.file_rules.specs.Change.{creates}
use Rattle.file_rules.specs.Files.{Files, Asker, with_path_table}
use Rattle.file_rules.specs.Open.{is_for_execution, says_directory, tests_mode}
use Rattle.file_rules.specs.Step.{FileEffect, FileStep, refused, comes, as_io, changes, needs, refuses, leaves}
use Rattle.file_rules.specs.Route.{Route, along, to_device, nowhere, Found, route_to_new, reads_list, list_of, walks, last_of, before_last}

-- the number of clusters that a new file of a size and its entry in a directory need
abbrev pub clusters_for : Found → ℕ → ℕ
clusters_for dir size = file_clusters (cluster_size dir.volume) size + entry_clusters (cluster_size dir.volume) dir.file

-- the effect in addition to a new file of this number: a path on it
abbrev pub opens_new : Asker → Files → PathList → ℕ → ℕ → ℕ → FileEffect
opens_new asker files list drive number n =
    leaves (answers (opened_regs asker.caller.regs list number))
    (with_path_table files (paths_after_begin files.io.paths asker.caller.process.0
    (new_desc (File drive n) asker.caller.regs.a)))

-- the volume has room for a new file of a size and its entry in a directory; else the call is refused
abbrev pub has_room_for : Found → ℕ → FileStep → FileStep
has_room_for dir size next =
    refuses (nat_lt (free_total dir.volume) (clusters_for dir size)) E_FULL
    (refuses (nat_lt 0 (entry_clusters (cluster_size dir.volume) dir.file) && (length dir.file.segments == 48)) E_SLF
    next)

-- the file is made in the found directory, with a path on it
abbrev pub creates_with_path : Asker → Files → PathList → List ℕ → Found → FileStep
creates_with_path asker files list name dir =
    needs (new_number files.io.paths asker.caller.process.0) E_PTHFUL
    (λ number. has_room_for dir 0
    (comes (changes (record {
      drive = dir.place.drive;
      change = creates dir.place.number name asker.caller.regs.b;
      effect = opens_new asker files list dir.place.drive number;
    }))))

abbrev pub creates_in : Asker → Files → PathList → List ℕ → Found → FileStep
creates_in asker files list name dir =
    refuses (not (may_change dir.file asker.user (is_for_execution asker.caller.regs.a))) E_FNA
    (refuses (says_directory asker.caller.regs.b) E_FNA
    (refuses (is_some (look_up dir.file.contents name)) E_CEF (creates_with_path asker files list name dir)))

-- a terminal or a pipe is opened
abbrev pub creates_on_device : Asker → Files → ℕ → FileStep
creates_on_device asker files terms =
    comes (as_io (opens_for_create asker.caller files.io (length files.drives) terms))

abbrev pub creates_on_route : Asker → Files → ℕ → PathList → Route → FileStep
creates_on_route asker files terms list (along from names) =
    needs (last_of names) E_BPNAM
    (λ name. walks asker files (is_for_execution asker.caller.regs.a) from (before_last names)
    (creates_in asker files list name))
creates_on_route asker files terms list to_device = creates_on_device asker files terms
creates_on_route asker files terms list (nowhere number) = refused number

abbrev pub i_create : Asker → Files → ℕ → FileStep
i_create asker files terms =
    reads_list (list_of asker) (tests_mode (can_write asker.caller.regs.a))
    (λ list. creates_on_route asker files terms list
    (route_to_new asker files terms (is_for_execution asker.caller.regs.a) list))
