-- An attempt of a call on paths, files and directories has an end: one where nothing fails, or where it makes a file or a
-- directory one with a fault of the drive that it reaches.
use Rattle.std.proofs.Common.{◌≡◌, ◌⊎◌, ℕ, ◌+◌, ◌^◌, ◌-◌, ◌%◌, ◌<◌, ◌≤◌, ◌==◌, not, Bool, true, false, Option, Some, None, is_some, List, [], length, refl, sym, ap, subst, inl, inr, arith}
use Rattle.std.specs.Prelude.{◌&&◌, if◌then◌else◌, is_none, min, nat_le, nat_lt, option_map, slice_set, take}
use Rattle.std.proofs.lemmas.Bool.{ltb-false}
use Rattle.std.proofs.lemmas.List.{get_or-set_other, get_or-set_same, length-set}
use Rattle.os9_base.specs.Count.{Rose}
use Rattle.os9_base.specs.declared.calls.TheConstants.{F_PERR, I_WRITE, I_WRITLN}
use Rattle.os9_base.specs.declared.errors.TheConstants.{E_BMODE, E_BPADDR, E_BPNAM, E_BPNUM, E_CEF, E_DEADLK, E_EOF, E_FNA, E_FULL, E_LOCK, E_MNF, E_PNNF, E_PTHFUL, E_SHARE, E_SLF, E_UNKSVC}
use Rattle.os9_base.specs.declared.registers.Regs.{Regs}
use Rattle.os9_outer.specs.Drive.{drive_error}
use Rattle.os9_outer.specs.TerminalState.{TerminalState, fault_counts}
use Rattle.os9_outer.specs.declared.drive.DriveFault.TheVariants.{NotReady}
use Rattle.proc_model.specs.UserBytes.{user_bytes}
use Rattle.rbf_model.specs.Volume.{DiskVolume}
use Rattle.rbf_model.specs.Walk.{WalkEnd, arrives, look_up, not_allowed, not_found, walk}
use Rattle.rbf_change.specs.Calls.{cluster_size, free_total}
use Rattle.rbf_change.specs.Contents.{written}
use Rattle.rbf_change.specs.Faults.{before}
use Rattle.rbf_change.specs.Growth.{clusters_needed}
use Rattle.rbf_change.specs.Names.{may_change, may_delete}
use Rattle.rbf_change.specs.NewFiles.{entry_clusters, owns_file}
use Rattle.io_model.specs.declared.terminal.ReadKind.{ReadKind}
use Rattle.io_model.specs.declared.terminal.ReadKind.TheVariants.{Bytes, WholeLine}
use Rattle.lock_model.specs.Records.{holding, without_lock, written_by}
use Rattle.lock_model.specs.declared.lock.Grant.{Grant}
use Rattle.lock_model.specs.declared.lock.Grant.TheVariants.{Granted, Locked, Deadlock, Wait}
use Rattle.lock_model.specs.declared.lock.Request.{Request}
use Rattle.io_model.specs.Path.{new_number, paths_after_begin}
use Rattle.io_model.specs.Attempts.{io_step}
use Rattle.io_model.specs.Close.{i_close as closes_device}
use Rattle.io_model.specs.Io.{OpenPath, new_desc, open_path}
use Rattle.io_model.specs.Modes.{can_read, can_write, is_mode}
use Rattle.io_model.specs.Open.{opened_regs}
use Rattle.io_model.specs.PathList.{PathList}
use Rattle.io_model.specs.Pipes.{count_regs}
use Rattle.io_model.specs.Read.{i_read as reads_device, i_readln as reads_device_line}
use Rattle.io_model.specs.Status.{i_getstt as gets_of_device, i_setstt as sets_of_device, options}
use Rattle.io_model.specs.Step.{IoStep, answers, keeps, done as io_done, needs as io_needs, refused as io_refused}
use Rattle.io_model.specs.Write.{error_line, f_perr as tells_device, i_write as writes_device, i_writln as writes_device_line}
use Rattle.io_model.specs.declared.io_call.IoCall.{IoCall}
use Rattle.io_model.specs.declared.io_call.IoCall.TheVariants as Device
use Rattle.io_model.specs.declared.modes.TheConstants.{STANDARD_ERROR}
use Rattle.io_model.specs.declared.status.TheConstants.{OPTION_BYTES, SS_EOF, SS_OPT, SS_READY}
use Rattle.file_rules.specs.Attempts.{file_step}
use Rattle.file_rules.specs.Change.{Change, creates, deletes, makes_directory, sets_attributes, sizes, writes}
use Rattle.file_rules.specs.ChgDir.{goes_on_route, goes_to, may_go_to}
use Rattle.file_rules.specs.Create.{clusters_for, creates_in, creates_on_route, creates_with_path, has_room_for, opens_new}
use Rattle.file_rules.specs.Delete.{deletes_by, deletes_file, deletes_in, deletes_named}
use Rattle.file_rules.specs.Files.{Asker, DriveState, Files, KeepsDriveFaults, OneFailed, OpenFile, directories_at, drive_at, new_drive, open_file, target_on, volume_at, with_directories_of, with_directory, with_drives, with_path_table, with_position, with_records, with_ticks, with_volume}
use Rattle.file_rules.specs.Close.{files_after_close}
use Rattle.file_rules.specs.Locking.{answer_to, asks, asks_by, call_of, is_for_update, pending_request, request_now, waiting_in}
use Rattle.file_rules.specs.MakDir.{makes_in, makes_on_route, new_directory_size, past_list}
use Rattle.file_rules.specs.OnFile.{by_kind, moves_bytes, on_file}
use Rattle.file_rules.specs.Open.{begins_on, is_for_execution, may_open, opens_found, opens_on_route, says_directory, tests_mode}
use Rattle.file_rules.specs.Read.{answers_bytes, bytes_at, lock_by, read_claim, read_start, reads_at, reads_file, reads_freely, reads_locked, reads_on}
use Rattle.file_rules.specs.Seek.{long_of, seeks_nothing}
use Rattle.file_rules.specs.Sharing.{is_not_shared, is_open}
use Rattle.file_rules.specs.Status.{asked_bytes, descriptor_front, gets_bytes, gets_descriptor, gets_end, gets_size, gets_status, after_size, lock_claim, locks_bytes, locks_range, long_regs, sets_attributes_of, sets_lock, sets_size, sets_ticks, size_claim, sizes_locked}
use Rattle.file_rules.specs.Step.{Deed, DoesDeed, FileDoes, FileEffect, FileStep, MayBeLeft, VolumeChange, as_io, changes, comes, deed_of, done, leaves, leaves_so, needs, on_files, reaches, refused, refuses, refuses_so, stores, with_drives_after}
use Rattle.file_rules.specs.Route.{Found, Route, along, before_last, last_of, list_of, nowhere, to_device, walk_ends, walks, route_of, route_to_new}
use Rattle.file_rules.specs.Write.{changes_file, line_moved, sends_bytes, write_claim, writes_bytes, writes_locked}
use Rattle.file_rules.specs.declared.path_call.PathCall.{PathCall}
use Rattle.file_rules.specs.declared.path_call.PathCall.TheVariants as Call
use Rattle.lock_model.specs.declared.place.FilePlace.{FilePlace}
use Rattle.file_rules.specs.declared.status.TheConstants.{SS_ATTR, SS_FD, SS_LOCK, SS_POS, SS_SIZE, SS_TICKS}
use Rattle.file_laws.specs.Kinds.{AreKinds}
use Rattle.file_laws.proofs.Named.{IsNamed, is-named}
use Rattle.file_laws.proofs.Steps.{IsFound, list-by, needs-by, refuses-by}
use Rattle.call_laws.specs.Terminals.{AreOnTerminals}
use Rattle.call_laws.proofs.StepWalk.{step-gives}
use Rattle.run_laws.proofs.SomeEffects.{IsThere, SomeEffect, call-there, some-effect}
use Rattle.run_laws.specs.Mounted.{MountsAreSound}
use Rattle.run_laws.proofs.Changing.{SomeChange, some-attributes, some-deletion, some-size, some-write}

min-least : (n m : ℕ) → min n m ≤ n
min-least n m = omega arith

-- it makes a file or a directory
abbrev pub IsMaking : PathCall → Type 0
IsMaking Call.Create = Unit {0}
IsMaking Call.MakDir = Unit {0}
IsMaking call = ⊥

-- it makes one on a volume that is mounted
pub record Making (call : PathCall) (files : Files) : Type 0 where
  pub makes : IsMaking call
  pub drive : ℕ
  pub volume : DiskVolume
  pub mounted : volume_at files drive ≡ Some volume

module _ (call : PathCall) (asker : Asker) (files : Files) (terms : List TerminalState) where
  -- a deed that is done, without a failure of a terminal
  record SomeDeed (deed : Deed) : Type 0 where
    pub it : FileEffect
    pub after : List TerminalState
    pub does : DoesDeed deed asker files it terms after
    pub counts : fault_counts after ≡ fault_counts terms

  pub record Ends (step : FileStep) : Type 0 where
    pub effect : FileEffect
    pub after : List TerminalState
    pub does : FileDoes step asker files effect terms after
    pub counts : fault_counts after ≡ fault_counts terms
    pub stays : KeepsDriveFaults files.drives effect.files.drives ⊎ Making call files

  -- what is done on this drive, or a fault of it may leave its volume as it was
  abbrev On : ℕ → FileStep → Type 0
  On drive step =
      SomeDeed (deed_of step files)
      ⊎ (IsMaking call × (old : DiskVolume) × (volume_at files drive ≡ Some old) × MayBeLeft (deed_of step files) asker old old)

  deed-ends : (step : FileStep) → SomeDeed (deed_of step files) → Ends step
  deed-ends step deed = record {
    effect = with_drives_after deed.it files.drives;
    after = deed.after;
    does =
        inl (record { it = deed.it; does = deed.does; drives = files.drives; none_failed = refl; effect_is = refl });
    counts = deed.counts;
    stays = inl refl;
  }

  leaves-deed : (it : FileEffect) → SomeDeed (leaves_so it)
  leaves-deed it = record { it = it; after = terms; does = (refl, refl); counts = refl }

  none-ends : (number : ℕ) → Ends (refused number)
  none-ends number = deed-ends (refused number) (leaves-deed (refuses_so number files))

  leaves-ends : (it : FileEffect) → Ends (comes (leaves_so it))
  leaves-ends it = deed-ends (comes (leaves_so it)) (leaves-deed it)

  none-on : (drive number : ℕ) → On drive (refused number)
  none-on drive number = inl (leaves-deed (refuses_so number files))

  leaves-on : (drive : ℕ) (it : FileEffect) → On drive (comes (leaves_so it))
  leaves-on drive it = inl (leaves-deed it)

  change-on : (drive : ℕ) (it : VolumeChange) → SomeChange it asker files → On drive (comes (changes it))
  change-on drive it (effect, is) = inl (record { it = effect; after = terms; does = (is, refl); counts = refl })

  mode-ends : (allowed : Bool) (step : FileStep) → Ends step → Ends (tests_mode allowed step)
  mode-ends allowed step it = refuses-by Ends none-ends (not allowed) E_BMODE step (λ is. it)

  -- ---- terminals and pipes

  io-ends : (step : IoStep) → IsThere (length terms) step → Ends (comes (as_io step))
  io-ends step there =
      let it : SomeEffect step asker.caller files.io terms = some-effect step asker.caller files.io terms there in
      deed-ends (comes (as_io step)) (record {
        it = on_files asker.caller.process.0 files it.effect;
        after = it.after;
        does = (it.effect, it.does, refl);
        counts = it.counts;
      })

  module _ (on : AreOnTerminals (length terms) files.io.paths) where
    device-ends : (device : IoCall) → Ends (comes (as_io (io_step device asker.caller files.io (length files.drives) (length terms))))
    device-ends device =
        io-ends (io_step device asker.caller files.io (length files.drives) (length terms))
        (call-there device asker.caller files.io (length terms) (io_step device asker.caller files.io (length files.drives) (length terms)) on
        (step-gives device (λ new. Unit {0}) asker.caller files.io (length files.drives) (length terms)
        (record {
          same = tt;
          pipes = λ pipes. tt;
          dup = tt;
          close = tt;
          on_terminal = λ terminal within. tt;
          on_pipe = λ pipe free. tt;
        })))

  nothing-ends : (opened : Option OpenPath) → Ends (comes (as_io (io_needs opened E_BPNUM (λ opened. io_done asker.caller.regs files.io))))
  nothing-ends None = io-ends (io_refused E_BPNUM) tt
  nothing-ends (Some opened) = io-ends (io_done asker.caller.regs files.io) tt

  -- ---- drives

  module _ (kinds : AreKinds files) (mounted : MountsAreSound files) where
    -- a fault of a drive
    abbrev with-fault : ℕ → DriveState
    with-fault drive = record { faults = (drive_at files.drives drive).faults + 1; last = Some NotReady }

    abbrev drives-then : ℕ → List DriveState
    drives-then drive = slice_set files.drives drive (with-fault drive)

    fails : (drive : ℕ) → drive < length files.drives → OneFailed drive (drive_error NotReady) files.drives (drives-then drive)
    fails drive within =
        let now : drive_at (drives-then drive) drive ≡ with-fault drive = get_or-set_same files.drives drive (with-fault drive) new_drive within in
        record {
          rose =
              subst (λ (d : DriveState). Rose (drive_at files.drives drive).faults d.faults) (sym now) (min-least ((drive_at files.drives drive).faults + 1) (2 ^ 64 - 1));
          never_falls =
              subst (λ (d : DriveState). (drive_at files.drives drive).faults ≤ d.faults) (sym now) (omega arith);
          last = ap (λ (d : DriveState). option_map drive_error d.last) now;
          others =
              λ other differ. get_or-set_other files.drives drive other (with-fault drive) new_drive differ;
          as_many = simp length-set;
        }

    reaches-ends : (drive : ℕ) (step : FileStep) → On drive step → Ends (reaches drive step)
    reaches-ends drive step (inl deed) = deed-ends (reaches drive step) deed
    reaches-ends drive step (inr (making, old, is, left)) = record {
      effect = refuses_so (drive_error NotReady) (with_drives (with_volume files drive old) (drives-then drive));
      after = terms;
      does =
          inr (
            record {
              drive = drive;
              reached = refl;
              number = drive_error NotReady;
              drives = drives-then drive;
              failed = fails drive (mounted.drives drive old is);
              old = old;
              is = is;
              left = old;
              may_be = left;
              effect_is = refl;
            },
            refl,
          );
      counts = refl;
      stays = inr (record { makes = making; drive = drive; volume = old; mounted = is });
    }

    -- a walk, and what is done with the file where it ends
    walks-ends : (execute : Bool) (place : FilePlace) (names : List (List ℕ)) (next : Found → FileStep)
        → ((found : Found) → IsFound files found → On found.place.drive (next found))
        → Ends (walks asker files execute place names next)
    walks-ends execute place names next on =
        needs-by Ends none-ends (volume_at files place.drive) E_MNF (λ v. reaches place.drive (walk_ends place.drive v (walk v.files asker.user execute place.number names) next))
        (λ v is. reaches-ends place.drive (walk_ends place.drive v (walk v.files asker.user execute place.number names) next) (by_end v is (walk v.files asker.user execute place.number names)))
      where
        by_end : (v : DiskVolume) → volume_at files place.drive ≡ Some v → (end : WalkEnd) → On place.drive (walk_ends place.drive v end next)
        by_end v is (arrives n) =
            needs-by (On place.drive) (none-on place.drive) (v.files n) E_PNNF (λ file. next (record { place = record { drive = place.drive; number = n }; volume = v; file = file }))
            (λ file there. on (record { place = record { drive = place.drive; number = n }; volume = v; file = file }) (record { mounted = is; there = there }))
        by_end v is not_allowed = none-on place.drive E_FNA
        by_end v is not_found = none-on place.drive E_PNNF

    -- ---- a file that is found by a path list

    module _ (list : PathList) (found : Found) (there : IsFound files found) where
      abbrev P : FileStep → Type 0
      P step = On found.place.drive step

      no : (number : ℕ) → P (refused number)
      no number = none-on found.place.drive number

      open-on : P (opens_found asker files list found)
      open-on =
          refuses-by P no (not (may_open found.file asker.user asker.caller.regs.a)) E_FNA (refuses (is_not_shared files found asker.caller.regs.a) E_SHARE (begins_on asker files list found))
          (λ may. refuses-by P no (is_not_shared files found asker.caller.regs.a) E_SHARE (begins_on asker files list found)
          (λ shared. needs-by P no (new_number files.io.paths asker.caller.process.0) E_PTHFUL
          (λ number. done (opened_regs asker.caller.regs list number)
          (with_path_table files (paths_after_begin files.io.paths asker.caller.process.0
          (new_desc (target_on found.file found.place) asker.caller.regs.a))))
          (λ number free. leaves-on found.place.drive (leaves (answers (opened_regs asker.caller.regs list number))
          (with_path_table files (paths_after_begin files.io.paths asker.caller.process.0
          (new_desc (target_on found.file found.place) asker.caller.regs.a)))))))

      abbrev directories-then : Files
      directories-then =
          with_directories_of files asker.caller.process.0 (with_directory (directories_at files asker.caller.process.0) (is_for_execution asker.caller.regs.a) found.place)

      go-on : P (goes_to asker files list found)
      go-on =
          refuses-by P no (not (may_go_to found.file asker.user asker.caller.regs.a)) E_FNA (done (past_list asker.caller.regs list) directories-then)
          (λ may. leaves-on found.place.drive (leaves (answers (past_list asker.caller.regs list)) directories-then))

      room-on : (size : ℕ) (next : FileStep) → P next → P (has_room_for found size next)
      room-on size next holds =
          refuses-by P no (nat_lt (free_total found.volume) (clusters_for found size)) E_FULL
          (refuses (nat_lt 0 (entry_clusters (cluster_size found.volume) found.file) &&
          (length found.file.segments == 48)) E_SLF next)
          (λ room. refuses-by P no (nat_lt 0 (entry_clusters (cluster_size found.volume) found.file) && (length found.file.segments == 48)) E_SLF next (λ fits. holds))

      module _ (name : List ℕ) where
        abbrev new-file : ℕ → VolumeChange
        new-file number = record {
          drive = found.place.drive;
          change = creates found.place.number name asker.caller.regs.b;
          effect = opens_new asker files list found.place.drive number;
        }

        create-on : IsMaking call → P (creates_in asker files list name found)
        create-on making =
            refuses-by P no (not (may_change found.file asker.user (is_for_execution asker.caller.regs.a))) E_FNA
            (refuses (says_directory asker.caller.regs.b) E_FNA
            (refuses (is_some (look_up found.file.contents name)) E_CEF (creates_with_path asker files list name
            found)))
            (λ may. refuses-by P no (says_directory asker.caller.regs.b) E_FNA (refuses (is_some (look_up found.file.contents name)) E_CEF (creates_with_path asker files list name found))
            (λ plain. refuses-by P no (is_some (look_up found.file.contents name)) E_CEF (creates_with_path asker files list name found)
            (λ new. needs-by P no (new_number files.io.paths asker.caller.process.0) E_PTHFUL (λ number. has_room_for found 0 (comes (changes (new-file number))))
            (λ number free. room-on 0 (comes (changes (new-file number))) (inr (making, found.volume, there.mounted, before refl))))))

        abbrev new-directory : VolumeChange
        new-directory = record {
          drive = found.place.drive;
          change = makes_directory found.place.number name asker.caller.regs.b;
          effect = λ n. leaves (answers (past_list asker.caller.regs list)) files;
        }

        make-on : IsMaking call → P (makes_in asker files list name found)
        make-on making =
            refuses-by P no (not (may_change found.file asker.user false)) E_FNA
            (refuses (is_some (look_up found.file.contents name)) E_CEF (has_room_for found new_directory_size
            (comes (changes new-directory))))
            (λ may. refuses-by P no (is_some (look_up found.file.contents name)) E_CEF (has_room_for found new_directory_size (comes (changes new-directory)))
            (λ new. room-on new_directory_size (comes (changes new-directory)) (inr (making, found.volume, there.mounted, before refl))))

        abbrev deletion : ℕ → VolumeChange
        deletion n = record {
          drive = found.place.drive;
          change = deletes found.place.number n name;
          effect = λ new. leaves (answers (past_list asker.caller.regs list)) files;
        }

        delete-on : (execute : Bool) → P (deletes_in asker files execute list name found)
        delete-on execute =
            refuses-by P no (not (may_change found.file asker.user execute)) E_FNA (needs (look_up found.file.contents name) E_PNNF (deletes_file asker files list name found))
            (λ may. needs-by P no (look_up found.file.contents name) E_PNNF (deletes_file asker files list name found)
            (λ n named. refuses-by P no (not (may_delete (found.volume.files n) asker.user)) E_FNA
            (refuses (is_open files (record { drive = found.place.drive; number = n })) E_SHARE
            (comes (changes (deletion n))))
            (λ file. refuses-by P no (is_open files (record { drive = found.place.drive; number = n })) E_SHARE (comes (changes (deletion n)))
            (λ closed. change-on found.place.drive (deletion n) (some-deletion asker files found.place.drive
            found.volume there.mounted (λ new. leaves (answers (past_list asker.caller.regs list)) files)
            found.place.number found.file there.there n name named)))))

    -- ---- a file that a path is on

    module _ (opened : OpenFile) (is : volume_at files opened.place.drive ≡ Some opened.volume) (there : opened.volume.files opened.place.number ≡ Some opened.file) where
      abbrev drive : ℕ
      drive = opened.place.drive

      moves-ends : (is_allowed : ℕ → Bool) (next : FileStep) → Ends next → Ends (moves_bytes asker files opened is_allowed next)
      moves-ends is_allowed next holds =
          refuses-by Ends none-ends (not (is_allowed opened.opened.desc.mode)) E_BMODE (if asker.caller.regs.y == 0 then done asker.caller.regs files else next)
          (λ allowed. by_count (asker.caller.regs.y == 0))
        where
          by_count : (nothing : Bool) → Ends (if nothing then done asker.caller.regs files else next)
          by_count true = leaves-ends (leaves (answers asker.caller.regs) files)
          by_count false = holds

      -- a request: the call goes on, is refused or waits
      asks-by : (grant : Grant) (request : Request) (next : FileStep) → On drive next → On drive (asks_by grant files request next)
      asks-by Granted request next holds = holds
      asks-by Locked request next holds = none-on drive E_LOCK
      asks-by Deadlock request next holds = none-on drive E_DEADLK
      asks-by Wait request next holds = leaves-on drive (leaves (keeps (call_of request)) (waiting_in files request))

      asks-end : (request : Request) (next : FileStep) → On drive next → On drive (asks asker files request next)
      asks-end request next holds = asks-by (answer_to asker files request) request next holds

      at-ends : (kind : ReadKind) (at : ℕ) → On drive (reads_at kind asker files opened at)
      at-ends kind at =
          refuses-by (On drive) (none-on drive) (nat_le (length opened.file.contents) at) E_EOF
          (if is_for_update opened.opened.desc.mode then reads_locked kind asker files opened request bytes else reads_freely kind asker files opened)
          (λ more. by_mode (is_for_update opened.opened.desc.mode))
        where
          bytes : List ℕ
          bytes = bytes_at kind asker opened at

          request : Request
          request = request_now asker files opened (read_claim kind asker opened at)

          by_mode : (update : Bool) → On drive (if update then reads_locked kind asker files opened request bytes else reads_freely kind asker files opened)
          by_mode true =
              asks-end request _
              (leaves-on drive (answers_bytes asker (with_records files (holding files.records opened.opened.path.0 (lock_by kind request.lock bytes) bytes)) opened request.lock.range.start bytes))
          by_mode false =
              leaves-on drive (answers_bytes asker files opened opened.opened.desc.at (bytes_at kind asker opened opened.opened.desc.at))

      read-ends : (kind : ReadKind) → Ends (reads_file kind asker files opened)
      read-ends kind =
          reaches-ends drive (reads_at kind asker files opened (read_start asker files opened)) (at-ends kind (read_start asker files opened))

      abbrev changing : Change → Regs → Files → VolumeChange
      changing change regs after =
          record { drive = opened.place.drive; change = change; effect = λ n. leaves (answers regs) after }

      change-within : (change : Change) (size : ℕ) (regs : Regs) (after : Files)
          → (clusters_needed (cluster_size opened.volume) opened.file.segments size ≤ free_total opened.volume
          → SomeChange (changing change regs after) asker files) → On drive (changes_file opened change size regs
          after)
      change-within change size regs after some =
          refuses-by (On drive) (none-on drive) (nat_lt (free_total opened.volume)
          (clusters_needed (cluster_size opened.volume) opened.file.segments size)) E_FULL
          (comes (changes (changing change regs after)))
          (λ room. change-on drive (changing change regs after) (some (ltb-false (free_total opened.volume) (clusters_needed (cluster_size opened.volume) opened.file.segments size) room)))

      write-ends : (code : ℕ) (bytes : List ℕ) (regs : Regs) → Ends (writes_bytes asker files opened code bytes regs)
      write-ends code bytes regs =
          reaches-ends drive (writes_locked asker files opened request bytes regs)
          (asks-end request (changes_file opened (writes opened.place.number at bytes) (length (written opened.file.contents at bytes)) regs after)
          (change-within (writes opened.place.number at bytes) (length (written opened.file.contents at bytes)) regs after
          (some-write asker files drive opened.volume is (λ n. leaves (answers regs) after) opened.place.number
          opened.file there (mounted.numbers drive opened.volume is opened.place.number opened.file there)
          (kinds.clusters drive opened.volume is) at bytes)))
        where
          request : Request
          request = request_now asker files opened (write_claim opened code (length bytes))

          at : ℕ
          at = request.lock.range.start

          after : Files
          after = with_position (with_records files (written_by files.records opened.opened.path.0 request.lock bytes)) opened.opened (at + length bytes)

      send-ends : (code : ℕ) (bytes : List ℕ) → Ends (sends_bytes asker files opened code bytes)
      send-ends code bytes =
          moves-ends can_write (writes_bytes asker files opened code bytes (count_regs asker.caller (length bytes))) (write-ends code bytes (count_regs asker.caller (length bytes)))

      -- ---- I$GetStt

      bytes-end : (count : ℕ) (bytes : List ℕ) → Ends (gets_bytes asker files count (λ step. step) bytes)
      bytes-end count bytes =
          refuses-by Ends none-ends (is_none (user_bytes asker.caller.cells asker.caller.regs.x count)) E_BPADDR (comes (leaves_so (stores asker.caller.regs.x bytes asker.caller.regs files)))
          (λ fits. leaves-ends (stores asker.caller.regs.x bytes asker.caller.regs files))

      done-on : (regs : Regs) → On drive (done regs files)
      done-on regs = leaves-on drive (leaves (answers regs) files)

      descriptor-ends : Ends (gets_descriptor asker files opened)
      descriptor-ends =
          let stored = stores asker.caller.regs.x (take (asked_bytes asker) (descriptor_front opened.file)) asker.caller.regs files in
          refuses-by Ends none-ends (is_none (user_bytes asker.caller.cells asker.caller.regs.x (asked_bytes asker))) E_BPADDR (reaches drive (comes (leaves_so stored)))
          (λ fits. reaches-ends drive (comes (leaves_so stored)) (leaves-on drive stored))

      size-ends : Ends (gets_size asker files opened)
      size-ends =
          reaches-ends drive (done (long_regs asker.caller.regs (length opened.file.contents)) files) (done-on (long_regs asker.caller.regs (length opened.file.contents)))

      end-ends : Ends (gets_end asker files opened)
      end-ends =
          reaches-ends drive (refuses (nat_le (length opened.file.contents) opened.opened.desc.at) E_EOF (done (record asker.caller.regs { b = 0 }) files))
          (refuses-by (On drive) (none-on drive) (nat_le (length opened.file.contents) opened.opened.desc.at) E_EOF (done (record asker.caller.regs { b = 0 }) files)
          (λ more. done-on (record asker.caller.regs { b = 0 })))

      done-ends : (regs : Regs) → Ends (done regs files)
      done-ends regs = leaves-ends (leaves (answers regs) files)

      status-by : (opt ready size pos end fd : Bool) → Ends (if opt then gets_bytes asker files OPTION_BYTES
          (λ step. step) (options opened.opened.desc.target) else
          (if ready then done (record asker.caller.regs { b = 0 }) files else (if size then gets_size asker files
          opened else (if pos then done (long_regs asker.caller.regs opened.opened.desc.at) files else
          (if end then gets_end asker files opened else (if fd then gets_descriptor asker files opened else refused
          E_UNKSVC))))))
      status-by true ready size pos end fd = bytes-end OPTION_BYTES (options opened.opened.desc.target)
      status-by false true size pos end fd = done-ends (record asker.caller.regs { b = 0 })
      status-by false false true pos end fd = size-ends
      status-by false false false true end fd = done-ends (long_regs asker.caller.regs opened.opened.desc.at)
      status-by false false false false true fd = end-ends
      status-by false false false false false true = descriptor-ends
      status-by false false false false false false = none-ends E_UNKSVC

      status-ends : (code : ℕ) → Ends (gets_status asker files opened code)
      status-ends code = status-by (code == SS_OPT) (code == SS_READY) (code == SS_SIZE) (code == SS_POS) (code == SS_EOF) (code == SS_FD)

      -- ---- I$SetStt

      set-size : Ends (sets_size asker files opened)
      set-size =
          refuses-by Ends none-ends (not (can_write opened.opened.desc.mode)) E_BMODE (reaches drive (sizes_locked asker files opened size request))
          (λ allowed. reaches-ends drive (sizes_locked asker files opened size request)
          (asks-end request (changes_file opened (sizes opened.place.number size) size asker.caller.regs after)
          (change-within (sizes opened.place.number size) size asker.caller.regs after
          (some-size asker files drive opened.volume is (λ n. leaves (answers asker.caller.regs) after)
          opened.place.number opened.file there (mounted.numbers drive opened.volume is opened.place.number
          opened.file there) (kinds.clusters drive opened.volume is) size))))
        where
          size : ℕ
          size = long_of asker.caller.regs

          request : Request
          request = request_now asker files opened (size_claim opened size)

          after : Files
          after = after_size files opened size request.lock

      set-lock : Ends (sets_lock asker files opened)
      set-lock =
          refuses-by Ends none-ends (not (is_for_update opened.opened.desc.mode)) E_BMODE (locks_bytes asker files opened count) (λ allowed. by_count (count == 0))
        where
          count : ℕ
          count = long_of asker.caller.regs

          request : Request
          request = request_now asker files opened (lock_claim opened count)

          by_count : (nothing : Bool)
              → Ends (if nothing then done asker.caller.regs
              (with_records files (without_lock files.records opened.opened.path.0)) else reaches drive
              (locks_range asker files opened request))
          by_count true =
              leaves-ends (leaves (answers asker.caller.regs) (with_records files (without_lock files.records opened.opened.path.0)))
          by_count false =
              reaches-ends drive (locks_range asker files opened request)
              (asks-end request (done asker.caller.regs (with_records files (holding files.records opened.opened.path.0 request.lock [])))
              (leaves-on drive (leaves (answers asker.caller.regs) (with_records files (holding files.records opened.opened.path.0 request.lock [])))))

      set-attributes : Ends (sets_attributes_of asker files opened)
      set-attributes =
          let change = changing (sets_attributes opened.place.number (asker.caller.regs.x % 256)) asker.caller.regs files in
          reaches-ends drive (refuses (not (owns_file opened.file asker.user)) E_FNA (comes (changes change)))
          (refuses-by (On drive) (none-on drive) (not (owns_file opened.file asker.user)) E_FNA (comes (changes change))
          (λ owns. change-on drive change (some-attributes asker files drive opened.volume is
          (λ n. leaves (answers asker.caller.regs) files) opened.place.number opened.file there
          (asker.caller.regs.x % 256))))

      set-ticks : Ends (sets_ticks asker files opened)
      set-ticks = leaves-ends (leaves (answers asker.caller.regs) (with_ticks files opened.opened asker.caller.regs.x))

      set-by : (size ticks lock attributes : Bool) → Ends (if size then sets_size asker files opened else
          (if ticks then sets_ticks asker files opened else (if lock then sets_lock asker files opened else
          (if attributes then sets_attributes_of asker files opened else refused E_UNKSVC))))
      set-by true ticks lock attributes = set-size
      set-by false true lock attributes = set-ticks
      set-by false false true attributes = set-lock
      set-by false false false true = set-attributes
      set-by false false false false = none-ends E_UNKSVC

    -- ---- a call on a number

    file-ends : (number : ℕ) (o : Option OpenFile) → open_file files asker.caller.process.0 number ≡ o
        → (otherwise : IoStep) (next : OpenFile → FileStep) → Ends (comes (as_io otherwise))
        → ((opened : OpenFile) → IsNamed files asker.caller.process.0 number opened → Ends (next opened))
        → Ends (by_kind o otherwise next)
    file-ends number None is otherwise next other holds = other
    file-ends number (Some opened) is otherwise next other holds =
        holds opened (is-named files asker.caller.process.0 number opened is)

    number-ends : (number : ℕ) (otherwise : IoStep) (next : OpenFile → FileStep) → Ends (comes (as_io otherwise))
        → ((opened : OpenFile) → IsNamed files asker.caller.process.0 number opened → Ends (next opened))
        → Ends (on_file asker files number otherwise next)
    number-ends number otherwise next other holds =
        file-ends number (open_file files asker.caller.process.0 number) refl otherwise next other holds

    module _ (on : AreOnTerminals (length terms) files.io.paths) where
      reads-end : (otherwise : IoStep) (kind : ReadKind) → Ends (comes (as_io otherwise)) → Ends (reads_on kind asker files otherwise)
      reads-end otherwise kind other =
          number-ends asker.caller.regs.a otherwise
          (λ opened. refuses (is_none (user_bytes asker.caller.cells asker.caller.regs.x asker.caller.regs.y))
          E_BPADDR (moves_bytes asker files opened can_read (reads_file kind asker files opened))) other
          (λ opened named. refuses-by Ends none-ends (is_none (user_bytes asker.caller.cells asker.caller.regs.x
          asker.caller.regs.y)) E_BPADDR (moves_bytes asker files opened can_read (reads_file kind asker files
          opened))
          (λ fits. moves-ends opened named.mounted named.there can_read (reads_file kind asker files opened) (read-ends opened named.mounted named.there kind)))

      -- ---- calls with a path list

      open-way : (list : PathList) (way : Route) → Ends (opens_on_route asker files (length terms) list way)
      open-way list (along from names) =
          walks-ends (is_for_execution asker.caller.regs.a) from names (opens_found asker files list) (open-on list)
      open-way list to_device = device-ends on Device.Open
      open-way list (nowhere number) = none-ends number

      create-way : IsMaking call → (list : PathList) (way : Route) → Ends (creates_on_route asker files (length terms) list way)
      create-way making list (along from names) =
          needs-by Ends none-ends (last_of names) E_BPNAM (λ name. walks asker files (is_for_execution asker.caller.regs.a) from (before_last names) (creates_in asker files list name))
          (λ name is. walks-ends (is_for_execution asker.caller.regs.a) from (before_last names) (creates_in asker files list name) (λ found there. create-on list found there name making))
      create-way making list to_device = device-ends on Device.Create
      create-way making list (nowhere number) = none-ends number

      make-way : IsMaking call → (list : PathList) (way : Route) → Ends (makes_on_route asker files list way)
      make-way making list (along from names) =
          needs-by Ends none-ends (last_of names) E_BPNAM (λ name. walks asker files false from (before_last names) (makes_in asker files list name))
          (λ name is. walks-ends false from (before_last names) (makes_in asker files list name) (λ found there. make-on list found there name making))
      make-way making list to_device = none-ends E_FNA
      make-way making list (nowhere number) = none-ends number

      go-way : (list : PathList) (way : Route) → Ends (goes_on_route asker files list way)
      go-way list (along from names) =
          walks-ends (is_for_execution asker.caller.regs.a) from names (goes_to asker files list) (go-on list)
      go-way list to_device = none-ends E_FNA
      go-way list (nowhere number) = none-ends number

      delete-way : (execute : Bool) (list : PathList) (way : Route) (last : Option (List ℕ)) → Ends (deletes_named asker files execute list way last)
      delete-way execute list (along from names) None =
          walks-ends execute from names (λ root. refused E_FNA) (λ root there. none-on root.place.drive E_FNA)
      delete-way execute list (along from names) (Some name) =
          walks-ends execute from (before_last names) (deletes_in asker files execute list name) (λ found there. delete-on list found there name execute)
      delete-way execute list to_device last = none-ends E_FNA
      delete-way execute list (nowhere number) last = none-ends number

      delete-by : (execute : Bool) (test : FileStep → FileStep) → ((step : FileStep) → Ends step → Ends (test step)) → Ends (deletes_by asker files (length terms) execute test)
      delete-by execute test tests =
          list-by Ends none-ends (list_of asker) test (λ list. deletes_named asker files execute list (route_of asker files (length terms) execute list) (last_of list.names))
          tests (λ list. delete-way execute list (route_of asker files (length terms) execute list) (last_of list.names))

      -- ---- every call

      step-by : (other : PathCall) → call ≡ other → Ends (file_step other asker files (length terms))
      step-by Call.Dup is = device-ends on Device.Dup
      step-by Call.Create is =
          list-by Ends none-ends (list_of asker) (tests_mode (can_write asker.caller.regs.a))
          (λ list. creates_on_route asker files (length terms) list (route_to_new asker files (length terms)
          (is_for_execution asker.caller.regs.a) list))
          (mode-ends (can_write asker.caller.regs.a))
          (λ list. create-way (subst IsMaking (sym is) tt) list (route_to_new asker files (length terms) (is_for_execution asker.caller.regs.a) list))
      step-by Call.Open is =
          list-by Ends none-ends (list_of asker) (tests_mode (is_mode asker.caller.regs.a))
          (λ list. opens_on_route asker files (length terms) list (route_of asker files (length terms)
          (is_for_execution asker.caller.regs.a) list))
          (mode-ends (is_mode asker.caller.regs.a))
          (λ list. open-way list (route_of asker files (length terms) (is_for_execution asker.caller.regs.a) list))
      step-by Call.MakDir is =
          list-by Ends none-ends (list_of asker) (λ step. step) (λ list. makes_on_route asker files list (route_to_new asker files (length terms) false list))
          (λ step holds. holds)
          (λ list. make-way (subst IsMaking (sym is) tt) list (route_to_new asker files (length terms) false list))
      step-by Call.ChgDir is =
          list-by Ends none-ends (list_of asker) (tests_mode (is_mode asker.caller.regs.a))
          (λ list. goes_on_route asker files list (route_of asker files (length terms)
          (is_for_execution asker.caller.regs.a) list))
          (mode-ends (is_mode asker.caller.regs.a))
          (λ list. go-way list (route_of asker files (length terms) (is_for_execution asker.caller.regs.a) list))
      step-by Call.Delete is = delete-by false (λ step. step) (λ step holds. holds)
      step-by Call.DeletX is =
          delete-by (is_for_execution asker.caller.regs.a) (tests_mode (is_mode asker.caller.regs.a)) (mode-ends (is_mode asker.caller.regs.a))
      step-by Call.Seek is =
          number-ends asker.caller.regs.a (seeks_nothing asker.caller files.io) (λ opened. done asker.caller.regs
          (with_position files opened.opened (long_of asker.caller.regs)))
          (nothing-ends (open_path files.io asker.caller.process.0 asker.caller.regs.a))
          (λ opened named. leaves-ends (leaves (answers asker.caller.regs) (with_position files opened.opened (long_of asker.caller.regs))))
      step-by Call.Read is = reads-end (reads_device asker.caller files.io) Bytes (device-ends on Device.Read)
      step-by Call.Write is =
          number-ends asker.caller.regs.a (writes_device asker.caller files.io)
          (λ opened. needs (user_bytes asker.caller.cells asker.caller.regs.x asker.caller.regs.y) E_BPADDR
          (sends_bytes asker files opened I_WRITE)) (device-ends on Device.Write)
          (λ opened named. needs-by Ends none-ends (user_bytes asker.caller.cells asker.caller.regs.x
          asker.caller.regs.y) E_BPADDR (sends_bytes asker files opened I_WRITE) (λ bytes there. send-ends opened
          named.mounted named.there I_WRITE bytes))
      step-by Call.ReadLn is = reads-end (reads_device_line asker.caller files.io) WholeLine (device-ends on Device.ReadLn)
      step-by Call.WritLn is =
          number-ends asker.caller.regs.a (writes_device_line asker.caller files.io)
          (λ opened. needs (line_moved asker (pending_request asker files)) E_BPADDR (sends_bytes asker files opened
          I_WRITLN)) (device-ends on Device.WritLn)
          (λ opened named. needs-by Ends none-ends (line_moved asker (pending_request asker files)) E_BPADDR
          (sends_bytes asker files opened I_WRITLN) (λ bytes there. send-ends opened named.mounted named.there
          I_WRITLN bytes))
      step-by Call.GetStt is =
          number-ends asker.caller.regs.a (gets_of_device asker.caller files.io) (λ opened. gets_status asker files opened asker.caller.regs.b) (device-ends on Device.GetStt)
          (λ opened named. status-ends opened named.mounted named.there asker.caller.regs.b)
      step-by Call.SetStt is =
          number-ends asker.caller.regs.a (sets_of_device asker.caller files.io) (λ opened. if asker.caller.regs.b ==
          SS_SIZE then sets_size asker files opened else (if asker.caller.regs.b == SS_TICKS then sets_ticks asker
          files opened else (if asker.caller.regs.b == SS_LOCK then sets_lock asker files opened else
          (if asker.caller.regs.b == SS_ATTR then sets_attributes_of asker files opened else refused E_UNKSVC))))
          (device-ends on Device.SetStt)
          (λ opened named. set-by opened named.mounted named.there (asker.caller.regs.b == SS_SIZE) (asker.caller.regs.b == SS_TICKS) (asker.caller.regs.b == SS_LOCK) (asker.caller.regs.b == SS_ATTR))
      step-by Call.Close is =
          number-ends asker.caller.regs.a (closes_device asker.caller files.io) (λ opened. done asker.caller.regs
          (files_after_close files asker.caller.process.0 asker.caller.regs.a opened.opened.path.0))
          (device-ends on Device.Close)
          (λ opened named. leaves-ends (leaves (answers asker.caller.regs) (files_after_close files asker.caller.process.0 asker.caller.regs.a opened.opened.path.0)))
      step-by Call.PErr is =
          number-ends STANDARD_ERROR (tells_device asker.caller files.io)
          (λ opened. refuses (not (can_write opened.opened.desc.mode)) E_BMODE (writes_bytes asker files opened
          F_PERR (error_line asker.caller.regs.b) asker.caller.regs)) (device-ends on Device.PErr)
          (λ opened named. refuses-by Ends none-ends (not (can_write opened.opened.desc.mode)) E_BMODE
          (writes_bytes asker files opened F_PERR (error_line asker.caller.regs.b) asker.caller.regs)
          (λ allowed. write-ends opened named.mounted named.there F_PERR (error_line asker.caller.regs.b)
          asker.caller.regs))

      pub step-ends : Ends (file_step call asker files (length terms))
      step-ends = step-by call refl
