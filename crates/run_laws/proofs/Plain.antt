-- No call deletes a directory.
use Rattle.std.proofs.Common.{◌≡◌, ℕ, ◌+◌, ◌%◌, ◌==◌, not, Bool, true, false, Option, Some, None, is_some, List, [], length, refl, sym, ap, ◌∙◌}
use Rattle.std.specs.Prelude.{◌&&◌, if◌then◌else◌, nat_lt}
use Rattle.std.proofs.lemmas.Bool.{and_parts, both_ways, not-true}
use Rattle.std.proofs.lemmas.Option.{same_Some}
use Rattle.os9_base.specs.declared.calls.TheConstants.{F_PERR, I_WRITE, I_WRITLN}
use Rattle.os9_base.specs.declared.errors.TheConstants.{E_BMODE, E_BPADDR, E_BPNAM, E_CEF, E_FNA, E_FULL, E_MNF, E_PNNF, E_PTHFUL, E_SHARE, E_SLF, E_UNKSVC}
use Rattle.os9_base.specs.declared.registers.Regs.{Regs}
use Rattle.proc_model.specs.UserBytes.{user_bytes}
use Rattle.rbf_model.specs.File.{DiskFile, is_directory}
use Rattle.rbf_model.specs.Volume.{DiskVolume}
use Rattle.rbf_model.specs.Walk.{WalkEnd, arrives, file_permits, look_up, not_allowed, not_found, walk}
use Rattle.rbf_change.specs.Calls.{cluster_size, free_total}
use Rattle.rbf_change.specs.Contents.{written}
use Rattle.rbf_change.specs.Growth.{clusters_needed}
use Rattle.rbf_change.specs.Names.{may_change, may_delete}
use Rattle.rbf_change.specs.NewFiles.{entry_clusters, owns_file}
use Rattle.io_model.specs.Path.{new_number}
use Rattle.io_model.specs.Modes.{can_write, is_mode}
use Rattle.io_model.specs.PathList.{PathList}
use Rattle.io_model.specs.Pipes.{count_regs}
use Rattle.io_model.specs.Status.{i_setstt as sets_of_device}
use Rattle.io_model.specs.Step.{IoStep, answers}
use Rattle.io_model.specs.Write.{error_line, f_perr as tells_device, i_write as writes_device, i_writln as writes_device_line}
use Rattle.io_model.specs.declared.modes.TheConstants.{STANDARD_ERROR}
use Rattle.file_rules.specs.Attempts.{file_step}
use Rattle.file_rules.specs.Change.{Change, creates, deletes, makes_directory, sets_attributes, sizes, writes}
use Rattle.file_rules.specs.Create.{clusters_for, creates_in, creates_on_route, creates_with_path, has_room_for, opens_new}
use Rattle.file_rules.specs.Delete.{deletes_by, deletes_file, deletes_in, deletes_named}
use Rattle.file_rules.specs.Files.{Asker, Files, OpenFile, open_file, volume_at, with_position, with_records}
use Rattle.file_rules.specs.Locking.{answer_to, asks_by, is_for_update, pending_request, request_now}
use Rattle.file_rules.specs.MakDir.{makes_in, makes_on_route, new_directory_size, past_list}
use Rattle.file_rules.specs.OnFile.{by_kind, on_file}
use Rattle.file_rules.specs.Open.{is_for_execution, says_directory, tests_mode}
use Rattle.file_rules.specs.Seek.{long_of}
use Rattle.file_rules.specs.Sharing.{is_open}
use Rattle.file_rules.specs.Status.{after_size, lock_claim, locks_bytes, locks_range, sets_attributes_of, sets_lock, sets_size, sets_ticks, size_claim, sizes_locked}
use Rattle.file_rules.specs.Step.{Deed, FileStep, VolumeChange, as_io, changes, comes, deed_of, done, drive_of, leaves, leaves_so, needs, reaches, refused, refuses}
use Rattle.file_rules.specs.Route.{Found, Route, along, before_last, last_of, list_of, nowhere, to_device, walk_ends, walks, route_of, route_to_new}
use Rattle.file_rules.specs.Write.{changes_file, line_moved, sends_bytes, write_claim, writes_bytes, writes_locked}
use Rattle.file_rules.specs.declared.path_call.PathCall.{PathCall}
use Rattle.file_rules.specs.declared.path_call.PathCall.TheVariants as Call
use Rattle.lock_model.specs.Records.{holding, without_lock, written_by}
use Rattle.lock_model.specs.declared.lock.Grant.{Grant}
use Rattle.lock_model.specs.declared.lock.Grant.TheVariants.{Deadlock, Granted, Locked, Wait}
use Rattle.lock_model.specs.declared.lock.Request.{Request}
use Rattle.lock_model.specs.declared.place.FilePlace.{FilePlace}
use Rattle.file_rules.specs.declared.status.TheConstants.{SS_ATTR, SS_LOCK, SS_SIZE, SS_TICKS}
use Rattle.file_laws.proofs.Opening.{of-not}
use Rattle.file_laws.proofs.Steps.{IsFound, list-by, needs-by, refuses-by}
use Rattle.file_laws.specs.Touch.{may_change_volume}
use Rattle.file_laws.proofs.TouchAttempts.{step-splits}
use Rattle.file_laws.proofs.Splits.{Splits}
use Rattle.run_laws.specs.InOrder.{DeletesNoDirectory}

-- a file that may be deleted is not a directory
not-directory : (o : Option DiskFile) (user : ℕ) (file : DiskFile) → o ≡ Some file → may_delete o user ≡ true → is_directory file ≡ true → ⊥
not-directory o user file is may kind =
    let parts = and_parts (not (is_directory file)) (file_permits file user 2) (sym (ap (λ (o : Option DiskFile). may_delete o user) is) ∙ may) in
    both_ways (is_directory file) (not-true (is_directory file) parts.0) kind

module _ (asker : Asker) (files : Files) where
  -- what is done deletes no directory of a volume
  abbrev pub IsPlain : Deed → Type 0
  IsPlain (leaves_so it) = Unit {0}
  IsPlain (as_io step) = Unit {0}
  IsPlain (changes it) = (v : DiskVolume) → volume_at files it.drive ≡ Some v → DeletesNoDirectory it.change v

  abbrev P : FileStep → Type 0
  P step = IsPlain (deed_of step files)

  no : (number : ℕ) → P (refused number)
  no number = tt

  walks-plain : (execute : Bool) (place : FilePlace) (names : List (List ℕ)) (next : Found → FileStep) → ((found : Found) → IsFound files found → P (next found))
      → P (walks asker files execute place names next)
  walks-plain execute place names next holds =
      needs-by P no (volume_at files place.drive) E_MNF (λ v. reaches place.drive (walk_ends place.drive v (walk v.files asker.user execute place.number names) next))
      (λ v is. by_end v is (walk v.files asker.user execute place.number names))
    where
      by_end : (v : DiskVolume) → volume_at files place.drive ≡ Some v → (end : WalkEnd) → P (walk_ends place.drive v end next)
      by_end v is (arrives n) =
          needs-by P no (v.files n) E_PNNF (λ file. next (record { place = record { drive = place.drive; number = n }; volume = v; file = file }))
          (λ file there. holds (record { place = record { drive = place.drive; number = n }; volume = v; file = file }) (record { mounted = is; there = there }))
      by_end v is not_allowed = tt
      by_end v is not_found = tt

  -- ---- path lists

  module _ (list : PathList) (name : List ℕ) (found : Found) where
    room-plain : (size : ℕ) (next : FileStep) → P next → P (has_room_for found size next)
    room-plain size next holds =
        refuses-by P no (nat_lt (free_total found.volume) (clusters_for found size)) E_FULL
        (refuses (nat_lt 0 (entry_clusters (cluster_size found.volume) found.file) && (length found.file.segments == 48)) E_SLF next)
        (λ room. refuses-by P no (nat_lt 0 (entry_clusters (cluster_size found.volume) found.file) && (length found.file.segments == 48)) E_SLF next (λ fits. holds))

    abbrev new-file : ℕ → VolumeChange
    new-file number = record {
      drive = found.place.drive;
      change = creates found.place.number name asker.caller.regs.b;
      effect = opens_new asker files list found.place.drive number;
    }

    create-plain : P (creates_in asker files list name found)
    create-plain =
        refuses-by P no (not (may_change found.file asker.user (is_for_execution asker.caller.regs.a))) E_FNA
        (refuses (says_directory asker.caller.regs.b) E_FNA (refuses (is_some (look_up found.file.contents name)) E_CEF (creates_with_path asker files list name found)))
        (λ may. refuses-by P no (says_directory asker.caller.regs.b) E_FNA (refuses (is_some (look_up found.file.contents name)) E_CEF (creates_with_path asker files list name found))
        (λ file. refuses-by P no (is_some (look_up found.file.contents name)) E_CEF (creates_with_path asker files list name found)
        (λ new. needs-by P no (new_number files.io.paths asker.caller.process.0) E_PTHFUL (λ number. has_room_for found 0 (comes (changes (new-file number))))
        (λ number free. room-plain 0 (comes (changes (new-file number))) (λ v is. tt)))))

    abbrev new-directory : VolumeChange
    new-directory = record {
      drive = found.place.drive;
      change = makes_directory found.place.number name asker.caller.regs.b;
      effect = λ n. leaves (answers (past_list asker.caller.regs list)) files;
    }

    make-plain : P (makes_in asker files list name found)
    make-plain =
        refuses-by P no (not (may_change found.file asker.user false)) E_FNA
        (refuses (is_some (look_up found.file.contents name)) E_CEF (has_room_for found new_directory_size (comes (changes new-directory))))
        (λ may. refuses-by P no (is_some (look_up found.file.contents name)) E_CEF (has_room_for found new_directory_size (comes (changes new-directory)))
        (λ new. room-plain new_directory_size (comes (changes new-directory)) (λ v is. tt)))

    abbrev deletion : ℕ → VolumeChange
    deletion n = record {
      drive = found.place.drive;
      change = deletes found.place.number n name;
      effect = λ new. leaves (answers (past_list asker.caller.regs list)) files;
    }

    delete-plain : IsFound files found → (execute : Bool) → P (deletes_in asker files execute list name found)
    delete-plain there execute =
        refuses-by P no (not (may_change found.file asker.user execute)) E_FNA (needs (look_up found.file.contents name) E_PNNF (deletes_file asker files list name found))
        (λ may. needs-by P no (look_up found.file.contents name) E_PNNF (deletes_file asker files list name found)
        (λ n named. refuses-by P no (not (may_delete (found.volume.files n) asker.user)) E_FNA
        (refuses (is_open files (record { drive = found.place.drive; number = n })) E_SHARE (comes (changes (deletion n))))
        (λ file. refuses-by P no (is_open files (record { drive = found.place.drive; number = n })) E_SHARE (comes (changes (deletion n)))
        (λ closed v is it at kind. not-directory (found.volume.files n) asker.user it
        (ap (λ (v : DiskVolume). v.files n) (same_Some found.volume v (sym there.mounted ∙ is)) ∙ at)
        (of-not (may_delete (found.volume.files n) asker.user) file) kind))))

  mode-plain : (allowed : Bool) (step : FileStep) → P step → P (tests_mode allowed step)
  mode-plain allowed step holds = refuses-by P no (not allowed) E_BMODE step (λ is. holds)

  create-way : (terms : ℕ) (list : PathList) (route : Route) → P (creates_on_route asker files terms list route)
  create-way terms list (along from names) =
      needs-by P no (last_of names) E_BPNAM (λ name. walks asker files (is_for_execution asker.caller.regs.a) from (before_last names) (creates_in asker files list name))
      (λ name is. walks-plain (is_for_execution asker.caller.regs.a) from (before_last names) (creates_in asker files list name) (λ found there. create-plain list name found))
  create-way terms list to_device = tt
  create-way terms list (nowhere number) = tt

  make-way : (list : PathList) (route : Route) → P (makes_on_route asker files list route)
  make-way list (along from names) =
      needs-by P no (last_of names) E_BPNAM (λ name. walks asker files false from (before_last names) (makes_in asker files list name))
      (λ name is. walks-plain false from (before_last names) (makes_in asker files list name) (λ found there. make-plain list name found))
  make-way list to_device = tt
  make-way list (nowhere number) = tt

  delete-way : (execute : Bool) (list : PathList) (route : Route) (last : Option (List ℕ)) → P (deletes_named asker files execute list route last)
  delete-way execute list (along from names) None = walks-plain execute from names (λ root. refused E_FNA) (λ root there. tt)
  delete-way execute list (along from names) (Some name) =
      walks-plain execute from (before_last names) (deletes_in asker files execute list name) (λ found there. delete-plain list name found there execute)
  delete-way execute list to_device last = tt
  delete-way execute list (nowhere number) last = tt

  delete-by : (terms : ℕ) (execute : Bool) (test : FileStep → FileStep) → ((step : FileStep) → P step → P (test step)) → P (deletes_by asker files terms execute test)
  delete-by terms execute test tests =
      list-by P no (list_of asker) test (λ list. deletes_named asker files execute list (route_of asker files terms execute list) (last_of list.names))
      tests (λ list. delete-way execute list (route_of asker files terms execute list) (last_of list.names))

  -- ---- numbers of paths

  number-plain : (number : ℕ) (otherwise : IoStep) (next : OpenFile → FileStep) → ((opened : OpenFile) → P (next opened)) → P (on_file asker files number otherwise next)
  number-plain number otherwise next holds = by_file (open_file files asker.caller.process.0 number)
    where
      by_file : (o : Option OpenFile) → P (by_kind o otherwise next)
      by_file None = tt
      by_file (Some opened) = holds opened

  abbrev changing : OpenFile → Change → Regs → Files → VolumeChange
  changing opened change regs after =
      record { drive = opened.place.drive; change = change; effect = λ n. leaves (answers regs) after }

  change-plain : (opened : OpenFile) (change : Change) (size : ℕ) (regs : Regs) (after : Files) → ((v : DiskVolume) → DeletesNoDirectory change v)
      → P (changes_file opened change size regs after)
  change-plain opened change size regs after plain =
      refuses-by P no (nat_lt (free_total opened.volume) (clusters_needed (cluster_size opened.volume) opened.file.segments size)) E_FULL (comes (changes (changing opened change regs after)))
      (λ fits v is. plain v)

  -- a request: the call goes on, is refused or waits
  asks-plain : (grant : Grant) (request : Request) (next : FileStep) → P next → P (asks_by grant files request next)
  asks-plain Granted request next holds = holds
  asks-plain Locked request next holds = tt
  asks-plain Deadlock request next holds = tt
  asks-plain Wait request next holds = tt

  locked-plain : (opened : OpenFile) (request : Request) (bytes : List ℕ) (regs : Regs) → P (writes_locked asker files opened request bytes regs)
  locked-plain opened request bytes regs =
      asks-plain (answer_to asker files request) request
      (changes_file opened (writes opened.place.number request.lock.range.start bytes) (length (written opened.file.contents request.lock.range.start bytes)) regs after)
      (change-plain opened (writes opened.place.number request.lock.range.start bytes) (length (written opened.file.contents request.lock.range.start bytes)) regs after (λ v. tt))
    where
      after : Files
      after =
          with_position (with_records files (written_by files.records opened.opened.path.0 request.lock bytes)) opened.opened (request.lock.range.start + length bytes)

  write-plain : (opened : OpenFile) (code : ℕ) (bytes : List ℕ) (regs : Regs) → P (writes_bytes asker files opened code bytes regs)
  write-plain opened code bytes regs = locked-plain opened (request_now asker files opened (write_claim opened code (length bytes))) bytes regs

  send-plain : (opened : OpenFile) (code : ℕ) (bytes : List ℕ) → P (sends_bytes asker files opened code bytes)
  send-plain opened code bytes =
      refuses-by P no (not (can_write opened.opened.desc.mode)) E_BMODE
      (if asker.caller.regs.y == 0 then done asker.caller.regs files else writes_bytes asker files opened code bytes (count_regs asker.caller (length bytes)))
      (λ allowed. by_none (asker.caller.regs.y == 0))
    where
      by_none : (none : Bool) → P (if none then done asker.caller.regs files else writes_bytes asker files opened code bytes (count_regs asker.caller (length bytes)))
      by_none true = tt
      by_none false = write-plain opened code bytes (count_regs asker.caller (length bytes))

  size-plain : (opened : OpenFile) (size : ℕ) (request : Request) → P (sizes_locked asker files opened size request)
  size-plain opened size request =
      asks-plain (answer_to asker files request) request
      (changes_file opened (sizes opened.place.number size) size asker.caller.regs (after_size files opened size request.lock))
      (change-plain opened (sizes opened.place.number size) size asker.caller.regs (after_size files opened size request.lock) (λ v. tt))

  lock-plain : (opened : OpenFile) (count : ℕ) (nothing : Bool)
      → P (if nothing then done asker.caller.regs
      (with_records files (without_lock files.records opened.opened.path.0)) else reaches opened.place.drive
      (locks_range asker files opened (request_now asker files opened (lock_claim opened count))))
  lock-plain opened count true = tt
  lock-plain opened count false =
      let request = request_now asker files opened (lock_claim opened count) in
      asks-plain (answer_to asker files request) request
      (done asker.caller.regs (with_records files (holding files.records opened.opened.path.0 request.lock []))) tt

  status-plain : (opened : OpenFile) (size ticks lock attributes : Bool)
      → P (if size then sets_size asker files opened else (if ticks then sets_ticks asker files opened else
      (if lock then sets_lock asker files opened else (if attributes then sets_attributes_of asker files opened else
      refused E_UNKSVC))))
  status-plain opened true ticks lock attributes =
      let size = long_of asker.caller.regs in
      let request = request_now asker files opened (size_claim opened size) in
      refuses-by P no (not (can_write opened.opened.desc.mode)) E_BMODE
      (reaches opened.place.drive (sizes_locked asker files opened size request)) (λ allowed. size-plain opened size request)
  status-plain opened false true lock attributes = tt
  status-plain opened false false true attributes =
      refuses-by P no (not (is_for_update opened.opened.desc.mode)) E_BMODE (locks_bytes asker files opened (long_of asker.caller.regs))
      (λ allowed. lock-plain opened (long_of asker.caller.regs) (long_of asker.caller.regs == 0))
  status-plain opened false false false true =
      refuses-by P no (not (owns_file opened.file asker.user)) E_FNA (comes (changes (changing opened (sets_attributes opened.place.number (asker.caller.regs.x % 256)) asker.caller.regs files)))
      (λ owns v is. tt)
  status-plain opened false false false false = tt

  -- ---- every call

  module _ (terms : ℕ) where
    -- a call that changes no volume
    by-split : (call : PathCall) (reached : Option ℕ) (deed : Deed) → Splits call asker files terms reached deed → may_change_volume call ≡ false → IsPlain deed
    by-split call reached (leaves_so it) splits none = tt
    by-split call reached (as_io step) splits none = tt
    by-split call reached (changes it) splits none = absurd (both_ways (may_change_volume call) none splits.may)

    unchanging : (call : PathCall) → may_change_volume call ≡ false → P (file_step call asker files terms)
    unchanging call none =
        by-split call (drive_of (file_step call asker files terms)) (deed_of (file_step call asker files terms) files) (step-splits call asker files terms) none

    pub step-plain : (call : PathCall) → P (file_step call asker files terms)
    step-plain Call.Create =
        list-by P no (list_of asker) (tests_mode (can_write asker.caller.regs.a))
        (λ list. creates_on_route asker files terms list (route_to_new asker files terms (is_for_execution asker.caller.regs.a) list))
        (mode-plain (can_write asker.caller.regs.a))
        (λ list. create-way terms list (route_to_new asker files terms (is_for_execution asker.caller.regs.a) list))
    step-plain Call.MakDir =
        list-by P no (list_of asker) (λ step. step) (λ list. makes_on_route asker files list (route_to_new asker files terms false list)) (λ step holds. holds)
        (λ list. make-way list (route_to_new asker files terms false list))
    step-plain Call.Delete = delete-by terms false (λ step. step) (λ step holds. holds)
    step-plain Call.DeletX =
        delete-by terms (is_for_execution asker.caller.regs.a) (tests_mode (is_mode asker.caller.regs.a)) (mode-plain (is_mode asker.caller.regs.a))
    step-plain Call.Write =
        number-plain asker.caller.regs.a (writes_device asker.caller files.io)
        (λ opened. needs (user_bytes asker.caller.cells asker.caller.regs.x asker.caller.regs.y) E_BPADDR (sends_bytes asker files opened I_WRITE))
        (λ opened. needs-by P no (user_bytes asker.caller.cells asker.caller.regs.x asker.caller.regs.y) E_BPADDR
        (sends_bytes asker files opened I_WRITE) (λ bytes there. send-plain opened I_WRITE bytes))
    step-plain Call.WritLn =
        number-plain asker.caller.regs.a (writes_device_line asker.caller files.io)
        (λ opened. needs (line_moved asker (pending_request asker files)) E_BPADDR (sends_bytes asker files opened I_WRITLN))
        (λ opened. needs-by P no (line_moved asker (pending_request asker files)) E_BPADDR (sends_bytes asker files opened I_WRITLN) (λ bytes there. send-plain opened I_WRITLN bytes))
    step-plain Call.SetStt =
        number-plain asker.caller.regs.a (sets_of_device asker.caller files.io)
        (λ opened. if asker.caller.regs.b == SS_SIZE then sets_size asker files opened
        else (if asker.caller.regs.b == SS_TICKS then sets_ticks asker files opened
        else (if asker.caller.regs.b == SS_LOCK then sets_lock asker files opened
        else (if asker.caller.regs.b == SS_ATTR then sets_attributes_of asker files opened else refused E_UNKSVC))))
        (λ opened. status-plain opened (asker.caller.regs.b == SS_SIZE) (asker.caller.regs.b == SS_TICKS) (asker.caller.regs.b == SS_LOCK) (asker.caller.regs.b == SS_ATTR))
    step-plain Call.PErr =
        number-plain STANDARD_ERROR (tells_device asker.caller files.io)
        (λ opened. refuses (not (can_write opened.opened.desc.mode)) E_BMODE (writes_bytes asker files opened F_PERR (error_line asker.caller.regs.b) asker.caller.regs))
        (λ opened. refuses-by P no (not (can_write opened.opened.desc.mode)) E_BMODE (writes_bytes asker files opened F_PERR (error_line asker.caller.regs.b) asker.caller.regs)
        (λ allowed. write-plain opened F_PERR (error_line asker.caller.regs.b) asker.caller.regs))
    step-plain Call.Dup = unchanging Call.Dup refl
    step-plain Call.Open = unchanging Call.Open refl
    step-plain Call.ChgDir = unchanging Call.ChgDir refl
    step-plain Call.Seek = unchanging Call.Seek refl
    step-plain Call.Read = unchanging Call.Read refl
    step-plain Call.ReadLn = unchanging Call.ReadLn refl
    step-plain Call.GetStt = unchanging Call.GetStt refl
    step-plain Call.Close = unchanging Call.Close refl
