-- Calls on a number of a path: I$Read, I$Write, I$Seek, I$GetStt, I$SetStt and their like move positions and change one
-- file, which keeps its kind.
use Rattle.std.proofs.Common.{◌≡◌, ℕ, ◌+◌, ◌%◌, ◌==◌, Bool, true, false, not, Option, Some, None, List, [], length, refl, ap, ◌∙◌, subst}
use Rattle.std.specs.Prelude.{is_none, nat_le, nat_lt, take, if◌then◌else◌}
use Rattle.std.proofs.lemmas.Option.{same_Some}
use Rattle.os9_base.specs.UserLines.{line_at}
use Rattle.os9_base.specs.declared.calls.TheConstants.{I_READ, I_READLN, I_WRITE, I_WRITLN, F_PERR}
use Rattle.io_model.specs.declared.terminal.ReadKind.{ReadKind}
use Rattle.os9_base.specs.declared.errors.TheConstants.{E_BPADDR, E_BMODE, E_EOF, E_FNA, E_FULL, E_UNKSVC}
use Rattle.os9_base.specs.declared.registers.Regs.{Regs}
use Rattle.proc_model.specs.UserBytes.{user_bytes}
use Rattle.io_model.specs.Line.{first_line}
use Rattle.io_model.specs.Path.{desc_of, with_desc}
use Rattle.io_model.specs.declared.path.Desc.{Desc}
use Rattle.io_model.specs.declared.terminal.ReadKind.TheVariants.{Bytes, WholeLine}
use Rattle.rbf_model.specs.File.{DiskFile, is_directory}
use Rattle.rbf_model.specs.Volume.{DiskVolume}
use Rattle.rbf_change.specs.Calls.{cluster_size, free_total, is_free_in, SizesFile, WritesFile, with_attributes}
use Rattle.rbf_change.specs.Contents.{written}
use Rattle.rbf_change.specs.Growth.{clusters_needed}
use Rattle.rbf_change.specs.NewFiles.{owns_file}
use Rattle.io_model.specs.Io.{Io, with_paths}
use Rattle.io_model.specs.Modes.{can_read, can_write}
use Rattle.io_model.specs.Pipes.{count_regs}
use Rattle.io_model.specs.Read.{i_read as reads_device, i_readln as reads_device_line}
use Rattle.io_model.specs.Status.{i_getstt as gets_of_device, i_setstt as sets_of_device, options}
use Rattle.io_model.specs.Step.{IoStep, answers}
use Rattle.io_model.specs.Write.{i_write as writes_device, i_writln as writes_device_line, f_perr as tells_device, error_line}
use Rattle.io_model.specs.declared.modes.TheConstants.{STANDARD_ERROR}
use Rattle.io_model.specs.declared.status.TheConstants.{SS_OPT, SS_READY, SS_EOF, OPTION_BYTES}
use Rattle.file_rules.specs.Change.{Change, AppliesChange, ChangeMayLeave, writes, sizes, sets_attributes}
use Rattle.file_rules.specs.Files.{Files, Asker, OpenFile, open_file, with_io, with_position, with_records, with_ticks}
use Rattle.file_rules.specs.OnFile.{by_kind, moves_bytes, on_file}
use Rattle.file_rules.specs.Read.{answers_bytes, bytes_at, i_read, i_readln, lock_by, read_claim, read_start, reads_at, reads_file, reads_freely, reads_locked, reads_on}
use Rattle.file_rules.specs.Close.{files_after_close, i_close}
use Rattle.file_rules.specs.Locking.{is_for_update, lock_ends, pending_request, request_now}
use Rattle.lock_model.specs.Records.{Records, ends_lock, holding, without_lock, written_by}
use Rattle.io_model.specs.Close.{i_close as closes_device, after_close}
use Rattle.file_rules.specs.Seek.{i_seek, long_of, seeks_nothing}
use Rattle.file_rules.specs.Status.{asked_bytes, descriptor_front, gets_bytes, gets_descriptor, gets_end, gets_size, gets_status, i_getstt, i_setstt, after_size, lock_claim, locks_bytes, locks_range, long_regs, sets_attributes_of, sets_lock, sets_size, sets_status, sets_ticks, size_claim, sizes_locked}
use Rattle.file_rules.specs.Step.{FileStep, refused, comes, reaches, changes, leaves_so, done, leaves, needs, refuses, stores}
use Rattle.file_rules.specs.Write.{changes_file, f_perr, i_write, i_writln, line_moved, sends_bytes, write_claim, writes_bytes, writes_locked}
use Rattle.file_rules.specs.declared.status.TheConstants.{SS_SIZE, SS_POS, SS_FD, SS_TICKS, SS_LOCK, SS_ATTR}
use Rattle.file_laws.specs.Kinds.{IsOnItsKind, AreKinds}
use Rattle.file_laws.proofs.Counts.{Stands, many-io, many-same, stands-io, stands-records, stands-same}
use Rattle.file_laws.proofs.Kept.{AllStill, AreOn, kinds-records, kinds-still}
use Rattle.file_laws.proofs.Named.{opened-desc}
use Rattle.file_laws.proofs.Paths.{LeavesOn, on-desc, reads-leave, write-leaves, line-leaves, error-leaves, nothing-leaves, get-leaves, set-leaves, close-leaves, on-closed}
use Rattle.file_laws.proofs.Steps.{Kept, KeptOn, asks-on, io-kept, leaves-kept, needs-by, on-changes, on-leaves, on-refused, reaches-kept, refused-kept, refuses-by}
use Rattle.file_laws.proofs.Volumes.{all-same, attributes-kind, changes-still, size-kind, size-still, write-still}

module _ (asker : Asker) (files : Files) (kinds : AreKinds files) where
  -- a call goes on with a file, or is the other call
  file-by : (o : Option OpenFile) (otherwise : IoStep) (next : OpenFile → FileStep) → LeavesOn files otherwise
      asker.caller files.io → ((opened : OpenFile) → o ≡ Some opened → Kept asker files (next opened))
      → Kept asker files (by_kind o otherwise next)
  file-by None otherwise next on kept = io-kept asker files kinds otherwise on
  file-by (Some opened) otherwise next on kept = kept opened refl

  on-kept : (number : ℕ) (otherwise : IoStep) (next : OpenFile → FileStep) → LeavesOn files otherwise asker.caller
      files.io → ((opened : OpenFile) → desc_of files.io.paths opened.opened.path.0 ≡ Some opened.opened.desc
      → Kept asker files (next opened)) → Kept asker files (on_file asker files number otherwise next)
  on-kept number otherwise next on kept =
      file-by (open_file files asker.caller.process.0 number) otherwise next on (λ opened is. kept opened (opened-desc files asker.caller.process.0 number opened is))

  none-kept : (number : ℕ) → Kept asker files (refused number)
  none-kept number = refused-kept asker files kinds number

  module _ (opened : OpenFile) (there : desc_of files.io.paths opened.opened.path.0 ≡ Some opened.opened.desc) where
    -- the paths with another position of this one
    position-on : (at : ℕ) → AreOn files (with_desc files.io.paths opened.opened.path.0 (Some (record opened.opened.desc { at = at })))
    position-on at =
        on-desc files files.io.paths opened.opened.path.0 (Some (record opened.opened.desc { at = at })) kinds.paths
        (λ desc is. subst (λ (d : Desc). IsOnItsKind files d) (same_Some (record opened.opened.desc { at = at }) desc is) (kinds.paths opened.opened.path.0 opened.opened.desc there))

    moved-kinds : (at : ℕ) → Stands files (with_position files opened.opened at)
    moved-kinds at = stands-io files kinds (with_paths files.io (with_desc files.io.paths opened.opened.path.0 (Some (record opened.opened.desc { at = at })))) (position-on at)

    -- what moves bytes
    moves-kept : (is_allowed : ℕ → Bool) (next : FileStep) → Kept asker files next → Kept asker files (moves_bytes asker files opened is_allowed next)
    moves-kept is_allowed next kept =
        refuses-by (Kept asker files) none-kept (not (is_allowed opened.opened.desc.mode)) E_BMODE (if asker.caller.regs.y == 0 then done asker.caller.regs files else next)
        (λ allowed. by_count (asker.caller.regs.y == 0))
      where
        by_count : (nothing : Bool) → Kept asker files (if nothing then done asker.caller.regs files else next)
        by_count true = leaves-kept asker files kinds (leaves (answers asker.caller.regs) files) (stands-same files kinds)
        by_count false = kept

    -- and with other records
    moved-in : (records : Records) (at : ℕ) → Stands files (with_position (with_records files records) opened.opened at)
    moved-in records at = stands-records files kinds (with_position files opened.opened at) records (moved-kinds at)

    -- ---- I$Read and I$ReadLn

    at-kept : (kind : ReadKind) (at : ℕ) → KeptOn asker files opened.place.drive (reads_at kind asker files opened at)
    at-kept kind at =
        refuses-by (KeptOn asker files opened.place.drive) (on-refused asker files kinds opened.place.drive) (nat_le (length opened.file.contents) at) E_EOF
        (if is_for_update opened.opened.desc.mode then reads_locked kind asker files opened
        (request_now asker files opened (read_claim kind asker opened at)) (bytes_at kind asker opened at) else
        reads_freely kind asker files opened)
        (λ more. by (is_for_update opened.opened.desc.mode))
      where
        by : (update : Bool) → KeptOn asker files opened.place.drive (if update then reads_locked kind asker files
            opened (request_now asker files opened (read_claim kind asker opened at)) (bytes_at kind asker opened at)
            else reads_freely kind asker files opened)
        by true =
            let request = request_now asker files opened (read_claim kind asker opened at) in
            let bytes = bytes_at kind asker opened at in
            let records = holding files.records opened.opened.path.0 (lock_by kind request.lock bytes) bytes in
            asks-on asker files kinds opened.place.drive request (comes (leaves_so (answers_bytes asker (with_records files records) opened request.lock.range.start bytes)))
            (on-leaves asker files kinds opened.place.drive (answers_bytes asker (with_records files records) opened
            request.lock.range.start bytes) (moved-in records (request.lock.range.start + length bytes)))
        by false =
            let bytes = bytes_at kind asker opened opened.opened.desc.at in
            on-leaves asker files kinds opened.place.drive (answers_bytes asker files opened opened.opened.desc.at bytes) (moved-kinds (opened.opened.desc.at + length bytes))

    read-kept : (kind : ReadKind) → Kept asker files (reads_file kind asker files opened)
    read-kept kind =
        reaches-kept asker files kinds opened.place.drive (reads_at kind asker files opened (read_start asker files opened)) (at-kept kind (read_start asker files opened))

    -- ---- changes of the file

    change-on : (change : Change) (size : ℕ) (regs : Regs) (io : Io) (records : Records) → AreKinds (with_io files io)
        → ((was now : DiskVolume) (number : ℕ) → AppliesChange change asker.user asker.now was now number → AllStill was now)
        → ((was left : DiskVolume) → ChangeMayLeave change asker.user asker.now was left → AllStill was left)
        → KeptOn asker files opened.place.drive (changes_file opened change size regs (with_records (with_io files io)
        records))
    change-on change size regs io records after made left =
        refuses-by (KeptOn asker files opened.place.drive) (on-refused asker files kinds opened.place.drive)
        (nat_lt (free_total opened.volume) (clusters_needed (cluster_size opened.volume) opened.file.segments
        size)) E_FULL (comes (changes (record {
          drive = opened.place.drive;
          change = change;
          effect = λ n. leaves
              (answers regs) (with_records (with_io files io) records);
        })))
        (λ room. on-changes asker files kinds (record { drive = opened.place.drive; change = change; effect = λ n. leaves (answers regs) (with_records (with_io files io) records) })
        (λ number. (stands-records files kinds (with_io files io) records (record { kinds = after; many = many-io files io })).many)
        (λ was now number is makes. kinds-still (with_records (with_io files io) records) opened.place.drive was now is (made was now number makes) (kinds-records (with_io files io) after records))
        (λ was left_now is may. kinds-still files opened.place.drive was left_now is (left was left_now may) kinds))

    write-kept : (code : ℕ) (bytes : List ℕ) (regs : Regs) → Kept asker files (writes_bytes asker files opened code bytes regs)
    write-kept code bytes regs =
        let request = request_now asker files opened (write_claim opened code (length bytes)) in
        let at = request.lock.range.start in
        reaches-kept asker files kinds opened.place.drive (writes_locked asker files opened request bytes regs)
        (asks-on asker files kinds opened.place.drive request
        (changes_file opened (writes opened.place.number at bytes) (length (written opened.file.contents at bytes))
        regs (with_position (with_records files (written_by files.records opened.opened.path.0 request.lock
        bytes)) opened.opened (at + length bytes)))
        (change-on (writes opened.place.number at bytes) (length (written opened.file.contents at bytes)) regs
        (with_paths files.io (with_desc files.io.paths opened.opened.path.0 (Some (record opened.opened.desc { at = at + length bytes }))))
        (written_by files.records opened.opened.path.0 request.lock bytes)
        (moved-kinds (at + length bytes)).kinds
        (λ was now number it. changes-still (WritesFile (cluster_size was) (is_free_in was) at bytes asker.now)
        (λ old new done. ap (λ (file : DiskFile). is_directory file) done.file) was now opened.place.number it)
        (λ was left it. write-still was left opened.place.number at bytes it)))

    send-kept : (code : ℕ) (bytes : List ℕ) → Kept asker files (sends_bytes asker files opened code bytes)
    send-kept code bytes =
        moves-kept can_write (writes_bytes asker files opened code bytes (count_regs asker.caller (length bytes))) (write-kept code bytes (count_regs asker.caller (length bytes)))

    -- ---- I$GetStt

    get-on : (count : ℕ) (bytes : List ℕ) → Kept asker files (gets_bytes asker files count (λ step. step) bytes)
    get-on count bytes =
        refuses-by (Kept asker files) none-kept (is_none (user_bytes asker.caller.cells asker.caller.regs.x count))
        E_BPADDR (comes (leaves_so (stores asker.caller.regs.x bytes asker.caller.regs files)))
        (λ fits. leaves-kept asker files kinds (stores asker.caller.regs.x bytes asker.caller.regs files) (stands-same files kinds))

    reach-done : (step : FileStep) → KeptOn asker files opened.place.drive step → Kept asker files (reaches opened.place.drive step)
    reach-done step kept = reaches-kept asker files kinds opened.place.drive step kept

    descriptor-kept : Kept asker files (gets_descriptor asker files opened)
    descriptor-kept =
        refuses-by (Kept asker files) none-kept (is_none (user_bytes asker.caller.cells asker.caller.regs.x
        (asked_bytes asker))) E_BPADDR (reaches opened.place.drive
        (comes (leaves_so (stores asker.caller.regs.x (take (asked_bytes asker) (descriptor_front opened.file))
        asker.caller.regs files))))
        (λ fits. reach-done (comes (leaves_so (stores asker.caller.regs.x (take (asked_bytes asker) (descriptor_front opened.file)) asker.caller.regs files)))
        (on-leaves asker files kinds opened.place.drive (stores asker.caller.regs.x (take (asked_bytes asker) (descriptor_front opened.file)) asker.caller.regs files) (stands-same files kinds)))

    size-kept : Kept asker files (gets_size asker files opened)
    size-kept =
        reach-done (done (long_regs asker.caller.regs (length opened.file.contents)) files)
        (on-leaves asker files kinds opened.place.drive (leaves (answers (long_regs asker.caller.regs (length opened.file.contents))) files) (stands-same files kinds))

    end-kept : Kept asker files (gets_end asker files opened)
    end-kept =
        reach-done (refuses (nat_le (length opened.file.contents) opened.opened.desc.at) E_EOF (done (record asker.caller.regs { b = 0 }) files))
        (refuses-by (KeptOn asker files opened.place.drive) (on-refused asker files kinds opened.place.drive)
        (nat_le (length opened.file.contents) opened.opened.desc.at) E_EOF
        (done (record asker.caller.regs { b = 0 }) files)
        (λ more. on-leaves asker files kinds opened.place.drive (leaves (answers (record asker.caller.regs { b = 0 })) files) (stands-same files kinds)))

    done-kept : (regs : Regs) → Kept asker files (done regs files)
    done-kept regs = leaves-kept asker files kinds (leaves (answers regs) files) (stands-same files kinds)

    status-by : (opt ready size pos end fd : Bool) → Kept asker files (if opt then gets_bytes asker files OPTION_BYTES
        (λ step. step) (options opened.opened.desc.target) else
        (if ready then done (record asker.caller.regs { b = 0 }) files else (if size then gets_size asker files opened
        else (if pos then done (long_regs asker.caller.regs opened.opened.desc.at) files else
        (if end then gets_end asker files opened else (if fd then gets_descriptor asker files opened else refused
        E_UNKSVC))))))
    status-by true ready size pos end fd = get-on OPTION_BYTES (options opened.opened.desc.target)
    status-by false true size pos end fd = done-kept (record asker.caller.regs { b = 0 })
    status-by false false true pos end fd = size-kept
    status-by false false false true end fd = done-kept (long_regs asker.caller.regs opened.opened.desc.at)
    status-by false false false false true fd = end-kept
    status-by false false false false false true = descriptor-kept
    status-by false false false false false false = none-kept E_UNKSVC

    get-status : (code : ℕ) → Kept asker files (gets_status asker files opened code)
    get-status code = status-by (code == SS_OPT) (code == SS_READY) (code == SS_SIZE) (code == SS_POS) (code == SS_EOF) (code == SS_FD)

    -- ---- I$SetStt

    set-size : Kept asker files (sets_size asker files opened)
    set-size =
        let size = long_of asker.caller.regs in
        let request = request_now asker files opened (size_claim opened size) in
        refuses-by (Kept asker files) none-kept (not (can_write opened.opened.desc.mode)) E_BMODE (reaches opened.place.drive (sizes_locked asker files opened size request))
        (λ allowed. reaches-kept asker files kinds opened.place.drive (sizes_locked asker files opened size request)
        (asks-on asker files kinds opened.place.drive request
        (changes_file opened (sizes opened.place.number size) size asker.caller.regs (after_size files opened size request.lock))
        (change-on (sizes opened.place.number size) size asker.caller.regs files.io (after_size files opened size request.lock).records kinds-as
        (λ was now number it. changes-still (SizesFile (cluster_size was) (is_free_in was) opened.place.number size
        asker.now) (size-kind (cluster_size was) (is_free_in was) opened.place.number size asker.now) was now
        opened.place.number it)
        (λ was left it. size-still it.0 was left opened.place.number size asker.now it.2))))
      where
        kinds-as : AreKinds (with_io files files.io)
        kinds-as = kinds

    -- with other records
    records-kept : (records : Records) → Stands files (with_records files records)
    records-kept records = stands-records files kinds files records (stands-same files kinds)

    set-lock : Kept asker files (sets_lock asker files opened)
    set-lock =
        refuses-by (Kept asker files) none-kept (not (is_for_update opened.opened.desc.mode)) E_BMODE (locks_bytes asker files opened (long_of asker.caller.regs))
        (λ allowed. by_count (long_of asker.caller.regs) (long_of asker.caller.regs == 0))
      where
        by_count : (count : ℕ) (nothing : Bool) → Kept asker files (if nothing then done asker.caller.regs
            (with_records files (without_lock files.records opened.opened.path.0)) else reaches opened.place.drive
            (locks_range asker files opened (request_now asker files opened (lock_claim opened count))))
        by_count count true =
            leaves-kept asker files kinds (leaves (answers asker.caller.regs) (with_records files (without_lock files.records opened.opened.path.0)))
            (records-kept (without_lock files.records opened.opened.path.0))
        by_count count false =
            let request = request_now asker files opened (lock_claim opened count) in
            let held = with_records files (holding files.records opened.opened.path.0 request.lock []) in
            reaches-kept asker files kinds opened.place.drive (locks_range asker files opened request)
            (asks-on asker files kinds opened.place.drive request (done asker.caller.regs held)
            (on-leaves asker files kinds opened.place.drive (leaves (answers asker.caller.regs) held) (records-kept held.records)))

    -- the path with another number of ticks
    ticks-on : (ticks : ℕ) → AreOn files (with_desc files.io.paths opened.opened.path.0 (Some (record opened.opened.desc { ticks = ticks })))
    ticks-on ticks =
        on-desc files files.io.paths opened.opened.path.0 (Some (record opened.opened.desc { ticks = ticks })) kinds.paths
        (λ desc is. subst (λ (d : Desc). IsOnItsKind files d) (same_Some (record opened.opened.desc { ticks = ticks }) desc is) (kinds.paths opened.opened.path.0 opened.opened.desc there))

    set-ticks : Kept asker files (sets_ticks asker files opened)
    set-ticks =
        leaves-kept asker files kinds (leaves (answers asker.caller.regs) (with_ticks files opened.opened asker.caller.regs.x))
        (stands-io files kinds (with_paths files.io (with_desc files.io.paths opened.opened.path.0 (Some (record opened.opened.desc { ticks = asker.caller.regs.x })))) (ticks-on asker.caller.regs.x))

    set-attributes : Kept asker files (sets_attributes_of asker files opened)
    set-attributes =
        reach-done (refuses (not (owns_file opened.file asker.user)) E_FNA
        (comes (changes (record {
          drive = opened.place.drive;
          change = sets_attributes opened.place.number
              (asker.caller.regs.x % 256);
          effect = λ n. leaves (answers asker.caller.regs) files;
        }))))
        (refuses-by (KeptOn asker files opened.place.drive) (on-refused asker files kinds opened.place.drive)
        (not (owns_file opened.file asker.user)) E_FNA
        (comes (changes (record {
          drive = opened.place.drive;
          change = sets_attributes opened.place.number
              (asker.caller.regs.x % 256);
          effect = λ n. leaves (answers asker.caller.regs) files;
        })))
        (λ owns. on-changes asker files kinds (record {
          drive = opened.place.drive;
          change = sets_attributes
              opened.place.number (asker.caller.regs.x % 256);
          effect = λ n. leaves (answers asker.caller.regs) files;
        })
        (λ number. many-same files)
        (λ was now number is it. kinds-still files opened.place.drive was now is
        (changes-still (λ old new. new ≡ with_attributes old (asker.caller.regs.x % 256) asker.now)
        (λ old new done. ap (λ (file : DiskFile). is_directory file) done ∙ attributes-kind old.attributes
        (asker.caller.regs.x % 256)) was now opened.place.number it) kinds)
        (λ was left is same. kinds-still files opened.place.drive was left is (all-same was left same) kinds)))

    set-by : (size ticks lock attributes : Bool) → Kept asker files (if size then sets_size asker files opened else
        (if ticks then sets_ticks asker files opened else (if lock then sets_lock asker files opened else
        (if attributes then sets_attributes_of asker files opened else refused E_UNKSVC))))
    set-by true ticks lock attributes = set-size
    set-by false true lock attributes = set-ticks
    set-by false false true attributes = set-lock
    set-by false false false true = set-attributes
    set-by false false false false = none-kept E_UNKSVC

  -- ---- the calls

  reads-kept : (otherwise : IoStep) (kind : ReadKind) → LeavesOn files otherwise asker.caller files.io → Kept asker files (reads_on kind asker files otherwise)
  reads-kept otherwise kind on =
      on-kept asker.caller.regs.a otherwise
      (λ opened. refuses (is_none (user_bytes asker.caller.cells asker.caller.regs.x asker.caller.regs.y))
      E_BPADDR (moves_bytes asker files opened can_read (reads_file kind asker files opened))) on
      (λ opened there. refuses-by (Kept asker files) none-kept
      (is_none (user_bytes asker.caller.cells asker.caller.regs.x asker.caller.regs.y)) E_BPADDR
      (moves_bytes asker files opened can_read (reads_file kind asker files opened))
      (λ fits. moves-kept opened there can_read (reads_file kind asker files opened) (read-kept opened there kind)))

  pub i_read-kept : Kept asker files (i_read asker files)
  i_read-kept =
      reads-kept (reads_device asker.caller files.io) Bytes (reads-leave files asker.caller files.io kinds.paths Bytes I_READ)

  pub i_readln-kept : Kept asker files (i_readln asker files)
  i_readln-kept =
      reads-kept (reads_device_line asker.caller files.io) WholeLine (reads-leave files asker.caller files.io kinds.paths WholeLine I_READLN)

  pub i_write-kept : Kept asker files (i_write asker files)
  i_write-kept =
      on-kept asker.caller.regs.a (writes_device asker.caller files.io)
      (λ opened. needs (user_bytes asker.caller.cells asker.caller.regs.x asker.caller.regs.y) E_BPADDR
      (sends_bytes asker files opened I_WRITE)) (write-leaves files asker.caller files.io kinds.paths)
      (λ opened there. needs-by (Kept asker files) none-kept (user_bytes asker.caller.cells asker.caller.regs.x
      asker.caller.regs.y) E_BPADDR (sends_bytes asker files opened I_WRITE) (λ bytes is. send-kept opened there
      I_WRITE bytes))

  pub i_writln-kept : Kept asker files (i_writln asker files)
  i_writln-kept =
      on-kept asker.caller.regs.a (writes_device_line asker.caller files.io)
      (λ opened. needs (line_moved asker (pending_request asker files)) E_BPADDR (sends_bytes asker files opened
      I_WRITLN)) (line-leaves files asker.caller files.io kinds.paths)
      (λ opened there. needs-by (Kept asker files) none-kept (line_moved asker (pending_request asker files)) E_BPADDR
      (sends_bytes asker files opened I_WRITLN) (λ bytes is. send-kept opened there I_WRITLN bytes))

  pub f_perr-kept : Kept asker files (f_perr asker files)
  f_perr-kept =
      on-kept STANDARD_ERROR (tells_device asker.caller files.io)
      (λ opened. refuses (not (can_write opened.opened.desc.mode)) E_BMODE (writes_bytes asker files opened F_PERR
      (error_line asker.caller.regs.b) asker.caller.regs)) (error-leaves files asker.caller files.io kinds.paths)
      (λ opened there. refuses-by (Kept asker files) none-kept (not (can_write opened.opened.desc.mode)) E_BMODE
      (writes_bytes asker files opened F_PERR (error_line asker.caller.regs.b) asker.caller.regs)
      (λ allowed. write-kept opened there F_PERR (error_line asker.caller.regs.b) asker.caller.regs))

  pub i_seek-kept : Kept asker files (i_seek asker files)
  i_seek-kept =
      on-kept asker.caller.regs.a (seeks_nothing asker.caller files.io) (λ opened. done asker.caller.regs
      (with_position files opened.opened (long_of asker.caller.regs))) (nothing-leaves files asker.caller files.io
      kinds.paths)
      (λ opened there. leaves-kept asker files kinds (leaves (answers asker.caller.regs)
      (with_position files opened.opened (long_of asker.caller.regs)))
      (moved-kinds opened there (long_of asker.caller.regs)))

  pub i_getstt-kept : Kept asker files (i_getstt asker files)
  i_getstt-kept =
      on-kept asker.caller.regs.a (gets_of_device asker.caller files.io) (λ opened. gets_status asker files opened asker.caller.regs.b) (get-leaves files asker.caller files.io kinds.paths)
      (λ opened there. get-status opened there asker.caller.regs.b)

  pub i_setstt-kept : Kept asker files (i_setstt asker files)
  i_setstt-kept =
      on-kept asker.caller.regs.a (sets_of_device asker.caller files.io) (λ opened. sets_status asker files opened asker.caller.regs.b) (set-leaves files asker.caller files.io kinds.paths)
      (λ opened there. set-by opened there (asker.caller.regs.b == SS_SIZE) (asker.caller.regs.b == SS_TICKS) (asker.caller.regs.b == SS_LOCK) (asker.caller.regs.b == SS_ATTR))

  pub i_close-kept : Kept asker files (i_close asker files)
  i_close-kept =
      on-kept asker.caller.regs.a (closes_device asker.caller files.io) (λ opened. done asker.caller.regs
      (files_after_close files asker.caller.process.0 asker.caller.regs.a opened.opened.path.0))
      (close-leaves files asker.caller files.io kinds.paths)
      (λ opened there. leaves-kept asker files kinds (leaves (answers asker.caller.regs) (files_after_close files asker.caller.process.0 asker.caller.regs.a opened.opened.path.0))
      (let closed = with_io files (after_close files.io asker.caller.process.0 asker.caller.regs.a) in
      stands-records files kinds closed (ends_lock (lock_ends closed.io.paths (λ owner. false)) opened.opened.path.0 closed.records)
      (stands-io files kinds (after_close files.io asker.caller.process.0 asker.caller.regs.a) (on-closed files files.io asker.caller.process.0 asker.caller.regs.a kinds.paths))))
