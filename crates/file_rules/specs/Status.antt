-- I$GetStt and I$SetStt of a file or a directory (System Programmer's Manual, I$GetStt and I$SetStt).
-- Take the path in A and the code in B. SS.Opt stores 32 bytes at X; SS.Ready returns 0 in B; SS.Size and SS.Pos return
-- a number in X, its high half, and U; SS.EOF returns 0 in B; SS.FD stores the first Y bytes of the descriptor at X, at
-- most 16. To set, SS.Size takes the size in X and U, SS.Ticks the number of ticks in X, SS.Lock the number of bytes to
-- lock in X and U, and SS.Attr the attributes in X. Errors: E$BPNum, E$UnkSvc, E$BPAddr, E$EOF (of SS.EOF); to set
-- E$BMode, E$Lock and E$DeadLk (of SS.Size and SS.Lock), E$Full and E$SLF (of SS.Size), E$FNA (of SS.Attr).
use Rattle.std.specs.Prelude.{ℕ, ◌/◌, ◌%◌, ◌==◌, not, is_none, nat_le, min, None, List, [], ◌∷◌, ◌++◌, length, take, if◌then◌else◌}
use Rattle.os9_base.specs.declared.calls.TheConstants.{I_SETSTT}
use Rattle.os9_base.specs.declared.errors.TheConstants.{E_BPADDR, E_UNKSVC, E_BMODE, E_EOF, E_FNA}
use Rattle.os9_base.specs.declared.registers.Regs.{Regs}
use Rattle.proc_model.specs.UserBytes.{user_bytes, word_bytes}
use Rattle.lock_model.specs.Records.{holding, without_lock, written_by}
use Rattle.lock_model.specs.declared.lock.Held.{Held}
use Rattle.lock_model.specs.declared.lock.Range.{Range}
use Rattle.lock_model.specs.declared.lock.Request.{Request}
use Rattle.rbf_model.specs.File.{DiskFile}
use Rattle.rbf_change.specs.NewFiles.{owns_file}
use Rattle.io_model.specs.Modes.{can_write}
use Rattle.io_model.specs.Step.{answers}
use Rattle.io_model.specs.Status.{i_getstt as gets_of_device, i_setstt as sets_of_device, options}
use Rattle.io_model.specs.declared.status.TheConstants.{SS_OPT, SS_READY, SS_EOF, OPTION_BYTES}
use Rattle.file_rules.specs.Change.{sizes, sets_attributes}
use Rattle.file_rules.specs.Files.{Files, Asker, OpenFile, with_records, with_ticks}
use Rattle.file_rules.specs.Locking.{asks, is_for_update, range_of, request_now}
use Rattle.file_rules.specs.OnFile.{on_file}
use Rattle.file_rules.specs.Seek.{long_of}
use Rattle.file_rules.specs.Step.{FileStep, refused, comes, reaches, leaves_so, changes, refuses, done, leaves, stores}
use Rattle.file_rules.specs.Write.{changes_file}
use Rattle.file_rules.specs.declared.claim.Claim.{Claim}
use Rattle.file_rules.specs.declared.status.TheConstants.{SS_SIZE, SS_POS, SS_FD, SS_TICKS, SS_LOCK, SS_ATTR, WHOLE_FILE, DESCRIPTOR_BYTES}

-- ---- getting the status

-- the registers that return a number in X, its high half, and U
abbrev pub long_regs : Regs → ℕ → Regs
long_regs regs number = record regs { x = number / 65536; u = number % 65536 }

-- the four bytes of a number, the highest first
abbrev pub long_bytes : ℕ → List ℕ
long_bytes number = word_bytes (number / 65536) ++ word_bytes (number % 65536)

-- the first bytes of a file's descriptor, before its segments (FD.ATT to FD.CREAT)
abbrev pub descriptor_front : DiskFile → List ℕ
descriptor_front file =
    (file.attributes ∷ word_bytes file.owner)
    ++ (file.modified ++ (file.links ∷ long_bytes (length file.contents)) ++ file.created)

-- bytes are stored at X, if `count` bytes fit there
abbrev pub gets_bytes : Asker → Files → ℕ → (FileStep → FileStep) → List ℕ → FileStep
gets_bytes asker files count access bytes =
    refuses (is_none (user_bytes asker.caller.cells asker.caller.regs.x count)) E_BPADDR
    (access (comes (leaves_so (stores asker.caller.regs.x bytes asker.caller.regs files))))

-- the number of bytes of the descriptor that are asked for
abbrev pub asked_bytes : Asker → ℕ
asked_bytes asker = min asker.caller.regs.y DESCRIPTOR_BYTES

-- SS.FD
abbrev pub gets_descriptor : Asker → Files → OpenFile → FileStep
gets_descriptor asker files opened =
    gets_bytes asker files (asked_bytes asker) (reaches opened.place.drive)
    (take (asked_bytes asker) (descriptor_front opened.file))

-- SS.Size
abbrev pub gets_size : Asker → Files → OpenFile → FileStep
gets_size asker files opened =
    reaches opened.place.drive (done (long_regs asker.caller.regs (length opened.file.contents)) files)

-- SS.EOF
abbrev pub gets_end : Asker → Files → OpenFile → FileStep
gets_end asker files opened =
    reaches opened.place.drive
    (refuses (nat_le (length opened.file.contents) opened.opened.desc.at) E_EOF
    (done (record asker.caller.regs { b = 0 }) files))

-- the status of this code
abbrev pub gets_status : Asker → Files → OpenFile → ℕ → FileStep
gets_status asker files opened code =
    if code == SS_OPT then gets_bytes asker files OPTION_BYTES (λ step. step) (options opened.opened.desc.target)
    else (if code == SS_READY then done (record asker.caller.regs { b = 0 }) files
    else (if code == SS_SIZE then gets_size asker files opened
    else (if code == SS_POS then done (long_regs asker.caller.regs opened.opened.desc.at) files
    else (if code == SS_EOF then gets_end asker files opened
    else (if code == SS_FD then gets_descriptor asker files opened else refused E_UNKSVC)))))

abbrev pub i_getstt : Asker → Files → FileStep
i_getstt asker files =
    on_file asker files asker.caller.regs.a (gets_of_device asker.caller files.io)
    (λ opened. gets_status asker files opened asker.caller.regs.b)

-- ---- setting the status

-- a call that sets a status counts as one byte to move
abbrev pub status_claim : Range → Claim
status_claim range = record { code = I_SETSTT; count = 1; range = range }

-- all from the smaller of two sizes on
abbrev pub range_resized : ℕ → ℕ → Range
range_resized old new = record { start = min old new; end = None }

-- a size is set under a lock: if it changes, the history has a write without bytes, and else the path's lock ends
abbrev pub after_size : Files → OpenFile → ℕ → Held → Files
after_size files opened size lock =
    with_records files
    (if length opened.file.contents == size then without_lock files.records opened.opened.path.0
    else written_by files.records opened.opened.path.0 lock [])

abbrev pub sizes_locked : Asker → Files → OpenFile → ℕ → Request → FileStep
sizes_locked asker files opened size request =
    asks asker files request
    (changes_file opened (sizes opened.place.number size) size asker.caller.regs
    (after_size files opened size request.lock))

abbrev pub size_claim : OpenFile → ℕ → Claim
size_claim opened size = status_claim (range_resized (length opened.file.contents) size)

-- SS.Size: the position is unchanged
abbrev pub sets_size : Asker → Files → OpenFile → FileStep
sets_size asker files opened =
    refuses (not (can_write opened.opened.desc.mode)) E_BMODE
    (reaches opened.place.drive
    (sizes_locked asker files opened (long_of asker.caller.regs)
    (request_now asker files opened (size_claim opened (long_of asker.caller.regs)))))

-- SS.Ticks: how many ticks the requests of this path wait for a record
abbrev pub sets_ticks : Asker → Files → OpenFile → FileStep
sets_ticks asker files opened = done asker.caller.regs (with_ticks files opened.opened asker.caller.regs.x)

-- the bytes that SS.Lock asks for, of a file of this size: `count` from a position on, or the whole file
abbrev pub range_locked : ℕ → ℕ → ℕ → Range
range_locked size at count = if count == WHOLE_FILE then record { start = 0; end = None } else range_of size at count

abbrev pub lock_claim : OpenFile → ℕ → Claim
lock_claim opened count =
    status_claim (range_locked (length opened.file.contents) opened.opened.desc.at count)

abbrev pub locks_range : Asker → Files → OpenFile → Request → FileStep
locks_range asker files opened request =
    asks asker files request
    (done asker.caller.regs (with_records files (holding files.records opened.opened.path.0 request.lock [])))

-- SS.Lock of `count` bytes; of none, the path's lock ends
abbrev pub locks_bytes : Asker → Files → OpenFile → ℕ → FileStep
locks_bytes asker files opened count =
    if count == 0 then done asker.caller.regs (with_records files (without_lock files.records opened.opened.path.0))
    else reaches opened.place.drive
    (locks_range asker files opened (request_now asker files opened (lock_claim opened count)))

abbrev pub sets_lock : Asker → Files → OpenFile → FileStep
sets_lock asker files opened =
    refuses (not (is_for_update opened.opened.desc.mode)) E_BMODE
    (locks_bytes asker files opened (long_of asker.caller.regs))

-- SS.Attr: the low byte of X, whose bit 7 has no effect
abbrev pub sets_attributes_of : Asker → Files → OpenFile → FileStep
sets_attributes_of asker files opened =
    reaches opened.place.drive
    (refuses (not (owns_file opened.file asker.user)) E_FNA
    (comes (changes (record {
      drive = opened.place.drive;
      change = sets_attributes opened.place.number (asker.caller.regs.x % 256);
      effect = λ n. leaves (answers asker.caller.regs) files;
    }))))

abbrev pub sets_status : Asker → Files → OpenFile → ℕ → FileStep
sets_status asker files opened code =
    if code == SS_SIZE then sets_size asker files opened
    else (if code == SS_TICKS then sets_ticks asker files opened
    else (if code == SS_LOCK then sets_lock asker files opened
    else (if code == SS_ATTR then sets_attributes_of asker files opened else refused E_UNKSVC)))

abbrev pub i_setstt : Asker → Files → FileStep
i_setstt asker files =
    on_file asker files asker.caller.regs.a (sets_of_device asker.caller files.io)
    (λ opened. sets_status asker files opened asker.caller.regs.b)
