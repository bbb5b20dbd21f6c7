-- I$Write, I$WritLn and F$PErr to a file (System Programmer's Manual, I$Write, I$WritLn and F$PErr; Level Two manual,
-- RBF record locking).
-- I$Write and I$WritLn take the path in A, the address of the bytes in X and their count, or the most bytes of the
-- line, in Y; they return the count in Y. F$PErr takes the number in B, and writes its line to standard error. The
-- position moves past the bytes written. If a write begins past the old end, zeros fill the gap. The path then holds no
-- lock.
-- Errors: E$BPAddr, E$BPNum, E$BMode, E$Lock, E$DeadLk, E$Full, E$SLF.
use Rattle.std.specs.Prelude.{ℕ, ◌+◌, nat_lt, not, Option, Some, None, List, length}
use Rattle.os9_base.specs.UserLines.{line_at}
use Rattle.os9_base.specs.declared.calls.TheConstants.{I_WRITE, I_WRITLN, F_PERR}
use Rattle.os9_base.specs.declared.errors.TheConstants.{E_BPADDR, E_BMODE, E_FULL}
use Rattle.os9_base.specs.declared.registers.Regs.{Regs}
use Rattle.proc_model.specs.UserBytes.{user_bytes}
use Rattle.rbf_change.specs.Calls.{cluster_size, free_total}
use Rattle.rbf_change.specs.Contents.{written}
use Rattle.rbf_change.specs.Growth.{clusters_needed}
use Rattle.io_model.specs.Modes.{can_write}
use Rattle.io_model.specs.Pipes.{count_regs}
use Rattle.io_model.specs.Step.{answers}
use Rattle.io_model.specs.Write.{i_write as writes_device, i_writln as writes_device_line, f_perr as tells_device, error_line}
use Rattle.io_model.specs.declared.modes.TheConstants.{STANDARD_ERROR}
use Rattle.file_rules.specs.Change.{Change, writes}
use Rattle.file_rules.specs.Files.{Files, Asker, OpenFile, with_position, with_records}
use Rattle.file_rules.specs.Locking.{range_from, request_now, asks, pending_request}
use Rattle.file_rules.specs.declared.claim.Claim.{Claim}
use Rattle.lock_model.specs.Records.{written_by}
use Rattle.lock_model.specs.declared.lock.Request.{Request}
use Rattle.file_rules.specs.OnFile.{on_file, moves_bytes}
use Rattle.file_rules.specs.Step.{FileStep, comes, reaches, changes, needs, refuses, leaves}

-- the file is changed so that it has a size, and these are the rest of the state and the registers afterwards; it is
-- refused if it needs more clusters than are free
abbrev pub changes_file : OpenFile → Change → ℕ → Regs → Files → FileStep
changes_file opened change size regs after =
    refuses
    (nat_lt (free_total opened.volume) (clusters_needed (cluster_size opened.volume) opened.file.segments size)) E_FULL
    (comes (changes (record {
      drive = opened.place.drive;
      change = change;
      effect = λ n. leaves (answers regs) after;
    })))

-- these bytes are written at the start of the call's range, if its request is granted
abbrev pub writes_locked : Asker → Files → OpenFile → Request → List ℕ → Regs → FileStep
writes_locked asker files opened request bytes regs =
    asks asker files request
    (changes_file opened (writes opened.place.number request.lock.range.start bytes)
    (length (written opened.file.contents request.lock.range.start bytes)) regs
    (with_position (with_records files (written_by files.records opened.opened.path.0 request.lock bytes)) opened.opened
    (request.lock.range.start + length bytes)))

abbrev pub write_claim : OpenFile → ℕ → ℕ → Claim
write_claim opened code count =
    record { code = code; count = count; range = range_from opened opened.opened.desc.at count }

abbrev pub writes_bytes : Asker → Files → OpenFile → ℕ → List ℕ → Regs → FileStep
writes_bytes asker files opened code bytes regs =
    reaches opened.place.drive
    (writes_locked asker files opened (request_now asker files opened (write_claim opened code (length bytes))) bytes
    regs)

-- the same, returning their count
abbrev pub sends_bytes : Asker → Files → OpenFile → ℕ → List ℕ → FileStep
sends_bytes asker files opened code bytes =
    moves_bytes asker files opened can_write
    (writes_bytes asker files opened code bytes (count_regs asker.caller (length bytes)))

-- the line that the call moves: a further attempt moves as many bytes as the first one found
abbrev pub line_moved : Asker → Option Request → Option (List ℕ)
line_moved asker None = line_at asker.caller.cells asker.caller.regs.x asker.caller.regs.y
line_moved asker (Some request) = user_bytes asker.caller.cells asker.caller.regs.x request.count

abbrev pub i_write : Asker → Files → FileStep
i_write asker files =
    on_file asker files asker.caller.regs.a (writes_device asker.caller files.io)
    (λ opened. needs (user_bytes asker.caller.cells asker.caller.regs.x asker.caller.regs.y) E_BPADDR
    (sends_bytes asker files opened I_WRITE))

abbrev pub i_writln : Asker → Files → FileStep
i_writln asker files =
    on_file asker files asker.caller.regs.a (writes_device_line asker.caller files.io)
    (λ opened. needs (line_moved asker (pending_request asker files)) E_BPADDR
    (sends_bytes asker files opened I_WRITLN))

-- the registers are unchanged
abbrev pub f_perr : Asker → Files → FileStep
f_perr asker files =
    on_file asker files STANDARD_ERROR (tells_device asker.caller files.io)
    (λ opened. refuses (not (can_write opened.opened.desc.mode)) E_BMODE
    (writes_bytes asker files opened F_PERR (error_line asker.caller.regs.b) asker.caller.regs))
