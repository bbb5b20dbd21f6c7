-- I$Read and I$ReadLn of a file or a directory (System Programmer's Manual, I$Read and I$ReadLn; Level Two manual, RBF
-- record locking). Take the path in A, the address of the buffer in X and its size in bytes in Y; return the count in
-- Y. The position moves past the bytes read. A line ends with its carriage return. A path that may be written too then
-- holds the bytes that were asked for; if a whole line was read, it holds that line. Errors: E$BPAddr, E$BPNum,
-- E$BMode, E$EOF, E$Lock, E$DeadLk.
use Rattle.std.specs.Prelude.{ℕ, ◌+◌, is_none, nat_le, Some, List, length, if◌then◌else◌}
use Rattle.os9_base.specs.declared.errors.TheConstants.{E_BPADDR, E_EOF}
use Rattle.proc_model.specs.UserBytes.{user_bytes}
use Rattle.io_model.specs.Line.{first_line, has_return}
use Rattle.io_model.specs.declared.terminal.ReadKind.{ReadKind}
use Rattle.io_model.specs.declared.terminal.ReadKind.TheVariants.{Bytes, WholeLine}
use Rattle.lock_model.specs.declared.lock.Held.{Held}
use Rattle.lock_model.specs.declared.lock.Range.{Range}
use Rattle.lock_model.specs.declared.lock.Request.{Request}
use Rattle.lock_model.specs.Records.{holding}
use Rattle.rbf_change.specs.Contents.{bytes_from}
use Rattle.io_model.specs.Modes.{can_read}
use Rattle.io_model.specs.Pipes.{count_regs}
use Rattle.io_model.specs.Read.{i_read as reads_device, i_readln as reads_device_line, read_code}
use Rattle.io_model.specs.Step.{IoStep}
use Rattle.file_rules.specs.Files.{Files, Asker, OpenFile, with_position, with_records}
use Rattle.file_rules.specs.Locking.{is_for_update, position_of, range_from, request_now, asks}
use Rattle.file_rules.specs.declared.claim.Claim.{Claim}
use Rattle.file_rules.specs.OnFile.{on_file, moves_bytes}
use Rattle.file_rules.specs.Step.{FileEffect, FileStep, comes, reaches, leaves_so, refuses, stores}

-- what a read takes of the bytes that it may have: all, or the first line
abbrev pub part_of : ReadKind → List ℕ → List ℕ
part_of Bytes bytes = bytes
part_of WholeLine bytes = first_line bytes

-- the bytes that a call takes of a file from a position on, at most as many as it asks for
abbrev pub bytes_at : ReadKind → Asker → OpenFile → ℕ → List ℕ
bytes_at kind asker opened at = part_of kind (bytes_from opened.file.contents at asker.caller.regs.y)

-- these bytes are returned, and the position is after them
abbrev pub answers_bytes : Asker → Files → OpenFile → ℕ → List ℕ → FileEffect
answers_bytes asker files opened at bytes =
    stores asker.caller.regs.x bytes (count_regs asker.caller (length bytes))
    (with_position files opened.opened (at + length bytes))

-- the lock of a read that took these bytes: the line alone, if it has ended
abbrev pub line_range : Range → List ℕ → Range
line_range range bytes = if has_return bytes then record range { end = Some (range.start + length bytes) } else range

abbrev pub lock_by : ReadKind → Held → List ℕ → Held
lock_by Bytes lock bytes = lock
lock_by WholeLine lock bytes = record lock { range = line_range lock.range bytes }

-- what is read without a lock
abbrev pub reads_freely : ReadKind → Asker → Files → OpenFile → FileStep
reads_freely kind asker files opened =
    comes (leaves_so (answers_bytes asker files opened opened.opened.desc.at
    (bytes_at kind asker opened opened.opened.desc.at)))

abbrev pub read_claim : ReadKind → Asker → OpenFile → ℕ → Claim
read_claim kind asker opened at = record {
  code = read_code kind;
  count = asker.caller.regs.y;
  range = range_from opened at asker.caller.regs.y;
}

-- what is read under a lock, which the path holds then
abbrev pub reads_locked : ReadKind → Asker → Files → OpenFile → Request → List ℕ → FileStep
reads_locked kind asker files opened request bytes =
    asks asker files request
    (comes (leaves_so (answers_bytes asker
    (with_records files (holding files.records opened.opened.path.0 (lock_by kind request.lock bytes) bytes)) opened
    request.lock.range.start bytes)))

abbrev pub reads_at : ReadKind → Asker → Files → OpenFile → ℕ → FileStep
reads_at kind asker files opened at =
    refuses (nat_le (length opened.file.contents) at) E_EOF
    (if is_for_update opened.opened.desc.mode
    then reads_locked kind asker files opened
    (request_now asker files opened (read_claim kind asker opened at)) (bytes_at kind asker opened at)
    else reads_freely kind asker files opened)

-- where a read begins: one under a lock where its call did
abbrev pub read_start : Asker → Files → OpenFile → ℕ
read_start asker files opened =
    if is_for_update opened.opened.desc.mode then position_of asker files opened else opened.opened.desc.at

-- what is read of the file
abbrev pub reads_file : ReadKind → Asker → Files → OpenFile → FileStep
reads_file kind asker files opened =
    reaches opened.place.drive (reads_at kind asker files opened (read_start asker files opened))

abbrev pub reads_on : ReadKind → Asker → Files → IoStep → FileStep
reads_on kind asker files otherwise =
    on_file asker files asker.caller.regs.a otherwise
    (λ opened. refuses (is_none (user_bytes asker.caller.cells asker.caller.regs.x asker.caller.regs.y)) E_BPADDR
    (moves_bytes asker files opened can_read (reads_file kind asker files opened)))

abbrev pub i_read : Asker → Files → FileStep
i_read asker files = reads_on Bytes asker files (reads_device asker.caller files.io)

abbrev pub i_readln : Asker → Files → FileStep
i_readln asker files = reads_on WholeLine asker files (reads_device_line asker.caller files.io)
