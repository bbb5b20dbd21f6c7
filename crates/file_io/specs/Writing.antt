-- Writes of bytes to a file.
use Rattle.std.specs.Prelude.{ℕ, ◌+◌, Option, Some, None, List, length}
use Rattle.os9_base.specs.UserLines.{line_at}
use Rattle.os9_base.specs.Cells.{Cells}
use Rattle.os9_base.specs.declared.registers.Regs.{Regs}
use Rattle.proc_model.specs.UserBytes.{user_bytes}
use Rattle.lock_model.specs.Records.{written_by}
use Rattle.lock_model.specs.declared.lock.Held.{Held}
use Rattle.lock_model.specs.declared.lock.Request.{Request}
use Rattle.rbf_change.specs.Contents.{written}
use Rattle.file_rules.specs.Change.{writes}
use Rattle.file_rules.specs.Files.{Asker, Files, OpenFile, with_position, with_records}
use Rattle.file_rules.specs.Step.{FileStep, reaches}
use Rattle.file_rules.specs.Write.{changes_file, sends_bytes, writes_bytes}

-- the bytes that a line write moves: a further attempt moves as many as the first one found
abbrev pub line_of : Option Request → Cells → Regs → Option (List ℕ)
line_of None cells regs = line_at cells regs.x regs.y
line_of (Some request) cells regs = user_bytes cells regs.x request.count

-- these bytes are written at the start of a lock that was granted: the state then, with the position behind them
abbrev pub after_writing : Held → List ℕ → Files → OpenFile → Files
after_writing lock bytes files opened =
    with_position (with_records files (written_by files.records opened.opened.path.0 lock bytes)) opened.opened
    (lock.range.start + length bytes)

-- and these registers are answered
unfoldable pub write_granted : Held → List ℕ → Regs → Asker → Files → OpenFile → FileStep
write_granted lock bytes regs asker files opened =
    reaches opened.place.drive
    (changes_file opened (writes opened.place.number lock.range.start bytes)
    (length (written opened.file.contents lock.range.start bytes)) regs (after_writing lock bytes files opened))

-- an attempt of the call of this code to write these bytes, which answers their count
unfoldable pub write_opened : ℕ → List ℕ → Asker → Files → OpenFile → FileStep
write_opened code bytes asker files opened = sends_bytes asker files opened code bytes

-- an attempt to write these bytes on a path that may be written, which returns these registers
unfoldable pub write_file : ℕ → List ℕ → Regs → Asker → Files → OpenFile → FileStep
write_file code bytes regs asker files opened = writes_bytes asker files opened code bytes regs
