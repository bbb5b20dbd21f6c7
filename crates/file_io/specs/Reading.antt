-- Reads of a file, by the part that they take of the bytes that are there.
use Rattle.std.specs.Prelude.{◌≡◌, ◌≢◌, ℕ, true, IfSome, is_none, List, length, take}
use Rattle.os9_base.specs.Cells.{Cells, FitsIn}
use Rattle.os9_base.specs.declared.errors.TheConstants.{E_BPADDR}
use Rattle.os9_base.specs.declared.registers.Regs.{Regs}
use Rattle.proc_model.specs.UserBytes.{user_bytes}
use Rattle.io_model.specs.declared.terminal.ReadKind.{ReadKind}
use Rattle.io_model.specs.Io.{Io}
use Rattle.lock_model.specs.Laws.{Covers}
use Rattle.lock_model.specs.Locks.{Locks, request_of}
use Rattle.lock_model.specs.Records.{holding}
use Rattle.lock_model.specs.declared.lock.Held.{Held}
use Rattle.io_model.specs.Modes.{can_read}
use Rattle.rbf_change.specs.Contents.{bytes_from}
use Rattle.rbf_model.specs.File.{DiskFile}
use Rattle.file_rules.specs.Locking.{is_for_update}
use Rattle.file_rules.specs.Files as rules
use Rattle.file_rules.specs.Files.{Asker, Files, with_records}
use Rattle.file_rules.specs.OnFile.{moves_bytes}
pub use Rattle.file_rules.specs.Read.{part_of}
use Rattle.file_rules.specs.Read.{answers_bytes, bytes_at, lock_by, reads_file}
use Rattle.file_rules.specs.Step.{FileEffect, FileStep, comes, leaves_so, reaches, refuses}
use Rattle.file_state.specs.Asking.{MayAsk}
use Rattle.file_state.specs.declared.state.OpenFile.{OpenFile}

-- the bytes of a file from a place on, at most `most`, are at the front of a buffer, and this is their count
pub record IsFilledFrom (file : DiskFile) (at most : ℕ) (buffer : List ℕ) (count : ℕ) : Type 0 where
  pub count_is : count ≡ length (bytes_from file.contents at most)
  pub bytes_are : take count buffer ≡ bytes_from file.contents at most

-- a nonempty buffer of Y bytes at X is in named slots
pub record IsBuffer (cells : Cells) (regs : Regs) : Type 0 where
  pub named : FitsIn cells regs.x regs.y
  pub some : regs.y ≢ 0

-- a buffer at X is there for the bytes that a lock has from its start on, as many as Y
pub record HasBufferForLock (cells : Cells) (regs : Regs) (lock : Held) : Type 0 where
  pub named : FitsIn cells regs.x regs.y
  pub covers : Covers lock.range regs.y

-- a process may read a path so, for some bytes: if it waits in a request, that is for as many
pub record MayReadFile (io : Io) (locks : Locks) (p : ℕ) (opened : OpenFile) (regs : Regs) : Type 0 where
  pub asks : MayAsk io locks p opened
  pub count : IfSome (request_of locks p) (λ request. request.count ≡ regs.y)

-- and the path may be written too
pub record MayUpdate (io : Io) (locks : Locks) (p : ℕ) (opened : OpenFile) (regs : Regs) : Type 0 where
  pub read : MayReadFile io locks p opened regs
  pub update : is_for_update opened.desc.mode ≡ true

-- ---- steps

-- these bytes are read under a lock that was granted, which the path then holds
abbrev pub holds_bytes : ReadKind → Held → Asker → Files → rules.OpenFile → List ℕ → FileEffect
holds_bytes kind lock asker files opened bytes =
    answers_bytes asker
    (with_records files (holding files.records opened.opened.path.0 (lock_by kind lock bytes) bytes)) opened
    lock.range.start bytes

-- what is read from the start of a lock that was granted
unfoldable pub read_granted : ReadKind → Held → Asker → Files → rules.OpenFile → FileStep
read_granted kind lock asker files opened =
    reaches opened.place.drive
    (comes (leaves_so (holds_bytes kind lock asker files opened (bytes_at kind asker opened lock.range.start))))

-- an attempt that has a byte to move, on a path that may be read
unfoldable pub read_file : ReadKind → Asker → Files → rules.OpenFile → FileStep
read_file kind asker files opened = reads_file kind asker files opened

-- an attempt whose buffer is in named slots
unfoldable pub read_named : ReadKind → Asker → Files → rules.OpenFile → FileStep
read_named kind asker files opened = moves_bytes asker files opened can_read (read_file kind asker files opened)

-- an attempt
unfoldable pub read_opened : ReadKind → Asker → Files → rules.OpenFile → FileStep
read_opened kind asker files opened =
    refuses (is_none (user_bytes asker.caller.cells asker.caller.regs.x asker.caller.regs.y)) E_BPADDR
    (read_named kind asker files opened)
