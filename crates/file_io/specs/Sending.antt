-- What a write of bytes asks for.
use Rattle.std.specs.Prelude.{◌≡◌, ◌≢◌, ℕ, ◌<◌, IsSome}
use Rattle.os9_base.specs.declared.registers.Regs.{Regs}
use Rattle.io_model.specs.Codes.{direction_of}
use Rattle.io_model.specs.Io.{Io}
use Rattle.lock_model.specs.Locks.{Locks}
use Rattle.file_state.specs.Asking.{MayAsk}
use Rattle.file_state.specs.declared.state.OpenFile.{OpenFile}
use Rattle.file_io.specs.declared.writes.Sending.{Sending}

-- its code is of a call that moves bytes, and it sends one at least
pub record IsSending (sent : Sending) : Type 0 where
  pub moves : IsSome (direction_of sent.code)
  pub some : 0 < sent.count

-- a process may write so, on a path for whose records it may ask; without a byte to move nothing is sent
pub record MayWriteFile (io : Io) (locks : Locks) (p : ℕ) (opened : OpenFile) (regs : Regs) (sent : Sending) : Type 0
  where
    pub asks : MayAsk io locks p opened
    pub sends : regs.y ≢ 0 → IsSending sent
    pub done : sent.done ≡ record regs { y = sent.count }
