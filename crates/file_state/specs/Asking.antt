-- Requests of calls for records of files, as the kernel's files have them.
use Rattle.std.specs.Prelude.{◌≡◌, ◌⊎◌, ℕ, ◌<◌, true, false, Some, None, IfSome, IsSome}
use Rattle.os9_base.specs.declared.registers.Pid.{Pid}
use Rattle.os9_base.specs.declared.registers.Regs.{Regs}
use Rattle.io_model.specs.Path.{holds_path}
use Rattle.io_model.specs.Again.{IsAgain}
use Rattle.io_model.specs.Codes.{direction_of, io_call_of}
use Rattle.io_model.specs.Io.{Io, pending_at, with_call}
use Rattle.io_model.specs.declared.io_call.IoCall.{IoCall}
use Rattle.io_model.specs.declared.io_call.IoCall.TheVariants as Call
use Rattle.io_state.specs.Files.{IsOnDisk}
use Rattle.io_state.specs.Sound.{MayWait}
use Rattle.lock_model.specs.Conflict.{conflicts}
use Rattle.lock_model.specs.Laws.{Covers}
use Rattle.lock_model.specs.Locks.{Locks, request_of}
use Rattle.lock_model.specs.Records.{with_waiting}
use Rattle.lock_model.specs.declared.lock.Grant.{Grant}
use Rattle.lock_model.specs.declared.lock.Grant.TheVariants.{Granted}
use Rattle.lock_model.specs.declared.lock.Held.{Held}
use Rattle.lock_model.specs.declared.lock.Request.{Request}
use Rattle.file_rules.specs.Locking.{call_by, call_of, request_by}
use Rattle.file_rules.specs.declared.claim.Claim.{Claim}
use Rattle.file_state.specs.Opened.{IsPathOf}
use Rattle.file_state.specs.declared.state.FileState.{FileState}
use Rattle.file_state.specs.declared.state.OpenFile.{OpenFile}

-- the request of a claim of a process on a path, made in a tick
abbrev pub claimed : Pid → OpenFile → Claim → ℕ → Request
claimed p opened claim tick = record {
  code = claim.code;
  path = opened.path.0;
  count = claim.count;
  lock = record { owner = p; file = opened.place; range = claim.range };
  ticks = opened.desc.ticks;
  since = tick;
}

-- ---- who may ask

-- a claim of one byte at least, all of them in its range, by a call that moves bytes or sets a status
pub record IsClaim (claim : Claim) : Type 0 where
  pub moves : IsSome (direction_of claim.code) ⊎ (io_call_of claim.code ≡ Some Call.SetStt)
  pub some : 0 < claim.count
  pub covers : Covers claim.range claim.count

-- a process waits in this request for a lock of its own, which has all bytes that its call moves, and the call is
-- pending
pub record IsPendingRequest (io : Io) (p : ℕ) (request : Request) : Type 0 where
  pub kept : pending_at io p ≡ Some (call_of request)
  pub owner : request.lock.owner.0 ≡ p
  pub covers : Covers request.lock.range request.count

abbrev pub KeepsRequest : Io → Locks → ℕ → Type 0
KeepsRequest io locks p = IfSome (request_of locks p) (IsPendingRequest io p)

-- a process attempts a call, again if one of it waits: it is this one, and its request is kept
pub record TriesAgain (call : IoCall) (regs : Regs) (state : FileState) (p : ℕ) : Type 0 where
  pub again : IsAgain call regs state.io p
  pub kept : KeepsRequest state.io state.records.locks p

-- a process may ask for records on a path: it holds the path, which is on a file or a directory
pub record MayAsk (io : Io) (locks : Locks) (p : ℕ) (opened : OpenFile) : Type 0 where
  pub path : IsPathOf io opened
  pub held : holds_path io.paths p opened.path.0 ≡ true
  pub on_disk : IsOnDisk opened.desc.target
  pub kept : KeepsRequest io locks p

-- ---- what is asked for

-- a request is of a process, which waits in no other one and may wait in its call
pub record IsRequestOf (io : Io) (locks : Locks) (p : ℕ) (request : Request) : Type 0 where
  pub owner : request.lock.owner.0 ≡ p
  pub only : IfSome (request_of locks p) (λ kept. kept ≡ request)
  pub may : MayWait io.paths p (call_of request)
  pub covers : Covers request.lock.range request.count

-- a lock may be granted: its process waits in no request, and it conflicts with no lock
pub record MayBeGranted (locks : Locks) (lock : Held) : Type 0 where
  pub quiet : request_of locks lock.owner.0 ≡ None
  pub free : conflicts locks lock ≡ false

-- the state after a request of a process was answered so: a refused call is not pending, and one that goes on
-- stays as it was
abbrev pub asked : FileState → ℕ → Request → Grant → FileState
asked state p request Granted = record state { records = with_waiting state.records p None }
asked state p request grant = record state {
  io = with_call state.io p (call_by grant request);
  records = with_waiting state.records p (request_by grant request);
}
