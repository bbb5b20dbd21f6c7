-- Record locks in the calls on files (Level Two manual, RBF record locking; the exact ranges are this project's own). A
-- call that may not lock its range now waits in a request, which keeps its position, its range and its count.
-- Errors: E$Lock, E$DeadLk.
use Rattle.std.specs.Prelude.{ℕ, ◌+◌, ◌^◌, ◌&&◌, ◌||◌, nat_lt, Bool, Option, Some, None, is_none, option_map, unwrap_or, length, if◌then◌else◌}
use Rattle.std.specs.Option.{option_map_or}
use Rattle.os9_base.specs.declared.call.CallEnd.{CallEnd}
use Rattle.os9_base.specs.declared.call.CallEnd.TheVariants.{Error}
use Rattle.os9_base.specs.declared.errors.TheConstants.{E_LOCK, E_DEADLK}
use Rattle.io_model.specs.Path.{PathTable, desc_of}
use Rattle.lock_model.specs.Locks.{Locks, request_of}
use Rattle.lock_model.specs.Waits.{first_answer, later_answer, lock_may_go}
use Rattle.lock_model.specs.declared.lock.Grant.{Grant}
use Rattle.lock_model.specs.declared.lock.Grant.TheVariants.{Granted, Locked, Deadlock, Wait}
use Rattle.lock_model.specs.declared.lock.Held.{Held}
use Rattle.lock_model.specs.declared.lock.Range.{Range}
use Rattle.lock_model.specs.declared.lock.Request.{Request}
use Rattle.os9_sched.specs.declared.member.Cause.{Cause}
use Rattle.os9_sched.specs.declared.member.Wait.{Wait as Waiting}
use Rattle.io_model.specs.Io.{Io}
use Rattle.io_model.specs.Modes.{has_bit_of}
use Rattle.io_model.specs.declared.pending.PendingCall.{PendingCall}
use Rattle.lock_model.specs.Records.{Records, with_waiting}
use Rattle.io_model.specs.Step.{IoEnd, answers, fails, keeps}
use Rattle.io_model.specs.Waiting.{io_interrupted, io_may_go, io_waits_for}
use Rattle.io_model.specs.declared.modes.TheConstants.{MODE_READ, MODE_WRITE}
use Rattle.file_rules.specs.Files.{Files, Asker, OpenFile, with_io, with_records}
use Rattle.file_rules.specs.Step.{FileStep, refused, comes, leaves_so, leaves}
use Rattle.file_rules.specs.declared.claim.Claim.{Claim}

-- ---- requests

-- a path that may be read and written: its reads request records, and it may hold one
abbrev pub is_for_update : ℕ → Bool
is_for_update mode = has_bit_of MODE_READ mode && has_bit_of MODE_WRITE mode

-- `count` bytes from a position on of a file of this size; all from there on if they reach past its end
abbrev pub range_of : ℕ → ℕ → ℕ → Range
range_of size at count =
    record { start = at; end = if nat_lt size (at + count) then None else Some (at + count) }

abbrev pub range_from : OpenFile → ℕ → ℕ → Range
range_from opened at count = range_of (length opened.file.contents) at count

-- the request in which the process waits, if it waits in one
abbrev pub pending_request : Asker → Files → Option Request
pending_request asker files = request_of files.records.locks asker.caller.process.0

-- the position that a path had when a call was made: the start of the range that it waits for, if it waits
abbrev pub start_of : Option Request → ℕ → ℕ
start_of request at = option_map_or (λ request. request.lock.range.start) request at

abbrev pub position_of : Asker → Files → OpenFile → ℕ
position_of asker files opened = start_of (pending_request asker files) opened.opened.desc.at

-- the request of a call at its first attempt
abbrev pub first_request : Asker → OpenFile → Claim → Request
first_request asker opened claim = record {
  code = claim.code;
  path = opened.opened.path.0;
  count = claim.count;
  lock = record { owner = asker.caller.process; file = opened.place; range = claim.range };
  ticks = opened.opened.desc.ticks;
  since = asker.tick;
}

-- the request of a call: the one that it waits in, or this one at its first attempt
abbrev pub request_now : Asker → Files → OpenFile → Claim → Request
request_now asker files opened claim = unwrap_or (pending_request asker files) (first_request asker opened claim)

-- the answer to the request of a process in a tick, at its call's first attempt or at a further one
abbrev pub answer_in : Locks → ℕ → ℕ → Request → Grant
answer_in locks p tick request =
    if is_none (request_of locks p) then first_answer locks request else later_answer locks tick request

abbrev pub answer_to : Asker → Files → Request → Grant
answer_to asker files request = answer_in files.records.locks asker.caller.process.0 asker.tick request

-- the call as it is kept, like one on a terminal or a pipe
abbrev pub call_of : Request → PendingCall
call_of request =
    record { code = request.code; path = record { 0 = request.path }; moved = 0; count = request.count }

-- the call goes on, is refused or waits, as its request is answered
abbrev pub end_by : Grant → Option CallEnd
end_by Granted = None
end_by Locked = Some (Error E_LOCK)
end_by Deadlock = Some (Error E_DEADLK)
end_by Wait = Some CallEnd.Wait

-- what is kept of the request of a process that is answered so, and of its call
abbrev pub request_by : Grant → Request → Option Request
request_by Wait request = Some request
request_by grant request = None

abbrev pub call_by : Grant → Request → Option PendingCall
call_by grant request = option_map call_of (request_by grant request)

-- the state in which it waits in its request
abbrev pub waiting_in : Files → Request → Files
waiting_in files request =
    with_records files (with_waiting files.records request.lock.owner.0 (Some request))

-- the call goes on if its request is granted; otherwise it is refused, or it waits
abbrev pub asks_by : Grant → Files → Request → FileStep → FileStep
asks_by Granted files request next = next
asks_by Locked files request next = refused E_LOCK
asks_by Deadlock files request next = refused E_DEADLK
asks_by Wait files request next = comes (leaves_so (leaves (keeps (call_of request)) (waiting_in files request)))

abbrev pub asks : Asker → Files → Request → FileStep → FileStep
asks asker files request next = asks_by (answer_to asker files request) files request next

-- ---- ends

-- a path's lock ends if the path has gone, or if its owner passes a test
abbrev pub lock_ends : PathTable → (ℕ → Bool) → ℕ → Held → Bool
lock_ends paths is_owner path lock = is_none (desc_of paths path) || is_owner lock.owner.0

-- the records after an attempt of a process that ends so: only a call that waits keeps its request
abbrev pub records_after : IoEnd → Records → ℕ → Records
records_after (answers regs) records p = with_waiting records p None
records_after (fails number) records p = with_waiting records p None
records_after (keeps pending) records p = records

-- ---- when calls go on

-- the waiting call of a process may go on in a tick
abbrev pub files_may_go : Files → ℕ → ℕ → Bool
files_may_go files tick p = io_may_go files.io p || lock_may_go files.records.locks tick p

-- the tick from which a request waits no longer, if its path limits its ticks and the count of ticks may reach it
abbrev pub end_of_wait : Request → Option ℕ
end_of_wait request =
    if nat_lt 1 request.ticks && nat_lt (request.since + request.ticks) (2 ^ 32)
    then Some (request.since + request.ticks) else None

-- what a request waits for: a record of its file, until that tick
abbrev pub request_wait : Request → Waiting
request_wait request =
    record { cause = Cause.Lock request.lock.file.drive request.lock.file.number; until = end_of_wait request }

-- what a process waits for, if a call of it waits: in a request, or on a terminal or a pipe
abbrev pub call_wait : Io → Locks → ℕ → Option Waiting
call_wait io locks p =
    option_map_or (λ request. Some (request_wait request)) (request_of locks p)
    (option_map (λ (cause : Cause). record { cause = cause; until = None }) (io_waits_for io p))

-- on what it waits
abbrev pub wait_cause : Io → Locks → ℕ → Option Cause
wait_cause io locks p = option_map (λ (wait : Waiting). wait.cause) (call_wait io locks p)

-- ---- when calls are broken off

-- the state after the call of a process was broken off, if one of it waits
abbrev pub files_interrupted : Files → ℕ → Files
files_interrupted files p =
    with_records (with_io files (io_interrupted files.io p)) (with_waiting files.records p None)
