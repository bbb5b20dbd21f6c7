-- I$Write, I$WritLn and F$PErr: write bytes, a line, and the number of an error (System Programmer's Manual, I$Write,
-- I$WritLn and F$PErr).
-- I$Write and I$WritLn take the path in A, the address of the bytes in X and their count, or the maximum count of the
-- line, in Y; they return the count in Y. F$PErr takes the number in B, and writes it as a line to standard error.
-- Errors: E$BPAddr, E$BPNum, E$BMode, E$Write.
use Rattle.std.specs.Prelude.{ℕ, ◌+◌, ◌/◌, ◌%◌, Option, Some, None, List, [], ◌∷◌, ◌++◌, codes, length}
use Rattle.os9_base.specs.UserLines.{line_at}
use Rattle.os9_base.specs.declared.calls.TheConstants.{I_WRITE, I_WRITLN, F_PERR}
use Rattle.os9_base.specs.declared.errors.TheConstants.{E_BPADDR, E_UNKSVC}
use Rattle.os9_base.specs.declared.registers.Regs.{Regs}
use Rattle.proc_model.specs.UserBytes.{user_bytes}
use Rattle.io_model.specs.Line.{line_put}
use Rattle.io_model.specs.declared.keys.TheConstants.{RETURN}
use Rattle.io_model.specs.declared.pending.PendingCall.{PendingCall}
use Rattle.io_model.specs.declared.path.Target.{Target}
use Rattle.io_model.specs.declared.path.Target.TheVariants.{File, Folder, Term, Pipe}
use Rattle.io_model.specs.Alone.{is_alone}
use Rattle.io_model.specs.Io.{Io, OpenPath, pending_at}
use Rattle.io_model.specs.Modes.{can_write}
use Rattle.io_model.specs.Pipes.{count_regs, writes_pipe}
use Rattle.io_model.specs.Step.{Caller, IoStep, refused, comes, writes, needs}
use Rattle.io_model.specs.Transfer.{on_path, unless_nothing, call_now}
use Rattle.io_model.specs.declared.io_call.Direction.TheVariants.{Writing}
use Rattle.io_model.specs.declared.modes.TheConstants.{STANDARD_ERROR}

-- a write: the bytes that the call moves, what a terminal puts of them, and the caller's registers if it is done
pub record Sending : Type 0 where
  pub bytes : List ℕ
  pub put : List ℕ
  pub regs : Regs

-- an attempt on the target of the path; no path is opened on a file or a directory
abbrev pub writes_target : Sending → Caller → Io → PendingCall → Target → IoStep
writes_target sending caller io call (File drive sector) = refused E_UNKSVC
writes_target sending caller io call (Folder drive sector) = refused E_UNKSVC
writes_target sending caller io call (Term terminal) =
    writes (record { terminal = terminal; put = sending.put; count = length sending.bytes; regs = sending.regs })
writes_target sending caller io call (Pipe pipe) =
    comes (writes_pipe io pipe call (is_alone io caller.process.0 call.path.0 Writing) sending.bytes sending.regs)

-- an attempt of a write of this code on a path that may be written
abbrev pub sends_on : Sending → ℕ → Caller → Io → OpenPath → IoStep
sends_on sending code caller io opened =
    writes_target sending caller io (call_now caller io code opened (length sending.bytes)) opened.desc.target

-- bytes as they are, and a line, after whose carriage return a terminal puts a line feed; the count is returned
abbrev pub sent_bytes : Caller → List ℕ → Sending
sent_bytes caller bytes = record { bytes = bytes; put = bytes; regs = count_regs caller (length bytes) }

abbrev pub sent_line : Caller → List ℕ → Sending
sent_line caller line = record { bytes = line; put = line_put line; regs = count_regs caller (length line) }

abbrev pub i_write : Caller → Io → IoStep
i_write caller io =
    needs (user_bytes caller.cells caller.regs.x caller.regs.y) E_BPADDR
    (λ bytes. on_path caller io caller.regs.a can_write
    (λ opened. unless_nothing caller io (sends_on (sent_bytes caller bytes) I_WRITE caller io opened)))

-- the line that the call moves: a further attempt moves the number of bytes that the first one found
abbrev pub line_bytes : Caller → Option PendingCall → Option (List ℕ)
line_bytes caller None = line_at caller.cells caller.regs.x caller.regs.y
line_bytes caller (Some pending) = user_bytes caller.cells caller.regs.x pending.count

abbrev pub i_writln : Caller → Io → IoStep
i_writln caller io =
    needs (line_bytes caller (pending_at io caller.process.0)) E_BPADDR
    (λ line. on_path caller io caller.regs.a can_write
    (λ opened. unless_nothing caller io (sends_on (sent_line caller line) I_WRITLN caller io opened)))

-- the character of a decimal digit
abbrev pub digit : ℕ → ℕ
digit value = value + 48

-- three decimal digits
abbrev pub three_digits : ℕ → List ℕ
three_digits number = digit (number / 100) ∷ digit (number / 10 % 10) ∷ digit (number % 10) ∷ []

-- the line that F$PErr writes for an error number
abbrev pub error_line : ℕ → List ℕ
error_line number = codes "ERROR #" ++ (three_digits number ++ (RETURN ∷ []))

-- the line of an error; the registers do not change
abbrev pub sent_error : Caller → Sending
sent_error caller = record {
  bytes = error_line caller.regs.b;
  put = line_put (error_line caller.regs.b);
  regs = caller.regs;
}

abbrev pub f_perr : Caller → Io → IoStep
f_perr caller io =
    on_path caller io STANDARD_ERROR can_write (λ opened. sends_on (sent_error caller) F_PERR caller io opened)
