-- I$Read and I$ReadLn: read bytes, and a line (System Programmer's Manual, I$Read and I$ReadLn).
-- Take the path in A, the address of the buffer in X and the maximum count of bytes in Y; return the count in Y.
-- Errors: E$BPAddr, E$BPNum, E$BMode, E$EOF; E$Write if a terminal fails.
use Rattle.std.specs.Prelude.{◌≡◌, ℕ, true, is_none, IsSomeAnd}
use Rattle.os9_base.specs.Cells.{Cells, FitsIn}
use Rattle.os9_base.specs.declared.registers.Regs.{Regs}
use Rattle.os9_base.specs.declared.calls.TheConstants.{I_READ, I_READLN}
use Rattle.os9_base.specs.declared.errors.TheConstants.{E_BPADDR, E_UNKSVC}
use Rattle.proc_model.specs.UserBytes.{user_bytes}
use Rattle.io_model.specs.declared.io_call.IoCall.{IoCall}
use Rattle.io_model.specs.declared.io_call.IoCall.TheVariants as Call
use Rattle.io_model.specs.declared.pending.PendingCall.{PendingCall}
use Rattle.io_model.specs.declared.path.Target.{Target}
use Rattle.io_model.specs.declared.path.Target.TheVariants.{File, Folder, Term, Pipe}
use Rattle.io_model.specs.declared.terminal.ReadKind.{ReadKind}
use Rattle.io_model.specs.declared.terminal.ReadKind.TheVariants.{Bytes, WholeLine}
use Rattle.io_model.specs.Alone.{is_alone}
use Rattle.io_model.specs.Io.{Io, open_path}
use Rattle.io_model.specs.Modes.{can_read}
use Rattle.io_model.specs.Pipes.{reads_pipe, reads_pipe_line}
use Rattle.io_model.specs.Step.{Caller, IoEffect, IoStep, refused, comes, reads, refuses}
use Rattle.io_model.specs.Transfer.{on_path, unless_nothing, call_now}
use Rattle.io_model.specs.declared.io_call.Direction.TheVariants.{Reading}

-- the call for this kind of read, and its code
abbrev pub read_call : ReadKind → IoCall
read_call Bytes = Call.Read
read_call WholeLine = Call.ReadLn

abbrev pub read_code : ReadKind → ℕ
read_code Bytes = I_READ
read_code WholeLine = I_READLN

-- the buffer and the path of a read by process p do not refuse it: the buffer is named, and the path may be read
pub record IsReadAllowed (cells : Cells) (regs : Regs) (io : Io) (p : ℕ) : Type 0 where
  pub named : FitsIn cells regs.x regs.y
  pub mode : IsSomeAnd (open_path io p regs.a) (λ opened. can_read opened.desc.mode ≡ true)

-- an attempt on a pipe
abbrev pub pipe_read : ReadKind → Caller → Io → ℕ → PendingCall → IoEffect
pipe_read Bytes caller io pipe call =
    reads_pipe caller io pipe call (is_alone io caller.process.0 call.path.0 Reading)
pipe_read WholeLine caller io pipe call =
    reads_pipe_line caller io pipe call (is_alone io caller.process.0 call.path.0 Reading)

-- an attempt on the target of the path; no path is opened on a file or a directory
abbrev pub reads_target : ReadKind → Caller → Io → PendingCall → Target → IoStep
reads_target kind caller io call (File drive sector) = refused E_UNKSVC
reads_target kind caller io call (Folder drive sector) = refused E_UNKSVC
reads_target kind caller io call (Term terminal) =
    reads (record { terminal = terminal; kind = kind; call = call })
reads_target kind caller io call (Pipe pipe) = comes (pipe_read kind caller io pipe call)

-- an attempt of a read of this kind and code: its whole buffer must be in named slots
abbrev pub reads_path : ReadKind → ℕ → Caller → Io → IoStep
reads_path kind code caller io =
    refuses (is_none (user_bytes caller.cells caller.regs.x caller.regs.y)) E_BPADDR
    (on_path caller io caller.regs.a can_read
    (λ opened. unless_nothing caller io
    (reads_target kind caller io (call_now caller io code opened caller.regs.y) opened.desc.target)))

abbrev pub i_read : Caller → Io → IoStep
i_read caller io = reads_path Bytes I_READ caller io

abbrev pub i_readln : Caller → Io → IoStep
i_readln caller io = reads_path WholeLine I_READLN caller io
