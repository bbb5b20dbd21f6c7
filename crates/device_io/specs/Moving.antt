-- Reads and writes as a process may attempt them, and what they do on a path that they found.
use Rattle.std.specs.Prelude.{◌≡◌, ℕ, ◌<◌, ⊤, IfSome, Some, is_none}
use Rattle.os9_base.specs.Cells.{Cells}
use Rattle.os9_base.specs.declared.errors.TheConstants.{E_BPADDR}
use Rattle.os9_base.specs.declared.registers.Regs.{Regs}
use Rattle.proc_model.specs.Records.{record_at}
use Rattle.proc_model.specs.UserBytes.{user_bytes}
use Rattle.guest_memory.specs.Tie.{cells_of}
use Rattle.io_model.specs.Path.{PathTable}
use Rattle.io_model.specs.declared.pending.PendingCall.{PendingCall}
use Rattle.io_model.specs.declared.path.Target.{Target}
use Rattle.io_model.specs.declared.path.Target.TheVariants.{Term}
use Rattle.io_model.specs.declared.terminal.ReadKind.{ReadKind}
use Rattle.io_model.specs.Again.{IsAgain}
use Rattle.io_model.specs.Io.{Io, OpenPath, pending_at}
use Rattle.io_model.specs.Modes.{can_read}
use Rattle.io_model.specs.Read.{reads_target, read_code, IsReadAllowed}
use Rattle.io_model.specs.Step.{Caller, IoStep, reads, refuses}
use Rattle.io_model.specs.Transfer.{on_path, unless_nothing, call_now}
use Rattle.io_model.specs.declared.io_call.IoCall.{IoCall}
use Rattle.io_model.specs.declared.io_call.IoCall.TheVariants as Call
use Rattle.io_state.specs.Sound.{target_at}
use Rattle.proc_state.specs.declared.state.ProcState.{ProcState}

-- each path on a terminal is on one of the first `count` terminals
abbrev pub AreTerminals : PathTable → ℕ → Type 0
AreTerminals paths count = (s n : ℕ) → target_at paths s ≡ Some (Term n) → n < count

-- ---- reads

-- if a call of the process is pending, its buffer and its path still allow a read
abbrev pub StaysIfPending : Cells → Regs → Io → ℕ → Type 0
StaysIfPending cells regs io p = IfSome (pending_at io p) (λ pending. IsReadAllowed cells regs io p)

-- an attempt on a terminal
abbrev pub read_terminal : ReadKind → ℕ → PendingCall → Caller → Io → IoStep
read_terminal kind n call caller io = reads (record { terminal = n; kind = kind; call = call })

-- an attempt on the target of a path
unfoldable pub read_on : ReadKind → PendingCall → Target → Caller → Io → IoStep
read_on kind call target caller io = reads_target kind caller io call target

-- an attempt on a path that may be read
unfoldable pub read_open : ReadKind → OpenPath → Caller → Io → IoStep
read_open kind opened caller io =
    unless_nothing caller io
    (read_on kind (call_now caller io (read_code kind) opened caller.regs.y) opened.desc.target caller io)

-- an attempt whose buffer is in named slots
unfoldable pub read_named : ReadKind → Caller → Io → IoStep
read_named kind caller io = on_path caller io caller.regs.a can_read (λ opened. read_open kind opened caller io)

-- an attempt of a read
unfoldable pub read_step : ReadKind → Caller → Io → IoStep
read_step kind caller io =
    refuses (is_none (user_bytes caller.cells caller.regs.x caller.regs.y)) E_BPADDR (read_named kind caller io)

-- ---- any call on paths

-- if this call is a read and is pending, it is not refused
abbrev pub PendingReadIsAllowed : IoCall → Cells → Regs → Io → ℕ → Type 0
PendingReadIsAllowed Call.Read cells regs io p = StaysIfPending cells regs io p
PendingReadIsAllowed Call.ReadLn cells regs io p = StaysIfPending cells regs io p
PendingReadIsAllowed call cells regs io p = ⊤

-- a process may attempt this call, on a machine with `terms` terminals
pub record MayAttemptIo (call : IoCall) (processes : ProcState) (io : Io) (p terms : ℕ) : Type 0 where
  pub again : IsAgain call (record_at processes.table p).regs io p
  pub stays : PendingReadIsAllowed call (cells_of processes.memory p) (record_at processes.table p).regs io p
  pub terminals : AreTerminals io.paths terms
