-- What an attempt of a call on a pipe leaves of the kernel's processes and of its state of input and output.
use Rattle.std.specs.Prelude.{◌≡◌, ℕ}
use Rattle.os9_base.specs.declared.call.CallEnd.{CallEnd}
use Rattle.os9_base.specs.declared.call.CallEnd.TheVariants.{Done, Error, Wait}
use Rattle.os9_base.specs.declared.registers.Regs.{Regs}
use Rattle.proc_model.specs.Processes.{Processes}
use Rattle.io_model.specs.Attempts.{io_after, result_of}
use Rattle.io_model.specs.Io.{Io}
use Rattle.io_model.specs.Step.{IoEffect, IoEnd, answers, fails, keeps}
use Rattle.proc_state.specs.Tie.{ReturnsCallEnd}
use Rattle.proc_state.specs.declared.state.ProcState.{ProcState}

-- an attempt of a process with this effect ends in this way, and leaves these processes and this state
abbrev pub LeavesIoState : IoEffect → Processes → ℕ → CallEnd → ProcState → Io → Type 0
LeavesIoState effect m p end processes new = ReturnsCallEnd m p (result_of m p effect) end processes
    × (new ≡ io_after p effect)

-- a call with this end returns in this way; if it is done its process has these registers
abbrev pub IsTold : IoEnd → Regs → CallEnd → Type 0
IsTold (answers it) regs end = (end ≡ Done) × (it ≡ regs)
IsTold (fails number) regs end = end ≡ Error number
IsTold (keeps pending) regs end = end ≡ Wait

-- an attempt of a process with this effect returns in this way, and leaves this state; its process has these registers
-- if it is done
abbrev pub Settles : IoEffect → Regs → ℕ → CallEnd → Io → Type 0
Settles effect regs p end new = IsTold effect.end regs end × (new ≡ io_after p effect)
