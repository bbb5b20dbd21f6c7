-- Calls on the number of a path, by their names.
use Rattle.std.proofs.Common.{◌≡◌, ℕ, List, sym, subst}
use Rattle.os9_base.specs.declared.call.CallEnd.{CallEnd}
use Rattle.os9_base.specs.declared.registers.TimePacket.{TimePacket}
use Rattle.os9_outer.specs.TerminalState.{TerminalState}
use Rattle.proc_model.specs.Processes.{Processes}
use Rattle.call_dispatch.specs.Staying.{MayAttemptIo as MayAttemptOnDevice}
use Rattle.proc_state.specs.declared.state.ProcState.{ProcState}
use Rattle.file_rules.specs.Files.{Files}
use Rattle.file_state.specs.Attempt.{MachineOnDrives}
use Rattle.file_state.specs.declared.state.FileState.{FileState}
use Rattle.call_dispatch.specs.Attempts.{MayAttemptPathCall, TriesPathCall}
use Rattle.call_dispatch.specs.Numbers.{number_call}
use Rattle.call_dispatch.specs.Uses.{call_of, device_of}
use Rattle.call_dispatch.specs.declared.numbers.NumberCall.{NumberCall}
use Rattle.call_dispatch.specs.declared.path_use.PathUse.{PathUse}
use Rattle.call_dispatch.specs.declared.path_use.PathUse.TheVariants as Use

-- what a use of a path asks for
pub may-use : (used : PathUse) (processes : ProcState) (state : FileState) (p terms : ℕ) → MayAttemptPathCall (call_of used)
    processes state p terms → MayAttemptOnDevice (device_of used) processes state.io p terms
may-use Use.Read processes state p terms may = may.attempt
may-use Use.ReadLn processes state p terms may = may.attempt
may-use Use.Write processes state p terms may = may.attempt
may-use Use.WritLn processes state p terms may = may.attempt
may-use Use.GetStt processes state p terms may = may.attempt
may-use Use.SetStt processes state p terms may = may.attempt
may-use Use.PErr processes state p terms may = may.attempt

-- what comes of a call is what comes of the one that it is
pub number-tries : (call other : NumberCall) (m : Processes) (files : Files) (now : TimePacket) (p : ℕ) → call ≡ other
    → (end : CallEnd) (terms terms_after : List TerminalState) (before after : MachineOnDrives) → TriesPathCall (number_call other) m
    files now p end terms terms_after before after → TriesPathCall (number_call call) m files now p end terms terms_after
    before after
number-tries call other m files now p is end terms terms_after before after tries =
    subst (λ (call : NumberCall). TriesPathCall (number_call call) m files now p end terms terms_after before after) (sym is) tries
