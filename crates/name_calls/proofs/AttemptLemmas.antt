-- How a call ends that answers X past its path list, or is refused.
use Rattle.std.proofs.Common.{◌≡◌, ◌∙◌, ℕ, ◌%◌, None, List, Result, Ok, Err, ap, sym, subst, inl}
use Rattle.os9_base.specs.declared.call.CallEnd.{CallEnd}
use Rattle.os9_base.specs.declared.call.CallEnd.TheVariants.{Done, Error}
use Rattle.os9_base.specs.declared.registers.TimePacket.{TimePacket}
use Rattle.os9_outer.specs.TerminalState.{TerminalState}
use Rattle.proc_model.specs.Processes.{Processes, regs_at, with_regs_of}
use Rattle.io_model.specs.Io.{Io, with_call}
use Rattle.io_model.specs.Step.{answers, fails}
use Rattle.proc_state.specs.Tie.{RepresentsProcesses}
use Rattle.proc_state.specs.declared.state.ProcState.{ProcState}
use Rattle.file_drives.specs.Drives.{DriveView}
use Rattle.file_rules.specs.Attempts.{asker_of}
use Rattle.file_rules.specs.Files.{Files}
use Rattle.file_rules.specs.Step.{FileStep, leaves}
use Rattle.file_state.proofs.StateLemmas.{stands-with_io}
use Rattle.file_state.specs.Ends.{EndsFileAttempt}
use Rattle.file_state.specs.Media.{KeepsDrives}
use Rattle.file_state.specs.declared.state.FileState.{FileState}
use Rattle.name_calls.specs.Tries.{TriesNameCall}

module _ (step : FileStep) (most : ℕ) (m : Processes) (was : Files) (now : TimePacket) (p : ℕ)
    (terms : List TerminalState) (mid : FileState) (before views : List DriveView) (end : CallEnd)
    (processes : ProcState) (io : Io) (io_is : io ≡ with_call mid.io p None) where
  abbrev Ended : Type 0
  Ended = EndsFileAttempt step most m was now p end processes (record mid { io = io }) before views terms

  abbrev Tried : Result ℕ ℕ → Type 0
  Tried result = TriesNameCall step most (asker_of m p now) was result mid before views

  pub ends-refused : (number : ℕ) → end ≡ Error number → RepresentsProcesses processes m → Tried (Err number) → Ended
  ends-refused number end_is tied it = record {
    effect = leaves (fails number) it.left;
    does = it.does terms;
    comes = (end_is, tied);
    stands =
        inl (stands-with_io mid views it.left (with_call it.left.io p None) io (ap (λ (old : Io). with_call old p None) it.stands.io ∙ sym io_is) it.stands);
    calls = it.calls;
    drives = subst (λ (end : CallEnd). KeepsDrives step (asker_of m p now) was end before views) (sym end_is) it.drives;
  }

  pub ends-done : (next : ℕ) → end ≡ Done → RepresentsProcesses processes (with_regs_of m p (record (regs_at m p) { x = next % 65536 })) → Tried (Ok next) → Ended
  ends-done next end_is tied it = record {
    effect = leaves (answers (record (regs_at m p) { x = next % 65536 })) it.left;
    does = it.does terms;
    comes = (end_is, tied);
    stands =
        inl (stands-with_io mid views it.left (with_call it.left.io p None) io (ap (λ (old : Io). with_call old p None) it.stands.io ∙ sym io_is) it.stands);
    calls = it.calls;
    drives = subst (λ (end : CallEnd). KeepsDrives step (asker_of m p now) was end before views) (sym end_is) it.drives;
  }
