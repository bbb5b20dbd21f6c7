use Rattle.std.proofs.Common.{◌≡◌, ℕ, ◌∙◌, refl, sym, subst, ap}
use Rattle.os9_base.specs.declared.call.CallEnd.{CallEnd}
use Rattle.os9_base.specs.declared.call.CallEnd.TheVariants.{Error}
use Rattle.os9_base.specs.declared.errors.TheConstants.{E_BPADDR}
use Rattle.os9_base.specs.declared.registers.Regs.{Regs}
use Rattle.proc_model.specs.Processes.{Processes, cells_at, regs_at}
use Rattle.proc_model.specs.PrsNam.{past_slash, parses_name}
use Rattle.guest_memory.specs.Tie.{cells_of}
use Rattle.proc_model.specs.Records.{AreProcessRecords, IsLiving, record_at}
use Rattle.proc_state.specs.declared.state.ProcState.{ProcState}
use Rattle.proc_state.specs.Tie.{RepresentsProcesses, ReturnsCallEnd}
use Rattle.proc_state.proofs.Tied.{regs-tied}
use Rattle.proc_calls.proofs.Seen.{cells_seen}
use Rattle.proc_calls.proofs.Turns.{process_within}
use Rattle.proc_calls.proofs.names.f_prsnam.Goals as goal

-- a name past FFFF is refused
past_memory : (m : Processes) (p : ℕ) (s : ProcState) → RepresentsProcesses s m → ReturnsCallEnd m p (parses_name m p 65536) (Error E_BPADDR) s
past_memory m p s tied = (refl, tied)

-- the name is where it is by the cells and the registers of the machine
parses_from : (s new : ProcState) (p x first : ℕ) → AreProcessRecords s.table → IsLiving s.table p → x ≡ (record_at s.table p).regs.x
    → past_slash (cells_of s.memory p) x ≡ first → (m : Processes) → RepresentsProcesses s m → (end : CallEnd)
    → ReturnsCallEnd m p (parses_name m p first) end new
    → ReturnsCallEnd m p (parses_name m p (past_slash (cells_at m p) (regs_at m p).x)) end new
parses_from s new p x first are lives same at m tied end comes =
    let cells = cells_seen s p (process_within s.table p are lives) m tied in
    let regs = regs-tied s m p tied in
    let is : past_slash (cells_at m p) (regs_at m p).x ≡ first = sym (λ i. past_slash (cells i) ((regs i).x)) ∙ (sym (λ i. past_slash (cells_of s.memory p) (same i)) ∙ at) in
    subst (λ (k : ℕ). ReturnsCallEnd m p (parses_name m p k) end new) (sym is) comes

pub returns-in-None-clause-call : goal.returns-in-None-clause-call
returns-in-None-clause-call c = λ m tied.
    parses_from c.args.s.now _ c.args.p.0 c.regs-regs.result.x 65536 c.regs-regs.ensures.shape c.requires.lives (ap (λ (r : Regs). r.x) c.regs-regs.ensures.regs)
    c.in-None.ensures.none m tied _ (past_memory m c.args.p.0 _ tied)

pub returns-in-Some-clause-call : goal.returns-in-Some-clause-call
returns-in-Some-clause-call c = λ m tied.
    parses_from c.args.s.now _ c.args.p.0 c.regs-regs.result.x c.in-Some.first c.regs-regs.ensures.shape c.requires.lives (ap (λ (r : Regs). r.x) c.regs-regs.ensures.regs)
    c.in-Some.ensures.some m tied _ (c.parses_name.ensures.call m tied)
