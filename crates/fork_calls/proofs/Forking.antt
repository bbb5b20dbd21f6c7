-- What F$Fork comes to.
use Rattle.std.proofs.Common.{◌≡◌, ℕ, Option, Some, None, option_map, ap, ◌∙◌, sym, set}
use Rattle.std.proofs.lemmas.Option.{same_Some}
use Rattle.os9_base.specs.declared.errors.TheConstants.{E_PRCFUL}
use Rattle.proc_model.specs.Memory.{MemoryState}
use Rattle.os9_base.specs.declared.registers.Pid.{Pid}
use Rattle.proc_model.specs.Records.{free_process, record_at, after_make, with_regs}
use Rattle.proc_model.specs.Turns.{with_turn}
use Rattle.proc_model.specs.CallResult.{CallResult, done, refused, needs}
use Rattle.proc_model.specs.Fork.{with_child, forked_regs}
use Rattle.proc_model.specs.Processes.{Processes, regs_at, with_own, with_regs_of}
use Rattle.proc_model.specs.Program.{Program}
use Rattle.proc_state.specs.Beginning.{with_made}
use Rattle.fork_calls.specs.declared.starting.Beginning.{Beginning}
use Rattle.fork_calls.specs.Loading.{loads_program, with_new_child}
use Rattle.fork_calls.specs.Starting.{starts_child}

module _ (m : Processes) (p : ℕ) where
  -- what F$Fork does with the child's number and the memory
  abbrev pub child_next : Program → ℕ → MemoryState → CallResult
  child_next program child memory = done (with_regs_of (with_child m p child program memory) p (forked_regs (regs_at m p) child program))

  -- there is no number for a child
  pub fork-full : (program : Program) → free_process m.records ≡ None → starts_child m p program ≡ refused E_PRCFUL
  fork-full program none = ap (λ (free : Option ℕ). needs free E_PRCFUL (λ child. loads_program m child program (child_next program child))) none

  -- there is one
  pub fork-child : (program : Program) (child : ℕ) → free_process m.records ≡ Some child → starts_child m p program ≡ loads_program m child program (child_next program child)
  fork-child program child some = ap (λ (free : Option ℕ). needs free E_PRCFUL (λ child. loads_program m child program (child_next program child))) some

-- the number that was taken is the least that is free
pub made-child : (made : Option Pid) (first : Pid) (free : Option ℕ) (child : Pid) → made ≡ Some first → option_map (λ (p : Pid). p.0) made ≡ free → free ≡ Some child.0 → first ≡ child
made-child made first free child is number some =
    let same : first.0 ≡ child.0 = same_Some first.0 child.0 (sym (ap (λ (o : Option Pid). option_map (λ (p : Pid). p.0) o) is) ∙ number ∙ some) in
    ap (λ (n : ℕ). record { 0 = n }) same

-- a child that is made has its user and its priority from its parent
pub child-added : (m : Processes) (p child made : Pid) (start : Beginning) (user priority : ℕ) → made ≡ child
    → user ≡ (record_at m.records p.0).user → priority ≡ (record_at m.records p.0).priority
    → with_regs_of (with_made (with_own m child.0 start.own) made p user priority) made.0 start.regs ≡ with_new_child
    m p.0 child.0 start
child-added m p child made start user priority made_is user_is priority_is = λ i. record {
  memory = m.memory;
  records = with_regs (after_make m.records p (user_is i) (priority_is i)) (made_is i).0 start.regs;
  own = set m.own child.0 start.own;
  order = with_turn m.order (made_is i) (priority_is i);
  tick = m.tick;
}
