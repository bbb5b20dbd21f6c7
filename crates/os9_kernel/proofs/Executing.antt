-- Instructions of a process that are done, one after another.
use Rattle.std.proofs.Common.{◌≡◌, ℕ, zero, suc, ◌+◌, refl, sym, subst, arith}
use Rattle.os9_base.specs.declared.registers.Regs.{Regs}
use Rattle.cpu_model.specs.declared.stop.Stop.TheVariants.{Next}
use Rattle.cpu_model.specs.Effects.{Effect}
use Rattle.cpu_model.specs.Step.{Outcome, Done, Calls, Aborts, step_of}
use Rattle.proc_model.specs.Memory.{MemoryState}
use Rattle.proc_model.specs.MemoryChanges.{written}
use Rattle.guest_memory.specs.Running.{cells_seen, LeavesMemory, FollowInMemory}

-- the instruction that a process with these registers executes in this memory
abbrev pub next_outcome : MemoryState → ℕ → Regs → Outcome
next_outcome m process regs = step_of (cells_seen m process) regs

-- so many instructions of a process, one after another, were done: from a memory and registers to others
pub data AreDone (process : ℕ) : ℕ → MemoryState → Regs → MemoryState → Regs → Type 0 where
  none : {m : MemoryState} {regs : Regs} → AreDone process 0 m regs m regs
  first : {count : ℕ} {m t : MemoryState} {regs last : Regs} (effect : Effect)
      → next_outcome m process regs ≡ Done effect
      → AreDone process count (written m process effect.writes) effect.regs t last
      → AreDone process (count + 1) m regs t last

module _ (process : ℕ) where
  one : (k : ℕ) (r next after : Regs) (m held t : MemoryState) (outcome : Outcome) → next_outcome m process r ≡
      outcome → LeavesMemory process outcome Next r m next held → AreDone process k held next t after
      → AreDone process (k + 1) m r t after
  one k r next after m held t (Done effect) is (stops, registers, memory) rest =
      first effect is
      (subst (λ (x : MemoryState). AreDone process k x effect.regs t after) memory
      (subst (λ (x : Regs). AreDone process k held x t after) registers rest))
  one k r next after m held t (Calls code past) is left rest = cc (left.0)
  one k r next after m held t (Aborts status) is left rest = cc (left.0)

  -- those that follow one another are done
  pub follow-done : (k : ℕ) (r : Regs) (m : MemoryState) (after : Regs) (t : MemoryState) → FollowInMemory process k r m after t → AreDone process k m r t after
  follow-done zero r m after t (registers, memory) =
      subst (λ (x : MemoryState). AreDone process 0 m r x after) (sym memory)
      (subst (λ (x : Regs). AreDone process 0 m r m x) (sym registers) none)
  follow-done (suc k) r m after t (next, held, left, rest) =
      let sum : k + 1 ≡ suc k = omega arith in
      subst (λ n. AreDone process n m r t after) sum
      (one k r next after m held t (next_outcome m process r) refl left (follow-done k next held after t rest))
