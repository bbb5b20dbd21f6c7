-- What F$Chain comes to.
use Rattle.std.proofs.Common.{◌≡◌, ℕ, None}
use Rattle.proc_model.specs.Memory.{MemoryState}
use Rattle.proc_model.specs.Records.{with_regs}
use Rattle.proc_model.specs.Signals.{with_intercept}
use Rattle.proc_model.specs.CallResult.{CallResult, done}
use Rattle.proc_model.specs.Chain.{begun_anew, with_program}
use Rattle.proc_model.specs.Processes.{Processes, own_at, with_own, with_records}
use Rattle.proc_model.specs.ModuleLinks.{without_primary_link}
use Rattle.proc_model.specs.Program.{Program, start_regs, start_own}
use Rattle.fork_calls.specs.declared.starting.Beginning.{Beginning}
use Rattle.fork_calls.specs.Chaining.{begun_so}

module _ (m : Processes) (p : ℕ) where
  -- what F$Chain does with the memory in which the process begins anew
  abbrev pub anew_next : Program → MemoryState → CallResult
  anew_next program memory = done (without_primary_link (begun_anew (with_program m p program memory) p program) (own_at m p))

  -- a process that begins so begins anew with the program
  pub begun_so-anew : (program : Program) (start : Beginning) → start.regs ≡ start_regs program → start.own ≡ start_own program → begun_so m p start ≡ begun_anew m p program
  begun_so-anew program start regs own = λ i. with_own (with_records m (with_intercept (with_regs m.records p (regs i)) p None)) p (own i)
