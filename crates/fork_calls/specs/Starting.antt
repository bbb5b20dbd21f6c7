-- A program that a process starts (System Programmer's Manual, F$Fork and F$Chain).
use Rattle.std.specs.Prelude.{ℕ}
use Rattle.os9_base.specs.declared.errors.TheConstants.{E_PRCFUL}
use Rattle.proc_model.specs.Records.{free_process}
use Rattle.proc_model.specs.CallResult.{CallResult, done, needs}
use Rattle.proc_model.specs.Chain.{begun_anew, with_program}
use Rattle.proc_model.specs.Fork.{with_child, forked_regs}
use Rattle.proc_model.specs.Processes.{Processes, own_at, regs_at, with_regs_of}
use Rattle.proc_model.specs.ModuleLinks.{without_primary_link}
use Rattle.proc_model.specs.Program.{Program}
use Rattle.fork_calls.specs.Loading.{loads_program}

-- a child of a process starts the program
abbrev pub starts_child : Processes → ℕ → Program → CallResult
starts_child m p program =
    needs (free_process m.records) E_PRCFUL
    (λ child. loads_program m child program
    (λ memory. done (with_regs_of (with_child m p child program memory) p (forked_regs (regs_at m p) child program))))

-- a process begins anew with the program
abbrev pub starts_anew : Processes → ℕ → Program → CallResult
starts_anew m p program =
    loads_program m p program
    (λ memory. done (without_primary_link (begun_anew (with_program m p program memory) p program) (own_at m p)))
