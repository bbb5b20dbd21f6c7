-- What a process has read that goes on with a file of modules: that file, and the parameters of the program in it.
use Rattle.std.proofs.Common.{◌≡◌, ◌⊎◌, ℕ, not, Bool, true, false, Option, Some, None, is_none, Result, Ok, Err, List, length, refl, sym, inl, inr}
use Rattle.os9_base.specs.declared.errors.TheConstants.{E_BPADDR, E_BPNAM, E_NEMOD}
use Rattle.os9_base.specs.declared.registers.TimePacket.{TimePacket}
use Rattle.os9_base.specs.declared.name_fault.NameFault.{NameFault}
use Rattle.os9_base.specs.declared.name_fault.NameFault.TheVariants.{Unreadable, NoName}
use Rattle.proc_model.specs.Processes.{Processes, regs_at}
use Rattle.proc_model.specs.Program.{asks_for_program}
use Rattle.io_model.specs.PathList.{PathList}
use Rattle.file_rules.specs.Attempts.{asker_of}
use Rattle.file_rules.specs.Files.{Files, KeepsDriveFaults}
use Rattle.file_rules.specs.Program.{parameters_of, tests_program}
use Rattle.file_rules.specs.ProgramFile.{ProgramFile, ReadingIsBroken, ReadsProgram, program_file, program_on_route, reading_of}
use Rattle.file_rules.specs.Step.{Step, refused, refuses}
use Rattle.file_rules.specs.Route.{list_of, reads_list, route_of}
use Rattle.machine_model.specs.State.{State}
use Rattle.isolation_laws.specs.Loading.{file_at_x}

-- a step comes to a file where no drive fails, and the parameters are all there
pub record HasRead (m : Processes) (p : ℕ) (file : ProgramFile) (step : Step ProgramFile) : Type 0 where
  pub parameters : List ℕ
  pub given : parameters_of m p ≡ Some parameters
  pub found : reading_of step ≡ Ok file

module _ (m : Processes) (p : ℕ) (file : ProgramFile) where
  tests-passed : (step : Step ProgramFile) → reading_of (tests_program m p step) ≡ Ok file → HasRead m p file step
  tests-passed step is = by_tests (parameters_of m p) refl (asks_for_program (regs_at m p).a) is
    where
      by_tests : (given : Option (List ℕ)) → parameters_of m p ≡ given → (asks : Bool)
          → reading_of (refuses (is_none given) E_BPADDR (refuses (not asks) E_NEMOD step)) ≡ Ok file
          → HasRead m p file step
      by_tests None there asks is = absurd cc
      by_tests (Some parameters) there false is = absurd cc
      by_tests (Some parameters) there true is = record { parameters = parameters; given = there; found = is }

  list-passed : (list : Result PathList NameFault) (next : PathList → Step ProgramFile)
      → reading_of (reads_list list (tests_program m p) next) ≡ Ok file
      → HasRead m p file (reads_list list (λ step. step) next)
  list-passed (Ok list) next is = tests-passed (next list) is
  list-passed (Err Unreadable) next is = absurd cc
  list-passed (Err NoName) next is = tests-passed (refused E_BPNAM) is

module _ (s : State) (p : ℕ) (now : TimePacket) (file : ProgramFile) (new : Files) where
  -- what is read is what the steps come to, since no drive failed
  reading-is : (step : Step ProgramFile) → ReadsProgram step (Ok file) s.files new → reading_of step ≡ Ok file
  reading-is step it = by_outcome it.outcome
    where
      by_outcome : ((Ok file ≡ reading_of step) × KeepsDriveFaults s.files.drives it.drives) ⊎ ReadingIsBroken step (Ok file) s.files.drives it.drives → reading_of step ≡ Ok file
      by_outcome (inl (is, none)) = sym is
      by_outcome (inr broken) = let is = broken.is in absurd cc

  -- the time is not asked for
  pub file-found : ReadsProgram (program_file (asker_of s.processes p now) s.files (length s.terms) (λ step. step)) (Ok file) s.files new → file_at_x s p ≡ Ok file
  file-found it = reading-is (program_file (asker_of s.processes p now) s.files (length s.terms) (λ step. step)) it

  pub program-found : ReadsProgram (program_file (asker_of s.processes p now) s.files (length s.terms)
      (tests_program s.processes p)) (Ok file) s.files new → HasRead s.processes p file (program_file (asker_of s.processes p now)
      s.files (length s.terms) (λ step. step))
  program-found it =
      list-passed s.processes p file (list_of (asker_of s.processes p now))
      (λ list. program_on_route (asker_of s.processes p now) s.files list (route_of (asker_of s.processes p now) s.files (length s.terms) true list))
      (reading-is (program_file (asker_of s.processes p now) s.files (length s.terms) (tests_program s.processes p)) it)
