-- Loads, and starts of programs in files, change only what the drives counted.
use Rattle.std.proofs.Common.{◌≡◌, ◌⊎◌, ℕ, Option, Some, None, Result, Err, refl, sym, subst, inl, inr}
use Rattle.std.specs.Prelude.{MatchOption}
use Rattle.proc_model.specs.CallResult.{CallResult}
use Rattle.proc_model.specs.Chain.{f_chain}
use Rattle.proc_model.specs.Fork.{f_fork}
use Rattle.proc_model.specs.Processes.{Processes}
use Rattle.proc_model.specs.ModuleLinks.{Entered}
use Rattle.proc_model.specs.Program.{Program}
use Rattle.file_rules.specs.Files.{Asker, Files, KeepsDriveFaults, with_drives}
use Rattle.file_rules.specs.Load.{GoesOnLoaded, LoadAttempts, Loaded, links_first}
use Rattle.file_rules.specs.Program.{ChainAttempts, ForkAttempts, StartsFile, chains, forks, named_program, starts_first, tests_program}
use Rattle.file_rules.specs.ProgramFile.{ProgramFile, ReadingIsBroken, ReadsProgram, program_file, reading_of}
use Rattle.file_rules.specs.Step.{Step, drive_of}
use Rattle.file_laws.specs.Touch.{FaultAnswers, LeavesFiles}

leaves-same : (reached : Option ℕ) (old : Files) (result : CallResult) → LeavesFiles reached old result old
leaves-same reached old result = record { io = refl; directories = refl; volumes = refl; records = refl; drives = inl refl }

-- what a reading of a file leaves
module _ (s : Processes) (step : Step ProgramFile) (next : ProgramFile → Loaded → CallResult) (old : Files) (result : CallResult) where
  goes-refused : (reading : Result ProgramFile ℕ) (number : ℕ) → reading ≡ Err number → GoesOnLoaded s reading next result → result ≡ CallResult.refused number
  goes-refused reading number is goes = subst (λ (reading : Result ProgramFile ℕ). GoesOnLoaded s reading next result) is goes

  reads-leave : (reading : Result ProgramFile ℕ) (new : Files) → ReadsProgram step reading old new → GoesOnLoaded s reading next result → LeavesFiles (drive_of step) old result new
  reads-leave reading new it goes = subst (LeavesFiles (drive_of step) old result) (sym it.state) (record {
    io = refl;
    directories = refl;
    volumes = refl;
    records = refl;
    drives = by_outcome it.outcome;
  })
    where
      by_outcome : ((reading ≡ reading_of step) × KeepsDriveFaults old.drives it.drives) ⊎ ReadingIsBroken step reading
          old.drives it.drives → KeepsDriveFaults old.drives it.drives ⊎ FaultAnswers (drive_of step) old result
          (with_drives old it.drives)
      by_outcome (inl (is, none)) = inl none
      by_outcome (inr broken) =
          inr (record { drive = broken.drive; reaches = broken.reached; number = broken.number; failed = broken.failed; answer = goes-refused reading broken.number broken.is goes })

module _ (processes : Processes) (asker : Asker) (old : Files) (terms p : ℕ) (result : CallResult) (new : Files) where
  pub load-leaves : LoadAttempts processes asker old terms p result new → LeavesFiles (drive_of (program_file asker old terms (λ step. step))) old result new
  load-leaves it =
      reads-leave processes (program_file asker old terms (λ step. step)) (links_first processes p) old result it.reading new it.reads it.comes

  -- the drive that the path list of a program leads to, if it leads to one
  abbrev start_drive : Option ℕ
  start_drive = drive_of (program_file asker old terms (tests_program processes p))

  -- a program of a file, or one that is entered
  starts-leave : (start : Processes → ℕ → Program → CallResult) (named : CallResult) (entered : Option Entered)
      → MatchOption entered (StartsFile start processes asker old terms p result new) (λ entered. (result ≡ named) ×
      (new ≡ old)) → LeavesFiles start_drive old result new
  starts-leave start named None it =
      reads-leave processes (program_file asker old terms (tests_program processes p)) (starts_first start processes p) old result it.reading new it.reads it.comes
  starts-leave start named (Some entered) (is, same) =
      subst (LeavesFiles start_drive old result) (sym same) (leaves-same start_drive old result)

  pub fork-leaves : ForkAttempts processes asker old terms p result new → LeavesFiles start_drive old result new
  fork-leaves it = starts-leave forks (f_fork processes p) (named_program processes p) it

  pub chain-leaves : ChainAttempts processes asker old terms p result new → LeavesFiles start_drive old result new
  chain-leaves it = starts-leave chains (f_chain processes p) (named_program processes p) it
