-- Loads, and starts of programs in files, are one where no drive fails.
use Rattle.std.proofs.Common.{◌≡◌, ◌⊎◌, ℕ, Option, Some, None, Result, Ok, Err, List, refl, sym, ap, ◌∙◌, subst, inl, inr}
use Rattle.std.specs.Prelude.{MatchOption}
use Rattle.os9_base.specs.Count.{Rose}
use Rattle.proc_model.specs.ModuleList.{ModuleEntry}
use Rattle.proc_model.proofs.LoadingLemmas.{Enters-one}
use Rattle.proc_model.specs.CallResult.{CallResult, refused}
use Rattle.proc_model.specs.Chain.{f_chain}
use Rattle.proc_model.specs.Fork.{f_fork}
use Rattle.proc_model.specs.Processes.{Processes}
use Rattle.proc_model.specs.ModuleLinks.{Entered}
use Rattle.proc_model.specs.Program.{Program}
use Rattle.file_rules.specs.Files.{Asker, DriveState, Files, drive_at, with_drives}
use Rattle.file_rules.specs.Load.{GoesOnLoaded, LoadAttempts, Loaded, Loads, links_first, loaded_by}
use Rattle.file_rules.specs.Program.{ChainAttempts, ForkAttempts, StartsFile, chains, forks, named_program, starts_first, tests_program}
use Rattle.file_rules.specs.ProgramFile.{ProgramFile, ReadingIsBroken, ReadsProgram, program_file, reading_of}
use Rattle.file_rules.specs.Step.{Step}
use Rattle.run_laws.specs.Faults.{NoDriveFailed}

-- a reading came to one end
record OneReading (reading second : Result ProgramFile ℕ) (new other : Files) : Type 0 where
  pub readings : reading ≡ second
  pub files : new ≡ other

module _ (step : Step ProgramFile) (old : Files) where
  reads-so : (reading : Result ProgramFile ℕ) (new : Files) → ReadsProgram step reading old new → NoDriveFailed old.drives new.drives → OneReading reading (reading_of step) new old
  reads-so reading new it not_failed = by_outcome it.outcome
    where
      by_outcome : ((reading ≡ reading_of step) × (it.drives ≡ old.drives)) ⊎ ReadingIsBroken step reading old.drives it.drives → OneReading reading (reading_of step) new old
      by_outcome (inl (is, same)) = record { readings = is; files = it.state ∙ ap (with_drives old) same }
      by_outcome (inr broken) =
          absurd (not_failed broken.drive (subst (λ (new : Files). Rose (drive_at old.drives broken.drive).faults (drive_at new.drives broken.drive).faults) (sym it.state) broken.failed.rose))

-- a file that is loaded comes to one end
outcome-one : (m : Processes) (file : ProgramFile) (outcome second : Result Loaded ℕ) → Loads m.memory file.bytes outcome → Loads m.memory file.bytes second → outcome ≡ second
outcome-one m file outcome second loads loads_too =
    loads.is ∙ ap (loaded_by m.memory file.bytes) (Enters-one loads.modules loads_too.modules) ∙ sym loads_too.is

goes-one : (m : Processes) (reading : Result ProgramFile ℕ) (next : ProgramFile → Loaded → CallResult)
    (result other : CallResult) → GoesOnLoaded m reading next result → GoesOnLoaded m reading next other
    → result ≡ other
goes-one m (Err number) next result other is is_too = is ∙ sym is_too
goes-one m (Ok file) next result other (Err number, loads, is) (Err second, loads_too, is_too) =
    let same : Err number ≡ Err second = outcome-one m file (Err number) (Err second) loads loads_too in
    let numbers : number ≡ second = cc in
    is ∙ ap refused numbers ∙ sym is_too
goes-one m (Ok file) next result other (Ok loaded, loads, is) (Ok second, loads_too, is_too) =
    let same : Ok loaded ≡ Ok second = outcome-one m file (Ok loaded) (Ok second) loads loads_too in
    let both : loaded ≡ second = cc in
    is ∙ ap (next file) both ∙ sym is_too
goes-one m (Ok file) next result other (Err number, loads, is) (Ok second, loads_too, is_too) =
    let same : Err number ≡ Ok second = outcome-one m file (Err number) (Ok second) loads loads_too in
    cc
goes-one m (Ok file) next result other (Ok loaded, loads, is) (Err second, loads_too, is_too) =
    let same : Ok loaded ≡ Err second = outcome-one m file (Ok loaded) (Err second) loads loads_too in
    cc

-- what is loaded is one
pub record OneLoad (result second : CallResult) (new other : Files) : Type 0 where
  pub results : result ≡ second
  pub files : new ≡ other

module _ (m : Processes) (asker : Asker) (old : Files) (terms p : ℕ) (result second : CallResult) (new other : Files)
    (none : NoDriveFailed old.drives new.drives) (none_too : NoDriveFailed old.drives other.drives) where
  loads-one : (step : Step ProgramFile) (next : ProgramFile → Loaded → CallResult) (reading then_reading : Result
      ProgramFile ℕ) → ReadsProgram step reading old new → ReadsProgram step then_reading old other
      → GoesOnLoaded m reading next result → GoesOnLoaded m then_reading next second → OneLoad result second new other
  loads-one step next reading then_reading reads reads_too goes goes_too =
      let one = reads-so step old reading new reads none in
      let two = reads-so step old then_reading other reads_too none_too in
      record {
        results =
            goes-one m (reading_of step) next result second
            (subst (λ (reading : Result ProgramFile ℕ). GoesOnLoaded m reading next result) one.readings goes)
            (subst (λ (reading : Result ProgramFile ℕ). GoesOnLoaded m reading next second) two.readings goes_too);
        files = one.files ∙ sym two.files;
      }

  pub load-one : LoadAttempts m asker old terms p result new → LoadAttempts m asker old terms p second other → OneLoad result second new other
  load-one one two =
      loads-one (program_file asker old terms (λ step. step)) (links_first m p) one.reading two.reading one.reads two.reads one.comes two.comes

  starts-one : (start : Processes → ℕ → Program → CallResult) (named : CallResult) (entered : Option Entered)
      → MatchOption entered (StartsFile start m asker old terms p result new) (λ entered. (result ≡ named) ×
      (new ≡ old)) → MatchOption entered (StartsFile start m asker old terms p second other)
      (λ entered. (second ≡ named) × (other ≡ old)) → OneLoad result second new other
  starts-one start named None one two =
      loads-one (program_file asker old terms (tests_program m p)) (starts_first start m p) one.reading two.reading one.reads two.reads one.comes two.comes
  starts-one start named (Some entered) (is, same) (is_too, same_too) =
      record { results = is ∙ sym is_too; files = same ∙ sym same_too }

  pub fork-one : ForkAttempts m asker old terms p result new → ForkAttempts m asker old terms p second other → OneLoad result second new other
  fork-one one two = starts-one forks (f_fork m p) (named_program m p) one two

  pub chain-one : ChainAttempts m asker old terms p result new → ChainAttempts m asker old terms p second other → OneLoad result second new other
  chain-one one two = starts-one chains (f_chain m p) (named_program m p) one two
