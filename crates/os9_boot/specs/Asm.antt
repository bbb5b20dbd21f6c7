-- What `asm` does (this project's own; the language of sources is that of asm_model).
use Rattle.std.specs.Prelude.{◌≡◌, ◌⊎◌, ℕ, ⊤, Option, Some, None, Ok, Err, List, [], ◌∷◌}
use Rattle.os9_outer.specs.Host.{HostFiles, file_contents, IfObserved}
use Rattle.os9_words.specs.declared.asm_words.AsmWords.{AsmWords}
use Rattle.boot_run.specs.Images.{WritesAll, WritesUpTo}
use Rattle.boot_run.specs.World.{World}
use Rattle.asm_model.specs.Placement.{fault_on}
use Rattle.asm6809.specs.Assembled.{Assembled, outcome_of}
use Rattle.boot_run.specs.declared.status.End.{End}
use Rattle.boot_run.specs.declared.status.End.TheVariants.{Ended, CannotWriteFile, NoMemory, BadSource}
use Rattle.boot_run.specs.declared.status.Input.{Input}
use Rattle.boot_run.specs.declared.status.Input.TheVariants.{File, Source}

-- ---- the words

-- the names of its files: SOURCE and OUT
abbrev pub asm_file_name : AsmWords → Input → Option (List ℕ)
asm_file_name asm Source = Some asm.source
asm_file_name asm File = Some asm.out
asm_file_name asm input = None

-- the file that it reads
abbrev pub asm_inputs : AsmWords → List (List ℕ)
asm_inputs asm = asm.source ∷ []

-- the file that it writes when it is done
abbrev pub asm_outputs : AsmWords → List (List ℕ)
asm_outputs asm = asm.out ∷ []

-- ---- the module

-- a source makes these bytes, which are the module that it describes
pub record MakesModule (source bytes : List ℕ) : Type 0 where
  pub is : outcome_of source ≡ Ok bytes
  pub law : Assembled source bytes

-- a source made a module, with this outcome
pub record MakesThen (source : List ℕ) (then_ : List ℕ → Type 0) : Type 0 where
  pub bytes : List ℕ
  pub made : MakesModule source bytes
  pub rest : then_ bytes

-- ---- how it ends

-- OUT has these bytes, and no other file has changed
abbrev pub HasModule : AsmWords → World → World → List ℕ → Type 0
HasModule asm before after bytes = IfObserved (WritesAll (asm_outputs asm) (bytes ∷ [])) before.files after.files

-- OUT may have a part of them, and no other file has changed
abbrev pub HasOutputPart : AsmWords → World → World → List ℕ → Type 0
HasOutputPart asm before after bytes = IfObserved (WritesUpTo 0 (asm_outputs asm) (bytes ∷ [])) before.files after.files

-- its outcome, by its end
abbrev pub AsmComesTo : HostFiles → AsmWords → World → World → End → Type 0
AsmComesTo files asm before after Ended = MakesThen (file_contents files asm.source) (HasModule asm before after)
AsmComesTo files asm before after CannotWriteFile =
    MakesThen (file_contents files asm.source) (HasOutputPart asm before after)
AsmComesTo files asm before after NoMemory =
    (after.files ≡ before.files) ⊎ MakesThen (file_contents files asm.source) (HasOutputPart asm before after)
AsmComesTo files asm before after (BadSource line error) =
    outcome_of (file_contents files asm.source) ≡ Err (fault_on line error)
AsmComesTo files asm before after end = ⊤
