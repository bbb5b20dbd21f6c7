-- From the steps of `asm` to how it ends.
use Rattle.std.proofs.Common.{◌≡◌, ◌⊎◌, ℕ, Option, Some, None, Err, List, [], ◌∷◌, refl, ap, subst, inl, inr}
use Rattle.std.specs.Prelude.{IfSome}
use Rattle.os9_outer.specs.Host.{HostFiles, file_contents}
use Rattle.os9_words.specs.declared.asm_words.AsmWords.{AsmWords}
use Rattle.os9_kernel.specs.Outside.{Outside}
use Rattle.boot_run.specs.World.{World, HasNoFault}
use Rattle.asm_model.specs.Placement.{fault_on}
use Rattle.asm6809.specs.Assembled.{outcome_of}
use Rattle.boot_run.specs.Left.{IsSilent}
use Rattle.boot_run.specs.Stops.{StopsAtRead}
use Rattle.boot_run.specs.declared.status.End.{End}
use Rattle.boot_run.specs.declared.status.End.TheVariants.{Ended, CannotRead, CannotWriteFile, NoMemory, BadSource}
use Rattle.boot_run.specs.declared.status.Input.{Input}
use Rattle.boot_run.specs.declared.status.Input.TheVariants.{Source}
use Rattle.boot_run.proofs.ChangeLemmas.{all-change, first-change, same-changes}
use Rattle.os9_boot.specs.Asm.{AsmComesTo, HasModule, HasOutputPart, MakesModule, MakesThen, asm_file_name, asm_outputs}
use Rattle.os9_boot.specs.AsmCall.{AsmCall}
use Rattle.os9_boot.specs.AsmLeft.{AsmLeavesFiles, AsmMayEnd}
use Rattle.os9_boot.specs.AsmSteps.{RefusesSource, WritesAsmOut}

-- ---- worlds

of-any : (told : Option HostFiles) (fact : HostFiles → Type 0) → ((files : HostFiles) → fact files) → IfSome told fact
of-any None fact holds = tt
of-any (Some files) fact holds = holds files

silent-same : (before after : World) → after ≡ before → IsSilent before after
silent-same before after same =
    record { out = ap (λ (w : World). w.out) same; devices = ap (λ (w : World). w.devices) same }

no-fault-same : (before after : World) → after ≡ before → HasNoFault before after
no-fault-same before after same =
    (ap (λ (w : World). w.faults) same, ap (λ (w : World). w.failed_name) same, ap (λ (w : World). w.failed_in_read) same)

pub files-same : (asm : AsmWords) (before after : World) (end : End) → after.files ≡ before.files → AsmLeavesFiles asm before after end
files-same asm before after Ended same = same-changes (asm_outputs asm) before.files after.files same
files-same asm before after CannotWriteFile same = same-changes (asm_outputs asm) before.files after.files same
files-same asm before after NoMemory same = same-changes (asm_outputs asm) before.files after.files same
files-same asm before after end same = same

-- ---- the read

-- a name that only the source has
abbrev only-source : List ℕ → Input → Option (List ℕ)
only-source name Source = Some name
only-source name input = None

source-only : (name other : List ℕ) (input : Input) → only-source name input ≡ Some other → input ≡ Source
source-only name other Source named = refl
source-only name other input named = absurd (cc named)

may-stop : (name : List ℕ) (before after : World) (end : End) → StopsAtRead (only-source name) before after end → AsmMayEnd end
may-stop name before after (CannotRead input) (other, named, could) = source-only name other input named
may-stop name before after NoMemory stops = tt
may-stop name before after end stops = absurd stops

ended : (asm : AsmWords) (before after : World) (end : End) → AsmMayEnd end → StopsAtRead (asm_file_name asm) before after end → AsmCall asm before after end
ended asm before after (CannotRead input) may (name, named, could) = record {
  comes = of-any before.files (λ files. AsmComesTo files asm before after (CannotRead input)) (λ files. tt);
  may = may;
  devices = record { out = could.out; devices = could.devices };
  host = (name, named, could.failed);
  files = could.files;
}
ended asm before after NoMemory may same = record {
  comes = of-any before.files (λ files. AsmComesTo files asm before after NoMemory) (λ files. inl (ap (λ (w : World). w.files) same));
  may = tt;
  devices = silent-same before after same;
  host = no-fault-same before after same;
  files = files-same asm before after NoMemory (ap (λ (w : World). w.files) same);
}
ended asm before after end may stops = absurd stops

-- SOURCE could not be read
pub read-ended : (asm : AsmWords) (before after : Outside → World) (end : End)
    → ((devices : Outside) (name_of : Input → Option (List ℕ)) → name_of Source ≡ Some asm.source
    → StopsAtRead name_of (before devices) (after devices) end) → (devices : Outside) → AsmCall asm (before devices)
    (after devices) end
read-ended asm before after end stops devices =
    ended asm (before devices) (after devices) end (may-stop asm.source (before devices) (after devices) end (stops devices (only-source asm.source) refl)) (stops devices (asm_file_name asm) refl)

-- ---- behind the read

module _ (asm : AsmWords) (source : List ℕ) (before mid : World) (read : IfSome before.files (λ files. source ≡ file_contents files asm.source)) (same : mid ≡ before) where
  -- what holds of the bytes that were read holds of the file
  of-source : (fact : List ℕ → Type 0) → fact source → IfSome before.files (λ files. fact (file_contents files asm.source))
  of-source fact holds = by before.files read
    where
      by : (told : Option HostFiles) → IfSome told (λ files. source ≡ file_contents files asm.source) → IfSome told (λ files. fact (file_contents files asm.source))
      by None is = tt
      by (Some files) is = subst fact is holds

  -- the source was refused
  pub source-refused : (end : End) → RefusesSource source end → AsmCall asm before mid end
  source-refused (BadSource line error) is = record {
    comes = of-source (λ source. outcome_of source ≡ Err (fault_on line error)) is;
    may = tt;
    devices = silent-same before mid same;
    host = no-fault-same before mid same;
    files = ap (λ (w : World). w.files) same;
  }
  source-refused NoMemory is = ended asm before mid NoMemory tt same
  source-refused end is = absurd is

  module _ (bytes : List ℕ) (made : MakesModule source bytes) (after : World) where
    then-made : (then_ : List ℕ → Type 0) → then_ bytes → MakesThen source then_
    then-made then_ rest = record { bytes = bytes; made = made; rest = rest }

    wrote : (end : End) → WritesAsmOut asm bytes end before after → AsmCall asm before after end
    wrote Ended out = record {
      comes = of-source (λ source. MakesThen source (HasModule asm before after)) (then-made (HasModule asm before after) out.ends.1);
      may = tt;
      devices = out.silent;
      host = out.ends.0;
      files = all-change (asm_outputs asm) (bytes ∷ []) before.files after.files out.ends.1;
    }
    wrote CannotWriteFile out = record {
      comes = of-source (λ source. MakesThen source (HasOutputPart asm before after)) (then-made (HasOutputPart asm before after) out.ends.1);
      may = tt;
      devices = out.silent;
      host = (asm.out, refl, out.ends.0);
      files = first-change 0 (asm_outputs asm) (bytes ∷ []) before.files after.files out.ends.1;
    }
    wrote NoMemory out = record {
      comes = of-source (λ source. (after.files ≡ before.files) ⊎ MakesThen source (HasOutputPart asm before after)) (inr (then-made (HasOutputPart asm before after) out.ends.1));
      may = tt;
      devices = out.silent;
      host = out.ends.0;
      files = first-change 0 (asm_outputs asm) (bytes ∷ []) before.files after.files out.ends.1;
    }
    wrote end out = absurd out.ends

    -- its module was written
    pub module-written : (end : End) → WritesAsmOut asm bytes end mid after → AsmCall asm before after end
    module-written end out = wrote end (subst (λ world. WritesAsmOut asm bytes end world after) same out)
