-- A machine that starts without images has no volume.
use Rattle.std.proofs.Common.{◌≡◌, ℕ, zero, suc, ◌-◌, Option, None, Some, List, [], ◌∷◌, ◌++◌, length, map, replicate, refl, sym, ap, ◌∙◌, subst}
use Rattle.std.specs.Prelude.{slice_index_or}
use Rattle.std.specs.List.{AllZip}
use Rattle.rbf_model.specs.Volume.{DiskVolume, Vol}
use Rattle.file_rules.specs.Files.{DriveState, Files, volume_at}
use Rattle.file_rules.specs.Processes.{StartsWithImages, first_files}
use Rattle.machine_model.specs.Start.{Boot, Starts}
use Rattle.machine_model.specs.State.{State}
use Rattle.run_laws.specs.Faults.{HasNoVolumes}

abbrev nothing : Option DiskVolume
nothing = None

none-there : (n drive : ℕ) → slice_index_or (replicate n nothing) drive nothing ≡ nothing
none-there zero drive = refl
none-there (suc n) zero = refl
none-there (suc n) (suc drive) = none-there n drive

starts-bare : (images : List (List ℕ)) (volumes : List DiskVolume) (drives : List DriveState) → images ≡ []
    → AllZip Vol images volumes → (drive : ℕ) → volume_at (first_files volumes drives) drive ≡ None
starts-bare [] [] drives none all drive = none-there (length drives - 0) drive
starts-bare [] (v ∷ volumes) drives none all drive = absurd all
starts-bare (image ∷ images) volumes drives none all drive = cc

pub start-bare : (boot : Boot) (s : State) → boot.images ≡ [] → Starts boot s → HasNoVolumes s
start-bare boot s none starts =
    subst HasNoVolumes (sym starts.is) (λ drive. ap (λ (files : Files). volume_at files drive) starts.mounted.is ∙
    starts-bare boot.images starts.mounted.volumes boot.drives none starts.mounted.mounted drive)
