-- Why images are refused (this project's own).
use Rattle.std.specs.Prelude.{◌≡◌, ℕ, ⊤, List}
use Rattle.rbf_model.specs.Faults.{IsFault}
use Rattle.boot_run.specs.BootFile.{IsFirstFault}
use Rattle.boot_run.specs.declared.boot_file.ImagesFault.{ImagesFault}
use Rattle.boot_run.specs.declared.boot_file.ImagesFault.TheVariants.{Image, OutOfMemory}

-- the image of this place has this fault; or memory was out
abbrev pub BreaksImage : ℕ → List ℕ → ImagesFault → Type 0
BreaksImage number image (Image place fault) = (place ≡ number) × IsFault image fault.rule fault.lsn
BreaksImage number image OutOfMemory = ⊤

-- the first of these that does not represent a volume has this fault; or memory was out
abbrev pub BreaksImages : List (List ℕ) → ImagesFault → Type 0
BreaksImages images (Image number fault) = IsFirstFault images number fault
BreaksImages images OutOfMemory = ⊤
