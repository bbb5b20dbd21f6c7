-- Why images end a boot before its machine is made.
use Rattle.std.specs.Prelude.{⊤, ℕ, List, All}
use Rattle.boot_run.specs.BootFile.{IsFirstFault, IsVolume, LacksBootFile}
use Rattle.boot_run.specs.declared.boot_file.BootFileFault.TheVariants.{Bounds}
use Rattle.boot_run.specs.declared.status.End.{End}
use Rattle.boot_run.specs.declared.status.End.TheVariants.{BadBounds, BadImage, NoMemory}

-- these are all well formed, and the first does not have a boot file
abbrev pub LackBootFile : List (List ℕ) → Type 0
LackBootFile images = All IsVolume images × LacksBootFile images Bounds

-- one is not well formed, with its fault; or there is no boot file; or memory was out
abbrev pub RefusesImages : List (List ℕ) → End → Type 0
RefusesImages images (BadImage number fault) = IsFirstFault images number fault
RefusesImages images BadBounds = LackBootFile images
RefusesImages images NoMemory = ⊤
RefusesImages images end = ⊥
