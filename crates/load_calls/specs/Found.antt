-- A file of modules that was found: its tests, and what is read of it.
use Rattle.std.specs.Prelude.{◌≡◌, ℕ, not, nat_lt, Result, Ok, Err, List, length, take, if◌then◌else◌}
use Rattle.os9_base.specs.declared.errors.TheConstants.{E_FNA, E_SHARE, E_MEMFUL}
use Rattle.os9_base.specs.declared.limits.TheConstants.{MOST_GROUP_BYTES}
use Rattle.io_model.specs.declared.modes.TheConstants.{MODE_EXECUTE}
use Rattle.rbf_model.specs.File.{DiskFile}
use Rattle.file_rules.specs.Files.{Files}
use Rattle.file_rules.specs.Open.{may_open}
use Rattle.file_rules.specs.ProgramFile.{ProgramFile}
use Rattle.file_rules.specs.Sharing.{is_not_shared}
use Rattle.file_rules.specs.Step.{Step, refused, comes, reaches}
use Rattle.file_rules.specs.Route.{Found}

-- ---- its size

-- a size of at most the bytes of a group, or the refusal
abbrev pub short_size : ℕ → Result ℕ ℕ
short_size size = if nat_lt MOST_GROUP_BYTES size then Err E_MEMFUL else Ok size

-- the number of bytes read of it, or the number with which it is refused
abbrev pub program_size : ℕ → Files → Found → Result ℕ ℕ
program_size user files found =
    if not (may_open found.file user MODE_EXECUTE) then Err E_FNA
    else if is_not_shared files found MODE_EXECUTE then Err E_SHARE
    else short_size (length found.file.contents)

-- ---- its bytes

-- if a file has this number of bytes, all of them are at the front of a buffer
pub record IsWhole (file : DiskFile) (size : ℕ) (buffer : List ℕ) : Type 0 where
  pub bytes_are : length file.contents ≡ size → take size buffer ≡ file.contents

-- the step by its size: its bytes, and the address after its path list; or the refusal
abbrev pub program_by : Found → ℕ → Result ℕ ℕ → Step ProgramFile
program_by found next (Ok size) = comes (record { bytes = found.file.contents; next = next })
program_by found next (Err number) = refused number

-- the step reaches the drive of a found file
abbrev pub program_there : ℕ → Files → ℕ → Found → Step ProgramFile
program_there user files next found =
    reaches found.place.drive (program_by found next (program_size user files found))
