-- What a command leaves (this project's own).
use Rattle.std.specs.Prelude.{◌≡◌, ◌≢◌, ℕ, List, All}
use Rattle.os9_outer.specs.Host.{HostFiles}
use Rattle.boot_run.specs.World.{World}

-- the output and the devices are unchanged
pub record IsSilent (before after : World) : Type 0 where
  pub out : after.out ≡ before.out
  pub devices : after.devices ≡ before.devices

-- no file is changed but those of these names
abbrev pub ChangesOnly : List (List ℕ) → HostFiles → HostFiles → Type 0
ChangesOnly names before now = (name : List ℕ) → All (λ other. name ≢ other) names → now name ≡ before name
