-- The start of a kernel.
use Rattle.std.specs.Prelude.{◌≡◌, ◌≢◌, ℕ, ⊤, Result, Ok, Err, IfErr, IfOk, List, OnOk}
use Rattle.machine_model.specs.ProcessStart.{RefusesBoot}
use Rattle.machine_model.specs.declared.ends.BootFault.{BootFault}
use Rattle.machine_model.specs.declared.ends.BootFault.TheVariants.{OutOfMemory}
use Rattle.file_drives.specs.Drives.{drive_states}
use Rattle.cold_start.specs.Start.{HaveImages, StartsDrives}
use Rattle.cold_start.specs.declared.fault.StartFault.{StartFault}
use Rattle.cold_start.specs.declared.fault.StartFault.TheVariants as Fault
use Rattle.machine_model.specs.Start.{Boot as Started, Starts}
use Rattle.machine_model.specs.State.{State}
use Rattle.os9_kernel.specs.declared.kernel.Kernel.{Kernel}
use Rattle.os9_kernel.specs.declared.new.Config.{Config}
use Rattle.os9_kernel.specs.declared.new.StartError.{StartError}
use Rattle.os9_kernel.specs.declared.new.StartError.TheVariants.{Boot, Drive}
use Rattle.os9_kernel.specs.Outside.{Outside}
use Rattle.os9_kernel.specs.Tie.{Represents, ticks}

-- what the machine starts with, if these are its devices when the images are mounted
abbrev pub boot_of : Config → List ℕ → List (List ℕ) → Outside → Started
boot_of config file images devices = record {
  file = file;
  blocks = config.blocks;
  time = config.time;
  images = images;
  drives = drive_states devices.drives;
  terms = devices.terms;
}

-- the kernel represents the state in which the machine starts
abbrev pub IsStarted : Config → List ℕ → List (List ℕ) → Outside → Kernel → Type 0
IsStarted config file images devices kernel =
    (s : State) × Starts (boot_of config file images devices) s × Represents kernel devices s

-- the boot file is not refused
abbrev pub AcceptsBootFile : Config → List ℕ → Type 0
AcceptsBootFile config file = (fault : BootFault) → ¬ RefusesBoot file config.blocks fault

-- why a start fails: the boot file is refused, or a drive failed and it is not; or memory was out
abbrev pub StartIsRefused : Config → List ℕ → StartError → Type 0
StartIsRefused config file (Boot fault) = fault ≢ OutOfMemory → RefusesBoot file config.blocks fault
StartIsRefused config file (Drive drive number) = AcceptsBootFile config file

-- the fact holds if the boot file is refused
abbrev pub WhereRefused : StartError → Type 0 → Type 0
WhereRefused (Boot fault) fact = fault ≢ OutOfMemory → fact
WhereRefused (Drive drive number) fact = ⊤

-- the same for the drives: the result of the start on them
abbrev pub drive_fault : {A : Type 0} → Result A StartError → Result A StartFault
drive_fault (Ok a) = Ok a
drive_fault (Err (Boot fault)) = Err Fault.OutOfMemory
drive_fault (Err (Drive drive number)) = Err (Fault.Drive drive number)

-- the result of a start, and the devices after it
pub record KernelStarts (config : Config) (file : List ℕ) (result : Result Kernel StartError) (before after : Outside)
    : Type 0 where
  -- with the images that were in the first drives
  pub stands : (images : List (List ℕ)) → HaveImages config.images images before.drives
      → IfOk result (IsStarted config file images after)
  pub accepted : OnOk result (AcceptsBootFile config file)
  pub refused : IfErr result (StartIsRefused config file)
  pub drives : StartsDrives config.images (drive_fault result) before.drives after.drives
  -- no slice was begun
  pub count : IfOk result (λ kernel. ticks kernel ≡ 0)
