-- The world around a run of a machine, as far as it can be observed: the host and the devices.
use Rattle.std.specs.Prelude.{◌≡◌, ℕ, true, false, Bool, Some, None, Option, List}
use Rattle.std.specs.declared.alloc.Global.{Global}
use Rattle.std.specs.declared.dyn_box.DynBox.{DynBox}
use Rattle.os9_base.specs.Count.{Rose}
use Rattle.os9_outer.specs.Host.{HostFiles}
use Rattle.os9_outer.specs.declared.drive.BlockDriver.{Ghosts as DriveGhosts}
use Rattle.os9_outer.specs.declared.host.Host.{Ghosts}
use Rattle.os9_outer.specs.declared.terminal.CharDriver.{Ghosts as TerminalGhosts}
use Rattle.device_table.specs.declared.devices.DeviceTable.{DeviceTable}
use Rattle.os9_kernel.specs.Outside.{OnDevices, Outside}

pub record World : Type 0 where
  pub files : Option HostFiles  -- what the files hold
  pub out : Option (List ℕ)  -- the bytes of the output stream
  pub faults : ℕ  -- how often a file or the output stream failed
  pub failed_name : Option (List ℕ)  -- the file of the last failure, none if the output stream failed
  pub failed_in_read : Bool  -- the last failure was that of a read
  pub devices : Outside  -- the drives and the terminals

-- the world of a host and of these devices, as `world_of H.Host host.now (outside ..)`
abbrev pub world_of : {Host : Type 0} → Ghosts Host → Host → Outside → World
world_of members host devices = record {
  files = members.file_map host;
  out = members.bytes_out host;
  faults = members.host_faults host;
  failed_name = members.failed_name host;
  failed_in_read = members.failed_in_read host;
  devices = devices;
}

-- what holds between the worlds before a call and after it, of a host and of the devices, as
-- `OnWorld (PassesBytes result) H.Host host.old host.new BlockDriver-box CharDriver-box devices.old devices.new`
abbrev pub OnWorld : {Host Disk Line : Type 0} {Drive : Disk → Type 0} {Terminal : Line → Type 0}
    → (World → World → Type 0) → Ghosts Host → Host → Host
    → ((drive : DynBox Disk Global Drive) → DriveGhosts (Drive drive.vtable))
    → ((terminal : DynBox Line Global Terminal) → TerminalGhosts (Terminal terminal.vtable))
    → DeviceTable (DynBox Disk Global Drive) (DynBox Line Global Terminal)
    → DeviceTable (DynBox Disk Global Drive) (DynBox Line Global Terminal) → Type 0
OnWorld fact members host host_after of_drives of_terms devices devices_after =
    OnDevices (λ before after. fact (world_of members host before) (world_of members host_after after))
    of_drives of_terms devices devices_after

-- the host did not fail
abbrev pub HasNoFault : World → World → Type 0
HasNoFault before after =
    (after.faults ≡ before.faults) × (after.failed_name ≡ before.failed_name)
    × (after.failed_in_read ≡ before.failed_in_read)

-- the host failed, and last at a write to the output stream
abbrev pub FailsToWrite : World → World → Type 0
FailsToWrite before after =
    Rose before.faults after.faults × (after.failed_name ≡ None) × (after.failed_in_read ≡ false)

-- the host failed, and last at the read of the file of this name
abbrev pub FailsToReadFile : List ℕ → World → World → Type 0
FailsToReadFile name before after =
    Rose before.faults after.faults × (after.failed_name ≡ Some name) × (after.failed_in_read ≡ true)

-- the host failed, and last at the write of the file of this name
abbrev pub FailsToWriteFile : List ℕ → World → World → Type 0
FailsToWriteFile name before after =
    Rose before.faults after.faults × (after.failed_name ≡ Some name) × (after.failed_in_read ≡ false)
