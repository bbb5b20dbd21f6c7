-- The devices of a machine, as the contracts of the kernel use them.
use Rattle.std.specs.Prelude.{List}
use Rattle.std.specs.declared.alloc.Global.{Global}
use Rattle.std.specs.declared.dyn_box.DynBox.{DynBox}
use Rattle.os9_outer.specs.TerminalState.{TerminalState}
use Rattle.os9_outer.specs.declared.drive.BlockDriver.{Ghosts as DriveGhosts}
use Rattle.os9_outer.specs.declared.terminal.CharDriver.{Ghosts as TerminalGhosts}
use Rattle.device_table.specs.Seen.{terminals_seen}
use Rattle.device_table.specs.declared.devices.DeviceTable.{DeviceTable}
use Rattle.file_drives.specs.Drives.{DriveView, drives_seen}

pub record Outside : Type 0 where
  pub drives : List DriveView  -- D0, D1, D2, D3
  pub terms : List TerminalState  -- TERM, T1, T2, T3

-- the drives and terminals of a table, as `outside BlockDriver-box CharDriver-box devices.old`
abbrev pub outside : {Disk Line : Type 0} {Drive : Disk → Type 0} {Terminal : Line → Type 0}
    → ((drive : DynBox Disk Global Drive) → DriveGhosts (Drive drive.vtable))
    → ((terminal : DynBox Line Global Terminal) → TerminalGhosts (Terminal terminal.vtable))
    → DeviceTable (DynBox Disk Global Drive) (DynBox Line Global Terminal) → Outside
outside of_drives of_terms devices =
    record { drives = drives_seen of_drives devices; terms = terminals_seen of_terms devices }

-- what holds between the devices before a call and after it, as
-- `OnDevices (λ before after. KernelEvent self.old self.new before after result) BlockDriver-box CharDriver-box
-- devices.old devices.new`
abbrev pub OnDevices : {Disk Line : Type 0} {Drive : Disk → Type 0} {Terminal : Line → Type 0}
    → (Outside → Outside → Type 0)
    → ((drive : DynBox Disk Global Drive) → DriveGhosts (Drive drive.vtable))
    → ((terminal : DynBox Line Global Terminal) → TerminalGhosts (Terminal terminal.vtable))
    → DeviceTable (DynBox Disk Global Drive) (DynBox Line Global Terminal)
    → DeviceTable (DynBox Disk Global Drive) (DynBox Line Global Terminal) → Type 0
OnDevices fact of_drives of_terms devices devices_after =
    fact (outside of_drives of_terms devices) (outside of_drives of_terms devices_after)
