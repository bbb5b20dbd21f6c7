-- The context of a call on files: what it sees, and what is true before it.
use Rattle.std.specs.Prelude.{◌≡◌, None, List}
use Rattle.std.specs.declared.alloc.Global.{Global}
use Rattle.std.specs.declared.dyn_box.DynBox.{DynBox}
use Rattle.device_table.specs.declared.devices.DeviceTable.{DeviceTable}
use Rattle.os9_outer.specs.declared.drive.BlockDriver.{Ghosts}
use Rattle.io_model.specs.Io.{pending_at}
use Rattle.io_state.specs.Context.{InCall}
use Rattle.io_state.specs.Sound.{ReadsNoTerminal}
use Rattle.io_state.specs.declared.requester.Requester.{Requester}
use Rattle.file_drives.specs.Drives.{DriveView, drives_seen}
use Rattle.file_state.specs.Attempt.{MachineOnDrives}
use Rattle.file_state.specs.declared.machine.Machine.{Machine}

-- the machine together with these drives
abbrev pub on_drives : Machine → List DriveView → MachineOnDrives
on_drives machine views = record { processes = machine.processes; files = machine.files; views = views }

-- the machine with its drives, as `machine_seen BlockDriver-box machine.old devices.old`
abbrev pub machine_seen : {Disk : Type 0} {Drive : Disk → Type 0} {Terminals : Type 0}
    → ((drive : DynBox Disk Global Drive) → Ghosts (Drive drive.vtable)) → Machine
    → DeviceTable (DynBox Disk Global Drive) Terminals → MachineOnDrives
machine_seen members machine devices = on_drives machine (drives_seen members devices)

-- the requester is alive with its registers, and its call may act on a file: the process has no pending call, or one
-- that is not a read of a terminal
pub record InFileCall (by : Requester) (machine : Machine) : Type 0 where
  pub calls : InCall by machine.processes
  pub no_read : ReadsNoTerminal machine.files.io by.p.0

-- the requester is alive with its registers, and its call is at its first attempt: no call of the process is pending
pub record InFirstAttempt (by : Requester) (machine : Machine) : Type 0 where
  pub calls : InCall by machine.processes
  pub none_pending : pending_at machine.files.io by.p.0 ≡ None
