-- The context of a call: what is true of its process before it, and what the call keeps.
use Rattle.std.specs.Prelude.{◌≡◌, vec_len}
use Rattle.device_table.specs.declared.devices.DeviceTable.{DeviceTable}
use Rattle.proc_model.specs.Records.{IsLiving, record_at}
use Rattle.proc_state.specs.declared.state.ProcState.{ProcState}
use Rattle.io_state.specs.declared.requester.Requester.{Requester}

-- the process that requests is alive, and these are its registers
pub record InCall (by : Requester) (processes : ProcState) : Type 0 where
  pub lives : IsLiving processes.table by.p.0
  pub regs : by.regs ≡ (record_at processes.table by.p.0).regs

-- the requester is still alive, and the terminals are as they were
pub record SameTerminals {Drives Terminals : Type 0} (by : Requester) (processes : ProcState)
    (before after : DeviceTable Drives Terminals) : Type 0 where
  pub lives : IsLiving processes.table by.p.0
  pub terms : after.terms ≡ before.terms

-- the requester is still alive, the drives are as they were, and there are as many terminals
pub record SameDrives {Drives Terminal : Type 0} (by : Requester) (processes : ProcState)
    (before after : DeviceTable Drives Terminal) : Type 0 where
  pub lives : IsLiving processes.table by.p.0
  pub drives : after.drives ≡ before.drives
  pub count : vec_len after.terms ≡ vec_len before.terms

-- the requester is still alive, and there are as many terminals
pub record AsManyTerminals {Drives Terminal : Type 0} (by : Requester) (processes : ProcState)
    (before after : DeviceTable Drives Terminal) : Type 0 where
  pub lives : IsLiving processes.table by.p.0
  pub count : vec_len after.terms ≡ vec_len before.terms
