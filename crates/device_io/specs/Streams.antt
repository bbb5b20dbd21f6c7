-- The terminals, pipes and paths of a machine, as the contracts of the calls on them speak of them.
use Rattle.std.specs.Prelude.{List}
use Rattle.std.specs.declared.alloc.Global.{Global}
use Rattle.std.specs.declared.dyn_box.DynBox.{DynBox}
use Rattle.os9_outer.specs.TerminalState.{TerminalState}
use Rattle.os9_outer.specs.declared.terminal.CharDriver.{Ghosts}
use Rattle.device_table.specs.Seen.{terminals_seen}
use Rattle.device_table.specs.declared.devices.DeviceTable.{DeviceTable}
use Rattle.io_model.specs.Io.{Io}

pub record Streams : Type 0 where
  pub io : Io  -- the kernel's paths, pipes and terminals, and the pending calls
  pub terms : List TerminalState  -- TERM, T1, T2, T3

-- with the terminals of a table, as `streams CharDriver-box io.old devices.old`
abbrev pub streams : {Table : Type 0} {Driver : Table → Type 0} {Drives : Type 0}
    → ((terminal : DynBox Table Global Driver) → Ghosts (Driver terminal.vtable)) → Io
    → DeviceTable Drives (DynBox Table Global Driver) → Streams
streams members io devices = record { io = io; terms = terminals_seen members devices }
