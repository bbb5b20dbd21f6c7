-- What can be observed of the terminals of a machine, by the members that their drivers have.
use Rattle.std.specs.Prelude.{List, map}
use Rattle.std.specs.declared.alloc.Global.{Global}
use Rattle.std.specs.declared.dyn_box.DynBox.{DynBox}
use Rattle.os9_outer.specs.TerminalState.{TerminalState, terminal_state}
use Rattle.os9_outer.specs.declared.terminal.CharDriver.{Ghosts}
use Rattle.device_table.specs.declared.devices.DeviceTable.{DeviceTable}

-- the state of the terminal in a box, as `boxed_terminal_state CharDriver-box driver.now`
abbrev pub boxed_terminal_state : {Table : Type 0} {Driver : Table → Type 0}
    → ((terminal : DynBox Table Global Driver) → Ghosts (Driver terminal.vtable)) → DynBox Table Global Driver
    → TerminalState
boxed_terminal_state members terminal = terminal_state (members terminal) terminal.value

-- the state of each terminal of a list, as `terminal_states CharDriver-box terms.now.items`
abbrev pub terminal_states : {Table : Type 0} {Driver : Table → Type 0}
    → ((terminal : DynBox Table Global Driver) → Ghosts (Driver terminal.vtable)) → List (DynBox Table Global Driver)
    → List TerminalState
terminal_states members terminals = map (boxed_terminal_state members) terminals

-- the state of each terminal of a table, as `terminals_seen CharDriver-box devices.now`
abbrev pub terminals_seen : {Table : Type 0} {Driver : Table → Type 0} {Drives : Type 0}
    → ((terminal : DynBox Table Global Driver) → Ghosts (Driver terminal.vtable))
    → DeviceTable Drives (DynBox Table Global Driver) → List TerminalState
terminals_seen members devices = terminal_states members devices.terms.items
