-- Which calls of a host, a drive or a terminal for tests are to fail; calls are numbered from 1.
use Rattle.std.specs.Prelude.{ℕ, ◌==◌, nat_le, Bool, Option, Some, None, option_map, find, List, if◌then◌else◌}
use Rattle.std.specs.List.{list_any}
use Rattle.os9_outer.specs.declared.drive.DriveFault.{DriveFault}
use Rattle.os9_outer.specs.declared.ram_drive.Plan.{Plan}
use Rattle.os9_outer.specs.declared.ram_drive.Plan.TheVariants.{Calls, Stop}
use Rattle.os9_outer.specs.declared.ram_drive.PlannedFault.{PlannedFault}
use Rattle.os9_outer.specs.declared.ram_drive.RamDrive.{RamDrive}
use Rattle.os9_outer.specs.declared.script_tty.ScriptTty.{ScriptTty}

-- the call of this number is among those that are to fail
abbrev pub is_planned : List ℕ → ℕ → Bool
is_planned calls call = list_any (λ planned. planned == call) calls

-- the fault of a call, if these calls are to fail
abbrev pub listed_fault : List PlannedFault → ℕ → Option DriveFault
listed_fault faults call = option_map (λ planned. planned.fault) (find (λ planned. planned.call == call) faults)

-- the fault of a call, if this call and every later one are to fail with it
abbrev pub lasting_fault : ℕ → DriveFault → ℕ → Option DriveFault
lasting_fault first fault call = if nat_le first call then Some fault else None

-- the fault of a call by a plan
abbrev pub fault_in : Plan → ℕ → Option DriveFault
fault_in (Calls faults) = listed_fault faults.items
fault_in (Stop first) = lasting_fault first.call first.fault

-- the fault that the read or write of a number is to meet
abbrev pub planned_fault : RamDrive → ℕ → Option DriveFault
planned_fault drive = fault_in drive.plan

-- the numbers of the calls that are to fail
abbrev pub planned_calls : ScriptTty → List ℕ
planned_calls tty = tty.plan.items
