-- The target of a path list (Level Two manual, device descriptors; System Programmer's Manual, I$Open).
-- Errors, in this order: E$BPNam, E$MNF, E$PNNF.
use Rattle.std.specs.Prelude.{ℕ, ◌==◌, Bool, false, Option, Some, None, List, length, if◌then◌else◌}
use Rattle.os9_base.specs.declared.errors.TheConstants.{E_BPNAM, E_MNF, E_PNNF}
use Rattle.device_table.specs.Names.{device_of}
use Rattle.device_table.specs.declared.devices.Dev.{Dev}
use Rattle.device_table.specs.declared.devices.Dev.TheVariants.{Drive, Term, Pipe}
use Rattle.io_model.specs.PathList.{PathList, has_slash_behind_device, ends_in_dots}

-- where a path list leads
pub data Lead : Type 0 where
  -- to this terminal
  to_terminal : ℕ → Lead
  -- to a pipe that is not made yet
  to_pipe : Lead
  -- to no target: the call is refused with this number
  nowhere : ℕ → Lead

-- what a call looks for: what exists, or a place for what it makes
pub data Search : Type 0 where
  what_is_there : Search
  a_new_place : Search

-- no slash may follow a terminal or a pipe
abbrev pub unless_slash : PathList → Lead → Lead
unless_slash list lead = if has_slash_behind_device list then nowhere E_BPNAM else lead

-- a list that starts at a drive: no drive is mounted, but nothing is made at a root
abbrev pub on_drive : Search → PathList → Lead
on_drive what_is_there list = nowhere E_MNF
on_drive a_new_place list = nowhere (if length list.names == 0 then E_BPNAM else E_MNF)

-- the target of a list that starts at a device
abbrev pub on_device : Search → PathList → Option Dev → Lead
on_device search list None = nowhere E_MNF
on_device search list (Some (Drive drive)) = on_drive search list
on_device search list (Some (Term terminal)) = unless_slash list (to_terminal terminal)
on_device search list (Some Pipe) = unless_slash list to_pipe

-- the call would make something with the name of a directory itself or of its parent
abbrev pub makes_dots : Search → PathList → Bool
makes_dots what_is_there list = false
makes_dots a_new_place list = ends_in_dots list

-- the target of a path list with `drives` drives and `terms` terminals; no process has a directory
abbrev pub lead_by_device : Search → ℕ → ℕ → PathList → Option (List ℕ) → Lead
lead_by_device search drives terms list None = nowhere E_PNNF
lead_by_device search drives terms list (Some device) = on_device search list (device_of drives terms device)

abbrev pub lead_of : Search → ℕ → ℕ → PathList → Lead
lead_of search drives terms list =
    if makes_dots search list then nowhere E_BPNAM else lead_by_device search drives terms list list.device
