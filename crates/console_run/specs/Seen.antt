-- What a call of a session leaves of the devices and of the world around it.
use Rattle.std.specs.Prelude.{◌≡◌}
use Rattle.std.specs.Vec.{vec_len}
use Rattle.std.specs.declared.alloc.Global.{Global}
use Rattle.std.specs.declared.dyn_box.DynBox.{DynBox}
use Rattle.os9_outer.specs.declared.drive.BlockDriver.{Ghosts as DriveGhosts}
use Rattle.os9_outer.specs.declared.host.Host.{Ghosts}
use Rattle.os9_outer.specs.declared.terminal.CharDriver.{Ghosts as TerminalGhosts}
use Rattle.device_table.specs.declared.devices.DeviceTable.{DeviceTable}
use Rattle.os9_words.specs.Notes.{Notes, notes_of}
use Rattle.boot_run.specs.World.{OnWorld, World}

-- there are as many terminals and drives as before
pub record KeepsDeviceCounts {Drive Terminal : Type 0} (before after : DeviceTable Drive Terminal) : Type 0 where
  pub terms : vec_len after.terms ≡ vec_len before.terms
  pub drives : vec_len after.drives ≡ vec_len before.drives

-- what holds between the worlds before a call and after it, and between what the host noted before and after
abbrev pub OnNotedCall : {Host Disk Line : Type 0} {Drive : Disk → Type 0} {Terminal : Line → Type 0}
    → (World → World → Notes → Notes → Type 0) → Ghosts Host → Host → Host
    → ((drive : DynBox Disk Global Drive) → DriveGhosts (Drive drive.vtable))
    → ((terminal : DynBox Line Global Terminal) → TerminalGhosts (Terminal terminal.vtable))
    → DeviceTable (DynBox Disk Global Drive) (DynBox Line Global Terminal)
    → DeviceTable (DynBox Disk Global Drive) (DynBox Line Global Terminal) → Type 0
OnNotedCall fact members host host_after of_drives of_terms devices devices_after =
    OnWorld (λ before after. fact before after (notes_of members host) (notes_of members host_after)) members host
    host_after of_drives of_terms devices devices_after
