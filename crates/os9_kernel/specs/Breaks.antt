-- Events that are broken off.
use Rattle.std.specs.Prelude.{◌≡◌, ◌⊎◌, ℕ, Some}
use Rattle.os9_base.specs.declared.registers.TimePacket.{TimePacket}
use Rattle.proc_model.specs.Records.{IsLiving}
use Rattle.proc_model.specs.Ready.{attempts, act_of}
use Rattle.file_rules.specs.Memory.{LacksEntry, LacksMemory}
use Rattle.file_rules.specs.Codes.{path_call_of}
use Rattle.file_rules.specs.Files.{Files}
use Rattle.file_rules.specs.declared.path_call.PathCall.{PathCall}
use Rattle.time_rules.specs.Clock.{IsNow}
use Rattle.machine_model.specs.State.{State}
use Rattle.os9_kernel.specs.Outside.{Outside}
use Rattle.os9_kernel.specs.Volumes.{HoldsVolumes}

-- memory was out for a byte that an attempt puts on a terminal: the terminals are then these, and the drives hold the
-- volumes of the state
pub record BreaksAtByte (call : PathCall) (s : State) (now : TimePacket) (p : ℕ) (after : Outside) : Type 0 where
  pub lacks : LacksMemory call s.processes s.files now p s.terms after.terms
  pub drives : HoldsVolumes s after.drives

-- memory was out for the entry of an attempt in the history: what the attempt does on the devices is done
pub record BreaksAtEntry (call : PathCall) (s : State) (now : TimePacket) (p : ℕ) (after : Outside) : Type 0 where
  pub done : Files
  pub lacks : LacksEntry call s.processes s.files now p done s.terms after.terms
  pub drives : HoldsVolumes (record s { files = done }) after.drives

-- An event that is broken off because memory is out: the chosen process, which lives, attempts a call on a path, and a
-- byte that it puts on a terminal, or its entry in the history, found no memory.
pub record BreaksEvent (s : State) (after : Outside) : Type 0 where
  pub p : ℕ
  pub chosen : s.chosen ≡ Some p
  pub lives : IsLiving s.processes.records p
  pub code : ℕ
  pub act : act_of s.processes p ≡ attempts code
  pub call : PathCall
  pub is_call : path_call_of code ≡ Some call
  pub now : TimePacket
  pub is_now : IsNow s.clock s.processes.tick now
  pub lacks : BreaksAtByte call s now p after ⊎ BreaksAtEntry call s now p after
