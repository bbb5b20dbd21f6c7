-- A run of a machine from its start.
use Rattle.std.specs.Prelude.{◌≡◌, ◌≢◌, ◌⊎◌, ◌<◌, ◌≤◌, ⊤, ℕ, Bool, true, false, Option, List, [], length, All}
use Rattle.std.specs.Option.{option_map_or}
use Rattle.os9_base.specs.declared.limits.TheConstants.{LAST_TICK}
use Rattle.os9_base.specs.declared.registers.TimePacket.{TimePacket}
use Rattle.os9_outer.specs.Stream.{stream_with}
use Rattle.time_rules.specs.CivilTime.{is_time_packet}
use Rattle.file_drives.specs.Drives.{drive_states, media_of}
use Rattle.file_rules.specs.Files.{KeepsDriveFaults, OneFailed}
use Rattle.cold_start.specs.Start.{HaveImages, HaveVolumes}
use Rattle.boot_run.specs.Loaded.{AreUnloaded, loaded}
use Rattle.lock_model.specs.Records.{Records}
use Rattle.lock_model.specs.declared.history.Entry.{Entry}
use Rattle.machine_model.specs.ProcessStart.{RefusesBoot}
use Rattle.machine_model.specs.declared.ends.BootFault.{BootFault}
use Rattle.script_text.specs.declared.script.ScriptKey.{ScriptKey}
use Rattle.machine_model.specs.Run.{Run}
use Rattle.machine_model.specs.Start.{Boot, Starts}
use Rattle.machine_model.specs.State.{State, has_living}
use Rattle.os9_kernel.specs.Changes.{KeepsImages}
use Rattle.os9_kernel.specs.Outside.{Outside}
use Rattle.os9_kernel.specs.Volumes.{HoldsVolumes}
use Rattle.os9_kernel.specs.declared.new.Config.{Config}
use Rattle.boot_run.specs.Console.{IsObserved}
use Rattle.boot_run.specs.Slices.{ComesInto, RunsPartly}
use Rattle.boot_run.specs.World.{World, HasNoFault, FailsToWrite}
use Rattle.boot_run.specs.declared.imaged.Start.{Start}
use Rattle.boot_run.specs.declared.machine.RunEnd.{RunEnd}
use Rattle.boot_run.specs.declared.machine.RunEnd.TheVariants.{Ended, Living, Refused, DriveFailed, OutputFailed, NoMemory}

-- what a machine is started with in addition to its devices, and what drives its run
pub record Setup : Type 0 where
  pub file : List ℕ  -- the boot file
  pub blocks : ℕ  -- of its memory
  pub time : TimePacket
  pub images : List (List ℕ)  -- those in the first drives
  pub keys : List ScriptKey
  pub slices : List ℕ

-- the same with this configuration
abbrev pub setup_with : Config → List ℕ → List (List ℕ) → List ScriptKey → List ℕ → Setup
setup_with config file images keys slices = record {
  file = file;
  blocks = config.blocks;
  time = config.time;
  images = images;
  keys = keys;
  slices = slices;
}

-- the configuration of a machine that is started so, with this number of images
abbrev pub config_of : Start → ℕ → Config
config_of start images = record { blocks = start.blocks; images = images; time = start.time }

-- its setup with these images
abbrev pub setup_of : Start → List (List ℕ) → Setup
setup_of start images = record {
  file = start.file.items;
  blocks = start.blocks;
  time = start.time;
  images = images;
  keys = start.keys.items;
  slices = start.slices.items;
}

-- what a machine needs to run: a valid number of blocks, a date and time, fewer slices than ticks are counted, one to
-- four terminals without keys, and at most four drives, of which the first hold volumes
pub record CanRun (config : Config) (slices : List ℕ) (devices : Outside) : Type 0 where
  pub least : 8 ≤ config.blocks
  pub most : config.blocks ≤ 256
  pub time : is_time_packet config.time ≡ true
  pub few : length slices < LAST_TICK
  pub terminals : AreUnloaded devices.terms
  pub enough : config.images ≤ length devices.drives
  pub few_drives : length devices.drives ≤ 4
  pub volumes : HaveVolumes config.images devices.drives

-- what a machine is started with: the drives as they are, and each terminal loaded with its keys
abbrev pub boot_of : Setup → World → Boot
boot_of setup before = record {
  file = setup.file;
  blocks = setup.blocks;
  time = setup.time;
  images = setup.images;
  drives = drive_states before.devices.drives;
  terms = loaded setup.keys before.devices.terms;
}

-- the machine starts in this state
abbrev pub StartsLoaded : Setup → World → State → Type 0
StartsLoaded setup before s = Starts (boot_of setup before) s

-- the machine was run over its slices to this state: the output gained what it wrote, the terminals are those at its
-- end, the drives hold its volumes, and the images that no event asked to change are unchanged
pub record RunsTo (setup : Setup) (s t : State) (before after : World) : Type 0 where
  pub states : List State
  pub written : List ℕ
  pub run : Run setup.slices s states written t
  pub output : after.out ≡ stream_with before.out written
  pub terminals : after.devices.terms ≡ t.terms
  pub drives : HoldsVolumes t after.devices.drives
  pub images : KeepsImages (ComesInto setup.slices s) states before.devices.drives after.devices.drives

-- the history in the record locks that a run leaves; empty if it leaves none
abbrev pub history_left : Option Records → List Entry
history_left left = option_map_or (λ records. records.history) left []

-- the machine was started and run to its end: a process lives then or none does, `begun` slices were begun, each of
-- which is a tick, and this is the history of its record locks
pub record RunsWhole (setup : Setup) (lives : Bool) (begun : ℕ) (history : List Entry) (before after : World) : Type 0
  where
    pub s : State
    pub t : State
    pub starts : StartsLoaded setup before s
    pub runs : RunsTo setup s t before after
    pub living : has_living t ≡ lives
    pub ticks : begun ≡ t.processes.tick
    pub recorded : history ≡ t.files.records.history

-- the machine was started and run over the first of its slices
pub record RunsFirst (setup : Setup) (before after : World) : Type 0 where
  pub s : State
  pub starts : StartsLoaded setup before s
  pub partly : RunsPartly setup.slices s before after

-- nothing was run: the output, the terminals and the media are unchanged, and no drive has failed
pub record IsUnrun (before after : World) : Type 0 where
  pub out : after.out ≡ before.out
  pub terminals : after.devices.terms ≡ before.devices.terms
  pub none_failed : KeepsDriveFaults (drive_states before.devices.drives) (drive_states after.devices.drives)
  pub media_kept : media_of after.devices.drives ≡ media_of before.devices.drives

-- the outcome of a machine, by how its run ended, if the bytes of all terminals are observed
abbrev pub MachineOutcome : Setup → List Entry → World → World → RunEnd → Type 0
MachineOutcome setup history before after (Ended begun) = RunsWhole setup false begun history before after
MachineOutcome setup history before after (Living begun) = RunsWhole setup true begun history before after
MachineOutcome setup history before after OutputFailed = RunsFirst setup before after
MachineOutcome setup history before after NoMemory = IsUnrun before after ⊎ RunsFirst setup before after
MachineOutcome setup history before after end = ⊤

-- what the end says of the boot file, observed or not: it has this fault; or none, if a drive failed
abbrev pub Judges : Setup → RunEnd → Type 0
Judges setup (Refused fault) = RefusesBoot setup.file setup.blocks fault
Judges setup (DriveFailed drive number) = (fault : BootFault) → ¬ RefusesBoot setup.file setup.blocks fault
Judges setup end = ⊤

-- A drive that held one of `images` images failed, and no other one; the media, the terminals and the output are
-- unchanged, so nothing of a run can be seen.
pub record FailsToMount (images drive number : ℕ) (before after : World) : Type 0 where
  pub among : drive < images
  pub failed : OneFailed drive number (drive_states before.devices.drives) (drive_states after.devices.drives)
  pub media_kept : media_of after.devices.drives ≡ media_of before.devices.drives
  pub terms_kept : after.devices.terms ≡ before.devices.terms
  pub out_kept : after.out ≡ before.out

-- what is left of the devices and the output if no machine runs that was set up with this number of images, observed or
-- not
abbrev pub LeavesUnrun : ℕ → World → World → RunEnd → Type 0
LeavesUnrun images before after (Refused fault) = after ≡ before
LeavesUnrun images before after (DriveFailed drive number) = FailsToMount images drive number before after
LeavesUnrun images before after end = ⊤

-- a machine was started, its run ended with `end`, and this history was handed out
pub record MachineCall (setup : Setup) (history : List Entry) (before after : World) (end : RunEnd) : Type 0 where
  pub comes : All IsObserved before.devices.terms → MachineOutcome setup history before after end
  pub judged : Judges setup end
  pub unrun : LeavesUnrun (length setup.images) before after end
  -- the host failed, and last at a write to the output; at every other end it did not fail
  pub output_fault : end ≡ OutputFailed → FailsToWrite before after
  pub no_fault : end ≢ OutputFailed → HasNoFault before after
  pub files_kept : after.files ≡ before.files

-- the same with the images that were in the first drives
abbrev pub MachineRuns : Start → ℕ → RunEnd → List Entry → World → World → Type 0
MachineRuns start count end history before after =
    (images : List (List ℕ)) → HaveImages count images before.devices.drives
    → MachineCall (setup_of start images) history before after end
