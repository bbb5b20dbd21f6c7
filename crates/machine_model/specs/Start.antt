-- The state in which a machine starts with disk images in its drives (Level Two manual, "Booting"; the first process is
-- this project's own).
use Rattle.std.specs.Prelude.{◌≡◌, ℕ, Option, None, Ok, List}
use Rattle.os9_base.specs.declared.registers.TimePacket.{TimePacket}
use Rattle.os9_outer.specs.TerminalState.{TerminalState}
use Rattle.proc_model.specs.Memory.{MemoryState}
use Rattle.proc_model.specs.ModuleList.{ModuleEntry}
use Rattle.file_rules.specs.Files.{Files, DriveState}
use Rattle.file_rules.specs.Processes.{StartsWithImages}
use Rattle.machine_model.specs.ProcessStart.{HasFirstProgram, first_start, first_started, only_process}
use Rattle.time_rules.specs.Clock.{first_clock}
use Rattle.machine_model.specs.State.{State}

-- what a machine starts with
pub record Boot : Type 0 where
  pub file : List ℕ  -- the boot file
  pub blocks : ℕ  -- of its memory
  pub time : TimePacket
  pub images : List (List ℕ)  -- those in the first drives
  pub drives : List DriveState  -- D0, D1, D2, D3, when the images are mounted
  pub terms : List TerminalState  -- TERM, T1, T2, T3

-- a machine starts in this state
pub record Starts (boot : Boot) (s : State) : Type 0 where
  pub entries : List (Option ModuleEntry)
  pub number : ℕ
  pub entry : ModuleEntry
  pub memory : MemoryState
  pub has : HasFirstProgram boot.file entries number entry
  pub begins : first_started boot.file boot.blocks entries number entry ≡ Ok memory
  pub files : Files
  pub mounted : StartsWithImages boot.images boot.drives files
  pub is : s
      ≡ record {
        processes = only_process memory (first_start number entry);
        files = files;
        clock = first_clock boot.time;
        chosen = None;
        terms = boot.terms;
      }
