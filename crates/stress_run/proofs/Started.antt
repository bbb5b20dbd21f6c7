-- An accepted boot file starts a machine.
use Rattle.std.proofs.Common.{◌≡◌, ℕ, List, refl, ap, ◌∙◌, arith}
use Rattle.proc_model.specs.Processes.{Processes}
use Rattle.proc_model.specs.MemoryChanges.{started}
use Rattle.proc_model.specs.Program.{area_pages, blocks_of_pages}
use Rattle.machine_model.specs.declared.ends.BootFault.{BootFault}
use Rattle.machine_model.specs.ProcessStart.{RefusesBoot, StartsProcesses, boot_memory, first_process, first_start, only_process}
use Rattle.machine_model.proofs.StartLaws.{never-both}
use Rattle.guest_mods.specs.Accepted.{IsBootableFile}

module _ (file : List ℕ) (blocks : ℕ) (accepted : IsBootableFile file blocks) where
  -- the data area of the first process takes one block
  one-block : blocks_of_pages (area_pages accepted.entry 0 0) ≡ 1
  one-block = let few = accepted.storage in omega arith

  pub starts-accepted : (m : Processes) × StartsProcesses file blocks m
  starts-accepted = (
    only_process accepted.memory (first_start accepted.number accepted.entry),
    record {
      entries = accepted.entries;
      number = accepted.number;
      entry = accepted.entry;
      memory = accepted.memory;
      has = record { short = accepted.short; entered = accepted.entered; found_it = accepted.found; is = accepted.is };
      begins = ap (λ count. started (boot_memory file blocks accepted.entries) first_process.0 accepted.number count) one-block ∙ accepted.begins;
      is = refl;
    },
  )

  pub never-refused-accepted : (fault : BootFault) → RefusesBoot file blocks fault → ⊥
  never-refused-accepted fault refusal =
      never-both file blocks starts-accepted.0 fault starts-accepted.1 refusal
