-- What the command `stress` boots (this project's own).
use Rattle.std.specs.Prelude.{ℕ, ◌*◌, ◌<◌, ◌≤◌, List, [], ◌∷◌, ◌++◌, codes}
use Rattle.guest_mods.specs.declared.load.Load.{Load}
use Rattle.guest_mods.specs.declared.load.TheConstants.{MOST_RECORDS}
use Rattle.guest_mods.specs.declared.programs.TheConstants.{STORAGE, SYSGO, WORKER}
use Rattle.module_format.specs.GuestModule.{guest_module}
use Rattle.guest_mods.specs.Random.{draws}

-- a valid load
pub record IsLoad (load : Load) : Type 0 where
  pub seed : load.seed < 2147483648
  pub some_workers : 1 ≤ load.workers
  pub few_workers : load.workers ≤ 4
  pub some_passes : 1 ≤ load.passes
  pub few_passes : load.passes ≤ 40
  pub some_records : 1 ≤ load.records
  pub few_records : load.records ≤ MOST_RECORDS

-- the number of bytes of each record, at most 32: those of the first Worker, then those of the second, and so on
abbrev pub record_lengths : Load → List ℕ
record_lengths load = draws load.seed 32 0 (load.workers * load.records)

-- the code of SysGo, with the number of Workers
unfoldable pub sysgo_code : ℕ → List ℕ
sysgo_code workers = SYSGO ++ workers ∷ []

-- the code of Worker, with the passes, the records of a pass, and their lengths
unfoldable pub worker_code : Load → List ℕ
worker_code load = WORKER ++ load.passes ∷ load.records ∷ record_lengths load

-- a program in 6809 code of revision 1
abbrev pub program_module : List ℕ → List ℕ → List ℕ
program_module name code = guest_module name 0x11 0x81 STORAGE code

abbrev pub sysgo_module : ℕ → List ℕ
sysgo_module workers = program_module (codes "SysGo") (sysgo_code workers)

abbrev pub worker_module : Load → List ℕ
worker_module load = program_module (codes "Worker") (worker_code load)

-- the boot file: both programs
abbrev pub stress_file : Load → List ℕ
stress_file load = sysgo_module load.workers ++ worker_module load
