-- The boot file of a load is accepted.
use Rattle.std.proofs.Common.{◌≡◌, ℕ, ◌+◌, ◌*◌, ◌≤◌, true, Option, Ok, List, [], ◌∷◌, length, map, refl, sym, ap, ◌∙◌, subst, arith, length-append}
use Rattle.std.specs.Prelude.{All, codes}
use Rattle.std.specs.List.{list_all, range_with_len}
use Rattle.std.proofs.lemmas.Bool.{and_parts}
use Rattle.std.proofs.lemmas.List.{append-nil, drop_at}
use Rattle.std.proofs.lemmas.List.Elements.{All-nil, All-cons}
use Rattle.os9_base.specs.Name.{IsName, is_stored_character}
use Rattle.proc_model.specs.Loading.{EntersModules, at_end, entered, no_entries, with_module}
use Rattle.proc_model.specs.Memory.{MemoryState, first_memory}
use Rattle.proc_model.specs.MemoryChanges.{started, with_first_slots}
use Rattle.proc_model.specs.Module.{IsModule, step_from}
use Rattle.proc_model.specs.ModuleList.{ModuleEntry, new_entry}
use Rattle.proc_model.specs.Objects.{file_block, file_blocks}
use Rattle.proc_model.specs.declared.module.ModuleInfo.{ModuleInfo}
use Rattle.proc_model.specs.declared.module.ModuleStep.TheVariants.{Module}
use Rattle.guest_mods.specs.declared.load.Load.{Load}
use Rattle.module_format.specs.GuestModule.{guest_info}
use Rattle.guest_mods.specs.Stress.{IsLoad, sysgo_code, worker_code, sysgo_module, worker_module, stress_file}
use Rattle.guest_mods.specs.Accepted.{IsBootableFile}
use Rattle.module_format.proofs.ModuleLemmas.{guest_module-is, guest_info-is, length-guest_module}
use Rattle.guest_mods.proofs.BehindLemmas.{step-module, step-end}
use Rattle.guest_mods.proofs.StressLemmas.{length-sysgo_code, length-worker_code, few-lengths}

-- ---- the names
stored-all : (name : List ℕ) → list_all is_stored_character name ≡ true → All (λ c. is_stored_character c ≡ true) name
stored-all [] h = All-nil (λ c. is_stored_character c ≡ true)
stored-all (c ∷ name) h =
    let parts = and_parts (is_stored_character c) (list_all is_stored_character name) h in
    All-cons (λ c. is_stored_character c ≡ true) c name parts.0 (stored-all name parts.1)

sysgo-name : IsName (codes "SysGo")
sysgo-name = record { not_empty = omega arith; short = omega arith; characters = stored-all (codes "SysGo") refl }

worker-name : IsName (codes "Worker")
worker-name = record { not_empty = omega arith; short = omega arith; characters = stored-all (codes "Worker") refl }

module _ (load : Load) (is : IsLoad load) where
  abbrev sysgo : List ℕ
  sysgo = sysgo_module load.workers

  abbrev worker : List ℕ
  worker = worker_module load

  abbrev file : List ℕ
  file = stress_file load

  sysgo-long : length sysgo ≡ 80
  sysgo-long = length-guest_module (codes "SysGo") 0x11 0x81 200 (sysgo_code load.workers) ∙ omega (arith, length-sysgo_code load.workers)

  worker-long : length worker ≡ 206 + load.workers * load.records
  worker-long = length-guest_module (codes "Worker") 0x11 0x81 200 (worker_code load) ∙ omega (arith, length-worker_code load)

  pub length-stress_file : length file ≡ 286 + load.workers * load.records
  length-stress_file = length-append sysgo worker ∙ omega (arith, sysgo-long, worker-long)

  pub short-stress_file : length file ≤ 1086
  short-stress_file = omega (arith, length-stress_file, few-lengths load is)

  pub sysgo-module : IsModule sysgo
  sysgo-module =
      guest_module-is (codes "SysGo") 0x11 0x81 200 (sysgo_code load.workers) sysgo-name (omega (arith, length-sysgo_code load.workers))
      (omega (arith, length-sysgo_code load.workers)) (omega arith) (omega arith)

  pub worker-module : IsModule worker
  worker-module =
      guest_module-is (codes "Worker") 0x11 0x81 200 (worker_code load) worker-name (omega (arith, length-worker_code load))
      (omega (arith, length-worker_code load, few-lengths load is)) (omega arith) (omega arith)

  -- ---- the steps
  abbrev sysgo_info : ModuleInfo
  sysgo_info = guest_info (codes "SysGo") 0x11 0x81 200 (sysgo_code load.workers)

  abbrev worker_info : ModuleInfo
  worker_info = record (guest_info (codes "Worker") 0x11 0x81 200 (worker_code load)) { at = length sysgo }

  first-step : step_from file 0 ≡ Module sysgo_info
  first-step =
      step-module file sysgo worker 0 sysgo-module refl (λ same. omega arith) (omega (arith, length-stress_file))
      ∙ ap Module (guest_info-is (codes "SysGo") 0x11 0x81 200 (sysgo_code load.workers) sysgo-name)

  second-step : step_from file (length sysgo) ≡ Module worker_info
  second-step =
      step-module file worker [] (length sysgo) worker-module (drop_at sysgo worker (length sysgo) refl ∙ sym (append-nil worker)) (λ same. omega arith)
      (omega (arith, length-append sysgo worker, worker-long))
      ∙ ap (λ (info : ModuleInfo). Module (record info { at = length sysgo })) (guest_info-is (codes "Worker") 0x11 0x81 200 (worker_code load) worker-name)

  abbrev entries : List ℕ → List (Option ModuleEntry)
  entries group = with_module (with_module no_entries sysgo_info group true) worker_info group true

  enters : (group : List ℕ) → EntersModules file group true 0 no_entries (Ok (entries group))
  enters group =
      let from-worker : length sysgo ≡ sysgo_info.at + sysgo_info.size = omega (arith, sysgo-long, length-sysgo_code load.workers) in
      let from-end : length file ≡ worker_info.at + worker_info.size = omega (arith, length-append sysgo worker, worker-long, length-worker_code load) in
      entered {info = sysgo_info} first-step refl
      (subst (λ from. EntersModules file group true from (with_module no_entries sysgo_info group true) (Ok (entries group))) from-worker
      (entered {info = worker_info} second-step refl
      (subst (λ from. EntersModules file group true from (entries group) (Ok (entries group))) from-end (at_end (step-end file)))))

  -- ---- the start
  abbrev memory : ℕ → MemoryState
  memory blocks = record (first_memory 64) { objects = map (file_block file) (range_with_len 0 blocks); modules = entries (range_with_len 0 blocks) }

  begins : (m : MemoryState) × (started (memory (file_blocks file)) 2 0 1 ≡ Ok m)
  begins =
      let one : file_blocks file ≡ 1 = omega (arith, length-stress_file, few-lengths load is) in
      subst (λ n. (m : MemoryState) × (started (memory n) 2 0 1 ≡ Ok m)) (sym one) (with_first_slots (memory 1) 2 (range_with_len 0 1) 1, refl)

  pub accepted : IsBootableFile file 64
  accepted = record {
    entries = entries (range_with_len 0 (file_blocks file));
    number = 0;
    entry = new_entry sysgo_info (range_with_len 0 (file_blocks file)) true;
    memory = begins.0;
    short = omega (arith, short-stress_file);
    entered = enters (range_with_len 0 (file_blocks file));
    found = refl;
    is = refl;
    storage = omega arith;
    begins = begins.1;
  }
