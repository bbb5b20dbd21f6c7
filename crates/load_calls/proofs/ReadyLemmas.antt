-- A file that was read and tried, and can be loaded.
use Rattle.std.proofs.Common.{◌≡◌, ◌∙◌, ◌≤◌, ℕ, false, Ok, List, length, ap, sym, subst, arith}
use Rattle.proc_model.proofs.LoadingLemmas.{LiesIn-step}
use Rattle.proc_model.specs.declared.module.ModuleInfo.{ModuleInfo}
use Rattle.proc_model.specs.declared.module.ModuleStep.TheVariants.{Module}
use Rattle.proc_model.specs.Memory.{MemoryState}
use Rattle.proc_model.specs.MemoryChanges.{new_numbers}
use Rattle.proc_model.specs.Module.{step_from}
use Rattle.proc_model.specs.ModuleList.{new_entry}
use Rattle.proc_model.specs.Objects.{block_count, file_blocks}
use Rattle.file_rules.specs.Load.{Loaded, Loads}
use Rattle.load_calls.proofs.OutcomeLemmas.{IsLoaded, loads-ok, loads-one, tried-ok}
use Rattle.load_calls.specs.Entering.{TriesFile}

-- a file of so many bytes that was tried, and whose first module this is
pub record IsReady (m : MemoryState) (file : List ℕ) (size : ℕ) (first : ModuleInfo) : Type 0 where
  pub loaded : Loaded
  pub loads : Loads m file (Ok loaded)
  pub it : IsLoaded m file loaded
  pub first_is : loaded.first.entry ≡ new_entry first (new_numbers m (file_blocks file)) false
  pub blocks_are : block_count size ≡ file_blocks file
  pub some : 1 ≤ file_blocks file

module _ (m : MemoryState) (file front : List ℕ) (size : ℕ) (first : ModuleInfo) (size_is : size ≡ length file) (bytes_are : front ≡ file) where
  ready-so : TriesFile file m (Ok first) → step_from file 0 ≡ Module first → IsReady m file size first
  ready-so tried step =
      let made = tried-ok m file first tried in
      let lies = LiesIn-step file 0 first step in record {
        loaded = made.loaded;
        loads = made.loads;
        it = loads-ok m file made.loaded made.loads;
        first_is = made.first_is;
        blocks_are = ap block_count size_is;
        some = omega (arith, lies.sized, lies.in_file);
      }

  pub ready : TriesFile front m (Ok first) → step_from front 0 ≡ Module first → IsReady m file size first
  ready tried step = ready-so (subst (λ (bytes : List ℕ). TriesFile bytes m (Ok first)) bytes_are tried) (subst (λ (bytes : List ℕ). step_from bytes 0 ≡ Module first) bytes_are step)

-- the first module of what it comes to is this one
pub ready-first : (m : MemoryState) (file : List ℕ) (size : ℕ) (first : ModuleInfo) → IsReady m file size first
    → (loaded : Loaded) → Loads m file (Ok loaded) → loaded.first.entry ≡ new_entry first
    (new_numbers m (file_blocks file)) false
ready-first m file size first at loaded loads =
    let same : at.loaded ≡ loaded = (let one = loads-one m file (Ok at.loaded) (Ok loaded) at.loads loads in cc) in
    ap (λ (l : Loaded). l.first.entry) (sym same) ∙ at.first_is
