-- The module that a map has at an address.
use Rattle.std.proofs.Common.{◌≡◌, ℕ, zero, suc, ◌<◌, Bool, true, false, Option, Some, None, List, [], ◌∷◌, length, position, get_or, option_map, refl, sym, ap, ◌∙◌, arith}
use Rattle.std.proofs.lemmas.List.{length-map}
use Rattle.guest_memory.specs.declared.memory.Memory.{Memory}
use Rattle.guest_memory.specs.Tie.{RepresentsMemory}
use Rattle.proc_model.specs.Memory.{MemoryState}
use Rattle.proc_model.specs.ModuleList.{ModuleEntry, module_entry_at, passes}
use Rattle.guest_memory.specs.Renaming.{renamed_entry}
use Rattle.guest_memory.proofs.MappedGroups.{position-first, position-none}

-- a place of the directory
entry_or : (entries : List (Option ModuleEntry)) (k : ℕ) → get_or entries k None ≡ module_entry_at entries k
entry_or [] k = refl
entry_or (place ∷ entries) zero = refl
entry_or (place ∷ entries) (suc k) = entry_or entries k

module _ (memory : Memory) (m : MemoryState) (tied : RepresentsMemory memory m) (test : ModuleEntry → Bool) where
  entries-64 : length m.modules ≡ 64
  entries-64 = ap (λ (s : MemoryState). length s.modules) tied.is ∙ length-map memory.dir (option_map (renamed_entry tied.number)) ∙ memory.sound.numbers

  -- the first place that passes
  pub first-passing : (number : ℕ) → number < 64 → true ≡ passes test (module_entry_at m.modules number)
      → ((k : ℕ) → k < number → passes test (module_entry_at m.modules k) ≡ false) → position (passes test) m.modules
      ≡ Some number
  first-passing number within is before =
      position-first (passes test) m.modules number None (omega (arith, entries-64))
      (ap (passes test) (entry_or m.modules number) ∙ sym is) (λ k below. ap (passes test) (entry_or m.modules k)
      ∙ before k below)

  -- none passes
  pub none-passing : ((k : ℕ) → k < 64 → passes test (module_entry_at m.modules k) ≡ false) → position (passes test) m.modules ≡ None
  none-passing before =
      position-none (passes test) m.modules None (λ k below. ap (passes test) (entry_or m.modules k) ∙ before k (omega (arith, entries-64)))
