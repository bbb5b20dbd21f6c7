-- Which entered module the registers of a process name.
use Rattle.std.proofs.Common.{◌≡◌, ℕ, Option, Some, None, option_and_then, option_map, is_some, List, refl, ap}
use Rattle.proc_model.specs.ModuleLinks.{Entered, entered_at, found_entry}
use Rattle.proc_model.specs.ModuleList.{ModuleEntry, found_module}
use Rattle.proc_model.proofs.ModuleListLaws.{found_entry as found-there}

-- a module is found exactly where it has a number
pub found-some : (entries : List (Option ModuleEntry)) (name : List ℕ) (kind : ℕ) → is_some (found_entry entries name kind) ≡ is_some (found_module entries name kind)
found-some entries name kind = by (found_module entries name kind) refl
  where
    by : (found : Option ℕ) → found_module entries name kind ≡ found → is_some (option_and_then (entered_at entries) found) ≡ is_some found
    by None is = refl
    by (Some number) is =
        let there = found-there _ entries number is in
        ap (λ (place : Option ModuleEntry). is_some (option_map (λ (entry : ModuleEntry). let it : Entered = record { number = number; entry = entry } in it) place)) there.1

pub some-number : {A : Type 0} (place : Option A) (f : A → ℕ) → is_some (option_map f place) ≡ is_some place
some-number None f = refl
some-number (Some a) f = refl
