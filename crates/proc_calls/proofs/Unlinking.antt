-- What F$UnLink comes to with the module at the address.
use Rattle.std.proofs.Common.{◌≡◌, ℕ, Option, Some, option_map, option_and_then, [], position, ap, ◌∙◌}
use Rattle.std.specs.Option.{option_map_or}
use Rattle.os9_base.specs.declared.errors.TheConstants.{E_MNF}
use Rattle.proc_model.specs.Memory.{map_at, group_at}
use Rattle.proc_model.specs.ModuleList.{ModuleEntry, passes}
use Rattle.proc_model.proofs.ModuleListLaws.{found_entry}
use Rattle.proc_model.specs.CallResult.{done, needs}
use Rattle.proc_model.specs.Processes.{Processes, regs_at}
use Rattle.proc_model.specs.ModuleLinks.{entered_at, is_at}
use Rattle.proc_model.specs.UnLink.{f_unlink, after_unlink}

-- a link to this module is given up
pub record IsUnlinked (m : Processes) (p number : ℕ) : Type 0 where
  pub entry : ModuleEntry
  pub group_is : group_at m.memory number ≡ entry.group
  pub goes : f_unlink m p ≡ done (after_unlink m p (record { number = number; entry = entry }))

pub unlinked-at : (m : Processes) (p number : ℕ) → position (passes (is_at (map_at m.memory p) (regs_at m p).u)) m.memory.modules ≡ Some number → IsUnlinked m p number
unlinked-at m p number found =
    let there = found_entry _ m.memory.modules number found in record {
      entry = there.0;
      group_is = ap (λ (place : Option ModuleEntry). option_map_or (λ (entry : ModuleEntry). entry.group) place []) there.1;
      goes =
          ap (λ (at : Option ℕ). needs (option_and_then (entered_at m.memory.modules) at) E_MNF (λ found. done (after_unlink m p found))) found
          ∙ ap (λ (place : Option ModuleEntry). needs (option_map (λ (entry : ModuleEntry). record { number = number; entry = entry }) place) E_MNF (λ found. done (after_unlink m p found))) there.1;
    }
