-- What a call comes to that names a module.
use Rattle.std.proofs.Common.{◌≡◌, ℕ, Option, Some, None, option_map, option_and_then, Result, Ok, Err, List, length, refl, ap, ◌∙◌}
use Rattle.os9_base.specs.declared.errors.TheConstants.{E_BNAM, E_MNF}
use Rattle.proc_model.specs.ModuleList.{ModuleEntry, found_module}
use Rattle.proc_model.proofs.ModuleListLaws.{found_entry}
use Rattle.os9_base.specs.declared.name_fault.NameFault.{NameFault}
use Rattle.os9_base.specs.declared.name_fault.NameFault.TheVariants.{Unreadable, NoName}
use Rattle.os9_base.specs.UserNames.{name_at}
use Rattle.proc_model.specs.CallResult.{CallResult, refused, needs, reads_name}
use Rattle.proc_model.specs.Processes.{Processes, regs_at, cells_at}
use Rattle.proc_model.specs.ModuleLinks.{Entered, entered_at}
use Rattle.proc_calls.specs.Named.{name_or_error, names_module, IsModuleNamed, IsUnnamed}

-- there is no name
pub named-error : (m : Processes) (p number : ℕ) → name_or_error (name_at (cells_at m p) (regs_at m p).x) ≡ Err number → IsUnnamed m p number
named-error m p number is next = by_name (name_at (cells_at m p) (regs_at m p).x) is
    (λ name. needs (option_and_then (entered_at m.memory.modules) (found_module m.memory.modules name
    (regs_at m p).a)) E_MNF (λ found. next name found))
  where
    by_name : (read : Result (List ℕ) NameFault) → name_or_error read ≡ Err number → (then : List ℕ → CallResult) → reads_name read E_BNAM then ≡ refused number
    by_name (Ok name) is then = absurd (let no_error = is in cc)
    by_name (Err Unreadable) is then = cc
    by_name (Err NoName) is then = cc

-- a name that was read
pub name_read : (read : Result (List ℕ) NameFault) (name : List ℕ) → name_or_error read ≡ Ok name → read ≡ Ok name
name_read (Ok other) name is = cc
name_read (Err Unreadable) name is = absurd (let no_name = is in cc)
name_read (Err NoName) name is = absurd (let no_name = is in cc)

module _ (m : Processes) (p : ℕ) (name : List ℕ) (read : name_or_error (name_at (cells_at m p) (regs_at m p).x) ≡ Ok name) where
  goes_on : (next : List ℕ → Entered → CallResult) → names_module m p next ≡ needs
      (option_and_then (entered_at m.memory.modules) (found_module m.memory.modules name (regs_at m p).a)) E_MNF
      (λ found. next name found)
  goes_on next = ap (λ (r : Result (List ℕ) NameFault). reads_name r E_BNAM
      (λ name. needs (option_and_then (entered_at m.memory.modules) (found_module m.memory.modules name
      (regs_at m p).a)) E_MNF (λ found. next name found))) (name_read _ name read)

  -- no module is found
  pub named-nothing : found_module m.memory.modules name (regs_at m p).a ≡ None → IsUnnamed m p E_MNF
  named-nothing none next = goes_on next ∙ ap (λ (found : Option ℕ). needs (option_and_then (entered_at m.memory.modules) found) E_MNF (λ found. next name found)) none

  -- a module is found
  pub named-found : (number : ℕ) → found_module m.memory.modules name (regs_at m p).a ≡ Some number → IsModuleNamed m p number (length name)
  named-found number found =
      let there = found_entry _ m.memory.modules number found in record {
        name = name;
        entry = there.0;
        long = refl;
        is = there.1;
        goes = λ next.
            goes_on next
            ∙ ap (λ (found : Option ℕ). needs (option_and_then (entered_at m.memory.modules) found) E_MNF (λ found. next name found)) found
            ∙ ap (λ (place : Option ModuleEntry). needs (option_map (λ (entry : ModuleEntry). record { number = number; entry = entry }) place) E_MNF (λ found. next name found)) there.1;
      }
