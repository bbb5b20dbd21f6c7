-- The modules of a file, entered one after another as one group (Level Two manual, F$Load and "Booting").
use Rattle.std.specs.Prelude.{◌≡◌, ℕ, ◌+◌, ◌==◌, Bool, Option, Some, None, Result, Ok, Err, List, replicate, if◌then◌else◌}
use Rattle.std.specs.Option.{option_map_or}
use Rattle.proc_model.specs.declared.module.ModuleFault.{ModuleFault}
use Rattle.proc_model.specs.declared.module.ModuleFault.TheVariants.{BadSync, BadParity, BadCrc}
use Rattle.proc_model.specs.declared.module.ModuleInfo.{ModuleInfo}
use Rattle.proc_model.specs.declared.module.ModuleStep.TheVariants.{Module, End, Fault}
use Rattle.proc_model.specs.Module.{step_from}
use Rattle.proc_model.specs.ModuleList.{ModuleEntry, is_known, module_room, free_number, new_entry, with_module_entry}
use Rattle.os9_base.specs.declared.errors.TheConstants.{E_BMID, E_DIRFUL, E_KWNMOD, E_BMCRC, E_BMHP}

-- a directory without entries
abbrev pub no_entries : List (Option ModuleEntry)
no_entries = replicate 64 None

-- the error of a module that breaks a rule of its own: of the header, the parity or the CRC
abbrev pub module_error : ModuleFault → ℕ
module_error BadSync = E_BMID
module_error BadParity = E_BMHP
module_error BadCrc = E_BMCRC

-- the error of a module that the directory refuses: it is known, or else no place is left
abbrev pub entry_refusal : List (Option ModuleEntry) → ModuleInfo → Option ℕ
entry_refusal entries info =
    if is_known entries info then Some E_KWNMOD else (if module_room entries == 0 then Some E_DIRFUL else None)

-- the list with one more module, at the least number that no entry has
abbrev pub with_module : List (Option ModuleEntry) → ModuleInfo → List ℕ → Bool → List (Option ModuleEntry)
with_module entries info group is_boot =
    option_map_or (λ number. with_module_entry entries number (new_entry info group is_boot)) (free_number entries)
    entries

-- The modules of a file from a place on are entered as one group, each tested by all rules before the next one. The
-- outcome is the list of entries, or the place and the error of the first refused module.
pub data EntersModules (file group : List ℕ) (is_boot : Bool) : ℕ → List (Option ModuleEntry)
    → Result (List (Option ModuleEntry)) (ℕ × ℕ) → Type 0 where
  -- only zero bytes are left
  at_end : {from : ℕ} {entries : List (Option ModuleEntry)} → step_from file from ≡ End
      → EntersModules file group is_boot from entries (Ok entries)
  -- the next module breaks a rule of its own
  broken : {from at : ℕ} {fault : ModuleFault} {entries : List (Option ModuleEntry)}
      → step_from file from ≡ Fault at fault
      → EntersModules file group is_boot from entries (Err (at, module_error fault))
  -- the directory refuses the next module
  refused : {from number : ℕ} {info : ModuleInfo} {entries : List (Option ModuleEntry)}
      → step_from file from ≡ Module info → entry_refusal entries info ≡ Some number
      → EntersModules file group is_boot from entries (Err (info.at, number))
  -- the next module is entered, and then those after it
  entered : {from : ℕ} {info : ModuleInfo} {entries : List (Option ModuleEntry)}
      {outcome : Result (List (Option ModuleEntry)) (ℕ × ℕ)} → step_from file from ≡ Module info
      → entry_refusal entries info ≡ None
      → EntersModules file group is_boot (info.at + info.size) (with_module entries info group is_boot) outcome
      → EntersModules file group is_boot from entries outcome
