-- Something becomes of the modules of a file, and one thing only.
use Rattle.std.proofs.Common.{◌≡◌, ◌+◌, ◌-◌, ◌<◌, ◌≤◌, ◌==◌, ◌&&◌, if◌then◌else◌, ℕ, zero, suc, Bool, true, false, Option, Some, None, Result, Ok, Err, List, length, drop, refl, subst, arith}
use Rattle.std.specs.Option.{option_map_or}
use Rattle.std.proofs.lemmas.List.{length-drop}
use Rattle.std.proofs.lemmas.Bool.{and_parts, ltb-true}
use Rattle.proc_model.specs.declared.module.ModuleFault.{ModuleFault}
use Rattle.proc_model.specs.declared.module.ModuleFault.TheVariants.{BadSync}
use Rattle.proc_model.specs.declared.module.ModuleInfo.{ModuleInfo}
use Rattle.proc_model.specs.declared.module.ModuleStep.{ModuleStep}
use Rattle.proc_model.specs.declared.module.ModuleStep.TheVariants.{Module, End, Fault}
use Rattle.proc_model.specs.Module.{step_from, next_place, module_fault, module_size, module_entry, crc_offset, info_at, keeps_header_rule, has_sync, has_size, has_module_name, has_entry}
use Rattle.proc_model.specs.ModuleList.{ModuleEntry}
use Rattle.proc_model.specs.Loading.{EntersModules, at_end, broken, refused, entered, with_module, entry_refusal, module_error}
use Rattle.proc_model.proofs.ModuleLaws.{Fits, fits_from}

pub Enters-one : {file group : List ℕ} {is_boot : Bool} {from : ℕ} {entries : List (Option ModuleEntry)}
    {one other : Result (List (Option ModuleEntry)) (ℕ × ℕ)} → EntersModules file group is_boot from entries one
    → EntersModules file group is_boot from entries other → one ≡ other
Enters-one (at_end a) (at_end b) = refl
Enters-one (at_end a) (broken b) = cc
Enters-one (at_end a) (refused b c) = cc
Enters-one (at_end a) (entered b c more) = cc
Enters-one (broken a) (at_end b) = cc
Enters-one (broken a) (broken b) = cc
Enters-one (broken a) (refused b c) = cc
Enters-one (broken a) (entered b c more) = cc
Enters-one (refused a d) (at_end b) = cc
Enters-one (refused a d) (broken b) = cc
Enters-one (refused a d) (refused b c) = cc
Enters-one (refused a d) (entered b c more) = cc
Enters-one (entered a d rest) (at_end b) = cc
Enters-one (entered a d rest) (broken b) = cc
Enters-one (entered a d rest) (refused b c) = cc
Enters-one {file} {group} {is_boot} {entries = entries} {other = other} (entered {info = info} a d rest) (entered {info = same} b c more) =
    let is : same ≡ info = cc in
    Enters-one rest (subst (λ info. EntersModules file group is_boot (info.at + info.size) (with_module entries info group is_boot) other) is more)

-- a module lies in a file, from a place on
pub record LiesIn (file : List ℕ) (from : ℕ) (info : ModuleInfo) : Type 0 where
  pub from_there : from ≤ info.at
  pub sized : 13 ≤ info.size
  pub in_file : info.at + info.size ≤ length file
  pub enters : info.entry < info.size

header_kept : (header : Bool) (rest : Option ModuleFault) → (if header then rest else Some BadSync) ≡ None → header ≡ true
header_kept true rest kept = refl
header_kept false rest kept = absurd cc

LiesIn-accepted : (file : List ℕ) (from at : ℕ) → from ≤ at → module_fault (drop at file) ≡ None → LiesIn file from (info_at at (drop at file))
LiesIn-accepted file from at after kept =
    let bytes = drop at file in
    let rule : keeps_header_rule bytes ≡ true = header_kept (keeps_header_rule bytes) _ kept in
    let entered = and_parts (has_sync bytes && has_size bytes && has_module_name bytes) (has_entry bytes) rule in
    let named = and_parts (has_sync bytes && has_size bytes) (has_module_name bytes) entered.0 in
    let sized = and_parts (has_sync bytes) (has_size bytes) named.0 in
    let fits : Fits (module_size bytes) bytes = fits_from bytes sized.1 in
    let entry : module_entry bytes < crc_offset bytes = ltb-true (module_entry bytes) (crc_offset bytes) entered.1 in
    record {
      from_there = after;
      sized = fits.least;
      in_file = omega (arith, fits.within, fits.least, length-drop at file);
      enters = omega (arith, fits.least, entry);
    }

-- the module that stands next in a file lies in it
pub LiesIn-step : (file : List ℕ) (from : ℕ) (info : ModuleInfo) → step_from file from ≡ Module info → LiesIn file from info
LiesIn-step file from info is = by_place (at == length file) is
  where
    at : ℕ
    at = next_place file from

    by_fault : (fault : Option ModuleFault) → module_fault (drop at file) ≡ fault
        → option_map_or (λ fault. Fault at fault) fault (Module (info_at at (drop at file))) ≡ Module info
        → LiesIn file from info
    by_fault (Some fault) found same = absurd cc
    by_fault None found same =
        let fields : info_at at (drop at file) ≡ info = cc in
        subst (LiesIn file from) fields (LiesIn-accepted file from at (omega arith) found)

    by_place : (past : Bool) → (if past then End else option_map_or (λ fault. Fault at fault) (module_fault (drop at file)) (Module (info_at at (drop at file)))) ≡ Module info → LiesIn file from info
    by_place true same = absurd cc
    by_place false same = by_fault (module_fault (drop at file)) refl same

-- what is left of the file behind a module is shorter than what was left before it
left_behind : (file : List ℕ) (from : ℕ) (info : ModuleInfo) → step_from file from ≡ Module info → length file - (info.at + info.size) < length file - from
left_behind file from info is =
    let lies = LiesIn-step file from info is in omega (arith, lies.from_there, lies.sized, lies.in_file)

-- an outcome is there where one is there behind each module that may come next
by_step : (file group : List ℕ) (is_boot : Bool) (from : ℕ) (entries : List (Option ModuleEntry)) (step : ModuleStep)
    → ((info : ModuleInfo) → step_from file from ≡ Module info → (others : List (Option ModuleEntry))
    → (outcome : Result (List (Option ModuleEntry)) (ℕ × ℕ)) × EntersModules file group is_boot
    (info.at + info.size) others outcome)
    → step_from file from ≡ step → (outcome : Result (List (Option ModuleEntry)) (ℕ × ℕ)) × EntersModules file group is_boot from entries outcome
by_step file group is_boot from entries End behind is = (Ok entries, at_end is)
by_step file group is_boot from entries (Fault at fault) behind is = (Err (at, module_error fault), broken is)
by_step file group is_boot from entries (Module info) behind is = by_refusal (entry_refusal entries info) refl
  where
    by_refusal : (refusal : Option ℕ) → entry_refusal entries info ≡ refusal → (outcome : Result (List (Option ModuleEntry)) (ℕ × ℕ)) × EntersModules file group is_boot from entries outcome
    by_refusal (Some number) known = (Err (info.at, number), refused is known)
    by_refusal None taken = let more = behind info is (with_module entries info group is_boot) in (more.0, entered is taken more.1)

-- no more modules follow than there are bytes left
by_fuel : (file group : List ℕ) (is_boot : Bool) (fuel from : ℕ) (entries : List (Option ModuleEntry)) → length file - from ≤ fuel
    → (outcome : Result (List (Option ModuleEntry)) (ℕ × ℕ)) × EntersModules file group is_boot from entries outcome
by_fuel file group is_boot zero from entries enough =
    by_step file group is_boot from entries (step_from file from) (λ info is others. absurd (omega (arith, left_behind file from info is))) refl
by_fuel file group is_boot (suc fuel) from entries enough =
    by_step file group is_boot from entries (step_from file from)
    (λ info is others. by_fuel file group is_boot fuel (info.at + info.size) others (omega (arith, left_behind file from info is))) refl

pub Enters-some : (file group : List ℕ) (is_boot : Bool) (from : ℕ) (entries : List (Option ModuleEntry))
    → (outcome : Result (List (Option ModuleEntry)) (ℕ × ℕ)) × EntersModules file group is_boot from entries outcome
Enters-some file group is_boot from entries = by_fuel file group is_boot (length file - from) from entries (omega arith)
