-- The module directory (Level Two manual, "Module directory"; F$Link, F$Load, F$UnLink, F$UnLoad).
-- It is a list by number: place n has the entry of number n, or nothing.
use Rattle.std.specs.Prelude.{ℕ, ◌+◌, ◌-◌, ◌/◌, ◌%◌, ◌==◌, ◌&&◌, ◌||◌, not, nat_eq, nat_lt, nat_le, Bool, false, Option, Some, None, is_none, option_and_then, List, [], ◌∷◌, map, position, count_by, slice_get, slice_set, if◌then◌else◌}
use Rattle.std.specs.List.{list_any}
use Rattle.std.specs.Option.{option_map_or}
use Rattle.std.specs.Cmp.Lexicographic.{pointwise}
use Rattle.std.specs.Str.{bytes_eq}
use Rattle.os9_base.specs.Name.{lower}
use Rattle.proc_model.specs.declared.module.ModuleInfo.{ModuleInfo}

-- an entry: what the module's header says, with `at` its place in the group; the blocks of the group, in order; the
-- number of links; and whether the group is the boot file's
pub record ModuleEntry : Type 0 where
  pub info : ModuleInfo
  pub group : List ℕ
  pub links : ℕ
  pub is_boot : Bool

-- the entry of a number, if there is one
abbrev pub module_entry_at : List (Option ModuleEntry) → ℕ → Option ModuleEntry
module_entry_at entries number = option_and_then (λ entry. entry) (slice_get entries number)

-- there is an entry, and it passes the test
abbrev pub passes : (ModuleEntry → Bool) → Option ModuleEntry → Bool
passes test None = false
passes test (Some entry) = test entry

-- some entry passes the test
abbrev pub some_entry : (ModuleEntry → Bool) → List (Option ModuleEntry) → Bool
some_entry test entries = list_any (passes test) entries

-- two names agree, case ignored, as a test
abbrev pub names_agree : List ℕ → List ℕ → Bool
names_agree a b = bytes_eq (map lower a) (map lower b)

-- a module's revision: the low half of its attributes
abbrev pub revision_of : ModuleInfo → ℕ
revision_of info = info.attr % 16

-- two modules have the same name and the same type, regardless of the language
abbrev pub are_namesakes : ModuleInfo → ModuleInfo → Bool
are_namesakes a b = names_agree a.name b.name && (a.kind / 16 == b.kind / 16)

-- a module is known if an entry of its name and type has the same revision or a greater one
abbrev pub is_known : List (Option ModuleEntry) → ModuleInfo → Bool
is_known entries info =
    some_entry (λ entry. are_namesakes info entry.info && nat_le (revision_of info) (revision_of entry.info)) entries

-- a module is shadowed if an entry of its name and type has a greater revision
abbrev pub is_shadowed : List (Option ModuleEntry) → ModuleInfo → Bool
is_shadowed entries info =
    some_entry (λ entry. are_namesakes info entry.info && nat_lt (revision_of info) (revision_of entry.info)) entries

-- a half of a byte matches the wanted one; 0 matches any
abbrev pub half_matches : ℕ → ℕ → Bool
half_matches wanted half = (wanted == 0) || (wanted == half)

-- a type and language match the wanted ones
abbrev pub kind_matches : ℕ → ℕ → Bool
kind_matches wanted kind = half_matches (wanted / 16) (kind / 16) && half_matches (wanted % 16) (kind % 16)

-- an entry has the name, matches the type and language, and is not shadowed
abbrev pub answers_to : List (Option ModuleEntry) → List ℕ → ℕ → ModuleEntry → Bool
answers_to entries name kind entry =
    names_agree name entry.info.name && kind_matches kind entry.info.kind && not (is_shadowed entries entry.info)

-- the module for a name and a type and language: the least number of such an entry
abbrev pub found_module : List (Option ModuleEntry) → List ℕ → ℕ → Option ℕ
found_module entries name kind = position (passes (answers_to entries name kind)) entries

-- the number of entries that can still be added
abbrev pub module_room : List (Option ModuleEntry) → ℕ
module_room entries = count_by is_none entries

-- the least number that no entry has
abbrev pub free_number : List (Option ModuleEntry) → Option ℕ
free_number entries = position is_none entries

-- a new entry; the boot file's modules are linked once
abbrev pub new_entry : ModuleInfo → List ℕ → Bool → ModuleEntry
new_entry info group is_boot = record {
  info = info;
  group = group;
  links = if is_boot then 1
      else 0;
  is_boot = is_boot;
}

-- the list with this entry at a number
abbrev pub with_module_entry : List (Option ModuleEntry) → ℕ → ModuleEntry → List (Option ModuleEntry)
with_module_entry entries number entry = slice_set entries number (Some entry)

-- an entry with one more link, and with one less, or none
abbrev pub entry_linked : ModuleEntry → ModuleEntry
entry_linked entry = record entry { links = entry.links + 1 }

abbrev pub entry_unlinked : ModuleEntry → ModuleEntry
entry_unlinked entry = record entry { links = entry.links - 1 }

-- an entry is of the group of these blocks
abbrev pub is_of_group : List ℕ → ModuleEntry → Bool
is_of_group group entry = pointwise nat_eq group entry.group

-- an entry of the group has a link
abbrev pub is_in_use : List (Option ModuleEntry) → List ℕ → Bool
is_in_use entries group = some_entry (λ entry. is_of_group group entry && nat_lt 0 entry.links) entries

-- a place without an entry of a group
abbrev pub place_without_group : List ℕ → Option ModuleEntry → Option ModuleEntry
place_without_group group place = if passes (is_of_group group) place then None else place

-- the list without the entries of a group
abbrev pub modules_without_group : List (Option ModuleEntry) → List ℕ → List (Option ModuleEntry)
modules_without_group entries group = map (place_without_group group) entries

-- the list with one link less of the entry of this number
abbrev pub with_unlinked : List (Option ModuleEntry) → ℕ → ModuleEntry → List (Option ModuleEntry)
with_unlinked entries number entry = with_module_entry entries number (entry_unlinked entry)

-- the group of the entry of this number leaves memory with this link: it is not the boot file's, and then none of its
-- entries has a link
abbrev pub is_leaving : List (Option ModuleEntry) → ℕ → ModuleEntry → Bool
is_leaving entries number entry = not entry.is_boot && not (is_in_use (with_unlinked entries number entry) entry.group)

-- the list after a link of the entry of this number is given up
abbrev pub after_unlink : List (Option ModuleEntry) → ℕ → ModuleEntry → List (Option ModuleEntry)
after_unlink entries number entry =
    if is_leaving entries number entry
    then modules_without_group (with_unlinked entries number entry) entry.group
    else with_unlinked entries number entry

-- the group that leaves memory with this link, if it does
abbrev pub leaving_group : List (Option ModuleEntry) → ℕ → ModuleEntry → Option (List ℕ)
leaving_group entries number entry = if is_leaving entries number entry then Some entry.group else None

-- the list after a link of the entry of this number, if there is one, is given up
abbrev pub without_link : List (Option ModuleEntry) → Option ℕ → List (Option ModuleEntry)
without_link entries None = entries
without_link entries (Some number) =
    option_map_or (after_unlink entries number) (module_entry_at entries number) entries

-- the groups of the entries, each once
abbrev pub entered_groups : List (Option ModuleEntry) → List (List ℕ)
entered_groups [] = []
entered_groups (None ∷ entries) = entered_groups entries
entered_groups (Some entry ∷ entries) =
    if list_any (pointwise nat_eq entry.group) (entered_groups entries) then entered_groups entries
    else entry.group ∷ entered_groups entries
