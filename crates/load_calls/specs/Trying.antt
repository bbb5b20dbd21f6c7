-- The outcome of the modules of a file that are tried and not entered (Level Two manual, F$Load).
use Rattle.std.specs.Prelude.{◌≡◌, ℕ, ◌&&◌, ◌||◌, nat_le, false, Bool, Option, Some, None, Result, Ok, Err, List, if◌then◌else◌}
use Rattle.std.specs.List.{list_any}
use Rattle.os9_base.specs.declared.errors.TheConstants.{E_DIRFUL, E_KWNMOD}
use Rattle.proc_model.specs.Loading.{EntersModules}
use Rattle.proc_model.specs.ModuleList.{ModuleEntry, are_namesakes, is_known, module_room, revision_of}
use Rattle.proc_model.specs.declared.module.ModuleInfo.{ModuleInfo}

-- two directories know the same modules, and have the same number of places left
pub record AreAlike (entries others : List (Option ModuleEntry)) : Type 0 where
  pub known : (info : ModuleInfo) → is_known others info ≡ is_known entries info
  pub room : module_room others ≡ module_room entries

-- the modules are entered as a group, or the first refused module is refused with this number
abbrev pub TriesModules : List ℕ → List ℕ → List (Option ModuleEntry) → Result (Unit {0}) ℕ → Type 0
TriesModules file group entries (Ok done) =
    (after : List (Option ModuleEntry)) × EntersModules file group false 0 entries (Ok after)
TriesModules file group entries (Err number) = (at : ℕ) × EntersModules file group false 0 entries (Err (at, number))

-- ---- together with tried modules

-- a tried module makes another known: it has the same name and type, and the same revision or a greater one
abbrev pub makes_known : ModuleInfo → Option ModuleInfo → Bool
makes_known info None = false
makes_known info (Some other) = are_namesakes info other && nat_le (revision_of info) (revision_of other)

-- the error of a module that a directory refuses after it has taken these tried modules, `count` in number
abbrev pub entry_refusal_beside : List (Option ModuleEntry) → List (Option ModuleInfo) → ℕ → ModuleInfo → Option ℕ
entry_refusal_beside entries tried count info =
    if is_known entries info || list_any (makes_known info) tried then Some E_KWNMOD
    else (if nat_le (module_room entries) count then Some E_DIRFUL else None)
