-- The changes of the module directory in an event of a process (Level Two manual, "Module directory").
use Rattle.std.specs.Prelude.{◌+◌, ◌≡◌, ℕ, ◌≤◌, false, Option, Some, None, List}
use Rattle.proc_model.specs.ModuleList.{ModuleEntry, module_entry_at}

-- an entered module leaves: the last link of its group was given up, and the group is not the boot file's
pub record LeavesWithLastLink (entries : List (Option ModuleEntry)) (old : ModuleEntry) : Type 0 where
  pub number : ℕ
  pub entry : ModuleEntry
  pub is : module_entry_at entries number ≡ Some entry  -- the module whose link was given up
  pub of_group : entry.group ≡ old.group
  pub not_boot : entry.is_boot ≡ false
  pub last_link : old.links ≤ 1

-- an entered module stays: its count of links may rise or fall by one, and nothing else changes
pub record StaysEntered (old new : ModuleEntry) : Type 0 where
  pub same : new ≡ record old { links = new.links }
  pub rises : new.links ≤ old.links + 1
  pub falls : old.links ≤ new.links + 1

-- the change of an entered module: it stays or leaves; and none appears
abbrev pub ModuleStaysOrLeaves : List (Option ModuleEntry) → Option ModuleEntry → Option ModuleEntry → Type 0
ModuleStaysOrLeaves entries (Some old) (Some new) = StaysEntered old new
ModuleStaysOrLeaves entries (Some old) None = LeavesWithLastLink entries old
ModuleStaysOrLeaves entries None (Some new) = ⊥
ModuleStaysOrLeaves entries None None = Unit {0}

-- the module directory changes only by the rules of links
abbrev pub FollowsLinkRules : List (Option ModuleEntry) → List (Option ModuleEntry) → Type 0
FollowsLinkRules entries later =
    (number : ℕ) → ModuleStaysOrLeaves entries (module_entry_at entries number) (module_entry_at later number)
