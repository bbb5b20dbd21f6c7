use Rattle.std.proofs.Common.{◌≡◌, ℕ, ◌<◌, ◌≤◌, None, option_map, get_or}
use Rattle.proc_model.specs.Group.{group_block_numbers}
use Rattle.proc_model.specs.ModuleList.{place_without_group}
use Rattle.module_dir.specs.Entries.{seen}
use Rattle.module_dir.proofs.list.remove_group.Given as goal

-- the places so far are done, and the others as they were
abbrev pub invariant-loop-place : goal.invariant-loop-place
invariant-loop-place l = record {
  done : (k : ℕ) → k < l.place-index → option_map seen (get_or l.entries k None) ≡ place_without_group (group_block_numbers l.group) (option_map seen (get_or l.fn.entries k None));
  rest : (k : ℕ) → l.place-index ≤ k → get_or l.entries k None ≡ get_or l.fn.entries k None;
}
