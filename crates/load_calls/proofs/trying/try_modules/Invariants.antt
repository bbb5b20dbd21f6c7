use Rattle.std.proofs.Common.{◌≡◌, ◌≤◌, ◌-◌, ℕ, None, Option, List, length, get_or}
use Rattle.proc_model.specs.ModuleList.{ModuleEntry}
use Rattle.load_calls.specs.Trying.{AreAlike}
use Rattle.load_calls.proofs.TryingLemmas.{Progress}
use Rattle.load_calls.proofs.trying.try_modules.Given as goal

-- the modules up to here were tried
abbrev pub invariant-loop-fault : goal.invariant-loop-fault
invariant-loop-fault l = record {
  within : l.from ≤ length l.file;
  size : length l.tried ≡ 64;
  free : (n : ℕ) → l.count ≤ n → get_or l.tried n None ≡ None;
  progress : (entries : List (Option ModuleEntry)) (group : List ℕ) → AreAlike l.dir entries → Progress l.file group l.dir entries l.tried l.count l.from;
}

abbrev pub decreases-loop-fault : goal.decreases-loop-fault
decreases-loop-fault l = length l.file - l.from
