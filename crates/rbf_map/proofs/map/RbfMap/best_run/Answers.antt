use Rattle.std.proofs.Common.{ℕ, ◌≡◌, ◌<◌, ◌≤◌, List, subst, sym, min, ⊎_elim, arith}
use Rattle.std.proofs.lemmas.Bool.{cases_lt}
use Rattle.rbf_model.specs.ClusterMap.{ClusterMap, mark, MarkedFrom, IsFirstClear, BeginsFreeRun}
use Rattle.rbf_map.specs.Runs.{is_clear, is_clear_below, IsBestRun, BeginsBestRun}
use Rattle.rbf_map.specs.Inside.{map_of, HoldsMap}
use Rattle.rbf_map.specs.declared.map.RbfMap.TheInside.{Inside}
use Rattle.rbf_map.proofs.Searched.{clear_is, best_of_all, some_in, free_run}
use Rattle.rbf_map.proofs.map.RbfMap.best_run.Goals as goal

module _ (inside : Inside) (holds : HoldsMap inside) (bytes : List ℕ) (read : bytes ≡ inside.bytes.items) (at : ℕ) (first : IsFirstClear bytes inside.first inside.whole at) where
  there : IsFirstClear inside.bytes.items inside.first inside.whole at
  there = subst (λ bs. IsFirstClear bs inside.first inside.whole at) read first

  used : (c : ℕ) → c < at → mark inside.bytes.items c ≡ 1
  used c low = ⊎_elim (λ early. holds.used_before c early) (λ late. there.marked_before c late low) (cases_lt c inside.first)

  used_before : MarkedFrom inside.bytes.items 0 at
  used_before c from low = used c low

  module _ (map : ClusterMap) (view : map_of inside ≡ map) (wanted enough : ℕ) (some : 1 ≤ wanted) (is : enough ≡ min wanted inside.longest) (now : List ℕ) (again : now ≡ inside.bytes.items)
      (begin n : ℕ) (best : IsBestRun (is_clear_below now inside.whole) enough begin n) where
    best_inside : IsBestRun (is_clear (map_of inside)) wanted begin n
    best_inside =
        best_of_all (is_clear (map_of inside)) wanted inside.longest begin n holds.none_longer
        (subst (λ e. IsBestRun (is_clear (map_of inside)) e begin n) is (subst (λ bs. IsBestRun (is_clear_below bs inside.whole) enough begin n) again best))

    chosen : BeginsBestRun (is_clear map) wanted begin
    chosen = (n, subst (λ m. IsBestRun (is_clear m) wanted begin n) view best_inside)

    found : BeginsFreeRun map begin
    found = subst (λ m. BeginsFreeRun m begin) view (free_run (map_of inside) wanted begin n
        (some_in (is_clear (map_of inside)) wanted begin n at some best_inside (clear_is inside.bytes.items inside.whole at there.below there.clear)) best_inside)

pub best_run-run-requires-clause-used_before : goal.best_run-run-requires-clause-used_before
best_run-run-requires-clause-used_before c =
    subst (λ bs. MarkedFrom bs 0 c.in_ok-self-inside.field-0) (sym c.deref-2.ensures.value)
    (used_before c.self.inside c.self.invariant c.deref.result.now c.deref.ensures.value c.in_ok-self-inside.field-0 c.in_ok-self-inside.ensures)

pub invariant_of-self : goal.invariant_of-self
invariant_of-self c = record {
  whole_ones = c.self.invariant.whole_ones;
  bits = c.self.invariant.bits;
  counted = c.self.invariant.counted;
  first_whole = let below = c.in_ok-self-inside.ensures.below in omega arith;
  used_before = used c.self.inside c.self.invariant c.deref.result.now c.deref.ensures.value c.in_ok-self-inside.field-0 c.in_ok-self-inside.ensures;
  none_longer = (subst (λ bs. IsBestRun (is_clear_below bs c.self.inside.whole) c.min-enough.result
      c.best_run-run.result.first c.best_run-run.result.length) c.deref-2.ensures.value
      c.best_run-run.ensures).none_longer (omega arith);
}

pub invariant_of-self-else-run-enough : goal.invariant_of-self-else-run-enough
invariant_of-self-else-run-enough c = record {
  whole_ones = c.self.invariant.whole_ones;
  bits = c.self.invariant.bits;
  counted = c.self.invariant.counted;
  first_whole = let below = c.in_ok-self-inside.ensures.below in omega arith;
  used_before = used c.self.inside c.self.invariant c.deref.result.now c.deref.ensures.value c.in_ok-self-inside.field-0 c.in_ok-self-inside.ensures;
  none_longer = c.self.invariant.none_longer;
}

pub returns-then-run-enough-clause-found : goal.returns-then-run-enough-clause-found
returns-then-run-enough-clause-found c =
    found c.self.inside c.self.invariant c.deref.result.now c.deref.ensures.value c.in_ok-self-inside.field-0
    c.in_ok-self-inside.ensures c.args.self.now c.self.view_is c.args.wanted c.min-enough.result
    c.requires c.min-enough.ensures c.deref-2.result.now c.deref-2.ensures.value c.best_run-run.result.first c.best_run-run.result.length c.best_run-run.ensures

pub returns-then-run-enough-clause-best : goal.returns-then-run-enough-clause-best
returns-then-run-enough-clause-best c =
    chosen c.self.inside c.self.invariant c.deref.result.now c.deref.ensures.value c.in_ok-self-inside.field-0
    c.in_ok-self-inside.ensures c.args.self.now c.self.view_is c.args.wanted c.min-enough.result
    c.requires c.min-enough.ensures c.deref-2.result.now c.deref-2.ensures.value c.best_run-run.result.first c.best_run-run.result.length c.best_run-run.ensures

pub returns-else-run-enough-clause-found : goal.returns-else-run-enough-clause-found
returns-else-run-enough-clause-found c =
    found c.self.inside c.self.invariant c.deref.result.now c.deref.ensures.value c.in_ok-self-inside.field-0
    c.in_ok-self-inside.ensures c.args.self.now c.self.view_is c.args.wanted c.min-enough.result
    c.requires c.min-enough.ensures c.deref-2.result.now c.deref-2.ensures.value c.best_run-run.result.first c.best_run-run.result.length c.best_run-run.ensures

pub returns-else-run-enough-clause-best : goal.returns-else-run-enough-clause-best
returns-else-run-enough-clause-best c =
    chosen c.self.inside c.self.invariant c.deref.result.now c.deref.ensures.value c.in_ok-self-inside.field-0
    c.in_ok-self-inside.ensures c.args.self.now c.self.view_is c.args.wanted c.min-enough.result
    c.requires c.min-enough.ensures c.deref-2.result.now c.deref-2.ensures.value c.best_run-run.result.first c.best_run-run.result.length c.best_run-run.ensures
