-- How a search for the best run of free clusters goes on and ends.
use Rattle.std.proofs.Common.{◌≡◌, ◌≢◌, ◌⊎◌, ℕ, ◌+◌, ◌-◌, ◌<◌, ◌≤◌, zero, suc, Bool, true, false, ◌==◌, ◌&&◌, List, refl, sym, ap, ◌∙◌, subst, inl, inr, ⊎_elim, min, max, arith, eq-eqb, eqb-true}
use Rattle.std.specs.Prelude.{nat_lt, if◌then◌else◌}
use Rattle.std.proofs.lemmas.Bool.{ltb-true, lt-ltb, and_parts, and_from, both_ways, false_from_ne_true, cases_lt, cases_Bool}
use Rattle.rbf_model.specs.ClusterMap.{ClusterMap, mark, MarkedFrom, IsFirstClear, IsFreeInMap, BeginsRun, BeginsFreeRun}
use Rattle.rbf_map.specs.Runs.{is_clear_below, is_clear, AreFree, IsBestRun, BeginsBestRun}
use Rattle.rbf_map.specs.Search.{IsFirstMarked, IsNextRun, IsAlone, IsLongestWith}
use Rattle.rbf_map.specs.declared.runs.Run.{Run}
use Rattle.rbf_map.proofs.Marks.{mark-set_or_clear}

pub clear_is : (bytes : List ℕ) (end c : ℕ) → c < end → mark bytes c ≡ 0 → is_clear_below bytes end c ≡ true
clear_is bytes end c low clear = and_from (nat_lt c end) (mark bytes c == 0) (lt-ltb c end low) (eq-eqb (mark bytes c) 0 clear)

pub clear_parts : (bytes : List ℕ) (end c : ℕ) → is_clear_below bytes end c ≡ true → (c < end) × (mark bytes c ≡ 0)
clear_parts bytes end c h =
    let parts = and_parts (nat_lt c end) (mark bytes c == 0) h in
    (ltb-true c end parts.0, eqb-true (mark bytes c) 0 parts.1)

pub marked_is : (bytes : List ℕ) (end c : ℕ) → mark bytes c ≡ 1 → is_clear_below bytes end c ≡ false
marked_is bytes end c set = false_from_ne_true (is_clear_below bytes end c) (λ h. let parts = clear_parts bytes end c h in absurd (omega (arith, parts.1)))

pub past_is : (bytes : List ℕ) (end c : ℕ) → end ≤ c → is_clear_below bytes end c ≡ false
past_is bytes end c past = false_from_ne_true (is_clear_below bytes end c) (λ h. let parts = clear_parts bytes end c h in absurd (omega (arith, parts.0)))

-- marked or past the end
pub none_from : (bytes : List ℕ) (from end c : ℕ) → MarkedFrom bytes from end → from ≤ c → is_clear_below bytes end c ≡ false
none_from bytes from end c used low = ⊎_elim
    (λ below. marked_is bytes end c (used c low below))
    (λ past. past_is bytes end c past)
    (cases_lt c end)

module _ (free : ℕ → Bool) where
  pub fewer : (c m n : ℕ) → n ≤ m → AreFree free c m → AreFree free c n
  fewer c m n few run d low high = run d low (omega arith)

  -- a cluster that is not free is in no run
  pub not_over : (c n d : ℕ) → free d ≡ false → c ≤ d → d < c + n → ¬ AreFree free c n
  not_over c n d used low high run = both_ways (free d) used (run d low high)

-- what has been found of the runs that begin before a cluster
pub record IsSearched (free : ℕ → Bool) (enough from : ℕ) (best : Run) : Type 0 where
  pub needed : best.length ≤ enough
  pub are_free : AreFree free best.first best.length
  pub none_before : (c : ℕ) → c < best.first → ¬ AreFree free c best.length
  pub none_longer : best.length < enough → (c : ℕ) → c < from → ¬ AreFree free c (best.length + 1)

pub not_begun : (free : ℕ → Bool) (enough from : ℕ) → ((c : ℕ) → c < from → free c ≡ false) → IsSearched free enough from (record { first = 0; length = 0 })
not_begun free enough from used = record {
  needed = omega arith;
  are_free = λ c low high. absurd (omega arith);
  none_before = λ c low. absurd (omega arith);
  none_longer = λ short c low. not_over free c (0 + 1) c (used c low) (omega arith) (omega arith);
}

module _ (bytes : List ℕ) (from end enough : ℕ) (best run : Run) (so_far : IsSearched (is_clear_below bytes end) enough from best) (short : best.length < enough)
    (next : IsNextRun bytes from end enough run) where
  abbrev free : ℕ → Bool
  free = is_clear_below bytes end

  between : (c n : ℕ) → from ≤ c → c < run.first → 1 ≤ n → ¬ AreFree free c n
  between c n low high some = not_over free c n c (marked_is bytes end c (next.used_between c low high)) (omega arith) (omega arith)

  longer : best.length < run.length → IsSearched free enough (run.first + run.length) run
  longer more =
      let before : (c : ℕ) → c < run.first → ¬ AreFree free c run.length =
      λ c low. ⊎_elim
      (λ early. λ all. so_far.none_longer short c early (fewer free c run.length (best.length + 1) (omega arith) all))
      (λ late. between c run.length late low next.some)
      (cases_lt c from) in
      record {
        needed = next.needed;
        are_free = next.are_free;
        none_before = before;
        none_longer = λ few c low. ⊎_elim
            (λ early. λ all. before c early (fewer free c (run.length + 1) run.length (omega arith) all))
            (λ late. not_over free c (run.length + 1) (run.first + run.length) (next.ends few) (omega arith) (omega arith))
            (cases_lt c run.first);
      }

  no_longer : run.length ≤ best.length → IsSearched free enough (run.first + run.length) best
  no_longer less = record {
    needed = so_far.needed;
    are_free = so_far.are_free;
    none_before = so_far.none_before;
    none_longer = λ few c low. ⊎_elim
        (λ early. so_far.none_longer short c early)
        (λ late. ⊎_elim
        (λ early. between c (best.length + 1) late early (omega arith))
        (λ later. not_over free c (best.length + 1) (run.first + run.length) (next.ends (omega arith)) (omega arith) (omega arith))
        (cases_lt c run.first))
        (cases_lt c from);
  }

  pub searched_more : (after : Run) → after ≡ (if nat_lt best.length run.length then run else best) → IsSearched free enough (run.first + run.length) after
  searched_more after is = subst (IsSearched free enough (run.first + run.length)) (sym is) (by_cases (nat_lt best.length run.length) refl)
    where
      by_cases : (t : Bool) → nat_lt best.length run.length ≡ t → IsSearched free enough (run.first + run.length) (if t then run else best)
      by_cases true h = longer (ltb-true best.length run.length h)
      by_cases false h = no_longer (⊎_elim (λ less. absurd (both_ways (nat_lt best.length run.length) h (lt-ltb best.length run.length less))) (λ most. most) (cases_lt best.length run.length))

-- no run is left, or this one has enough
pub searched_all : (bytes : List ℕ) (from end enough : ℕ) (best : Run) → IsSearched (is_clear_below bytes end) enough from best → MarkedFrom bytes from end
    → IsBestRun (is_clear_below bytes end) enough best.first best.length
searched_all bytes from end enough best so_far used = record {
  needed = so_far.needed;
  are_free = so_far.are_free;
  none_before = so_far.none_before;
  none_longer = λ few c. ⊎_elim
      (λ early. so_far.none_longer few c early)
      (λ late. not_over (is_clear_below bytes end) c (best.length + 1) c (none_from bytes from end c used late) (omega arith) (omega arith))
      (cases_lt c from);
}

pub has_enough : (free : ℕ → Bool) (enough from : ℕ) (best : Run) → IsSearched free enough from best → enough ≤ best.length → IsBestRun free enough best.first best.length
has_enough free enough from best so_far all = record {
  needed = so_far.needed;
  are_free = so_far.are_free;
  none_before = so_far.none_before;
  none_longer = λ few c run. absurd (omega arith);
}

-- the next run, from its first cluster to where it stops
pub next_is : (bytes : List ℕ) (from end enough behind : ℕ) (run : Run) → 1 ≤ enough → IsFirstClear bytes from end run.first
    → IsFirstMarked bytes run.first (run.first + min enough (end - run.first)) behind → run.length ≡ behind - run.first → IsNextRun bytes from end enough run
next_is bytes from end enough behind run some first last is =
    let below = first.below in
    let after = last.after in
    let within = last.within in
    record {
      after = first.after;
      within = omega arith;
      used_between = first.marked_before;
      some = ⊎_elim
          (λ more. omega arith)
          (λ most. absurd (⊎_elim (λ stop. omega arith) (λ set. omega (arith, ap (mark bytes) (same most), first.clear, set)) last.stops))
          (cases_lt run.first behind);
      needed = omega arith;
      are_free = λ c low high. clear_is bytes end c (omega arith) (last.clear_before c low (omega arith));
      ends = λ few. ⊎_elim (λ stop. past_is bytes end (run.first + run.length) (omega arith)) (λ set. marked_is bytes end (run.first + run.length) (ap (mark bytes) place ∙ set)) last.stops;
    }
  where
    place : run.first + run.length ≡ behind
    place = let after = last.after in omega arith

    same : behind ≤ run.first → behind ≡ run.first
    same most = let after = last.after in omega arith

-- a run that is best for as many as any run has is best for more
pub best_of_all : (free : ℕ → Bool) (wanted longest first n : ℕ) → ((c : ℕ) → ¬ AreFree free c (longest + 1)) → IsBestRun free (min wanted longest) first n
    → IsBestRun free wanted first n
best_of_all free wanted longest first n most best = record {
  needed = let needed = best.needed in omega arith;
  are_free = best.are_free;
  none_before = best.none_before;
  none_longer = λ few c. ⊎_elim
      (λ short. best.none_longer short c)
      (λ all. λ run. most c (fewer free c (n + 1) (longest + 1) (omega arith) run))
      (cases_lt n (min wanted longest));
}

-- if a cluster is free, the best run has one
pub some_in : (free : ℕ → Bool) (wanted first n d : ℕ) → 1 ≤ wanted → IsBestRun free wanted first n → free d ≡ true → 1 ≤ n
some_in free wanted first n d some best is = ⊎_elim
    (λ none. absurd (best.none_longer (omega arith) d (λ c low high. let same : d ≡ c = omega arith in ap free (sym same) ∙ is)))
    (λ more. more)
    (cases_lt n 1)

-- and some run has one
pub longest_some : (free : ℕ → Bool) (longest d : ℕ) → ((c : ℕ) → ¬ AreFree free c (longest + 1)) → free d ≡ true → 1 ≤ longest
longest_some free longest d most is = ⊎_elim
    (λ none. absurd (most d (λ c low high. let same : d ≡ c = omega arith in ap free (sym same) ∙ is)))
    (λ more. more)
    (cases_lt longest 1)

-- its first cluster is free, and begins a run
pub free_run : (map : ClusterMap) (wanted first n : ℕ) → 1 ≤ n → IsBestRun (is_clear map) wanted first n → BeginsFreeRun map first
free_run map wanted first n some best =
    let here = clear_parts map.bytes map.whole first (best.are_free first (omega arith) (omega arith)) in
    (record { whole = here.0; clear = here.1 }, begins (cases_lt 0 first))
  where
    begins : (0 < first) ⊎ (first ≤ 0) → BeginsRun map first
    begins (inl low) = ⊎_elim
        (λ clear. absurd (best.none_before (first - 1) (omega arith) (λ c from below. ⊎_elim
        (λ early. let same : first - 1 ≡ c = omega arith in ap (is_clear map) (sym same) ∙ clear_is map.bytes
        map.whole (first - 1) (let whole = (clear_parts map.bytes map.whole first
        (best.are_free first (omega arith) (omega arith))).0 in omega arith) clear)
        (λ late. best.are_free c late (omega arith))
        (cases_lt c first))))
        (λ set. inr set)
        (mark-set_or_clear map.bytes (first - 1))
    begins (inr none) = inl (omega arith)

-- no run is longer than all whole clusters
pub all_longest : (bytes : List ℕ) (whole c : ℕ) → ¬ AreFree (is_clear_below bytes whole) c (whole + 1)
all_longest bytes whole c = not_over (is_clear_below bytes whole) c (whole + 1) (c + whole) (past_is bytes whole (c + whole) (omega arith)) (omega arith) (omega arith)

-- marks alone make no run longer
pub still_longest : (old new : ClusterMap) (longest : ℕ) → ((c : ℕ) → is_clear new c ≡ true → is_clear old c ≡ true) → ((c : ℕ) → ¬ AreFree (is_clear old) c (longest + 1))
    → (c : ℕ) → ¬ AreFree (is_clear new) c (longest + 1)
still_longest old new longest was most c run = most c (λ d low high. was d (run d low high))

-- nor does one cluster more that is alone
pub longest_is : (old new : ClusterMap) (cluster longest now : ℕ) → ((c : ℕ) → c ≢ cluster → is_clear new c ≡ true → is_clear old c ≡ true)
    → ((c : ℕ) → ¬ AreFree (is_clear old) c (longest + 1)) → IsLongestWith (is_clear new) cluster new.whole longest now → (c : ℕ) → ¬ AreFree (is_clear new) c (now + 1)
longest_is old new cluster longest now was most (inl all) c run = all_longest new.bytes new.whole c (λ d low high. run d low (omega arith))
longest_is old new cluster longest now was most (inr (is, alone)) c run = ⊎_elim
    (λ past. most c (λ d low high. was d (λ same. absurd (omega arith)) (run d low (omega arith))))
    (λ from. ⊎_elim
    (λ more. both_ways (is_clear new (cluster - 1)) (alone.before (cluster - 1) (omega arith)) (run (cluster - 1) (omega arith) (omega arith)))
    (λ late. ⊎_elim
    (λ before. most c (λ d low high. was d (λ same. absurd (omega arith)) (run d low (omega arith))))
    (λ here. both_ways (is_clear new (cluster + 1)) alone.behind (run (cluster + 1) (omega arith) (omega arith)))
    (cases_lt cluster c))
    (cases_lt c cluster))
    (cases_lt (c + now) cluster)
