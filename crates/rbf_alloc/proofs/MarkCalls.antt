-- How many calls give back clusters sector by sector of the map.
use Rattle.std.proofs.Common.{◌≡◌, ℕ, ◌+◌, ◌/◌, ◌<◌, Bool, true, false, cond, ◌==◌, Option, None, sym, subst, ⊎_elim, arith, eqb-true}
use Rattle.std.proofs.lemmas.Bool.{and_parts, both_ways, false_from_ne_true, cases_Bool}
use Rattle.rbf_model.specs.Geometry.{Geometry, map_sectors}
use Rattle.rbf_model.specs.Space.{cluster_count}
use Rattle.rbf_access.specs.Drive.{DriveCounts, MovesCounts}
use Rattle.rbf_access.specs.MapMarks.{has_mark_of, marking_sectors}
use Rattle.rbf_access.proofs.Counting.{counts_then, counts_most}
use Rattle.rbf_access.proofs.MapMarks.{below, below_next, below_up, mark_there}
use Rattle.rbf_alloc.specs.Own.{here, NoneHere}

module _ (g : Geometry) (gone : ℕ → Bool) (in_volume : (c : ℕ) → gone c ≡ true → c < cluster_count g) (place : ℕ) where
  abbrev place_calls : ℕ
  place_calls = cond (has_mark_of g gone place) 1 0

  none_here : has_mark_of g gone place ≡ false → NoneHere gone place
  none_here none c = false_from_ne_true (here gone place c) (λ h.
      let parts = and_parts (gone c) (c / 2048 == place) h in
      both_ways (has_mark_of g gone place) none (mark_there g gone c place (in_volume c parts.0) parts.0 (eqb-true (c / 2048) place parts.1)))

  -- one sector of the map is written, if it has the mark of one
  place_moves : (f : Option ℕ) (s t : DriveCounts) → MovesCounts f 1 s t → (NoneHere gone place → MovesCounts f 0 s t) → MovesCounts f place_calls s t
  place_moves f s t one none = ⊎_elim
      (λ some. subst (λ b. MovesCounts f (cond b 1 0) s t) (sym some) one)
      (λ empty. subst (λ b. MovesCounts f (cond b 1 0) s t) (sym empty) (none (none_here empty)))
      (cases_Bool (has_mark_of g gone place))

  pub moves_more : (f : Option ℕ) (s t u : DriveCounts) → MovesCounts None (below (has_mark_of g gone) place) s t → MovesCounts f 1 t u → (NoneHere gone place → MovesCounts f 0 t u)
      → MovesCounts f (below (has_mark_of g gone) (place + 1)) s u
  moves_more f s t u far one none =
      subst (λ n. MovesCounts f n s u) (sym (below_next (has_mark_of g gone) place))
      (counts_then f (below (has_mark_of g gone) place) place_calls s t u far (place_moves f t u one none))

  -- and then a fault has ended it
  pub moves_to_fault : place < map_sectors g → (f : Option ℕ) (s t u : DriveCounts)
      → MovesCounts None (below (has_mark_of g gone) place) s t → MovesCounts f 1 t u
      → (NoneHere gone place → MovesCounts f 0 t u)
      → MovesCounts f (marking_sectors g gone) s u
  moves_to_fault low f s t u far one none =
      counts_most f (below (has_mark_of g gone) (place + 1)) (marking_sectors g gone) s u (below_up (has_mark_of g gone) (place + 1) (map_sectors g) (omega arith)) (moves_more f s t u far one none)

  pub moves_all : place ≡ map_sectors g → (s t : DriveCounts) → MovesCounts None (below (has_mark_of g gone) place) s t → MovesCounts None (marking_sectors g gone) s t
  moves_all end s t far = subst (λ n. MovesCounts None (below (has_mark_of g gone) n) s t) end far
