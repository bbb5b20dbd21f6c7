-- The sectors whose clusters are not marked.
use Rattle.std.proofs.Common.{◌≡◌, ◌⊎◌, ℕ, ◌+◌, ◌<◌, true, List, [], ◌++◌, length, take, get_or, Option, None, subst, inl, inr, ⊎_elim}
use Rattle.std.proofs.lemmas.Bool.{false≢true}
use Rattle.rbf_model.specs.Disk.{disk_of}
use Rattle.rbf_model.specs.Geometry.{Geometry}
use Rattle.rbf_model.specs.Segments.{segment_sectors, sectors_of, has}
use Rattle.rbf_model.specs.Space.{owns}
use Rattle.rbf_model.specs.Faults.{Breaks}
use Rattle.rbf_model.specs.Search.{IsListOfReached}
use Rattle.rbf_model.specs.Faults.Breaks.{unmarked}
use Rattle.rbf_model.proofs.Segments.{has_cases, has_left, has_right}
use Rattle.rbf_sector_rules.specs.Least.{IsLeast, Before, lesser_of, IsLeastBreach}
use Rattle.rbf_sector_rules.specs.Used.{used_by, IsUnmarkedIn}
use Rattle.rbf_sector_rules.proofs.Cases.{unmarked_of}
use Rattle.rbf_sector_rules.proofs.Leasts.{least_along, least_either, least_in_list}
use Rattle.rbf_sector_rules.proofs.Runs.{sectors_more}

module _ (g : Geometry) (disk : ℕ → List ℕ) where
  -- of two lists, and of one run more
  unmarked_then : (xs ys : List ℕ) (one other both : Option ℕ) → IsLeast (IsUnmarkedIn (disk_of g disk) xs) one
      → IsLeast (IsUnmarkedIn (disk_of g disk) ys) other → both ≡ lesser_of one other
      → IsLeast (IsUnmarkedIn (disk_of g disk) (xs ++ ys)) both
  unmarked_then xs ys one other both first second is =
      least_along (λ s. IsUnmarkedIn (disk_of g disk) xs s ⊎ IsUnmarkedIn (disk_of g disk) ys s) (IsUnmarkedIn (disk_of g disk) (xs ++ ys))
      (λ s h. ⊎_elim (λ l. (has_left xs ys s l.0, l.1)) (λ r. (has_right xs ys s r.0, r.1)) h)
      (λ s h. ⊎_elim (λ l. inl (l, h.1)) (λ r. inr (r, h.1)) (has_cases xs ys s h.0))
      both (least_either (IsUnmarkedIn (disk_of g disk) xs) (IsUnmarkedIn (disk_of g disk) ys) one other both first second is)

  pub unmarked_none : IsLeast (IsUnmarkedIn (disk_of g disk) []) None
  unmarked_none = λ s h. false≢true h.0

  pub unmarked_more : (runs : List (ℕ × ℕ)) (i : ℕ) (one : Option ℕ) (least both : Option ℕ) → i < length runs
      → IsLeast (IsUnmarkedIn (disk_of g disk) (sectors_of (take i runs))) least
      → IsLeast (IsUnmarkedIn (disk_of g disk) (segment_sectors (get_or runs i (0, 0)))) one → both ≡ lesser_of least
      one
      → IsLeast (IsUnmarkedIn (disk_of g disk) (sectors_of (take (i + 1) runs))) both
  unmarked_more runs i one least both low before here is =
      let P : List ℕ → Type 0 = λ xs. IsLeast (IsUnmarkedIn (disk_of g disk) xs) both in
      subst P (sectors_more runs i low) (unmarked_then (sectors_of (take i runs)) (segment_sectors (get_or runs i (0, 0))) least one both before here is)

  -- and of all that are in use
  pub least_unmarked_is : (found : List ℕ) → IsListOfReached (disk_of g disk) found → (i : ℕ) → i ≡ length found
      → (least : Option ℕ) → IsLeast
      (Before (λ k. IsUnmarkedIn (disk_of g disk) (used_by (disk_of g disk) (get_or found k 0))) i) least
      → IsLeastBreach (disk_of g disk) 3 least
  unfolding owns
  least_unmarked_is found are i all least is =
      least_along (λ s. (n : ℕ) × (has found n ≡ true) × IsUnmarkedIn (disk_of g disk) (used_by (disk_of g disk) n) s) (Breaks (disk_of g disk) 3)
      (λ s h. unmarked ((are h.0).0 h.1) h.2.0 h.2.1)
      (λ s b. let u = unmarked_of g disk s b in (u.0, (are u.0).1 u.1, (u.2, u.3)))
      least (least_in_list (λ n. IsUnmarkedIn (disk_of g disk) (used_by (disk_of g disk) n)) found i all least is)
