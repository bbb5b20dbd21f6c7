-- The sectors of a file that lie in one cluster, from a place on.
use Rattle.std.proofs.Common.{◌≡◌, ℕ, ◌+◌, ◌-◌, ◌*◌, ◌/◌, ◌<◌, ◌≤◌, suc, min, true, false, cond, ◌==◌, List, [], ◌∷◌, Some, length, drop, slice_get, get_or, refl, sym, ap, ◌∙◌, arith, eq-eqb, eqb-true, length-append}
use Rattle.std.specs.Prelude.{take_while, if◌then◌else◌}
use Rattle.std.proofs.lemmas.List.FromFn.{length-range_with_len}
use Rattle.std.specs.Int.{div_ceil}
use Rattle.std.proofs.lemmas.Grind.{div_ceil_times}
use Rattle.std.proofs.lemmas.Bool.{false_from_ne_true}
use Rattle.std.proofs.lemmas.List.{drop_more, drop_all}
use Rattle.std.proofs.lemmas.List.Sums.{take_while-cons}
use Rattle.std.proofs.lemmas.Option.{slice_get_within, get_or_from_slice_get}
use Rattle.rbf_model.specs.Segments.{segment_sectors, sectors_of, shortened_segments}
use Rattle.rbf_change.specs.Contents.{sector_count}
use Rattle.rbf_write.specs.Kept.{sectors_beside, kept_sectors}

-- how many of the sectors from a place on lie in a cluster, before the first that does not
abbrev pub in_one : ℕ → ℕ → List ℕ → ℕ → ℕ
in_one k cluster sectors place = length (take_while (λ s. s / k == cluster) (drop place sectors))

-- those before this place lie in it
pub record IsBesideSoFar (k cluster : ℕ) (sectors : List ℕ) (place next : ℕ) : Type 0 where
  pub count : in_one k cluster sectors place ≡ next - place + in_one k cluster sectors next

pub beside_begins : (k cluster : ℕ) (sectors : List ℕ) (place : ℕ) → IsBesideSoFar k cluster sectors place place
beside_begins k cluster sectors place = record { count = omega arith }

module _ (k cluster : ℕ) (sectors : List ℕ) (place next : ℕ) (far : IsBesideSoFar k cluster sectors place next) (behind : place ≤ next) where
  -- what is left begins with the next sector
  left_is : (s : ℕ) → slice_get sectors next ≡ Some s → take_while (λ t. t / k == cluster) (drop next sectors) ≡ cond
      (s / k == cluster) (s ∷ take_while (λ t. t / k == cluster) (drop (next + 1) sectors)) []
  left_is s got =
      ap (take_while (λ t. t / k == cluster)) (drop_more sectors next 0 (slice_get_within sectors next s got) ∙ ap (λ t. t ∷ drop (next + 1) sectors) (get_or_from_slice_get sectors next s 0 got))
      ∙ take_while-cons (λ t. t / k == cluster) s (drop (next + 1) sectors)

  pub beside_more : (s divisor : ℕ) → slice_get sectors next ≡ Some s → divisor ≡ k → s / divisor ≡ cluster → IsBesideSoFar k cluster sectors place (next + 1)
  beside_more s divisor got same inside =
      let passes : (s / k == cluster) ≡ true = eq-eqb (s / k) cluster (ap (λ d. s / d) (sym same) ∙ inside) in
      let one : in_one k cluster sectors next ≡ suc (in_one k cluster sectors (next + 1)) =
      ap length (left_is s got ∙ ap (λ b. cond b (s ∷ take_while (λ t. t / k == cluster) (drop (next + 1) sectors)) []) passes) in
      let far_count = far.count in
      record { count = omega arith }

  -- the next one does not
  pub beside_ends : (s divisor : ℕ) → slice_get sectors next ≡ Some s → divisor ≡ k → (s / divisor ≡ cluster → ⊥) → next ≡ place + in_one k cluster sectors place
  beside_ends s divisor got same outside =
      let fails : (s / k == cluster) ≡ false = false_from_ne_true (s / k == cluster) (λ h. outside (ap (λ d. s / d) same ∙ eqb-true (s / k) cluster h)) in
      let none : in_one k cluster sectors next ≡ 0 = ap length (left_is s got ∙ ap (λ b. cond b (s ∷ take_while (λ t. t / k == cluster) (drop (next + 1) sectors)) []) fails) in
      let far_count = far.count in
      omega arith

  -- there is no next one
  pub beside_all : next ≡ length sectors → next ≡ place + in_one k cluster sectors place
  beside_all end =
      let none : in_one k cluster sectors next ≡ 0 = ap (λ left. length (take_while (λ t. t / k == cluster) left)) (drop_all next sectors (omega arith)) in
      let far_count = far.count in
      omega arith

-- the cluster is that of the sector before the place
pub beside_is : (k n cluster divisor before : ℕ) (sectors : List ℕ) (place end : ℕ) → divisor ≡ k
    → cluster ≡ before / divisor → before ≡ get_or (n ∷ sectors) place 0 → end ≡ place + in_one k cluster sectors place
    → end ≡ place + sectors_beside k n sectors place
beside_is k n cluster divisor before sectors place end same quotient is counted =
    counted ∙ ap (λ c. place + in_one k c sectors place) (quotient ∙ ap (λ d. before / d) same ∙ ap (λ b. b / k) is)

-- how many sectors bytes need
pub needed_is : (size count : ℕ) → count ≡ div_ceil size 256 → count ≡ sector_count size
needed_is size count is =
    let bounds = div_ceil_times size 256 (omega arith) in
    let low : size ≤ div_ceil size 256 * 256 = bounds.0 in
    let high : div_ceil size 256 * 256 < size + 256 = bounds.1 in
    omega arith

-- what is kept of the segments
pub kept_is : (k n size needed end : ℕ) (segments new : List (ℕ × ℕ)) → needed ≡ sector_count size
    → end ≡ needed + sectors_beside k n (sectors_of segments) needed → new ≡ shortened_segments end segments
    → new ≡ shortened_segments (kept_sectors k n segments size) segments
kept_is k n size needed end segments new counted ends is =
    is ∙ ap (λ m. shortened_segments m segments) (ends ∙ ap (λ c. c + sectors_beside k n (sectors_of segments) c) counted)

-- all sectors of segments are kept, and with them the segments
pub shortened_whole : (m : ℕ) (runs : List (ℕ × ℕ)) → ((i : ℕ) → i < length runs → 1 ≤ (get_or runs i (0, 0)).1) → length (sectors_of runs) ≤ m → shortened_segments m runs ≡ runs
shortened_whole m [] some all = refl
shortened_whole m (run ∷ runs) some all =
    let first : 1 ≤ run.1 = some 0 (omega arith) in
    let split = length_run run runs in
    let there : (m == 0) ≡ false = false_from_ne_true (m == 0) (λ h. let none = eqb-true m 0 h in absurd (omega arith)) in
    let whole : min m run.1 ≡ run.1 = omega arith in
    ap (λ t. if t then [] else ((run.0, min m run.1) ∷ shortened_segments (m - run.1) runs)) there
    ∙ ap (λ c. (run.0, c) ∷ shortened_segments (m - run.1) runs) whole
    ∙ ap (λ rest. run ∷ rest) (shortened_whole (m - run.1) runs (λ i low. some (suc i) (omega arith)) (omega arith))
  where
    length_run : (run : ℕ × ℕ) (runs : List (ℕ × ℕ)) → length (sectors_of (run ∷ runs)) ≡ run.1 + length (sectors_of runs)
    length_run run runs = length-append (segment_sectors run) (sectors_of runs) ∙ ap (λ c. c + length (sectors_of runs)) (length-range_with_len run.0 run.1)
