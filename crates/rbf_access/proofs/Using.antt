-- The sectors that a read uses, in its cache.
use Rattle.std.proofs.Common.{◌≡◌, ℕ, ◌+◌, ◌-◌, ◌≤◌, Some, List, take, slice_get, slice_index, sym, subst, ◌∙◌, arith, ⊎_elim}
use Rattle.std.proofs.lemmas.Bool.{cases_lt}
use Rattle.std.proofs.lemmas.Option.{get_or_from_slice_get}
use Rattle.rbf_model.specs.Segments.{sectors_of}
use Rattle.sector_cache.specs.declared.sector.Sector.{Sector}
use Rattle.sector_cache.proofs.Callers.{held_of_first, held_of_more}
use Rattle.rbf_access.specs.Cached.{SectorsAreHeld, IsHeldSector, IsSectorUsed, StayFirst}

pub none_used : (segments : List (ℕ × ℕ)) (from count : ℕ) (held : List Sector) → count ≡ 0 → StayFirst segments from count held held
none_used segments from count held none = record {
  first = λ few place low high. absurd (omega arith);
  others = λ n m few is. let same : n + count ≡ n = omega arith in subst (λ k. IsHeldSector (take k held) m) (sym same) is;
}

-- a sector that is held is used: no call is made
pub one_hit : (segments : List (ℕ × ℕ)) (start : List Sector) (from place lsn : ℕ) (held news : List Sector) (before mid now : ℕ) → slice_get (sectors_of segments) place ≡ Some lsn → from ≤ place
    → ((end : ℕ) → place ≤ end → SectorsAreHeld start segments from end → (mid ≡ before) × SectorsAreHeld held segments from end)
    → (IsHeldSector held lsn → now ≡ mid) → ((m : ℕ) → IsHeldSector held lsn → IsHeldSector held m → IsHeldSector news m)
    → (end : ℕ) → place + 1 ≤ end → SectorsAreHeld start segments from end → (now ≡ before) × SectorsAreHeld news segments from end
one_hit segments start from place lsn held news before mid now at low so_far hit still end high all =
    let was = so_far end (omega arith) all in
    let number : slice_index (sectors_of segments) place ≡ lsn = get_or_from_slice_get (sectors_of segments) place lsn 0 at in
    let here : IsHeldSector held lsn = subst (IsHeldSector held) number (was.1 place low (omega arith)) in
    (hit here ∙ was.0, λ p under over. still (slice_index (sectors_of segments) p) here (was.1 p under over))

-- one sector more has been used
pub one_used : (segments : List (ℕ × ℕ)) (from place lsn : ℕ) (start held news : List Sector) → slice_get (sectors_of segments) place ≡ Some lsn → from ≤ place
    → StayFirst segments from (place - from) start held → IsSectorUsed lsn held news → StayFirst segments from (place + 1 - from) start news
one_used segments from place lsn start held news at low so_far used =
    let number : slice_index (sectors_of segments) place ≡ lsn = get_or_from_slice_get (sectors_of segments) place lsn 0 at in
    let count : place + 1 - from ≡ place - from + 1 = omega arith in
    subst (λ k. StayFirst segments from k start news) (sym count)
    (record {
      first = λ few p under over. ⊎_elim
          (λ before. used.others (place - from) (slice_index (sectors_of segments) p) (omega arith) (so_far.first (omega arith) p under (omega arith)))
          (λ past.
          let is : p ≡ place = omega arith in
          subst (λ k. IsHeldSector (take (place - from + 1) news) (slice_index (sectors_of segments) k)) (sym is)
          (subst (IsHeldSector (take (place - from + 1) news)) (sym number) (held_of_more 0 lsn 1 (place - from + 1) news (omega arith) used.first)))
          (cases_lt p place);
      others = λ n m few is.
          let more : n + (place - from + 1) ≡ n + (place - from) + 1 = omega arith in
          subst (λ k. IsHeldSector (take k news) m) (sym more) (used.others (n + (place - from)) m (omega arith) (so_far.others n m (omega arith) is));
    })

-- a read whose sectors are all held makes no call
pub all_hits : (held mid : List Sector) (descriptor : ℕ) (segs segments : List (ℕ × ℕ)) (from span count before half now : ℕ) → segs ≡ segments → span ≡ count
    → IsHeldSector held descriptor → SectorsAreHeld held segments from (from + count) → (IsHeldSector held descriptor
    → half ≡ before) → ((m : ℕ) → IsHeldSector held descriptor → IsHeldSector held m → IsHeldSector mid m)
    → (SectorsAreHeld mid segs from (from + span) → now ≡ half) → now ≡ before
all_hits held mid descriptor segs segments from span count before half now same spans here all hit still hits =
    hits (λ place low high. still (slice_index (sectors_of segs) place) here
    (subst (λ (s : List (ℕ × ℕ)). IsHeldSector held (slice_index (sectors_of s) place)) (sym same) (all place low (omega arith)))) ∙ hit here

-- the sectors of a read are held afterwards, if they are 256 at most
pub all_held : (held mid news : List Sector) (descriptor : ℕ) (segs segments : List (ℕ × ℕ)) (from span count : ℕ) → segs ≡ segments → span ≡ count
    → IsSectorUsed descriptor held mid → StayFirst segs from span mid news → 1 + count ≤ 256 → IsHeldSector news descriptor × SectorsAreHeld news segments from (from + count)
all_held held mid news descriptor segs segments from span count same spans used stay few = (
  held_of_first 0 descriptor (1 + span) news (stay.others 1 descriptor (omega arith) used.first),
  λ place low high. held_of_first 0 (slice_index (sectors_of segments) place) span news
      (subst (λ (s : List (ℕ × ℕ)). IsHeldSector (take span news) (slice_index (sectors_of s) place)) same (stay.first (omega arith) place low (omega arith))),
)
