-- The 48 places of a segment list, where runs are written to them.
use Rattle.std.proofs.Common.{◌≡◌, ℕ, ◌+◌, ◌-◌, ◌<◌, ◌≤◌, suc, List, [], ◌∷◌, ◌++◌, length, take, set, replicate, All, sym, ap, ◌∙◌, append_assoc, arith, length-append, length-take-le}
use Rattle.std.proofs.lemmas.List.{take_at, set_at, set-append_left, set_split, drop_all, length-replicate}
use Rattle.rbf_segs.specs.declared.segs.Segs.TheInside.{Inside}
use Rattle.std.proofs.lemmas.List.Elements.{All-push, All-take}
use Rattle.rbf_model.specs.Segments.{sectors_of, shortened_segments}
use Rattle.rbf_segs.specs.Segments.{IsSegment}
use Rattle.rbf_segs.specs.Places.{in_places, HoldsSegments}
use Rattle.rbf_segs.proofs.Runs.{shortened-append, length-shortened, All-shortened}

-- places that hold this list, under its length
pub record HoldsList (segments : List (ℕ × ℕ)) (inside : Inside) : Type 0 where
  pub list : take inside.len inside.places ≡ segments
  pub kept : HoldsSegments inside

pub hold : (segments places : List (ℕ × ℕ)) (len : ℕ) → length segments ≤ 48 → All IsSegment segments
    → places ≡ in_places segments → len ≡ length segments → HoldsList segments (record { places = places; len = len })
hold segments places len few each zeros counted =
    let list : take len places ≡ segments = rw (zeros, counted) (take_at segments (replicate (48 - length segments) (0, 0)) (length segments) (λ _. length segments)) in
    record {
      list = list;
      kept = record {
        few = omega arith;
        counted = ap length list ∙ sym counted;
        zeros = zeros ∙ ap in_places (sym list);
        each = rw list each;
      };
    }

-- a run written to the first place behind the list
pub in_places-push : (segments : List (ℕ × ℕ)) (run : ℕ × ℕ) → length segments < 48 → set (in_places segments) (length segments) run ≡ in_places (segments ++ run ∷ [])
in_places-push segments run room =
    let zero : ℕ × ℕ = (0, 0) in
    let n = length segments in
    let k = 48 - length (segments ++ run ∷ []) in
    let places : 48 - n ≡ suc k = omega (arith, length-append segments (run ∷ [])) in
    ap (λ m. set (segments ++ replicate m zero) n run) places ∙ set_at segments zero (replicate k zero) run n (λ _. n) ∙ sym (append_assoc segments (run ∷ []) (replicate k zero))

-- a run written to the last place of the list
pub in_places-last : (segments : List (ℕ × ℕ)) (run : ℕ × ℕ) → 1 ≤ length segments → set (in_places segments) (length segments - 1) run ≡ in_places (take (length segments - 1) segments ++ run ∷ [])
in_places-last segments run some =
    let zero : ℕ × ℕ = (0, 0) in
    let n = length segments - 1 in
    let zeros = replicate (48 - length segments) zero in
    let in_list : n < length segments = omega arith in
    let whole : length segments ≤ suc n = omega arith in
    let again : set segments n run ≡ take n segments ++ run ∷ [] = set_split segments n run in_list ∙ ap (λ rest. take n segments ++ run ∷ rest) (drop_all (suc n) segments whole) in
    let same : length segments ≡ length (take n segments ++ run ∷ []) = omega (arith, length-append (take n segments) (run ∷ []), length-take-le n segments (omega arith)) in
    set-append_left segments zeros n run in_list ∙ ap (λ front. front ++ zeros) again ∙ ap (λ m. (take n segments ++ run ∷ []) ++ replicate (48 - m) zero) same

-- what the writes of a `Segs` leave
module _ (inside : Inside) (fits : HoldsSegments inside) (run : ℕ × ℕ) (whole : IsSegment run) (place : ℕ) where
  pub pushed : place ≡ inside.len → inside.len < 48 → HoldsList (take inside.len inside.places ++ run ∷ []) (record { places = set inside.places place run; len = inside.len + 1 })
  pushed behind room =
      let segments = take inside.len inside.places in
      let counted = fits.counted in
      let length_now = length-append segments (run ∷ []) in
      let place_is : place ≡ length segments = omega arith in
      hold (segments ++ run ∷ []) (set inside.places place run) (inside.len + 1) (omega arith)
      (All-push IsSegment segments run fits.each whole) (ap (λ p. set p place run) fits.zeros ∙ ap
      (λ n. set (in_places segments) n run) place_is ∙ in_places-push segments run (omega arith)) (omega arith)

  pub replaced : place ≡ inside.len - 1 → 1 ≤ inside.len
      → HoldsList (take (length (take inside.len inside.places) - 1) (take inside.len inside.places) ++ run ∷ [])
      (record { places = set inside.places place run; len = inside.len })
  replaced last some =
      let segments = take inside.len inside.places in
      let counted = fits.counted in
      let front = take (length segments - 1) segments in
      let few = fits.few in
      let length_now : length (front ++ run ∷ []) ≡ length segments = omega (arith, length-append front (run ∷ []), length-take-le (length segments - 1) segments (omega arith)) in
      let place_is : place ≡ length segments - 1 = omega arith in
      hold (front ++ run ∷ []) (set inside.places place run) inside.len (omega arith) (All-push IsSegment front run
      (All-take IsSegment (length segments - 1) segments fits.each) whole) (ap (λ p. set p place run) fits.zeros ∙
      ap (λ n. set (in_places segments) n run) place_is ∙ in_places-last segments run (omega arith)) (omega arith)

pub cut_short : (inside : Inside) (fits : HoldsSegments inside) (sectors : ℕ) (places : List (ℕ × ℕ)) (len : ℕ)
    → sectors ≤ length (sectors_of (take inside.len inside.places)) → places ≡ shortened_segments sectors
    inside.places ++ replicate (length inside.places - len) (0, 0)
    → len ≡ length (shortened_segments sectors inside.places)
    → HoldsList (shortened_segments sectors (take inside.len inside.places)) (record { places = places; len = len })
cut_short inside fits sectors places len within cut counted =
    let segments = take inside.len inside.places in
    let zero : ℕ × ℕ = (0, 0) in
    let few = fits.few in
    let length_is = fits.counted in
    let kept = shortened_segments sectors segments in
    let all : length inside.places ≡ 48 = ap length fits.zeros ∙ omega (arith, length-append segments (replicate (48 - length segments) zero), length-replicate (48 - length segments) zero) in
    let same : shortened_segments sectors inside.places ≡ kept = ap (shortened_segments sectors) fits.zeros ∙ shortened-append sectors segments (replicate (48 - length segments) zero) within in
    let len_is : len ≡ length kept = counted ∙ ap length same in
    let behind : length inside.places - len ≡ 48 - length kept = omega arith in
    hold kept places len (omega (arith, length-shortened sectors segments)) (All-shortened sectors segments fits.each)
    (cut ∙ ap (λ front. front ++ replicate (length inside.places - len) zero) same ∙ ap
    (λ n. kept ++ replicate n zero) behind) len_is
