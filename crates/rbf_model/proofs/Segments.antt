-- The sectors of a segment list, and the bytes in them.
use Rattle.std.proofs.Common.{◌≡◌, ◌≢◌, ◌⊎◌, ℕ, zero, suc, ◌+◌, ◌*◌, ◌<◌, ◌≤◌, true, ◌==◌, List, [], ◌∷◌, ◌++◌, length, take, refl, sym, ◌∙◌, ⊎_elim, arith, length-append, length-take, eqb-true, eq-eqb, leb-true}
use Rattle.std.specs.Prelude.{flat_map}
use Rattle.std.specs.List.{range_with_len}
use Rattle.std.proofs.lemmas.Bool.{or_cases, or_left, or_right, false≢true, and_parts, cases_eq}
use Rattle.std.proofs.lemmas.List.Folds.{list_any-append}
use Rattle.std.proofs.lemmas.List.Elements.{All-head, All-tail}
use Rattle.rbf_model.specs.Disk.{disk_of, IsDisk}
use Rattle.rbf_model.specs.Geometry.{LieWithin, Geometry, is_within}
use Rattle.rbf_model.specs.Segments.{segment_sectors, sectors_of, has}
use Rattle.rbf_model.specs.File.{segment_bytes, has_room}

-- a number of two lists joined
pub has_cases : (xs ys : List ℕ) (s : ℕ) → has (xs ++ ys) s ≡ true → (has xs s ≡ true) ⊎ (has ys s ≡ true)
has_cases xs ys s h = or_cases (has xs s) (has ys s) (sym (list_any-append (λ m. m == s) xs ys) ∙ h)

pub has_left : (xs ys : List ℕ) (s : ℕ) → has xs s ≡ true → has (xs ++ ys) s ≡ true
has_left xs ys s h = list_any-append (λ m. m == s) xs ys ∙ or_left (has xs s) (has ys s) h

pub has_right : (xs ys : List ℕ) (s : ℕ) → has ys s ≡ true → has (xs ++ ys) s ≡ true
has_right xs ys s h = list_any-append (λ m. m == s) xs ys ∙ or_right (has xs s) (has ys s) h

-- the numbers of a range
pub range_has : (a n s : ℕ) → has (range_with_len a n) s ≡ true → (a ≤ s) × (s < a + n)
range_has a zero s h = absurd (false≢true h)
range_has a (suc n) s h =
    ⊎_elim (λ here. let e : a ≡ s = eqb-true a s here in (omega arith, omega arith))
    (λ later. let r = range_has (a + 1) n s later in (omega arith, omega arith))
    (or_cases (a == s) (has (range_with_len (a + 1) n) s) h)

pub has_range : (a n s : ℕ) → a ≤ s → s < a + n → has (range_with_len a n) s ≡ true
has_range a zero s low high = absurd (omega arith)
has_range a (suc n) s low high =
    ⊎_elim (λ same. or_left (a == s) (has (range_with_len (a + 1) n) s) (eq-eqb a s same))
    (λ differ. or_right (a == s) (has (range_with_len (a + 1) n) s)
    (let ne : a ≢ s = differ in has_range (a + 1) n s (omega arith) (omega arith)))
    (cases_eq a s)

-- the sectors of segments within the volume are within it
pub sectors_within : (g : Geometry) (segments : List (ℕ × ℕ)) → LieWithin g segments → (s : ℕ) → has (sectors_of segments) s ≡ true
    → (1 ≤ s) × (s < g.total)
sectors_within g [] all s h = absurd (false≢true h)
sectors_within g (segment ∷ segments) all s h =
    ⊎_elim
    (λ here.
    let r = range_has segment.0 segment.1 s here in
    let w = and_parts _ _ (All-head (λ x. is_within g x ≡ true) segment segments all) in
    let low : 1 ≤ segment.0 = leb-true 1 segment.0 w.0 in
    let high : segment.0 + segment.1 ≤ g.total = leb-true (segment.0 + segment.1) g.total w.1 in
    (omega arith, omega arith))
    (λ later. sectors_within g segments (All-tail (λ x. is_within g x ≡ true) segment segments all) s later)
    (has_cases (segment_sectors segment) (sectors_of segments) s h)

-- sectors of 256 bytes each, one after the other
pub length-joined : (disk : ℕ → List ℕ) (xs : List ℕ) → ((s : ℕ) → has xs s ≡ true → length (disk s) ≡ 256) → length (flat_map disk xs) ≡ 256 * length xs
length-joined disk [] full = refl
length-joined disk (x ∷ xs) full =
    let first = full x (or_left (x == x) (has xs x) (eq-eqb x x refl)) in
    let others = length-joined disk xs (λ s h. full s (or_right (x == s) (has xs s) h)) in
    length-append (disk x) (flat_map disk xs) ∙ omega (arith, first, others)

-- a file's contents are as long as its size, which its sectors hold
pub length-contents : (g : Geometry) (disk : ℕ → List ℕ) (segments : List (ℕ × ℕ)) (size : ℕ) → IsDisk (disk_of g disk) → LieWithin g segments
    → has_room segments size ≡ true → length (take size (segment_bytes disk segments)) ≡ size
length-contents g disk segments size sectors all room =
    let whole = length-joined disk (sectors_of segments) (λ s h. sectors s (sectors_within g segments all s h).1) in
    let fits : size ≤ 256 * length (sectors_of segments) = leb-true size (256 * length (sectors_of segments)) room in
    length-take size (segment_bytes disk segments) ∙ omega (arith, whole, fits)
