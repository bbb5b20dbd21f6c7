-- A disk with other bytes in one sector.
use Rattle.std.proofs.Common.{◌≡◌, ◌≢◌, ℕ, zero, suc, ◌+◌, ◌-◌, ◌*◌, ◌/◌, ◌%◌, ◌<◌, ◌==◌, true, false, List, [], ◌∷◌, ◌++◌, length, take, drop, get_or, refl, sym, ap, ◌∙◌, subst, ⊎_elim, arith, length-append, eqb-true, eq-eqb}
use mathlib.Core.Path.{fun_ext}
use Rattle.std.specs.Prelude.{flat_map, slice_index}
use Rattle.std.specs.Int.{bit_at}
use Rattle.std.proofs.lemmas.Bool.{cond-true, cond-false, false_from_ne_true, or_parts, or_left, or_right, or_cases, false≢true, both_ways, cases_eq}
use Rattle.std.proofs.lemmas.List.{drop_at, get_or_append_left, get_or-append-add}
use Rattle.rbf_model.specs.Fields.{size_field, segments_field}
use Rattle.rbf_model.specs.Segments.{AreDistinct, sectors_of, has}
use Rattle.rbf_model.specs.File.{file_from, file_at}
use Rattle.rbf_model.specs.Space.{is_marked}
use Rattle.rbf_model.specs.Writes.{put, put_at}
use Rattle.rbf_model.proofs.Pieces.{put_at_append}

pub put_here : (disk : ℕ → List ℕ) (s : ℕ) (bytes : List ℕ) → put disk s bytes s ≡ bytes
put_here disk s bytes = cond-true (s == s) bytes (disk s) (eq-eqb s s refl)

pub put_beside : (disk : ℕ → List ℕ) (s : ℕ) (bytes : List ℕ) (n : ℕ) → n ≢ s → put disk s bytes n ≡ disk n
put_beside disk s bytes n differ = cond-false (n == s) bytes (disk n) (false_from_ne_true (n == s) (λ h. differ (eqb-true n s h)))

-- every sector still has 256 bytes
pub length-put : (disk : ℕ → List ℕ) (s : ℕ) (bytes : List ℕ) (n : ℕ) → length bytes ≡ 256 → length (disk n) ≡ 256 → length (put disk s bytes n) ≡ 256
length-put disk s bytes n whole was =
    ⊎_elim (λ same. ap length (ap (put disk s bytes) same ∙ put_here disk s bytes) ∙ whole) (λ differ. ap length (put_beside disk s bytes n differ) ∙ was)
    (cases_eq n s)

-- a mark that is in another sector
pub marked_beside : (disk : ℕ → List ℕ) (s : ℕ) (bytes : List ℕ) (c : ℕ) → 1 + c / 8 / 256 ≢ s → is_marked (put disk s bytes) c ≡ is_marked disk c
unfolding is_marked
marked_beside disk s bytes c differ =
    ap (λ sector. bit_at (slice_index sector (c / 8 % 256)) (7 - c % 8) == 1) (put_beside disk s bytes (1 + c / 8 / 256) differ)

-- and one that is in it
pub marked_here : (disk : ℕ → List ℕ) (s : ℕ) (bytes : List ℕ) (c : ℕ) → 1 + c / 8 / 256 ≡ s → is_marked (put disk s bytes) c ≡ (bit_at (slice_index bytes (c / 8 % 256)) (7 - c % 8) == 1)
unfolding is_marked
marked_here disk s bytes c same =
    ap (λ sector. bit_at (slice_index sector (c / 8 % 256)) (7 - c % 8) == 1) (ap (put disk s bytes) same ∙ put_here disk s bytes)

-- a number that is not in a list is none of its numbers
pub not_has_first : (x : ℕ) (xs : List ℕ) (s : ℕ) → has (x ∷ xs) s ≡ false → (x ≢ s) × (has xs s ≡ false)
not_has_first x xs s none =
    let parts = or_parts (x == s) (has xs s) none in
    (λ same. both_ways (x == s) parts.0 (eq-eqb x s same), parts.1)

-- the bytes of other sectors
pub joined_beside : (disk : ℕ → List ℕ) (s : ℕ) (bytes : List ℕ) (xs : List ℕ) → has xs s ≡ false → flat_map (put disk s bytes) xs ≡ flat_map disk xs
joined_beside disk s bytes [] none = refl
joined_beside disk s bytes (x ∷ xs) none =
    let parts = not_has_first x xs s none in
    ap (λ b. b ++ flat_map (put disk s bytes) xs) (put_beside disk s bytes x parts.0) ∙ ap (λ b. disk x ++ b) (joined_beside disk s bytes xs parts.1)

-- a file whose sectors are others
pub file_from_beside : (disk : ℕ → List ℕ) (s : ℕ) (bytes descriptor : List ℕ) → has (sectors_of (segments_field descriptor)) s ≡ false
    → file_from (put disk s bytes) descriptor ≡ file_from disk descriptor
file_from_beside disk s bytes descriptor none =
    ap (λ whole. record (file_from disk descriptor) { contents = take (size_field descriptor) whole })
    (joined_beside disk s bytes (sectors_of (segments_field descriptor)) none)

-- a file whose descriptor and sectors are others
pub file_at_beside : (disk : ℕ → List ℕ) (s : ℕ) (bytes : List ℕ) (n : ℕ) → has (n ∷ sectors_of (segments_field (disk n))) s ≡ false
    → file_at (put disk s bytes) n ≡ file_at disk n
file_at_beside disk s bytes n none =
    let parts = not_has_first n (sectors_of (segments_field (disk n))) s none in
    ap (file_from (put disk s bytes)) (put_beside disk s bytes n parts.0) ∙ file_from_beside disk s bytes (disk n) parts.1

-- where a number of a list stands
pub place_of : (xs : List ℕ) (s : ℕ) → has xs s ≡ true → (k : ℕ) × (k < length xs) × (get_or xs k s ≡ s)
place_of [] s found = absurd (false≢true found)
place_of (x ∷ xs) s found =
    ⊎_elim (λ here. (0, omega arith, eqb-true x s here)) (λ later. let w = place_of xs s later in let p = w.1 in (suc w.0, omega arith, w.2))
    (or_cases (x == s) (has xs s) found)

-- a list without repeats: its rest, and its first number
pub distinct_rest : (x : ℕ) (xs : List ℕ) → AreDistinct (x ∷ xs) → AreDistinct xs
distinct_rest x xs h = λ i j d low high. h (suc i) (suc j) d (omega arith) (omega arith)

pub distinct_first : (x : ℕ) (xs : List ℕ) → AreDistinct (x ∷ xs) → has xs x ≡ false
distinct_first x xs h =
    false_from_ne_true (has xs x) (λ found. let w = place_of xs x found in h 0 (suc w.0) x (omega arith) (let p = w.1 in omega arith) (sym w.2))

-- the second of two lists
pub distinct_second : (xs ys : List ℕ) → AreDistinct (xs ++ ys) → AreDistinct ys
distinct_second xs ys h = λ i j d low high.
    let one = get_or-append-add xs ys i d in
    let other = get_or-append-add xs ys j d in
    λ same. h (length xs + i) (length xs + j) d (omega arith) (omega (arith, length-append xs ys)) (one ∙ same ∙ sym other)

-- a sector with its own bytes
pub put_same : (disk : ℕ → List ℕ) (s : ℕ) → put disk s (disk s) ≡ disk
put_same disk s = fun_ext (λ n. ⊎_elim (λ same. ap (put disk s (disk s)) same ∙ put_here disk s (disk s) ∙ ap disk (sym same)) (λ differ. put_beside disk s (disk s) n differ) (cases_eq n s))

-- two lists that have no number in common
pub distinct_parts : (xs ys : List ℕ) (s : ℕ) → AreDistinct (xs ++ ys) → has xs s ≡ true → has ys s ≡ true → ⊥
distinct_parts xs ys s h one other =
    let w = place_of xs s one in
    let u = place_of ys s other in
    let p = w.1 in
    let q = u.1 in
    h w.0 (length xs + u.0) s (omega arith) (omega (arith, length-append xs ys))
    (get_or_append_left xs ys s w.0 w.1 ∙ w.2 ∙ sym (get_or-append-add xs ys u.0 s ∙ u.2))

-- a number of the list is in it
pub has_place : (xs : List ℕ) (j : ℕ) → j < length xs → has xs (get_or xs j 0) ≡ true
has_place [] j low = absurd (omega arith)
has_place (x ∷ xs) zero low = or_left (x == x) (has xs x) (eq-eqb x x refl)
has_place (x ∷ xs) (suc j) low = or_right (x == get_or xs j 0) (has xs (get_or xs j 0)) (has_place xs j (omega arith))

-- the bytes of sectors of which the one in place j is changed
pub joined_put : (disk : ℕ → List ℕ) (bytes : List ℕ) (xs : List ℕ) (j : ℕ) → AreDistinct xs → ((x : ℕ) → has xs x ≡ true → length (disk x) ≡ 256) → length bytes ≡ 256
    → j < length xs → flat_map (put disk (get_or xs j 0) bytes) xs ≡ put_at (flat_map disk xs) (256 * j) bytes
joined_put disk bytes [] j distinct full whole low = absurd (omega arith)
joined_put disk bytes (x ∷ xs) zero distinct full whole low =
    ap (λ b. b ++ flat_map (put disk x bytes) xs) (put_here disk x bytes)
    ∙ ap (λ b. bytes ++ b) (joined_beside disk x bytes xs (distinct_first x xs distinct)
    ∙ sym (drop_at (disk x) (flat_map disk xs) (length bytes) (full x (or_left (x == x) (has xs x) (eq-eqb x x refl)) ∙ sym whole)))
    ∙ (let none : length bytes ≡ 0 + length bytes = omega arith in ap (λ k. bytes ++ drop k (disk x ++ flat_map disk xs)) none)
joined_put disk bytes (x ∷ xs) (suc j) distinct full whole low =
    let first = full x (or_left (x == x) (has xs x) (eq-eqb x x refl)) in
    let differ : x ≢ get_or xs j 0 = λ same. both_ways (has xs x) (distinct_first x xs distinct) (subst (λ y. has xs y ≡ true) (sym same) (has_place xs j (omega arith))) in
    let there : length (disk x) + 256 * j ≡ 256 * suc j = omega arith in
    ap (λ b. b ++ flat_map (put disk (get_or xs j 0) bytes) xs) (put_beside disk (get_or xs j 0) bytes x differ)
    ∙ ap (λ b. disk x ++ b)
    (joined_put disk bytes xs j (distinct_rest x xs distinct) (λ y h. full y (or_right (x == y) (has xs y) h)) whole (omega arith))
    ∙ sym (put_at_append (disk x) (flat_map disk xs) bytes (256 * j))
    ∙ ap (λ k. put_at (disk x ++ flat_map disk xs) k bytes) there
