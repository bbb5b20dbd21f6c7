-- The bytes of a new entry.
use Rattle.std.proofs.Common.{◌≡◌, ◌≤◌, ◌<◌, ℕ, zero, suc, ◌+◌, ◌-◌, ◌&&◌, not, true, nat_le, eqb, Some, List, [], ◌∷◌, ◌++◌, length, take, get_or, set, replicate, slice_get, append_assoc, length-take, refl, sym, ap, ◌∙◌, subst, arith}
use Rattle.std.proofs.lemmas.Bool.{and_parts, leb-true}
use Rattle.std.proofs.lemmas.List.{take_more, take_all}
use Rattle.std.proofs.Math.Seq.{set-append_seam}
use Rattle.os9_base.specs.Name.{is_stored_character, padded_name, IsName, marked_name}

-- where a character stands
got_at : (name : List ℕ) (n c : ℕ) → slice_get name n ≡ Some c → (n < length name) × (c ≡ get_or name n 0)
got_at [] n c is = absurd (cc)
got_at (x ∷ xs) zero c is = let same : x ≡ c = cc in (omega arith, sym same)
got_at (x ∷ xs) (suc n) c is = let there = got_at xs n c is in (omega (arith, there.0), there.1)

pub marked_last : (name : List ℕ) (n c : ℕ) → length name ≡ n + 1 → slice_get name n ≡ Some c → slice_get (marked_name name) n ≡ Some (c + 128)
marked_last [] n c len last = absurd (omega arith)
marked_last (x ∷ []) zero c len last =
    let same : x ≡ c = cc in
    ap (λ y. Some (y + 128)) same
marked_last (x ∷ []) (suc n) c len last = absurd (omega arith)
marked_last (x ∷ y ∷ name) zero c len last = absurd (omega arith)
marked_last (x ∷ y ∷ name) (suc n) c len last = marked_last (y ∷ name) n c (omega arith) last

pub marked_before : (name : List ℕ) (n c : ℕ) → n + 1 < length name → slice_get name n ≡ Some c → slice_get (marked_name name) n ≡ Some c
marked_before [] n c more is = absurd (omega arith)
marked_before (x ∷ []) n c more is = absurd (omega arith)
marked_before (x ∷ y ∷ name) zero c more is = is
marked_before (x ∷ y ∷ name) (suc n) c more is = marked_before (y ∷ name) n c (omega arith) is

-- a stored character has no bit 7
pub stored_below : (c : ℕ) → is_stored_character c ≡ true → c ≤ 126
stored_below c is =
    leb-true c 126 (and_parts (nat_le 33 c) (nat_le c 126) (and_parts (nat_le 33 c && nat_le c 126) (not (eqb c 47)) is).0).1

pub last_below : (name : List ℕ) (n c : ℕ) → IsName name → slice_get name n ≡ Some c → c + 128 < 256
last_below name n c is last =
    let there = got_at name n c last in
    let stored : is_stored_character (get_or name n 0) ≡ true = is.characters n 0 there.0 in
    let below : get_or name n 0 ≤ 126 = stored_below (get_or name n 0) stored in
    omega (arith, there.1)

pub length_marked : (name : List ℕ) → length (marked_name name) ≡ length name
length_marked [] = refl
length_marked (c ∷ []) = refl
length_marked (c ∷ next ∷ name) = ap suc (length_marked (next ∷ name))

-- one more byte of a field that is filled from its front
pub fill_more : (xs field : List ℕ) (size i b : ℕ) → slice_get xs i ≡ Some b → i < size → field ≡ take i xs ++ replicate (size - i) 0 → set field i b ≡ take (i + 1) xs ++ replicate (size - (i + 1)) 0
fill_more xs field size i b is room so_far =
    let there = got_at xs i b is in
    let below = there.0 in
    let long : length (take i xs) ≡ i = omega (arith, length-take i xs) in
    let left : size - i ≡ suc (size - (i + 1)) = omega arith in
    let rest : List ℕ = replicate (size - (i + 1)) 0 in
    let seam = set-append_seam (take i xs) 0 rest b in
    let at : set (take i xs ++ 0 ∷ rest) i b ≡ take i xs ++ b ∷ rest = subst (λ n. set (take i xs ++ 0 ∷ rest) n b ≡ take i xs ++ b ∷ rest) long seam in
    let more : take (i + 1) xs ≡ take i xs ++ b ∷ [] = take_more xs i 0 there.0 ∙ ap (λ x. take i xs ++ x ∷ []) (sym there.1) in
    ap (λ f. set f i b) (so_far ∙ ap (λ n. take i xs ++ replicate n 0) left)
    ∙ at
    ∙ sym (ap (λ t. t ++ rest) more ∙ append_assoc (take i xs) (b ∷ []) rest)

three_more : (m : ℕ) → replicate {A = ℕ} (suc (suc (suc m))) 0 ≡ replicate {A = ℕ} m 0 ++ 0 ∷ 0 ∷ 0 ∷ []
three_more zero = refl
three_more (suc m) = ap (λ xs. 0 ∷ xs) (three_more m)

pub filled_all : (name field : List ℕ) (i : ℕ) → i ≡ length name → i ≤ 29 → field ≡ take i (marked_name name) ++ replicate (32 - i) 0 → field ≡ padded_name (marked_name name) ++ 0 ∷ 0 ∷ 0 ∷ []
filled_all name field i all short so_far =
    let long = length (marked_name name) in
    let size : i ≡ long = all ∙ sym (length_marked name) in
    let left : 32 - long ≡ suc (suc (suc (29 - long))) = omega arith in
    so_far ∙ ap (λ n. take n (marked_name name) ++ replicate (32 - n) 0) size
    ∙ ap (λ xs. xs ++ replicate (32 - long) 0) (take_all long (marked_name name) (omega arith))
    ∙ ap (λ xs. marked_name name ++ xs) (ap (λ n. replicate n 0) left ∙ three_more (29 - long))
    ∙ sym (append_assoc (marked_name name) (replicate (29 - long) 0) (0 ∷ 0 ∷ 0 ∷ []))

three_set : (front : List ℕ) (x y z a b c : ℕ)
    → set (set (set (front ++ x ∷ y ∷ z ∷ []) (length front) a) (suc (length front)) b) (suc (suc (length front))) c ≡ front ++ a ∷ b ∷ c ∷ []
three_set [] x y z a b c = refl
three_set (f ∷ front) x y z a b c = ap (λ xs. f ∷ xs) (three_set front x y z a b c)

-- the number is written behind the name
pub numbered : (name bytes : List ℕ) (a b c : ℕ) → length (padded_name (marked_name name)) ≡ 29 → bytes ≡ padded_name (marked_name name) ++ 0 ∷ 0 ∷ 0 ∷ []
    → set (set (set bytes 29 a) 30 b) 31 c ≡ padded_name (marked_name name) ++ a ∷ b ∷ c ∷ []
numbered name bytes a b c size is =
    let front : List ℕ = padded_name (marked_name name) in
    ap (λ xs. set (set (set xs 29 a) 30 b) 31 c) is
    ∙ subst (λ n. set (set (set (front ++ 0 ∷ 0 ∷ 0 ∷ []) n a) (suc n) b) (suc (suc n)) c ≡ front ++ a ∷ b ∷ c ∷ []) size (three_set front 0 0 0 a b c)
