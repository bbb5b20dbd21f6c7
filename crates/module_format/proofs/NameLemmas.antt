-- A name with bit 7 on its last character.
use Rattle.std.proofs.Common.{◌≡◌, ◌≤◌, ◌<◌, ℕ, zero, suc, ◌+◌, ◌&&◌, not, true, false, nat_le, nat_lt, eqb, Some, option_map, All, List, [], ◌∷◌, ◌++◌, length, take, get_or, slice_get, refl, sym, ap, ◌∙◌, arith}
use Rattle.std.specs.Option.{option_and_then}
use Rattle.std.proofs.lemmas.Bool.{and_parts, leb-true, le-leb, lt-ltb, le-ltb}
use Rattle.std.proofs.lemmas.List.{take_more}
use Rattle.std.proofs.Math.Nat.{mod-eq_of_lt}
use Rattle.os9_base.specs.Name.{is_stored_character, low_bits, marked_run, if_name, stored_name, IsName, marked_name}

-- where a character stands
got-at : (name : List ℕ) (n c : ℕ) → slice_get name n ≡ Some c → (n < length name) × (c ≡ get_or name n 0)
got-at [] n c is = absurd (cc)
got-at (x ∷ xs) zero c is = let same : x ≡ c = cc in (omega arith, sym same)
got-at (x ∷ xs) (suc n) c is = let there = got-at xs n c is in (omega (arith, there.0), there.1)

pub marked_name-last : (name : List ℕ) (n c : ℕ) → length name ≡ n + 1 → slice_get name n ≡ Some c → marked_name name ≡ take n name ++ (c + 128) ∷ []
marked_name-last [] n c len last = absurd (omega arith)
marked_name-last (x ∷ []) zero c len last =
    let same : x ≡ c = cc in
    ap (λ y. (y + 128) ∷ []) same
marked_name-last (x ∷ []) (suc n) c len last = absurd (omega arith)
marked_name-last (x ∷ y ∷ name) zero c len last = absurd (omega arith)
marked_name-last (x ∷ y ∷ name) (suc n) c len last =
    ap (λ l. x ∷ l) (marked_name-last (y ∷ name) n c (omega arith) last)

-- a stored character has no bit 7
stored-below : (c : ℕ) → is_stored_character c ≡ true → c ≤ 126
stored-below c is =
    leb-true c 126 (and_parts (nat_le 33 c) (nat_le c 126) (and_parts (nat_le 33 c && nat_le c 126) (not (eqb c 47)) is).0).1

pub last-below : (name : List ℕ) (n c : ℕ) → IsName name → slice_get name n ≡ Some c → c + 128 < 256
last-below name n c is last =
    let there = got-at name n c last in
    let stored : is_stored_character (get_or name n 0) ≡ true = is.characters n 0 there.0 in
    let below : get_or name n 0 ≤ 126 = stored-below (get_or name n 0) stored in
    omega (arith, there.1)

-- ---- the name that its bytes are
marked_run-byte : (c : ℕ) (bytes : List ℕ) → is_stored_character c ≡ true → marked_run (c ∷ bytes) ≡ option_map (λ run. c ∷ run) (marked_run bytes)
marked_run-byte c bytes is =
    let low : low_bits c ≡ c = mod-eq_of_lt {n = c} {m = 128} (let b = stored-below c is in omega arith) in
    let small : nat_lt c 128 ≡ true = lt-ltb c 128 (let b = stored-below c is in omega arith) in
    rw (low, is, small) refl

marked_run-last : (c : ℕ) (bytes : List ℕ) → is_stored_character c ≡ true → marked_run ((c + 128) ∷ bytes) ≡ Some (c ∷ [])
marked_run-last c bytes is =
    let b : c ≤ 126 = stored-below c is in
    let low : low_bits (c + 128) ≡ c = omega arith in
    let large : nat_lt (c + 128) 128 ≡ false = le-ltb (c + 128) 128 (omega arith) in
    rw (low, is, large) refl

marked_run-marked : (c : ℕ) (name rest : List ℕ) → All (λ c. is_stored_character c ≡ true) (c ∷ name) → marked_run (marked_name (c ∷ name) ++ rest) ≡ Some (c ∷ name)
marked_run-marked c [] rest stored = marked_run-last c rest (stored 0 0 (omega arith))
marked_run-marked c (next ∷ name) rest stored =
    marked_run-byte c (marked_name (next ∷ name) ++ rest) (stored 0 0 (omega arith))
    ∙ ap (option_map (λ run. c ∷ run)) (marked_run-marked next name rest (λ k d below. stored (suc k) d (omega arith)))

-- the name that stands at the front of its bytes
pub stored_name-marked : (name rest : List ℕ) → IsName name → stored_name (marked_name name ++ rest) ≡ Some name
stored_name-marked [] rest is = absurd (omega (arith, is.not_empty))
stored_name-marked (c ∷ name) rest is =
    let run : marked_run (marked_name (c ∷ name) ++ rest) ≡ Some (c ∷ name) = marked_run-marked c name rest is.characters in
    let long : nat_le 1 (length (c ∷ name)) ≡ true = le-leb 1 (length (c ∷ name)) is.not_empty in
    let short : nat_le (length (c ∷ name)) 29 ≡ true = le-leb (length (c ∷ name)) 29 is.short in
    ap (option_and_then if_name) run ∙ simp (long, short)

pub length-marked_name : (name : List ℕ) → length (marked_name name) ≡ length name
length-marked_name [] = refl
length-marked_name (c ∷ []) = refl
length-marked_name (c ∷ next ∷ name) = ap suc (length-marked_name (next ∷ name))

pub take-next : (name : List ℕ) (n c : ℕ) → slice_get name n ≡ Some c → take (n + 1) name ≡ take n name ++ c ∷ []
take-next name n c is =
    let there = got-at name n c is in
    take_more name n 0 there.0 ∙ ap (λ x. take n name ++ x ∷ []) (sym there.1)
