-- One more byte of a name.
use Rattle.std.proofs.Common.{◌≡◌, ℕ, ◌+◌, ◌<◌, ◌≤◌, Bool, true, false, List, [], ◌∷◌, ◌++◌, Option, Some, None, length, map, take, drop, get_or, All, refl, ap, inl, inr, ◌⊎◌, suc, ◌-◌, set, replicate, ◌∙◌, subst, append_assoc, arith, rules, length-append, length-take}
use Rattle.std.specs.Prelude.{if◌then◌else◌, nat_lt, nat_le, ◌&&◌, option_map}
use Rattle.std.proofs.lemmas.List.{map_more, at_drop_more, drop_all, length-map}
use Rattle.std.proofs.Math.Seq.{set-append_seam}
use Rattle.std.proofs.lemmas.List.Elements.{All-push}
use Rattle.std.proofs.lemmas.Bool.Decides.{nat_tests}
use Rattle.os9_base.specs.Name.{is_name_character, is_stored_character, low_bits, name_run, marked_run, if_name, stored_name, EndsName}

-- a name character at the place goes onto the run; the run goes on behind it unless it has bit 7
pub name_run-more : (bytes : List ℕ) (i : ℕ) → i < length bytes → is_name_character (low_bits (get_or bytes i 0)) ≡
    true → name_run bytes ≡ map low_bits (take i bytes) ++ name_run (drop i bytes) → name_run bytes ≡ map low_bits
    (take (i + 1) bytes) ++ (if nat_lt (get_or bytes i 0) 128 then name_run (drop (i + 1) bytes) else [])
name_run-more bytes i lt is so_far =
    let step : name_run (drop i bytes) ≡ (if is_name_character (low_bits (get_or bytes i 0)) then low_bits
    (get_or bytes i 0) ∷ (if nat_lt (get_or bytes i 0) 128 then name_run (drop (i + 1) bytes) else []) else []) =
    at_drop_more name_run bytes i 0 lt in
    rw (map_more low_bits bytes i 0 lt, append_assoc) (so_far ∙ ap (λ rest. map low_bits (take i bytes) ++ rest) (step ∙ rw is refl))

-- the next byte of a stored name, which goes on behind it or ends with it
marked_run-step : (bytes : List ℕ) (i : ℕ) → i < length bytes → is_stored_character (low_bits (get_or bytes i 0)) ≡
    true → marked_run (drop i bytes) ≡ (if nat_lt (get_or bytes i 0) 128 then option_map
    (λ run. get_or bytes i 0 ∷ run) (marked_run (drop (i + 1) bytes)) else Some (low_bits (get_or bytes i 0) ∷ []))
marked_run-step bytes i lt is =
    let step : marked_run (drop i bytes) ≡ (if is_stored_character (low_bits (get_or bytes i 0)) then
    (if nat_lt (get_or bytes i 0) 128 then option_map (λ run. get_or bytes i 0 ∷ run)
    (marked_run (drop (i + 1) bytes)) else Some (low_bits (get_or bytes i 0) ∷ [])) else None) = at_drop_more
    marked_run bytes i 0 lt in
    step ∙ rw is refl

map-joined : (front : List ℕ) (byte : ℕ) (rest : Option (List ℕ)) → option_map (λ run. front ++ run) (option_map (λ run. byte ∷ run) rest) ≡ option_map (λ run. (front ++ byte ∷ []) ++ run) rest
map-joined front byte None = refl
map-joined front byte (Some run) = rw append_assoc refl

-- a character without bit 7 goes onto the name
pub marked_run-more : (bytes : List ℕ) (i : ℕ) → i < length bytes → is_stored_character (low_bits (get_or bytes i 0))
    ≡ true → get_or bytes i 0 < 128 → marked_run bytes ≡ option_map (λ run. map low_bits (take i bytes) ++ run)
    (marked_run (drop i bytes)) → marked_run bytes ≡ option_map (λ run. map low_bits (take (i + 1) bytes) ++ run)
    (marked_run (drop (i + 1) bytes))
marked_run-more bytes i lt is below so_far =
    let low : low_bits (get_or bytes i 0) ≡ get_or bytes i 0 = omega arith in
    let test : nat_lt (get_or bytes i 0) 128 ≡ true = search (nat_tests, rules) in
    let step : marked_run (drop i bytes) ≡ option_map (λ run. get_or bytes i 0 ∷ run) (marked_run (drop (i + 1) bytes)) = marked_run-step bytes i lt is ∙ rw test refl in
    rw (map_more low_bits bytes i 0 lt, low)
    (so_far ∙ ap (λ rest. option_map (λ run. map low_bits (take i bytes) ++ run) rest) step ∙ map-joined
    (map low_bits (take i bytes)) (get_or bytes i 0) (marked_run (drop (i + 1) bytes)))

-- a character with bit 7 ends the name
pub marked_run-end : (bytes : List ℕ) (i : ℕ) → i < length bytes → is_stored_character (low_bits (get_or bytes i 0)) ≡
    true → 128 ≤ get_or bytes i 0 → marked_run bytes ≡ option_map (λ run. map low_bits (take i bytes) ++ run)
    (marked_run (drop i bytes)) → marked_run bytes ≡ Some (map low_bits (take (i + 1) bytes))
marked_run-end bytes i lt is above so_far =
    let test : nat_lt (get_or bytes i 0) 128 ≡ false = search (nat_tests, rules) in
    let step : marked_run (drop i bytes) ≡ Some (low_bits (get_or bytes i 0) ∷ []) = marked_run-step bytes i lt is ∙ rw test refl in
    rw (map_more low_bits bytes i 0 lt) (so_far ∙ rw step refl)

-- characters that are stored ones, and one more
pub All-characters-more : (bytes : List ℕ) (i : ℕ) → i < length bytes → is_stored_character
    (low_bits (get_or bytes i 0)) ≡ true → All (λ c. is_stored_character c ≡ true) (map low_bits (take i bytes))
    → All (λ c. is_stored_character c ≡ true) (map low_bits (take (i + 1) bytes))
All-characters-more bytes i lt is so_far =
    rw (map_more low_bits bytes i 0 lt) (All-push (λ c. is_stored_character c ≡ true) (map low_bits (take i bytes)) (low_bits (get_or bytes i 0)) so_far is)

-- each name character is a stored one
pub is_stored_character-from_name : (c : ℕ) → is_name_character c ≡ true → is_stored_character c ≡ true
is_stored_character-from_name c is = grind (arith, nat_tests)

-- a name character without bit 7 goes onto the run
pub name_run-goes_on : (bytes : List ℕ) (i : ℕ) → i < length bytes → is_name_character (low_bits (get_or bytes i 0)) ≡
    true → get_or bytes i 0 < 128 → name_run bytes ≡ map low_bits (take i bytes) ++ name_run (drop i bytes)
    → name_run bytes ≡ map low_bits (take (i + 1) bytes) ++ name_run (drop (i + 1) bytes)
name_run-goes_on bytes i lt is below so_far =
    let test : nat_lt (get_or bytes i 0) 128 ≡ true = search (nat_tests, rules) in
    name_run-more bytes i lt is so_far ∙ rw test refl

-- a stored name is that of its run
pub EndsName-from_run : (bytes : List ℕ) (len : ℕ) → 1 ≤ len → len ≤ 29 → len ≤ length bytes
    → All (λ c. is_stored_character c ≡ true) (map low_bits (take len bytes)) → marked_run bytes ≡ Some
    (map low_bits (take len bytes)) → EndsName bytes len
EndsName-from_run bytes len some short in_bytes characters run =
    let size : length (map low_bits (take len bytes)) ≡ len = simp (length-map, length-take) (omega arith) in
    let fits : (nat_le 1 (length (map low_bits (take len bytes))) && nat_le (length (map low_bits (take len bytes))) 29) ≡ true = rw size (grind (arith, nat_tests)) in
    record {
      in_bytes = in_bytes;
      is_name = record { not_empty = omega arith; short = omega arith; characters = characters };
      stored = rw run (rw fits refl);
    }

longer-is-none : (front rest : List ℕ) → 29 < length front + length rest → if_name (front ++ rest) ≡ None
longer-is-none front rest long =
    let test : nat_le (length (front ++ rest)) 29 ≡ false = rw (length-append front rest) (search (nat_tests, rules)) in
    rw test (grind (arith, nat_tests))

some-run : (x : Option (List ℕ)) (byte : ℕ) → option_map (λ run. byte ∷ run) x ≡ None ⊎ ((run : List ℕ) × (option_map (λ run. byte ∷ run) x ≡ Some run) × (1 ≤ length run))
some-run None byte = inl refl
some-run (Some run) byte = inr (byte ∷ run, refl, omega arith)

-- a run that ends has a character
marked_run-some : (bytes : List ℕ) → (marked_run bytes ≡ None) ⊎ ((run : List ℕ) × (marked_run bytes ≡ Some run) × (1 ≤ length run))
marked_run-some [] = inl refl
marked_run-some (byte ∷ bytes) = cases (is_stored_character (low_bits byte)) (nat_lt byte 128)
  where
    cases : (stored below : Bool)
        → let run = (if stored then (if below then option_map (λ run. byte ∷ run) (marked_run bytes) else Some
        (low_bits byte ∷ [])) else None) in (run ≡ None) ⊎ ((found : List ℕ) × (run ≡ Some found) ×
        (1 ≤ length found))
    cases false below = inl refl
    cases true false = inr (low_bits byte ∷ [], refl, omega arith)
    cases true true = some-run (marked_run bytes) byte

-- after 29 characters without an end there is no name
pub stored_name-too_long : (bytes : List ℕ) (i : ℕ) → 29 ≤ i → i ≤ length bytes → marked_run bytes ≡ option_map
    (λ run. map low_bits (take i bytes) ++ run) (marked_run (drop i bytes)) → stored_name bytes ≡ None
stored_name-too_long bytes i long in_bytes so_far =
    let size : length (map low_bits (take i bytes)) ≡ i = simp (length-map, length-take) (omega arith) in
    elim (marked_run-some (drop i bytes)) [
      | inl none ↦ rw (so_far, none) refl
      | inr some ↦ rw (so_far, some.1) (longer-is-none (map low_bits (take i bytes)) some.0 (omega (arith, some.2)))
    ]

-- neither is there one where a character is no stored one
pub stored_name-no_character : (bytes : List ℕ) (i : ℕ) → i < length bytes → is_stored_character
    (low_bits (get_or bytes i 0)) ≡ false → marked_run bytes ≡ option_map (λ run. map low_bits (take i bytes) ++ run)
    (marked_run (drop i bytes)) → stored_name bytes ≡ None
stored_name-no_character bytes i lt is so_far =
    let step : marked_run (drop i bytes) ≡ (if is_stored_character (low_bits (get_or bytes i 0)) then
    (if nat_lt (get_or bytes i 0) 128 then option_map (λ run. get_or bytes i 0 ∷ run)
    (marked_run (drop (i + 1) bytes)) else Some (low_bits (get_or bytes i 0) ∷ [])) else None) = at_drop_more
    marked_run bytes i 0 lt in
    rw (so_far, step, is) refl

-- nor where the bytes are at their end
pub stored_name-no_end : (bytes : List ℕ) (i : ℕ) → length bytes ≤ i → marked_run bytes ≡ option_map (λ run. map low_bits (take i bytes) ++ run) (marked_run (drop i bytes)) → stored_name bytes ≡ None
stored_name-no_end bytes i end so_far = rw (so_far, drop_all i bytes end) refl

-- one more character of a field that is filled from its front
pub fill-more : (bytes : List ℕ) (field : List ℕ) (i : ℕ) → i < length bytes → i < 29 → field ≡ map low_bits
    (take i bytes) ++ replicate (29 - i) 0 → set field i (low_bits (get_or bytes i 0)) ≡ map low_bits
    (take (i + 1) bytes) ++ replicate (29 - (i + 1)) 0
fill-more bytes field i lt room so_far =
    let size : length (map low_bits (take i bytes)) ≡ i = simp (length-map, length-take) (omega arith) in
    let left : 29 - i ≡ suc (29 - (i + 1)) = omega arith in
    let seam = set-append_seam (map low_bits (take i bytes)) 0 (replicate (29 - (i + 1)) 0) (low_bits (get_or bytes i 0)) in
    rw (so_far, left, map_more low_bits bytes i 0 lt, append_assoc)
    (subst (λ n. set (map low_bits (take i bytes) ++ 0 ∷ replicate (29 - (i + 1)) 0) n
    (low_bits (get_or bytes i 0)) ≡ map low_bits (take i bytes) ++ low_bits (get_or bytes i 0) ∷ replicate
    (29 - (i + 1)) 0) size seam)
