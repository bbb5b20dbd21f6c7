-- Parts of a text, one after another, and the mark of its last character.
use Rattle.std.proofs.Common.{◌≡◌, ◌≤◌, ℕ, suc, ◌+◌, ◌-◌, ◌<◌, List, [], ◌∷◌, ◌++◌, length, take, drop, get_or, refl, ap, sym, ◌∙◌, arith, add-one, drop-cons, append_assoc, append-nil}
use Rattle.std.proofs.lemmas.List.{drop_all, take_all, take_more}
use Rattle.os9_base.specs.Name.{marked_name}

module _ (bytes_of : List (List ℕ) → List ℕ) (bytes : List ℕ → List ℕ) (step : (part : List ℕ) (rest : List (List ℕ)) → bytes_of (part ∷ rest) ≡ bytes part ++ bytes_of rest)
    (parts : List (List ℕ)) (place : ℕ) (code whole : List ℕ) (so_far : code ++ bytes_of (drop place parts) ≡ whole) where
  pub pushed-next : (part longer : List ℕ) → place < length parts → part ≡ get_or parts place part → longer ≡ code ++ bytes part →
      longer ++ bytes_of (drop (place + 1) parts) ≡ whole
  pushed-next part longer below is pushed =
      let rest : drop place parts ≡ part ∷ drop (place + 1) parts =
      drop-cons parts place part below ∙ ap (λ p. p ∷ drop (suc place) parts) (sym is) ∙ ap (λ n. part ∷ drop n parts) (sym (add-one place)) in
      ap (λ xs. xs ++ bytes_of (drop (place + 1) parts)) pushed ∙ append_assoc code (bytes part) (bytes_of (drop (place + 1) parts))
      ∙ ap (λ xs. code ++ xs) (sym (step part (drop (place + 1) parts))) ∙ ap (λ ps. code ++ bytes_of ps) (sym rest) ∙ so_far

  pub pushed-all : bytes_of [] ≡ [] → place ≡ length parts → code ≡ whole
  pushed-all none all =
      let end : drop place parts ≡ [] = drop_all place parts (omega arith) in
      sym (append-nil code) ∙ ap (λ xs. code ++ xs) (sym none) ∙ ap (λ ps. code ++ bytes_of ps) (sym end) ∙ so_far

-- a text with bit 7 on its last character
marked-last : (front : List ℕ) (last : ℕ) → marked_name (front ++ last ∷ []) ≡ front ++ (last + 128) ∷ []
marked-last [] last = refl
marked-last (c ∷ []) last = refl
marked-last (c ∷ d ∷ front) last = ap (λ rest. c ∷ rest) (marked-last (d ∷ front) last)

marked-of : (text : List ℕ) → 1 ≤ length text → take (length text - 1) text ++ (get_or text (length text - 1) 0 + 128) ∷ [] ≡ marked_name text
marked-of text some =
    let whole : take (length text - 1) text ++ get_or text (length text - 1) 0 ∷ [] ≡ text =
    sym (take_more text (length text - 1) 0 (omega arith)) ∙ take_all (length text - 1 + 1) text (omega arith) in
    sym (marked-last (take (length text - 1) text) (get_or text (length text - 1) 0)) ∙ ap marked_name whole

-- the front of a text was put, and then its last character
pub pushed-marked : (code front whole text : List ℕ) (byte : ℕ) → 1 ≤ length text → front ≡ code ++ take (length text - 1) text →
    byte ≡ get_or text (length text - 1) 0 + 128 → whole ≡ front ++ byte ∷ [] → whole ≡ code ++ marked_name text
pushed-marked code front whole text byte some first is then_ =
    then_ ∙ ap (λ xs. xs ++ byte ∷ []) first ∙ append_assoc code (take (length text - 1) text) (byte ∷ [])
    ∙ ap (λ b. code ++ (take (length text - 1) text ++ b ∷ [])) is ∙ ap (λ xs. code ++ xs) (marked-of text some)
