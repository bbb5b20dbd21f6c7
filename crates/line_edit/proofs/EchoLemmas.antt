-- What is put byte by byte.
use Rattle.std.proofs.Common.{◌≡◌, ℕ, ◌+◌, ◌<◌, List, [], ◌∷◌, ◌++◌, length, take, get_or, sym, ap, ◌∙◌, append_assoc}
use Rattle.std.proofs.lemmas.List.{take_more, flat_map_more}
use Rattle.io_model.specs.Edit.{rubouts}

-- one byte more is taken away
pub rubouts-more : (before now bytes : List ℕ) (i : ℕ) → i < length bytes → now ≡ before ++ rubouts (take i bytes) → now ++ 8 ∷ [] ++ 32 ∷ [] ++ 8 ∷ [] ≡ before ++ rubouts (take (i + 1) bytes)
rubouts-more before now bytes i inside is =
    let one : List ℕ = 8 ∷ 32 ∷ 8 ∷ [] in
    let joined : now ++ 8 ∷ [] ++ 32 ∷ [] ++ 8 ∷ [] ≡ now ++ one = append_assoc (now ++ 8 ∷ []) (32 ∷ []) (8 ∷ []) ∙ append_assoc now (8 ∷ []) (32 ∷ 8 ∷ []) in
    let more : rubouts (take (i + 1) bytes) ≡ rubouts (take i bytes) ++ one = ap rubouts (take_more bytes i 0 inside) ∙ sym (flat_map_more (λ (byte : ℕ). one) [] (take i bytes) (get_or bytes i 0)) in
    joined ∙ ap (λ (bytes : List ℕ). bytes ++ one) is ∙ append_assoc before (rubouts (take i bytes)) one ∙ sym (ap (λ (bytes : List ℕ). before ++ bytes) more)
