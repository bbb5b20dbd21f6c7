-- The characters of a name, one after the other.
use Rattle.std.proofs.Common.{◌≡◌, ℕ, ◌+◌, Some, List, [], ◌∷◌, ◌++◌, take, get_or, slice_get, append_assoc, sym, ap, ◌∙◌}
use Rattle.std.proofs.lemmas.List.{take_more}
use Rattle.std.proofs.lemmas.Option.{slice_get_within, get_or_from_slice_get}

pub name_more : (start so_far now name : List ℕ) (i b : ℕ) → so_far ≡ start ++ take i name → slice_get name i ≡ Some b → now ≡ so_far ++ b ∷ [] → now ≡ start ++ take (i + 1) name
name_more start so_far now name i b is got more =
    let next : take (i + 1) name ≡ take i name ++ b ∷ [] =
    take_more name i 0 (slice_get_within name i b got) ∙ ap (λ x. take i name ++ x ∷ []) (get_or_from_slice_get name i b 0 got) in
    more ∙ ap (λ xs. xs ++ b ∷ []) is ∙ append_assoc start (take i name) (b ∷ []) ∙ ap (λ xs. start ++ xs) (sym next)
