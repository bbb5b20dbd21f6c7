-- The names of the images that were written, one after another.
use Rattle.std.proofs.Common.{◌≡◌, ◌⊎◌, ℕ, zero, suc, Some, List, [], ◌∷◌, ◌++◌, take, slice_get, refl, sym, ap, ◌∙◌, inl, inr, append_assoc, append-nil}
use Rattle.os9_words.specs.Notes.{HasWritten, Notes}

-- the first names are those before the last of them, and that one
take-suc : (n : ℕ) (names : List (List ℕ)) (name : List ℕ) → slice_get names n ≡ Some name → take (suc n) names ≡ take n names ++ name ∷ []
take-suc n [] name named = absurd (cc named)
take-suc zero (first ∷ names) name named = let same : first ≡ name = cc named in rw same refl
take-suc (suc n) (first ∷ names) name named = ap (λ rest. first ∷ rest) (take-suc n names name named)

-- none is written yet
pub noted-none : (names : List (List ℕ)) (notes : Notes) → HasWritten (take 0 names) notes notes
noted-none names notes = record {
  is = λ i. record {
    read = notes.read;
    written = sym (append-nil notes.written) i;
    err = notes.err;
    err_faults = notes.err_faults;
  };
}

module _ (n : ℕ) (names : List (List ℕ)) (name : List ℕ) (first mid next : Notes) (named : slice_get names n ≡ Some
    name) (so_far : HasWritten (take n names) first mid) (read : next.read ≡ mid.read) (err : next.err ≡ mid.err)
    (err_faults : next.err_faults ≡ mid.err_faults) where
  with-names : (written : List (List ℕ)) → next.written ≡ first.written ++ written → HasWritten written first next
  with-names written is = record {
    is = λ i. record {
      read = (read ∙ ap (λ (notes : Notes). notes.read) so_far.is) i;
      written = is i;
      err = (err ∙ ap (λ (notes : Notes). notes.err) so_far.is) i;
      err_faults = (err_faults ∙ ap (λ (notes : Notes). notes.err_faults) so_far.is) i;
    };
  }

  -- the next one was
  pub noted-more : next.written ≡ mid.written ++ name ∷ [] → HasWritten (take (suc n) names) first next
  noted-more written =
      with-names (take (suc n) names) (written ∙ ap (λ (notes : Notes). notes.written ++ name ∷ []) so_far.is ∙
      append_assoc first.written (take n names) (name ∷ []) ∙ ap (λ (names : List (List ℕ)). first.written ++
      names) (sym (take-suc n names name named)))

  -- it was or not, since memory was out
  pub noted-some : (next.written ≡ mid.written) ⊎ (next.written ≡ mid.written ++ name ∷ []) → (count : ℕ) × HasWritten (take count names) first next
  noted-some (inl same) = (n, with-names (take n names) (same ∙ ap (λ (notes : Notes). notes.written) so_far.is))
  noted-some (inr more) = (suc n, noted-more more)
