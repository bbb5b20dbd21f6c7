-- Runs of name characters that are read byte by byte into the front of a buffer.
use Rattle.std.proofs.Common.{◌≡◌, ℕ, suc, ◌+◌, ◌-◌, ◌<◌, Option, Some, None, List, [], ◌∷◌, ◌++◌, length, set, take, refl, ap, ◌∙◌, append_assoc, sym, add-zero, true, false, arith}
use Rattle.std.specs.Prelude.{option_map, if◌then◌else◌}
use Rattle.std.proofs.lemmas.List.{take_more_set, append-nil}
use Rattle.std.proofs.Math.Nat.{sub-zero}
use Rattle.os9_base.specs.UserNames.{user_cell, goes_on, run_bytes}

-- a run whose first bytes were read into the front of a buffer goes on behind them
abbrev pub IsReadTo : (ℕ → Option ℕ) → ℕ → ℕ → ℕ → List ℕ → Type 0
IsReadTo cells at most count into =
    run_bytes cells at most ≡ option_map (λ rest. take count into ++ rest) (run_bytes cells (at + count) (most - count))

run_bytes-unnamed : (cells : ℕ → Option ℕ) (at most : ℕ) → user_cell cells at ≡ None → run_bytes cells at (suc most) ≡ None
run_bytes-unnamed cells at most is = rw is refl

run_bytes-named : (cells : ℕ → Option ℕ) (at most byte : ℕ) → user_cell cells at ≡ Some byte → run_bytes cells at
    (suc most) ≡ (if goes_on byte then option_map (λ run. byte ∷ run) (run_bytes cells (at + 1) most) else Some
    (byte ∷ []))
run_bytes-named cells at most byte is = rw is refl

longer : (front : List ℕ) (byte : ℕ) (rest : Option (List ℕ)) → option_map (λ run. front ++ run) (option_map (λ run. byte ∷ run) rest) ≡ option_map (λ run. (front ++ byte ∷ []) ++ run) rest
longer front byte None = refl
longer front byte (Some run) = rw append_assoc refl

-- nothing is read yet
pub IsReadTo-none : (cells : ℕ → Option ℕ) (at most : ℕ) (into : List ℕ) → IsReadTo cells at most 0 into
IsReadTo-none cells at most into = simp (add-zero, sub-zero) (by_run (run_bytes cells at most))
  where
    by_run : (run : Option (List ℕ)) → run ≡ option_map (λ rest. rest) run
    by_run None = refl
    by_run (Some run) = refl

-- all is read
pub IsReadTo-all : (cells : ℕ → Option ℕ) (at most count : ℕ) (into : List ℕ) → count ≡ most → IsReadTo cells at most count into → run_bytes cells at most ≡ Some (take most into)
IsReadTo-all cells at most count into all so_far =
    let nothing : most - count ≡ 0 = omega arith in
    let end : run_bytes cells (at + count) (most - count) ≡ Some [] = rw nothing refl in
    so_far ∙ ap (option_map (λ rest. take count into ++ rest)) end ∙ ap Some (append-nil (take count into) ∙ ap (λ n. take n into) all)

module _ (cells : ℕ → Option ℕ) (at most count : ℕ) (into : List ℕ) (left : count < most) (so_far : IsReadTo cells at most count into) where
  next : run_bytes cells at most ≡ option_map (λ rest. take count into ++ rest) (run_bytes cells (at + count) (suc (most - (count + 1))))
  next =
      let still : most - count ≡ suc (most - (count + 1)) = omega arith in
      so_far ∙ ap (λ n. option_map (λ rest. take count into ++ rest) (run_bytes cells (at + count) n)) still

  -- a byte that may not be used
  pub run-unusable : user_cell cells (at + count) ≡ None → run_bytes cells at most ≡ None
  run-unusable is = next ∙ ap (option_map (λ rest. take count into ++ rest)) (run_bytes-unnamed cells (at + count) (most - (count + 1)) is)

  module _ (byte : ℕ) (is : user_cell cells (at + count) ≡ Some byte) (within : count < length into) where
    written : take (count + 1) (set into count byte) ≡ take count into ++ byte ∷ []
    written = take_more_set into count byte within

    -- a byte that ends the run
    pub run-ends : goes_on byte ≡ false → run_bytes cells at most ≡ Some (take (count + 1) (set into count byte))
    run-ends test =
        let here : run_bytes cells (at + count) (suc (most - (count + 1))) ≡ Some (byte ∷ []) = run_bytes-named cells (at + count) (most - (count + 1)) byte is ∙ rw test refl in
        next ∙ ap (option_map (λ rest. take count into ++ rest)) here ∙ ap Some (sym written)

    -- another byte goes onto it
    pub run-more : goes_on byte ≡ true → IsReadTo cells at most (count + 1) (set into count byte)
    run-more test =
        let further : at + count + 1 ≡ at + (count + 1) = omega arith in
        let rest = run_bytes cells (at + (count + 1)) (most - (count + 1)) in
        let here : run_bytes cells (at + count) (suc (most - (count + 1))) ≡ option_map (λ run. byte ∷ run) rest =
        run_bytes-named cells (at + count) (most - (count + 1)) byte is ∙ rw (test, further) refl in
        next ∙ ap (option_map (λ rest. take count into ++ rest)) here ∙ longer (take count into) byte rest ∙ ap (λ front. option_map (λ run. front ++ run) rest) (sym written)
