-- The instruction's bytes, fetched one after the other.
use Rattle.std.proofs.Common.{◌≡◌, ℕ, suc, ◌+◌, ◌-◌, ◌<◌, ◌≤◌, Option, Some, None, List, [], ◌∷◌, ◌++◌, ap, sym, ◌∙◌, append_assoc, arith}
use Rattle.std.proofs.lemmas.List.{append-nil}
use Rattle.cpu_model.specs.Registers.{wrapped}
use Rattle.cpu_model.specs.Step.{window}

pub window_some : (cells : ℕ → Option ℕ) (at n : ℕ) (byte : ℕ) → cells at ≡ Some byte
    → window cells at (suc n) ≡ byte ∷ window cells (wrapped (at + 1)) n
unfolding window
window_some cells at n byte e = rw e

window_none : (cells : ℕ → Option ℕ) (at n : ℕ) → cells at ≡ None → window cells at (suc n) ≡ []
unfolding window
window_none cells at n e = rw e

one_less : (n k : ℕ) → k < n → n - k ≡ suc (n - (k + 1))
one_less n k h = omega arith

pub one_more : (cells : ℕ → Option ℕ) (at n k byte : ℕ) (before whole : List ℕ) → k < n → cells at ≡ Some byte
    → whole ≡ before ++ window cells at (n - k)
    → whole ≡ (before ++ (byte ∷ [])) ++ window cells (wrapped (at + 1)) (n - (k + 1))
one_more cells at n k byte before whole h e w =
    w ∙ ap (λ m. before ++ window cells at m) (one_less n k h) ∙ ap (λ xs. before ++ xs) (window_some cells at (n - (k + 1)) byte e)
    ∙ sym (append_assoc before (byte ∷ []) (window cells (wrapped (at + 1)) (n - (k + 1))))

pub no_more : (cells : ℕ → Option ℕ) (at n k : ℕ) (before whole : List ℕ) → k < n → cells at ≡ None
    → whole ≡ before ++ window cells at (n - k) → before ≡ whole
no_more cells at n k before whole h e w =
    sym (w ∙ ap (λ m. before ++ window cells at m) (one_less n k h) ∙ ap (λ xs. before ++ xs) (window_none cells at (n - (k + 1)) e) ∙ append-nil before)

-- no byte is left to be fetched
pub all_fetched : (cells : ℕ → Option ℕ) (at n k : ℕ) (before whole : List ℕ) → n ≤ k
    → whole ≡ before ++ window cells at (n - k) → before ≡ whole
unfolding window
all_fetched cells at n k before whole h w =
    let e : n - k ≡ 0 = omega arith in
    sym (w ∙ ap (λ m. before ++ window cells at m) e ∙ append-nil before)
