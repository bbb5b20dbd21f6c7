-- Bytes that are tested or written one after the other.
use Rattle.std.proofs.Common.{◌≡◌, ℕ, ◌+◌, ◌<◌, ◌==◌, ◌&&◌, Bool, true, false, is_some, Option, Some, List, [], ◌∷◌, length, get_or, drop, refl, ap, sym, ◌∙◌, add-one, drop-cons, cond}
use Rattle.os9_base.specs.Cells.{put_cell}
use Rattle.cpu_model.specs.Registers.{wrapped}
use Rattle.cpu_model.specs.Effects.{bytes_from}
use Rattle.cpu_model.specs.Step.{all_named, write_cells}

-- the first of the bytes that are left
pub bytes_left : (at k : ℕ) (bytes : List ℕ) → k < length bytes
    → bytes_from at (drop k bytes) ≡ (at, get_or bytes k 0) ∷ bytes_from (wrapped (at + 1)) (drop (k + 1) bytes)
bytes_left at k bytes h = rw (add-one k, drop-cons bytes k 0) refl

both_true : (a b : Bool) → (a && b) ≡ true → (a ≡ true) × (b ≡ true)
both_true true b h = (refl, h)
both_true false b h = cc

pub are_both : (a b : Bool) → a ≡ true → b ≡ true → (a && b) ≡ true
are_both a b p q = rw (p, q)

-- a written byte leaves an address named that was
one_named_after_put : (cells : ℕ → Option ℕ) (at byte address : ℕ)
    → is_some (cells address) ≡ true → is_some (put_cell cells at byte address) ≡ true
one_named_after_put cells at byte address h =
    let P : Bool → Type 0 = λ b. is_some (cond b (Some byte) (cells address)) ≡ true in
    elim (address == at) as P [ true ↦ refl | false ↦ h ]

named_after_put : (cells : ℕ → Option ℕ) (at byte : ℕ) (ws : List (ℕ × ℕ))
    → all_named cells ws ≡ true → all_named (put_cell cells at byte) ws ≡ true
named_after_put cells at byte [] h = refl
named_after_put cells at byte (w ∷ ws) h =
    let both = both_true (is_some (cells w.0)) (all_named cells ws) h in
    are_both _ _ (one_named_after_put cells at byte w.0 both.0) (named_after_put cells at byte ws both.1)

pub not_all_named : (cells : ℕ → Option ℕ) (at k : ℕ) (bytes : List ℕ) (whole : Bool) → k < length bytes
    → all_named cells (bytes_from at (drop k bytes)) ≡ whole → is_some (cells at) ≡ false → false ≡ whole
not_all_named cells at k bytes whole h e n =
    let f = ap (all_named cells) (bytes_left at k bytes h) in
    let g : all_named cells (bytes_from at (drop k bytes)) ≡ false = f ∙ rw n in
    sym g ∙ e

pub still_named : (cells : ℕ → Option ℕ) (at k : ℕ) (bytes : List ℕ) (whole : Bool) → k < length bytes
    → all_named cells (bytes_from at (drop k bytes)) ≡ whole → is_some (cells at) ≡ true
    → all_named cells (bytes_from (wrapped (at + 1)) (drop (k + 1) bytes)) ≡ whole
still_named cells at k bytes whole h e n =
    let f = ap (all_named cells) (bytes_left at k bytes h) in
    let g : all_named cells (bytes_from at (drop k bytes)) ≡ all_named cells (bytes_from (wrapped (at + 1)) (drop (k + 1) bytes)) = f ∙ rw n in
    sym g ∙ e

pub named_when_written : (cells after : ℕ → Option ℕ) (at k : ℕ) (bytes : List ℕ) → k < length bytes
    → all_named cells (bytes_from at (drop k bytes)) ≡ true → after ≡ put_cell cells at (get_or bytes k 0)
    → all_named after (bytes_from (wrapped (at + 1)) (drop (k + 1) bytes)) ≡ true
named_when_written cells after at k bytes h e p =
    let f = ap (all_named cells) (bytes_left at k bytes h) in
    let both = both_true (is_some (cells at)) (all_named cells (bytes_from (wrapped (at + 1)) (drop (k + 1) bytes))) (sym f ∙ e) in
    rw p (named_after_put cells at (get_or bytes k 0) _ both.1)

pub written_so_far : (cells after whole : ℕ → Option ℕ) (at k : ℕ) (bytes : List ℕ) → k < length bytes
    → write_cells cells (bytes_from at (drop k bytes)) ≡ whole → after ≡ put_cell cells at (get_or bytes k 0)
    → write_cells after (bytes_from (wrapped (at + 1)) (drop (k + 1) bytes)) ≡ whole
written_so_far cells after whole at k bytes h e p = rw p (sym (ap (write_cells cells) (bytes_left at k bytes h)) ∙ e)
