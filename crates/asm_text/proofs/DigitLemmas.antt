-- One hexadecimal digit more.
use Rattle.std.proofs.Common.{◌≡◌, ℕ, suc, ◌+◌, ◌*◌, ◌<◌, ◌≤◌, ◌==◌, Bool, true, Option, Some, None, List, [], ◌∷◌, length, drop, get_or, refl, sym, ap, ◌∙◌, arith, drop-cons, add-one}
use Rattle.std.specs.Prelude.{nat_le, option_map, option_and_then, if◌then◌else◌}
use Rattle.std.proofs.lemmas.Bool.{leb-true, le-leb}
use Rattle.text_values.specs.Number.{hex_digit}
use Rattle.asm_model.specs.Numbers.{hex_after, hexadecimal}
use Rattle.asm_model.proofs.Finite.{on_below}

-- 16 to this power, up to 4
abbrev pub limit : ℕ → ℕ
limit i = if i == 0 then 1 else (if i == 1 then 16 else (if i == 2 then 256 else (if i == 3 then 4096 else 65536)))

pub limit-next : (i : ℕ) → i < 4 → limit (i + 1) ≡ 16 * limit i
limit-next = on_below 4 (λ i. limit (i + 1)) (λ i. 16 * limit i) refl

pub limit-small : (i : ℕ) → i < 4 → limit i ≤ 4096
limit-small i h = leb-true (limit i) 4096 (on_below 4 (λ i. nat_le (limit i) 4096) (λ i. true) refl i h)

digit-step : (value : ℕ) (rest : List ℕ) (digit : Option ℕ) →
    option_and_then (λ d. hex_after (16 * value + d) rest) digit ≡ option_and_then (λ next. hex_after next rest) (option_map (λ d. 16 * value + d) digit)
digit-step value rest None = refl
digit-step value rest (Some d) = refl

module _ (value i d : ℕ) (text : List ℕ) (whole : Option ℕ) (below : i < length text) (so_far : hex_after value (drop i text) ≡ whole) where
  pub digit-sum : option_and_then (λ next. hex_after next (drop (i + 1) text)) (option_map (λ n. 16 * value + n) (hex_digit (get_or text i d))) ≡ whole
  digit-sum =
      let dropped : drop i text ≡ get_or text i d ∷ drop (i + 1) text =
      drop-cons text i d below ∙ ap (λ n. get_or text i d ∷ drop n text) (sym (add-one i)) in
      sym (digit-step value (drop (i + 1) text) (hex_digit (get_or text i d))) ∙ ap (hex_after value) (sym dropped) ∙ so_far

pub hexadecimal-is : (text : List ℕ) → 0 < length text → length text ≤ 4 → hexadecimal text ≡ hex_after 0 text
hexadecimal-is [] some short = absurd (omega arith)
hexadecimal-is (c ∷ text) some short = let few : nat_le (length text) 3 ≡ true = le-leb (length text) 3 (omega arith) in simp few
