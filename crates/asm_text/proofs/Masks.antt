-- One register more of a mask.
use Rattle.std.proofs.Common.{◌≡◌, ℕ, suc, ◌+◌, ◌<◌, ◌≤◌, Option, Some, None, List, ◌∷◌, length, drop, get_or, ap, sym, ◌∙◌, drop-cons, add-one, arith}
use Rattle.std.specs.Prelude.{option_and_then, bit_or}
use Rattle.std.proofs.lemmas.List.{drop_all}
use Rattle.cpu_model.specs.declared.rows.Stack.{Stack}
use Rattle.asm_model.specs.Print.{mask_registers}
use Rattle.asm_model.specs.Operands.{mask_with, mask_weight}

module _ (stack : Stack) (mask i : ℕ) (parts : List (List ℕ)) (name : List ℕ) (d : List ℕ) (whole : Option ℕ)
    (below : i < length parts) (is : name ≡ get_or parts i d) (so_far : mask_with stack mask (drop i parts) ≡ whole) where
  mask-step : option_and_then (λ weight. mask_with stack (bit_or mask weight) (drop (i + 1) parts)) (mask_weight (mask_registers stack) 1 name) ≡ whole
  mask-step =
      let dropped : drop i parts ≡ name ∷ drop (i + 1) parts =
      drop-cons parts i d below ∙ ap (λ x. x ∷ drop (suc i) parts) (sym is) ∙ ap (λ n. name ∷ drop n parts) (sym (add-one i)) in
      ap (mask_with stack mask) (sym dropped) ∙ so_far

  pub mask-next : (weight : ℕ) → mask_weight (mask_registers stack) 1 name ≡ Some weight → mask_with stack (bit_or mask weight) (drop (i + 1) parts) ≡ whole
  mask-next weight weighs =
      sym (ap (option_and_then (λ weight. mask_with stack (bit_or mask weight) (drop (i + 1) parts))) weighs) ∙ mask-step

  pub mask-none : mask_weight (mask_registers stack) 1 name ≡ None → None ≡ whole
  mask-none weighs =
      sym (ap (option_and_then (λ weight. mask_with stack (bit_or mask weight) (drop (i + 1) parts))) weighs) ∙ mask-step

pub mask-all : (stack : Stack) (mask i : ℕ) (parts : List (List ℕ)) (whole : Option ℕ) → i ≡ length parts → mask_with stack mask (drop i parts) ≡ whole → Some mask ≡ whole
mask-all stack mask i parts whole all so_far = let past : length parts ≤ i = omega arith in ap (mask_with stack mask) (sym (drop_all i parts past)) ∙ so_far
