-- What was found in a list, and texts that were cut at commas.
use Rattle.std.proofs.Common.{◌≡◌, ℕ, zero, suc, ◌+◌, ◌<◌, ◌≤◌, Bool, true, false, Option, Some, None, inl, inr, List, [], ◌∷◌, ◌++◌, refl, ap, sym, subst, ◌∙◌, append_assoc, arith}
use Rattle.std.specs.Prelude.{bit_or, option_map, option_and_then, if◌then◌else◌}
use Rattle.std.specs.List.{find, range_with_len, slice_split, join_with_byte}
use Rattle.std.specs.Int.Bits.{or_zero_l}
use Rattle.std.proofs.lemmas.Bool.{eqb-true}
use Rattle.std.proofs.lemmas.List.Splits.{join_with_byte-slice_split}
use Rattle.cpu_model.specs.declared.rows.Stack.{Stack}
use Rattle.asm_model.specs.Characters.{is_comma, is_closing}
use Rattle.asm_model.specs.Print.{mask_registers}
use Rattle.asm_model.specs.Operands.{before_bracket, mask_weight, mask_with, register_mask}
use Rattle.asm_model.proofs.Entries.{IsIn}
use Rattle.asm_lines.specs.Operands.{IsRegisterList, one, more}
use Rattle.asm_lines.proofs.Joined.{some-parts}

-- ---- searches

module _ {A : Type 0} (p : A → Bool) (x : A) where
  true-step : (y : A) (ys : List A) (b : Bool) → p y ≡ b → (if b then Some y else find p ys) ≡ Some x → (find p ys ≡ Some x → p x ≡ true) → p x ≡ true
  true-step y ys true is whole others = let same : y ≡ x = cc in subst (λ (z : A). p z ≡ true) same is
  true-step y ys false is whole others = others whole

  pub found-passes : (xs : List A) → find p xs ≡ Some x → p x ≡ true
  found-passes [] is = absurd (cc)
  found-passes (y ∷ ys) is = true-step y ys (p y) refl is (λ others. found-passes ys others)

  in-step : (y : A) (ys : List A) (b : Bool) → p y ≡ b → (if b then Some y else find p ys) ≡ Some x → (find p ys ≡ Some x → IsIn x ys) → IsIn x (y ∷ ys)
  in-step y ys true is whole others = let same : x ≡ y = cc in inl same
  in-step y ys false is whole others = inr (others whole)

  pub found-in : (xs : List A) → find p xs ≡ Some x → IsIn x xs
  found-in [] is = absurd (cc)
  found-in (y ∷ ys) is = in-step y ys (p y) refl is (λ others. found-in ys others)

pub in-range : (n first count : ℕ) → IsIn n (range_with_len first count) → (first ≤ n) × (n < first + count)
in-range n first zero is = absurd is
in-range n first (suc count) (inl same) = (omega arith, omega arith)
in-range n first (suc count) (inr is) = let rest = in-range n (first + 1) count is in (omega arith, omega arith)

-- ---- texts of parts

pub joined-back : (text : List ℕ) (parts : List (List ℕ)) → slice_split is_comma text ≡ parts → text ≡ join_with_byte 44 parts
joined-back text parts is = sym (join_with_byte-slice_split 44 text) ∙ ap (join_with_byte 44) is

join-front : (a b : List ℕ) (parts : List (List ℕ)) → join_with_byte 44 ((a ++ (44 ∷ b)) ∷ parts) ≡ a ++ (44 ∷ join_with_byte 44 (b ∷ parts))
join-front a b [] = refl
join-front a b (c ∷ parts) = append_assoc a (44 ∷ b) (44 ∷ join_with_byte 44 (c ∷ parts))

module _ (stack : Stack) where
  abbrev weight_of : List ℕ → Option ℕ
  weight_of name = mask_weight (mask_registers stack) 1 name

  list-grows : (parts : List (List ℕ)) (list : List ℕ) (mask m : ℕ) → IsRegisterList stack list mask → mask_with stack mask parts ≡ Some m → IsRegisterList stack (join_with_byte 44 (list ∷ parts)) m
  list-grows [] list mask m so_far is = let same : mask ≡ m = cc in subst (IsRegisterList stack list) same so_far
  list-grows (name ∷ parts) list mask m so_far is = by-weight (weight_of name) refl is (λ weight next others. list-grows parts (list ++ (44 ∷ name)) (bit_or mask weight) m next others)
    where
      by-weight : (o : Option ℕ) → weight_of name ≡ o → option_and_then (λ weight. mask_with stack (bit_or mask weight) parts) o ≡ Some m →
          ((weight : ℕ) → IsRegisterList stack (list ++ (44 ∷ name)) (bit_or mask weight) → mask_with stack (bit_or mask weight) parts ≡ Some m →
          IsRegisterList stack (join_with_byte 44 ((list ++ (44 ∷ name)) ∷ parts)) m) →
          IsRegisterList stack (join_with_byte 44 (list ∷ name ∷ parts)) m
      by-weight None weighs whole others = absurd (cc)
      by-weight (Some weight) weighs whole others =
          subst (λ (text : List ℕ). IsRegisterList stack text m) (join-front list name parts) (others weight (more name so_far weighs) whole)

  some-list : (name : List ℕ) (parts : List (List ℕ)) (m : ℕ) (o : Option ℕ) → weight_of name ≡ o → option_and_then (λ weight. mask_with stack (bit_or 0 weight) parts) o ≡ Some m →
      IsRegisterList stack (join_with_byte 44 (name ∷ parts)) m
  some-list name parts m None weighs whole = absurd (cc)
  some-list name parts m (Some weight) weighs whole =
      list-grows parts name weight m (one weighs) (sym (ap (λ n. mask_with stack n parts) (or_zero_l weight)) ∙ whole)

  of-parts : (parts : List (List ℕ)) (first : List ℕ) (rest : List (List ℕ)) (m : ℕ) → parts ≡ first ∷ rest → mask_with stack 0 parts ≡ Some m → IsRegisterList stack (join_with_byte 44 parts) m
  of-parts parts first rest m same is =
      subst (λ (ps : List (List ℕ)). IsRegisterList stack (join_with_byte 44 ps) m) (sym same)
      (some-list first rest m (weight_of first) refl (sym (ap (mask_with stack 0) same) ∙ is))

  -- what is read as a mask is a list of registers
  pub mask-list : (text : List ℕ) (m : ℕ) → register_mask stack text ≡ Some m → IsRegisterList stack text m
  mask-list text m is =
      let parts = some-parts text in
      subst (λ (t : List ℕ). IsRegisterList stack t m) (sym (joined-back text (slice_split is_comma text) refl))
      (of-parts (slice_split is_comma text) parts.0 parts.1 m parts.2 is)

-- ---- the bracket at the end

bracket-step : (c : ℕ) (text : List ℕ) (o : Option (List ℕ)) (inner : List ℕ) → before_bracket text ≡ o → option_map (λ inner. c ∷ inner) o ≡ Some inner →
    ((back : List ℕ) → before_bracket text ≡ Some back → text ≡ back ++ (93 ∷ [])) → c ∷ text ≡ inner ++ (93 ∷ [])
bracket-step c text None inner is whole others = absurd (cc)
bracket-step c text (Some back) inner is whole others =
    let same : c ∷ back ≡ inner = cc in ap (λ rest. c ∷ rest) (others back is) ∙ ap (λ front. front ++ (93 ∷ [])) same

one-bracket : (c : ℕ) (inner : List ℕ) (b : Bool) → is_closing c ≡ b → (if b then Some [] else None) ≡ Some inner → c ∷ [] ≡ inner ++ (93 ∷ [])
one-bracket c inner true is whole =
    let empty : [] ≡ inner = cc in ap (λ d. d ∷ []) (eqb-true c 93 is) ∙ ap (λ front. front ++ (93 ∷ [])) empty
one-bracket c inner false is whole = absurd (cc)

pub before-back : (text inner : List ℕ) → before_bracket text ≡ Some inner → text ≡ inner ++ (93 ∷ [])
before-back [] inner is = absurd (cc)
before-back (c ∷ []) inner is = one-bracket c inner (is_closing c) refl is
before-back (c ∷ d ∷ text) inner is = bracket-step c (d ∷ text) (before_bracket (d ∷ text)) inner refl is (λ back others. before-back (d ∷ text) back others)
