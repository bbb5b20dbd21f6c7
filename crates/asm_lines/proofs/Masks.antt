-- Register lists are read as their masks, and only they are.
use Rattle.std.proofs.Common.{◌≡◌, ℕ, false, Option, Some, None, List, [], ◌∷◌, ◌++◌, refl, ap, sym, ◌∙◌}
use Rattle.std.specs.Prelude.{bit_or, option_map, option_and_then}
use Rattle.std.specs.Int.Bits.{or_zero_l}
use Rattle.std.specs.List.{slice_split, list_any}
use Rattle.cpu_model.specs.declared.rows.Stack.{Stack}
use Rattle.asm_model.specs.Characters.{is_comma, is_hash}
use Rattle.asm_model.specs.Print.{mask_registers}
use Rattle.asm_model.specs.Operands.{mask_weight, mask_with, register_mask}
use Rattle.asm_model.proofs.Spaces.{or_left}
use Rattle.asm_lines.specs.Operands.{IsRegisterList, one, more}
use Rattle.asm_lines.proofs.Names.{mask-name, name-comma, name-hash, name-some}
use Rattle.asm_lines.proofs.Joined.{one-part, part-more}

module _ (stack : Stack) where
  abbrev weight_of : List ℕ → Option ℕ
  weight_of name = mask_weight (mask_registers stack) 1 name

  with-more : (mask : ℕ) (parts : List (List ℕ)) (name : List ℕ) (weight : ℕ) → weight_of name ≡ Some weight →
      mask_with stack mask (parts ++ (name ∷ [])) ≡ option_map (λ m. bit_or m weight) (mask_with stack mask parts)
  with-more mask [] name weight is = ap (option_and_then (λ w. Some (bit_or mask w))) is
  with-more mask (part ∷ parts) name weight is = by-weight (weight_of part) (λ m. with-more m parts name weight is)
    where
      by-weight : (o : Option ℕ) → ((m : ℕ) → mask_with stack m (parts ++ (name ∷ [])) ≡ option_map (λ m. bit_or m weight) (mask_with stack m parts)) →
          option_and_then (λ w. mask_with stack (bit_or mask w) (parts ++ (name ∷ []))) o
          ≡ option_map (λ m. bit_or m weight) (option_and_then (λ w. mask_with stack (bit_or mask w) parts) o)
      by-weight None others = refl
      by-weight (Some w) others = others (bit_or mask w)

  -- a list of registers is read as its mask
  pub list-mask : (list : List ℕ) (mask : ℕ) → IsRegisterList stack list mask → register_mask stack list ≡ Some mask
  list-mask list mask (one is) =
      ap (mask_with stack 0) (one-part list (name-comma list (mask-name stack list mask is)))
      ∙ ap (option_and_then (λ w. Some (bit_or 0 w))) is ∙ ap (λ m. Some m) (or_zero_l mask)
  list-mask _ _ (more {list = list} {mask = mask} {weight = weight} name so_far is) =
      ap (mask_with stack 0) (part-more list name (name-comma name (mask-name stack name weight is)))
      ∙ with-more 0 (slice_split is_comma list) name weight is ∙ ap (option_map (λ m. bit_or m weight)) (list-mask list mask so_far)

  -- it does not begin with `#`
  pub list-begins : (list : List ℕ) (mask : ℕ) → IsRegisterList stack list mask → (c : ℕ) (text : List ℕ) → list ≡ c ∷ text → is_hash c ≡ false
  list-begins list mask (one is) c text same =
      or_left (is_hash c) (list_any is_hash text) (sym (ap (list_any is_hash) same) ∙ name-hash list (mask-name stack list mask is))
  list-begins _ _ (more {list = []} {mask = mask} {weight = weight} name so_far is) c text same =
      let first : 44 ≡ c = cc in ap is_hash (sym first)
  list-begins _ _ (more {list = d ∷ list} {mask = mask} {weight = weight} name so_far is) c text same =
      let first : d ≡ c = cc in
      ap is_hash (sym first) ∙ list-begins (d ∷ list) mask so_far d list refl

no-text : (list text : List ℕ) → list ++ (44 ∷ text) ≡ [] → ⊥
no-text [] text is = absurd (cc)
no-text (c ∷ list) text is = absurd (cc)

list-some : (stack : Stack) (list : List ℕ) (mask : ℕ) → IsRegisterList stack list mask → list ≡ [] → ⊥
list-some stack list mask (one is) empty = name-some (mask-name stack [] mask (sym (ap (mask_weight (mask_registers stack) 1) empty) ∙ is))
list-some stack _ _ (more {list = list} name so_far is) empty = no-text list name empty

pub no-list : (stack : Stack) (mask : ℕ) → IsRegisterList stack [] mask → ⊥
no-list stack mask is = list-some stack [] mask is refl
