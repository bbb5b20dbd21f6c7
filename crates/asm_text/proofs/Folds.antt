-- The terms of a text, gone through byte after byte.
use Rattle.std.proofs.Common.{◌≡◌, ℕ, suc, ◌+◌, ◌-◌, ◌<◌, ◌≤◌, Bool, true, false, Option, Some, None, List, [], ◌∷◌, ◌++◌, filter, length, take, drop, get_or, refl, ap, sym, ◌∙◌, append_assoc, append-nil, drop-cons, add-one, length-drop, arith}
use Rattle.std.proofs.lemmas.List.{drop_all, get_or-drop}
use Rattle.std.proofs.Math.Seq.{take-suc}
use Rattle.std.specs.Prelude.{option_map, option_and_then, if◌then◌else◌}
use Rattle.std.specs.List.{slice_split, onto_first}
use Rattle.asm_model.specs.Characters.{is_sign, is_minus}
use Rattle.asm_model.specs.Expressions.{Signed, Term, term, terms_with, terms_after, signed}

-- the first of some parts goes on after these bytes
abbrev behind : List ℕ → List (List ℕ) → List (List ℕ)
behind part [] = part ∷ []
behind part (first ∷ rest) = (part ++ first) ∷ rest

behind-first : (c : ℕ) (part : List ℕ) (parts : List (List ℕ)) → behind part (onto_first c parts) ≡ behind (part ++ c ∷ []) parts
behind-first c part [] = refl
behind-first c part (first ∷ rest) = ap (λ p. p ∷ rest) (sym (append_assoc part (c ∷ []) first))

behind-none : (c : ℕ) (parts : List (List ℕ)) → behind [] (onto_first c parts) ≡ onto_first c parts
behind-none c [] = refl
behind-none c (first ∷ rest) = refl

none-behind : (c : ℕ) (text : List ℕ) (b : Bool) → is_sign c ≡ b → behind [] (slice_split is_sign (c ∷ text)) ≡ slice_split is_sign (c ∷ text)
none-behind c text true is = simp is
none-behind c text false is = rw is (behind-none c (slice_split is_sign text))

no-part : (text : List ℕ) → behind [] (slice_split is_sign text) ≡ slice_split is_sign text
no-part [] = refl
no-part (c ∷ text) = none-behind c text (is_sign c) refl

part-next : (text : List ℕ) (start i d : ℕ) → start ≤ i → i < length text → take (i + 1 - start) (drop start text) ≡ take (i - start) (drop start text) ++ get_or text i d ∷ []
part-next text start i d begun below =
    let longer : i + 1 - start ≡ suc (i - start) = omega arith in
    let place : start + (i - start) ≡ i = omega arith in
    let within : i - start < length (drop start text) = simp length-drop (omega arith) in
    ap (λ n. take n (drop start text)) longer ∙ take-suc (drop start text) (i - start) d within
    ∙ ap (λ c. take (i - start) (drop start text) ++ c ∷ []) (get_or-drop start text (i - start) d ∙ ap (λ n. get_or text n d) place)

-- a value that each term changes
module _ {A : Type 0} (step : A → Bool → Term → Option A) where
  abbrev pub with_term : A → ℕ → List ℕ → Option A
  with_term a sign part = option_and_then (step a (is_minus sign)) (term part)

  -- the value with the term that has begun with these bytes, and the terms that follow
  abbrev pub fold_from : A → ℕ → List ℕ → List ℕ → Option A
  fold_from a sign part [] = with_term a sign part
  fold_from a sign part (c ∷ text) =
      if is_sign c then option_and_then (λ next. fold_from next c [] text) (with_term a sign part) else fold_from a sign (part ++ c ∷ []) text

  -- the value with these terms
  abbrev pub fold_terms : A → List Signed → Option A
  fold_terms a [] = Some a
  fold_terms a (t ∷ ts) = option_and_then (λ next. fold_terms next ts) (step a t.minus t.term)

  abbrev all_of : A → Option (List Signed) → Option A
  all_of a ts = option_and_then (fold_terms a) ts

  abbrev nothing : {B : Type 0} → B → Option A
  nothing b = None

  none-of : {B : Type 0} (o : Option B) → option_and_then nothing o ≡ None
  none-of None = refl
  none-of (Some b) = refl

  one-term : (a : A) (sign : ℕ) (signs : List ℕ) (parts : List (List ℕ)) (t : Option Term) →
      all_of a (option_and_then (λ t. option_map (λ ts. signed sign t ∷ ts) (terms_with signs parts)) t)
      ≡ option_and_then (λ next. all_of next (terms_with signs parts)) (option_and_then (step a (is_minus sign)) t)
  one-term a sign signs parts None = refl
  one-term a sign signs parts (Some t) = with_rest (terms_with signs parts)
    where
      with_rest : (rest : Option (List Signed)) →
          all_of a (option_map (λ ts. signed sign t ∷ ts) rest) ≡ option_and_then (λ next. all_of next rest) (step a (is_minus sign) t)
      with_rest None = sym (none-of (step a (is_minus sign) t))
      with_rest (Some ts) = refl

  and-same : (f g : A → Option A) → ((x : A) → f x ≡ g x) → (o : Option A) → option_and_then f o ≡ option_and_then g o
  and-same f g same None = refl
  and-same f g same (Some x) = same x

  and-some : (o : Option A) → option_and_then (λ x. Some x) o ≡ o
  and-some None = refl
  and-some (Some x) = refl

  abbrev split_fold : A → ℕ → List ℕ → List ℕ → Option A
  split_fold a sign part text = all_of a (terms_with (sign ∷ filter is_sign text) (behind part (slice_split is_sign text)))

  fold-step : (a : A) (sign : ℕ) (part : List ℕ) (c : ℕ) (text : List ℕ) (b : Bool) → is_sign c ≡ b →
      ((v : A) (s : ℕ) (p : List ℕ) → fold_from v s p text ≡ split_fold v s p text) → fold_from a sign part (c ∷ text) ≡ split_fold a sign part (c ∷ text)
  fold-step a sign part c text true is others =
      let left : fold_from a sign part (c ∷ text) ≡ option_and_then (λ next. fold_from next c [] text) (with_term a sign part) = simp is in
      let right : split_fold a sign part (c ∷ text) ≡ all_of a (terms_with (sign ∷ c ∷ filter is_sign text) ((part ++ []) ∷ slice_split is_sign text)) = simp is in
      left
      ∙ and-same (λ next. fold_from next c [] text) (λ next. all_of next (terms_with (c ∷ filter is_sign text) (slice_split is_sign text)))
      (λ next. others next c [] ∙ ap (λ parts. all_of next (terms_with (c ∷ filter is_sign text) parts)) (no-part text)) (with_term a sign part)
      ∙ sym (one-term a sign (c ∷ filter is_sign text) (slice_split is_sign text) (term part))
      ∙ ap (λ p. all_of a (terms_with (sign ∷ c ∷ filter is_sign text) (p ∷ slice_split is_sign text))) (sym (append-nil part))
      ∙ sym right
  fold-step a sign part c text false is others =
      let left : fold_from a sign part (c ∷ text) ≡ fold_from a sign (part ++ c ∷ []) text = simp is in
      let right : split_fold a sign part (c ∷ text) ≡ all_of a (terms_with (sign ∷ filter is_sign text) (behind part (onto_first c (slice_split is_sign text)))) = simp is in
      left ∙ others a sign (part ++ c ∷ [])
      ∙ ap (λ parts. all_of a (terms_with (sign ∷ filter is_sign text) parts)) (sym (behind-first c part (slice_split is_sign text)))
      ∙ sym right

  fold-split : (a : A) (sign : ℕ) (part text : List ℕ) → fold_from a sign part text ≡ split_fold a sign part text
  fold-split a sign part [] =
      sym (and-some (with_term a sign part)) ∙ sym (one-term a sign [] [] (term part))
      ∙ ap (λ p. all_of a (terms_with (sign ∷ []) (p ∷ []))) (sym (append-nil part))
  fold-split a sign part (c ∷ text) = fold-step a sign part c text (is_sign c) refl (λ v s p. fold-split v s p text)

  -- what the bytes give is what the terms give
  pub fold_from-terms : (a : A) (sign : ℕ) (text : List ℕ) → fold_from a sign [] text ≡ option_and_then (fold_terms a) (terms_after sign text)
  fold_from-terms a sign text =
      fold-split a sign [] text ∙ ap (λ parts. all_of a (terms_with (sign ∷ filter is_sign text) parts)) (no-part text)

  -- one byte more: a sign, or another one
  module _ (a : A) (sign start i d : ℕ) (text : List ℕ) (whole : Option A) (begun : start ≤ i) (below : i < length text)
      (so_far : fold_from a sign (take (i - start) (drop start text)) (drop i text) ≡ whole) where
    here-fold : (c : ℕ) → c ≡ get_or text i d → fold_from a sign (take (i - start) (drop start text)) (c ∷ drop (i + 1) text) ≡ whole
    here-fold c is =
        let dropped : drop i text ≡ c ∷ drop (i + 1) text =
        drop-cons text i d below ∙ ap (λ x. x ∷ drop (suc i) text) (sym is) ∙ ap (λ n. c ∷ drop n text) (sym (add-one i)) in
        ap (fold_from a sign (take (i - start) (drop start text))) (sym dropped) ∙ so_far

    pub sign-fold : (c : ℕ) → c ≡ get_or text i d → is_sign c ≡ true → (next : A) → with_term a sign (take (i - start) (drop start text)) ≡ Some next →
        fold_from next c [] (drop (i + 1) text) ≡ whole
    sign-fold c is signed next added =
        let step : fold_from a sign (take (i - start) (drop start text)) (c ∷ drop (i + 1) text) ≡ fold_from next c [] (drop (i + 1) text) = simp (signed, added) in
        sym step ∙ here-fold c is

    pub sign-none : (c : ℕ) → c ≡ get_or text i d → is_sign c ≡ true → with_term a sign (take (i - start) (drop start text)) ≡ None → None ≡ whole
    sign-none c is signed added =
        let step : fold_from a sign (take (i - start) (drop start text)) (c ∷ drop (i + 1) text) ≡ None = simp (signed, added) in
        sym step ∙ here-fold c is

    pub other-fold : (c : ℕ) → c ≡ get_or text i d → is_sign c ≡ false → fold_from a sign (take (i + 1 - start) (drop start text)) (drop (i + 1) text) ≡ whole
    other-fold c is signed =
        let step : fold_from a sign (take (i - start) (drop start text)) (c ∷ drop (i + 1) text) ≡ fold_from a sign (take (i - start) (drop start text) ++ c ∷ []) (drop (i + 1) text) = simp signed in
        let more : take (i + 1 - start) (drop start text) ≡ take (i - start) (drop start text) ++ c ∷ [] =
        part-next text start i d begun below ∙ ap (λ x. take (i - start) (drop start text) ++ x ∷ []) (sym is) in
        ap (λ p. fold_from a sign p (drop (i + 1) text)) more ∙ sym step ∙ here-fold c is

  pub last-fold : (a : A) (sign start i : ℕ) (text : List ℕ) (whole : Option A) → length text ≤ i → i ≡ length text →
      fold_from a sign (take (i - start) (drop start text)) (drop i text) ≡ whole → with_term a sign (take (length text - start) (drop start text)) ≡ whole
  last-fold a sign start i text whole past all so_far =
      let rest : drop i text ≡ [] = drop_all i text past in
      let part : take (i - start) (drop start text) ≡ take (length text - start) (drop start text) = ap (λ n. take (n - start) (drop start text)) all in
      ap (with_term a sign) (sym part) ∙ ap (fold_from a sign (take (i - start) (drop start text))) (sym rest) ∙ so_far

  -- no byte of the next term is read after a sign
  pub new-part : (value next : A) (sign c start i : ℕ) (text : List ℕ) (whole : Option A) → value ≡ next → sign ≡ c → start ≡ i + 1 →
      fold_from next c [] (drop (i + 1) text) ≡ whole → fold_from value sign (take (i + 1 - start) (drop start text)) (drop (i + 1) text) ≡ whole
  new-part value next sign c start i text whole values signs starts so_far =
      let empty : i + 1 - start ≡ 0 = omega arith in
      ap (λ n. fold_from value sign (take n (drop start text)) (drop (i + 1) text)) empty
      ∙ ap (λ v. fold_from v sign [] (drop (i + 1) text)) values ∙ ap (λ s. fold_from next s [] (drop (i + 1) text)) signs ∙ so_far

  pub old-part : (value old : A) (sign s start b i : ℕ) (text : List ℕ) (whole : Option A) → value ≡ old → sign ≡ s → start ≡ b →
      fold_from old s (take (i + 1 - b) (drop b text)) (drop (i + 1) text) ≡ whole → fold_from value sign (take (i + 1 - start) (drop start text)) (drop (i + 1) text) ≡ whole
  old-part value old sign s start b i text whole values signs starts so_far =
      ap (λ v. fold_from v sign (take (i + 1 - start) (drop start text)) (drop (i + 1) text)) values
      ∙ ap (λ z. fold_from old z (take (i + 1 - start) (drop start text)) (drop (i + 1) text)) signs
      ∙ ap (λ n. fold_from old s (take (i + 1 - n) (drop n text)) (drop (i + 1) text)) starts ∙ so_far
