-- One line more.
use Rattle.std.proofs.Common.{◌≡◌, ℕ, suc, ◌+◌, ◌<◌, List, [], ◌∷◌, ◌++◌, length, drop, map, get_or, ap, sym, ◌∙◌, arith, add-one, drop-cons, append_assoc, append-nil}
use Rattle.std.proofs.lemmas.List.{drop_all, map-append}
use Rattle.asm_model.specs.Statements.{LineRead}

module _ {A : Type 0} (said : A → LineRead) (read : List ℕ → LineRead) (parts : List (List ℕ)) (place : ℕ) (lines : List A) (whole : List LineRead)
    (so_far : map said lines ++ map read (drop place parts) ≡ whole) where
  pub read-next : (part : List ℕ) (line : A) (longer : List A) → place < length parts → part ≡ get_or parts place part → said line ≡ read part →
      longer ≡ lines ++ line ∷ [] → map said longer ++ map read (drop (place + 1) parts) ≡ whole
  read-next part line longer below is reads pushed =
      let rest : drop place parts ≡ part ∷ drop (place + 1) parts =
      drop-cons parts place part below ∙ ap (λ p. p ∷ drop (suc place) parts) (sym is) ∙ ap (λ n. part ∷ drop n parts) (sym (add-one place)) in
      ap (λ ls. map said ls ++ map read (drop (place + 1) parts)) pushed
      ∙ ap (λ ls. ls ++ map read (drop (place + 1) parts)) (map-append said lines (line ∷ []))
      ∙ append_assoc (map said lines) (said line ∷ []) (map read (drop (place + 1) parts))
      ∙ ap (λ l. map said lines ++ l ∷ map read (drop (place + 1) parts)) reads
      ∙ ap (λ ps. map said lines ++ map read ps) (sym rest) ∙ so_far

  pub read-all : place ≡ length parts → map said lines ≡ whole
  read-all all =
      let none : drop place parts ≡ [] = drop_all place parts (omega arith) in
      sym (append-nil (map said lines)) ∙ ap (λ ps. map said lines ++ map read ps) (sym none) ∙ so_far
