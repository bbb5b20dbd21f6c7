-- The code of lines, one after another.
use Rattle.std.proofs.Common.{◌≡◌, ℕ, ◌+◌, ◌<◌, ◌≤◌, ◌&&◌, Bool, true, false, Some, None, List, [], ◌∷◌, ◌++◌, length, drop, map, get_or, refl, ap, sym, ◌∙◌, add-one, drop-cons, append_assoc, append-nil}
use Rattle.std.specs.Prelude.{if◌then◌else◌}
use Rattle.std.specs.List.{list_all}
use Rattle.std.proofs.lemmas.List.{drop_all}
use Rattle.std.proofs.lemmas.Option.{cond_some}
use Rattle.asm_model.specs.Statements.{LineRead, skipped, broken, stated}
use Rattle.asm_model.specs.Placement.{Reached}
use Rattle.asm6809.specs.Assembled.{placed_from, code_of, code_if_filled, is_filled}
use Rattle.asm6809.specs.Pieces.{line_filled, line_bytes, line_end, end_if_filled}

code-cons : (all : Reached) (offset : ℕ) (l : LineRead) (ls : List LineRead) →
    code_of all (placed_from offset (l ∷ ls)) ≡ line_bytes all offset l ++ code_of all (placed_from (line_end offset l) ls)
code-cons all offset skipped ls = refl
code-cons all offset (broken name) ls = refl
code-cons all offset (stated s) ls = refl

filled-cons : (all : Reached) (offset : ℕ) (l : LineRead) (ls : List LineRead) →
    list_all (is_filled all) (placed_from offset (l ∷ ls)) ≡ (line_filled all offset l && list_all (is_filled all) (placed_from (line_end offset l) ls))
filled-cons all offset skipped ls = refl
filled-cons all offset (broken name) ls = refl
filled-cons all offset (stated s) ls = refl

-- the lines from a place on
abbrev pub lines_at : {A : Type 0} → (A → LineRead) → List A → ℕ → List LineRead
lines_at said lines place = map said (drop place lines)

-- a list is the whole with the code of the lines that are left behind it, and their values are right if all are
pub record IsSoFar {A : Type 0} (said : A → LineRead) (all : Reached) (lines : List A) (place offset : ℕ) (code : List ℕ) : Type 0 where
  pub whole : code ++ code_of all (placed_from offset (lines_at said lines place)) ≡ code_of all (placed_from 0 (map said lines))
  pub filled : list_all (is_filled all) (placed_from offset (lines_at said lines place)) ≡ list_all (is_filled all) (placed_from 0 (map said lines))

none-false : (b : Bool) (n : ℕ) → (if b then Some n else None) ≡ None → b ≡ false
none-false true n is = cc
none-false false n is = refl

module _ {A : Type 0} (said : A → LineRead) (all : Reached) (lines : List A) where
  pub so_far-start : IsSoFar said all lines 0 0 []
  so_far-start = record { whole = refl; filled = refl }

  lines-next : (place : ℕ) (d : A) → place < length lines → lines_at said lines place ≡ said (get_or lines place d) ∷ lines_at said lines (place + 1)
  lines-next place d below =
      ap (map said) (drop-cons lines place d below) ∙ ap (λ n. said (get_or lines place d) ∷ map said (drop n lines)) (sym (add-one place))

  module _ (place offset : ℕ) (d : A) (code : List ℕ) (below : place < length lines) (so_far : IsSoFar said all lines place offset code) where
    pub so_far-next : (next : ℕ) (longer : List ℕ) → end_if_filled all offset (said (get_or lines place d)) ≡ Some next →
        longer ≡ code ++ line_bytes all offset (said (get_or lines place d)) → IsSoFar said all lines (place + 1) next longer
    so_far-next next longer ends is =
        let l : LineRead = said (get_or lines place d) in
        let parts : (line_filled all offset l ≡ true) × (line_end offset l ≡ next) = cond_some (line_filled all offset l) (line_end offset l) next ends in
        record {
          whole =
              ap (λ n. longer ++ code_of all (placed_from n (lines_at said lines (place + 1)))) (sym parts.1)
              ∙ ap (λ xs. xs ++ code_of all (placed_from (line_end offset l) (lines_at said lines (place + 1)))) is
              ∙ append_assoc code (line_bytes all offset l) (code_of all (placed_from (line_end offset l) (lines_at said lines (place + 1))))
              ∙ ap (λ xs. code ++ xs) (sym (code-cons all offset l (lines_at said lines (place + 1))))
              ∙ ap (λ ls. code ++ code_of all (placed_from offset ls)) (sym (lines-next place d below)) ∙ so_far.whole;
          filled =
              ap (λ n. list_all (is_filled all) (placed_from n (lines_at said lines (place + 1)))) (sym parts.1)
              ∙ sym (ap (λ b. b && list_all (is_filled all) (placed_from (line_end offset l) (lines_at said lines (place + 1)))) parts.0)
              ∙ sym (filled-cons all offset l (lines_at said lines (place + 1)))
              ∙ ap (λ ls. list_all (is_filled all) (placed_from offset ls)) (sym (lines-next place d below)) ∙ so_far.filled;
        }

    pub so_far-none : end_if_filled all offset (said (get_or lines place d)) ≡ None → None ≡ code_if_filled all (placed_from 0 (map said lines))
    so_far-none ends =
        let l : LineRead = said (get_or lines place d) in
        let out : line_filled all offset l ≡ false = none-false (line_filled all offset l) (line_end offset l) ends in
        let whole : list_all (is_filled all) (placed_from 0 (map said lines)) ≡ false =
        sym so_far.filled ∙ ap (λ ls. list_all (is_filled all) (placed_from offset ls)) (lines-next place d below)
        ∙ filled-cons all offset l (lines_at said lines (place + 1)) ∙ ap (λ b. b && list_all (is_filled all) (placed_from (line_end offset l) (lines_at said lines (place + 1)))) out in
        sym (ap (λ b. if b then Some (code_of all (placed_from 0 (map said lines))) else None) whole)

  pub so_far-all : (place offset : ℕ) (code : List ℕ) → length lines ≤ place → IsSoFar said all lines place offset code →
      Some code ≡ code_if_filled all (placed_from 0 (map said lines))
  so_far-all place offset code past so_far =
      let none : lines_at said lines place ≡ [] = ap (map said) (drop_all place lines past) in
      let whole : list_all (is_filled all) (placed_from 0 (map said lines)) ≡ true =
      sym so_far.filled ∙ ap (λ ls. list_all (is_filled all) (placed_from offset ls)) none in
      let text : code ≡ code_of all (placed_from 0 (map said lines)) =
      sym (append-nil code) ∙ ap (λ ls. code ++ code_of all (placed_from offset ls)) (sym none) ∙ so_far.whole in
      ap Some text ∙ sym (ap (λ b. if b then Some (code_of all (placed_from 0 (map said lines))) else None) whole)
