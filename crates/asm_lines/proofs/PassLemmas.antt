-- One line more.
use Rattle.std.proofs.Common.{◌≡◌, ℕ, ◌+◌, ◌<◌, ◌≤◌, Option, Some, None, List, [], ◌∷◌, ◌++◌, length, take, drop, map, get_or, refl, ap, sym, ◌∙◌, subst, add-one, drop-cons}
use Rattle.std.specs.Prelude.{option_map}
use Rattle.std.specs.Option.{option_or}
use Rattle.std.proofs.lemmas.List.{drop_all, take_all, take_more, map-append}
use Rattle.asm_model.specs.declared.error.AsmError.{AsmError}
use Rattle.asm_model.specs.Statements.{LineRead}
use Rattle.asm_model.specs.Placement.{Reached, SourceFault, after, reached_from, line_fault, fault_from, fault_on}
use Rattle.asm_lines.specs.declared.reached.Reached.{Reached as ReachedCode}
use Rattle.asm_lines.specs.Labels.{IsReached}

-- what is reached by the lines above a place
abbrev pub above_place : {A : Type 0} → (A → LineRead) → Reached → List A → ℕ → Reached
above_place said start lines place = reached_from start (map said (take place lines))

reached_from-push : (start : Reached) (ls : List LineRead) (l : LineRead) → reached_from start (ls ++ l ∷ []) ≡ after (reached_from start ls) l
reached_from-push start [] l = refl
reached_from-push start (x ∷ ls) l = reached_from-push (after start x) ls l

-- the fault of the lines from a place on
abbrev pub fault_at : {A : Type 0} → (A → LineRead) → Reached → Reached → List A → ℕ → Option SourceFault
fault_at said all start lines place = fault_from all (above_place said start lines place) (place + 1) (map said (drop place lines))

module _ {A : Type 0} (said : A → LineRead) (start : Reached) (lines : List A) (place : ℕ) (d : A) (below : place < length lines) where
  above-next : above_place said start lines (place + 1) ≡ after (above_place said start lines place) (said (get_or lines place d))
  above-next =
      ap (λ ls. reached_from start (map said ls)) (take_more lines place d below)
      ∙ ap (reached_from start) (map-append said (take place lines) (get_or lines place d ∷ []))
      ∙ reached_from-push start (map said (take place lines)) (said (get_or lines place d))

  pub reached-next : (new : ReachedCode) → IsReached new (after (above_place said start lines place) (said (get_or lines place d))) →
      IsReached new (above_place said start lines (place + 1))
  reached-next new reached = subst (λ a. IsReached new a) (sym above-next) reached

  first-line : (all : Reached) → fault_at said all start lines place
      ≡ option_or (option_map (fault_on (place + 1)) (line_fault all (above_place said start lines place) (said (get_or lines place d)))) (fault_at said all start lines (place + 1))
  first-line all =
      ap (λ ls. fault_from all (above_place said start lines place) (place + 1) (map said ls)) (drop-cons lines place d below)
      ∙ ap (λ n. fault_from all (above_place said start lines place) (place + 1) (said (get_or lines place d) ∷ map said (drop n lines))) (sym (add-one place))
      ∙ ap (λ a. option_or (option_map (fault_on (place + 1)) (line_fault all (above_place said start lines place) (said (get_or lines place d))))
      (fault_from all a (place + 1 + 1) (map said (drop (place + 1) lines))))
      (sym above-next)

  pub fault-here : (all : Reached) (error : AsmError) (whole : Option SourceFault) →
      line_fault all (above_place said start lines place) (said (get_or lines place d)) ≡ Some error →
      fault_at said all start lines place ≡ whole → Some (fault_on (place + 1) error) ≡ whole
  fault-here all error whole found rest =
      sym (first-line all ∙ ap (λ f. option_or (option_map (fault_on (place + 1)) f) (fault_at said all start lines (place + 1))) found) ∙ rest

  pub fault-below : (all : Reached) (whole : Option SourceFault) →
      line_fault all (above_place said start lines place) (said (get_or lines place d)) ≡ None →
      fault_at said all start lines place ≡ whole → fault_at said all start lines (place + 1) ≡ whole
  fault-below all whole none rest =
      sym (first-line all ∙ ap (λ f. option_or (option_map (fault_on (place + 1)) f) (fault_at said all start lines (place + 1))) none) ∙ rest

module _ {A : Type 0} (said : A → LineRead) (start : Reached) (lines : List A) (place : ℕ) (past : length lines ≤ place) where
  pub reached-all : (new : ReachedCode) → IsReached new (above_place said start lines place) → IsReached new (reached_from start (map said lines))
  reached-all new reached = subst (λ ls. IsReached new (reached_from start (map said ls))) (take_all place lines past) reached

  pub fault-end : (all : Reached) (whole : Option SourceFault) → fault_at said all start lines place ≡ whole → None ≡ whole
  fault-end all whole rest =
      sym (ap (λ ls. fault_from all (above_place said start lines place) (place + 1) (map said ls)) (drop_all place lines past)) ∙ rest
