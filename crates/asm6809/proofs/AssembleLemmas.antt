-- What the parts of a source make.
use Rattle.std.proofs.Common.{◌≡◌, Option, Some, None, List, refl, ap, sym, ◌∙◌}
use Rattle.std.specs.Prelude.{ℕ, Ok, Err}
use Rattle.asm_model.specs.declared.error.AsmError.TheVariants.{NoModule}
use Rattle.asm_model.specs.Statements.{LineRead, source_lines}
use Rattle.asm_model.specs.Placement.{SourceFault, start, reached_from, fault_from, fault_on, source_fault}
use Rattle.asm6809.specs.Assembled.{module_of, or_fault, outcome_of}

module _ (source : List ℕ) (lines : List LineRead) (is : lines ≡ source_lines source) where
  outcome-by : (fault : Option SourceFault) (made : Option (List ℕ)) → fault ≡ fault_from (reached_from start lines) start 1 lines →
      made ≡ module_of (reached_from start lines) lines → outcome_of source ≡ or_fault fault made
  unfolding outcome_of source_fault
  outcome-by fault made found makes =
      sym (ap (λ f. or_fault f made) (found ∙ ap (λ ls. fault_from (reached_from start ls) start 1 ls) is)
      ∙ ap (or_fault (fault_from (reached_from start (source_lines source)) start 1 (source_lines source))) (makes ∙ ap (λ ls. module_of (reached_from start ls) ls) is))

  pub outcome-fault : (fault : SourceFault) → Some fault ≡ fault_from (reached_from start lines) start 1 lines → outcome_of source ≡ Err fault
  outcome-fault fault found = outcome-by (Some fault) (module_of (reached_from start lines) lines) found refl

  pub outcome-made : (bytes : List ℕ) → None ≡ fault_from (reached_from start lines) start 1 lines →
      Some bytes ≡ module_of (reached_from start lines) lines → outcome_of source ≡ Ok bytes
  outcome-made bytes right makes = outcome-by None (Some bytes) right makes

  pub outcome-none : None ≡ fault_from (reached_from start lines) start 1 lines →
      None ≡ module_of (reached_from start lines) lines → outcome_of source ≡ Err (fault_on 0 NoModule)
  outcome-none right makes = outcome-by None None right makes
