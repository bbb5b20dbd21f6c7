-- The labels of a list are those of its parts.
use Rattle.std.proofs.Common.{ap, ◌∙◌}
use Rattle.asm_model.specs.declared.operand.Field.TheVariants as field
use Rattle.asm_model.specs.Placement.{action_values}
use Rattle.asm_lines.specs.Lines.{action_said}
use Rattle.asm_lines.proofs.LabelLemmas.{list_names-is}
use Rattle.asm_lines.proofs.faults.names_are_among.Goals as goal

pub returns-in-ByteList : goal.returns-in-ByteList
returns-in-ByteList c =
    c.are_list_names_known.ensures
    ∙ list_names-is c.args.labels.now field.Byte _ (action_said c.args.action.now) (ap (λ a. action_values (action_said a)) c.in-ByteList.is)

pub returns-in-WordList : goal.returns-in-WordList
returns-in-WordList c =
    c.are_list_names_known-in-WordList.ensures
    ∙ list_names-is c.args.labels.now field.Word _ (action_said c.args.action.now) (ap (λ a. action_values (action_said a)) c.in-WordList.is)
