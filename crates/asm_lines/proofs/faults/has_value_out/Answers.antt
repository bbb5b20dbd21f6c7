-- The values of a list are those of its parts.
use Rattle.std.proofs.Common.{ap, ◌∙◌}
use Rattle.asm_model.specs.declared.operand.Field.TheVariants as field
use Rattle.asm_model.specs.Placement.{action_values}
use Rattle.asm_lines.specs.Lines.{action_said}
use Rattle.asm_lines.proofs.LabelLemmas.{list_out-is}
use Rattle.asm_lines.proofs.faults.has_value_out.Goals as goal

pub returns-in-ByteList : goal.returns-in-ByteList
returns-in-ByteList c =
    c.is_list_out.ensures
    ∙ list_out-is c.args.place.labels.now field.Byte _ (action_said c.args.action.now) (ap (λ a. action_values (action_said a)) c.in-ByteList.is)
    c.args.place.offset c.next_of-next.result c.next_of-next.ensures

pub returns-in-WordList : goal.returns-in-WordList
returns-in-WordList c =
    c.is_list_out-in-WordList.ensures
    ∙ list_out-is c.args.place.labels.now field.Word _ (action_said c.args.action.now) (ap (λ a. action_values (action_said a)) c.in-WordList.is)
    c.args.place.offset c.next_of-next.result c.next_of-next.ensures
