-- The values and the bytes by the table are those by the list.
use Rattle.std.proofs.Common.{◌+◌, ◌++◌, Some, None, ap, sym, ◌∙◌}
use Rattle.std.specs.Prelude.{if◌then◌else◌}
use Rattle.asm_model.specs.Placement.{action_length}
use Rattle.asm_lines.specs.Lines.{action_said}
use Rattle.asm6809.proofs.BytesLemmas.{bytes-same, filled-same}
use Rattle.asm6809.proofs.emit.push_statement.Goals as goal

pub returns-else-is_filled-clause-next : goal.returns-else-is_filled-clause-next
returns-else-is_filled-clause-next c = λ m reached.
    ap (λ b. if b then Some (c.args.offset + action_length (action_said c.args.action.now)) else None)
    (sym c.if-is_filled.false ∙ c.is_filled.ensures ∙ filled-same c.args.all.now.labels m c.args.offset reached.labels (action_said c.args.action.now))

pub returns-in_ok-next_offset-clause-bytes : goal.returns-in_ok-next_offset-clause-bytes
returns-in_ok-next_offset-clause-bytes c = λ m reached.
    c.in_ok-push_action.ensures ∙ ap (λ bytes. c.args.code.now.items ++ bytes) (bytes-same c.args.all.now.labels m c.args.offset reached.labels (action_said c.args.action.now))

pub returns-in_ok-next_offset-clause-next : goal.returns-in_ok-next_offset-clause-next
returns-in_ok-next_offset-clause-next c = λ m reached.
    ap Some c.in_ok-next_offset.ensures
    ∙ ap (λ b. if b then Some (c.args.offset + action_length (action_said c.args.action.now)) else None)
    (sym c.if-is_filled.true ∙ c.is_filled.ensures ∙ filled-same c.args.all.now.labels m c.args.offset reached.labels (action_said c.args.action.now))
