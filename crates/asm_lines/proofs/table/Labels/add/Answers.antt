-- A label that is there keeps its value, and another one gets this one.
use Rattle.std.proofs.Common.{Some, sym, ◌∙◌}
use Rattle.std.proofs.lemmas.Map.Text.{hash_map_updates_str}
use Rattle.asm_lines.proofs.LabelLemmas.{holds-known, holds-added}
use Rattle.asm_lines.proofs.table.Labels.add.Goals as goal

pub returns-then-contains_key : goal.returns-then-contains_key
returns-then-contains_key c = λ labels holds.
    holds-known c.args.self.now labels c.args.name.now c.args.value holds (sym c.contains_key.ensures ∙ c.if-contains_key.true)

pub returns-in-Ok : goal.returns-in-Ok
returns-in-Ok c = λ labels holds.
    holds-added c.args.self.now _ labels c.args.name.now c.args.value holds (sym c.contains_key.ensures ∙ c.if-contains_key.false)
    (λ q. hash_map_updates_str c.args.name.now c.args.self.now.values c.insert.new.self (Some c.args.value) c.in-Ok.ensures.updates q)
