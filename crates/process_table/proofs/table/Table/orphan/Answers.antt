use Rattle.std.proofs.Common.{◌≡◌, ◌∙◌, ◌<◌, ℕ, Option, None, List, length, map, sym, ap, subst, rules, arith}
use Rattle.std.proofs.lemmas.List.{length-map, get_or-map}
use Rattle.std.proofs.lemmas.Grind.{common_steps}
use Rattle.proc_model.specs.declared.record.Record.{Record}
use Rattle.proc_model.specs.Records.{AreProcessRecords}
use Rattle.proc_model.specs.Ends.{orphaned}
use Rattle.process_table.proofs.table.Table.orphan.Goals as goal

-- the places that are left when children lose a parent
left_records : (records left : List (Option Record)) (parent : ℕ) → left ≡ map (orphaned parent) records → AreProcessRecords records → AreProcessRecords left
left_records records left parent is are = subst AreProcessRecords (sym is) (record {
  places = length-map records (orphaned parent) ∙ are.places;
  from_two = λ p low.
      let within : p < length records = omega (arith, are.places) in
      get_or-map (orphaned parent) records p None None within ∙ ap (orphaned parent) (are.from_two p low);
})

pub invariant_of-self : goal.invariant_of-self
invariant_of-self c =
    left_records c.self.inside.records.items _ c.args.parent.0 (first_of (search rules, grind (arith, common_steps))) c.self.invariant

pub returns-clause-shape : goal.returns-clause-shape
returns-clause-shape c =
    left_records c.self.inside.records.items _ c.args.parent.0 (first_of (search rules, grind (arith, common_steps))) c.self.invariant
