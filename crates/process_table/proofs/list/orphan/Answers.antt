use Rattle.std.proofs.Common.{◌∙◌, sym, arith, map, None}
use Rattle.std.proofs.lemmas.List.{length-map, get_or-map, ext_get_or}
use Rattle.proc_model.specs.Ends.{orphaned}
use Rattle.process_table.proofs.list.orphan.Goals as goal

pub returns : goal.returns
returns c =
    ext_get_or None c.loop-place.records (map (orphaned c.args.parent.0) c.args.records.now)
    (omega (arith, length-map c.args.records.now (orphaned c.args.parent.0), c.loop-place.auto.records))
    (λ k h. c.loop-place.invariant.done k (omega (arith, c.loop-place.auto.records)) ∙ sym
    (get_or-map (orphaned c.args.parent.0) c.args.records.now k None None
    (omega (arith, c.loop-place.auto.records))))
