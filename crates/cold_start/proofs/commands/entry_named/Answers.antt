use Rattle.std.proofs.Common.{◌∙◌, ap, arith}
use Rattle.rbf_model.specs.Fields.{descriptor_field}
use Rattle.rbf_model.specs.Walk.{entry_has_name}
use Rattle.rbf_walk.proofs.Places.{none_one_more, first_here, found_at}
use Rattle.cold_start.proofs.CommandLemmas.{none-named}
use Rattle.cold_start.proofs.commands.entry_named.Goals as goal

pub loop-i-preserved : goal.loop-i-preserved
loop-i-preserved c =
    none_one_more (entry_has_name c.args.name.now) c.args.directory.now _ c.loop-i.i _ c.loop-i.invariant c.entry_at-entry.ensures c.has_name.ensures c.if-has_name.false

pub returns-then-has_name : goal.returns-then-has_name
returns-then-has_name c = (
  c.loop-i.i,
  found_at c.args.directory.now c.args.name.now c.loop-i.i _ (first_here (entry_has_name c.args.name.now)
      c.args.directory.now _ _ c.loop-i.i _ c.loop-i-test.true c.loop-i.invariant c.entry_at-entry.ensures
      c.has_name.ensures c.if-has_name.true)
      (c.read_entry.ensures.lsn ∙ ap descriptor_field c.entry_at-entry.ensures),
)

pub returns : goal.returns
returns c = none-named c.args.directory.now c.args.name.now c.loop-i.i c.loop-i.invariant (omega (arith, c.loop-i-test.false))
