use Rattle.std.proofs.Common.{◌∙◌, sym, arith, map}
use Rattle.std.proofs.lemmas.List.{length-map, get_or-map, ext_get_or}
use Rattle.proc_model.specs.Processes.{no_own}
use Rattle.proc_model.specs.ModuleLinks.{still_primary}
use Rattle.proc_state.proofs.links.keep_entered.Goals as goal

pub returns : goal.returns
returns c =
    ext_get_or no_own c.loop-own.owns (map (still_primary c.args.modules.now) c.args.owns.now)
    (omega (arith, length-map c.args.owns.now (still_primary c.args.modules.now), c.loop-own.auto.owns))
    (λ k h. c.loop-own.invariant.done k (omega (arith, c.loop-own.auto.owns)) ∙ sym
    (get_or-map (still_primary c.args.modules.now) c.args.owns.now k no_own no_own
    (omega (arith, c.loop-own.auto.owns))))
