use Rattle.std.proofs.Common.{◌==◌, not, rules}
use Rattle.std.proofs.lemmas.Fn.{filter_same}
use Rattle.proc_model.specs.declared.turn.Turn.{Turn}
use Rattle.os9_sched.proofs.sched.remove_turn.Goals as goal

pub returns-clause-items : goal.returns-clause-items
returns-clause-items c =
    filter_same _ (λ (t : Turn). not (t.process.0 == c.args.p.0)) _ (λ x b f' k. search rules) _ _ c.retain.ensures.filtered
