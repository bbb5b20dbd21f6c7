use Rattle.std.proofs.Common.{◌∙◌, sym, ap}
use Rattle.proc_model.specs.Processes.{Processes}
use Rattle.proc_state.specs.First.{living_count}
use Rattle.proc_state.proofs.LivingTurns.{turns-living}
use Rattle.proc_state.proofs.state.ProcState.living.Goals as goal

pub returns-clause-here : goal.returns-clause-here
returns-clause-here c =
    let s = c.args.self.now in
    c.count.ensures.count
    ∙ turns-living s.sched.order s.table c.count.ensures.shape.once (λ p. c.count.ensures.shape.same p ∙ s.turns.members p)

pub returns-clause-tied : goal.returns-clause-tied
returns-clause-tied c m tied =
    let s = c.args.self.now in
    c.count.ensures.count
    ∙ turns-living s.sched.order s.table c.count.ensures.shape.once (λ p. c.count.ensures.shape.same p ∙ s.turns.members p)
    ∙ ap (λ (m : Processes). living_count m.records) (sym tied.is)
