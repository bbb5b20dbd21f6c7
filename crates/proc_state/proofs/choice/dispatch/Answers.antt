use Rattle.std.proofs.Common.{◌≡◌, sym, ap, ◌∙◌}
use Rattle.os9_sched.specs.Members.{is_active_in}
use Rattle.os9_sched.specs.Schedule.{Schedule}
use Rattle.proc_model.specs.Turns.{Choice}
use Rattle.proc_model.specs.Choice.{choice_of}
use Rattle.proc_state.proofs.Choosing.{choice_is}
use Rattle.proc_state.proofs.choice.dispatch.Goals as goal

pub returns-clause-chosen : goal.returns-clause-chosen
returns-clause-chosen c io m active tied =
    c.dispatch.ensures.chosen ∙ ap (λ (choice : Choice). choice.chosen) (choice_is io c.args.s.now m active tied)

pub returns-clause-tied : goal.returns-clause-tied
returns-clause-tied c io m active tied =
    let order_is : (choice_of io m).order ≡ c.dispatch.new.self.order =
    sym (ap (λ (s : Schedule). s.order) c.dispatch.ensures.schedule
    ∙ ap (λ (choice : Choice). choice.order) (choice_is io c.args.s.now m active tied)) in
    record {
      memory = tied.memory;
      is = λ i. record {
        memory = m.memory;
        records = (tied.is i).records;
        own = (tied.is i).own;
        order = order_is i;
        tick = (tied.is i).tick;
      };
    }

pub returns-clause-active : goal.returns-clause-active
returns-clause-active c io tick active q =
    ap (λ (s : Schedule). is_active_in s.members q) c.dispatch.ensures.schedule ∙ active q
