use Rattle.std.proofs.Common.{Option, List, sym, ap, subst}
use Rattle.guest_memory.specs.Tie.{modules_of}
use Rattle.os9_sched.specs.Schedule.{Schedule}
use Rattle.proc_model.specs.Memory.{first_memory}
use Rattle.proc_model.specs.declared.own.Own.{Own}
use Rattle.proc_model.specs.declared.record.Record.{Record}
use Rattle.proc_model.specs.Records.{AreProcessRecords}
use Rattle.proc_state.specs.Sound.{AreTurns, ArePrimaries, AreSleeps}
use Rattle.proc_state.proofs.First.{AreRecords-first, AreTurns-first, ArePrimaries-first}
use Rattle.proc_state.proofs.Sleeps.{AreSleeps-first}
use Rattle.proc_state.proofs.state.ProcState.new.Goals as goal

pub invariant_of-result-clause-numbers : goal.invariant_of-result-clause-numbers
invariant_of-result-clause-numbers c = subst AreProcessRecords (sym c.in_ok-new-2.ensures.empty) AreRecords-first

pub invariant_of-result-clause-turns : goal.invariant_of-result-clause-turns
invariant_of-result-clause-turns c =
    subst (λ (records : List (Option Record)). AreTurns records c.in_ok-new-3.field-0) (sym c.in_ok-new-2.ensures.empty)
    (subst (λ (schedule : Schedule). AreTurns _ schedule) (sym c.in_ok-new-3.ensures.empty) AreTurns-first)

pub invariant_of-result-clause-primaries : goal.invariant_of-result-clause-primaries
invariant_of-result-clause-primaries c =
    let modules = modules_of c.in_ok-new.field-0 in
    subst (λ (owns : List Own). ArePrimaries owns modules) (sym c.in_ok-empty_places.ensures) (ArePrimaries-first modules)

pub invariant_of-result-clause-sleeps : goal.invariant_of-result-clause-sleeps
invariant_of-result-clause-sleeps c =
    subst (λ (owns : List Own). AreSleeps owns 0) (sym c.in_ok-empty_places.ensures) (AreSleeps-first 0)

pub returns : goal.returns
returns c = record {
  memory = c.in_ok-new.ensures;
  is = λ i. record {
    memory = first_memory c.args.blocks;
    records = sym c.in_ok-new-2.ensures.empty i;
    own = sym c.in_ok-empty_places.ensures i;
    order = sym (ap (λ (s : Schedule). s.order) c.in_ok-new-3.ensures.empty) i;
    tick = 0;
  };
}
