use Rattle.std.proofs.Common.{Option, List, sym, subst, refl}
use Rattle.guest_memory.specs.Tie.{modules_of}
use Rattle.os9_sched.specs.Schedule.{Schedule}
use Rattle.proc_model.specs.Memory.{MemoryState}
use Rattle.proc_model.specs.MemoryChanges.{cleared}
use Rattle.proc_model.specs.declared.record.Record.{Record}
use Rattle.proc_model.specs.Ends.{after_exit}
use Rattle.proc_state.specs.Sound.{AreTurns}
use Rattle.proc_state.proofs.Entered.{entered-kept}
use Rattle.proc_state.proofs.Leaving.{AreTurns-left}
use Rattle.proc_state.proofs.Primaries.{ArePrimaries-none, ArePrimaries-kept}
use Rattle.proc_state.proofs.Sleeps.{AreSleeps-none}
use Rattle.proc_state.proofs.state.ProcState.leave.Goals as goal

pub invariant_of-self-clause-turns : goal.invariant_of-self-clause-turns
invariant_of-self-clause-turns c =
    let s = c.args.self.now in
    subst (λ (records : List (Option Record)). AreTurns records c.remove.new.self) (sym c.exit.ensures.records)
    (subst (λ (schedule : Schedule). AreTurns (after_exit s.table c.args.p.0 c.args.status) schedule) (sym c.remove.ensures.schedule)
    (AreTurns-left s.table s.sched s.turns c.args.p.0 c.args.status c.requires))

pub invariant_of-self-clause-primaries : goal.invariant_of-self-clause-primaries
invariant_of-self-clause-primaries c =
    let s = c.args.self.now in
    ArePrimaries-none s.own.items (modules_of c.clear.new.self) c.args.p.0 _ refl
    (ArePrimaries-kept s.own.items (modules_of s.memory) (modules_of c.clear.new.self)
    (entered-kept s.memory c.clear.new.self (λ (m : MemoryState). cleared m c.args.p.0) c.clear.ensures (λ m. refl)) s.primaries)

pub invariant_of-self-clause-sleeps : goal.invariant_of-self-clause-sleeps
invariant_of-self-clause-sleeps c =
    let s = c.args.self.now in
    AreSleeps-none s.own.items s.tick c.args.p.0 _ refl s.sleeps
