use Rattle.std.proofs.Common.{◌≡◌, option_map, refl, sym, ap, ◌∙◌}
use Rattle.os9_base.specs.declared.registers.Pid.{Pid}
use Rattle.proc_model.specs.Choice.{choice_of, after_choice}
use Rattle.file_rules.specs.Locking.{files_may_go}
use Rattle.machine_model.specs.Run.{Choose}
use Rattle.machine_model.specs.State.{State}
use Rattle.os9_kernel.specs.declared.kernel.Kernel.{Kernel}
use Rattle.lock_laws.proofs.OpenRuns.{choice-open}
use Rattle.os9_kernel.proofs.Looking.{looked-still}
use Rattle.os9_kernel.proofs.Marking.{known-still}
use Rattle.os9_kernel.proofs.kernel.Kernel.choose.Goals as goal

pub returns-clause-count : goal.returns-clause-count
returns-clause-count c = c.dispatch-self.ensures.tick ∙ c.look.ensures.count

pub returns-clause-active : goal.returns-clause-active
returns-clause-active c devices s there =
    c.dispatch-self.ensures.active (files_may_go s.files s.processes.tick) s.processes.tick (c.look.ensures.active devices s there)

pub returns-clause-step : goal.returns-clause-step
returns-clause-step c devices s there =
    let m = s.processes in
    let looked = c.look.new.self in
    let now = c.look.ensures.represents devices s there in
    let io = files_may_go s.files m.tick in
    let active = c.look.ensures.active devices s there in
    let who : c.dispatch-self.result ≡ (choice_of io m).chosen = c.dispatch-self.ensures.chosen io m active now.processes in
    let t : State = record s { processes = after_choice io m; chosen = option_map (λ (p : Pid). p.0) (choice_of io m).chosen } in
    let new : Kernel = record looked { machine = record looked.machine { processes = c.dispatch-self.new.s }; chosen = c.dispatch-self.result; executed = 0 } in
    let chooses : Choose s t = refl in (
      t,
      chooses,
      record {
        processes = c.dispatch-self.ensures.tied io m active now.processes;
        files = now.files;
        is = λ i. record {
          processes = after_choice io m;
          files = s.files;
          clock = (now.is i).clock;
          chosen = option_map (λ (p : Pid). p.0) (sym who i);
          terms = (now.is i).terms;
        };
        run = choice-open s t chooses there.run;
        looked = looked-still looked new refl refl c.dispatch-self.ensures.tick c.dispatch-self.ensures.active now.looked;
        known = known-still looked new refl refl refl c.dispatch-self.ensures.tick now.known;
      },
      ap (option_map (λ (p : Pid). p.0)) who,
    )
