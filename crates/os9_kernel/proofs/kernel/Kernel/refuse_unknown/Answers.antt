use Rattle.std.proofs.Common.{refl, sym, subst}
use Rattle.proc_state.proofs.Entered.{some-machine}
use Rattle.os9_base.specs.declared.errors.TheConstants.{E_UNKSVC}
use Rattle.proc_model.specs.Attempts.{after_attempt, goes_on, refused_regs}
use Rattle.proc_model.specs.CallResult.{refused}
use Rattle.proc_model.specs.Processes.{Processes, regs_at}
use Rattle.machine_model.specs.Services.{Serves, Service}
use Rattle.machine_model.specs.State.{rest_of}
use Rattle.os9_kernel.specs.declared.act.Act.TheVariants.{Attempt}
use Rattle.os9_kernel.proofs.Acting.{event-here}
use Rattle.os9_kernel.proofs.Changing.{keeps-drives}
use Rattle.os9_kernel.proofs.Counting.{leaves-drives}
use Rattle.os9_kernel.proofs.Marking.{known-still}
use Rattle.os9_kernel.proofs.PathCalls.{some-time}
use Rattle.os9_kernel.proofs.Pending.{attempt-lowers}
use Rattle.os9_kernel.proofs.Represented.{tick-kept, no-call}
use Rattle.os9_kernel.proofs.kernel.Kernel.refuse_unknown.Goals as goal

pub returns-clause-event : goal.returns-clause-event
returns-clause-event c devices =
    let old = c.args.self.now in
    let new = record old { machine = record old.machine { processes = c.refuse.new.self } } in
    let p = c.args.p in
    let act = Attempt c.args.code in
    let next = c.requires.next in
    let ticks_kept = tick-kept old.machine.processes c.refuse.new.self (λ (m : Processes). goes_on m p.0 (refused_regs (regs_at m p.0) E_UNKSVC)) c.refuse.ensures.tied (λ m. refl) in record {
      step = λ _ s tied.
          let (now, is_now) = some-time old devices s tied in
          event-here old p act next devices s tied new _ (after_attempt s.processes p.0 (refused E_UNKSVC)) s.files refl refl (c.refuse.ensures.tied s.processes tied.processes) tied.files
          (known-still old new refl refl refl ticks_kept tied.known)
          (refused E_UNKSVC, rest_of s, (now, is_now, subst (λ (service : Service). Serves service s now p.0 (refused E_UNKSVC) (rest_of s)) (sym c.requires.serves) (refl, refl)), refl, refl);
      memory = λ is. cc;
      waits = λ is. cc;
      going = λ _. (p, next.chosen, c.refuse.ensures.lives);
      count = λ _. ticks_kept;
      calls = leaves-drives old devices devices refl;
      images = keeps-drives old devices devices refl;
    }

pub returns-clause-progress : goal.returns-clause-progress
returns-clause-progress c =
    let old = c.args.self.now in
    let (m, tied) = some-machine old.machine.processes in
    let none = no-call c.refuse.new.self m c.args.p.0 (refused_regs (regs_at m c.args.p.0) E_UNKSVC) c.requires.next.process.1 (c.refuse.ensures.tied m tied) in
    attempt-lowers old c.args.p c.args.code c.requires.next (record old { machine = record old.machine { processes = c.refuse.new.self } }) refl none
