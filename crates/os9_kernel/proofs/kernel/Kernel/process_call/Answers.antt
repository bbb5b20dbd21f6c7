use Rattle.std.proofs.Common.{◌≡◌, Option, Some, refl, sym, ap, ◌∙◌, subst}
use Rattle.std.specs.Prelude.{IfSome, slice_index_or}
use Rattle.proc_state.proofs.Entered.{some-machine}
use Rattle.os9_base.specs.declared.call.CallEnd.{CallEnd}
use Rattle.os9_sched.specs.Members.{member_of, wait_at}
use Rattle.call_dispatch.specs.Waits.{waits_for}
use Rattle.proc_model.specs.Attempts.{attempted, after_attempt}
use Rattle.proc_model.specs.Processes.{Processes, no_own}
use Rattle.proc_model.specs.declared.proc_call.ProcCall.{ProcCall}
use Rattle.file_rules.specs.Files.{Files}
use Rattle.file_state.specs.Tie.{RepresentsFiles}
use Rattle.file_rules.specs.Locking.{call_wait}
use Rattle.proc_model.specs.Records.{IsLiving, is_waiting, record_at}
use Rattle.proc_state.specs.declared.state.ProcState.{ProcState}
use Rattle.proc_state.specs.Tie.{RepresentsProcesses}
use Rattle.machine_model.proofs.Ticks.{attempt-tick}
use Rattle.machine_model.specs.Services.{Serves, Service, files_after_call, with_files}
use Rattle.os9_kernel.specs.declared.act.Act.TheVariants.{Attempt}
use Rattle.os9_kernel.specs.Causes.{wait_by}
use Rattle.os9_kernel.specs.Ends.{event_end_of}
use Rattle.machine_model.specs.State.{State}
use Rattle.os9_kernel.specs.Paths.{files_then}
use Rattle.os9_kernel.specs.Tie.{IsKnown, Represents}
use Rattle.os9_kernel.proofs.Acting.{event-here}
use Rattle.os9_kernel.proofs.Calling.{end-tied, files-tied, goes-on, lives-so, never-wants}
use Rattle.os9_kernel.proofs.Changing.{keeps-drives}
use Rattle.os9_kernel.proofs.Counting.{leaves-drives}
use Rattle.os9_kernel.proofs.Marking.{known-still}
use Rattle.os9_kernel.proofs.PathCalls.{some-time}
use Rattle.os9_kernel.proofs.Pending.{attempt-lowers}
use Rattle.os9_kernel.proofs.Represented.{tick-kept, no-call}
use Rattle.os9_kernel.proofs.Serving.{process-served, serves-plain}
use Rattle.os9_kernel.proofs.Waiting.{code-held, rests-so, waits-so}
use Rattle.os9_kernel.proofs.kernel.Kernel.process_call.Goals as goal

pub returns-clause-event : goal.returns-clause-event
returns-clause-event c devices =
    let old = c.args.self.now in
    let new = c.follow.new.self in
    let p = c.args.p in
    let act = Attempt c.args.code in
    let next = c.requires.next in
    let ticks_kept = tick-kept old.machine.processes c.attempt_on_process-end.new.s (λ (m : Processes). after_attempt m p.0 (attempted c.args.call m p.0))
    (λ m there. (c.attempt_on_process-end.ensures.call m there).0) (λ m. attempt-tick m p.0 c.args.call) in
    let known_then : (s : State) → Represents old devices s → IsKnown new =
    (λ s tied. c.follow.ensures.known (known-still old (record old { machine = record old.machine { processes = c.attempt_on_process-end.new.s } }) refl refl refl ticks_kept tied.known)) in record {
      step = λ _ s tied.
          let (there, ends) = c.attempt_on_process-end.ensures.call s.processes tied.processes in
          let (time, is_time) = some-time old devices s tied in
          let result = attempted c.args.call s.processes p.0 in
          let left = files_after_call s.files p.0 result in
          let now : RepresentsProcesses new.machine.processes (after_attempt s.processes p.0 result) = subst
          (λ (processes : ProcState). RepresentsProcesses processes (after_attempt s.processes p.0 result))
          (sym c.follow.ensures.processes) there in
          let stands : RepresentsFiles new.machine.files devices.drives left = subst (λ (files : Files). RepresentsFiles new.machine.files
          devices.drives files) (ap (λ (end : CallEnd). files_then end s.files p.0) ends ∙ files-tied s.files p.0
          result) (c.follow.ensures.files devices.drives s.files tied.files) in
          event-here old p act next devices s tied new _ (after_attempt s.processes p.0 result) left c.follow.ensures.chosen c.follow.ensures.clock now stands (known_then s tied) (
            result,
            with_files s left,
            (
              time,
              is_time,
              subst (λ (service : Service). Serves service s time p.0 result
                  (with_files s left)) (sym c.requires.serves) (serves-plain s time p.0 result (with_files s left)
                  c.args.call c.requires.plain refl refl),
            ),
            c.event_end.ensures ∙ ap event_end_of ends ∙ end-tied result,
            refl,
          );
      memory = λ out.
          let (m, there) = some-machine old.machine.processes in
          let ends = (c.attempt_on_process-end.ensures.call m there).1 in
          absurd (never-wants (attempted c.args.call m p.0) (sym (c.event_end.ensures ∙ ap event_end_of ends) ∙ out));
      going = λ ran. (
        p,
        c.follow.ensures.chosen ∙ next.chosen,
        subst (λ (processes : ProcState). IsLiving
            processes.table p.0) (sym c.follow.ensures.processes) (lives-so c.attempt_on_process-end.result
            c.attempt_on_process-end.new.s.table p.0 (sym c.event_end.ensures ∙ ran) c.attempt_on_process-end.ensures.lives),
      );
      waits = λ is.
          let waiting = waits-so c.attempt_on_process-end.result (sym c.event_end.ensures ∙ is) in record {
            p = p;
            chosen = next.chosen;
            code = c.args.code;
            call = code-held (slice_index_or old.machine.processes.own.items p.0 no_own).call
                (is_waiting (record_at old.machine.processes.table p.0).life) (record_at old.machine.processes.table p.0).signal
                c.args.code next.next;
            first = λ fresh.
                subst (λ (call : Option ProcCall). IfSome (wait_by call (slice_index_or new.machine.processes.own.items p.0
                no_own) (call_wait new.machine.files.io new.machine.files.records.locks p.0))
                (λ wait. wait_at (member_of new.machine.processes.sched.members p.0) ≡ Some wait))
                (sym (process-served c.args.code c.args.call c.requires.serves))
                (subst (λ (processes : ProcState). IfSome (waits_for c.args.call (slice_index_or processes.own.items
                p.0 no_own)) (λ wait. wait_at (member_of processes.sched.members p.0) ≡ Some wait))
                (sym c.follow.ensures.processes)
                (rests-so (waits_for c.args.call (slice_index_or c.attempt_on_process-end.new.s.own.items p.0 no_own))
                old.machine.processes c.attempt_on_process-end.new.s p.0 next.lives fresh (c.attempt_on_process-end.ensures.waits waiting)));
          };
      count = λ _. ap (λ (processes : ProcState). processes.tick) c.follow.ensures.processes ∙ ticks_kept;
      calls = leaves-drives old devices devices refl;
      images = keeps-drives old devices devices refl;
    }

pub returns-clause-progress : goal.returns-clause-progress
returns-clause-progress c ran =
    let old = c.args.self.now in
    let p = c.args.p in
    let (m, there) = some-machine old.machine.processes in
    let (now, ends) = c.attempt_on_process-end.ensures.call m there in
    let (t, regs, is) = goes-on (attempted c.args.call m p.0) (sym (c.event_end.ensures ∙ ap event_end_of ends) ∙ ran) m p.0 in
    let none = no-call c.attempt_on_process-end.new.s t p.0 regs c.requires.next.process.1 (subst (λ (x : Processes). RepresentsProcesses c.attempt_on_process-end.new.s x) is now) in
    attempt-lowers old p c.args.code c.requires.next c.follow.new.self c.follow.ensures.chosen
    (ap (λ (processes : ProcState). (slice_index_or processes.own.items p.0 no_own).call) c.follow.ensures.processes ∙ none)
