use Rattle.std.proofs.Common.{refl, sym, ap, ◌∙◌, subst}
use Rattle.proc_model.specs.Attempts.{after_attempt}
use Rattle.proc_model.specs.Processes.{Processes}
use Rattle.file_state.specs.Tie.{RepresentsFiles}
use Rattle.file_state.specs.declared.state.FileState.{FileState}
use Rattle.proc_state.specs.Tie.{RepresentsProcesses}
use Rattle.time_rules.specs.Attempts.{TimeAttempts}
use Rattle.time_rules.specs.Clock.{IsNow}
use Rattle.time_rules.specs.declared.clock.Clock.{Clock}
use Rattle.machine_model.specs.Services.{Serves, Service}
use Rattle.machine_model.specs.State.{Rest, rest_of}
use Rattle.os9_kernel.specs.declared.act.Act.TheVariants.{Attempt}
use Rattle.os9_kernel.specs.Ends.{event_end_of}
use Rattle.os9_kernel.proofs.Acting.{clock-is, event-then, terms-are}
use Rattle.os9_kernel.proofs.Calling.{end-tied, goes-on, lives-so, never-wants}
use Rattle.os9_kernel.proofs.Changing.{keeps-drives}
use Rattle.os9_kernel.proofs.Counting.{leaves-drives}
use Rattle.os9_kernel.proofs.Marking.{known-still}
use Rattle.os9_kernel.proofs.PathCalls.{is-clock, lives-on}
use Rattle.os9_kernel.proofs.Pending.{attempt-lowers}
use Rattle.os9_kernel.proofs.Represented.{no-call}
use Rattle.os9_kernel.proofs.Timing.{time-answers, time-tick}
use Rattle.os9_kernel.proofs.kernel.Kernel.time_call.Goals as goal

pub attempt_on_clock-end-requires-clause-clock : goal.attempt_on_clock-end-requires-clause-clock
attempt_on_clock-end-requires-clause-clock c =
    let (devices, (s, tied)) = c.requires.stands in
    is-clock c.args.self.now devices s tied

pub tell_end-requires-clause-lives : goal.tell_end-requires-clause-lives
tell_end-requires-clause-lives c =
    lives-on c.attempt_on_clock-end.result c.attempt_on_clock-end.new.s.table c.args.p.0 c.attempt_on_clock-end.ensures.lives

pub returns-clause-event : goal.returns-clause-event
returns-clause-event c devices =
    let old = c.args.self.now in
    let new = c.tell_end.new.self in
    let clock = c.attempt_on_clock-end.new.clock in
    let p = c.args.p in
    let act = Attempt c.args.code in
    let next = c.requires.next in
    let (devices0, (s0, tied0)) = c.requires.stands in
    let first = c.attempt_on_clock-end.ensures.call s0.processes tied0.processes in
    let (there0, same0) = c.tell_end.ensures.told s0.processes first.attempts.result first.attempts.comes in
    let ended = sym (c.event_end.ensures ∙ ap event_end_of same0) in
    let ticks_kept = sym (ap (λ (m : Processes). m.tick) there0.is) ∙ time-tick s0.processes p.0 c.args.call old.clock first.now
    first.attempts.result clock first.attempts.attempt ∙ ap (λ (m : Processes). m.tick) tied0.processes.is in record {
      step = λ _ s tied.
          let it = c.attempt_on_clock-end.ensures.call s.processes tied.processes in
          let result = it.attempts.result in
          let (there, same) = c.tell_end.ensures.told s.processes result it.attempts.comes in
          let clock_here = sym (clock-is old p act next devices s tied) in
          let stands : RepresentsFiles new.machine.files devices.drives s.files = subst
          (λ (files : FileState). RepresentsFiles files devices.drives s.files) (sym c.tell_end.ensures.files)
          tied.files in
          let is_now : IsNow s.clock s.processes.tick it.now = subst (λ (k : Clock). IsNow k s.processes.tick it.now) clock_here it.is in
          let attempt : TimeAttempts c.args.call s.processes s.clock it.now p.0 result clock = subst
          (λ (k : Clock). TimeAttempts c.args.call s.processes k it.now p.0 result clock) clock_here
          it.attempts.attempt in
          let rest : Rest = record (rest_of s) { clock = clock } in
          event-then old p act next devices s tied new devices _ (after_attempt s.processes p.0 result) s.files clock
          s.terms c.tell_end.ensures.chosen there stands (sym c.tell_end.ensures.clock)
          (terms-are old p act next devices s tied)
          (λ event. known-still old new c.tell_end.ensures.known (ap (λ (files : FileState). files.io)
          c.tell_end.ensures.files) (ap (λ (files : FileState). files.records) c.tell_end.ensures.files)
          ticks_kept tied.known) (
            result,
            rest,
            (
              it.now,
              is_now,
              subst (λ (service : Service). Serves service s it.now p.0 result rest)
                  (sym c.requires.serves) (clock, attempt, refl),
            ),
            c.event_end.ensures ∙ ap event_end_of same ∙ end-tied
                result,
            refl,
          );
      memory = λ out. absurd (never-wants first.attempts.result (ended ∙ out));
      waits = λ is. absurd (time-answers s0.processes p.0 c.args.call old.clock first.now first.attempts.result clock first.attempts.attempt (ended ∙ is));
      going = λ ran. (p, c.tell_end.ensures.chosen ∙ next.chosen, lives-so c.attempt_on_clock-end.result new.machine.processes.table p.0 (sym c.event_end.ensures ∙ ran) c.tell_end.ensures.lives);
      count = λ _. ticks_kept;
      calls = leaves-drives old devices devices refl;
      images = keeps-drives old devices devices refl;
    }

pub returns-clause-progress : goal.returns-clause-progress
returns-clause-progress c ran =
    let old = c.args.self.now in
    let new = c.tell_end.new.self in
    let p = c.args.p in
    let (devices, (s, tied)) = c.requires.stands in
    let it = c.attempt_on_clock-end.ensures.call s.processes tied.processes in
    let (there, same) = c.tell_end.ensures.told s.processes it.attempts.result it.attempts.comes in
    let (t, regs, is) = goes-on it.attempts.result (sym (c.event_end.ensures ∙ ap event_end_of same) ∙ ran) s.processes p.0 in
    let none = no-call new.machine.processes t p.0 regs c.requires.next.process.1 (subst (λ (m : Processes). RepresentsProcesses new.machine.processes m) is there) in
    attempt-lowers old p c.args.code c.requires.next new c.tell_end.ensures.chosen none
