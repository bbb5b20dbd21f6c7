use Rattle.std.proofs.Common.{◌≡◌, ◌≢◌, ℕ, false, Option, Some, None, List, length, refl, sym, ap, ◌∙◌, subst, inl, inr}
use Rattle.std.specs.Vec.{vec_len}
use Rattle.std.proofs.lemmas.List.{length-map}
use Rattle.std.specs.Prelude.{IfSome, slice_index_or}
use Rattle.os9_base.specs.declared.call.CallEnd.{CallEnd}
use Rattle.os9_base.specs.declared.call.CallEnd.TheVariants.{NoMemory, Wait}
use Rattle.os9_outer.specs.TerminalState.{TerminalState}
use Rattle.os9_sched.specs.Members.{member_of, wait_at}
use Rattle.os9_sched.specs.declared.member.Cause.{Cause}
use Rattle.proc_model.specs.Attempts.{after_attempt}
use Rattle.proc_model.specs.CallResult.{CallResult}
use Rattle.proc_model.specs.Processes.{Processes, no_own}
use Rattle.proc_model.specs.declared.proc_call.ProcCall.{ProcCall}
use Rattle.file_rules.specs.Memory.{LacksEntry, LacksMemory}
use Rattle.call_dispatch.specs.Attempts.{MayAttemptPathCall}
use Rattle.file_rules.specs.Attempts.{FileAttempts, asker_of, io_effect}
use Rattle.io_model.specs.Path.{ArePaths}
use Rattle.io_model.specs.Io.{Io}
use Rattle.file_laws.specs.Devices.{number_in}
use Rattle.file_state.specs.Tie.{RepresentsFiles}
use Rattle.file_state.specs.declared.state.FileState.{FileState}
use Rattle.io_model.specs.Attempts.{result_of}
use Rattle.lock_model.specs.Records.{Records}
use Rattle.file_rules.specs.Locking.{call_wait}
use Rattle.file_state.specs.Attempt.{settled}
use Rattle.machine_model.specs.declared.ends.EventEnd.{EventEnd}
use Rattle.proc_model.specs.declared.record.Record.{Record}
use Rattle.proc_model.specs.Records.{IsLiving, is_waiting, record_at}
use Rattle.file_drives.specs.Drives.{boxed_seen}
use Rattle.proc_state.specs.Tie.{ReturnsCallEnd, RepresentsProcesses}
use Rattle.machine_model.specs.Services.{Serves, Service, on_paths}
use Rattle.machine_model.specs.Event.{Event}
use Rattle.machine_model.specs.State.{Rest, State}
use Rattle.os9_kernel.specs.declared.act.Act.TheVariants.{Attempt}
use Rattle.os9_kernel.specs.Causes.{wait_by}
use Rattle.os9_kernel.specs.Ends.{event_end_of}
use Rattle.os9_kernel.specs.Marks.{Concerns, named_cause}
use Rattle.os9_kernel.specs.Outside.{Outside, outside}
use Rattle.os9_kernel.specs.Tie.{IsKnown}
use Rattle.os9_kernel.specs.declared.kernel.Kernel.{Kernel}
use Rattle.os9_kernel.specs.declared.marks.Known.{Known}
use Rattle.os9_kernel.proofs.Acting.{acts-so, chosen-is, clock-is, event-then, lives-there, terms-are}
use Rattle.os9_kernel.proofs.Asking.{may-attempt-here}
use Rattle.os9_kernel.proofs.Calling.{end-tied, goes-on, lives-so}
use Rattle.os9_kernel.proofs.Changing.{keeps-attempt, keeps-drives}
use Rattle.os9_kernel.proofs.Counting.{attempt-within-at, leaves-drives}
use Rattle.os9_kernel.proofs.Holding.{holds-mounted, holds-still}
use Rattle.os9_kernel.proofs.PathCalls.{attempt-tick, cases-memory, is-clock, is-sound, lives-on, now-here, path-lives, time-for, time-shown, wants-so}
use Rattle.os9_kernel.proofs.Marking.{known-after}
use Rattle.os9_kernel.proofs.Pending.{attempt-lowers}
use Rattle.os9_kernel.proofs.Represented.{no-call}
use Rattle.os9_kernel.proofs.Serving.{path-served}
use Rattle.os9_kernel.proofs.Waiting.{code-held, records-kept, rests-so, waits-so}
use Rattle.os9_kernel.proofs.kernel.Kernel.path_call.Goals as goal

pub time_for-requires : goal.time_for-requires
time_for-requires g c =
    let (s, tied) = c.requires.stands in
    is-clock c.args.self.now _ s tied

pub attempt_on_path-end-requires-clause-may : goal.attempt_on_path-end-requires-clause-may
attempt_on_path-end-requires-clause-may g c =
    let (s, tied) = c.requires.stands in
    let terms = c.args.devices.now.terms in
    let before = outside (λ box. (g.dyn-1.0.entry box.vtable).1) (λ box. (g.dyn-2.0.entry box.vtable).1) c.args.devices.now in
    let long : length before.terms ≡ vec_len terms = simp length-map (sym terms.ok.0) in
    subst (λ (n : ℕ). MayAttemptPathCall c.args.call c.args.self.now.machine.processes c.args.self.now.machine.files c.args.p.0 n) long
    (may-attempt-here c.args.self.now c.args.p c.args.code c.requires.next before s tied c.args.call (path-served c.args.code c.args.call c.requires.serves).1)

pub attempt_on_path-end-requires-clause-sound : goal.attempt_on_path-end-requires-clause-sound
attempt_on_path-end-requires-clause-sound g c =
    let (s, tied) = c.requires.stands in
    is-sound c.args.self.now _ s tied

pub tell_end-requires-clause-lives : goal.tell_end-requires-clause-lives
tell_end-requires-clause-lives g c =
    lives-on c.attempt_on_path-end.result c.attempt_on_path-end.new.machine.processes.table c.args.p.0 c.attempt_on_path-end.ensures.kept.lives

pub returns-clause-event : goal.returns-clause-event
returns-clause-event g c =
    let old = c.args.self.now in
    let new = c.tell_end.new.self in
    let made = c.time_for.result in
    let p = c.args.p in
    let act = Attempt c.args.code in
    let next = c.requires.next in
    let coded = path-served c.args.code c.args.call c.requires.serves in
    let before : Outside = outside (λ box. (g.dyn-1.0.entry box.vtable).1) (λ box. (g.dyn-2.0.entry box.vtable).1) c.args.devices.now in
    let after : Outside = outside (λ box. (g.dyn-1.0.entry box.vtable).1) (λ box. (g.dyn-2.0.entry box.vtable).1) c.attempt_on_path-end.new.devices in
    let other : c.event_end.result ≢ EventEnd.NoMemory → c.attempt_on_path-end.result ≢ NoMemory = (λ other out. other (c.event_end.ensures ∙ ap event_end_of out)) in
    let settled_is : new.machine.files ≡ settled p.0 c.attempt_on_path-end.result c.attempt_on_path-end.new.machine.files =
    c.tell_end.ensures.files ∙ ap (λ (records : Records). let files : FileState = record c.attempt_on_path-end.new.machine.files { records = records } in files) c.forget_request.ensures in
    let (s0, tied0) = c.requires.stands in
    let (time, is_time) = time-shown old before s0 tied0 in
    let fits = time-for old.clock old.machine.processes.tick c.args.call made time c.time_for.ensures is_time in record {
      step = λ ran s tied.
          let it = ((c.attempt_on_path-end.ensures.call time fits s.processes s.files tied.processes tied.files tied.run.locked.state.running.kinds).attempted (other ran)).attempts in
          let (there, same) = c.tell_end.ensures.told s.processes it.result it.comes in
          let attempt : FileAttempts c.args.call s.processes s.files time p.0 it.result it.left s.terms after.terms =
          subst (λ (terms : List TerminalState). FileAttempts c.args.call s.processes s.files time p.0 it.result
          it.left terms after.terms) (sym (terms-are old p act next before s tied)) it.attempt in
          let stands : RepresentsFiles new.machine.files after.drives it.left = subst (λ (files : FileState). RepresentsFiles files after.drives it.left) (sym settled_is) it.stands in
          let rest : Rest = record { files = it.left; clock = s.clock; terms = after.terms } in
          let t : State = record s { processes = after_attempt s.processes p.0 it.result; files = it.left; terms = after.terms } in
          let ticks_kept = sym (ap (λ (m : Processes). m.tick) there.is)
          ∙ attempt-tick c.args.call s.processes s.files time p.0 it.result it.left s.terms after.terms attempt
          ∙ ap (λ (m : Processes). m.tick) tied.processes.is in
          let lives : IsLiving t.processes.records p.0 = subst (λ (m : Processes). IsLiving m.records p.0) (sym there.is)
          (path-lives c.attempt_on_path-end.result c.args.call s.processes s.files time p.0 it.result it.left s.terms after.terms attempt same new.machine.processes.table c.tell_end.ensures.lives) in
          let marked : (q : ℕ) (cause : Cause) → Concerns c.marks_with-self.result q cause → Concerns new.known.marks q cause =
          (λ q cause. subst (λ (known : Known). Concerns known.marks q cause) (sym c.tell_end.ensures.known)) in
          let known-then : Event s c.event_end.result t → IsKnown new = (λ event.
          known-after s t c.event_end.result p.0 c.args.code c.args.call tied.run event (chosen-is old p act next before s tied)
          (acts-so old p act next before s tied) c.requires.serves lives old new tied.files.io tied.files.records stands.io stands.records
          (subst (λ (io : Io). ArePaths io.paths) (sym tied.files.io) c.marks_with-self.ensures.paths)
          (ap (λ (known : Known). known.ready) c.tell_end.ensures.known) (ap (λ (known : Known). known.until) c.tell_end.ensures.known) ticks_kept
          (λ q cause concerned. marked q cause (c.marks_with-self.ensures.kept q cause concerned))
          (λ cause. marked p.0 cause (c.marks_with-self.ensures.own cause))
          (λ q cause now named. marked q cause (c.marks_with-self.ensures.waiters s.processes now q cause tied.processes
          (ap (λ (io : Io). named_cause io p.0 (number_in c.args.call (asker_of s.processes p.0 now))) (sym tied.files.io) ∙ named)))
          tied.known) in
          event-then old p act next before s tied new after _ (after_attempt s.processes p.0 it.result) it.left s.clock
          after.terms c.tell_end.ensures.chosen there stands (clock-is old p act next before s tied ∙ sym
          c.tell_end.ensures.clock) refl
          (λ event. known-then event) (
            it.result,
            rest,
            (time, now-here old before s tied time is_time, subst (λ (service : Service). Serves service s time p.0 it.result rest) (sym c.requires.serves) (attempt, refl)),
            c.event_end.ensures ∙ ap event_end_of same ∙ end-tied it.result,
            refl,
          );
      memory = λ out s tied.
          let is = wants-so c.attempt_on_path-end.result (sym c.event_end.ensures ∙ out) in record {
            p = p.0;
            chosen = chosen-is old p act next before s tied;
            lives = lives-there old p act next before s tied;
            code = c.args.code;
            act = acts-so old p act next before s tied;
            call = c.args.call;
            is_call = coded.1;
            now = time;
            is_now = now-here old before s tied time is_time;
            lacks =
                elim ((c.attempt_on_path-end.ensures.call time fits s.processes s.files tied.processes tied.files tied.run.locked.state.running.kinds).memory is) [
                  | inl byte ↦
                      inl (record {
                        lacks = subst (λ (terms : List TerminalState). LacksMemory c.args.call s.processes s.files time p.0 terms after.terms) (sym (terms-are old p act next before s tied))
                            byte.lacks;
                        drives = holds-still old before s tied after byte.views;
                      })
                  | inr entry ↦
                      inr (record {
                        done = entry.done;
                        lacks = subst (λ (terms : List TerminalState). LacksEntry c.args.call s.processes s.files time p.0
                            entry.done terms after.terms) (sym (terms-are old p act next before s tied)) entry.lacks;
                        drives = holds-mounted (record s { files = entry.done }) after.drives entry.drives c.attempt_on_path-end.new.machine.files.disks entry.mounted;
                      })
                ];
          };
      waits = λ is.
          let waiting = waits-so c.attempt_on_path-end.result (sym c.event_end.ensures ∙ is) in
          let now = c.attempt_on_path-end.new.machine.processes in
          let it = ((c.attempt_on_path-end.ensures.call time fits s0.processes s0.files tied0.processes tied0.files
          tied0.run.locked.state.running.kinds).attempted (λ out. let no : Wait ≡ NoMemory = sym waiting ∙ out in cc)).attempts in
          let effect = io_effect it.attempt.effect in
          let came : ReturnsCallEnd s0.processes p.0 (result_of s0.processes p.0 effect) Wait now = subst
          (λ (result : CallResult). ReturnsCallEnd s0.processes p.0 result Wait now) it.attempt.result_is
          (subst (λ (end : CallEnd). ReturnsCallEnd s0.processes p.0 it.result end now) waiting it.comes) in
          let same : old.machine.processes.table ≡ now.table = sym (records-kept s0.processes p.0 effect now came ∙ ap (λ (m : Processes). m.records) tied0.processes.is) in record {
            p = p;
            chosen = next.chosen;
            code = c.args.code;
            call = code-held (slice_index_or old.machine.processes.own.items p.0 no_own).call
                (is_waiting (record_at old.machine.processes.table p.0).life) (record_at old.machine.processes.table p.0).signal
                c.args.code next.next;
            first = λ fresh.
                subst (λ (call : Option ProcCall). IfSome (wait_by call (slice_index_or new.machine.processes.own.items p.0
                no_own) (call_wait new.machine.files.io new.machine.files.records.locks p.0))
                (λ wait. wait_at (member_of new.machine.processes.sched.members p.0) ≡ Some wait)) (sym coded.0)
                (subst (λ (files : FileState). IfSome (wait_by None (slice_index_or new.machine.processes.own.items p.0
                no_own) (call_wait files.io files.records.locks p.0))
                (λ wait. wait_at (member_of new.machine.processes.sched.members p.0) ≡ Some wait))
                (sym c.tell_end.ensures.files)
                (rests-so (call_wait c.attempt_on_path-end.new.machine.files.io c.forget_request.new.records.locks p.0) now
                new.machine.processes p.0 c.attempt_on_path-end.ensures.kept.lives
                (subst (λ (records : List (Option Record)). is_waiting (record_at records p.0).life ≡ false) same
                fresh) (c.tell_end.ensures.waits waiting)));
          };
      going = λ ran. (p, c.tell_end.ensures.chosen ∙ next.chosen, lives-so c.attempt_on_path-end.result new.machine.processes.table p.0 (sym c.event_end.ensures ∙ ran) c.tell_end.ensures.lives);
      count = λ ran.
          let it = ((c.attempt_on_path-end.ensures.call time fits s0.processes s0.files tied0.processes tied0.files tied0.run.locked.state.running.kinds).attempted (other ran)).attempts in
          let (there, same) = c.tell_end.ensures.told s0.processes it.result it.comes in
          sym (ap (λ (m : Processes). m.tick) there.is)
          ∙ attempt-tick c.args.call s0.processes s0.files time p.0 it.result it.left before.terms after.terms it.attempt
          ∙ ap (λ (m : Processes). m.tick) tied0.processes.is;
      calls = λ s now tied is.
          elim (cases-memory c.attempt_on_path-end.result) [
            | inl out ↦
                elim ((c.attempt_on_path-end.ensures.call time fits s.processes s.files tied.processes tied.files tied.run.locked.state.running.kinds).memory out) [
                  | inl byte ↦ leaves-drives old before after byte.views s now tied is
                  | inr entry ↦
                      attempt-within-at old p c.args.code next before s tied (on_paths c.args.call) c.requires.serves time now after (now-here old before s tied time is_time) is entry.calls
                ]
            | inr there ↦
                attempt-within-at old p c.args.code next before s tied (on_paths c.args.call) c.requires.serves time
                now after (now-here old before s tied time is_time) is
                ((c.attempt_on_path-end.ensures.call time fits s.processes s.files tied.processes tied.files
                tied.run.locked.state.running.kinds).attempted there).calls
          ];
      images = λ s drive tied unasked.
          elim (cases-memory c.attempt_on_path-end.result) [
            | inl out ↦
                elim ((c.attempt_on_path-end.ensures.call time fits s.processes s.files tied.processes tied.files tied.run.locked.state.running.kinds).memory out) [
                  | inl byte ↦ keeps-drives old before after byte.views s drive tied unasked
                  | inr entry ↦
                      keeps-attempt old p c.args.code next before s tied c.args.call c.requires.serves time
                      (now-here old before s tied time is_time) c.attempt_on_path-end.result after drive
                      entry.images unasked
                ]
            | inr there ↦
                keeps-attempt old p c.args.code next before s tied c.args.call c.requires.serves time
                (now-here old before s tied time is_time) c.attempt_on_path-end.result after drive
                ((c.attempt_on_path-end.ensures.call time fits s.processes s.files tied.processes tied.files
                tied.run.locked.state.running.kinds).attempted there).drives unasked
          ];
    }

pub returns-clause-progress : goal.returns-clause-progress
returns-clause-progress g c ran =
    let old = c.args.self.now in
    let new = c.tell_end.new.self in
    let p = c.args.p in
    let (s, tied) = c.requires.stands in
    let (time, is_time) = time-shown old _ s tied in
    let fits = time-for old.clock old.machine.processes.tick c.args.call c.time_for.result time c.time_for.ensures is_time in
    let other : c.attempt_on_path-end.result ≢ NoMemory = (λ out. let no : EventEnd.Ran ≡ EventEnd.NoMemory = sym ran ∙ c.event_end.ensures ∙ ap event_end_of out in cc) in
    let it = ((c.attempt_on_path-end.ensures.call time fits s.processes s.files tied.processes tied.files tied.run.locked.state.running.kinds).attempted other).attempts in
    let (there, same) = c.tell_end.ensures.told s.processes it.result it.comes in
    let (t, regs, is) = goes-on it.result (sym (c.event_end.ensures ∙ ap event_end_of same) ∙ ran) s.processes p.0 in
    let none = no-call new.machine.processes t p.0 regs c.requires.next.process.1 (subst (λ (m : Processes). RepresentsProcesses new.machine.processes m) is there) in
    attempt-lowers old p c.args.code c.requires.next new c.tell_end.ensures.chosen none

pub returns-clause-drives : goal.returns-clause-drives
returns-clause-drives g c =
    let (s, tied) = c.requires.stands in
    let (time, is_time) = time-shown c.args.self.now _ s tied in
    let fits = time-for c.args.self.now.clock c.args.self.now.machine.processes.tick c.args.call c.time_for.result time c.time_for.ensures is_time in
    let was = c.args.devices.now.drives in
    let now = c.attempt_on_path-end.new.devices.drives in
    let view = boxed_seen (λ box. (g.dyn-1.0.entry box.vtable).1) in
    elim (cases-memory c.attempt_on_path-end.result) [
      | inl out ↦
          elim ((c.attempt_on_path-end.ensures.call time fits s.processes s.files tied.processes tied.files tied.run.locked.state.running.kinds).memory out) [
            | inl byte ↦
                now.ok.0 ∙ sym (length-map now.items view) ∙ ap length byte.views ∙ length-map was.items view ∙ sym was.ok.0
            | inr entry ↦
                now.ok.0 ∙ sym (length-map now.items view) ∙ entry.calls.as_many ∙ length-map was.items view ∙ sym was.ok.0
          ]
      | inr other ↦
          now.ok.0 ∙ sym (length-map now.items view)
          ∙ ((c.attempt_on_path-end.ensures.call time fits s.processes s.files tied.processes tied.files tied.run.locked.state.running.kinds).attempted other).calls.as_many
          ∙ length-map was.items view ∙ sym was.ok.0
    ]
