use Rattle.std.proofs.Common.{◌≡◌, ℕ, length, refl, sym, ap, ◌∙◌, subst}
use Rattle.std.specs.Vec.{vec_len}
use Rattle.std.proofs.lemmas.List.{length-map}
use Rattle.std.specs.Prelude.{slice_index_or}
use Rattle.os9_base.specs.declared.call.CallEnd.{CallEnd}
use Rattle.os9_base.specs.declared.call.CallEnd.TheVariants.{Wait}
use Rattle.device_table.specs.Seen.{terminal_states}
use Rattle.proc_model.specs.Attempts.{after_attempt}
use Rattle.proc_model.specs.Processes.{Processes, no_own}
use Rattle.file_rules.specs.Attempts.{asker_of}
use Rattle.file_rules.specs.Files.{Files}
use Rattle.file_state.specs.Attempt.{MachineOnDrives}
use Rattle.file_state.specs.Context.{machine_seen}
use Rattle.file_state.specs.Counted.{CalledAtMost}
use Rattle.file_state.specs.Tie.{RepresentsFiles}
use Rattle.file_state.specs.declared.state.FileState.{FileState}
use Rattle.proc_calls.specs.Telling.{LivesOn}
use Rattle.proc_model.specs.Records.{is_waiting, record_at}
use Rattle.file_drives.specs.Drives.{boxed_seen}
use Rattle.proc_state.specs.Tie.{ReturnsCallEnd, RepresentsProcesses}
use Rattle.proc_state.specs.declared.state.ProcState.{ProcState}
use Rattle.machine_model.specs.Services.{Serves, Service, with_files}
use Rattle.os9_kernel.specs.declared.act.Act.TheVariants.{Attempt}
use Rattle.os9_kernel.specs.DriverCalls.{service_calls}
use Rattle.os9_kernel.specs.Ends.{event_end_of}
use Rattle.os9_kernel.specs.Loads.{AttemptsLoad, LoadsSo}
use Rattle.os9_kernel.specs.Outside.{Outside, outside}
use Rattle.os9_kernel.specs.Services.{load_in_machine}
use Rattle.os9_kernel.proofs.Acting.{clock-is, event-then, lives-there, terms-are}
use Rattle.os9_kernel.proofs.Calling.{end-tied, goes-on, lives-so, never-wants}
use Rattle.os9_kernel.proofs.Changing.{keeps-media}
use Rattle.os9_kernel.proofs.Counting.{attempt-within}
use Rattle.os9_kernel.proofs.Loading.{begun-tied, begun_on, child-begins, load-tick, loads-rest, rests-there, serves-load}
use Rattle.os9_kernel.proofs.PathCalls.{is-sound, some-time}
use Rattle.os9_kernel.proofs.Pending.{attempt-lowers}
use Rattle.os9_kernel.proofs.Represented.{no-call, places-there}
use Rattle.os9_kernel.proofs.Waiting.{code-held, waits-so}
use Rattle.os9_kernel.proofs.Marking.{forgets, never-known}
use Rattle.os9_kernel.proofs.kernel.Kernel.load.Goals as goal

pub try_load-end-requires-clause-sound : goal.try_load-end-requires-clause-sound
try_load-end-requires-clause-sound g c =
    let (s, tied) = c.requires.stands in
    is-sound c.args.self.now _ s tied

pub begin-requires-clause-begins : goal.begin-requires-clause-begins
begin-requires-clause-begins g c is done =
    let old = c.args.self.now in
    let p = c.args.p.0 in
    let new = c.try_load-end.new.self in
    let terms = vec_len c.args.devices.now.terms in
    let before : MachineOnDrives = machine_seen (λ box. (g.dyn-1.0.entry box.vtable).1) old.machine c.args.devices.now in
    let after : MachineOnDrives = machine_seen (λ box. (g.dyn-1.0.entry box.vtable).1) new.machine c.try_load-end.new.devices in
    let (s, tied) = c.requires.stands in
    let (time, is_time) = some-time old _ s tied in
    let it = c.try_load-end.ensures.call time s.processes s.files tied.processes tied.files tied.run.locked.state.running.kinds in (
      subst (λ (end : CallEnd). LivesOn end new.machine.processes.table p) done c.try_load-end.ensures.lives,
      child-begins c.args.call s.processes s.files time terms p before after tied.run.locked.state.running.kept (places-there old.machine.processes s.processes tied.processes)
          (lives-there old c.args.p (Attempt c.args.code) c.requires.next _ s tied) is (subst (λ (end : CallEnd). LoadsSo c.args.call s.processes s.files time terms p end before after) done it),
    )

pub tell_end-requires-clause-lives : goal.tell_end-requires-clause-lives
tell_end-requires-clause-lives g c =
    subst (λ (processes : ProcState). LivesOn c.try_load-end.result processes.table c.args.p.0) (sym c.begin.ensures.processes) c.try_load-end.ensures.lives

pub returns-clause-event : goal.returns-clause-event
returns-clause-event g c =
    let old = c.args.self.now in
    let tried = c.try_load-end.new.self in
    let new = c.tell_end.new.self in
    let p = c.args.p in
    let end = c.try_load-end.result in
    let act = Attempt c.args.code in
    let next = c.requires.next in
    let before : Outside = outside (λ box. (g.dyn-1.0.entry box.vtable).1) (λ box. (g.dyn-2.0.entry box.vtable).1) c.args.devices.now in
    let after : Outside = outside (λ box. (g.dyn-1.0.entry box.vtable).1) (λ box. (g.dyn-2.0.entry box.vtable).1) c.try_load-end.new.devices in
    let terms = c.args.devices.now.terms in
    let long : vec_len terms ≡ length before.terms = terms.ok.0 ∙ sym (simp length-map) in
    let (s0, tied0) = c.requires.stands in
    let (time0, is_time0) = some-time old before s0 tied0 in
    let first = c.try_load-end.ensures.call time0 s0.processes s0.files tied0.processes tied0.files tied0.run.locked.state.running.kinds in
    let told0 : ReturnsCallEnd s0.processes p.0 first.result end c.begin.new.self.machine.processes = subst (λ (processes : ProcState).
    ReturnsCallEnd s0.processes p.0 first.result end processes) (sym c.begin.ensures.processes) first.comes in
    let (there0, same0) = c.tell_end.ensures.told s0.processes first.result told0 in
    let over = sym (c.event_end.ensures ∙ ap event_end_of same0) in record {
      step = λ _ s tied.
          let (time, is_time) = some-time old before s tied in
          let it = c.try_load-end.ensures.call time s.processes s.files tied.processes tied.files tied.run.locked.state.running.kinds in
          let told : ReturnsCallEnd s.processes p.0 it.result end c.begin.new.self.machine.processes = subst (λ (processes : ProcState).
          ReturnsCallEnd s.processes p.0 it.result end processes) (sym c.begin.ensures.processes) it.comes in
          let (there, same) = c.tell_end.ensures.told s.processes it.result told in
          let left : Files = begun_on c.args.call it.left p.0 it.result in
          let begun : RepresentsFiles c.begin.new.self.machine.files after.drives left = subst (λ (files : Files). RepresentsFiles
          c.begin.new.self.machine.files after.drives files) (begun-tied c.args.call s.processes p.0 it.left tried.machine.processes
          it.result end it.comes) (c.begin.ensures.files after.drives it.left it.stands) in
          let stands : RepresentsFiles new.machine.files after.drives left = subst (λ (files : FileState). RepresentsFiles files after.drives left) (sym c.tell_end.ensures.files) begun in
          let terms_here = terms-are old p act next before s tied in
          let attempt : AttemptsLoad c.args.call s.processes (asker_of s.processes p.0 time) s.files (length s.terms) p.0
          it.result it.left = subst (λ (n : ℕ). AttemptsLoad c.args.call s.processes (asker_of s.processes p.0 time)
          s.files n p.0 it.result it.left) (long ∙ sym (ap (λ terms. length terms) terms_here)) it.attempted in
          event-then old p act next before s tied (forgets new) after _ (after_attempt s.processes p.0 it.result) left s.clock
          s.terms (c.tell_end.ensures.chosen ∙ c.begin.ensures.chosen ∙ c.try_load-end.ensures.chosen) there
          stands
          (clock-is old p act next before s tied ∙ sym (c.tell_end.ensures.clock ∙ c.begin.ensures.clock ∙ c.try_load-end.ensures.clock))
          (terms_here ∙ ap (λ terms. terminal_states (λ box. (g.dyn-2.0.entry box.vtable).1) terms.items) (sym c.try_load-end.ensures.terms_kept))
          (λ event. never-known new) (
            it.result,
            with_files s left,
            (
              time,
              is_time,
              subst (λ (service : Service). Serves service s time p.0 it.result (with_files s left))
                  (sym c.requires.serves) (serves-load c.args.call s time p.0 it.result it.left attempt),
            ),
            c.event_end.ensures ∙ ap event_end_of same ∙ end-tied it.result,
            refl,
          );
      memory = λ out. absurd (never-wants first.result (over ∙ out));
      waits = λ is.
          let waiting : end ≡ Wait = waits-so end (sym c.event_end.ensures ∙ is) in
          let standing_before : MachineOnDrives = machine_seen (λ box. (g.dyn-1.0.entry box.vtable).1) old.machine c.args.devices.now in
          let standing_after : MachineOnDrives = machine_seen (λ box. (g.dyn-1.0.entry box.vtable).1) tried.machine c.try_load-end.new.devices in
          let at_wait : LoadsSo c.args.call s0.processes s0.files time0 (vec_len terms) p.0 Wait standing_before
          standing_after = subst (λ (end : CallEnd). LoadsSo c.args.call s0.processes s0.files time0 (vec_len terms)
          p.0 end standing_before standing_after) waiting first in record {
            p = p;
            chosen = next.chosen;
            code = c.args.code;
            call = code-held (slice_index_or old.machine.processes.own.items p.0 no_own).call
                (is_waiting (record_at old.machine.processes.table p.0).life) (record_at old.machine.processes.table p.0).signal
                c.args.code next.next;
            first = λ fresh. rests-there new c.args.code p.0 c.args.call c.requires.serves
                (loads-rest c.args.call s0.processes s0.files time0 (vec_len terms) p.0 standing_before standing_after at_wait);
          };
      going = λ ran. (
        p,
        c.tell_end.ensures.chosen ∙ c.begin.ensures.chosen ∙ c.try_load-end.ensures.chosen ∙
            next.chosen,
        lives-so end new.machine.processes.table p.0 (sym c.event_end.ensures ∙ ran) c.tell_end.ensures.lives,
      );
      count = λ _.
          sym (ap (λ (m : Processes). m.tick) there0.is)
          ∙ load-tick c.args.call s0.processes (asker_of s0.processes p.0 time0) s0.files (vec_len terms) p.0 first.result first.left (lives-there old p act next before s0 tied0) first.attempted
          ∙ ap (λ (m : Processes). m.tick) tied0.processes.is;
      calls = λ s now tied is.
          let service = load_in_machine c.args.call in
          attempt-within old p c.args.code next before s tied service c.requires.serves now after
          (subst (λ (n : ℕ). CalledAtMost (service_calls service s.processes p.0 now s.files n) before.drives
          after.drives) long (c.try_load-end.ensures.call now s.processes s.files tied.processes tied.files
          tied.run.locked.state.running.kinds).calls);
      images = keeps-media old before after first.media_kept;
    }

pub returns-clause-progress : goal.returns-clause-progress
returns-clause-progress g c ran =
    let old = c.args.self.now in
    let new = c.tell_end.new.self in
    let p = c.args.p in
    let end = c.try_load-end.result in
    let (s, tied) = c.requires.stands in
    let (time, is_time) = some-time old _ s tied in
    let it = c.try_load-end.ensures.call time s.processes s.files tied.processes tied.files tied.run.locked.state.running.kinds in
    let told : ReturnsCallEnd s.processes p.0 it.result end c.begin.new.self.machine.processes =
    subst (λ (processes : ProcState). ReturnsCallEnd s.processes p.0 it.result end processes) (sym c.begin.ensures.processes) it.comes in
    let (there, same) = c.tell_end.ensures.told s.processes it.result told in
    let (t, regs, is) = goes-on it.result (sym (c.event_end.ensures ∙ ap event_end_of same) ∙ ran) s.processes p.0 in
    let none = no-call new.machine.processes t p.0 regs c.requires.next.process.1 (subst (λ (m : Processes). RepresentsProcesses new.machine.processes m) is there) in
    attempt-lowers old p c.args.code c.requires.next new (c.tell_end.ensures.chosen ∙ c.begin.ensures.chosen ∙ c.try_load-end.ensures.chosen) none

pub returns-clause-terminals : goal.returns-clause-terminals
returns-clause-terminals g c = ap (λ terms. vec_len terms) c.try_load-end.ensures.terms_kept

pub returns-clause-drives : goal.returns-clause-drives
returns-clause-drives g c =
    let old = c.args.self.now in
    let (s, tied) = c.requires.stands in
    let (time, is_time) = some-time old _ s tied in
    let was = c.args.devices.now.drives in
    let now = c.try_load-end.new.devices.drives in
    let view = boxed_seen (λ box. (g.dyn-1.0.entry box.vtable).1) in
    now.ok.0 ∙ sym (length-map now.items view)
    ∙ (c.try_load-end.ensures.call time s.processes s.files tied.processes tied.files tied.run.locked.state.running.kinds).calls.as_many
    ∙ length-map was.items view ∙ sym was.ok.0
