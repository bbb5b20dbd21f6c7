use Rattle.std.proofs.Common.{◌≡◌, ◌<◌, ℕ, Some, false, None, Result, List, length, refl, sym, ap, ◌∙◌, subst, arith}
use Rattle.std.specs.Prelude.{slice_index_or}
use Rattle.proc_state.proofs.Entered.{some-machine}
use Rattle.proc_model.specs.declared.own.Own.{Own}
use Rattle.proc_model.specs.declared.record.Record.{Record}
use Rattle.proc_model.specs.Records.{IsLiving, record_at, is_waiting}
use Rattle.proc_model.specs.Delivery.{delivered, after_delivery}
use Rattle.proc_model.specs.Processes.{Processes, no_own, own_at}
use Rattle.io_model.specs.Io.{Io}
use Rattle.io_model.specs.Waiting.{interrupted_count}
use Rattle.file_rules.specs.Files.{Files}
use Rattle.file_rules.specs.Locking.{files_interrupted}
use Rattle.file_state.specs.Tie.{RepresentsFiles}
use Rattle.machine_model.specs.ProcessEvent.{broken_off, delivery_end}
use Rattle.machine_model.specs.Event.{before_delivery, files_after_delivery}
use Rattle.machine_model.specs.State.{State}
use Rattle.proc_state.specs.Tie.{RepresentsProcesses}
use Rattle.os9_base.specs.declared.registers.Pid.{Pid}
use Rattle.os9_kernel.specs.declared.act.Act.TheVariants.{Delivery}
use Rattle.os9_kernel.specs.declared.kernel.Kernel.{Kernel}
use Rattle.os9_kernel.specs.Next.{DoesNext}
use Rattle.os9_kernel.specs.Outside.{Outside}
use Rattle.os9_kernel.specs.Tie.{Represents}
use Rattle.os9_kernel.proofs.Acting.{event-here}
use Rattle.os9_kernel.proofs.Columns.{living-within}
use Rattle.os9_kernel.proofs.Changing.{keeps-drives}
use Rattle.os9_kernel.proofs.Counting.{leaves-drives}
use Rattle.os9_kernel.proofs.Delivering.{broken-own, broken-record, broken-tick, call-is, delivered-quiet, delivery-tick, done-so, ends-so, files-ended-so, files-goes-so, goes-so, signal-is}
use Rattle.os9_kernel.proofs.Marking.{forgets, never-known}
use Rattle.os9_kernel.proofs.Pending.{delivery-pending, nothing-pending, pending-is}
use Rattle.os9_kernel.proofs.Represented.{tick-kept}
use Rattle.os9_kernel.proofs.Standing.{ended-so}
use Rattle.os9_kernel.proofs.kernel.Kernel.deliver.Goals as goal
use Rattle.os9_kernel.proofs.kernel.Kernel.deliver.Goals.{After-deliver}

-- the signal is pending
signal_there : (old : Kernel) (p : Pid) (signal : ℕ) → DoesNext old p (Delivery signal) → (record_at old.machine.processes.table p.0).signal ≡ Some signal
signal_there old p signal next =
    signal-is (slice_index_or old.machine.processes.own.items p.0 no_own).call (record_at old.machine.processes.table p.0).signal
    (is_waiting (record_at old.machine.processes.table p.0).life) signal next.next

pub deliver-requires-clause-pending : goal.deliver-requires-clause-pending
deliver-requires-clause-pending c =
    rw (c.break_off.ensures.signal ∙ signal_there c.args.self.now c.args.p c.args.signal c.requires.next) refl

module _ (c : After-deliver) where
  -- the processes that the signal finds
  abbrev found : Processes → Processes
  found m = broken_off m c.args.p.0 (interrupted_count c.args.self.now.machine.files.io c.args.p.0)

  tied_found : (m : Processes) → RepresentsProcesses c.args.self.now.machine.processes m → RepresentsProcesses c.break_off.new.self.machine.processes (found m)
  tied_found m tied = c.break_off.ensures.tied m tied

  signal_found : (m : Processes) → RepresentsProcesses c.args.self.now.machine.processes m → (record_at (found m).records c.args.p.0).signal ≡ Some c.args.signal
  signal_found m tied =
      ap (λ (s : Processes). (record_at s.records c.args.p.0).signal) (tied_found m tied).is ∙ c.break_off.ensures.signal ∙ signal_there c.args.self.now c.args.p c.args.signal c.requires.next

  ticks : c.deliver.new.self.tick ≡ c.args.self.now.machine.processes.tick
  ticks =
      tick-kept c.args.self.now.machine.processes c.deliver.new.self (λ (m : Processes). after_delivery (found m) c.args.p.0 (delivered (found m) c.args.p.0 c.args.signal))
      (λ m tied. c.deliver.ensures.tied (found m) c.args.signal (tied_found m tied) (signal_found m tied))
      (λ m. delivery-tick (found m) c.args.p.0 c.args.signal ∙ broken-tick m c.args.p.0 (interrupted_count c.args.self.now.machine.files.io c.args.p.0))

  -- they are those of the machine
  found_is : (devices : Outside) (s : State) → Represents c.args.self.now devices s → found s.processes ≡ before_delivery s c.args.p.0
  found_is devices s tied =
      ap (λ (io : Io). broken_off s.processes c.args.p.0 (interrupted_count io c.args.p.0)) (sym tied.files.io)

pub returns-in-Ended-clause-event : goal.returns-in-Ended-clause-event
returns-in-Ended-clause-event c devices =
    let here = (goal.at.returns-in-Ended-clause-event c).After-deliver in
    let old = c.args.self.now in
    let new = forgets (record c.break_off.new.self { machine = record { processes = c.deliver.new.self; files = c.end.new.self } }) in
    let p = c.args.p in
    let act = Delivery c.args.signal in
    let next = c.requires.next in record {
      step = λ _ s tied.
          let m = found here s.processes in
          let d = delivered m p.0 c.args.signal in
          let end = c.deliver.ensures.end m c.args.signal (tied_found here s.processes tied.processes) (signal_found here s.processes tied.processes) in
          let before = found_is here devices s tied in
          let left = files_after_delivery s.files p.0 (delivered (before_delivery s p.0) p.0 c.args.signal) in
          let stands : RepresentsFiles c.end.new.self devices.drives left = subst (λ (files : Files). RepresentsFiles c.end.new.self devices.drives files)
          (ended-so s.files p.0 ∙ files-ended-so d c.deliver.result end c.in-Ended.is s.files p.0 ∙ ap (λ (m : Processes). files_after_delivery s.files p.0 (delivered m p.0 c.args.signal)) before)
          (c.end.ensures devices.drives (files_interrupted s.files p.0) (c.break_off.ensures.files devices.drives s.files tied.files)) in
          event-here old p act next devices s tied new _ (after_delivery m p.0 d) left c.break_off.ensures.chosen
          c.break_off.ensures.clock (c.deliver.ensures.tied m c.args.signal (tied_found here s.processes tied.processes)
          (signal_found here s.processes tied.processes)) stands (never-known new) (
            ends-so d c.deliver.result end c.in-Ended.is ∙ ap (λ (m : Processes). delivery_end
                (delivered m p.0 c.args.signal)) before,
            (λ i. record s {
              processes = after_delivery (before i) p.0 (delivered (before i) p.0 c.args.signal);
              files =
                  left;
            }),
          );
      memory = λ is. cc;
      waits = λ is. cc;
      going = λ is. cc;
      count = λ _. ticks here;
      calls = leaves-drives old devices devices refl;
      images = keeps-drives old devices devices refl;
    }

pub returns-in_default : goal.returns-in_default
returns-in_default c =
    let here = (goal.at.returns-in_default c).After-deliver in
    let old = c.args.self.now in
    let new = forgets (record c.break_off.new.self { machine = record c.break_off.new.self.machine { processes = c.deliver.new.self } }) in
    let p = c.args.p in
    let act = Delivery c.args.signal in
    let next = c.requires.next in
    let (m, there) = some-machine old.machine.processes in
    let (is_done, (t, ok)) = done-so (delivered (found here m) p.0 c.args.signal) c.deliver.result
    (c.deliver.ensures.end (found here m) c.args.signal (tied_found here m there) (signal_found here m there))
    c.in_default.not-Ended in record {
      event = λ devices. record {
        step = λ _ s tied.
            let m = found here s.processes in
            let d = delivered m p.0 c.args.signal in
            let end = c.deliver.ensures.end m c.args.signal (tied_found here s.processes tied.processes) (signal_found here s.processes tied.processes) in
            let before = found_is here devices s tied in
            let left = files_after_delivery s.files p.0 (delivered (before_delivery s p.0) p.0 c.args.signal) in
            let stands : RepresentsFiles c.break_off.new.self.machine.files devices.drives left = subst (λ (files : Files). RepresentsFiles c.break_off.new.self.machine.files devices.drives files)
            (files-goes-so d c.deliver.result end c.in_default.not-Ended s.files p.0 ∙ ap (λ (m : Processes). files_after_delivery s.files p.0 (delivered m p.0 c.args.signal)) before)
            (c.break_off.ensures.files devices.drives s.files tied.files) in
            event-here old p act next devices s tied new _ (after_delivery m p.0 d) left c.break_off.ensures.chosen
            c.break_off.ensures.clock (c.deliver.ensures.tied m c.args.signal (tied_found here s.processes tied.processes)
            (signal_found here s.processes tied.processes)) stands (never-known new) (
              goes-so d c.deliver.result end c.in_default.not-Ended ∙ ap (λ (m : Processes). delivery_end
                  (delivered m p.0 c.args.signal)) before,
              (λ i. record s {
                processes = after_delivery (before i) p.0 (delivered (before i) p.0 c.args.signal);
                files = left;
              }),
            );
        memory = λ is. cc;
        waits = λ is. cc;
        going = λ _. (p, c.break_off.ensures.chosen ∙ next.chosen, c.deliver.ensures.lives is_done);
        count = λ _. ticks here;
        calls = leaves-drives old devices devices refl;
        images = keeps-drives old devices devices refl;
      };
      progress = λ _.
          let count = interrupted_count old.machine.files.io p.0 in
          let places : length old.machine.processes.own.items ≡ 33 = sym old.machine.processes.own.ok.0 ∙ old.machine.processes.places in
          let within = living-within m.records p.0 (subst (λ (s : Processes). IsLiving s.records p.0) (sym there.is) next.lives) in
          let (regs, record_is) = broken-record m p.0 count within in
          let long : length (found here m).own ≡ length m.own = ap length (broken-own m p.0 count) in
          let inside : p.0 < length (found here m).own = omega (arith, next.process.1, places, long, ap (λ (s : Processes). length s.own) there.is) in
          let within_found : p.0 < length (found here m).records = living-within (found here m).records p.0
          (subst (λ (s : Processes). IsLiving s.records p.0) (sym (tied_found here m there).is)
          c.break_off.ensures.lives) in
          let no_call : is_waiting (record_at (found here m).records p.0).life ≡ false → (own_at (found here m) p.0).call ≡ None =
          (λ not. ap (λ (own : List Own). (slice_index_or own p.0 no_own).call) (broken-own m p.0 count) ∙ ap
          (λ (s : Processes). (own_at s p.0).call) there.is ∙ call-is (slice_index_or old.machine.processes.own.items p.0
          no_own).call (record_at old.machine.processes.table p.0).signal
          (is_waiting (record_at old.machine.processes.table p.0).life) c.args.signal next.next
          (sym (ap (λ (s : Processes). is_waiting (record_at s.records p.0).life) there.is) ∙ sym
          (ap (λ (r : Record). is_waiting r.life) record_is) ∙ not)) in
          let quiet = delivered-quiet (found here m) p.0 within_found inside no_call c.args.signal t ok in
          let now : RepresentsProcesses c.deliver.new.self t = subst (λ (d : Result Processes ℕ). RepresentsProcesses
          c.deliver.new.self (after_delivery (found here m) p.0 d)) ok (c.deliver.ensures.tied (found here m)
          c.args.signal (tied_found here m there) (signal_found here m there)) in
          let nothing = nothing-pending c.deliver.new.self p.0 (sym (ap (λ (s : Processes). (own_at s p.0).call) now.is) ∙
          quiet.call) (sym (ap (λ (s : Processes). (record_at s.records p.0).signal) now.is) ∙ quiet.signal) in
          omega (arith, nothing, delivery-pending old p c.args.signal next, pending-is old p new (c.break_off.ensures.chosen ∙ next.chosen));
      executed = c.break_off.ensures.executed;
    }
