use Rattle.std.proofs.Common.{◌≡◌, ◌≤◌, ◌<◌, ◌+◌, ◌-◌, ◌*◌, ℕ, Option, Some, List, inr, refl, sym, ap, ◌∙◌, subst, arith}
use Rattle.proc_state.proofs.Entered.{some-machine}
use Rattle.os9_base.specs.declared.registers.Regs.{Regs}
use Rattle.cpu_model.specs.declared.stop.Stop.{Stop}
use Rattle.cpu_model.specs.declared.stop.Stop.TheVariants.{Next, Call, Abort}
use Rattle.proc_model.specs.Memory.{MemoryState}
use Rattle.guest_memory.specs.Running.{RunsInMemory}
use Rattle.guest_memory.specs.Tie.{RepresentsMemory}
use Rattle.proc_model.specs.declared.record.Record.{Record}
use Rattle.proc_model.specs.Records.{IsLiving}
use Rattle.proc_state.specs.Tie.{RepresentsProcesses}
use Rattle.proc_model.specs.End.{ended}
use Rattle.proc_model.specs.Processes.{Processes, own_at, regs_at, with_memory, with_own, with_regs_of}
use Rattle.file_rules.specs.Processes.{files_ended}
use Rattle.file_state.specs.Tie.{RepresentsFiles}
use Rattle.file_state.specs.declared.state.FileState.{FileState}
use Rattle.os9_kernel.specs.declared.kernel.Kernel.{Kernel}
use Rattle.os9_kernel.specs.Tie.{pending, pending_of}
use Rattle.os9_kernel.specs.declared.act.Act.TheVariants.{Instruction}
use Rattle.os9_kernel.proofs.Acting.{acts-so, chosen-is, lives-there, instructions-open, represents-here}
use Rattle.os9_kernel.proofs.Changing.{keeps-drives}
use Rattle.os9_kernel.proofs.Columns.{processes_at}
use Rattle.os9_kernel.proofs.Looking.{looked-still, looks_again, never-looked}
use Rattle.os9_kernel.proofs.Marking.{forgets, known-still, never-known}
use Rattle.os9_kernel.proofs.Pending.{at_most-three, pending-is}
use Rattle.os9_kernel.proofs.Represented.{tick-kept}
use Rattle.machine_model.proofs.Ticks.{ended-tick}
use Rattle.os9_kernel.proofs.Turning.{all-done, some-left, turn-next, turn-call, turn-abort}
use Rattle.os9_kernel.proofs.kernel.Kernel.execute.Goals as goal
use Rattle.os9_kernel.proofs.kernel.Kernel.execute.Goals.{After-set_regs}

-- what was executed, from a machine that the processes represent
abbrev Runs : (c : After-set_regs) → Processes → MemoryState → Type 0
Runs c m t =
    RunsInMemory c.args.p.0 c.args.most c.run-ran.result (regs_at m c.args.p.0) m.memory c.run-ran.new.regs t
    × RepresentsMemory c.run-ran.new.self t

ran : (c : After-set_regs) → (m : Processes) → RepresentsProcesses c.args.self.now.machine.processes m → (t : MemoryState) × Runs c m t
ran c m tied =
    let (t, runs, there) = c.run-ran.ensures.run m.memory tied.memory in
    (t, (subst (λ (r : Regs). RunsInMemory c.args.p.0 c.args.most c.run-ran.result r m.memory c.run-ran.new.regs t) (c.regs-regs.ensures.tied m tied) runs, there))

all : (c : After-set_regs) → c.run-ran.result.stop ≡ Next → c.run-ran.result.followed ≡ c.args.most
all c is = let (m, tied) = some-machine c.args.self.now.machine.processes in let (t, (runs, there)) = ran c m tied in all-done c.args.p.0 c.args.most c.run-ran.result _ _ _ t runs is

left : (c : After-set_regs) → (stop : Stop) → c.run-ran.result.stop ≡ stop → (stop ≡ Next → ⊥) → c.run-ran.result.followed < c.args.most
left c stop is other =
    let (m, tied) = some-machine c.args.self.now.machine.processes in
    let (t, (runs, there)) = ran c m tied in
    some-left c.args.p.0 c.args.most c.run-ran.result _ _ _ t runs stop is other

-- the registers then are set in the memory then
regs_set : (c : After-set_regs) → (m : Processes) (tied : RepresentsProcesses c.args.self.now.machine.processes m)
    (t : MemoryState) → RepresentsMemory c.run-ran.new.self t → RepresentsProcesses c.set_regs.new.s
    (processes_at m c.args.p.0 t c.run-ran.new.regs)
regs_set c m tied t there =
    c.set_regs.ensures.tied (with_memory m t) (record { memory = there; is = λ i. with_memory (tied.is i) t })

-- the tick then
ticks_set : (c : After-set_regs) → c.set_regs.new.s.tick ≡ c.args.self.now.machine.processes.tick
ticks_set c = tick-kept _ c.set_regs.new.s (λ (m : Processes). with_regs_of m c.args.p.0 c.run-ran.new.regs) c.set_regs.ensures.tied (λ m. refl)

-- instructions were executed, so less is left
lowers : (c : After-set_regs) → (new : Kernel) (count : ℕ) → new.chosen ≡ c.args.self.now.chosen → 1 ≤ count
    → count ≤ c.args.most → 4 * (c.args.most - count) + pending new < 4 * c.args.most + pending c.args.self.now
lowers c new count same some few =
    let is : pending new ≡ pending_of new.machine.processes c.args.p.0 = pending-is c.args.self.now c.args.p new (same ∙ c.requires.next.chosen) in
    omega (arith, is, at_most-three new.machine.processes c.args.p.0)

pub overflow_add-result : goal.overflow_add-result
overflow_add-result c =
    let some = left (goal.at.overflow_add-result c).After-set_regs (Call c.in-Call.code) c.in-Call.is (λ e. cc) in
    omega (arith, some, c.ranges.most.fits)

pub overflow_add-result-in-Abort : goal.overflow_add-result-in-Abort
overflow_add-result-in-Abort c =
    let some = left (goal.at.overflow_add-result-in-Abort c).After-set_regs (Abort c.in-Abort.status) c.in-Abort.is (λ e. cc) in
    omega (arith, some, c.ranges.most.fits)

pub returns-in-Next-clause-turn : goal.returns-in-Next-clause-turn
returns-in-Next-clause-turn c devices =
    let here = (goal.at.returns-in-Next-clause-turn c).After-set_regs in
    let old = c.args.self.now in
    let p = c.args.p in
    let next = c.requires.next in
    let whole = all here c.in-Next.is in record {
      step = λ _ s tied.
          let (t, (runs, there)) = ran here s.processes tied.processes in
          let done = turn-next s p.0 (chosen-is old p Instruction next devices s tied) (lives-there old p Instruction
          next devices s tied) (acts-so old p Instruction next devices s tied) c.args.most c.run-ran.result
          c.run-ran.new.regs t c.requires.some runs c.in-Next.is in (
            record s { processes = processes_at s.processes p.0 t c.run-ran.new.regs },
            inr done,
            represents-here old p Instruction next devices s tied (record old { machine = record old.machine { processes = c.set_regs.new.s } })
                (looked-still old (record old { machine = record old.machine { processes = c.set_regs.new.s } }) refl refl (ticks_set here) c.set_regs.ensures.active tied.looked)
                (known-still old (record old { machine = record old.machine { processes = c.set_regs.new.s } }) refl refl refl (ticks_set here) tied.known) _
                s.files refl refl (regs_set here s.processes tied.processes t there) tied.files
                (instructions-open done tied.run),
          );
      memory = λ is. cc;
      going = λ _. (p, next.chosen, c.set_regs.ensures.lives);
      few = omega (arith, whole);
      progress = λ _. lowers here (record old { machine = record old.machine { processes = c.set_regs.new.s } }) c.run-ran.result.followed refl (omega (arith, whole)) (omega (arith, whole));
      count = λ _. ticks_set here;
      images = keeps-drives old devices devices refl;
    }

pub returns-in-Call-clause-turn : goal.returns-in-Call-clause-turn
returns-in-Call-clause-turn c devices =
    let here = (goal.at.returns-in-Call-clause-turn c).After-set_regs in
    let old = c.args.self.now in
    let p = c.args.p in
    let next = c.requires.next in
    let some = left here (Call c.in-Call.code) c.in-Call.is (λ e. cc) in record {
      step = λ _ s tied.
          let (t, (runs, there)) = ran here s.processes tied.processes in
          let done = turn-call s p.0 (chosen-is old p Instruction next devices s tied) (lives-there old p Instruction
          next devices s tied) (acts-so old p Instruction next devices s tied) c.args.most c.run-ran.result
          c.run-ran.new.regs t c.requires.some runs c.in-Call.code c.in-Call.is in (
            record s { processes = with_own (processes_at s.processes p.0 t c.run-ran.new.regs) p.0 (record (own_at s.processes p.0) { call = Some c.in-Call.code }) },
            inr done,
            represents-here old p Instruction next devices s tied (looks_again c.begin_call.new.self) (never-looked c.begin_call.new.self)
                (known-still old (looks_again c.begin_call.new.self) c.begin_call.ensures.known (ap (λ (files : FileState). files.io) c.begin_call.ensures.files)
                (ap (λ (files : FileState). files.records) c.begin_call.ensures.files) (c.begin_call.ensures.count ∙ ticks_set here) tied.known) _ s.files
                c.begin_call.ensures.chosen c.begin_call.ensures.clock (c.begin_call.ensures.tied _
                (regs_set here s.processes tied.processes t there))
                (subst (λ (files : FileState). RepresentsFiles files devices.drives s.files)
                (sym c.begin_call.ensures.files) tied.files) (instructions-open done tied.run),
          );
      memory = λ is. cc;
      going = λ _. (p, c.begin_call.ensures.chosen ∙ next.chosen, subst (λ (records : List (Option Record)). IsLiving records p.0) (sym c.begin_call.ensures.records) c.set_regs.ensures.lives);
      few = omega (arith, some);
      progress = λ _. lowers here c.begin_call.new.self (c.run-ran.result.followed + 1) c.begin_call.ensures.chosen (omega arith) (omega (arith, some));
      count = λ _. c.begin_call.ensures.count ∙ ticks_set here;
      images = keeps-drives old devices devices refl;
    }

pub returns-in-Abort-clause-turn : goal.returns-in-Abort-clause-turn
returns-in-Abort-clause-turn c devices =
    let here = (goal.at.returns-in-Abort-clause-turn c).After-set_regs in
    let old = c.args.self.now in
    let p = c.args.p in
    let next = c.requires.next in
    let some = left here (Abort c.in-Abort.status) c.in-Abort.is (λ e. cc) in record {
      step = λ _ s tied.
          let (t, (runs, there)) = ran here s.processes tied.processes in
          let done = turn-abort s p.0 (chosen-is old p Instruction next devices s tied) (lives-there old p Instruction
          next devices s tied) (acts-so old p Instruction next devices s tied) c.args.most c.run-ran.result
          c.run-ran.new.regs t c.requires.some runs c.in-Abort.status c.in-Abort.is in (
            record s { processes = ended (processes_at s.processes p.0 t c.run-ran.new.regs) p.0 c.in-Abort.status; files = files_ended s.files p.0 },
            inr done,
            represents-here old p Instruction next devices s tied (looks_again (forgets c.end_process.new.self))
                (never-looked (forgets c.end_process.new.self)) (never-known c.end_process.new.self) _
                (files_ended s.files p.0)
                c.end_process.ensures.chosen c.end_process.ensures.clock (c.end_process.ensures.tied _
                (regs_set here s.processes tied.processes t there)) (c.end_process.ensures.files devices.drives s.files
                tied.files) (instructions-open done tied.run),
          );
      memory = λ is. cc;
      going = λ is. cc;
      few = omega (arith, some);
      progress = λ is. cc;
      count =
          λ _. tick-kept c.set_regs.new.s c.end_process.new.self.machine.processes (λ (m : Processes). ended m p.0 c.in-Abort.status)
          c.end_process.ensures.tied (λ m. ended-tick m p.0 c.in-Abort.status)
          ∙ ticks_set here;
      images = keeps-drives old devices devices refl;
    }
