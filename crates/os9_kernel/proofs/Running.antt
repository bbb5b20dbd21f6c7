-- Instructions that a process executes are events of the machine.
use Rattle.std.proofs.Common.{◌≡◌, ℕ, ◌+◌, ◌<◌, Some, refl, sym, ap, ◌∙◌, subst, arith}
use Rattle.os9_base.specs.declared.registers.Regs.{Regs}
use Rattle.cpu_model.specs.Effects.{Effect}
use Rattle.cpu_model.specs.Step.{Outcome, Done}
use Rattle.proc_model.specs.Memory.{MemoryState}
use Rattle.proc_model.specs.MemoryChanges.{written}
use Rattle.proc_model.specs.Records.{IsLiving, record_at, is_waiting}
use Rattle.proc_model.specs.Processes.{Processes, own_at, regs_at}
use Rattle.proc_model.specs.Ready.{Act as MachineAct, executes, act_of, next_act}
use Rattle.machine_model.specs.declared.ends.EventEnd.{EventEnd}
use Rattle.machine_model.specs.declared.ends.EventEnd.TheVariants.{Ran}
use Rattle.machine_model.specs.ProcessEvent.{next_instruction, after_instruction, instruction_end}
use Rattle.machine_model.specs.Event.{Acts, Event, cost, files_after_instruction}
use Rattle.machine_model.specs.State.{State}
use Rattle.os9_kernel.specs.Slice.{Instructions, last, more}
use Rattle.os9_kernel.proofs.Executing.{AreDone, none, first, next_outcome}
use Rattle.os9_kernel.proofs.Columns.{processes_at, processes_at-same, processes_at-then, processes_at-regs, lives-set, living-within, record-put}

-- ---- a process that was chosen and executes an instruction next, with other memory and registers

module _ (s : State) (p : ℕ) (chosen : s.chosen ≡ Some p) (lives : IsLiving s.processes.records p) (next : act_of s.processes p ≡ executes) where
  -- the state with this memory, and these registers of the process
  abbrev pub state_at : MemoryState → Regs → State
  state_at memory regs = record s { processes = processes_at s.processes p memory regs }

  pub state_at-same : state_at s.processes.memory (regs_at s.processes p) ≡ s
  state_at-same = ap (λ (m : Processes). record s { processes = m }) (processes_at-same s.processes p lives)

  module _ (memory : MemoryState) (regs : Regs) where
    acts-still : act_of (processes_at s.processes p memory regs) p ≡ executes
    acts-still =
        (λ i. next_act (own_at s.processes p).call (is_waiting (put i).life) (put i).signal) ∙ next
      where
        put : record_at (processes_at s.processes p memory regs).records p ≡ record (record_at s.processes.records p) { regs = regs }
        put = record-put s.processes.records p _ (living-within s.processes.records p lives)

    outcome-is : next_instruction (processes_at s.processes p memory regs) p ≡ next_outcome memory p regs
    outcome-is = ap (λ (r : Regs). next_outcome memory p r) (processes_at-regs s.processes p lives memory regs)

    -- an instruction costs one
    pub cost-one : cost (state_at memory regs) ≡ 1
    cost-one = rw (chosen, acts-still) refl

    pub instruction-event : (outcome : Outcome) → next_outcome memory p regs ≡ outcome → Event (state_at memory regs)
        (instruction_end outcome) (record s {
          processes = after_instruction (processes_at s.processes p memory regs) p outcome;
          files = files_after_instruction s.files p outcome;
        })
    instruction-event outcome is = (
      p,
      chosen,
      lives-set s.processes.records p lives regs,
      subst (λ (a : MachineAct). Acts a (state_at memory regs) p (instruction_end outcome)
          (record s {
            processes = after_instruction (processes_at s.processes p memory regs) p outcome;
            files =
                files_after_instruction s.files p outcome;
          })) (sym acts-still) (
            sym (ap instruction_end (outcome-is ∙ is)),
            (λ i. record s {
              processes = after_instruction (processes_at s.processes p memory regs) p (sym (outcome-is ∙ is) i);
              files = files_after_instruction s.files p (sym (outcome-is ∙ is) i);
            }),
          ),
    )

    -- one that is done leaves other memory and registers
    pub done-event : (effect : Effect) → next_outcome memory p regs ≡ Done effect → Event (state_at memory regs) Ran (state_at (written memory p effect.writes) effect.regs)
    done-event effect is =
        subst (λ (m : Processes). Event (state_at memory regs) Ran (record s { processes = m })) (processes_at-then s.processes p lives memory (written memory p effect.writes) regs effect.regs)
        (instruction-event (Done effect) is)

  -- those that are done, and then others
  pub done-then : {count : ℕ} {memory now : MemoryState} {regs after : Regs} → AreDone p count memory regs now after
      → (others : ℕ) (end : EventEnd) (t : State) → Instructions (state_at now after) others end t
      → Instructions (state_at memory regs) (count + others) end t
  done-then (none {m = memory} {regs = regs}) others end t rest =
      let all : others ≡ 0 + others = omega arith in
      subst (λ n. Instructions (state_at memory regs) n end t) all rest
  done-then (first {count = count} {m = memory} {t = now} {regs = regs} {last = after} effect is so_far) others end t rest =
      let later : Instructions (state_at (written memory p effect.writes) effect.regs) (count + others) end t = done-then so_far others end t rest in
      let sum : count + others + 1 ≡ count + 1 + others = omega arith in
      subst (λ n. Instructions (state_at memory regs) n end t) sum (more (cost-one memory regs) (done-event memory regs effect is) later)

  -- some that are done
  pub done-all : {count : ℕ} {memory now : MemoryState} {regs after : Regs} → AreDone p count memory regs now after → 0 < count → Instructions (state_at memory regs) count Ran (state_at now after)
  done-all none some = absurd (omega arith)
  done-all (first {m = memory} {regs = regs} effect is none) some =
      last (cost-one memory regs) (done-event memory regs effect is)
  done-all (first {m = memory} {regs = regs} effect is (first {count = count} another then so_far)) some =
      more (cost-one memory regs) (done-event memory regs effect is) (done-all (first another then so_far) (omega arith))
