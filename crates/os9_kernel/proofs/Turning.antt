-- What a run of instructions comes to for the machine.
use Rattle.std.proofs.Common.{◌≡◌, ℕ, ◌+◌, ◌<◌, Some, refl, sym, subst, arith}
use Rattle.os9_base.specs.declared.registers.Regs.{Regs}
use Rattle.cpu_model.specs.declared.stop.Stop.{Stop}
use Rattle.cpu_model.specs.declared.stop.Stop.TheVariants.{Next, Call, Abort}
use Rattle.cpu_model.specs.Step.{Outcome, Done, Calls, Aborts}
use Rattle.cpu6809.specs.declared.execution.Ran.{Ran as RanOn}
use Rattle.proc_model.specs.Memory.{MemoryState}
use Rattle.proc_model.specs.Records.{IsLiving}
use Rattle.guest_memory.specs.Running.{LeavesMemory, FollowInMemory, EndsInMemory, RunsInMemory}
use Rattle.proc_model.specs.End.{ended}
use Rattle.proc_model.specs.Processes.{Processes, own_at, regs_at, with_own}
use Rattle.proc_model.specs.Ready.{executes, act_of}
use Rattle.file_rules.specs.Processes.{files_ended}
use Rattle.machine_model.specs.declared.ends.EventEnd.{EventEnd}
use Rattle.machine_model.specs.declared.ends.EventEnd.TheVariants.{Ran, Ended}
use Rattle.machine_model.specs.Event.{Event}
use Rattle.machine_model.specs.State.{State}
use Rattle.os9_kernel.specs.Slice.{Instructions, last}
use Rattle.os9_kernel.proofs.Columns.{processes_at, processes_at-then}
use Rattle.os9_kernel.proofs.Executing.{next_outcome, follow-done}
use Rattle.os9_kernel.proofs.Running.{state_at, state_at-same, cost-one, instruction-event, done-then, done-all}

-- how many were done, where all were
pub all-done : (p most : ℕ) (ran : RanOn) (regs now : Regs) (m t : MemoryState) → RunsInMemory p most ran regs m now t → ran.stop ≡ Next → ran.followed ≡ most
all-done p most ran regs now m t (at, held, follow, ends) is =
    (subst (λ (stop : Stop). EndsInMemory p most ran.followed stop at held now t) is ends).0

-- and where the last one was a call or ended the process
pub some-left : (p most : ℕ) (ran : RanOn) (regs now : Regs) (m t : MemoryState) → RunsInMemory p most ran regs m now t → (stop : Stop) → ran.stop ≡ stop → (stop ≡ Next → ⊥) → ran.followed < most
some-left p most ran regs now m t (at, held, follow, ends) Next is other = absurd (other refl)
some-left p most ran regs now m t (at, held, follow, ends) (Call code) is other =
    (subst (λ (stop : Stop). EndsInMemory p most ran.followed stop at held now t) is ends).0
some-left p most ran regs now m t (at, held, follow, ends) (Abort status) is other =
    (subst (λ (stop : Stop). EndsInMemory p most ran.followed stop at held now t) is ends).0

module _ (s : State) (p : ℕ) (chosen : s.chosen ≡ Some p) (lives : IsLiving s.processes.records p)
    (next : act_of s.processes p ≡ executes) (most : ℕ) (ran : RanOn) (now : Regs) (t : MemoryState) (some : 0 < most)
    (runs : RunsInMemory p most ran (regs_at s.processes p) s.processes.memory now t) where
  abbrev at : MemoryState → Regs → State
  at memory regs = state_at s p chosen lives next memory regs

  -- from the state itself
  from-here : (count : ℕ) (end : EventEnd) (u : State) → Instructions (at s.processes.memory (regs_at s.processes p)) count end u → Instructions s count end u
  from-here count end u done = subst (λ (here : State). Instructions here count end u) (state_at-same s p chosen lives next) done

  pub turn-next : ran.stop ≡ Next → Instructions s ran.followed Ran (at t now)
  turn-next is =
      let (before, held, follow, ends) = runs in
      let (all, registers, memory) : EndsInMemory p most ran.followed Next before held now t = subst (λ (stop : Stop). EndsInMemory p most ran.followed stop before held now t) is ends in
      let done = done-all s p chosen lives next (follow-done p ran.followed (regs_at s.processes p) s.processes.memory before held follow) (omega arith) in
      from-here ran.followed Ran (at t now)
      (subst (λ (x : MemoryState). Instructions (at s.processes.memory (regs_at s.processes p)) ran.followed Ran (at x now)) (sym memory)
      (subst (λ (r : Regs). Instructions (at s.processes.memory (regs_at s.processes p)) ran.followed Ran (at held r)) (sym registers) done))

  -- one more that is not done
  one-more : (before : Regs) (held : MemoryState) (end : EventEnd) (u : State) → FollowInMemory p ran.followed
      (regs_at s.processes p) s.processes.memory before held → Event (at held before) end u
      → Instructions s (ran.followed + 1) end u
  one-more before held end u follow event =
      from-here (ran.followed + 1) end u
      (done-then s p chosen lives next (follow-done p ran.followed (regs_at s.processes p) s.processes.memory before held follow) 1 end u (last (cost-one s p chosen lives next held before) event))

  -- the processes where one has made a call
  abbrev pub calling : MemoryState → Regs → ℕ → Processes
  calling memory regs code =
      with_own (processes_at s.processes p memory regs) p (record (own_at s.processes p) { call = Some code })

  by_call : (before : Regs) (held : MemoryState) (outcome : Outcome) (code : ℕ) → next_outcome held p before ≡ outcome
      → LeavesMemory p outcome (Call code) before held now t → Event (at held before) Ran
      (record s { processes = calling t now code })
  by_call before held (Done effect) code is left = cc (left.0)
  by_call before held (Calls other past) code is (stops, registers, memory) =
      let code_is : code ≡ other = cc in
      subst (λ (c : ℕ). Event (at held before) Ran (record s { processes = calling t now c })) (sym code_is)
      (subst (λ (x : MemoryState). Event (at held before) Ran (record s { processes = calling x now other })) (sym memory)
      (subst (λ (r : Regs). Event (at held before) Ran (record s { processes = calling held r other })) (sym registers)
      (subst (λ (m : Processes). Event (at held before) Ran (record s { processes = with_own m p (record (own_at s.processes p) { call = Some other }) }))
      (processes_at-then s.processes p lives held held before past)
      (instruction-event s p chosen lives next held before (Calls other past) is))))
  by_call before held (Aborts status) code is left = cc (left.0)

  pub turn-call : (code : ℕ) → ran.stop ≡ Call code → Instructions s (ran.followed + 1) Ran (record s { processes = calling t now code })
  turn-call code is =
      let (before, held, follow, ends) = runs in
      let (few, left) : EndsInMemory p most ran.followed (Call code) before held now t = subst (λ (stop : Stop). EndsInMemory p most ran.followed stop before held now t) is ends in
      one-more before held Ran (record s { processes = calling t now code }) follow (by_call before held (next_outcome held p before) code refl left)

  by_abort : (before : Regs) (held : MemoryState) (outcome : Outcome) (status : ℕ) → next_outcome held p before ≡
      outcome → LeavesMemory p outcome (Abort status) before held now t → Event (at held before) Ended
      (record s { processes = ended (processes_at s.processes p t now) p status; files = files_ended s.files p })
  by_abort before held (Done effect) status is left = cc (left.0)
  by_abort before held (Calls code past) status is left = cc (left.0)
  by_abort before held (Aborts other) status is (stops, registers, memory) =
      let status_is : status ≡ other = cc in
      subst (λ (c : ℕ). Event (at held before) Ended (record s { processes = ended (processes_at s.processes p t now) p c; files = files_ended s.files p })) (sym status_is)
      (subst (λ (x : MemoryState). Event (at held before) Ended (record s { processes = ended (processes_at s.processes p x now) p other; files = files_ended s.files p })) (sym memory)
      (subst (λ (r : Regs). Event (at held before) Ended (record s { processes = ended (processes_at s.processes p held r) p other; files = files_ended s.files p })) (sym registers)
      (instruction-event s p chosen lives next held before (Aborts other) is)))

  pub turn-abort : (status : ℕ) → ran.stop ≡ Abort status
      → Instructions s (ran.followed + 1) Ended (record s { processes = ended (processes_at s.processes p t now) p status; files = files_ended s.files p })
  turn-abort status is =
      let (before, held, follow, ends) = runs in
      let (few, left) : EndsInMemory p most ran.followed (Abort status) before held now t = subst (λ (stop : Stop). EndsInMemory p most ran.followed stop before held now t) is ends in
      one-more before held Ended (record s {
        processes = ended (processes_at s.processes p t now) p status;
        files = files_ended
            s.files p;
      }) follow (by_abort before held (next_outcome held p before) status refl left)
