-- What the processes of a kernel keep, since they represent those of a machine.
use Rattle.std.proofs.Common.{◌≡◌, ℕ, ◌<◌, false, None, List, length, get_or, set, sym, ap, ◌∙◌, arith}
use Rattle.std.specs.Prelude.{slice_index_or}
use Rattle.std.proofs.lemmas.List.{get_or-set_same, length-set}
use Rattle.proc_state.proofs.Entered.{some-machine}
use Rattle.os9_base.specs.declared.registers.Regs.{Regs}
use Rattle.proc_model.specs.declared.own.Own.{Own}
use Rattle.proc_model.specs.Records.{IsLiving}
use Rattle.proc_model.specs.Attempts.{goes_on}
use Rattle.proc_model.specs.Processes.{Processes, no_own, own_at}
use Rattle.proc_model.specs.Ready.{act_of}
use Rattle.proc_state.specs.declared.state.ProcState.{ProcState}
use Rattle.proc_state.specs.Tie.{RepresentsProcesses}
use Rattle.machine_model.specs.Console.{terminals_emptied}
use Rattle.machine_model.specs.State.{State}
use Rattle.lock_laws.proofs.OpenRuns.{emptied-open}
use Rattle.os9_kernel.specs.declared.kernel.Kernel.{Kernel}
use Rattle.os9_kernel.specs.Next.{next_of}
use Rattle.os9_kernel.specs.Outside.{Outside}
use Rattle.os9_kernel.specs.Tie.{Represents as RepresentsState}
use Rattle.os9_kernel.proofs.Columns.{living-within}

-- there are 33 places for processes
pub places-there : (processes : ProcState) (m : Processes) → RepresentsProcesses processes m → length m.records ≡ 33
places-there processes m tied = ap (λ (s : Processes). length s.records) tied.is ∙ processes.numbers.places

-- a process that lives has one of them
pub living-few : (processes : ProcState) (m : Processes) → RepresentsProcesses processes m → (p : ℕ) → IsLiving m.records p → p < 33
living-few processes m tied p lives = omega (arith, living-within m.records p lives, places-there processes m tied)

-- the tick stays where a change of the machine leaves it
pub tick-kept : (old new : ProcState) (change : Processes → Processes) → ((m : Processes) → RepresentsProcesses old m
    → RepresentsProcesses new (change m)) → ((m : Processes) → (change m).tick ≡ m.tick) → new.tick
    ≡ old.tick
tick-kept old new change ties keeps =
    let (m, tied) = some-machine old in
    sym (ap (λ (s : Processes). s.tick) (ties m tied).is) ∙ keeps m ∙ ap (λ (s : Processes). s.tick) tied.is

-- what a process does next is what it does in the machine
pub act-tied : (processes : ProcState) (m : Processes) → RepresentsProcesses processes m → (p : ℕ) → act_of m p ≡ next_of processes p
act-tied processes m tied p = ap (λ (s : Processes). act_of s p) tied.is

-- a process that goes on has no call
pub no-call : (new : ProcState) (t : Processes) (p : ℕ) (regs : Regs) → p < 33 → RepresentsProcesses new (goes_on t p regs) → (slice_index_or new.own.items p no_own).call ≡ None
no-call new t p regs within tied =
    let own : Own = record (own_at t p) { call = None; until = None; woken = false } in
    let items : set t.own p own ≡ new.own.items = ap (λ (s : Processes). s.own) tied.is in
    let places : length new.own.items ≡ 33 = sym new.own.ok.0 ∙ new.places in
    let inside : p < length t.own = omega (arith, ap length items, length-set t.own p own) in
    ap (λ (owns : List Own). (get_or owns p no_own).call) (sym items)
    ∙ ap (λ (o : Own). o.call) (get_or-set_same t.own p own no_own inside)

-- the kernel represents the state with terminals without bytes, where these are taken
pub represents-emptied : (kernel : Kernel) (devices : Outside) (s : State) → RepresentsState kernel devices s
    → RepresentsState kernel (record devices { terms = terminals_emptied devices.terms })
    (record s { terms = terminals_emptied s.terms })
represents-emptied kernel devices s tied = record {
  processes = tied.processes;
  files = tied.files;
  is = λ i. record (tied.is i) { terms = terminals_emptied (tied.is i).terms };
  run = emptied-open s tied.run;
  looked = tied.looked;
  known = tied.known;
}

-- the instructions that were counted are nothing of the state
pub represents-counted : (kernel : Kernel) (executed : ℕ) (devices : Outside) (s : State) → RepresentsState kernel devices s → RepresentsState (record kernel { executed = executed }) devices s
represents-counted kernel executed devices s tied =
    record { processes = tied.processes; files = tied.files; is = tied.is; run = tied.run; looked = tied.looked; known = tied.known }
