-- How the steps of a call join.
use Rattle.std.proofs.Common.{◌≡◌, ℕ, Bool, false, Result, Ok, Err, refl, sym, ap, subst, ◌∙◌}
use Rattle.proc_model.specs.declared.memory.MemoryFault.{MemoryFault}
use Rattle.proc_model.specs.Memory.{MemoryState}
use Rattle.proc_model.specs.CallResult.{CallResult, done, refused, refuses, changes}
use Rattle.proc_model.specs.Processes.{Processes, with_memory}
use Rattle.proc_state.specs.declared.state.ProcState.{ProcState}
use Rattle.proc_state.specs.Tie.{RepresentsProcesses, ReturnsDoneOrRefused}

-- a test that does not refuse
pub refuses-not : (m : Processes) (test : Bool) (number : ℕ) (next : CallResult) (outcome : Result (Unit {0}) ℕ)
    (new : ProcState) → test ≡ false → ReturnsDoneOrRefused m next outcome new → ReturnsDoneOrRefused m (refuses test number next) outcome new
refuses-not m test number next outcome new passed answers =
    subst (λ (t : Bool). ReturnsDoneOrRefused m (refuses t number next) outcome new) (sym passed) answers

-- memory was changed, and the call goes on
pub changes-then : (m : Processes) (change : Result MemoryState MemoryFault) (next : MemoryState → Processes)
    (mid new : ProcState) → ReturnsDoneOrRefused m (changes change (λ memory. done (with_memory m memory))) (Ok tt) mid
    → ((memory : MemoryState) → RepresentsProcesses mid (with_memory m memory) → RepresentsProcesses new (next memory))
    → ReturnsDoneOrRefused m (changes change (λ memory. done (next memory))) (Ok tt) new
changes-then m (Ok memory) next mid new answers step = (refl, step memory answers.1)
changes-then m (Err fault) next mid new answers step = absurd (let no_ok = answers.0 in cc)

-- a call is refused with the number that a step gave
pub refused-answers : (m : Processes) (call : CallResult) (number : ℕ) (outcome : Result (Unit {0}) ℕ) (new : ProcState)
    → (x : ℕ) × (outcome ≡ Err x) × (x ≡ number) → call ≡ refused number → RepresentsProcesses new m → ReturnsDoneOrRefused m call outcome
    new
refused-answers m call number outcome new gave is stands =
    subst (λ (c : CallResult). ReturnsDoneOrRefused m c outcome new) (sym is) (gave.1 ∙ ap Err gave.2, stands)

-- a call is done, and this is the state then
pub done-answers : (m : Processes) (call : CallResult) (t : Processes) (new : ProcState) → call ≡ done t → RepresentsProcesses new t → ReturnsDoneOrRefused m call (Ok tt) new
done-answers m call t new is stands = subst (λ (c : CallResult). ReturnsDoneOrRefused m c (Ok tt) new) (sym is) (refl, stands)

-- a call is refused with this number
pub refused-alone : (m : Processes) (call : CallResult) (number : ℕ) (new : ProcState) → call ≡ refused number → RepresentsProcesses new m → ReturnsDoneOrRefused m call (Err number) new
refused-alone m call number new is stands = subst (λ (c : CallResult). ReturnsDoneOrRefused m c (Err number) new) (sym is) (refl, stands)
