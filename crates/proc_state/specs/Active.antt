-- Which processes are active, by the kernel's data.
use Rattle.std.specs.Prelude.{◌≡◌, ℕ, Bool}
use Rattle.os9_sched.specs.Members.{is_active_in}
use Rattle.proc_state.specs.Ready.{ready_at}
use Rattle.proc_state.specs.declared.state.ProcState.{ProcState}

-- the processes that the scheduler has as active are exactly those that are Ready in that tick
abbrev pub AreActiveAt : (ℕ → Bool) → ℕ → ProcState → Type 0
AreActiveAt io tick state = (p : ℕ) → is_active_in state.sched.members p ≡ ready_at io tick state p
