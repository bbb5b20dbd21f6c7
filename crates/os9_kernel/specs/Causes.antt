-- What a process waits for after an attempt of its call.
use Rattle.std.specs.Prelude.{◌≡◌, ℕ, false, Option, None, Some, IfSome, slice_index_or}
use Rattle.os9_base.specs.declared.registers.Pid.{Pid}
use Rattle.os9_sched.specs.Members.{member_of, wait_at}
use Rattle.os9_sched.specs.declared.member.Wait.{Wait}
use Rattle.proc_model.specs.Records.{record_at, is_waiting}
use Rattle.proc_model.specs.declared.own.Own.{Own}
use Rattle.proc_model.specs.Codes.{call_of}
use Rattle.proc_model.specs.Processes.{no_own}
use Rattle.proc_model.specs.declared.proc_call.ProcCall.{ProcCall}
use Rattle.call_dispatch.specs.Waits.{waits_for}
use Rattle.file_rules.specs.Locking.{call_wait}
use Rattle.file_state.specs.declared.state.FileState.{FileState}
use Rattle.os9_kernel.specs.declared.kernel.Kernel.{Kernel}

-- what a call on processes waits for, or a call on a path that waits so
abbrev pub wait_by : Option ProcCall → Own → Option Wait → Option Wait
wait_by None own wait = wait
wait_by (Some call) own wait = waits_for call own

-- what a process waits for, if a call on a path of it waits
abbrev pub awaited : FileState → ℕ → Option Wait
awaited files p = call_wait files.io files.records.locks p

-- what the call of this code waits for, for a process that waits in it
abbrev pub wait_for : Kernel → ℕ → ℕ → Option Wait
wait_for kernel code p =
    wait_by (call_of code) (slice_index_or kernel.machine.processes.own.items p no_own)
    (awaited kernel.machine.files p)

-- The chosen process waits in its call. Since the first attempt of the call, the scheduler has what it waits for.
pub record ChosenWaitsInCall (old new : Kernel) : Type 0 where
  pub p : Pid
  pub chosen : old.chosen ≡ Some p
  pub code : ℕ
  pub call : (slice_index_or old.machine.processes.own.items p.0 no_own).call ≡ Some code
  pub first : is_waiting (record_at old.machine.processes.table p.0).life ≡ false → IfSome (wait_for new code p.0)
      (λ wait. wait_at (member_of new.machine.processes.sched.members p.0) ≡ Some wait)
