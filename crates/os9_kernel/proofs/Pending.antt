-- What is pending for the chosen process.
use Rattle.std.proofs.Common.{◌≡◌, ℕ, ◌+◌, ◌*◌, ◌<◌, ◌≤◌, Bool, true, false, Option, Some, None, refl, ap, ◌∙◌, arith}
use Rattle.std.specs.Prelude.{is_some, slice_index_or}
use Rattle.os9_base.specs.declared.registers.Pid.{Pid}
use Rattle.proc_model.specs.Records.{record_at, is_waiting}
use Rattle.proc_model.specs.Processes.{no_own}
use Rattle.proc_model.specs.Ready.{attempts, delivers, next_act}
use Rattle.proc_state.specs.declared.state.ProcState.{ProcState}
use Rattle.os9_kernel.specs.declared.act.Act.TheVariants.{Attempt, Delivery}
use Rattle.os9_kernel.specs.declared.kernel.Kernel.{Kernel}
use Rattle.os9_kernel.specs.Next.{DoesNext}
use Rattle.os9_kernel.specs.Tie.{one_if, pending, pending_of}

at_most-one : (b : Bool) → one_if b ≤ 1
at_most-one true = omega arith
at_most-one false = omega arith

-- no more than a call and a signal
pub at_most-three : (processes : ProcState) (p : ℕ) → pending_of processes p ≤ 3
at_most-three processes p =
    omega (arith, at_most-one (is_some (slice_index_or processes.own.items p no_own).call), at_most-one (is_some (record_at processes.table p).signal))

-- without a call at most a signal
pub no_call-few : (processes : ProcState) (p : ℕ) → (slice_index_or processes.own.items p no_own).call ≡ None → pending_of processes p ≤ 1
no_call-few processes p none =
    let zero : one_if (is_some (slice_index_or processes.own.items p no_own).call) ≡ 0 = ap (λ call. one_if (is_some call)) none in
    omega (arith, zero, at_most-one (is_some (record_at processes.table p).signal))

-- neither a call nor a signal
pub nothing-pending : (processes : ProcState) (p : ℕ) → (slice_index_or processes.own.items p no_own).call ≡ None → (record_at processes.table p).signal ≡ None → pending_of processes p ≡ 0
nothing-pending processes p none signal = rw (none, signal) refl

of-attempt : (call signal : Option ℕ) (waits : Bool) (code : ℕ) → next_act call waits signal ≡ attempts code → 2 ≤ 2 * one_if (is_some call) + one_if (is_some signal)
of-attempt None None waits code is = cc
of-attempt None (Some signal) waits code is = cc
of-attempt (Some other) None waits code is = omega arith
of-attempt (Some other) (Some signal) waits code is = omega arith

of-delivery : (call signal : Option ℕ) (waits : Bool) (sig : ℕ) → next_act call waits signal ≡ delivers sig → 1 ≤ 2 * one_if (is_some call) + one_if (is_some signal)
of-delivery None None waits sig is = cc
of-delivery None (Some signal) waits sig is = omega arith
of-delivery (Some other) None true sig is = cc
of-delivery (Some other) None false sig is = cc
of-delivery (Some other) (Some signal) waits sig is = omega arith

module _ (old : Kernel) (p : Pid) where
  pub pending-is : (kernel : Kernel) → kernel.chosen ≡ Some p → pending kernel ≡ pending_of kernel.machine.processes p.0
  pending-is kernel chosen = rw chosen refl

  pub attempt-pending : (code : ℕ) → DoesNext old p (Attempt code) → 2 ≤ pending old
  attempt-pending code next =
      let some = of-attempt (slice_index_or old.machine.processes.own.items p.0 no_own).call (record_at old.machine.processes.table p.0).signal
      (is_waiting (record_at old.machine.processes.table p.0).life) code next.next in
      omega (arith, some, pending-is old next.chosen)

  pub delivery-pending : (signal : ℕ) → DoesNext old p (Delivery signal) → 1 ≤ pending old
  delivery-pending signal next =
      let some = of-delivery (slice_index_or old.machine.processes.own.items p.0 no_own).call (record_at old.machine.processes.table
      p.0).signal (is_waiting (record_at old.machine.processes.table p.0).life) signal next.next in
      omega (arith, some, pending-is old next.chosen)

  -- an attempt behind which the process goes on leaves at most a signal
  pub attempt-lowers : (code : ℕ) → DoesNext old p (Attempt code) → (new : Kernel) → new.chosen ≡ old.chosen
      → (slice_index_or new.machine.processes.own.items p.0 no_own).call ≡ None → pending new < pending old
  attempt-lowers code next new same none =
      omega (arith, pending-is new (same ∙ next.chosen), no_call-few new.machine.processes p.0 none, attempt-pending code next)
