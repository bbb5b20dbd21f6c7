-- F$Send: sends a signal (System Programmer's Manual, F$Send).
-- Takes the number of the process in A and the signal in B. Signal 1 wakes a sleeping process, and is dropped if the
-- process does not sleep. Any other signal is pending from then on.
-- Errors: E$IPrcID, E$USigP.
use Rattle.std.specs.Prelude.{ℕ, ◌==◌, ◌&&◌, Bool, true, false, Option, Some, None, if◌then◌else◌}
use Rattle.os9_base.specs.declared.calls.TheConstants.{F_SLEEP}
use Rattle.os9_base.specs.declared.errors.TheConstants.{E_IPRCID, E_USIGP}
use Rattle.proc_model.specs.declared.record.SendFault.{SendFault}
use Rattle.proc_model.specs.declared.record.SendFault.TheVariants.{NoProcess, Pending}
use Rattle.proc_model.specs.Records.{record_at, is_waiting}
use Rattle.proc_model.specs.Signals.{wake_signal, send_fault, with_sent}
use Rattle.proc_model.specs.Processes.{Processes, own_at, regs_at, user_at, with_records, with_own}
use Rattle.proc_model.specs.CallResult.{CallResult, done, refused}

-- the unfinished call of a process has this code
abbrev pub is_call : Option ℕ → ℕ → Bool
is_call None code = false
is_call (Some other) code = other == code

-- a process sleeps
abbrev pub is_asleep : Processes → ℕ → Bool
is_asleep s p = is_waiting (record_at s.records p).life && is_call (own_at s p).call F_SLEEP

-- the state in which a process has received a wake, if it sleeps
abbrev pub woken : Processes → ℕ → Processes
woken s p = if is_asleep s p then with_own s p (record (own_at s p) { woken = true }) else s

-- the state after a signal that is not refused
abbrev pub after_signal : Processes → ℕ → ℕ → Processes
after_signal s to signal =
    if signal == wake_signal then woken s to else with_records s (with_sent s.records to signal)

-- a user sends a signal to a process
abbrev pub sends : Processes → ℕ → ℕ → ℕ → CallResult
sends s user to signal = answer (send_fault s.records user to signal)
  where
    answer : Option SendFault → CallResult
    answer None = done (after_signal s to signal)
    answer (Some NoProcess) = refused E_IPRCID
    answer (Some Pending) = refused E_USIGP

abbrev pub f_send : Processes → ℕ → CallResult
f_send s p = sends s (user_at s p) (regs_at s p).a (regs_at s p).b
