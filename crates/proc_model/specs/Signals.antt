-- Signals in the records of processes (System Programmer's Manual, F$Send and F$Icpt).
use Rattle.std.specs.Prelude.{ℕ, ◌==◌, ◌&&◌, ◌||◌, not, Bool, is_some, Option, Some, None, List, if◌then◌else◌}
use Rattle.proc_model.specs.declared.record.Intercept.{Intercept}
use Rattle.proc_model.specs.declared.record.Record.{Record}
use Rattle.proc_model.specs.declared.record.SendFault.{SendFault}
use Rattle.proc_model.specs.declared.record.SendFault.TheVariants.{NoProcess, Pending}
use Rattle.proc_model.specs.Records.{is_living, record_at, with_record}

-- the signal that ends a sleep, S$Wake; it is never pending
abbrev pub wake_signal : ℕ
wake_signal = 1

-- a process lives, and this user may act on it: it is the user's own, or the user is the superuser
abbrev pub is_reached : List (Option Record) → ℕ → ℕ → Bool
is_reached records user p = is_living records p && (((record_at records p).user == user) || (user == 0))

-- why a user cannot send this signal to this process, if it cannot
abbrev pub send_fault : List (Option Record) → ℕ → ℕ → ℕ → Option SendFault
send_fault records user to signal =
    if not (is_reached records user to) then Some NoProcess
    else (if not (signal == wake_signal) && is_some (record_at records to).signal then Some Pending else None)

-- the records with this pending signal of a process, or with none
abbrev pub with_signal : List (Option Record) → ℕ → Option ℕ → List (Option Record)
with_signal records p signal = with_record records p (record (record_at records p) { signal = signal })

-- the records after a signal that is not refused
abbrev pub with_sent : List (Option Record) → ℕ → ℕ → List (Option Record)
with_sent records to signal = if signal == wake_signal then records else with_signal records to (Some signal)

-- the records after an attempt to send a signal
abbrev pub after_send : List (Option Record) → ℕ → ℕ → ℕ → List (Option Record)
after_send records user to signal =
    if is_some (send_fault records user to signal) then records else with_sent records to signal

-- the intercept with this routine and area; there is none if the routine is 0
abbrev pub intercept_of : ℕ → ℕ → Option Intercept
intercept_of routine area = if routine == 0 then None else Some (record { routine = routine; area = area })

-- the records with this intercept of a process, or with none
abbrev pub with_intercept : List (Option Record) → ℕ → Option Intercept → List (Option Record)
with_intercept records p intercept = with_record records p (record (record_at records p) { intercept = intercept })
