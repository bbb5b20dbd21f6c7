-- The code of the call that a process attempts.
use Rattle.std.proofs.Common.{◌≡◌, ℕ, Bool, true, false, Option, Some, None, ap}
use Rattle.proc_model.specs.Records.{is_waiting, record_at}
use Rattle.proc_model.specs.Processes.{Processes, own_at}
use Rattle.proc_model.specs.Ready.{attempts, act_of, next_act}

-- a process that attempts a call made it
pub attempts-code : (processes : Processes) (p code : ℕ) → act_of processes p ≡ attempts code → (own_at processes p).call ≡ Some code
attempts-code processes p code next = by_call (own_at processes p).call (is_waiting (record_at processes.records p).life) (record_at processes.records p).signal next
  where
    by_call : (call : Option ℕ) (held : Bool) (signal : Option ℕ) → next_act call held signal ≡ attempts code → call ≡ Some code
    by_call None held None is = cc
    by_call None held (Some signal) is = cc
    by_call (Some other) false signal is = (let same : other ≡ code = cc in ap Some same)
    by_call (Some other) true None is = (let same : other ≡ code = cc in ap Some same)
    by_call (Some other) true (Some signal) is = cc
