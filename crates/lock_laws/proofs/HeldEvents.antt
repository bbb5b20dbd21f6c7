-- An event of a process leaves the locks and the requests of the others, and each lock on the file of its path.
use Rattle.std.proofs.Common.{◌≡◌, ℕ, Option, Some, Result, Ok, Err, length, refl, sym, ap, subst}
use Rattle.os9_base.specs.declared.registers.TimePacket.{TimePacket}
use Rattle.cpu_model.specs.Step.{Aborts, Calls, Done, Outcome}
use Rattle.proc_model.specs.CallResult.{CallResult, done, ends, refused, waits}
use Rattle.proc_model.specs.Delivery.{delivered}
use Rattle.proc_model.specs.Processes.{Processes}
use Rattle.proc_model.specs.Ready.{Act, act_of, attempts, delivers, executes}
use Rattle.proc_model.specs.declared.proc_call.ProcCall.TheVariants as Call
use Rattle.io_model.specs.Io.{Io}
use Rattle.file_rules.specs.Attempts.{FileAttempts, asker_of}
use Rattle.file_rules.specs.Codes.{path_call_of}
use Rattle.file_rules.specs.Files.{Files}
use Rattle.file_rules.specs.Processes.{files_ended}
use Rattle.file_rules.specs.declared.path_call.PathCall.{PathCall}
use Rattle.file_laws.specs.Touch.{LeavesFiles}
use Rattle.file_laws.proofs.Loads.{chain-leaves, fork-leaves, load-leaves}
use Rattle.machine_model.specs.ProcessEvent.{next_instruction}
use Rattle.machine_model.specs.declared.ends.EventEnd.{EventEnd}
use Rattle.machine_model.specs.Event.{Acts, before_delivery, files_after_delivery, files_after_instruction}
use Rattle.machine_model.specs.Services.{Serves, Service, files_after_call, files_after_fork, loads, no_call, on_paths, on_processes, on_time, service_of}
use Rattle.machine_model.specs.State.{Rest, State}
use Rattle.isolation_laws.proofs.Asked.{Asks, asks}
use Rattle.lock_laws.specs.Locked.{IsRunLocked}
use Rattle.lock_laws.proofs.Covered.{state-covered}
use Rattle.lock_laws.proofs.Held.{LeavesRecords, ended-leaves, interrupted-leaves, still-leaves}
use Rattle.lock_laws.proofs.HeldAttempts.{attempt-leaves}
use Rattle.lock_laws.proofs.VolumeEvents.{attempt_by}

module _ (s : State) (p : ℕ) (it : IsRunLocked s) where
  abbrev Leaves : Files → Type 0
  Leaves new = LeavesRecords p s.files new

  same : (new : Files) → new.records ≡ s.files.records → new.io.paths.descs ≡ s.files.io.paths.descs → Leaves new
  same = still-leaves s.files p it.state.agreed it.on.held

  ended : Leaves (files_ended s.files p)
  ended = ended-leaves s.files p it.state.agreed it.on.held

  instruction-leaves : (outcome : Outcome) → Leaves (files_after_instruction s.files p outcome)
  instruction-leaves (Done effect) = same s.files refl refl
  instruction-leaves (Calls code regs) = same s.files refl refl
  instruction-leaves (Aborts status) = ended

  delivery-leaves : (result : Result Processes ℕ) → Leaves (files_after_delivery s.files p result)
  delivery-leaves (Ok t) = interrupted-leaves s.files p it.state.agreed it.on.held
  delivery-leaves (Err status) = ended

  call-leaves : (result : CallResult) → Leaves (files_after_call s.files p result)
  call-leaves (done t) = same s.files refl refl
  call-leaves (refused number) = same s.files refl refl
  call-leaves (waits t) = same s.files refl refl
  call-leaves (ends status) = ended

  -- ---- what reads a file at most

  left-descs : {reached : Option ℕ} {result : CallResult} (files : Files) → LeavesFiles reached s.files result files → files.io.paths.descs ≡ s.files.io.paths.descs
  left-descs files left = ap (λ (io : Io). io.paths.descs) left.io

  left-leaves : {reached : Option ℕ} {result : CallResult} (files : Files) → LeavesFiles reached s.files result files → Leaves files
  left-leaves files left = same files left.records (left-descs files left)

  fork-left : {reached : Option ℕ} {of : CallResult} (files : Files) → LeavesFiles reached s.files of files → (result : CallResult) → Leaves (files_after_fork files p result)
  fork-left files left (done t) = same (files_after_fork files p (done t)) left.records (left-descs files left)
  fork-left files left (refused number) = left-leaves files left
  fork-left files left (waits t) = left-leaves files left
  fork-left files left (ends status) = left-leaves files left

  -- ---- an attempt

  module _ (code : ℕ) (next : act_of s.processes p ≡ attempts code) (now : TimePacket) where
    path-leaves : (call : PathCall) → path_call_of code ≡ Some call → (result : CallResult) (rest : Rest)
        → FileAttempts call s.processes s.files now p result rest.files s.terms rest.terms → Leaves rest.files
    path-leaves call coded result rest attempted =
        attempt-leaves (attempt_by s p now call result rest attempted) it.state.running.kinds it.state.agreed.records
        it.state.agreed.places (λ request there. (it.state.running.requested p request there).owner)
        (state-covered s p code it.state.running it.on next now call coded (length s.terms)) it.on.held

    abbrev files_in : Rest → Files
    files_in rest = rest.files

    rest-leaves : (rest : Rest) (files : Files) → files_in rest ≡ files → Leaves files → Leaves rest.files
    rest-leaves rest files is leaves = subst Leaves (sym is) leaves

    serves-leaves : (service : Service) → service_of code ≡ service → (result : CallResult) (rest : Rest) → Serves service s now p result rest → Leaves rest.files
    serves-leaves loads serves result rest (files, read, is) =
        rest-leaves rest files (ap files_in is) (left-leaves files (load-leaves s.processes (asker_of s.processes p now) s.files (length s.terms) p result files read))
    serves-leaves (on_processes Call.Fork) serves result rest (files, read, is) =
        rest-leaves rest (files_after_fork files p result) (ap files_in is)
        (fork-left files (fork-leaves s.processes (asker_of s.processes p now) s.files (length s.terms) p result files read) result)
    serves-leaves (on_processes Call.Chain) serves result rest (files, read, is) =
        rest-leaves rest files (ap files_in is) (left-leaves files (chain-leaves s.processes (asker_of s.processes p now) s.files (length s.terms) p result files read))
    serves-leaves (on_processes call) serves result rest served =
        rest-leaves rest (files_after_call s.files p result) (ap files_in served.1) (call-leaves result)
    serves-leaves (on_time call) serves result rest (clock, timed, is) =
        rest-leaves rest s.files (ap files_in is) (same s.files refl refl)
    serves-leaves (on_paths call) serves result rest (attempted, clock) =
        path-leaves call (subst (Asks code) serves (asks code)) result rest attempted
    serves-leaves no_call serves result rest (refusal, is) =
        rest-leaves rest s.files (ap files_in is) (same s.files refl refl)

  pub acts-leave : (act : Act) (end : EventEnd) (t : State) → act_of s.processes p ≡ act → Acts act s p end t → Leaves t.files
  acts-leave executes end t next (over, is) =
      subst (λ (t : State). Leaves t.files) (sym is) (instruction-leaves (next_instruction s.processes p))
  acts-leave (delivers signal) end t next (over, is) =
      subst (λ (t : State). Leaves t.files) (sym is) (delivery-leaves (delivered (before_delivery s p) p signal))
  acts-leave (attempts code) end t next (result, rest, (now, is_now, served), over, is) =
      subst (λ (t : State). Leaves t.files) (sym is) (serves-leaves code next now (service_of code) refl result rest served)
