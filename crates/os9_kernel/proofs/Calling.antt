-- What a process's own calls come to for the machine.
use Rattle.std.proofs.Common.{◌≡◌, ℕ, Option, List, refl}
use Rattle.os9_base.specs.declared.call.CallEnd.{CallEnd}
use Rattle.os9_base.specs.declared.registers.Regs.{Regs}
use Rattle.proc_model.specs.declared.record.Record.{Record}
use Rattle.proc_model.specs.Records.{IsLiving}
use Rattle.proc_model.specs.Attempts.{attempt_end, after_attempt, done_regs, refused_regs, goes_on}
use Rattle.proc_model.specs.CallResult.{CallResult, done, refused, waits, ends}
use Rattle.proc_model.specs.Processes.{Processes, regs_at}
use Rattle.file_rules.specs.Files.{Files}
use Rattle.proc_calls.specs.Telling.{LivesOn}
use Rattle.machine_model.specs.declared.ends.EventEnd.TheVariants.{Ran, NoMemory}
use Rattle.machine_model.specs.ProcessEvent.{call_event_end}
use Rattle.machine_model.specs.Services.{files_after_call}
use Rattle.os9_kernel.specs.Ends.{event_end_of}
use Rattle.os9_kernel.specs.Paths.{files_then}

pub end-tied : (result : CallResult) → event_end_of (attempt_end result) ≡ call_event_end result
end-tied (done t) = refl
end-tied (refused number) = refl
end-tied (waits t) = refl
end-tied (ends status) = refl

pub never-wants : (result : CallResult) → event_end_of (attempt_end result) ≡ NoMemory → ⊥
never-wants (done t) is = cc
never-wants (refused number) is = cc
never-wants (waits t) is = cc
never-wants (ends status) is = cc

-- a call behind which its process goes on
pub goes-on : (result : CallResult) → event_end_of (attempt_end result) ≡ Ran → (m : Processes) (p : ℕ) → (t : Processes) × (regs : Regs) × (after_attempt m p result ≡ goes_on t p regs)
goes-on (done t) is m p = (t, done_regs (regs_at t p), refl)
goes-on (refused number) is m p = (m, refused_regs (regs_at m p) number, refl)
goes-on (waits t) is m p = cc
goes-on (ends status) is m p = cc

-- its process lives on
pub lives-so : (end : CallEnd) (records : List (Option Record)) (p : ℕ) → event_end_of end ≡ Ran → LivesOn end records p → IsLiving records p
lives-so CallEnd.Done records p is lives = lives
lives-so (CallEnd.Error number) records p is lives = lives
lives-so CallEnd.Wait records p is lives = cc
lives-so CallEnd.Ended records p is lives = cc
lives-so CallEnd.NoMemory records p is lives = cc

-- the files behind a call on processes are those of the machine
pub files-tied : (files : Files) (p : ℕ) (result : CallResult) → files_then (attempt_end result) files p ≡ files_after_call files p result
files-tied files p (done t) = refl
files-tied files p (refused number) = refl
files-tied files p (waits t) = refl
files-tied files p (ends status) = refl
