-- The number of calls of a machine's drives in a call on files, and its effect on them (this project's own).
use Rattle.std.specs.Prelude.{◌≡◌, ℕ, ◌+◌, ◌≤◌, List, length, slice_index_or}
use Rattle.os9_base.specs.declared.call.CallEnd.{CallEnd}
use Rattle.os9_base.specs.declared.registers.TimePacket.{TimePacket}
use Rattle.os9_outer.specs.TerminalState.{TerminalState}
use Rattle.proc_model.specs.Processes.{Processes}
use Rattle.file_rules.specs.Attempts.{asker_of, file_step}
use Rattle.file_rules.specs.Files.{Asker, Files}
use Rattle.file_rules.specs.Step.{Step, refused, comes, reaches}
use Rattle.file_rules.specs.declared.path_call.PathCall.{PathCall}
use Rattle.file_drives.specs.Drives.{DriveView, unused_drive}
use Rattle.file_state.specs.Attempt.{FileAttempted, OnEach, MachineOnDrives}
use Rattle.file_state.specs.Media.{KeepsDrives}

-- the number of calls of the drive of this number; 0 if there is none
abbrev pub calls_at : List DriveView → ℕ → ℕ
calls_at views n = (slice_index_or views n unused_drive).counts.calls

-- the number of drives is the same, and each has been called at most `most` times since
pub record CalledAtMost (most : ℕ) (before after : List DriveView) : Type 0 where
  pub as_many : length after ≡ length before
  pub each : (n : ℕ) → calls_at after n ≤ calls_at before n + most

-- ---- in an attempt

-- at most `most` if a step reaches a drive, and 0 if it reaches none
abbrev pub calls_of : {E : Type 0} → Step E → ℕ → ℕ
calls_of (refused number) most = 0
calls_of (comes it) most = 0
calls_of (reaches drive step) most = most

-- an attempt of a call by a process, at a time, with at most `most` drive calls if it reaches a drive, and its effect
-- on the drives
pub record AttemptsIn (most : ℕ) (call : PathCall) (m : Processes) (was : Files) (now : TimePacket) (p : ℕ)
    (end : CallEnd)
    (terms terms_after : List TerminalState) (before after : MachineOnDrives) : Type 0 where
  pub attempts : FileAttempted call m was now p end after.processes after.files after.views terms terms_after
  pub calls : CalledAtMost (calls_of (file_step call (asker_of m p now) was (length terms)) most) before.views
      after.views
  pub drives : KeepsDrives (file_step call (asker_of m p now) was (length terms)) (asker_of m p now) was end
      before.views after.views

-- from each state that the kernel's state represents, with the greatest number of drive calls by the calling process,
-- the files and the number of terminals
abbrev pub AttemptsWithin : (Asker → Files → ℕ → ℕ) → PathCall → TimePacket → ℕ → CallEnd → List TerminalState
    → List TerminalState → MachineOnDrives → MachineOnDrives → Type 0
AttemptsWithin most call now p end terms terms_after before after =
    OnEach before
    (λ m was. AttemptsIn (most (asker_of m p now) was (length terms)) call m was now p end terms terms_after before
    after)
