-- The result of an attempt of a call on a file, for whose entry in the history there may be no memory.
use Rattle.std.specs.Prelude.{◌≡◌, ◌≢◌, ℕ, List, length}
use Rattle.os9_base.specs.declared.call.CallEnd.{CallEnd}
use Rattle.os9_base.specs.declared.call.CallEnd.TheVariants.{NoMemory}
use Rattle.os9_base.specs.declared.registers.TimePacket.{TimePacket}
use Rattle.os9_outer.specs.TerminalState.{TerminalState}
use Rattle.proc_model.specs.Processes.{Processes}
use Rattle.file_rules.specs.Attempts.{asker_of, file_step}
use Rattle.file_rules.specs.Files.{Asker, Files}
use Rattle.file_rules.specs.Memory.{LacksEntry}
use Rattle.file_rules.specs.declared.path_call.PathCall.{PathCall}
use Rattle.file_drives.specs.Drives.{drive_states}
use Rattle.file_drives.specs.Mounted.{AreMounted}
use Rattle.file_state.specs.Attempt.{OnEach, MachineOnDrives}
use Rattle.file_state.specs.Counted.{AttemptsIn, CalledAtMost, calls_of}
use Rattle.file_state.specs.Media.{KeepsDrives}

-- memory was wanting for the entry of an attempt in the history: the drives have what the attempt does on them. They
-- were called at most so often
pub record LacksItsEntry (most : ℕ) (call : PathCall) (m : Processes) (was : Files) (now : TimePacket) (p : ℕ)
    (end : CallEnd) (terms terms_after : List TerminalState) (before after : MachineOnDrives) : Type 0 where
  pub done : Files
  pub lacks : LacksEntry call m was now p done terms terms_after
  pub drives : done.drives ≡ drive_states after.views
  pub mounted : AreMounted after.files.disks after.views done.volumes
  pub calls : CalledAtMost (calls_of (file_step call (asker_of m p now) was (length terms)) most) before.views
      after.views
  pub images : KeepsDrives (file_step call (asker_of m p now) was (length terms)) (asker_of m p now) was end
      before.views after.views

-- an attempt of a call, in which the drives are called at most so often, and what it leaves; or memory was wanting for
-- its entry
pub record AttemptsOrLacks (most : ℕ) (call : PathCall) (m : Processes) (was : Files) (now : TimePacket) (p : ℕ)
    (end : CallEnd) (terms terms_after : List TerminalState) (before after : MachineOnDrives) : Type 0 where
  pub attempted : end ≢ NoMemory → AttemptsIn most call m was now p end terms terms_after before after
  pub lacks : end ≡ NoMemory → LacksItsEntry most call m was now p end terms terms_after before after

-- from each state that the kernel's represents
abbrev pub TriesWithin : (Asker → Files → ℕ → ℕ) → PathCall → TimePacket → ℕ → CallEnd → List TerminalState
    → List TerminalState → MachineOnDrives → MachineOnDrives → Type 0
TriesWithin most call now p end terms terms_after before after =
    OnEach before
    (λ m was. AttemptsOrLacks (most (asker_of m p now) was (length terms)) call m was now p end terms terms_after before
    after)
