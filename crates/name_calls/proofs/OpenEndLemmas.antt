-- How attempts end whose rest is a step of a call.
use Rattle.std.proofs.Common.{◌≡◌, ◌∙◌, ℕ, ◌≤◌, Option, Some, None, List, length, inl, refl, ap, sym, subst}
use Rattle.os9_base.specs.declared.call.CallEnd.{CallEnd}
use Rattle.os9_base.specs.declared.call.CallEnd.TheVariants.{Done, Error}
use Rattle.os9_base.specs.declared.registers.Regs.{Regs}
use Rattle.os9_base.specs.declared.registers.TimePacket.{TimePacket}
use Rattle.os9_outer.specs.TerminalState.{TerminalState}
use Rattle.proc_model.specs.Processes.{Processes, user_at, with_regs_of}
use Rattle.rbf_model.specs.Volume.{DiskVolume}
use Rattle.io_model.specs.Io.{Io, with_call}
use Rattle.io_model.specs.Step.{answers}
use Rattle.proc_model.specs.Records.{record_at}
use Rattle.proc_state.specs.Tie.{RepresentsProcesses}
use Rattle.proc_state.specs.declared.state.ProcState.{ProcState}
use Rattle.file_rules.specs.Attempts.{asker_of, file_step}
use Rattle.file_rules.specs.Files.{Files, volume_at, with_drives}
use Rattle.file_rules.specs.Step.{Deed, FileDoes, FileEffect, FileStep, MayBeLeft, deed_of, drive_of, leaves, leaves_so, refused, refuses_so, with_drives_after}
use Rattle.file_rules.specs.declared.path_call.PathCall.{PathCall}
use Rattle.file_drives.specs.Drives.{DriveView, drive_states}
use Rattle.file_state.proofs.CountLemmas.{called-more, called-none}
use Rattle.file_state.proofs.EndLemmas.{breaks, goes-well}
use Rattle.file_state.proofs.KeepLemmas.{MayKeepAll, ends-attempt, error-keeps, keeps-read, keeps-same}
use Rattle.file_state.proofs.ReachedLemmas as reached
use Rattle.file_state.proofs.StateLemmas.{stands-with_io}
use Rattle.file_state.specs.Attempt.{MachineOnDrives}
use Rattle.file_state.specs.Counted.{AttemptsIn, CalledAtMost, calls_of}
use Rattle.file_state.specs.Ends.{EndsFileAttempt}
use Rattle.file_state.specs.Media.{KeepsDrives}
use Rattle.file_state.specs.Reached.{HasReadDrive}
use Rattle.file_state.specs.Tie.{RepresentsFiles}
use Rattle.file_state.specs.declared.state.FileState.{FileState}
use Rattle.name_calls.proofs.OpenCallLemmas.{calls-reached}
use Rattle.name_calls.specs.Ends.{EndsQuietly, HasReadIn}

-- who calls, as the kernel has it
pub user-tied : (s : ProcState) (m : Processes) (p : ℕ) → RepresentsProcesses s m → user_at m p ≡ (record_at s.table p).user
user-tied s m p tied = ap (λ (it : Processes). user_at it p) tied.is

-- more calls may be allowed
pub read-more : (few most : ℕ) (fault : Option ℕ) (drive : ℕ) (files : Files) (new : FileState)
    (before now : List DriveView) → few ≤ most → HasReadIn few fault drive files new before now → HasReadIn most fault
    drive files new before now
read-more few most fault drive files new before now more it = record {
  first = it.first;
  read = it.read;
  calls = called-more few most before now more it.calls;
}

-- ---- its drive was read

module _ (m : Processes) (was : Files) (now : TimePacket) (p : ℕ) (terms : List TerminalState) (step : FileStep) (drive : ℕ) (new : FileState) (before views : List DriveView) where
  -- and it is refused
  pub well-refused : (number : ℕ) → deed_of step was ≡ leaves_so (refuses_so number was) → HasReadDrive None drive was new
      before views → FileDoes step (asker_of m p now) was (refuses_so number (with_drives was (drive_states views)))
      terms terms
  well-refused number is read =
      goes-well step (asker_of m p now) was (refuses_so number was) (drive_states views) terms is read.moved

  -- and has failed
  pub broken : (number : ℕ) (v : DiskVolume) → drive_of step ≡ Some drive → volume_at was drive ≡ Some v
      → MayBeLeft (deed_of step was) (asker_of m p now) v v → HasReadDrive (Some number) drive was new before views
      → FileDoes step (asker_of m p now) was (refuses_so number (with_drives was (drive_states views))) terms terms
  broken number v at is may read =
      subst (λ (files : Files). FileDoes step (asker_of m p now) was (refuses_so number (with_drives files (drive_states views))) terms terms) (reached.same-volume was drive v is)
      (breaks step (asker_of m p now) was drive number v v (drive_states views) terms at is may read.moved)

-- ---- the call ends

module _ (m : Processes) (p : ℕ) (state : FileState) (views : List DriveView) (end : CallEnd) (processes : ProcState) (io : Io) (io_is : io ≡ with_call state.io p None) where
  abbrev left : FileState
  left = record state { io = io }

  -- the files, where nothing is kept of the call
  pub stands-after : (files : Files) → RepresentsFiles state views files → RepresentsFiles left views (record files { io = with_call files.io p None })
  stands-after files stands =
      stands-with_io state views files (with_call files.io p None) io (ap (λ (old : Io). with_call old p None) stands.io ∙ sym io_is) stands

  -- ---- it is refused

  module _ (number : ℕ) (end_is : end ≡ Error number) (tied : RepresentsProcesses processes m) where
    pub refused-quietly : (files : Files) → RepresentsFiles state views files → (step : FileStep) → deed_of step files ≡
        leaves_so (refuses_so number files) → EndsQuietly step m files p end processes left views
    refused-quietly files stands step is = record {
      effect = refuses_so number files;
      is = is;
      comes = (end_is, tied);
      stands = stands-after files stands;
    }

    module _ (was : Files) (now : TimePacket) (terms : List TerminalState) (most : ℕ) (step : FileStep) where
      pub refused-ends : (files : Files) (before : List DriveView) → RepresentsFiles state views files
          → FileDoes step (asker_of m p now) was (refuses_so number files) terms terms
          → CalledAtMost (calls_of step most) before views → KeepsDrives step (asker_of m p now) was (Error number)
          before views → EndsFileAttempt step most m was now p end processes left before views terms
      refused-ends files before stands does calls drives = record {
        effect = refuses_so number files;
        does = does;
        comes = (end_is, tied);
        stands = inl (stands-after files stands);
        calls = calls;
        drives = subst (λ (end : CallEnd). KeepsDrives step (asker_of m p now) was end before views) (sym end_is) drives;
      }

      -- at once: no drive was called
      pub refused-at_once : step ≡ refused number → RepresentsFiles state views was → EndsFileAttempt step most m was now p end processes left views views terms
      refused-at_once is stands =
          refused-ends was views stands
          (goes-well step (asker_of m p now) was (refuses_so number was) was.drives terms (ap (λ (step : FileStep). deed_of step was) is) refl)
          (subst (λ (step : FileStep). CalledAtMost (calls_of step most) views views) (sym is) (called-none views))
          (keeps-same step (asker_of m p now) was (Error number) views (error-keeps (deed_of step was) number))

      -- when its drive was read
      pub read-ends : (fault : Option ℕ) (drive : ℕ) (before : List DriveView) → drive_of step ≡ Some drive
          → HasReadIn most fault drive was state before views → FileDoes step (asker_of m p now) was
          (refuses_so number (with_drives was (drive_states views))) terms terms → EndsFileAttempt step most m was now p end
          processes left before views terms
      read-ends fault drive before at it does =
          refused-ends (with_drives was (drive_states views)) before it.read.stands does
          (subst (λ (n : ℕ). CalledAtMost n before views) (sym (calls-reached step drive most at)) it.calls)
          (keeps-read step (asker_of m p now) was (Error number) drive before views (inl at) (error-keeps (deed_of step was) number) fault state it.read)

  -- ---- it is done

  pub done-quietly : (regs : Regs) (files : Files) (step : FileStep) (before : Files) → end ≡ Done
      → RepresentsProcesses processes (with_regs_of m p regs) → RepresentsFiles state views files → deed_of step before ≡ leaves_so
      (leaves (answers regs) files) → EndsQuietly step m before p end processes left views
  done-quietly regs files step before end_is tied stands is = record {
    effect = leaves (answers regs) files;
    is = is;
    comes = (end_is, tied);
    stands = stands-after files stands;
  }

-- ---- the rest of it ended so

module _ (m : Processes) (was : Files) (now : TimePacket) (p : ℕ) (end : CallEnd) (processes : ProcState) (new : FileState) (before views : List DriveView) (terms : List TerminalState) where
  -- a step that is the same where no drive failed
  pub late-ends : (most : ℕ) (step later : FileStep) (files : Files) (drive : ℕ) (mid : FileState)
      → ((effect : FileEffect) → deed_of later files ≡ leaves_so effect → (it : FileEffect) ×
      (deed_of step was ≡ leaves_so it) × (effect ≡ with_drives_after it (drive_states views))) → drive_of step ≡ Some
      drive → HasReadIn most None drive was mid before views → EndsQuietly later m files p end processes new views
      → EndsFileAttempt step most m was now p end processes new before views terms
  late-ends most step later files drive mid late at read it =
      let same : (effect : FileEffect) × (deed_of step was ≡ leaves_so effect) × (it.effect ≡ with_drives_after effect (drive_states views)) = late it.effect it.is in
      record {
        effect = it.effect;
        does = subst (λ (effect : FileEffect). FileDoes step (asker_of m p now) was effect terms terms) (sym same.2)
            (goes-well step (asker_of m p now) was same.0 (drive_states views) terms same.1 read.read.moved);
        comes = it.comes;
        stands = inl it.stands;
        calls = subst (λ (n : ℕ). CalledAtMost n before views) (sym (calls-reached step drive most at)) read.calls;
        drives = keeps-read step (asker_of m p now) was end drive before views (inl at) (subst (λ (deed : Deed). MayKeepAll deed end) (sym same.1) tt) None mid read.read;
      }

  abbrev EndsBy : FileStep → ℕ → Type 0
  EndsBy step most = EndsFileAttempt step most m was now p end processes new before views terms

  -- the same step, and as many calls
  pub ends-as : (step other : FileStep) (few most : ℕ) → step ≡ other → few ≡ most → EndsBy step few → EndsBy other most
  ends-as step other few most same as_many it =
      subst (λ (step : FileStep). EndsBy step most) same (subst (λ (n : ℕ). EndsBy step n) as_many it)

-- the attempt is that step
pub attempts-by : (most : ℕ) (call : PathCall) (m : Processes) (was : Files) (now : TimePacket) (p : ℕ) (end : CallEnd)
    (terms : List TerminalState) (before after : MachineOnDrives) (step : FileStep) (few : ℕ)
    → file_step call (asker_of m p now) was (length terms) ≡ step → few ≡ most → EndsFileAttempt step few m was now p end
    after.processes after.files before.views after.views terms → AttemptsIn most call m was now p end terms terms
    before after
attempts-by most call m was now p end terms before after step few is as_many it =
    ends-attempt most call m was now p end terms before after
    (ends-as m was now p end after.processes after.files before.views after.views terms step (file_step call (asker_of m p now) was (length terms)) few most (sym is) as_many it)
