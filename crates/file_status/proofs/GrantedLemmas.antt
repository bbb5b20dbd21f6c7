-- The size of an open file is set under a lock that was granted, by what its drive answered.
use Rattle.std.proofs.Common.{◌≡◌, ℕ, Option, List, Result, Ok, Err, refl, sym, subst}
use Rattle.os9_base.specs.declared.call.CallEnd.{CallEnd}
use Rattle.os9_base.specs.declared.registers.TimePacket.{TimePacket}
use Rattle.os9_outer.specs.TerminalState.{TerminalState}
use Rattle.proc_model.specs.Processes.{Processes, regs_at, user_at}
use Rattle.lock_model.specs.declared.lock.Held.{Held}
use Rattle.proc_state.specs.Tie.{RepresentsProcesses}
use Rattle.proc_state.specs.declared.state.ProcState.{ProcState}
use Rattle.rbf_access.specs.Faults.{file_error}
use Rattle.rbf_access.specs.declared.faults.FileFault.{FileFault}
use Rattle.rbf_access.specs.declared.volume.Volume.{Volume}
use Rattle.rbf_write.specs.Sizes.{Sizing}
use Rattle.file_drives.specs.Calls.{sizing_calls as drive_calls}
use Rattle.file_drives.specs.Changed.{Asked, ChangesVolume, file_answer}
use Rattle.file_drives.specs.Drives.{DriveView}
use Rattle.file_rules.specs.Attempts.{asker_of}
use Rattle.file_rules.specs.Change.{sizes}
use Rattle.file_rules.specs.Files.{Asker, Files, OpenFile}
use Rattle.file_rules.specs.Seek.{long_of}
use Rattle.file_state.proofs.CountLemmas.{has-changed-in, HasChangedIn}
use Rattle.file_state.proofs.RequestLemmas.{stands-restored}
use Rattle.file_state.specs.Attempt.{unrequested}
use Rattle.file_state.specs.Ends.{EndsOrLacks}
use Rattle.file_state.specs.Tie.{RepresentsFiles}
use Rattle.file_state.specs.declared.state.FileState.{FileState}
use Rattle.file_state.specs.declared.state.OpenFile.{OpenFile as KernelFile}
use Rattle.file_status.proofs.RequestingLemmas.{found-same}
use Rattle.file_status.proofs.SizingLemmas.{found_on, size-broken, size-made}
use Rattle.file_status.proofs.StandLemmas.{with_disks}
use Rattle.file_status.specs.Status.{EndsSized, RepresentsOpenFile, granted_size_calls, sizes_granted, uncalled}

module _ (old : ℕ) (lock : Held) (m : Processes) (was : Files) (now : TimePacket) (p : ℕ) (end : CallEnd)
    (processes : ProcState) (state new : FileState) (before after : List DriveView) (terms : List TerminalState)
    (disks : List (Option Volume)) (opened : KernelFile) (it : OpenFile)
    (stands : RepresentsFiles state before (unrequested p was)) (open_is : RepresentsOpenFile was opened it) (size : ℕ)
    (size_is : size ≡ long_of (regs_at m p)) where
  abbrev asker : Asker
  asker = asker_of m p now

  abbrev mid : FileState
  mid = with_disks state disks

  abbrev asked : ℕ → Asked
  asked size = record { change = sizes opened.place.number size; user = user_at m p; now = now }

  abbrev sizing : ℕ → Sizing
  sizing size = record { number = opened.place.number; size = size; now = now }

  abbrev Changes : ℕ → Result (Unit {0}) FileFault → Type 0
  Changes size result =
      ChangesVolume opened.place (asked size) (file_answer result) (drive_calls (sizing size) result) state.disks before disks after

  changed : (result : Result (Unit {0}) FileFault) → Changes size result
      → HasChangedIn (drive_calls (sizing (long_of (regs_at m p))) result it.volume it.file)
      (asked (long_of (regs_at m p))) (file_answer result) opened.place.drive it.volume it.file was
      (record mid { records = was.records }) before after
  changed result change =
      has-changed-in (record state { records = was.records }) (record mid { records = was.records }) before after was
      opened.place it.volume it.file (asked (long_of (regs_at m p))) (file_answer result)
      (drive_calls (sizing (long_of (regs_at m p))) result) (stands-restored p state before was stands)
      open_is.volume_is open_is.file_is refl refl refl (subst (λ (size : ℕ). Changes size result) size_is change)

  abbrev Sized : OpenFile → Type 0
  Sized o =
      EndsOrLacks (sizes_granted old lock asker was o) (granted_size_calls asker o) m was now p end processes new before after terms

  found-is : found_on opened it.volume it.file ≡ it
  found-is = found-same opened it open_is.path_is open_is.desc_is open_is.place_is

  -- it was set
  pub size-given : Changes size (Ok tt) → EndsSized old lock (regs_at m p) opened m p mid end processes new → Sized it
  size-given change ends =
      subst Sized found-is
      (size-made old lock m was it.volume it.file now p opened end processes mid new before after terms
      open_is.volume_is open_is.file_is stands.drives (sym stands.records) (changed (Ok tt) change) ends)

  -- it was not
  pub size-not-given : (fault : FileFault) → Changes size (Err fault) → end ≡ CallEnd.Error (file_error fault)
      → RepresentsProcesses processes m → new ≡ uncalled mid p → Sized it
  size-not-given fault change end_is tied new_is =
      subst Sized found-is
      (size-broken old lock m was it.volume it.file now p opened end processes mid new before after terms
      open_is.volume_is open_is.file_is stands.drives (sym stands.records) fault (changed (Err fault) change) end_is
      tied new_is)
