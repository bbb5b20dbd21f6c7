-- What the kernel's state stands for when a call on a file ends, and what the attempt came to.
use Rattle.std.proofs.Common.{◌≡◌, ℕ, ◌∙◌, Bool, true, false, Option, Some, None, List, [], Result, Ok, Err, refl, ap, sym, subst, ◌⊎◌, inl, inr, arith}
use Rattle.os9_base.specs.declared.call.CallEnd.{CallEnd}
use Rattle.os9_base.specs.declared.registers.Regs.{Regs}
use Rattle.os9_base.specs.declared.registers.TimePacket.{TimePacket}
use Rattle.os9_outer.specs.TerminalState.{TerminalState}
use Rattle.proc_model.specs.Processes.{Processes, with_memory, with_regs_of}
use Rattle.proc_model.specs.MemoryChanges.{stored}
use Rattle.io_model.specs.Attempts.{result_of}
use Rattle.io_model.specs.Io.{Io, with_call}
use Rattle.io_model.specs.Step.{IoEnd, answers, fails}
use Rattle.proc_state.specs.Tie.{ReturnsCallEnd, RepresentsProcesses}
use Rattle.proc_state.specs.declared.state.ProcState.{ProcState}
use Rattle.rbf_model.specs.File.{DiskFile}
use Rattle.rbf_model.specs.Volume.{DiskVolume}
use Rattle.rbf_access.specs.declared.faults.FileFault.TheVariants.{Device}
use Rattle.rbf_access.specs.declared.volume.Volume.{Volume}
use Rattle.rbf_walk.specs.declared.error.DirError.{DirError}
use Rattle.rbf_walk.specs.declared.error.DirError.TheVariants.{File}
use Rattle.file_rules.specs.Attempts.{asker_of, files_kept, io_effect}
use Rattle.file_rules.specs.Change.{Change}
use Rattle.file_rules.specs.Files.{Asker, DriveState, Files, KeepsDriveFaults, volume_at, with_drives, with_io, with_volume}
use Rattle.file_rules.specs.Step.{FileEffect, FileStep, MayBeLeft, VolumeChange, reaches, comes, changes, leaves_so, leaves, stores, refuses, refuses_so, deed_of, with_drives_after, with_volume_after}
use Rattle.file_drives.specs.Changed.{Asked, IsRefusedChange, is_refused}
use Rattle.file_drives.specs.Drives.{DriveView, drive_states}
use Rattle.file_state.proofs.CountLemmas.{called-more, called-none}
use Rattle.file_state.proofs.EndLemmas.{asked_of, breaks, breaks-nothing, goes-well, is-made}
use Rattle.file_state.proofs.KeepLemmas.{MayKeepAll, error-keeps, keeps-broken, keeps-made, keeps-read, keeps-refused, keeps-same}
use Rattle.file_state.proofs.ReachedLemmas.{same-volume, HasChanged}
use Rattle.file_state.specs.Counted.{CalledAtMost, calls_of}
use Rattle.file_state.specs.Ends.{EndsFileAttempt}
use Rattle.file_state.specs.Media.{KeepsDrives, file_changed}
use Rattle.file_state.specs.Reached.{HasReadDrive}
use Rattle.file_state.specs.Tie.{RepresentsFiles}
use Rattle.file_state.specs.declared.state.FileState.{FileState}
use Rattle.file_status.specs.Status.{uncalled}

-- ---- what the state stands for

-- nothing is kept of a call
pub stands-uncalled : (state : FileState) (views : List DriveView) (files : Files) (p : ℕ) → RepresentsFiles state views
    files → RepresentsFiles (uncalled state p) views (with_io files (with_call files.io p None))
stands-uncalled state views files p stands = record {
  io = ap (λ io. with_call io p None) stands.io;
  directories = stands.directories;
  records = stands.records;
  drives = stands.drives;
  mounted = stands.mounted;
}

-- nothing is kept of it in input and output
pub uncalled-by : (state : FileState) (p : ℕ) {io : Io} → io ≡ with_call state.io p None → let new : FileState = record state { io = io } in new ≡ uncalled state p
uncalled-by state p is = ap (λ (io : Io). let new : FileState = record state { io = io } in new) is

-- what is kept of the volumes has changed
abbrev pub with_disks : FileState → List (Option Volume) → FileState
with_disks state disks = record state { disks = disks }

-- ---- no drive was reached

module _ (step : FileStep) (most : ℕ) (m : Processes) (files : Files) (now : TimePacket) (p : ℕ) (end : CallEnd)
    (processes : ProcState) (state new : FileState) (views : List DriveView) (terms : List TerminalState) where
  -- it ends so, and stores these bytes
  ends-leaving : (by : IoEnd) (at : ℕ) (bytes : List ℕ) → let it : FileEffect = record {
    end = by;
    at = at;
    bytes =
        bytes;
    files = files;
  } in deed_of step files ≡ leaves_so it → ReturnsCallEnd m p (result_of m p (io_effect it)) end
      processes → RepresentsFiles new views (files_kept p it) → EndsFileAttempt step most m files now p end processes new views views
      terms
  ends-leaving by at bytes deed came stands =
      let it : FileEffect = record { end = by; at = at; bytes = bytes; files = files } in
      record {
        effect = it;
        does = goes-well step (asker_of m p now) files it files.drives terms deed refl;
        comes = came;
        stands = inl stands;
        calls = called-more 0 (calls_of step most) views views (omega arith) (called-none views);
        drives = keeps-same step (asker_of m p now) files end views (subst (λ d. MayKeepAll d end) (sym deed) tt);
      }

  left-so : RepresentsFiles state views files → new ≡ uncalled state p → RepresentsFiles new views (with_io files (with_call files.io p None))
  left-so stands new_is = subst (λ s. RepresentsFiles s views (with_io files (with_call files.io p None))) (sym new_is) (stands-uncalled state views files p stands)

  -- it is refused
  pub ends-refused : (number : ℕ) → deed_of step files ≡ leaves_so (refuses_so number files) → end ≡ CallEnd.Error
      number → RepresentsProcesses processes m → RepresentsFiles state views files → new ≡ uncalled state p → EndsFileAttempt step most m files
      now p end processes new views views terms
  ends-refused number deed is tied stands new_is = ends-leaving (fails number) 0 [] deed (is, tied) (left-so stands new_is)

  -- it is done, these bytes were stored, and the process has these registers
  pub ends-storing : (at : ℕ) (bytes : List ℕ) (regs : Regs) → deed_of step files ≡ leaves_so
      (stores at bytes regs files) → end ≡ CallEnd.Done → RepresentsProcesses processes
      (with_regs_of (with_memory m (stored m.memory p at bytes)) p regs) → RepresentsFiles state views files
      → new ≡ uncalled state p → EndsFileAttempt step most m files now p end processes new views views terms
  ends-storing at bytes regs deed is tied stands new_is = ends-leaving (answers regs) at bytes deed (is, tied) (left-so stands new_is)

  -- it is done, and the process has these registers
  pub ends-done : (regs : Regs) → deed_of step files ≡ leaves_so (leaves (answers regs) files) → end ≡ CallEnd.Done
      → RepresentsProcesses processes (with_regs_of m p regs) → RepresentsFiles state views files → new ≡ uncalled state p
      → EndsFileAttempt step most m files now p end processes new views views terms
  ends-done regs deed is tied stands new_is = ends-storing 0 [] regs deed is tied stands new_is

-- ---- the file's drive was reached

module _ (most : ℕ) (m : Processes) (files : Files) (now : TimePacket) (p : ℕ) (end : CallEnd) (processes : ProcState)
    (mid new : FileState) (before after : List DriveView) (terms : List TerminalState) (drive : ℕ) (v : DiskVolume)
    (is : volume_at files drive ≡ Some v) (new_is : new ≡ uncalled mid p) (called : CalledAtMost most before after)
  where
    abbrev asker : Asker
    asker = asker_of m p now

    abbrev drives : List DriveState
    drives = drive_states after

    left-uncalled : (left : Files) → RepresentsFiles mid after left → RepresentsFiles new after (with_io left (with_call left.io p None))
    left-uncalled left stands = subst (λ s. RepresentsFiles s after (with_io left (with_call left.io p None))) (sym new_is) (stands-uncalled mid after left p stands)

    -- with the volume as it was
    left-same : (left : DiskVolume) → left ≡ v → RepresentsFiles mid after (with_drives (with_volume files drive left) drives)
        → RepresentsFiles new after (with_io (with_drives files drives) (with_call files.io p None))
    left-same left same stands =
        left-uncalled (with_drives files drives)
        (subst (λ (f : Files). RepresentsFiles mid after (with_drives f drives)) (ap (λ (w : DiskVolume). with_volume files drive w) same ∙ same-volume files drive v is) stands)

    -- ---- it was only read

    keeps-reading : (inner : FileStep) (it : FileEffect) (fault : Option ℕ) → deed_of inner files ≡ leaves_so it
        → HasReadDrive fault drive files mid before after → KeepsDrives (reaches drive inner) asker files end before after
    keeps-reading inner it fault deed read =
        keeps-read (reaches drive inner) asker files end drive before after (inl refl) (subst (λ d. MayKeepAll d end) (sym deed) tt) fault mid read

    -- what is done there stores bytes and answers registers
    pub reached-answers : (inner : FileStep) (at : ℕ) (bytes : List ℕ) (regs : Regs) → deed_of inner files ≡ leaves_so
        (stores at bytes regs files) → HasReadDrive None drive files mid before after → end ≡ CallEnd.Done
        → RepresentsProcesses processes (with_regs_of (with_memory m (stored m.memory p at bytes)) p regs)
        → EndsFileAttempt (reaches drive inner) most m files now p end processes new before after terms
    reached-answers inner at bytes regs deed read is_end tied = record {
      effect = with_drives_after (stores at bytes regs files) drives;
      does = goes-well (reaches drive inner) asker files (stores at bytes regs files) drives terms deed read.moved;
      comes = (is_end, tied);
      stands = inl (left-uncalled (with_drives files drives) read.stands);
      calls = called;
      drives = keeps-reading inner (stores at bytes regs files) None deed read;
    }

    -- it refuses
    pub reached-refuses : (inner : FileStep) (number : ℕ) → deed_of inner files ≡ leaves_so (refuses_so number files)
        → HasReadDrive None drive files mid before after → end ≡ CallEnd.Error number → RepresentsProcesses processes m
        → EndsFileAttempt (reaches drive inner) most m files now p end processes new before after terms
    reached-refuses inner number deed read is_end tied = record {
      effect = with_drives_after (refuses_so number files) drives;
      does = goes-well (reaches drive inner) asker files (refuses_so number files) drives terms deed read.moved;
      comes = (is_end, tied);
      stands = inl (left-uncalled (with_drives files drives) read.stands);
      calls = called;
      drives = keeps-reading inner (refuses_so number files) None deed read;
    }

    -- the drive failed
    pub reached-fails-reading : (inner : FileStep) (it : FileEffect) (number : ℕ) → deed_of inner files ≡ leaves_so it
        → HasReadDrive (Some number) drive files mid before after → end ≡ CallEnd.Error number → RepresentsProcesses processes m
        → EndsFileAttempt (reaches drive inner) most m files now p end processes new before after terms
    reached-fails-reading inner it number deed read is_end tied = record {
      effect = refuses_so number (with_drives (with_volume files drive v) drives);
      does = breaks-nothing (reaches drive inner) asker files it drive number v drives terms refl deed is read.moved;
      comes = (is_end, tied);
      stands =
          inl (subst (λ (f : Files). RepresentsFiles new after (with_io (with_drives f drives) (with_call f.io p None))) (sym (same-volume files drive v is))
          (left-uncalled (with_drives files drives) read.stands));
      calls = called;
      drives = keeps-reading inner it (Some number) deed read;
    }

    -- ---- a change that a test may refuse

    module _ (change : Change) (file : DiskFile) (there : v.files (file_changed change) ≡ Some file) (regs : Regs) (test : Bool) (number : ℕ) where
      abbrev deed : VolumeChange
      deed = record { drive = drive; change = change; effect = λ n. leaves (answers regs) files }

      abbrev asked : Asked
      asked = asked_of deed asker

      abbrev change_step : Bool → FileStep
      change_step refusal = refuses refusal number (comes (changes deed))

      abbrev step : FileStep
      step = reaches drive (change_step test)

      abbrev Changed : Result ℕ DirError → Type 0
      Changed answer = HasChanged asked answer drive v file files mid before after

      goes-on : test ≡ false → deed_of step files ≡ changes deed
      goes-on allowed = ap (λ t. deed_of (change_step t) files) allowed

      keeps-as : (made : CallEnd) → end ≡ made → KeepsDrives step asker files made before after → KeepsDrives step asker files end before after
      keeps-as made is_end keeps = subst (λ e. KeepsDrives step asker files e before after) (sym is_end) keeps

      -- it was refused, or was to be when the drive failed
      keeps-all : (answer : Result ℕ DirError) (error : ℕ) → Changed answer → IsRefusedChange answer ⊎
          (is_refused asked v file ≡ true) → end ≡ CallEnd.Error error → KeepsDrives step asker files end before after
      keeps-all answer error it quiet is_end =
          keeps-as (CallEnd.Error error) is_end
          (keeps-refused step asker files (CallEnd.Error error) drive before after (inl refl) (error-keeps (deed_of step files) error) asked answer v file mid it quiet)

      -- it was made
      pub change-made : (n : ℕ) → test ≡ false → Changed (Ok n) → end ≡ CallEnd.Done → RepresentsProcesses processes
          (with_regs_of m p regs) → EndsFileAttempt step most m files now p end processes new before after terms
      change-made n allowed it is_end tied = record {
        effect = with_drives_after (with_volume_after (leaves (answers regs) files) drive it.left) drives;
        does = is-made step asker files deed v it.left file n drives terms (goes-on allowed) is it.answers it.moved;
        comes = (is_end, tied);
        stands = inl (left-uncalled (with_drives (with_volume files drive it.left) drives) it.stands);
        calls = called;
        drives = keeps-as CallEnd.Done is_end (keeps-made step asker files deed v file mid before after refl (goes-on allowed) is there n it);
      }

      -- the test refused it
      pub change-refused : (answer : Result ℕ DirError) → test ≡ true → (it : Changed answer) → IsRefusedChange answer
          → it.left ≡ v → KeepsDriveFaults files.drives drives → end ≡ CallEnd.Error number → RepresentsProcesses processes m
          → EndsFileAttempt step most m files now p end processes new before after terms
      change-refused answer forbidden it refused same none is_end tied = record {
        effect = with_drives_after (refuses_so number files) drives;
        does = goes-well step asker files (refuses_so number files) drives terms (ap (λ t. deed_of (change_step t) files) forbidden) none;
        comes = (is_end, tied);
        stands = inl (left-same it.left same it.stands);
        calls = called;
        drives = keeps-all answer number it (inl refused) is_end;
      }

      -- the drive failed in it
      pub change-broken : (fault : ℕ) → files.drives ≡ drive_states before
          → (test ≡ true → is_refused asked v file ≡ true) → Changed (Err (File (Device fault))) → end ≡ CallEnd.Error
          fault → RepresentsProcesses processes m → EndsFileAttempt step most m files now p end processes new before after terms
      change-broken fault drives_are refusal it is_end tied = record {
        effect = refuses_so fault (with_drives (with_volume files drive it.left) drives);
        does = breaks step asker files drive fault v it.left drives terms refl is (may_be test refusal) it.moved;
        comes = (is_end, tied);
        stands = inl (left-uncalled (with_drives (with_volume files drive it.left) drives) it.stands);
        calls = called;
        drives = keeps test refl;
      }
        where
          may_be : (t : Bool) → (t ≡ true → is_refused asked v file ≡ true) → MayBeLeft (deed_of (change_step t) files) asker v it.left
          may_be true refusal = it.answers.refused (refusal refl)
          may_be false refusal = it.answers.may_be

          keeps : (t : Bool) → test ≡ t → KeepsDrives step asker files end before after
          keeps true e = keeps-all (Err (File (Device fault))) fault it (inr (refusal e)) is_end
          keeps false e =
              keeps-as (CallEnd.Error fault) is_end (keeps-broken step asker files deed v file mid before after refl (goes-on e) is there fault drives_are it)
