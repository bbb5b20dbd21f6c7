-- What a write to the file of a path comes to, by what was answered to it.
use Rattle.std.proofs.Common.{◌≡◌, ◌∙◌, ℕ, ◌+◌, ◌<◌, ◌^◌, nat_lt, not, ◌||◌, Bool, true, false, Option, Some, None, IsOk, Result, Ok, Err, List, [], ◌∷◌, length, slice_set, ◌⊎◌, inl, inr, sym, ap, refl, subst, arith, eq-eqb}
use Rattle.std.specs.Prelude.{if◌then◌else◌}
use Rattle.std.proofs.lemmas.Bool.{false≢true}
use Rattle.std.proofs.lemmas.List.{get_or-set_same}
use Rattle.os9_base.specs.declared.call.CallEnd.{CallEnd}
use Rattle.os9_base.specs.declared.errors.TheConstants.{E_FULL, E_SLF}
use Rattle.os9_base.specs.declared.registers.Regs.{Regs}
use Rattle.os9_base.specs.declared.registers.TimePacket.{TimePacket}
use Rattle.os9_outer.specs.TerminalState.{TerminalState}
use Rattle.proc_model.specs.Processes.{Processes, user_at}
use Rattle.io_model.specs.Io.{Io, with_call}
use Rattle.io_model.specs.Step.{answers}
use Rattle.lock_model.specs.History.{put}
use Rattle.lock_model.specs.Records.{Records, with_waiting, written_by}
use Rattle.lock_model.specs.declared.lock.Held.{Held}
use Rattle.proc_state.specs.declared.state.ProcState.{ProcState}
use Rattle.rbf_access.specs.declared.faults.FileFault.{FileFault}
use Rattle.rbf_access.specs.declared.faults.FileFault.TheVariants.{Device, NoCluster, TooManyRuns}
use Rattle.rbf_access.specs.declared.volume.Volume.{Volume}
use Rattle.rbf_change.specs.Calls.{Changes, WritesFileAt, cluster_size, free_total}
use Rattle.rbf_change.specs.Contents.{written}
use Rattle.rbf_change.specs.Growth.{clusters_needed}
use Rattle.rbf_model.specs.File.{DiskFile}
use Rattle.rbf_model.specs.Volume.{DiskVolume}
use Rattle.rbf_model.specs.Writes.{put_file}
use Rattle.file_drives.proofs.MountedLemmas.{mounted-below}
use Rattle.file_drives.specs.Calls.{writing_calls}
use Rattle.file_drives.specs.Changed.{ChangesVolume, IsRefusedChange as IsNotMade, LeavesVolume, file_answer, is_refused}
use Rattle.file_drives.specs.Drives.{DriveView, drive_states}
use Rattle.file_drives.specs.Mounted.{AreMounted, mounted_at}
use Rattle.file_rules.specs.Attempts.{asker_of}
use Rattle.file_rules.specs.Change.{writes}
use Rattle.file_rules.specs.Files.{Asker, DriveState, Files, volume_at, with_drives, with_io, with_records, with_volume}
use Rattle.file_rules.specs.Files as rules
use Rattle.file_rules.specs.Step.{FileEffect, FileStep, MayBeLeft, VolumeChange, changes, comes, deed_of, leaves, reaches, refuses, refuses_so, with_drives_after, with_volume_after}
use Rattle.file_rules.specs.Write.{writes_bytes}
use Rattle.file_state.proofs.CountLemmas.{called-more, has-changed-in, HasChangedIn}
use Rattle.file_state.proofs.EndLemmas.{asked_of, breaks, goes-well, is-made, is-too-long}
use Rattle.file_state.proofs.KeepLemmas.{error-keeps, keeps-broken, keeps-made, keeps-refused, keeps-unentered}
use Rattle.file_state.proofs.ReachedLemmas.{same-volume}
use Rattle.file_state.proofs.RequestLemmas.{forgotten-again, lacks-none, stands-beside, stands-restored}
use Rattle.file_state.specs.Attempt.{unrequested, without_request}
use Rattle.file_state.specs.Counted.{CalledAtMost}
use Rattle.file_state.specs.Ends.{EndsFileAttempt, EndsOrLacks}
use Rattle.file_state.specs.Media.{KeepsDrives}
use Rattle.file_state.specs.Tie.{RepresentsFiles}
use Rattle.file_state.specs.declared.state.FileState.{FileState}
use Rattle.file_state.specs.declared.state.OpenFile.{OpenFile}
use Rattle.file_io.proofs.OpenedLemmas.{mounted-low}
use Rattle.file_io.proofs.SizeLemmas.{end-within}
use Rattle.file_io.proofs.CountLemmas.{writing-few}
use Rattle.file_io.proofs.TryingLemmas.{deed-goes, deed-refused}
use Rattle.file_io.specs.Calls.{granted_write_calls}
use Rattle.file_io.specs.Ending.{EndsWrite, IsCallRefused}
use Rattle.file_io.specs.Opened.{found_on, moved_to}
use Rattle.file_io.specs.Writing.{after_writing, write_file, write_granted}

-- ---- the end of what was written

-- the file that was changed, where it is
changed-there : (change : DiskFile → DiskFile → Type 0) (v w : DiskVolume) (n : ℕ) (it : Changes change v w n) → w.files n ≡ Some it.new
changed-there change v w n it = ap (λ (u : DiskVolume). u.files n) it.volume ∙ put-there v.files n (Some it.new)
  where
    put-there : (files : ℕ → Option DiskFile) (n : ℕ) (file : Option DiskFile) → put_file files n file n ≡ file
    put-there files n file = ap (λ t. if t then file else files n) (eq-eqb n n refl)

-- 32 bits count it
written-low : (v w : DiskVolume) (n at : ℕ) (bytes : List ℕ) (now : TimePacket) (it : WritesFileAt v w n at bytes now) → at < 2 ^ 32 → length it.new.contents < 2 ^ 32 → at + length bytes < 2 ^ 32
written-low v w n at [] now it low size = omega arith
written-low v w n at (byte ∷ bytes) now it low size =
    let contents : it.new.contents ≡ written it.old.contents at (byte ∷ bytes) = ap (λ (f : DiskFile). f.contents) it.changed.file in
    omega (arith, end-within it.old.contents (byte ∷ bytes) at (omega arith), ap (λ (b : List ℕ). length b) contents)

pub write-fits : (number at : ℕ) (bytes : List ℕ) (user : ℕ) (now : TimePacket) (result : Result (Unit {0}) FileFault)
    (most : DiskVolume → ℕ) (v : DiskVolume) (file : DiskFile) (drive : ℕ) (volumes : List (Option DiskVolume))
    (before : List DriveView) (new : List (Option Volume)) (after : List DriveView) → mounted_at volumes drive ≡ Some
    v → LeavesVolume (record { change = writes number at bytes; user = user; now = now }) (file_answer result) most v
    file drive volumes before new after → at < 2 ^ 32 → IsOk result → at + length bytes < 2 ^ 32
write-fits number at bytes user now (Ok done) most v file drive volumes before new after is it low ok =
    let there = get_or-set_same volumes drive (Some it.left) None (mounted-below volumes drive v is) in
    let makes : WritesFileAt v it.left number at bytes now = it.answers.makes in
    written-low v it.left number at bytes now makes low
    (mounted-low new after (slice_set volumes drive (Some it.left)) drive it.left number makes.new it.mounted there (changed-there _ v it.left number makes))
write-fits number at bytes user now (Err fault) most v file drive volumes before new after is it low ok = absurd (false≢true ok)

-- a change of the volume, where the bytes are these
pub changed-same : (number at : ℕ) (one other : List ℕ) (user : ℕ) (now : TimePacket) (result : Result (Unit {0})
    FileFault) (v : DiskVolume) (file : DiskFile) (drive : ℕ) (files : Files) (mid : FileState)
    (before after : List DriveView) → one ≡ other → HasChangedIn (writing_calls number at (length one) result v file)
    (record { change = writes number at one; user = user; now = now }) (file_answer result) drive v file files mid
    before after → HasChangedIn (writing_calls number at (length other) result v file)
    (record { change = writes number at other; user = user; now = now }) (file_answer result) drive v file files mid
    before after
changed-same number at one other user now result v file drive files mid before after same changed =
    subst (λ (bytes : List ℕ). HasChangedIn (writing_calls number at (length bytes) result v file)
    (record { change = writes number at bytes; user = user; now = now }) (file_answer result) drive v file files
    mid before after) same changed

-- ---- what it comes to

module _ (lock : Held) (m : Processes) (files : Files) (v : DiskVolume) (file : DiskFile) (now : TimePacket) (p : ℕ)
    (opened : OpenFile) (bytes : List ℕ) (regs : Regs) (end : CallEnd) (processes : ProcState) (mid new : FileState)
    (before after : List DriveView) (terms : List TerminalState) (is : volume_at files opened.place.drive ≡ Some v)
    (there : v.files opened.place.number ≡ Some file) (drives_are : files.drives ≡ drive_states before)
    (quiet : mid.records ≡ with_waiting files.records p None) (count : ℕ) (long : length bytes ≡ count) where
  abbrev asker : Asker
  asker = asker_of m p now

  abbrev found : rules.OpenFile
  found = found_on opened v file

  abbrev drive : ℕ
  drive = opened.place.drive

  abbrev at : ℕ
  at = lock.range.start

  abbrev drives : List DriveState
  drives = drive_states after

  -- the files as they are once the drive was written, with the records of the machine
  abbrev written_state : FileState
  written_state = record mid { records = files.records }

  -- what is left beside the volume
  abbrev beside : FileEffect
  beside = leaves (answers regs) (after_writing lock bytes files found)

  abbrev change : VolumeChange
  change = record { drive = drive; change = writes opened.place.number at bytes; effect = λ n. leaves (answers regs) (after_writing lock bytes files found) }

  -- fewer clusters are free than it needs
  abbrev full : Bool
  full = nat_lt (free_total v) (clusters_needed (cluster_size v) file.segments (length (written file.contents at bytes)))

  abbrev behind : Bool → FileStep
  behind test = refuses test E_FULL (comes (changes change))

  abbrev step : FileStep
  step = reaches drive (behind full)

  abbrev Changed : Result (Unit {0}) FileFault → Type 0
  Changed result =
      HasChangedIn (writing_calls opened.place.number at (length bytes) result v file) (asked_of change asker) (file_answer result) drive v file files written_state before after

  abbrev Refused : ℕ → Type 0
  Refused number = IsCallRefused number m p mid.io end processes new.io × (new ≡ record mid { io = new.io })

  few : (result : Result (Unit {0}) FileFault) → Changed result → CalledAtMost (granted_write_calls lock count asker files found) before after
  few result it =
      subst (λ (n : ℕ). CalledAtMost (granted_write_calls lock n asker files found) before after) long
      (called-more (writing_calls opened.place.number at (length bytes) result v file it.changed.left)
      (granted_write_calls lock (length bytes) asker files found) before after (writing-few opened v file at
      (length bytes) opened.place.number result it.changed.left) it.calls)

  -- it is refused, and the volume is this
  refused-on : (number : ℕ) (left : DiskVolume) → RepresentsFiles written_state after
      (with_drives (with_volume files drive left) drives) → Refused number → RepresentsFiles (without_request p new) after
      (with_records (with_io (with_drives (with_volume files drive left) drives) (with_call files.io p None))
      (with_waiting files.records p None))
  refused-on number left stands (it, new_is) =
      let records_are : new.records ≡ mid.records = ap (λ (state : FileState). state.records) new_is in
      stands-beside p written_state after (with_drives (with_volume files drive left) drives) (with_call files.io p None) files.records new
      (new_is ∙ ap (λ (records : Records). record mid { io = new.io; records = records }) (sym records_are))
      (ap (λ (io : Io). with_call io p None) stands.io ∙ sym it.io_is)
      (sym (forgotten-again p files.records) ∙ ap (λ (records : Records). with_waiting records p None) (sym quiet ∙ sym records_are)) stands

  -- the volume is left as it was
  refused-as-before : (number : ℕ) (left : DiskVolume) → left ≡ v → RepresentsFiles written_state after
      (with_drives (with_volume files drive left) drives) → Refused number → RepresentsFiles (without_request p new) after
      (with_records (with_io (with_drives files drives) (with_call files.io p None)) (with_waiting files.records p
      None))
  refused-as-before number left same stands it =
      subst (λ (f : Files). RepresentsFiles (without_request p new) after
      (with_records (with_io (with_drives f drives) (with_call f.io p None)) (with_waiting f.records p None)))
      (ap (λ (w : DiskVolume). with_volume files drive w) same ∙ same-volume files drive v is)
      (refused-on number left stands it)

  -- it is made
  made-on : (done : Unit {0}) → Changed (Ok done) → new ≡ record mid {
    io = new.io;
    records = written_by mid.records
        opened.path.0 lock bytes;
  } → new.io ≡ with_call (moved_to mid.io opened (at + length bytes)) p None
      → (left : DiskVolume) → RepresentsFiles written_state after (with_drives (with_volume files drive left) drives)
      → RepresentsFiles (without_request p new) after
      (with_records (with_io (with_drives (with_volume files drive left) drives)
      (with_call (moved_to files.io opened (at + length bytes)) p None))
      (with_waiting (written_by files.records opened.path.0 lock bytes) p None))
  made-on done it new_is io_is left stands =
      let records_are : new.records ≡ written_by mid.records opened.path.0 lock bytes = ap (λ (state : FileState). state.records) new_is in
      stands-beside p written_state after (with_drives (with_volume files drive left) drives)
      (with_call (moved_to files.io opened (at + length bytes)) p None) (written_by files.records opened.path.0
      lock bytes) new
      (new_is ∙ ap (λ (records : Records). record mid { io = new.io; records = records }) (sym records_are))
      (ap (λ (io : Io). with_call (moved_to io opened (at + length bytes)) p None) stands.io ∙ sym io_is)
      (sym (forgotten-again p (written_by files.records opened.path.0 lock bytes))
      ∙ ap (λ (records : Records). with_waiting (written_by records opened.path.0 lock bytes) p None) (sym quiet)
      ∙ ap (λ (records : Records). with_waiting records p None) (sym records_are)) stands

  -- ---- what it leaves of the drives

  keeps-as : (made : CallEnd) → end ≡ made → KeepsDrives step asker files made before after → KeepsDrives step asker files end before after
  keeps-as made end_is keeps = subst (λ e. KeepsDrives step asker files e before after) (sym end_is) keeps

  -- it was refused, or was to be when the drive failed
  keeps-all : (number : ℕ) (result : Result (Unit {0}) FileFault) → Changed result → IsNotMade (file_answer result) ⊎
      (is_refused (asked_of change asker) v file ≡ true) → end ≡ CallEnd.Error number → KeepsDrives step asker files
      end before after
  keeps-all number result it quiet end_is =
      keeps-as (CallEnd.Error number) end_is
      (keeps-refused step asker files (CallEnd.Error number) drive before after (inl refl)
      (error-keeps (deed_of step files) number) (asked_of change asker) (file_answer result) v file written_state
      it.changed quiet)

  keeps-done : (done : Unit {0}) → Changed (Ok done) → end ≡ CallEnd.Done → full ≡ false → KeepsDrives step asker files end before after
  keeps-done done it end_is enough =
      keeps-as CallEnd.Done end_is (keeps-made step asker files change v file written_state before after refl (deed-goes files full E_FULL (changes change) enough) is there 0 it.changed)

  keeps-lacking : (done : Unit {0}) → Changed (Ok done) → end ≡ CallEnd.NoMemory → full ≡ false → KeepsDrives step asker files end before after
  keeps-lacking done it end_is enough =
      keeps-as CallEnd.NoMemory end_is (keeps-unentered step asker files change v file written_state before after refl (deed-goes files full E_FULL (changes change) enough) is there 0 it.changed)

  keeps-failed : (number : ℕ) → Changed (Err (Device number)) → end ≡ CallEnd.Error number → (test : Bool) → full ≡ test → KeepsDrives step asker files end before after
  keeps-failed number it end_is true e = keeps-all number (Err (Device number)) it (inr (ap (λ (t : Bool). not true || (t || false)) e)) end_is
  keeps-failed number it end_is false e =
      keeps-as (CallEnd.Error number) end_is (keeps-broken step asker files change v file written_state before after
      refl (deed-goes files full E_FULL (changes change) e) is there number drives_are it.changed)

  -- ---- its end

  abbrev Granted : Type 0
  Granted =
      EndsOrLacks step (granted_write_calls lock count asker files found) m files now p end processes new before after terms

  whole : EndsFileAttempt step (granted_write_calls lock count asker files found) m files now p end processes new before after terms → Granted
  whole it = lacks-none step (granted_write_calls lock count asker files found) m files now p end processes new before after terms it

  write-by : (result : Result (Unit {0}) FileFault) → Changed result → EndsWrite result lock bytes regs opened m p mid end processes new → Granted
  write-by (Ok done) it ends = record {
    ends = λ some.
        let its = ends.done some in record {
          effect = with_drives_after (with_volume_after beside drive it.changed.left) drives;
          does =
              is-made step asker files change v it.changed.left file 0 drives terms (deed-goes files full E_FULL (changes change) it.changed.answers.enough) is it.changed.answers it.changed.moved;
          comes = (its.end_is, its.tied);
          stands = inr (refl, made-on done it (ends.entered some) its.io_is it.changed.left it.changed.stands);
          calls = few (Ok done) it;
          drives = keeps-done done it its.end_is it.changed.answers.enough;
        };
    lacks = λ none. record {
      effect = with_drives_after (with_volume_after beside drive it.changed.left) drives;
      does =
          is-made step asker files change v it.changed.left file 0 drives terms (deed-goes files full E_FULL (changes change) it.changed.answers.enough) is it.changed.answers it.changed.moved;
      enters = record { entry = put opened.path.0 lock bytes; is = refl; no_end = λ same. cc };
      drives = refl;
      mounted =
          subst (λ (state : FileState). AreMounted state.disks after (with_volume files drive it.changed.left).volumes) (sym (ends.lacks none)) it.changed.stands.mounted;
      calls = few (Ok done) it;
      images = keeps-lacking done it none it.changed.answers.enough;
    };
  }
  write-by (Err (Device number)) it (ends, new_is) = whole (record {
    effect = refuses_so number (with_drives (with_volume files drive it.changed.left) drives);
    does = breaks step asker files drive number v it.changed.left drives terms refl is (may full refl) it.changed.moved;
    comes = (ends.end_is, ends.tied);
    stands = inr (refl, refused-on number it.changed.left it.changed.stands (ends, new_is));
    calls = few (Err (Device number)) it;
    drives = keeps-failed number it ends.end_is full refl;
  })
    where
      may : (test : Bool) → full ≡ test → MayBeLeft (deed_of (behind test) files) asker v it.changed.left
      may true e = it.changed.answers.refused (ap (λ (t : Bool). not true || (t || false)) e)
      may false e = it.changed.answers.may_be
  write-by (Err NoCluster) it (ends, new_is) = whole (record {
    effect = with_drives_after (refuses_so E_FULL files) drives;
    does = goes-well step asker files (refuses_so E_FULL files) drives terms (deed-refused files full E_FULL (comes (changes change)) it.changed.answers.few) it.changed.moved;
    comes = (ends.end_is, ends.tied);
    stands = inr (refl, refused-as-before E_FULL it.changed.left it.changed.answers.same it.changed.stands (ends, new_is));
    calls = few (Err NoCluster) it;
    drives = keeps-all E_FULL (Err NoCluster) it (inl tt) ends.end_is;
  })
  write-by (Err TooManyRuns) it (ends, new_is) = whole (record {
    effect = with_drives_after (refuses_so E_SLF files) drives;
    does =
        is-too-long step asker files change v it.changed.left file drives terms (deed-goes files full E_FULL (changes change) it.changed.answers.enough) is refl it.changed.answers it.changed.moved;
    comes = (ends.end_is, ends.tied);
    stands = inr (refl, refused-as-before E_SLF it.changed.left it.changed.answers.same it.changed.stands (ends, new_is));
    calls = few (Err TooManyRuns) it;
    drives = keeps-all E_SLF (Err TooManyRuns) it (inl tt) ends.end_is;
  })

  write-ends : (result : Result (Unit {0}) FileFault) → Changed result → EndsWrite result lock bytes regs opened m
      p mid end processes new → EndsOrLacks (write_granted lock bytes regs asker files found)
      (granted_write_calls lock count asker files found) m files now p end processes new before after terms
  unfolding write_granted
  write-ends result it ends = write-by result it ends

-- what was written is written as the step says
pub write-behind : (lock : Held) (m : Processes) (was : Files) (v : DiskVolume) (file : DiskFile) (now : TimePacket) (p : ℕ)
    (opened : OpenFile) (sent bytes : List ℕ) (regs : Regs) (end : CallEnd) (processes : ProcState) (old : FileState)
    (disks : List (Option Volume)) (new : FileState) (before after : List DriveView) (terms : List TerminalState)
    (count : ℕ) (result : Result (Unit {0}) FileFault) → sent ≡ bytes → length bytes ≡ count
    → RepresentsFiles old before (unrequested p was) → volume_at was opened.place.drive ≡ Some v
    → v.files opened.place.number ≡ Some file
    → ChangesVolume opened.place (record { change = writes opened.place.number lock.range.start sent; user = user_at m p; now = now })
    (file_answer result) (writing_calls opened.place.number lock.range.start (length sent) result) old.disks before disks after
    → EndsWrite result lock bytes regs opened m p (record old { disks = disks }) end processes new
    → EndsOrLacks (write_granted lock bytes regs (asker_of m p now) was (found_on opened v file))
    (granted_write_calls lock count (asker_of m p now) was (found_on opened v file)) m was now p end processes new before
    after terms
write-behind lock m was v file now p opened sent bytes regs end processes old disks new before after terms count result same long stands is there made ends =
    let place = opened.place in
    let at = lock.range.start in
    let mid : FileState = record old { disks = disks } in
    let restored : FileState = record mid { records = was.records } in
    write-ends lock m was v file now p opened bytes regs end processes mid new before after terms is there stands.drives (sym stands.records) count long result
    (changed-same place.number at sent bytes (user_at m p) now result v file place.drive was restored before after same
    (has-changed-in (record old { records = was.records }) restored before after was place v file
    (record { change = writes place.number at sent; user = user_at m p; now = now }) (file_answer result)
    (writing_calls place.number at (length sent) result) (stands-restored p old before was stands) is there refl refl refl made)) ends

-- ---- other registers and bytes

-- the same, where other registers are answered that are these
pub ends-writes : (m : Processes) (files : Files) (now : TimePacket) (p : ℕ) (end : CallEnd) (processes : ProcState)
    {most : ℕ} (new : FileState) {before : List DriveView} (views : List DriveView) (terms : List TerminalState)
    (code : ℕ) (bytes : List ℕ) (regs other : Regs) (found : rules.OpenFile) → regs ≡ other
    → EndsOrLacks (write_file code bytes regs (asker_of m p now) files found) most m files now p end processes new
    before views terms → EndsOrLacks (writes_bytes (asker_of m p now) files found code bytes other) most m files now p
    end processes new before views terms
unfolding write_file
ends-writes m files now p end processes {most} new {before} views terms code bytes regs other found same ends =
    subst (λ (r : Regs). EndsOrLacks (writes_bytes (asker_of m p now) files found code bytes r) most m files now p end processes new before views terms) same ends

-- the same, where the bytes are these too
pub ends-write_file : (m : Processes) (files : Files) (now : TimePacket) (p : ℕ) (end : CallEnd) (processes : ProcState)
    {most : ℕ} (new : FileState) {before : List DriveView} (views : List DriveView) (terms : List TerminalState)
    (code : ℕ) (bytes line : List ℕ) (regs other : Regs) (found : rules.OpenFile) → bytes ≡ line → regs ≡ other
    → EndsOrLacks (write_file code bytes regs (asker_of m p now) files found) most m files now p end processes new
    before views terms → EndsOrLacks (write_file code line other (asker_of m p now) files found) most m files now p
    end processes new before views terms
ends-write_file m files now p end processes {most} new {before} views terms code bytes line regs other found is same ends =
    subst (λ (r : Regs). EndsOrLacks (write_file code line r (asker_of m p now) files found) most m files now p end processes new before views terms) same
    (subst (λ (b : List ℕ). EndsOrLacks (write_file code b regs (asker_of m p now) files found) most m files now p end processes new before views terms) is ends)
