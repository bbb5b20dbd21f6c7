-- What a read of the file of a path comes to, by what was answered to it.
use Rattle.std.proofs.Common.{◌≡◌, ◌≢◌, ◌∙◌, ◌==◌, not, is_none, is_some, ℕ, ◌+◌, ◌-◌, ◌<◌, ◌≤◌, ◌^◌, min, nat_le, Bool, true, false, Option, Some, None, IsSome, OnErr, IfOk, Result, Ok, Err, List, ◌++◌, length, take, drop, take-take, append_assoc, ⊎_elim, inl, inr, sym, ap, refl, subst, arith, le-leb, leb-true, length-take, length-drop}
use Rattle.std.specs.Prelude.{if◌then◌else◌}
use Rattle.std.proofs.lemmas.Bool.{cases_lt, false≢true, ne_eqb}
use Rattle.std.proofs.lemmas.List.{length-take-le, take_at}
use Rattle.os9_base.specs.Cells.{Cells}
use Rattle.os9_base.specs.declared.call.CallEnd.{CallEnd}
use Rattle.os9_base.specs.declared.errors.TheConstants.{E_BMODE, E_BPADDR, E_EOF}
use Rattle.os9_base.specs.declared.registers.Regs.{Regs}
use Rattle.os9_base.specs.declared.registers.TimePacket.{TimePacket}
use Rattle.os9_outer.specs.TerminalState.{TerminalState}
use Rattle.proc_model.specs.Processes.{Processes, cells_at, regs_at}
use Rattle.proc_model.specs.UserBytes.{user_bytes}
use Rattle.io_model.specs.declared.terminal.ReadKind.{ReadKind}
use Rattle.io_model.specs.Io.{Io, with_call}
use Rattle.io_model.specs.Modes.{can_read}
use Rattle.proc_state.specs.declared.state.ProcState.{ProcState}
use Rattle.rbf_access.specs.Faults.{file_error, file_fault}
use Rattle.rbf_access.specs.declared.faults.FileFault.{FileFault}
use Rattle.rbf_access.specs.declared.volume.Volume.{Volume}
use Rattle.rbf_access.specs.declared.faults.FileFault.TheVariants.{Device, NoCluster, TooManyRuns}
use Rattle.rbf_access.specs.Reading.{IsReadInto, filled_buffer, read_calls}
use Rattle.rbf_change.specs.Contents.{bytes_from}
use Rattle.rbf_model.specs.File.{DiskFile}
use Rattle.rbf_model.specs.Volume.{DiskVolume}
use Rattle.lock_model.specs.History.{got}
use Rattle.lock_model.specs.Records.{Records, holding, with_waiting}
use Rattle.lock_model.specs.declared.lock.Held.{Held}
use Rattle.file_drives.specs.Drives.{DriveView, drive_states}
use Rattle.file_drives.specs.Mounted.{AreMounted, ReadsFile}
use Rattle.file_rules.specs.Attempts.{asker_of}
use Rattle.file_rules.specs.Files.{Asker, DriveState, Files, volume_at, with_drives, with_io, with_volume}
use Rattle.file_rules.specs.Files as rules
use Rattle.file_rules.specs.Locking.{is_for_update, position_of, request_now}
use Rattle.file_rules.specs.Read.{answers_bytes, bytes_at, lock_by, read_claim, reads_freely, reads_locked}
use Rattle.file_rules.specs.Step.{FileEffect, FileStep, MayBeLeft, comes, deed_of, done, leaves_so, reaches, refused, refuses, refuses_so, with_drives_after}
use Rattle.file_state.proofs.CountLemmas.{called-more, called-read}
use Rattle.file_state.proofs.EndLemmas.{breaks, goes-well}
use Rattle.file_state.proofs.KeepLemmas.{MayKeepAll, keeps-read}
use Rattle.file_state.proofs.ReachedLemmas.{file-there, has-read, same-volume}
use Rattle.file_state.proofs.RequestLemmas.{forgotten-again, lacks-none, reached-fails, stands-beside}
use Rattle.file_state.proofs.StateLemmas.{stands-with_io}
use Rattle.file_state.specs.Counted.{CalledAtMost}
use Rattle.file_state.specs.Ends.{EndsFileAttempt, EndsOrLacks}
use Rattle.file_state.specs.Media.{KeepsDrives}
use Rattle.file_state.specs.Reached.{HasReadDrive}
use Rattle.file_state.specs.Tie.{RepresentsFiles}
use Rattle.file_state.specs.declared.state.FileState.{FileState}
use Rattle.file_state.specs.declared.state.OpenFile.{OpenFile}
use Rattle.file_io.proofs.TryingLemmas.{deed-goes, deed-refused, ends-if-false, ends-refuses-false, ends-refuses-true, ends-same, none-of, some-of}
use Rattle.file_io.specs.Ending.{EndsFound, GivesBytes, GivesLocked, IsCallRefused}
use Rattle.file_io.specs.Opened.{found_on, moved_to}
use Rattle.file_io.specs.Calls.{reading_attempt_calls}
use Rattle.file_io.specs.Reading.{HasBufferForLock, IsFilledFrom, holds_bytes, part_of, read_file, read_granted, read_named, read_opened}

pub not-le : (a b : ℕ) → b < a → nat_le a b ≡ false
not-le a b less = by (nat_le a b) refl
  where
    by : (t : Bool) → nat_le a b ≡ t → nat_le a b ≡ false
    by true is = absurd (omega (arith, leb-true a b is, less))
    by false is = is

-- how many bytes there are from a place on
pub count-from : (contents : List ℕ) (at most : ℕ) → length (bytes_from contents at most) ≡ min most (length contents - at)
count-from contents at most = length-take most (drop at contents) ∙ ap (λ n. min most n) (length-drop at contents)

-- a buffer is there for the bytes of a lock, if the cells and the registers are the same
pub room-stays : (cells other : Cells) (regs later : Regs) (lock : Held) → other ≡ cells → later ≡ regs → HasBufferForLock cells regs lock → HasBufferForLock other later lock
room-stays cells other regs later lock cells_are regs_are room =
    subst (λ (c : Cells). HasBufferForLock c later lock) (sym cells_are) (subst (λ (r : Regs). HasBufferForLock cells r lock) (sym regs_are) room)

-- what was loaded is no more than was asked for
pub loaded-few : (file : DiskFile) (at most : ℕ) (buffer : List ℕ) (count : ℕ) → IsFilledFrom file at most buffer count → count ≤ most
loaded-few file at most buffer count it = omega (arith, it.count_is, count-from file.contents at most)

-- and 32 bits count its end
pub loaded-fits : (file : DiskFile) (at most : ℕ) (buffer : List ℕ) (count : ℕ) → IsFilledFrom file at most buffer count → at < 2 ^ 32
    → length file.contents < 2 ^ 32 → at + count < 2 ^ 32
loaded-fits file at most buffer count it low size = ⊎_elim
    (λ inside. omega (arith, it.count_is, count-from file.contents at most, inside, size))
    (λ past. omega (arith, it.count_is, count-from file.contents at most, past, low))
    (cases_lt at (length file.contents))

-- bytes that were read into the front of a buffer
pub loaded-of : (file : DiskFile) (at most : ℕ) (before new rest : List ℕ) (count : ℕ) → length before ≡ most → IsReadInto file at before new count → IsFilledFrom file at most (new ++ rest) count
loaded-of file at most before new rest count long read =
    let bytes = bytes_from file.contents at most in
    let same : bytes_from file.contents at (length before) ≡ bytes = ap (λ n. bytes_from file.contents at n) long in
    let count_is : count ≡ length bytes = read.count_is ∙ ap (λ (b : List ℕ). length b) same in
    let whole : new ≡ bytes ++ drop (length bytes) before = read.buffer_is ∙ ap (λ (b : List ℕ). filled_buffer b before) same in
    record {
      count_is = count_is;
      bytes_are =
          ap (λ n. take n (new ++ rest)) count_is ∙ ap (λ (b : List ℕ). take (length bytes) (b ++ rest)) whole
          ∙ ap (λ (b : List ℕ). take (length bytes) b) (append_assoc bytes (drop (length bytes) before) rest)
          ∙ take_at bytes (drop (length bytes) before ++ rest) (length bytes) refl;
    }

-- the bytes at the front of a buffer that a read gives, and their count
pub given-bytes : (kind : ReadKind) (buffer : List ℕ) (count n : ℕ) → n ≤ length (take count buffer)
    → take n (take count buffer) ≡ part_of kind (take count buffer)
    → (take n buffer ≡ part_of kind (take count buffer)) × (length (part_of kind (take count buffer)) ≡ n)
given-bytes kind buffer count n within is =
    let few : n ≤ count = omega (arith, within, length-take count buffer) in (
      sym (take-take n count buffer few) ∙ is,
      ap (λ (b : List ℕ). length b) (sym is) ∙ length-take-le n (take count buffer) within,
    )

-- ---- the step, by whether the path may be written too

module _ (kind : ReadKind) (asker : Asker) (files : Files) (found : rules.OpenFile) where
  -- where it begins
  abbrev pub begins : Bool → ℕ
  begins update = if update then position_of asker files found else found.opened.desc.at

  abbrev pub step-by : Bool → FileStep
  step-by update =
      reaches found.place.drive
      (refuses (nat_le (length found.file.contents) (begins update)) E_EOF
      (if update then reads_locked kind asker files found (request_now asker files found (read_claim kind asker found
      (begins update))) (bytes_at kind asker found (begins update)) else reads_freely kind asker files found))

  pub read-by : (update : Bool) → is_for_update found.opened.desc.mode ≡ update → step-by update ≡ read_file kind asker files found
  unfolding read_file
  read-by update is = ap step-by (sym is)

  -- and how often the drive is called
  pub calls-by : (update : Bool) → is_for_update found.opened.desc.mode ≡ update → reading_attempt_calls asker files
      found ≡ (if update then 1 else 0) + read_calls found.file (begins update) asker.caller.regs.y
  calls-by update is = ap (λ (u : Bool). (if u then 1 else 0) + read_calls found.file (begins u) asker.caller.regs.y) is

-- ---- a read without a lock

-- a read with this result, and with this buffer after it
abbrev pub EndsRead : Result ℕ FileFault → ReadKind → List ℕ → Regs → OpenFile → Processes → ℕ → Io → CallEnd
    → ProcState
    → Io → Type 0
EndsRead (Ok count) kind buffer regs opened m p io end processes new =
    EndsFound (take count buffer) (part_of kind (take count buffer)) regs opened m p io end processes new
EndsRead (Err fault) kind buffer regs opened m p io end processes new =
    IsCallRefused (file_error fault) m p io end processes new

module _ (kind : ReadKind) (m : Processes) (files : Files) (v : DiskVolume) (file : DiskFile) (now : TimePacket) (p : ℕ)
    (opened : OpenFile) (end : CallEnd) (processes : ProcState) (mid : FileState) (new : Io)
    (before after : List DriveView) (terms : List TerminalState) (most : ℕ) (called : CalledAtMost most before after)
    (is : volume_at files opened.place.drive ≡ Some v) (some : (regs_at m p).y ≢ 0) where
  abbrev asker : Asker
  asker = asker_of m p now

  abbrev found : rules.OpenFile
  found = found_on opened v file

  abbrev drive : ℕ
  drive = opened.place.drive

  abbrev at : ℕ
  at = opened.desc.at

  abbrev drives : List DriveState
  drives = drive_states after

  -- the position is at or past the end
  abbrev ended : Bool
  ended = nat_le (length file.contents) at

  abbrev given : FileEffect
  given = answers_bytes asker files found at (bytes_at kind asker found at)

  -- what is read behind the test for the end
  abbrev behind : Bool → FileStep
  behind test = refuses test E_EOF (comes (leaves_so given))

  -- what is done
  abbrev Done : Type 0
  Done = EndsFileAttempt (reaches drive (behind ended)) most m files now p end processes (record mid { io = new }) before after terms

  -- the drive was only read
  keeps : (fault : Option ℕ) → HasReadDrive fault drive files mid before after → KeepsDrives (reaches drive (behind ended)) asker files end before after
  keeps fault read = keeps-read (reaches drive (behind ended)) asker files end drive before after (inl refl) (may ended) fault mid read
    where
      may : (test : Bool) → MayKeepAll (deed_of (behind test) files) end
      may true = tt
      may false = tt

  -- a fault
  broken : (number : ℕ) → HasReadDrive (Some number) drive files mid before after → IsCallRefused number m p mid.io end processes new → Done
  broken number read it = record {
    effect = refuses_so number (with_drives (with_volume files drive v) drives);
    does = breaks (reaches drive (behind ended)) asker files drive number v v drives terms refl is (stays ended) read.moved;
    comes = (it.end_is, it.tied);
    stands =
        inl (subst (λ (f : Files). RepresentsFiles (record mid { io = new }) after (with_io (with_drives f drives) (with_call f.io p None))) (sym (same-volume files drive v is))
        (stands-with_io mid after (with_drives files drives) (with_call files.io p None) new (ap (λ (io : Io). with_call io p None) read.stands.io ∙ sym it.io_is) read.stands));
    calls = called;
    drives = keeps (Some number) read;
  }
    where
      stays : (test : Bool) → MayBeLeft (deed_of (behind test) files) asker v v
      stays true = refl
      stays false = refl

  -- the end
  at_end : length file.contents ≤ at → HasReadDrive None drive files mid before after → IsCallRefused E_EOF m p mid.io end processes new → Done
  at_end past read it = record {
    effect = with_drives_after (refuses_so E_EOF files) drives;
    does =
        goes-well (reaches drive (behind ended)) asker files (refuses_so E_EOF files) drives terms
        (deed-refused files ended E_EOF (comes (leaves_so given)) (le-leb (length file.contents) at past)) read.moved;
    comes = (it.end_is, it.tied);
    stands =
        inl (stands-with_io mid after (with_drives files drives) (with_call files.io p None) new (ap (λ (io : Io). with_call io p None) read.stands.io ∙ sym it.io_is) read.stands);
    calls = called;
    drives = keeps None read;
  }

  -- bytes
  gives : at < length file.contents → HasReadDrive None drive files mid before after
      → GivesBytes (part_of kind (bytes_from file.contents at (regs_at m p).y)) (regs_at m p) opened m p mid.io end
      processes new → Done
  gives inside read it = record {
    effect = with_drives_after given drives;
    does =
        goes-well (reaches drive (behind ended)) asker files given drives terms
        (deed-goes files ended E_EOF (leaves_so given) (not-le (length file.contents) at inside)) read.moved;
    comes = (it.end_is, it.tied);
    stands =
        let moved : Io → Io = λ io. with_call (moved_to io opened (at + length (part_of kind (bytes_from file.contents at (regs_at m p).y)))) p None in
        inl (stands-with_io mid after (with_drives files drives) (moved files.io) new (ap moved read.stands.io ∙ sym it.io_is) read.stands);
    calls = called;
    drives = keeps None read;
  }

  pub read-ends : (loaded : Result ℕ FileFault) (buffer : List ℕ) → HasReadDrive (file_fault loaded) drive files mid before
      after → OnErr loaded (IsSome (file_fault loaded)) → IfOk loaded (IsFilledFrom file at (regs_at m p).y buffer)
      → EndsRead loaded kind buffer (regs_at m p) opened m p mid.io end processes new → Done
  read-ends (Ok count) buffer read device it ends =
      let y = (regs_at m p).y in
      let long = count-from file.contents at y in
      let same : EndsFound (bytes_from file.contents at y) (part_of kind (bytes_from file.contents at y)) (regs_at m p) opened m p mid.io end processes new =
      subst (λ (bytes : List ℕ). EndsFound bytes (part_of kind bytes) (regs_at m p) opened m p mid.io end processes new) it.bytes_are ends in
      ⊎_elim
      (λ inside. gives inside read (same.some (λ none. omega (arith, long, none, some, inside))))
      (λ past. at_end past read (same.none (omega (arith, long, past))))
      (cases_lt at (length file.contents))
  read-ends (Err (Device number)) buffer read device it ends = broken number read ends
  read-ends (Err NoCluster) buffer read device it ends = absurd (false≢true device)
  read-ends (Err TooManyRuns) buffer read device it ends = absurd (false≢true device)

-- what was loaded is read as the step says
pub read-behind : (kind : ReadKind) (m : Processes) (was : Files) (v : DiskVolume) (file : DiskFile) (now : TimePacket) (p : ℕ)
    (opened : OpenFile) (end : CallEnd) (processes : ProcState) (old : FileState) (disks : List (Option Volume))
    (new : FileState) (before after : List DriveView) (terms : List TerminalState) (regs : Regs)
    (loaded : Result ℕ FileFault) (buffer : List ℕ) → is_for_update opened.desc.mode ≡ false
    → new ≡ record old { disks = disks; io = new.io } → regs ≡ regs_at m p → RepresentsFiles old before was
    → volume_at was opened.place.drive ≡ Some v → v.files opened.place.number ≡ Some file → regs.y ≢ 0
    → IfOk loaded (IsFilledFrom file opened.desc.at regs.y buffer) → OnErr loaded (IsSome (file_fault loaded))
    → ReadsFile opened.place (file_fault loaded) (λ v file. read_calls file opened.desc.at regs.y) old.disks before disks after
    → EndsRead loaded kind buffer regs opened m p old.io end processes new.io
    → EndsOrLacks (read_file kind (asker_of m p now) was (found_on opened v file))
    (reading_attempt_calls (asker_of m p now) was (found_on opened v file)) m was now p end processes new before after terms
read-behind kind m was v file now p opened end processes old disks new before after terms regs loaded buffer free rest same stands is there some ok device drive ends =
    let at = opened.desc.at in
    let asker = asker_of m p now in
    let found = found_on opened v file in
    let mid : FileState = record old { disks = disks } in
    let calls = λ (v : DiskVolume) (file : DiskFile). read_calls file at regs.y in
    let most = reading_attempt_calls asker was found in
    let called = called-read old mid before after was opened.place v file (file_fault loaded) calls stands is there drive in
    subst (λ (files : FileState). EndsOrLacks (read_file kind asker was found) most m was now p end processes files before after terms) (sym rest)
    (ends-same m was now p end processes (record mid { io = new.io }) after terms (step-by kind asker was found false) (read_file kind asker was found) (read-by kind asker was found false free)
    (lacks-none (step-by kind asker was found false) most m was now p end processes (record mid { io = new.io }) before after terms
    (read-ends kind m was v file now p opened end processes mid new.io before after terms most
    (called-more (read_calls file at regs.y) most before after (omega (arith, calls-by kind asker was found false free, ap (λ (r : Regs). read_calls file at r.y) same)) called) is
    (subst (λ (r : Regs). r.y ≢ 0) same some) loaded buffer
    (has-read old mid before after was opened.place file (file_fault loaded) calls stands (file-there was opened.place v file is there) refl refl refl drive) device
    (subst (λ (r : Regs). IfOk loaded (IsFilledFrom file at r.y buffer)) same ok)
    (subst (λ (r : Regs). EndsRead loaded kind buffer r opened m p old.io end processes new.io) same ends))))

-- ---- the tests of a read

-- the buffer is in named slots, or it is not
module _ (m : Processes) (p : ℕ) (regs : Regs) (named : Bool) (same : regs ≡ regs_at m p) (is : named ≡ is_some (user_bytes (cells_at m p) regs.x regs.y)) where
  abbrev Lacks : Regs → Bool
  Lacks r = is_none (user_bytes (cells_at m p) r.x r.y)

  pub buffer-there : named ≡ true → is_none (user_bytes (cells_at m p) (regs_at m p).x (regs_at m p).y) ≡ false
  buffer-there there = subst (λ (r : Regs). Lacks r ≡ false) same (some-of (user_bytes (cells_at m p) regs.x regs.y) named is there)

  pub buffer-lacks : named ≡ false → is_none (user_bytes (cells_at m p) (regs_at m p).x (regs_at m p).y) ≡ true
  buffer-lacks lacks = subst (λ (r : Regs). Lacks r ≡ true) same (none-of (user_bytes (cells_at m p) regs.x regs.y) named is lacks)

module _ (kind : ReadKind) (m : Processes) (was : Files) (now : TimePacket) (p : ℕ) (opened : OpenFile) (v : DiskVolume)
    (file : DiskFile) (end : CallEnd) (processes : ProcState) (new : FileState) (most : ℕ) (before after : List DriveView)
    (terms : List TerminalState) where
  abbrev Comes : FileStep → Type 0
  Comes step = EndsOrLacks step most m was now p end processes new before after terms

  abbrev lacks : Bool
  lacks = is_none (user_bytes (cells_at m p) (regs_at m p).x (regs_at m p).y)

  abbrev named_step : FileStep
  named_step = read_named kind (asker_of m p now) was (found_on opened v file)

  abbrev some_step : FileStep
  some_step = read_file kind (asker_of m p now) was (found_on opened v file)

  -- the buffer is not there
  pub where-lacks : lacks ≡ true → Comes (refused E_BPADDR) → Comes (read_opened kind (asker_of m p now) was (found_on opened v file))
  unfolding read_opened
  where-lacks is ends = ends-refuses-true m was now p end processes new after terms lacks E_BPADDR named_step is ends

  -- it is
  pub where-named : lacks ≡ false → Comes named_step → Comes (read_opened kind (asker_of m p now) was (found_on opened v file))
  unfolding read_opened
  where-named is ends = ends-refuses-false m was now p end processes new after terms lacks E_BPADDR named_step is ends

  -- and the path may be read
  pub where-readable : lacks ≡ false → can_read opened.desc.mode ≡ true → Comes (if (regs_at m p).y == 0 then done (regs_at m p) was else some_step)
      → Comes (read_opened kind (asker_of m p now) was (found_on opened v file))
  unfolding read_named
  where-readable is may ends =
      where-named is (ends-refuses-false m was now p end processes new after terms (not (can_read opened.desc.mode)) E_BMODE
      (if (regs_at m p).y == 0 then done (regs_at m p) was else some_step) (ap not may) ends)

  -- and there is a byte to move
  pub where-some : lacks ≡ false → can_read opened.desc.mode ≡ true → (regs_at m p).y ≢ 0 → Comes some_step
      → Comes (read_opened kind (asker_of m p now) was (found_on opened v file))
  where-some is may some ends =
      where-readable is may
      (ends-if-false m was now p end processes new after terms ((regs_at m p).y == 0) (done (regs_at m p) was) some_step (ne_eqb (regs_at m p).y 0 some) ends)

-- ---- a read under a lock that was granted

module _ (kind : ReadKind) (lock : Held) (m : Processes) (files : Files) (v : DiskVolume) (file : DiskFile)
    (now : TimePacket) (p : ℕ) (opened : OpenFile) (end : CallEnd) (processes : ProcState) (mid new : FileState)
    (before after : List DriveView) (terms : List TerminalState) (most : ℕ) (called : CalledAtMost most before after)
    (is : volume_at files opened.place.drive ≡ Some v) (quiet : mid.records ≡ with_waiting files.records p None) where
  abbrev locked_found : rules.OpenFile
  locked_found = found_on opened v file

  abbrev given-bytes-of : List ℕ
  given-bytes-of = bytes_at kind (asker_of m p now) locked_found lock.range.start

  abbrev held : FileEffect
  held = holds_bytes kind lock (asker_of m p now) files locked_found given-bytes-of

  -- the files as they are once the drive was read, with the records of the machine
  abbrev read_state : FileState
  read_state = record mid { records = files.records }

  abbrev Reached : Option ℕ → Type 0
  Reached fault = HasReadDrive fault opened.place.drive files read_state before after

  abbrev Granted : Type 0
  Granted = EndsOrLacks (read_granted kind lock (asker_of m p now) files locked_found) most m files now p end processes new before after terms

  -- a fault
  pub granted-broken : (number : ℕ) (io : Io) → new ≡ record mid { io = io } → Reached (Some number) → IsCallRefused number m p mid.io end processes io → Granted
  unfolding read_granted
  granted-broken number io new_is read it =
      lacks-none (reaches opened.place.drive (comes (leaves_so held))) most m files now p end processes new before after terms
      (reached-fails m files now p opened.place.drive (comes (leaves_so held)) read_state before after terms end processes most called number v new is refl read it.end_is it.tied
      (new_is ∙ ap (λ (io : Io). record mid { io = io }) it.io_is ∙ ap (λ (records : Records). record mid
      { io = with_call mid.io p None; records = records })
      (sym (ap (λ (state : FileState). state.records) new_is)))
      (sym (forgotten-again p files.records) ∙ ap (λ (records : Records). with_waiting records p None) (sym quiet ∙ sym (ap (λ (state : FileState). state.records) new_is))))

  -- bytes
  pub granted-gives : Reached None → GivesLocked kind lock given-bytes-of (regs_at m p) opened m p mid end processes new → Granted
  unfolding read_granted
  granted-gives read it = record {
    ends = λ some.
        let done = it.done some in
        let new_is = it.entered some in
        let records_are : new.records ≡ holding mid.records opened.path.0 (lock_by kind lock given-bytes-of) given-bytes-of = ap (λ (state : FileState). state.records) new_is in
        record {
          effect = with_drives_after held (drive_states after);
          does = goes-well (reaches opened.place.drive (comes (leaves_so held))) (asker_of m p now) files held (drive_states after) terms refl read.moved;
          comes = (done.end_is, done.tied);
          stands = inr (
            refl,
            stands-beside p read_state after (with_drives files (drive_states after))
                (with_call (moved_to files.io opened (lock.range.start + length given-bytes-of)) p None)
                (holding files.records opened.path.0 (lock_by kind lock given-bytes-of) given-bytes-of) new
                (new_is ∙ ap (λ (records : Records). record mid { io = new.io; records = records }) (sym records_are))
                (ap (λ (io : Io). with_call (moved_to io opened (lock.range.start + length given-bytes-of)) p None) read.stands.io ∙ sym done.io_is)
                (sym (forgotten-again p (holding files.records opened.path.0 (lock_by kind lock given-bytes-of) given-bytes-of))
                ∙ ap (λ (records : Records). with_waiting (holding records opened.path.0 (lock_by kind lock given-bytes-of) given-bytes-of) p None) (sym quiet)
                ∙ ap (λ (records : Records). with_waiting records p None) (sym records_are)) read.stands,
          );
          calls = called;
          drives = keeps-read (reaches opened.place.drive (comes (leaves_so held))) (asker_of m p now) files end opened.place.drive before after (inl refl) tt None read_state read;
        };
    lacks = λ none. record {
      effect = with_drives_after held (drive_states after);
      does = goes-well (reaches opened.place.drive (comes (leaves_so held))) (asker_of m p now) files held (drive_states after) terms refl read.moved;
      enters = record { entry = got opened.path.0 (lock_by kind lock given-bytes-of) given-bytes-of; is = refl; no_end = λ same. cc };
      drives = refl;
      mounted = subst (λ (state : FileState). AreMounted state.disks after files.volumes) (sym (it.lacks none)) read.stands.mounted;
      calls = called;
      images = keeps-read (reaches opened.place.drive (comes (leaves_so held))) (asker_of m p now) files end opened.place.drive before after (inl refl) tt None read_state read;
    };
  }
