-- What a reading of a file of modules comes to, by what its drive was asked.
use Rattle.std.proofs.Common.{◌≡◌, ◌≢◌, ℕ, ◌+◌, ◌∙◌, IfOk, IsSome, OnErr, Option, Some, None, Result, Ok, Err, List, slice_get, inl, inr, refl, ap, sym, subst, arith}
use Rattle.std.proofs.lemmas.Bool.{false≢true}
use Rattle.rbf_access.specs.Faults.{file_error, file_fault}
use Rattle.rbf_access.specs.Reading.{read_calls}
use Rattle.rbf_access.specs.declared.faults.FileFault.{FileFault}
use Rattle.rbf_access.specs.declared.faults.FileFault.TheVariants.{Device, NoCluster, TooManyRuns}
use Rattle.rbf_model.specs.File.{DiskFile}
use Rattle.rbf_model.specs.Volume.{DiskVolume}
use Rattle.file_rules.specs.Files.{Files, file_in, with_drives}
use Rattle.file_rules.specs.ProgramFile.{ProgramFile, reading_of}
use Rattle.file_rules.specs.Step.{Step, drive_of}
use Rattle.file_rules.specs.Route.{Found, IsFoundAt}
use Rattle.lock_model.specs.declared.place.FilePlace.{FilePlace}
use Rattle.file_drives.specs.Drives.{DriveView, drive_states, media_of}
use Rattle.file_drives.specs.Mounted.{ReadsFile}
use Rattle.file_state.proofs.CountLemmas.{called-more, called-none, called-read, called-then}
use Rattle.file_state.proofs.KeepLemmas.{ReachesAtMost, others-reached}
use Rattle.file_state.proofs.ReachedLemmas.{file-there, has-read, has-read-then}
use Rattle.file_state.specs.Counted.{CalledAtMost}
use Rattle.file_state.specs.Reached.{HasReadDrive}
use Rattle.file_state.specs.declared.state.FileState.{FileState}
use Rattle.load_calls.proofs.FoundLemmas.{size-whole}
use Rattle.load_calls.specs.Calls.{found_calls, size_calls}
use Rattle.load_calls.specs.Found.{IsWhole, program_by, program_size, program_there}
use Rattle.load_calls.specs.Reading.{AnswersReading, ReadsTo, read_by}
use Rattle.load_calls.specs.declared.reading.ProgramRead.{ProgramRead}

-- ---- what is left of the drives

-- at most the drive that the step reaches was called, so often, and it was only read
pub record OnlyReads (step : Step ProgramFile) (most : ℕ) (before after : List DriveView) : Type 0 where
  pub calls : CalledAtMost most before after
  pub media_kept : media_of after ≡ media_of before
  pub others : (n : ℕ) → drive_of step ≢ Some n → slice_get after n ≡ slice_get before n

pub only-none : (step : Step ProgramFile) (most : ℕ) (views : List DriveView) → OnlyReads step most views views
only-none step most views = record {
  calls = called-more 0 most views views (omega arith) (called-none views);
  media_kept = refl;
  others = λ n other. refl;
}

pub only-read : (step : Step ProgramFile) (most : ℕ) (fault : Option ℕ) (drive : ℕ) (files : Files) (new : FileState)
    (before after : List DriveView) → ReachesAtMost step drive before after → HasReadDrive fault drive files new before
    after → CalledAtMost most before after → OnlyReads step most before after
only-read step most fault drive files new before after reached read calls = record {
  calls = calls;
  media_kept = read.media_kept;
  others = others-reached step drive before after reached read.others;
}

only-then : (step : Step ProgramFile) (first then : ℕ) (before mid after : List DriveView) → OnlyReads step first
    before mid → OnlyReads step then mid after → OnlyReads step (first + then) before after
only-then step first then before mid after was is = record {
  calls = called-then first then before mid after was.calls is.calls;
  media_kept = is.media_kept ∙ was.media_kept;
  others = λ n other. is.others n other ∙ was.others n other;
}

-- ---- as the drives failed or not

-- none failed
pub reads-well : (step : Step ProgramFile) (most : ℕ) (was : Files) (reading : Result ProgramFile ℕ)
    (result : Result ProgramRead ℕ) (buffer : List ℕ) (new : FileState) (start before after : List DriveView)
    (drive : ℕ) → reading_of step ≡ reading → HasReadDrive None drive was new start after → AnswersReading buffer reading
    result → OnlyReads step most before after → ReadsTo step most was result buffer new before after
reads-well step most was reading result buffer new start before after drive is read answers only = record {
  reading = reading;
  left = with_drives was (drive_states after);
  reads = record { drives = drive_states after; outcome = inl (sym is, read.moved); state = refl };
  answers = answers;
  stands = read.stands;
  calls = only.calls;
  media_kept = only.media_kept;
  others = only.others;
}

-- the one that was reached
pub reads-broken : (step : Step ProgramFile) (most : ℕ) (was : Files) (number : ℕ) (buffer : List ℕ) (new : FileState)
    (start before after : List DriveView) (drive : ℕ) → drive_of step ≡ Some drive → HasReadDrive (Some number) drive was
    new start after → OnlyReads step most before after → ReadsTo step most was (Err number) buffer new before after
reads-broken step most was number buffer new start before after drive reached read only = record {
  reading = Err number;
  left = with_drives was (drive_states after);
  reads = record {
    drives = drive_states after;
    outcome = inr (record { drive = drive; reached = reached; number = number; failed = read.moved; is = refl });
    state = refl;
  };
  answers = refl;
  stands = read.stands;
  calls = only.calls;
  media_kept = only.media_kept;
  others = only.others;
}

-- behind reads
pub reads-behind : (step : Step ProgramFile) (first most : ℕ) (was : Files) (result : Result ProgramRead ℕ)
    (buffer : List ℕ) (new : FileState) (before mid after : List DriveView) → OnlyReads step first before mid
    → ReadsTo step most was result buffer new mid after → ReadsTo step (first + most) was result buffer new before
    after
reads-behind step first most was result buffer new before mid after only it =
    let all = only-then step first most before mid after only (record { calls = it.calls; media_kept = it.media_kept; others = it.others }) in
    record {
      reading = it.reading;
      left = it.left;
      reads = it.reads;
      answers = it.answers;
      stands = it.stands;
      calls = all.calls;
      media_kept = all.media_kept;
      others = all.others;
    }

-- ---- the file that was found

module _ (user next : ℕ) (was : Files) (found : Found) (place : FilePlace) (state : FileState)
    (start views : List DriveView) (at : IsFoundAt was place found) (first : HasReadDrive None place.drive was state start
    views) where
  abbrev before : Files
  before = with_drives was (drive_states views)

  abbrev step : Step ProgramFile
  step = program_there user was next found

  there : file_in before place ≡ Some found.file
  there = file-there before place found.volume found.file at.volume_is at.file_is

  reached : drive_of step ≡ Some place.drive
  reached = ap (λ (at : FilePlace). Some at.drive) at.place_is

  -- it is refused
  pub size-refused : (number most : ℕ) (buffer : List ℕ) → Err number ≡ program_size user was found → ReadsTo step most was (Err number) buffer state views views
  size-refused number most buffer is =
      reads-well step most was (Err number) (Err number) buffer state start views views place.drive
      (ap (λ (size : Result ℕ ℕ). reading_of (program_by found next size)) (sym is)) first refl (only-none step most views)

  module _ (new : FileState) (now : List DriveView) (io : new.io ≡ state.io) (directories : new.directories ≡ state.directories) (records : new.records ≡ state.records) where
    read-here : (fault : Option ℕ) (most : DiskVolume → DiskFile → ℕ) → ReadsFile place fault most state.disks views new.disks now → HasReadDrive fault place.drive before new views now
    read-here fault most read =
        has-read state new views now before place found.file fault most first.stands there io directories records read

    read-on : (fault : Option ℕ) (most : DiskVolume → DiskFile → ℕ) → ReadsFile place fault most state.disks views new.disks now → HasReadDrive fault place.drive was new start now
    read-on fault most read =
        has-read-then fault place.drive was state new start views now first (read-here fault most read)

    only-here : (fault : Option ℕ) (most : DiskVolume → DiskFile → ℕ) → ReadsFile place fault most state.disks views new.disks now → OnlyReads step (most found.volume found.file) views now
    only-here fault most read =
        only-read step (most found.volume found.file) fault place.drive before new views now (inl reached) (read-here fault most read)
        (called-read state new views now before place found.volume found.file fault most first.stands at.volume_is at.file_is read)

    -- its descriptor was read
    pub fd-read : ReadsFile place None (λ v file. 1) state.disks views new.disks now → HasReadDrive None place.drive was new start now
    fd-read read = read-on None (λ v file. 1) read

    pub fd-only : ReadsFile place None (λ v file. 1) state.disks views new.disks now → OnlyReads step 1 views now
    fd-only read = only-here None (λ v file. 1) read

    -- or was not
    pub fd-broken : (fault : FileFault) (number : ℕ) (buffer : List ℕ) → number ≡ file_error fault
        → ReadsFile place (file_fault {A = Unit {0}} (Err fault)) (λ v file. 1) state.disks views new.disks now
        → IsSome (file_fault {A = Unit {0}} (Err fault)) → ReadsTo step (found_calls user was found) was (Err number)
        buffer new views now
    fd-broken (Device number) answer buffer is read device =
        let only = only-here (Some number) (λ v file. 1) read in
        reads-broken step (found_calls user was found) was answer buffer new start views now place.drive reached
        (subst (λ (n : ℕ). HasReadDrive (Some n) place.drive was new start now) (sym is) (read-on (Some number) (λ v file. 1) read))
        (record {
          calls = called-more 1 (found_calls user was found) views now (omega arith) only.calls;
          media_kept = only.media_kept;
          others = only.others;
        })
    fd-broken NoCluster answer buffer is read device = absurd (false≢true device)
    fd-broken TooManyRuns answer buffer is read device = absurd (false≢true device)

    abbrev most_by : Result ℕ ℕ → ℕ
    most_by size = size_calls found.file size

    -- its bytes were read, or not
    whole-reads : (size : ℕ) (loaded : Result (Unit {0}) FileFault) (buffer : List ℕ) → Ok size ≡ program_size user
        was found → ReadsFile place (file_fault loaded) (λ v file. read_calls file 0 size) state.disks views new.disks
        now → OnErr loaded (IsSome (file_fault loaded)) → IfOk loaded (λ done. IsWhole found.file size buffer)
        → ReadsTo step (most_by (Ok size)) was (read_by loaded size next) buffer new views now
    whole-reads size (Ok done) buffer is read device whole =
        let same = size-whole user was found size is in
        reads-well step (most_by (Ok size)) was (Ok (record { bytes = found.file.contents; next = next })) (Ok (record { size = size; next = next })) buffer new start views now place.drive
        (ap (λ (size : Result ℕ ℕ). reading_of (program_by found next size)) (sym is))
        (read-on None (λ v file. read_calls file 0 size) read)
        (record { size_is = same; bytes_are = whole.bytes_are (sym same); next_is = refl })
        (only-here None (λ v file. read_calls file 0 size) read)
    whole-reads size (Err (Device number)) buffer is read device whole =
        reads-broken step (most_by (Ok size)) was number buffer new start views now place.drive reached
        (read-on (Some number) (λ v file. read_calls file 0 size) read)
        (only-here (Some number) (λ v file. read_calls file 0 size) read)
    whole-reads size (Err NoCluster) buffer is read device whole = absurd (false≢true device)
    whole-reads size (Err TooManyRuns) buffer is read device whole = absurd (false≢true device)

    pub whole-answers : (size : ℕ) (loaded : Result (Unit {0}) FileFault) (result : Result ProgramRead ℕ)
        (buffer : List ℕ) → result ≡ read_by loaded size next → Ok size ≡ program_size user was found
        → ReadsFile place (file_fault loaded) (λ v file. read_calls file 0 size) state.disks views new.disks now
        → OnErr loaded (IsSome (file_fault loaded)) → IfOk loaded (λ done. IsWhole found.file size buffer)
        → ReadsTo step (most_by (program_size user was found)) was result buffer new views now
    whole-answers size loaded result buffer answer is read device whole =
        subst (λ (size : Result ℕ ℕ). ReadsTo step (most_by size) was result buffer new views now) is
        (subst (λ (result : Result ProgramRead ℕ). ReadsTo step (most_by (Ok size)) was result buffer new views now) (sym answer) (whole-reads size loaded buffer is read device whole))
