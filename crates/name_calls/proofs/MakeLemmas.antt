-- I$Create in the directory that was found.
use Rattle.std.proofs.Common.{◌≡◌, ◌∙◌, ◌⊎◌, ℕ, ◌+◌, ◌-◌, ◌≤◌, ◌||◌, Bool, true, false, Some, None, List, length, Result, Ok, Err, [], inl, inr, refl, ap, sym, subst, arith}
use Rattle.std.proofs.lemmas.Option.{slice_get-get_or}
use Rattle.os9_base.specs.declared.call.CallEnd.{CallEnd}
use Rattle.os9_base.specs.declared.call.CallEnd.TheVariants.{Done, Error}
use Rattle.os9_base.specs.declared.errors.TheConstants.{E_CEF, E_FNA, E_FULL, E_SLF}
use Rattle.os9_base.specs.declared.registers.TimePacket.{TimePacket}
use Rattle.os9_outer.specs.TerminalState.{TerminalState}
use Rattle.proc_model.specs.Processes.{Processes, regs_at, user_at}
use Rattle.io_model.specs.Attempts.{result_of}
use Rattle.io_model.specs.Path.{new_number, paths_after_begin}
use Rattle.io_model.specs.declared.path.Target.TheVariants.{File as FileTarget}
use Rattle.io_model.specs.Io.{new_desc}
use Rattle.io_model.specs.Open.{opened_regs}
use Rattle.io_model.specs.PathList.{PathList}
use Rattle.io_model.specs.Step.{answers}
use Rattle.proc_state.specs.Tie.{ReturnsCallEnd}
use Rattle.proc_state.specs.declared.state.ProcState.{ProcState}
use Rattle.rbf_model.specs.File.{DiskFile}
use Rattle.rbf_model.specs.Volume.{DiskVolume}
use Rattle.rbf_access.specs.Faults.{file_error}
use Rattle.rbf_access.specs.declared.faults.FileFault.{FileFault}
use Rattle.rbf_access.specs.declared.faults.FileFault.TheVariants.{Device, NoCluster, TooManyRuns}
use Rattle.rbf_entries.specs.Entering.{entering_calls}
use Rattle.rbf_change.specs.Names.{is_dots}
use Rattle.rbf_entries.specs.Places.{AnswersPlace, place_calls}
use Rattle.rbf_entries.specs.declared.place.NewPlace.{NewPlace}
use Rattle.rbf_walk.specs.Walk.{directory_error, directory_fault}
use Rattle.rbf_walk.specs.declared.error.DirError.{DirError}
use Rattle.rbf_walk.specs.declared.error.DirError.TheVariants.{NotAllowed, BadPath, NotFound, Exists, File}
use Rattle.file_rules.specs.Attempts.{asker_of, io_effect}
use Rattle.file_rules.specs.Change.{creates}
use Rattle.file_rules.specs.Files.{Asker, Files, volume_at, with_drives, with_path_table, with_volume}
use Rattle.file_rules.specs.Open.{is_for_execution, says_directory}
use Rattle.file_rules.specs.Step.{FileDoes, FileEffect, FileStep, MayBeLeft, VolumeChange, changes, deed_of, leaves, leaves_so, reaches, refuses_so}
use Rattle.file_rules.specs.Route.{Found, last_of, IsFoundAt}
use Rattle.lock_model.specs.declared.place.FilePlace.{FilePlace}
use Rattle.file_drives.specs.Changed.{Asked, ChangesVolume, IsRefusedChange, has_no_segment, is_full_for, is_refused}
use Rattle.file_drives.specs.Drives.{DriveView, drive_states}
use Rattle.file_state.proofs.EndLemmas.{asked_of, breaks, goes-well, is-made}
use Rattle.file_state.proofs.CountLemmas.{called-more, called-then, has-changed-in}
use Rattle.file_state.proofs.KeepLemmas.{error-keeps, keeps-broken, keeps-made, keeps-refused}
use Rattle.file_state.proofs.ReachedLemmas as reached
use Rattle.file_state.specs.Counted.{CalledAtMost}
use Rattle.file_state.specs.Ends.{EndsFileAttempt}
use Rattle.file_state.specs.Media.{KeepsDrives}
use Rattle.file_state.specs.Reached.{HasReadDrive}
use Rattle.file_state.proofs.ReachedLemmas.{HasChanged}
use Rattle.file_state.specs.declared.state.FileState.{FileState}
use Rattle.name_calls.proofs.BeginLemmas.{begins-numbered}
use Rattle.name_calls.proofs.OpenCallLemmas.{entering-within, sum-behind, sum-within, within-sum}
use Rattle.name_calls.proofs.CreateLemmas.{change_by, create-stays, creates-exists, creates-forbidden, creates-on, is-forbidden, is-proper, is-there, makes-numbered, makes_there, room-broken, room-full, room-made, room-none}
use Rattle.name_calls.proofs.OpenEndLemmas.{broken, ends-as, well-refused}
use Rattle.name_calls.specs.OpenCalls.{calls_at_place, new_file_calls}
use Rattle.name_calls.specs.Ends.{EndsQuietly, HasReadIn}
use Rattle.name_calls.specs.Steps.{begins, creates_there}

-- some names have a last one
pub last-there : (names : List (List ℕ)) → 1 ≤ length names → (name : List ℕ) × (last_of names ≡ Some name)
last-there names some = (_, slice_get-get_or names (length names - 1) [] (omega (arith, some)))

module _ (m : Processes) (was : Files) (now : TimePacket) (p : ℕ) (terms : List TerminalState) (list : PathList) (name : List ℕ) (dir : Found) (place : FilePlace)
    (found : IsFoundAt was place dir) where
  abbrev asker : Asker
  asker = asker_of m p now

  -- ---- where the place of the entry is looked for

  abbrev creating : FileStep
  creating = creates_there asker was list name dir

  -- it was refused, or the drive failed
  pub place-refused : (new : FileState) (before after : List DriveView) → says_directory (regs_at m p).b ≡ false
      → is_dots name ≡ false → (error : DirError) → AnswersPlace dir.file name (user_at m p)
      (is_for_execution (regs_at m p).a) (Err error) → HasReadDrive (directory_fault {A = NewPlace} (Err error))
      place.drive was new before after → FileDoes creating asker was (refuses_so (directory_error error)
      (with_drives was (drive_states after))) terms terms
  place-refused new before after says proper NotAllowed answer read =
      well-refused m was now p terms creating place.drive new before after E_FNA (creates-forbidden asker was list
      name dir (is-forbidden asker dir name (user_at m p) (is_for_execution (regs_at m p).a) proper answer)) read
  place-refused new before after says proper BadPath answer read = absurd (is-proper asker dir name (user_at m p) (is_for_execution (regs_at m p).a) proper answer)
  place-refused new before after says proper NotFound answer read = absurd answer
  place-refused new before after says proper Exists answer read =
      let both = is-there asker dir name (user_at m p) (is_for_execution (regs_at m p).a) proper answer in
      well-refused m was now p terms creating place.drive new before after E_CEF (creates-exists asker was list name dir both.0 says both.1) read
  place-refused new before after says proper (File (Device number)) answer read =
      broken m was now p terms creating place.drive new before after number dir.volume
      (ap (λ (at : FilePlace). Some at.drive) found.place_is) found.volume_is (create-stays asker was list
      dir.volume name dir) read
  place-refused new before after says proper (File NoCluster) answer read = absurd answer
  place-refused new before after says proper (File TooManyRuns) answer read = absurd answer

  -- ---- where the file is made

  module _ (number : ℕ) (numbered : new_number was.io.paths p ≡ Some number) (new : FileState) (before after : List DriveView) where
    abbrev it : VolumeChange
    it = change_by asker was list name dir number

    abbrev making : FileStep
    making = makes_there asker was list name dir

    abbrev full : Bool
    full = is_full_for it.change dir.volume dir.file

    abbrev none : Bool
    none = has_no_segment dir.volume dir.file

    on-volume : volume_at was dir.place.drive ≡ Some dir.volume
    on-volume = ap (λ (at : FilePlace). volume_at was at.drive) found.place_is ∙ found.volume_is

    abbrev Changed : Result ℕ DirError → Type 0
    Changed answer = HasChanged (asked_of it asker) answer dir.place.drive dir.volume dir.file was new before after

    abbrev asked_at : FilePlace → ℕ → ℕ → Asked
    asked_at at attr user = record { change = creates at.number name attr; user = user; now = now }

    -- what was answered, of the directory that was found
    pub change-answered : (mid : FileState) (views : List DriveView) (answer : Result ℕ DirError) (attr user : ℕ)
        (most : DiskVolume → DiskFile → DiskVolume → ℕ) → HasReadDrive None place.drive was mid before views
        → new.io ≡ mid.io → new.directories ≡ mid.directories → new.records ≡ mid.records → attr ≡ (regs_at m p).b
        → user ≡ user_at m p → ChangesVolume place (asked_at place attr user) answer most mid.disks views new.disks
        after → Changed answer
    change-answered mid views answer attr user most read io directories records attr_is user_is changed =
        let first : HasChanged (asked_at place attr user) answer place.drive dir.volume dir.file was new before after =
        reached.has-changed-then (asked_at place attr user) answer place.drive dir.volume dir.file was mid new before views after read
        (reached.has-changed mid new views after (with_drives was (drive_states views)) place dir.volume dir.file
        (asked_at place attr user) answer most read.stands found.volume_is found.file_is io directories records
        changed) in
        subst (λ (at : FilePlace). HasChanged (asked_at at (regs_at m p).b (user_at m p)) answer at.drive dir.volume dir.file was new before after) (sym found.place_is)
        (subst (λ (asked : Asked). HasChanged asked answer place.drive dir.volume dir.file was new before after)
        (ap (λ (attr : ℕ). asked_at place attr user) attr_is ∙ ap (asked_at place (regs_at m p).b) user_is) first)

    -- and how often the drive was called until then
    pub change-called : (few : ℕ) (mid : FileState) (views : List DriveView) (answer : Result ℕ DirError)
        (asked : Asked) → HasReadIn few None place.drive was mid before views → new.io ≡ mid.io → new.directories ≡
        mid.directories → new.records ≡ mid.records → ChangesVolume place asked answer (λ v file left. entering_calls
        v file 2 answer) mid.disks views new.disks after → CalledAtMost (few + calls_at_place dir.volume dir.file)
        before after
    change-called few mid views answer asked read io directories records changed =
        let most : ℕ = entering_calls dir.volume dir.file 2 answer in
        called-more (few + most) (few + calls_at_place dir.volume dir.file) before after
        (sum-within few most (calls_at_place dir.volume dir.file) (entering-within dir.volume dir.file answer))
        (called-then few most before views after read.calls
        (has-changed-in mid new views after (with_drives was (drive_states views)) place dir.volume dir.file asked
        answer (λ v file left. entering_calls v file 2 answer) read.read.stands found.volume_is found.file_is io
        directories records changed).calls)

    -- the files then
    abbrev left : (answer : Result ℕ DirError) → Changed answer → Files
    left answer changed = with_drives (with_volume was dir.place.drive changed.left) (drive_states after)

    room : (deed : FileStep) → makes_there asker was list name dir ≡ deed → deed_of making was ≡ deed_of deed was
    room deed is = ap (λ (step : FileStep). deed_of step was) is

    -- the volume is as it was
    same-left : (end : ℕ) (now_left : DiskVolume) → now_left ≡ dir.volume → FileDoes making asker was
        (refuses_so end (with_drives was (drive_states after))) terms terms → FileDoes making asker was
        (refuses_so end (with_drives (with_volume was dir.place.drive now_left) (drive_states after))) terms terms
    same-left end now_left same does =
        subst (λ (files : Files). FileDoes making asker was (refuses_so end (with_drives files (drive_states after))) terms terms)
        (sym (ap (with_volume was dir.place.drive) same ∙ reached.same-volume was dir.place.drive dir.volume on-volume)) does

    -- it was refused, or the drive failed
    pub make-refused : (fault : FileFault) (changed : Changed (Err (File fault))) → FileDoes making asker was (refuses_so (file_error fault) (left (Err (File fault)) changed)) terms terms
    make-refused (Device n) changed =
        breaks making asker was dir.place.drive n dir.volume changed.left (drive_states after) terms refl on-volume
        (subst (λ (step : FileStep). MayBeLeft (deed_of step was) asker dir.volume changed.left) (sym (makes-numbered asker was list name dir number numbered))
        (room-broken asker was list name dir number full none dir.volume changed.left changed.answers.may_be changed.answers.refused))
        changed.moved
    make-refused NoCluster changed =
        same-left E_FULL changed.left changed.answers.same
        (goes-well making asker was (refuses_so E_FULL was) (drive_states after) terms
        (room _ (makes-numbered asker was list name dir number numbered) ∙ room-full asker was list name dir number full none changed.answers.few) changed.moved)
    make-refused TooManyRuns changed =
        same-left E_SLF changed.left changed.answers.same
        (goes-well making asker was (refuses_so E_SLF was) (drive_states after) terms
        (room _ (makes-numbered asker was list name dir number numbered) ∙ room-none asker was list name dir number full none changed.answers.enough (listed changed.answers.full)) changed.moved)
      where
        listed : (none ≡ true) ⊎ ⊥ → none ≡ true
        listed (inl is) = is
        listed (inr never) = absurd never

    -- ---- what it leaves of the drives

    on-file : dir.volume.files dir.place.number ≡ Some dir.file
    on-file = ap (λ (at : FilePlace). dir.volume.files at.number) found.place_is ∙ found.file_is

    changes-it : full ≡ false → none ≡ false → deed_of making was ≡ changes it
    changes-it enough list_free =
        room _ (makes-numbered asker was list name dir number numbered) ∙ room-made asker was list name dir number full none enough list_free

    stays-refused : (fault : FileFault) → Changed (Err (File fault)) → IsRefusedChange (Err (File fault)) ⊎
        (is_refused (asked_of it asker) dir.volume dir.file ≡ true) → KeepsDrives making asker was
        (Error (file_error fault)) before after
    stays-refused fault changed quiet =
        keeps-refused making asker was (Error (file_error fault)) dir.place.drive before after (inl refl) (error-keeps (deed_of making was) (file_error fault))
        (asked_of it asker) (Err (File fault)) dir.volume dir.file new changed quiet

    broken-by : (n : ℕ) → Changed (Err (File (Device n))) → was.drives ≡ drive_states before → (f s : Bool) → full ≡ f → none ≡ s → KeepsDrives making asker was (Error n) before after
    broken-by n changed first true s few segments = stays-refused (Device n) changed (inr (ap (λ (f : Bool). f || none) few))
    broken-by n changed first false true enough segments =
        stays-refused (Device n) changed (inr (ap (λ (f : Bool). f || none) enough ∙ segments))
    broken-by n changed first false false enough segments =
        keeps-broken making asker was it dir.volume dir.file new before after refl (changes-it enough segments) on-volume on-file n first changed

    pub make-keeps : (fault : FileFault) → Changed (Err (File fault)) → was.drives ≡ drive_states before → KeepsDrives making asker was (Error (file_error fault)) before after
    make-keeps (Device n) changed first = broken-by n changed first full none refl refl
    make-keeps NoCluster changed first = stays-refused NoCluster changed (inl tt)
    make-keeps TooManyRuns changed first = stays-refused TooManyRuns changed (inl tt)

    -- it was made, and a path begins on it
    pub make-ends : (n : ℕ) (changed : Changed (Ok n)) (end : CallEnd) (processes : ProcState) (state : FileState)
        (most : ℕ) → CalledAtMost most before after → EndsQuietly (begins asker (left (Ok n) changed) list
        (FileTarget place.drive n)) m (left (Ok n) changed) p end processes state after → EndsFileAttempt making most m was now p
        end processes state before after terms
    make-ends n changed end processes state most calls ended =
        let files : Files = left (Ok n) changed in
        let it_is : deed_of (begins asker files list (FileTarget place.drive n)) files ≡ leaves_so
        (leaves (answers (opened_regs (regs_at m p) list number))
        (with_path_table files (paths_after_begin was.io.paths p (new_desc (FileTarget place.drive n)
        (regs_at m p).a)))) =
        begins-numbered asker files list (FileTarget place.drive n) number numbered in
        let begun : leaves_so ended.effect ≡ leaves_so (leaves (answers (opened_regs (regs_at m p) list number))
        (with_path_table files (paths_after_begin was.io.paths p (new_desc (FileTarget place.drive n)
        (regs_at m p).a)))) = sym ended.is ∙ it_is in
        let effect_is : ended.effect ≡ leaves (answers (opened_regs (regs_at m p) list number))
        (with_path_table files (paths_after_begin was.io.paths p (new_desc (FileTarget place.drive n)
        (regs_at m p).a))) = cc in
        let is_done : end ≡ Done = (subst (λ (effect : FileEffect). ReturnsCallEnd m p (result_of m p (io_effect effect)) end processes) effect_is ended.comes).0 in
        let on_drive = ap (λ (at : FilePlace). leaves (answers (opened_regs (regs_at m p) list number))
        (with_path_table files (paths_after_begin was.io.paths p (new_desc (FileTarget at.drive n)
        (regs_at m p).a)))) found.place_is in
        record {
          effect = ended.effect;
          does = subst (λ (effect : FileEffect). FileDoes making asker was effect terms terms) (on_drive ∙ sym effect_is)
              (is-made making asker was it dir.volume changed.left dir.file n (drive_states after) terms
              (changes-it changed.answers.enough changed.answers.list)
              on-volume changed.answers changed.moved);
          comes = ended.comes;
          stands = inl ended.stands;
          calls = calls;
          drives = subst (λ (end : CallEnd). KeepsDrives making asker was end before after) (sym is_done)
              (keeps-made making asker was it dir.volume dir.file new before after refl (changes-it changed.answers.enough changed.answers.list) on-volume on-file n changed);
        }

-- what was answered to the one who walks was answered to the one who asks
pub answered-to : (m : Processes) (p : ℕ) (file : DiskFile) (name : List ℕ) (user : ℕ) (execute : Bool)
    (result : Result ℕ DirError) → user_at m p ≡ user → execute ≡ is_for_execution (regs_at m p).a → AnswersPlace file
    name user execute result → AnswersPlace file name (user_at m p) (is_for_execution (regs_at m p).a) result
answered-to m p file name user execute result user_is execute_is answer =
    subst (λ (execute : Bool). AnswersPlace file name (user_at m p) execute result) execute_is
    (subst (λ (user : ℕ). AnswersPlace file name user execute result) (sym user_is) answer)

-- and the calls that found it are those of the one who asks
module _ (m : Processes) (now : TimePacket) (p : ℕ) (v : DiskVolume) (file : DiskFile) (name : List ℕ) (user : ℕ)
    (execute : Bool) (user_is : user_at m p ≡ user) (execute_is : execute ≡ is_for_execution (regs_at m p).a) where
  pub place-same : place_calls file name user execute ≡ place_calls file name (user_at m p) (is_for_execution (regs_at m p).a)
  place-same =
      ap (place_calls file name user) execute_is
      ∙ ap (λ (user : ℕ). place_calls file name user (is_for_execution (regs_at m p).a)) (sym user_is)

  pub place-within : place_calls file name user execute ≤ new_file_calls (asker_of m p now) name v file
  place-within =
      subst (λ (n : ℕ). n ≤ new_file_calls (asker_of m p now) name v file) (sym place-same)
      (within-sum (place_calls file name (user_at m p) (is_for_execution (regs_at m p).a)) (calls_at_place v file))

  -- what is made at the place that was found is what is made in the directory
  module _ (was : Files) (list : PathList) (place : FilePlace) (at : ℕ) (answer : AnswersPlace file name user execute (Ok at))
      (says : says_directory (regs_at m p).b ≡ false) where
    abbrev dir : Found
    dir = record { place = place; volume = v; file = file }

    pub place-made : (most : ℕ) (end : CallEnd) (processes : ProcState) (left : FileState) (before later : List DriveView)
        (terms : List TerminalState) → EndsFileAttempt (makes_there (asker_of m p now) was list name dir)
        ((most + place_calls file name user execute) + calls_at_place v file) m was now p end processes left before later
        terms → EndsFileAttempt (creates_there (asker_of m p now) was list name dir)
        (most + new_file_calls (asker_of m p now) name v file) m was now p end processes left before later terms
    place-made most end processes left before later terms made =
        let is = answered-to m p file name user execute (Ok at) user_is execute_is answer in
        ends-as m was now p end processes left before later terms (makes_there (asker_of m p now) was list name dir) (creates_there (asker_of m p now) was list name dir)
        ((most + place_calls file name user execute) + calls_at_place v file) (most + new_file_calls (asker_of m p now) name v file)
        (sym (ap (reaches place.drive) (creates-on (asker_of m p now) was list name dir is.allowed says is.absent.names_none)))
        (sum-behind most (place_calls file name user execute) (calls_at_place v file) ∙ ap (λ (n : ℕ). most + (n + calls_at_place v file)) place-same) made
