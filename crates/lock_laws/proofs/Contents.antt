-- An attempt changes of the contents of a file that a path is on only bytes of a granted request.
use Rattle.std.proofs.Common.{◌≡◌, ◌≢◌, ◌⊎◌, ℕ, ◌<◌, ◌≤◌, ◌==◌, Bool, true, false, Option, Some, None, List, [], length, refl, sym, ap, ◌∙◌, subst, inl, inr}
use Rattle.std.specs.Prelude.{option_and_then, slice_index_or, slice_set, if◌then◌else◌}
use Rattle.std.specs.Option.{option_map_or}
use Rattle.std.proofs.lemmas.Bool.{cases_eq, cases_lt, eqb-true, false≢true}
use Rattle.std.proofs.lemmas.List.{get_or-set_other, get_or-set_same, get_or_past}
use Rattle.std.proofs.lemmas.Option.{none-some, same_Some}
use Rattle.os9_base.specs.declared.registers.Regs.{Regs}
use Rattle.os9_outer.specs.TerminalState.{TerminalState}
use Rattle.lock_model.specs.Records.{Records, with_waiting, without_lock, written_by}
use Rattle.lock_model.specs.declared.lock.Request.{Request}
use Rattle.lock_model.specs.declared.place.FilePlace.{FilePlace}
use Rattle.rbf_model.specs.File.{DiskFile, is_directory}
use Rattle.rbf_model.specs.Volume.{DiskVolume}
use Rattle.rbf_change.specs.Calls.{SetsSize}
use Rattle.rbf_change.specs.Faults.{SizeEnds}
use Rattle.rbf_change.specs.NewFiles.{directory_plan, file_plan}
use Rattle.io_model.specs.Attempts.{pending_in}
use Rattle.io_model.specs.Step.{IoEnd, answers}
use Rattle.file_rules.specs.Attempts.{file_step}
use Rattle.file_rules.specs.Change.{Change, AppliesChange, ChangeMayLeave}
use Rattle.file_rules.specs.Files.{Files, volume_at}
use Rattle.file_rules.specs.Locking.{records_after}
use Rattle.file_rules.specs.Seek.{long_of}
use Rattle.file_rules.specs.Sharing.{is_open}
use Rattle.file_rules.specs.Step.{Deed, DoesDeed, FileDoes, FileEffect, FileStep, IsBroken, MayBeLeft, as_io, changes, deed_of, drive_of, leaves_so}
use Rattle.file_rules.specs.declared.path_call.PathCall.TheVariants as Call
use Rattle.file_rules.specs.declared.status.TheConstants.{SS_SIZE}
use Rattle.file_laws.proofs.Named.{is-named}
use Rattle.file_laws.specs.Kinds.{AreKinds, IsOfKind, IsOnTarget}
use Rattle.file_laws.specs.Attempt.{Attempt, ReportsDriveFault, made_in}
use Rattle.file_laws.specs.Claims.{MadePathCall}
use Rattle.file_laws.specs.Devices.{number_in}
use Rattle.file_laws.proofs.Requests.{over-drops}
use Rattle.lock_laws.specs.Contents.{ChangesWithin, ContentsCome, HasPath, IsCovered, IsPathOn, WritesBytes, contents_of}
use Rattle.file_laws.specs.Recorded.{IsGranted, path_in, settled}
use Rattle.lock_laws.proofs.Answers.{broken-fault}
use Rattle.file_laws.proofs.Claimed.{claimed}
use Rattle.lock_laws.proofs.Covering.{request-covers, request-file}
use Rattle.lock_laws.proofs.Open.{path-opens}
use Rattle.file_laws.proofs.ClaimSteps.{Claimed, IsClaimedChange, IsFolderIn, LeftSo, StepClaimed}
use Rattle.lock_laws.proofs.Volumes.{IsThen, Same, attributes-ended, attributes-then, deleted-then, deletion-ended, entered-then, new-file-ended, other-size-ended, other-sized, other-write-ended, other-written, size-ended, size-then, sized-same, write-ended, write-then}

same-place : (a b : FilePlace) → a.drive ≡ b.drive → a.number ≡ b.number → a ≡ b
same-place a b drive number =
    ap (λ (d : ℕ). let place : FilePlace = record { drive = d; number = a.number } in place) drive
    ∙ ap (λ (n : ℕ). let place : FilePlace = record { drive = b.drive; number = n } in place) number

-- the bytes of a file on one of these volumes
abbrev contents_in : List (Option DiskVolume) → FilePlace → List ℕ
contents_in volumes place =
    option_map_or (λ (file : DiskFile). file.contents) (option_and_then (λ (v : DiskVolume). v.files place.number) (slice_index_or volumes place.drive None)) []

module _ (m : MadePathCall) (kinds : AreKinds m.files) (covered : IsCovered m) (place : FilePlace) (path : ℕ) (on : IsPathOn m.files.io.paths path place) (now : Records) (faulted : Type 0) where
  abbrev Come : List (Option DiskVolume) → Type 0
  Come volumes = ContentsCome m place now faulted (contents_in m.files.volumes place) (contents_in volumes place)

  -- the records have a write of a granted request, or this is so
  abbrev Has : (request : Request) → IsGranted m request → List ℕ → Type 0
  Has request granted bytes = (now ≡ written_by (settled m) (path_in granted) request.lock bytes) ⊎ faulted

  -- the records beside a change, without a request
  abbrev IsAfter : Records → Type 0
  IsAfter records = now ≡ with_waiting records m.asker.caller.process.0 None

  same-come : (volumes : List (Option DiskVolume)) → volumes ≡ m.files.volumes → Come volumes
  same-come volumes same = ContentsCome.stay (ap (λ (volumes : List (Option DiskVolume)). contents_in volumes place) same)

  -- the file is there, and is not a directory
  there-of : IsOfKind m.files (record { drive = place.drive; number = place.number }) false
  there-of = subst (IsOnTarget m.files on.desc.mode) on.on (kinds.paths path on.desc on.there)

  module _ (drive : ℕ) (v w : DiskVolume) (mounted : volume_at m.files drive ≡ Some v) (volumes : List (Option DiskVolume)) (set : volumes ≡ slice_set m.files.volumes drive (Some w)) where
    -- on another drive
    other-drive : place.drive ≢ drive → Come volumes
    other-drive apart =
        ContentsCome.stay (ap (λ (v : Option DiskVolume). option_map_or (λ (file : DiskFile). file.contents) (option_and_then (λ (v : DiskVolume). v.files place.number) v) [])
        (ap (λ (volumes : List (Option DiskVolume)). slice_index_or volumes place.drive None) set ∙ get_or-set_other m.files.volumes drive place.drive (Some w) None apart))

    drive-low : drive < length m.files.volumes
    drive-low = elim (cases_lt drive (length m.files.volumes)) [
      | inl low ↦ low
      | inr past ↦ absurd (none-some v (sym (get_or_past m.files.volumes drive None past) ∙ mounted))
    ]

    module _ (here : place.drive ≡ drive) where
      was-there : v.files place.number ≡ Some there-of.file
      was-there =
          sym (ap (λ (v : Option DiskVolume). option_and_then (λ (v : DiskVolume). v.files place.number) v) (ap (volume_at m.files) here ∙ mounted)) ∙ there-of.there

      old-contents : contents_in m.files.volumes place ≡ there-of.file.contents
      old-contents = ap (λ (file : Option DiskFile). option_map_or (λ (file : DiskFile). file.contents) file []) there-of.there

      now-volume : slice_index_or volumes place.drive None ≡ Some w
      now-volume =
          ap (λ (volumes : List (Option DiskVolume)). slice_index_or volumes place.drive None) set
          ∙ ap (λ (n : ℕ). slice_index_or (slice_set m.files.volumes drive (Some w)) n None) here
          ∙ get_or-set_same m.files.volumes drive (Some w) None drive-low

      new-contents : (fact : List ℕ → List ℕ → Type 0) (it : IsThen fact v w place.number there-of.file) → contents_in volumes place ≡ it.new.contents
      new-contents fact it =
          ap (λ (v : Option DiskVolume). option_map_or (λ (file : DiskFile). file.contents) (option_and_then (λ (v : DiskVolume). v.files place.number) v) []) now-volume
          ∙ ap (λ (file : Option DiskFile). option_map_or (λ (file : DiskFile). file.contents) file []) it.there

      then-come : IsThen Same v w place.number there-of.file → Come volumes
      then-come it = ContentsCome.stay (new-contents Same it ∙ it.holds ∙ sym old-contents)

      within-come : (request : Request) (bytes : List ℕ) (granted : IsGranted m request) → request.lock.file ≡ place
          → WritesBytes m granted.requests.found bytes → Has request granted bytes → IsThen (ChangesWithin request.lock.range bytes) v w place.number there-of.file
          → Come volumes
      within-come request bytes granted file writes has it =
          ContentsCome.within request bytes granted file writes
          (subst (λ (old : List ℕ). ChangesWithin request.lock.range bytes old (contents_in volumes place)) (sym old-contents)
          (subst (ChangesWithin request.lock.range bytes there-of.file.contents) (sym (new-contents (ChangesWithin request.lock.range bytes) it)) it.holds)) has

      -- the place of a granted request whose number is this one's
      place-is : (request : Request) (granted : IsGranted m request) → drive ≡ granted.requests.found.place.drive → place.number ≡ granted.requests.found.place.number → request.lock.file ≡ place
      place-is request granted one two =
          request-file m covered request granted.requests ∙ sym (same-place place granted.requests.found.place (here ∙ one) two)

      -- the file of such a request is this one
      found-is : (request : Request) (granted : IsGranted m request) → drive ≡ granted.requests.found.place.drive
          → place.number ≡ granted.requests.found.place.number → granted.requests.found.file ≡ there-of.file
      found-is request granted one two =
          let found = granted.requests.found in
          let named = is-named m.files m.asker.caller.process.0 (number_in m.call m.asker) found granted.requests.names in
          let same : found.volume ≡ v = same_Some found.volume v (sym named.mounted ∙ ap (volume_at m.files) (sym one) ∙ mounted) in
          same_Some found.file there-of.file (sym named.there ∙ ap (λ (v : DiskVolume). v.files found.place.number) same ∙ ap v.files (sym two) ∙ was-there)

      -- a directory of the volume
      folder-in : (d : ℕ) → IsFolderIn m.files drive d → (folder : DiskFile) × (v.files d ≡ Some folder) × (is_directory folder ≡ true)
      folder-in d it =
          let same : it.volume ≡ v = same_Some it.volume v (sym it.mounted ∙ mounted) in
          (it.file, ap (λ (v : DiskVolume). v.files d) (sym same) ∙ it.there, it.is)

      -- a file on which no path is is another one
      closed-apart : (n : ℕ) → is_open m.files (record { drive = drive; number = n }) ≡ false → place.number ≢ n
      closed-apart n closed same =
          false≢true (sym closed ∙ ap (λ (n : ℕ). is_open m.files (record { drive = drive; number = n })) (sym same) ∙
          ap (λ (d : ℕ). is_open m.files (record { drive = d; number = place.number })) (sym here) ∙ path-opens
          m.files path place on)

      -- ---- done

      -- a size is another one, which is in the history, or the file has it already
      sized-come : (request : Request) (granted : IsGranted m request) → request.lock.file ≡ place
          → (m.call ≡ Call.SetStt) × (m.asker.caller.regs.b ≡ SS_SIZE) → granted.requests.found.file ≡ there-of.file
          → request.lock.range.end ≡ None → request.lock.range.start ≤
          long_of m.asker.caller.regs → SetsSize v w place.number (long_of m.asker.caller.regs) m.asker.now
          → (same : Bool) → (length granted.requests.found.file.contents == long_of m.asker.caller.regs) ≡ same
          → IsAfter (if same then without_lock m.files.records (path_in granted) else written_by m.files.records
          (path_in granted) request.lock []) → Come volumes
      sized-come request granted file set found open_end from it true is after =
          then-come (sized-same v w place.number there-of.file was-there (long_of m.asker.caller.regs) m.asker.now
          (ap (λ (file : DiskFile). length file.contents) (sym found) ∙ eqb-true (length granted.requests.found.file.contents) (long_of m.asker.caller.regs) is) it)
      sized-come request granted file set found open_end from it false is after =
          within-come request [] granted file (inr (set.0, set.1, refl)) (inl after)
          (size-then v w place.number there-of.file was-there request.lock.range open_end (long_of m.asker.caller.regs) m.asker.now from it)

      made-come : (change : Change) (records : Records) → IsClaimedChange m.call m.asker m.files m.terms drive change
          records → IsAfter records → (n : ℕ) → AppliesChange change m.asker.user m.asker.now v w n → Come volumes
      made-come change records (IsClaimedChange.by_write request bytes granted sent on is room recorded) after n makes =
          by_number (subst (λ (change : Change). AppliesChange change m.asker.user m.asker.now v w n) is makes)
        where
          has : Has request granted bytes
          has = inl (after ∙ ap (λ (records : Records). with_waiting records m.asker.caller.process.0 None) recorded)

          by_number : AppliesChange (Change.writes granted.requests.found.place.number request.lock.range.start bytes) m.asker.user m.asker.now v w n → Come volumes
          by_number it = elim (cases_eq place.number granted.requests.found.place.number) [
            | inl same ↦
                within-come request bytes granted (place-is request granted on same) (inl sent) has
                (write-then v w place.number there-of.file was-there request.lock.range bytes m.asker.now (room (request-covers m covered request granted.requests))
                (subst (λ (k : ℕ). AppliesChange (Change.writes k request.lock.range.start bytes) m.asker.user m.asker.now v w n) (sym same) it))
            | inr apart ↦ then-come (other-written v w place.number there-of.file was-there granted.requests.found.place.number request.lock.range.start bytes m.asker.now apart it)
          ]
      made-come change records (IsClaimedChange.by_size request granted set on is room recorded) after n makes =
          by_number (subst (λ (change : Change). AppliesChange change m.asker.user m.asker.now v w n) is makes)
        where
          by_number : AppliesChange (Change.sizes granted.requests.found.place.number (long_of m.asker.caller.regs)) m.asker.user m.asker.now v w n → Come volumes
          by_number it =
              let (open_end, from) = room (request-covers m covered request granted.requests) in
              elim (cases_eq place.number granted.requests.found.place.number) [
                | inl same ↦
                    sized-come request granted (place-is request granted on same) set (found-is request granted on same) open_end from
                    (subst (λ (k : ℕ). AppliesChange (Change.sizes k (long_of m.asker.caller.regs)) m.asker.user m.asker.now v w n) (sym same) it)
                    (length granted.requests.found.file.contents == long_of m.asker.caller.regs) refl
                    (after ∙ ap (λ (records : Records). with_waiting records m.asker.caller.process.0 None) recorded)
                | inr apart ↦ then-come (other-sized v w place.number there-of.file was-there granted.requests.found.place.number (long_of m.asker.caller.regs) m.asker.now apart it)
              ]
      made-come change records (IsClaimedChange.by_attributes k attributes is recorded) after n makes =
          then-come (attributes-then v w place.number there-of.file was-there k attributes m.asker.now (subst (λ (change : Change). AppliesChange change m.asker.user m.asker.now v w n) is makes))
      made-come change records (IsClaimedChange.by_file d name attributes is folder recorded) after n makes =
          let (dir, at, is_dir) = folder-in d folder in
          then-come (entered-then v w place.number there-of.file was-there there-of.kind d dir at is_dir n name
          (file_plan attributes m.asker.user m.asker.now) (kinds.clusters drive v mounted)
          (subst (λ (change : Change). AppliesChange change m.asker.user m.asker.now v w n) is makes))
      made-come change records (IsClaimedChange.by_directory d name attributes is folder recorded) after n makes =
          let (dir, at, is_dir) = folder-in d folder in
          then-come (entered-then v w place.number there-of.file was-there there-of.kind d dir at is_dir n name
          (directory_plan attributes m.asker.user m.asker.now d n) (kinds.clusters drive v mounted)
          (subst (λ (change : Change). AppliesChange change m.asker.user m.asker.now v w n) is makes))
      made-come change records (IsClaimedChange.by_deletion d k name is folder closed recorded) after n makes =
          let (dir, at, is_dir) = folder-in d folder in
          then-come (deleted-then v w place.number there-of.file was-there there-of.kind d dir at is_dir k name
          (closed-apart k closed) (subst (λ (change : Change). AppliesChange change m.asker.user m.asker.now v w n) is
          makes))

      -- ---- ended by a fault

      left-come : faulted → (change : Change) (records : Records) → IsClaimedChange m.call m.asker m.files m.terms
          drive change records → ChangeMayLeave change m.asker.user m.asker.now v w → Come volumes
      left-come broke change records (IsClaimedChange.by_write request bytes granted sent on is room recorded) left =
          by_number (subst (λ (change : Change). ChangeMayLeave change m.asker.user m.asker.now v w) is left)
        where
          by_number : ChangeMayLeave (Change.writes granted.requests.found.place.number request.lock.range.start bytes) m.asker.user m.asker.now v w → Come volumes
          by_number it = elim (cases_eq place.number granted.requests.found.place.number) [
            | inl same ↦
                within-come request bytes granted (place-is request granted on same) (inl sent) (inr broke)
                (write-ended v w place.number there-of.file was-there request.lock.range bytes (room (request-covers m covered request granted.requests))
                (subst (λ (k : ℕ). ChangeMayLeave (Change.writes k request.lock.range.start bytes) m.asker.user m.asker.now v w) (sym same) it))
            | inr apart ↦ then-come (other-write-ended v w place.number there-of.file was-there granted.requests.found.place.number request.lock.range.start bytes apart it)
          ]
      left-come broke change records (IsClaimedChange.by_size request granted set on is room recorded) left =
          by_number (subst (λ (change : Change). ChangeMayLeave change m.asker.user m.asker.now v w) is left)
        where
          by_number : ChangeMayLeave (Change.sizes granted.requests.found.place.number (long_of m.asker.caller.regs)) m.asker.user m.asker.now v w → Come volumes
          by_number (image, vol, it) =
              let (open_end, from) = room (request-covers m covered request granted.requests) in
              elim (cases_eq place.number granted.requests.found.place.number) [
                | inl same ↦
                    within-come request [] granted (place-is request granted on same) (inr (set.0, set.1, refl)) (inr broke)
                    (size-ended v w place.number there-of.file was-there request.lock.range open_end image (long_of m.asker.caller.regs) m.asker.now from
                    (subst (λ (k : ℕ). SizeEnds image v w k (long_of m.asker.caller.regs) m.asker.now) (sym same) it))
                | inr apart ↦ then-come (other-size-ended v w place.number there-of.file was-there image granted.requests.found.place.number (long_of m.asker.caller.regs) m.asker.now apart it)
              ]
      left-come broke change records (IsClaimedChange.by_attributes k attributes is recorded) left =
          then-come (attributes-ended v w place.number there-of.file was-there (subst (λ (change : Change). ChangeMayLeave change m.asker.user m.asker.now v w) is left))
      left-come broke change records (IsClaimedChange.by_file d name attributes is folder recorded) left =
          then-come (new-file-ended v w place.number there-of.file was-there d name _ (subst (λ (change : Change). ChangeMayLeave change m.asker.user m.asker.now v w) is left))
      left-come broke change records (IsClaimedChange.by_directory d name attributes is folder recorded) left =
          then-come (new-file-ended v w place.number there-of.file was-there d name _ (subst (λ (change : Change). ChangeMayLeave change m.asker.user m.asker.now v w) is left))
      left-come broke change records (IsClaimedChange.by_deletion d k name is folder closed recorded) left =
          by_image (subst (λ (change : Change). ChangeMayLeave change m.asker.user m.asker.now v w) is left)
        where
          by_image : ChangeMayLeave (Change.deletes d k name) m.asker.user m.asker.now v w → Come volumes
          by_image (image, vol, it) =
              let (dir, at, is_dir) = folder-in d folder in
              then-come (deletion-ended v w place.number there-of.file was-there there-of.kind d dir at is_dir image k name (closed-apart k closed) it)

-- ---- an attempt

module _ (it : Attempt) (place : FilePlace) (kinds : AreKinds it.files) (covered : IsCovered (made_in it)) (path : ℕ) (on : IsPathOn it.files.io.paths path place) where
  abbrev m : MadePathCall
  m = made_in it

  abbrev now : Records
  now = it.new.records

  abbrev OnVolumes : List (Option DiskVolume) → Type 0
  OnVolumes volumes = Come m kinds covered place path on now (ReportsDriveFault it) volumes

  abbrev Comes : FileEffect → Type 0
  Comes effect = OnVolumes effect.files.volumes

  -- the records are those after this
  abbrev IsBehind : FileEffect → Type 0
  IsBehind effect = now ≡ records_after effect.end effect.files.records it.process

  same-left : (effect : FileEffect) → effect.files.volumes ≡ it.files.volumes → Comes effect
  same-left effect same = same-come m kinds covered place path on now (ReportsDriveFault it) effect.files.volumes same

  left-same : (effect : FileEffect) → LeftSo it.call m.asker it.files m.terms effect → Comes effect
  left-same effect (LeftSo.still so) = same-left effect so.volumes
  left-same effect (LeftSo.held request kind bytes granted taken done recorded) = same-left effect done.volumes
  left-same effect (LeftSo.ended found names ends done recorded) = same-left effect done.volumes
  left-same effect (LeftSo.waited request requests answer is) =
      same-left effect (ap (λ (it : FileEffect). it.files.volumes) is)
  left-same effect (LeftSo.opposed request requests (inl (answer, is))) =
      same-left effect (ap (λ (it : FileEffect). it.files.volumes) is)
  left-same effect (LeftSo.opposed request requests (inr (answer, is))) =
      same-left effect (ap (λ (it : FileEffect). it.files.volumes) is)

  -- the records of a change that is answered
  change-after : (effect done : FileEffect) (regs : Regs) → done.end ≡ answers regs → effect.end ≡ done.end
      → effect.files.records ≡ done.files.records → IsBehind effect → now ≡ with_waiting done.files.records it.process
      None
  change-after effect done regs answered end records behind =
      behind
      ∙ ap (λ (end : IoEnd). records_after end effect.files.records it.process) end
      ∙ ap (λ (records : Records). records_after done.end records it.process) records
      ∙ over-drops done.end done.files.records it.process (ap pending_in answered)

  deed-come : (reached : Option ℕ) (deed : Deed) → Claimed it.call m.asker it.files m.terms reached deed
      → (effect : FileEffect) (before after : List TerminalState) → IsBehind effect → DoesDeed deed m.asker it.files
      effect before after → Comes effect
  deed-come reached (leaves_so left) so effect before after behind (is, same) =
      subst Comes (sym is) (left-same left so)
  deed-come reached (as_io io) so effect before after behind (done, does, is) =
      same-left effect (ap (λ (it : FileEffect). it.files.volumes) is)
  deed-come reached (changes change) so effect before after behind (inl changed, same) =
      elim (cases_eq place.drive change.drive) [
        | inl here ↦
            made-come m kinds covered place path on now (ReportsDriveFault it) change.drive changed.old changed.new changed.is
            effect.files.volumes set here change.change (change.effect changed.number).files.records
            (so.claimed changed.number) changed-after changed.number changed.makes
        | inr apart ↦ other-drive m kinds covered place path on now (ReportsDriveFault it) change.drive changed.old changed.new changed.is effect.files.volumes set apart
      ]
    where
      set : effect.files.volumes ≡ slice_set it.files.volumes change.drive (Some changed.new)
      set =
          ap (λ (it : FileEffect). it.files.volumes) changed.effect_is
          ∙ ap (λ (volumes : List (Option DiskVolume)). slice_set volumes change.drive (Some changed.new)) (so.answered changed.number).volumes

      changed-after : now ≡ with_waiting (change.effect changed.number).files.records it.process None
      changed-after =
          change-after effect (change.effect changed.number) (so.answered changed.number).regs (so.answered changed.number).end
          (ap (λ (it : FileEffect). it.end) changed.effect_is) (ap (λ (it : FileEffect). it.files.records) changed.effect_is) behind
  deed-come reached (changes change) so effect before after behind (inr long, same) =
      same-left effect (ap (λ (it : FileEffect). it.files.volumes) long.effect_is)

  -- what a fault leaves
  fault-come : ReportsDriveFault it → (reached : Option ℕ) (deed : Deed) → Claimed it.call m.asker it.files m.terms reached
      deed → (drive : ℕ) → reached ≡ Some drive → (v w : DiskVolume) → volume_at it.files drive ≡ Some v
      → MayBeLeft deed m.asker v w → (volumes : List (Option DiskVolume)) → volumes ≡ slice_set it.files.volumes drive
      (Some w) → OnVolumes volumes
  fault-come broke reached deed so drive reaches v w is left volumes set =
      elim (cases_eq place.drive drive) [
        | inl here ↦ by_deed deed so left here
        | inr apart ↦ other-drive m kinds covered place path on now (ReportsDriveFault it) drive v w is volumes set apart
      ]
    where
      same : w ≡ v → place.drive ≡ drive → OnVolumes volumes
      same one here =
          then-come m kinds covered place path on now (ReportsDriveFault it) drive v w is volumes set here
          (attributes-ended v w place.number _ (was-there m kinds covered place path on now (ReportsDriveFault it) drive v w is volumes set here) one)

      by_deed : (deed : Deed) → Claimed it.call m.asker it.files m.terms reached deed → MayBeLeft deed m.asker v w → place.drive ≡ drive → OnVolumes volumes
      by_deed (leaves_so effect) so left here = same left here
      by_deed (as_io step) so left here = same left here
      by_deed (changes change) so left here =
          let one : change.drive ≡ drive = same_Some change.drive drive (sym so.reaches ∙ reaches) in
          left-come m kinds covered place path on now (ReportsDriveFault it) drive v w is volumes set here broke change.change (change.effect 0).files.records
          (subst (λ (drive : ℕ). IsClaimedChange it.call m.asker it.files m.terms drive change.change (change.effect 0).files.records) one (so.claimed 0)) left

  does-come : (step : FileStep) → StepClaimed it.call m.asker it.files m.terms step → (effect : FileEffect)
      (before after : List TerminalState) → IsBehind effect → (IsBroken step m.asker it.files effect → ReportsDriveFault it)
      → FileDoes step m.asker it.files effect before after → Comes effect
  does-come step so effect before after behind broke (inl well) =
      subst Comes (sym well.effect_is)
      (deed-come (drive_of step) (deed_of step it.files) so well.it before after
      (behind ∙ ap (λ (effect : FileEffect). records_after effect.end effect.files.records it.process) well.effect_is) well.does)
  does-come step so effect before after behind broke (inr (broken, same)) =
      fault-come (broke broken) (drive_of step) (deed_of step it.files) so broken.drive broken.reached broken.old
      broken.left broken.is broken.may_be effect.files.volumes (ap (λ (it : FileEffect). it.files.volumes)
      broken.effect_is)

  attempt-come : ContentsCome m place now (ReportsDriveFault it) (contents_of it.files place) (contents_of it.new place)
  attempt-come =
      subst (λ (new : Files). ContentsCome m place now (ReportsDriveFault it) (contents_of it.files place) (contents_of new place)) (sym it.attempted.state)
      (does-come (file_step it.call m.asker it.files m.terms) (claimed it.call m.asker it.files m.terms) it.attempted.effect it.before it.after
      (ap (λ (new : Files). new.records) it.attempted.state) (broken-fault it) it.attempted.does)

pub contents-come : (it : Attempt) (place : FilePlace) → AreKinds it.files → HasPath it.files place
    → IsCovered (made_in it) → ContentsCome (made_in it) place it.new.records (ReportsDriveFault it)
    (contents_of it.files place) (contents_of it.new place)
contents-come it place kinds (path, on) covered = attempt-come it place kinds covered path on
