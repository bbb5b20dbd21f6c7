-- How a deletion ends, and how many calls of the drive it makes.
use Rattle.std.proofs.Common.{◌≡◌, ◌⊎◌, ℕ, ◌+◌, Bool, Option, Some, None, IsSome, List, Result, Ok, Err, inl, inr, refl, sym, ap, ◌∙◌, subst}
use Rattle.std.specs.Prelude.{OnErr, IsNone}
use Rattle.std.proofs.lemmas.Bool.{false≢true}
use Rattle.rbf_model.specs.File.{DiskFile}
use Rattle.rbf_model.specs.Volume.{DiskVolume, in_file}
use Rattle.rbf_model.specs.Walk.{WalkEnd, arrives}
use Rattle.rbf_change.specs.Calls.{shape}
use Rattle.rbf_change.specs.Names.{deletion_end}
use Rattle.rbf_access.specs.Drive.{DriveCounts, MovesCounts}
use Rattle.rbf_access.specs.Faults.{file_fault}
use Rattle.rbf_access.specs.MapMarks.{marking_sectors}
use Rattle.rbf_access.specs.Mounted.{RepresentsVolume}
use Rattle.rbf_access.specs.Reading.{OnVolumeFile}
use Rattle.rbf_access.specs.declared.faults.FileFault.{FileFault}
use Rattle.rbf_access.specs.declared.faults.FileFault.TheVariants.{Device, NoCluster, TooManyRuns}
use Rattle.rbf_access.proofs.Counting.{counts_then}
use Rattle.rbf_walk.specs.Walk.{AnswersWalk, calls_on, directory_fault}
use Rattle.rbf_walk.specs.declared.error.DirError.{DirError}
use Rattle.rbf_walk.specs.declared.error.DirError.TheVariants.{NotAllowed, BadPath, NotFound, Exists, File}
use Rattle.rbf_walk.proofs.Stepping.{same_content}
use Rattle.rbf_entries.specs.Deletions.{IsDeletable}
use Rattle.rbf_entries.specs.declared.deletion.Deletable.{Deletable}
use Rattle.rbf_entries.specs.Deleted.{AnswersDeletion, AnswersDeletionOf, IsHalfDeleted, DeletionStops, as_before, lost_now, MayBeDeleted, file_deletion_calls}

-- no entry was made free
pub kept_answer : (end : WalkEnd) (e : DirError) (r : Result (Unit {0}) DirError) → r ≡ Err e → AnswersWalk end (Err e) → AnswersDeletion end r
kept_answer end e r is answers = subst (AnswersDeletion end) (sym is) (by_error e answers)
  where
    by_error : (x : DirError) → AnswersWalk end (Err x) → AnswersDeletion end (Err x)
    by_error NotAllowed h = h
    by_error BadPath h = h
    by_error NotFound h = h
    by_error Exists h = h
    by_error (File (Device k)) h = tt
    by_error (File NoCluster) h = h
    by_error (File TooManyRuns) h = h

-- the drive has failed, at the sector of the entry or later
pub stopped_answer : (v : DiskVolume) (d n : ℕ) (name : List ℕ) (media now : Option (List ℕ)) (fault : FileFault)
    → IsSome (file_fault {A = Unit {0}} (Err fault)) → (now ≡ media) ⊎ IsHalfDeleted v d n name media now
    → AnswersDeletionOf v d n name media now (Err fault)
stopped_answer v d n name media now (Device k) device left = left
stopped_answer v d n name media now NoCluster device left = absurd (false≢true device)
stopped_answer v d n name media now TooManyRuns device left = absurd (false≢true device)

-- a deletion of a file that was found ends by a fault of the drive alone
pub only_device : (v : DiskVolume) (d n : ℕ) (name : List ℕ) (media now : Option (List ℕ)) (fault : FileFault)
    → AnswersDeletionOf v d n name media now (Err fault) → IsSome (file_fault {A = Unit {0}} (Err fault))
only_device v d n name media now (Device k) answer = refl
only_device v d n name media now NoCluster answer = absurd answer
only_device v d n name media now TooManyRuns answer = absurd answer

pub fault_answer : (end : WalkEnd) (fault : FileFault) (r : Result (Unit {0}) DirError) → r ≡ Err (File fault) → IsSome (file_fault {A = Unit {0}} (Err fault)) → AnswersDeletion end r
fault_answer end fault r is device = subst (AnswersDeletion end) (sym is) (by_fault fault device)
  where
    by_fault : (f : FileFault) → IsSome (file_fault {A = Unit {0}} (Err f)) → AnswersDeletion end (Err (File f))
    by_fault (Device n) some = tt
    by_fault NoCluster some = absurd (false≢true some)
    by_fault TooManyRuns some = absurd (false≢true some)

-- which is no refusal
pub no_refusal : (fault : FileFault) (r : Result (Unit {0}) DirError) (P : Type 0) → r ≡ Err (File fault) → IsSome (file_fault {A = Unit {0}} (Err fault)) → IsNone (directory_fault r) → P
no_refusal fault r P is device none = by_fault fault device (subst (λ x. IsNone (directory_fault x)) is none)
  where
    by_fault : (f : FileFault) → IsSome (file_fault {A = Unit {0}} (Err f)) → IsNone (directory_fault {A = Unit {0}} (Err (File f))) → P
    by_fault (Device n) some h = absurd (cc h)
    by_fault NoCluster some h = absurd (false≢true some)
    by_fault TooManyRuns some h = absurd (false≢true some)

-- nothing has changed at a refusal of the call that finds the entry
pub refused_still : (r : Result (Unit {0}) DirError) (media now : Option (List ℕ)) → now ≡ media → OnErr r (IsNone (directory_fault r) → now ≡ media)
refused_still (Ok done) media now same = tt
refused_still (Err e) media now same = λ none. same

-- the file that was found, in whichever volume the media represents
module _ (media : Option (List ℕ)) (d : ℕ) (name : List ℕ) (found : Deletable) (at : IsDeletable media d name found) where
  pub file_found : (u : DiskVolume) → RepresentsVolume media u → u.files found.descriptor ≡ Some at.free.file
  file_found u on =
      ap (λ (x : DiskVolume). x.files found.descriptor) (same_content media u at.free.place.content on at.free.place.on)
      ∙ ap at.free.place.content.files at.descriptor_is ∙ at.free.names

  module _ (mid : Option (List ℕ)) (same : mid ≡ media) where
    pub found_still : MayBeDeleted mid found
    found_still = record { directory = d; name = name; is = subst (λ m. IsDeletable m d name found) (sym same) at }

    -- its deletion begins where the search for it ended
    pub answer_here : (now : Option (List ℕ)) (r : Result (Unit {0}) FileFault)
        → ((e : ℕ) (other : List ℕ) (u : DiskVolume) → IsDeletable mid e other found → RepresentsVolume mid u → AnswersDeletionOf u e found.descriptor other mid now r)
        → (u : DiskVolume) → RepresentsVolume media u → AnswersDeletionOf u d found.descriptor name media now r
    answer_here now r answers u on =
        subst (λ m. (e : ℕ) (other : List ℕ) (x : DiskVolume) → IsDeletable m e other found → RepresentsVolume m x → AnswersDeletionOf x e found.descriptor other m now r) same answers d name u at on

    pub calls_here : (f : Option ℕ) (s t : DriveCounts) → OnVolumeFile mid found.descriptor (λ x file. MovesCounts f (file_deletion_calls x found.descriptor file) s t)
        → (u : DiskVolume) → RepresentsVolume media u → MovesCounts f (file_deletion_calls u found.descriptor at.free.file) s t
    calls_here f s t moves u on =
        subst (λ m. OnVolumeFile m found.descriptor (λ x file. MovesCounts f (file_deletion_calls x found.descriptor file) s t)) same moves u at.free.file on (file_found u on)

-- a fault ended it, of a user who is allowed the deletion
pub stops_so : (media now : Option (List ℕ)) (d n : ℕ) (name : List ℕ) (user : ℕ) (execute : Bool) → OnVolumeFile media d (λ x file. deletion_end x.files file name user execute ≡ arrives n)
    → (u : DiskVolume) → RepresentsVolume media u → (fault : FileFault) → AnswersDeletionOf u d n name media now (Err fault) → DeletionStops u d name user execute media now
stops_so media now d n name user execute allowed u on (Device k) (inl same) = as_before same
stops_so media now d n name user execute allowed u on (Device k) (inr half) = lost_now (record { half = half; allowed = allowed u half.deletes.dir on half.deletes.is })
stops_so media now d n name user execute allowed u on NoCluster answer = absurd answer
stops_so media now d n name user execute allowed u on TooManyRuns answer = absurd answer

-- the calls of the search, and those of the deletion
pub all_calls : (n : ℕ) (m : ℕ → ℕ) (end : WalkEnd) (k : ℕ) → end ≡ arrives k → (most : ℕ) → most ≡ m k → (f : Option ℕ) (s t w : DriveCounts) → MovesCounts None n s t → MovesCounts f most t w
    → MovesCounts f (n + calls_on end m) s w
all_calls n m end k goes most same f s t w one other =
    subst (λ x. MovesCounts f (n + calls_on x m) s w) (sym goes)
    (subst (λ x. MovesCounts f (n + x) s w) same (counts_then f n most s t w one other))

-- of which the bound asks the volume
pub file_marks : (v : DiskVolume) (n : ℕ) (file : DiskFile) → v.files n ≡ Some file → file_deletion_calls v n file ≡ 2 + marking_sectors (shape v) (in_file (shape v) n (v.files n))
file_marks v n file is = ap (λ o. 2 + marking_sectors (shape v) (in_file (shape v) n o)) (sym is)
