-- A loaded file that is cut or made longer: what is said of it where its descriptor has been read is said of it before.
use Rattle.std.proofs.Common.{◌≡◌, ℕ, ◌+◌, ◌<◌, ◌≤◌, max, false, Option, Some, None, IsSome, Result, Ok, Err, List, [], length, sym, ap, ◌∙◌, subst, arith}
use Rattle.std.specs.Prelude.{if◌then◌else◌, nat_lt, OnErr, IsNone}
use Rattle.std.proofs.lemmas.Bool.{cond-true, cond-false, false_from_ne_true, ltb-true, lt-ltb, false≢true}
use Rattle.os9_base.specs.declared.registers.TimePacket.{TimePacket}
use Rattle.rbf_model.specs.Geometry.{map_sectors}
use Rattle.rbf_model.specs.File.{DiskFile}
use Rattle.rbf_model.specs.Volume.{DiskVolume}
use Rattle.rbf_change.specs.Agrees.{MountedPart}
use Rattle.rbf_change.specs.Calls.{shape}
use Rattle.rbf_change.proofs.LawfulWrites.{shape-image}
use Rattle.rbf_access.specs.declared.volume.Volume.{Volume}
use Rattle.rbf_access.specs.declared.faults.FileFault.{FileFault}
use Rattle.rbf_access.specs.declared.faults.FileFault.TheVariants.{Device, NoCluster, TooManyRuns}
use Rattle.rbf_access.specs.Faults.{file_fault}
use Rattle.rbf_access.specs.Drive.{DriveCounts, MovesCounts}
use Rattle.rbf_access.specs.Mounted.{mounted_part, RepresentsVolume, IsMounted}
use Rattle.rbf_access.proofs.Counting.{counts_then}
use Rattle.rbf_alloc.proofs.Growing.{agrees_on}
use Rattle.rbf_write.specs.Laying.{AnswersLaying}
use Rattle.rbf_write.specs.Outcomes.{AreMarked, laying_calls}
use Rattle.rbf_write.specs.Sizes.{Sizing, AnswersSize, giving_calls, size_calls}
use Rattle.rbf_write.proofs.Sized.{sized_answers, sized_calls}

-- where every error is a fault of the drive, none is a refusal
pub never_refused : (r : Result (Unit {0}) FileFault) (P : Type 0) → OnErr r (IsSome (file_fault r)) → OnErr r (IsNone (file_fault r) → P)
never_refused (Ok done) P device = tt
never_refused (Err (Device n)) P device = λ none. absurd (cc none)
never_refused (Err NoCluster) P device = absurd (false≢true device)
never_refused (Err TooManyRuns) P device = absurd (false≢true device)

-- a refusal that makes no call, after one has been made
pub refused_later : (r : Result (Unit {0}) FileFault) (a b c : ℕ) → b ≤ a + 1 → OnErr r (IsNone (file_fault r) → c ≡ b) → OnErr r (IsNone (file_fault r) → c ≤ a + 1)
refused_later (Ok done) a b c one refused = tt
refused_later (Err fault) a b c one refused = λ none. let same = refused none in omega arith

module _ (before mid : Option (List ℕ)) (n m size : ℕ) (now : TimePacket) (same : mid ≡ before) (number : m ≡ n)
    (v : DiskVolume) (file : DiskFile) (on : RepresentsVolume before v) (is : v.files n ≡ Some file) where
  pub cut_answers : (after : Option (List ℕ)) (result : Result (Unit {0}) FileFault)
      → ((w : DiskVolume) (f : DiskFile) → RepresentsVolume mid w → w.files m ≡ Some f → AnswersSize w f (record { number = m; size = size; now = now }) mid after result)
      → AnswersSize v file (record { number = n; size = size; now = now }) before after result
  cut_answers after result answers =
      let there : v.files m ≡ Some file = subst (λ i. v.files i ≡ Some file) (sym number) is in
      let cut = answers v file (record { image = on.image; is = same ∙ on.is; vol = on.vol }) there in
      subst (λ i. AnswersSize v file (record { number = i; size = size; now = now }) before after result) number
      (subst (λ b. AnswersSize v file (record { number = m; size = size; now = now }) b after result) same cut)

  abbrev sizing : Sizing
  sizing = record { number = n; size = size; now = now }

  pub cut_counts : (marks : ℕ) (f : Option ℕ) (s t u : DriveCounts) → size < length file.contents → MovesCounts None 1 s t
      → ((w : DiskVolume) (g : DiskFile) → RepresentsVolume mid w → w.files m ≡ Some g → MovesCounts f (1 + giving_calls w g (record { number = m; size = size; now = now })) t u)
      → MovesCounts f (size_calls v file marks sizing) s u
  cut_counts marks f s t u shorter one calls =
      let there : v.files m ≡ Some file = subst (λ i. v.files i ≡ Some file) (sym number) is in
      let cut : MovesCounts f (1 + giving_calls v file sizing) t u =
      subst (λ i. MovesCounts f (1 + giving_calls v file (record { number = i; size = size; now = now })) t u) number
      (calls v file (record { image = on.image; is = same ∙ on.is; vol = on.vol }) there) in
      let long : nat_lt (length file.contents) size ≡ false = false_from_ne_true (nat_lt (length file.contents) size) (λ h. let low = ltb-true (length file.contents) size h in absurd (omega arith)) in
      let all : size_calls v file marks sizing ≡ 2 + giving_calls v file sizing =
      cond-false (nat_lt (length file.contents) size) (1 + laying_calls v file marks size size) (if nat_lt size (length file.contents) then 2 + giving_calls v file sizing else 1) long
      ∙ cond-true (nat_lt size (length file.contents)) (2 + giving_calls v file sizing) 1 (lt-ltb size (length file.contents) shorter) in
      let plain : 1 + (1 + giving_calls v file sizing) ≡ 2 + giving_calls v file sizing = omega arith in
      subst (λ c. MovesCounts f c s u) (plain ∙ sym all) (counts_then f 1 (1 + giving_calls v file sizing) s t u one cut)

  pub longer_answers : (after : Option (List ℕ)) (result : Result (Unit {0}) FileFault) → length file.contents < size
      → ((w : DiskVolume) (f : DiskFile) → RepresentsVolume mid w → w.files m ≡ Some f → AnswersLaying w f (record { number = m; at = size; bytes = []; now = now }) mid after result)
      → AnswersSize v file (record { number = n; size = size; now = now }) before after result
  longer_answers after result longer answers =
      let most : max size (length file.contents) ≡ size = omega arith in
      subst (λ s. AnswersSize v file (record { number = n; size = s; now = now }) before after result) most
      (sized_answers before mid n m size now same number after result v file on is longer answers)

  pub longer_counts : (after : Option (List ℕ)) (result : Result (Unit {0}) FileFault) (f : Option ℕ) (s t u : DriveCounts) → length file.contents < size → MovesCounts None 1 s t
      → ((w : DiskVolume) (g : DiskFile) → RepresentsVolume mid w → w.files m ≡ Some g → (marks : ℕ) → AreMarked w g m after result marks → MovesCounts f (laying_calls w g marks size (size + 0)) t u)
      → (marks : ℕ) → AreMarked v file n after result marks → MovesCounts f (size_calls v file marks sizing) s u
  longer_counts after result f s t u longer one calls marks are =
      let most : max size (length file.contents) ≡ size = omega arith in
      subst (λ z. MovesCounts f (size_calls v file marks (record { number = n; size = z; now = now })) s u) most
      (sized_calls before mid n m size now same number after result f s t u v file on is longer one calls marks are)
