-- Parts of calls that change no volume, one after another.
use Rattle.std.proofs.Common.{◌≡◌, ◌∙◌, ⊎_elim, ℕ, Bool, Option, Some, None, List, Result, Ok, Err, inl, inr, refl, ap, sym}
use Rattle.os9_base.specs.declared.errors.TheConstants.{E_MNF, E_PNNF}
use Rattle.rbf_model.specs.File.{DiskFile}
use Rattle.rbf_model.specs.Volume.{DiskVolume}
use Rattle.rbf_model.specs.Walk.{WalkEnd, arrives, not_allowed, not_found, walk}
use Rattle.file_rules.specs.Files.{Asker, Files, volume_at}
use Rattle.file_rules.specs.Step.{FileStep, Step, refused, comes, reaches, deed_of, drive_of, leaves_so, needs, refuses_so}
use Rattle.file_rules.specs.Route.{Found, walk_ends, walks}
use Rattle.lock_model.specs.declared.place.FilePlace.{FilePlace}
use Rattle.file_drives.specs.Drives.{DriveView, drive_states}
use Rattle.file_state.proofs.CountLemmas.{called-more}
use Rattle.file_state.proofs.KeepLemmas.{ReachesAtMost}
use Rattle.file_state.proofs.ReachedLemmas.{read-at, read-none}
use Rattle.file_state.specs.Counted.{CalledAtMost, calls_of}
use Rattle.file_state.specs.Reached.{HasReadDrive}
use Rattle.file_state.specs.Tie.{RepresentsFiles}
use Rattle.file_state.specs.declared.state.FileState.{FileState}
use Rattle.file_routes.specs.Routes.{next_step}
use Rattle.name_calls.proofs.ListCallLemmas.{called-nothing, calls-few}
use Rattle.name_calls.specs.Looks.{AnswersBy, HasFoundInSearch, Looks, SearchHasResult, answer_of}

-- an answer for which no drive was called
pub looks-none : {A : Type 0} (step : Step A) (answer : Result A ℕ) (files : Files) (state : FileState)
    (views : List DriveView) → RepresentsFiles state views files → answer ≡ answer_of step → Looks step answer files state
    views views
looks-none step answer files state views stands is = inl (record { is = is; drive = 0; reached = inr refl; read = read-none 0 state views files stands })

-- a refusal that reaches no drive
pub refused-there : {A R : Type 0} (fact : A → R → Type 0) (step : Step A) (most number : ℕ) (files : Files)
    (state : FileState) (views : List DriveView) → RepresentsFiles state views files → step ≡ refused number
    → SearchHasResult fact step most (Err number) files state views views
refused-there fact step most number files state views stands is = record {
  answer = Err number;
  is = refl;
  looks = looks-none step (Err number) files state views stands (sym (ap answer_of is));
  drives_are = stands.drives;
  calls = called-nothing step most views;
}

-- ---- what goes on from it

pub deed-on : {A : Type 0} (step : Step A) (next : A → FileStep) (files : Files) (it : A) → answer_of step ≡ Ok it → deed_of (next_step step next) files ≡ deed_of (next it) files
deed-on (refused number) next files it is = cc
deed-on (comes other) next files it is =
    let same : other ≡ it = cc in ap (λ it. deed_of (next it) files) same
deed-on (reaches drive step) next files it is = deed-on step next files it is

pub deed-refused : {A : Type 0} (step : Step A) (next : A → FileStep) (files : Files) (number : ℕ)
    → answer_of step ≡ Err number → deed_of (next_step step next) files ≡ leaves_so (refuses_so number files)
deed-refused (refused other) next files number is =
    let same : other ≡ number = cc in ap (λ (n : ℕ). leaves_so (refuses_so n files)) same
deed-refused (comes it) next files number is = cc
deed-refused (reaches drive step) next files number is = deed-refused step next files number is

pub answer-on : {A B : Type 0} (step : Step A) (next : A → Step B) (it : A) → answer_of step ≡ Ok it → answer_of (next_step step next) ≡ answer_of (next it)
answer-on (refused number) next it is = cc
answer-on (comes other) next it is =
    let same : other ≡ it = cc in ap (λ it. answer_of (next it)) same
answer-on (reaches drive step) next it is = answer-on step next it is

pub answer-refused : {A B : Type 0} (step : Step A) (next : A → Step B) (number : ℕ) → answer_of step ≡ Err number → answer_of (next_step step next) ≡ Err number
answer-refused {A} {B} (refused other) next number is =
    let same : other ≡ number = cc in ap (λ (n : ℕ). let said : Result B ℕ = Err n in said) same
answer-refused (comes it) next number is = cc
answer-refused (reaches drive step) next number is = answer-refused step next number is

-- the drive that it reached
pub drive-on : {A B : Type 0} (step : Step A) (next : A → Step B) (drive : ℕ) → drive_of step ≡ Some drive → drive_of (next_step step next) ≡ Some drive
drive-on (refused number) next drive is = cc
drive-on (comes it) next drive is = cc
drive-on (reaches other step) next drive is = is

pub reaches-next : {A B : Type 0} (step : Step A) (next : A → Step B) (drive : ℕ) (before now : List DriveView)
    → ReachesAtMost step drive before now → ReachesAtMost (next_step step next) drive before now
reaches-next step next drive before now reached =
    ⊎_elim (λ at. inl (drive-on step next drive at)) (λ same. inr same) reached

-- ---- what was found

module _ {A R : Type 0} (fact : A → R → Type 0) (look : Step A) (most : ℕ) (files : Files) (thing : R) (mid : FileState) (before views : List DriveView) where
  found-answer : files.drives ≡ drive_states before → CalledAtMost (calls_of look most) before views
      → (answer : Result A ℕ) → AnswersBy fact answer (Ok thing) → Looks look answer files mid before views
      → HasFoundInSearch fact look most thing files mid before views
  found-answer drives calls (Err number) is looks = absurd is
  found-answer drives calls (Ok it) is looks = elim looks [
    | inl well ↦ record { it = it; is = is; answer = sym well.is; drive = well.drive; reached = well.reached; read = well.read; drives_are = drives; calls = calls }
    | inr broken ↦ let no = broken.answer_is in cc
  ]

  pub found : SearchHasResult fact look most (Ok thing) files mid before views → HasFoundInSearch fact look most thing files mid before views
  found it = found-answer it.drives_are it.calls it.answer it.is it.looks

  module _ (loc : HasFoundInSearch fact look most thing files mid before views) where
    -- the drive that was reached was read
    pub found-read : (drive : ℕ) → drive_of look ≡ Some drive → HasReadDrive None drive files mid before views
    found-read drive at =
        read-at loc.drive drive files mid before views
        (⊎_elim (λ is. inl (let same : Some loc.drive ≡ Some drive = sym is ∙ at in cc)) (λ same. inr same) loc.reached)
        loc.read

    -- so often
    pub found-calls : CalledAtMost most before views
    found-calls = called-more (calls_of look most) most before views (calls-few look most) loc.calls

-- ---- a walk on a volume, in two parts

module _ {A E : Type 0} (asker : Asker) (files : Files) (execute : Bool) (one : Found → Step E) (look : Found
    → Step A) (next : A → Step E) (same : (found : Found) → one found ≡ next_step (look found) next) where
  with-file : (drive n : ℕ) (v : DiskVolume) (file : Option DiskFile) → needs file E_PNNF
      (λ file. one (record { place = record { drive = drive; number = n }; volume = v; file = file })) ≡ next_step
      (needs file E_PNNF (λ file. look (record {
        place = record { drive = drive; number = n };
        volume = v;
        file = file;
      }))) next
  with-file drive n v None = refl
  with-file drive n v (Some file) = same (record { place = record { drive = drive; number = n }; volume = v; file = file })

  with-end : (drive : ℕ) (v : DiskVolume) (end : WalkEnd) → walk_ends drive v end one ≡ next_step (walk_ends drive v end look) next
  with-end drive v (arrives n) = with-file drive n v (v.files n)
  with-end drive v not_allowed = refl
  with-end drive v not_found = refl

  pub walks-on : (from : FilePlace) (names : List (List ℕ)) → walks asker files execute from names one ≡ next_step (walks asker files execute from names look) next
  walks-on from names = by (volume_at files from.drive)
    where
      by : (volume : Option DiskVolume) → needs volume E_MNF
          (λ v. reaches from.drive (walk_ends from.drive v (walk v.files asker.user execute from.number names) one)) ≡
          next_step (needs volume E_MNF
          (λ v. reaches from.drive (walk_ends from.drive v (walk v.files asker.user execute from.number names) look)))
          next
      by None = refl
      by (Some v) = ap (reaches from.drive) (with-end from.drive v (walk v.files asker.user execute from.number names))
