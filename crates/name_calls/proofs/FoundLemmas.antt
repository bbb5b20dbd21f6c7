-- A file that was located, when its descriptor was read.
use Rattle.std.proofs.Common.{◌≡◌, ◌∙◌, ℕ, ◌+◌, ◌≤◌, arith, not, Bool, true, false, IsSome, Option, Some, None, List, Result, Ok, Err, inl, inr, refl, ap, sym, subst, if◌then◌else◌}
use Rattle.std.proofs.lemmas.Bool.{false≢true}
use Rattle.rbf_model.specs.File.{DiskFile}
use Rattle.rbf_model.specs.Volume.{DiskVolume}
use Rattle.rbf_access.specs.Faults.{file_error, file_fault}
use Rattle.rbf_access.specs.declared.faults.FileFault.{FileFault}
use Rattle.rbf_access.specs.declared.faults.FileFault.TheVariants.{Device, NoCluster, TooManyRuns}
use Rattle.os9_base.specs.declared.errors.TheConstants.{E_FNA}
use Rattle.file_rules.specs.ChgDir.{may_go_to}
use Rattle.file_rules.specs.Files.{Asker, Files, volume_at}
use Rattle.file_rules.specs.Step.{Step, refused, comes, drive_of, refuses}
use Rattle.lock_model.specs.declared.place.FilePlace.{FilePlace}
use Rattle.file_drives.specs.Drives.{DriveView}
use Rattle.file_drives.specs.Mounted.{OnDisks, ReadsFile}
use Rattle.file_state.proofs.CountLemmas.{called-more, called-then}
use Rattle.file_state.specs.Counted.{CalledAtMost, calls_of}
use Rattle.file_state.specs.Reached.{HasReadDrive}
use Rattle.file_state.specs.declared.state.FileState.{FileState}
use Rattle.file_routes.specs.Routes.{next_step}
use Rattle.name_calls.proofs.AgainLemmas as again
use Rattle.name_calls.proofs.ListCallLemmas.{calls-more, calls-next, calls-reached}
use Rattle.name_calls.proofs.LookLemmas.{answer-on, answer-refused, drive-on, found-calls, found-read, reaches-next}
use Rattle.name_calls.specs.ChgDir.{allows_to_go}
use Rattle.name_calls.specs.Locating.{FoundBy, IsLocated, Locates}
use Rattle.name_calls.specs.Looks.{AnswersBy, HasFoundInSearch, Looks, answer_of}
use Rattle.file_routes.specs.declared.route.Located.{Located}

-- what was not located
pub unfound : (look : Step FoundBy) (next : FoundBy → Step FoundBy) (few most number : ℕ) (files : Files)
    (new : FileState) (before now : List DriveView) → few ≤ most → Locates look few (Err number) files new before now
    → Locates (next_step look next) most (Err number) files new before now
unfound look next few most number files new before now more it = by it.answer it.is it.looks
  where
    by : (answer : Result FoundBy ℕ) → AnswersBy (IsLocated look files) answer (Err number) → Looks look answer files
        new before now → Locates (next_step look next) most (Err number) files new before now
    by (Ok it) is looks = absurd is
    by (Err other) is looks = record {
      answer = Err other;
      is = is;
      drives_are = it.drives_are;
      calls =
          let on = calls-next look next few in
          let as_often = calls-more (next_step look next) few most more in
          called-more (calls_of look few) (calls_of (next_step look next) most) before now (omega (arith, on, as_often)) it.calls;
      looks = elim looks [
        | inl well ↦ inl (record {
          is = sym (answer-refused look next other (sym well.is));
          drive = well.drive;
          reached = reaches-next look next well.drive before now well.reached;
          read = well.read;
        })
        | inr broken ↦ inr (record {
          drive = broken.drive;
          reached = drive-on look next broken.drive broken.reached;
          volume = broken.volume;
          is = broken.is;
          number = broken.number;
          read = broken.read;
          answer_is = broken.answer_is;
        })
      ];
    }

-- ---- its descriptor was read

module _ (look : Step FoundBy) (seen : ℕ) (files : Files) (located : Located) (mid new : FileState)
    (before views now : List DriveView) (loc : HasFoundInSearch (IsLocated look files) look seen located files mid before
    views) (io : new.io ≡ mid.io) (directories : new.directories ≡ mid.directories)
    (records : new.records ≡ mid.records) where
  volume-is : volume_at files located.place.drive ≡ Some loc.it.found.volume
  volume-is = ap (λ (at : FilePlace). volume_at files at.drive) (sym loc.is.place_is) ∙ loc.is.there.volume_is

  file-is : loc.it.found.volume.files located.place.number ≡ Some loc.it.found.file
  file-is = ap (λ (at : FilePlace). loc.it.found.volume.files at.number) (sym loc.is.place_is) ∙ loc.is.there.file_is

  drive-is : drive_of look ≡ Some located.place.drive
  drive-is = loc.is.reached ∙ ap (λ (at : FilePlace). Some at.drive) loc.is.place_is

  was-read : HasReadDrive None located.place.drive files mid before views
  was-read = found-read (IsLocated look files) look seen files located mid before views loc located.place.drive drive-is

  -- what was read is of that file
  of-this : (fact : DiskVolume → DiskFile → Type 0) → OnDisks mid.disks views located.place fact → fact loc.it.found.volume loc.it.found.file
  of-this = again.of-found files located.place loc.it.found.volume loc.it.found.file volume-is file-is mid new before views now was-read

  module _ (next : FoundBy → Step FoundBy) (most : ℕ) (enough : seen + 1 ≤ most) where
    reached-on : drive_of (next_step look next) ≡ Some located.place.drive
    reached-on = drive-on look next located.place.drive drive-is

    module _ (fault : Option ℕ) (reads : ReadsFile located.place fault (λ v file. 1) mid.disks views new.disks now) where
      read-again : HasReadDrive fault located.place.drive files new before now
      read-again = again.read-again files located.place loc.it.found.volume loc.it.found.file volume-is file-is mid new before views now was-read fault (λ v file. 1) io directories records reads

      called : CalledAtMost (calls_of (next_step look next) most) before now
      called =
          let all = calls-reached (next_step look next) located.place.drive most reached-on in
          called-more (seen + 1) (calls_of (next_step look next) most) before now (omega (arith, all, enough))
          (called-then seen 1 before views now (found-calls (IsLocated look files) look seen files located mid before views loc)
          (again.read-calls files located.place loc.it.found.volume loc.it.found.file volume-is file-is mid new before views now was-read fault (λ v file. 1) reads))

    -- and it is what is looked for
    pub still-located : ReadsFile located.place None (λ v file. 1) mid.disks views new.disks now → next loc.it ≡ comes loc.it → Locates (next_step look next) most (Ok located) files new before now
    still-located reads goes = record {
      answer = Ok loc.it;
      is = record {
        place_is = loc.is.place_is;
        next_is = loc.is.next_is;
        there = loc.is.there;
        reached = drive-on look next loc.it.found.place.drive loc.is.reached;
      };
      looks = inl (record {
        is = sym (answer-on look next loc.it loc.answer ∙ ap answer_of goes);
        drive = located.place.drive;
        reached = inl reached-on;
        read = read-again None reads;
      });
      drives_are = loc.drives_are;
      calls = called None reads;
    }

    -- or is not
    pub not-wanted : (number : ℕ) → ReadsFile located.place None (λ v file. 1) mid.disks views new.disks now
        → next loc.it ≡ refused number → Locates (next_step look next) most (Err number) files new before now
    not-wanted number reads goes = record {
      answer = Err number;
      is = refl;
      looks = inl (record {
        is = sym (answer-on look next loc.it loc.answer ∙ ap answer_of goes);
        drive = located.place.drive;
        reached = inl reached-on;
        read = read-again None reads;
      });
      drives_are = loc.drives_are;
      calls = called None reads;
    }

    -- or the drive failed
    pub read-failed : (A : Type 0) (fault : FileFault) → IsSome (file_fault {A = A} (Err fault))
        → ReadsFile located.place (file_fault {A = A} (Err fault)) (λ v file. 1) mid.disks views new.disks now
        → Locates (next_step look next) most (Err (file_error fault)) files new before now
    read-failed A (Device number) some reads = record {
      answer = Err number;
      is = refl;
      looks = inr (record {
        drive = located.place.drive;
        reached = reached-on;
        volume = loc.it.found.volume;
        is = volume-is;
        number = number;
        read = read-again (Some number) reads;
        answer_is = refl;
      });
      drives_are = loc.drives_are;
      calls = called (Some number) reads;
    }
    read-failed A NoCluster some reads = absurd (false≢true some)
    read-failed A TooManyRuns some reads = absurd (false≢true some)

-- what was read is of the file that was found
pub of-found : (look : Step FoundBy) (seen : ℕ) (files : Files) (located : Located) (mid : FileState)
    (before views : List DriveView) (loc : HasFoundInSearch (IsLocated look files) look seen located files mid before views)
    (fact : DiskVolume → DiskFile → Type 0) → OnDisks mid.disks views located.place fact → fact loc.it.found.volume
    loc.it.found.file
of-found look seen files located mid before views loc = of-this look seen files located mid mid before views views loc refl refl refl

-- what the test of a directory says of it
module _ (look : Step FoundBy) (seen : ℕ) (files : Files) (located : Located) (mid new : FileState)
    (before views now : List DriveView) (loc : HasFoundInSearch (IsLocated look files) look seen located files mid before
    views) (io : new.io ≡ mid.io) (directories : new.directories ≡ mid.directories)
    (records : new.records ≡ mid.records) (asker : Asker) (most : ℕ) (enough : seen + 1 ≤ most)
    (reads : ReadsFile located.place None (λ v file. 1) mid.disks views new.disks now) where
  by-test : (allowed : Bool) → may_go_to loc.it.found.file asker.user asker.caller.regs.a ≡ allowed
      → Locates (next_step look (allows_to_go asker)) most (if allowed then Ok located else Err E_FNA) files new
      before now
  by-test true is =
      still-located look seen files located mid new before views now loc io directories records (allows_to_go asker) most enough reads
      (ap (λ (b : Bool). refuses (not b) E_FNA (comes loc.it)) is)
  by-test false is =
      not-wanted look seen files located mid new before views now loc io directories records (allows_to_go asker) most enough E_FNA reads
      (ap (λ (b : Bool). refuses (not b) E_FNA (comes loc.it)) is)

  pub tested : (user mode : ℕ) (result : Result Located ℕ) → asker.user ≡ user → asker.caller.regs.a ≡ mode
      → result ≡ (if may_go_to loc.it.found.file user mode then Ok located else Err E_FNA)
      → Locates (next_step look (allows_to_go asker)) most result files new before now
  tested user mode result user_is mode_is is =
      subst (λ (r : Result Located ℕ). Locates (next_step look (allows_to_go asker)) most r files new before now)
      (ap (λ (n : ℕ). let r : Result Located ℕ = if may_go_to loc.it.found.file n asker.caller.regs.a then Ok located else Err E_FNA in r) user_is
      ∙ ap (λ (n : ℕ). let r : Result Located ℕ = if may_go_to loc.it.found.file user n then Ok located else Err E_FNA in r) mode_is
      ∙ sym is)
      (by-test (may_go_to loc.it.found.file asker.user asker.caller.regs.a) refl)

-- one step, said in two ways
pub locates-same : (one two : Step FoundBy) (few most : ℕ) (result : Result Located ℕ) (files : Files)
    (new : FileState) (before now : List DriveView) → one ≡ two → few ≡ most → Locates one few result files new before
    now → Locates two most result files new before now
locates-same one two few most result files new before now same as_often it =
    subst (λ (step : Step FoundBy). Locates step most result files new before now) same
    (subst (λ (n : ℕ). Locates one n result files new before now) as_often it)

-- and one number
pub refuses-same : (step : Step FoundBy) (most one two : ℕ) (files : Files) (new : FileState)
    (before now : List DriveView) → two ≡ one → Locates step most (Err one) files new before now → Locates step most
    (Err two) files new before now
refuses-same step most one two files new before now same it = subst (λ (n : ℕ). Locates step most (Err n) files new before now) (sym same) it
