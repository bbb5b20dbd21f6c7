-- The place of a new entry, or why there is none.
use Rattle.std.proofs.Common.{◌≡◌, ℕ, ◌+◌, ◌≤◌, Bool, true, false, not, Option, Some, None, IsSome, is_some, Result, Err, List, sym, ap, ◌∙◌, subst, arith}
use Rattle.std.specs.Prelude.{if◌then◌else◌}
use Rattle.std.proofs.lemmas.Bool.{cond-true, cond-false, false≢true}
use Rattle.os9_base.specs.Name.{IsName}
use Rattle.rbf_model.specs.File.{DiskFile}
use Rattle.rbf_model.specs.Volume.{DiskVolume}
use Rattle.rbf_model.specs.Walk.{look_up}
use Rattle.rbf_change.specs.Names.{may_change, is_dots}
use Rattle.rbf_change.specs.NewFiles.{not_allowed, exists}
use Rattle.rbf_sector.specs.declared.fd.Fd.{Fd}
use Rattle.rbf_access.specs.Drive.{DriveCounts, MovesCounts}
use Rattle.rbf_access.specs.Faults.{file_fault}
use Rattle.rbf_access.specs.Mounted.{RepresentsVolume}
use Rattle.rbf_access.specs.Reading.{IsFdOf, OnFile}
use Rattle.rbf_access.specs.declared.faults.FileFault.{FileFault}
use Rattle.rbf_access.specs.declared.faults.FileFault.TheVariants.{Device, NoCluster, TooManyRuns}
use Rattle.rbf_access.proofs.Counting.{no_calls, counts_then, counts_most, counts_within}
use Rattle.rbf_walk.specs.Search.{OnFd, IsNameFoundAt, IsSearched, sectors_searched}
use Rattle.rbf_walk.specs.declared.directory.Searched.{Searched}
use Rattle.rbf_walk.specs.declared.directory.Searched.TheVariants.{Found, Absent}
use Rattle.rbf_walk.specs.declared.error.DirError.{DirError}
use Rattle.rbf_walk.specs.declared.error.DirError.TheVariants.{File}
use Rattle.rbf_entries.specs.Places.{IsEntryRefused, IsNewPlace, AnswersPlace, place_calls}

-- a fault of the drive
pub fault_placed : (A : Type 0) (dir : DiskFile) (name : List ℕ) (user : ℕ) (execute : Bool) → is_dots name ≡ false
    → (fault : FileFault) (r : Result ℕ DirError) → r ≡ Err (File fault) → IsSome (file_fault {A = A} (Err fault))
    → AnswersPlace dir name user execute r
fault_placed A dir name user execute proper fault r is device = subst (AnswersPlace dir name user execute) (sym is) (by_fault fault device)
  where
    by_fault : (f : FileFault) → IsSome (file_fault {A = A} (Err f)) → AnswersPlace dir name user execute (Err (File f))
    by_fault (Device n) some = proper
    by_fault NoCluster some = absurd (false≢true some)
    by_fault TooManyRuns some = absurd (false≢true some)

module _ (media : Option (List ℕ)) (dir : ℕ) (fd : Fd) (known : OnFile media dir (λ file. IsFdOf file fd))
    (name : List ℕ) (user : ℕ) (execute : Bool) (dots : Bool) (is_dots_is : dots ≡ is_dots name) (named : IsName name)
    (proper : dots ≡ false)
    (test : Bool) (tested : (file : DiskFile) → IsFdOf file fd → test ≡ may_change file user execute) (v : DiskVolume)
    (file : DiskFile) (on : RepresentsVolume media v) (is : v.files dir ≡ Some file) where
  none_dots : is_dots name ≡ false
  none_dots = sym is_dots_is ∙ proper

  test_is : test ≡ may_change file user execute
  test_is = tested file (known v file on is)

  pub closed_refused : test ≡ false → IsEntryRefused file name user execute not_allowed
  closed_refused fails k free size =
      let shut : not (may_change file user execute) ≡ true = ap not (sym test_is ∙ fails) in
      cond-false (is_dots name) _ _ none_dots ∙ cond-true (not (may_change file user execute)) _ _ shut

  module _ (passes : test ≡ true) (now : Option (List ℕ)) (same : now ≡ media) (answer : Searched) (searched : OnFd now fd (λ file. IsSearched file.contents name answer)) where
    allowed : may_change file user execute ≡ true
    allowed = sym test_is ∙ passes

    answered : IsSearched file.contents name answer
    answered = searched v dir file (record { image = on.image; is = same ∙ on.is; vol = on.vol }) is (known v file on is)

    pub found_refused : (place n : ℕ) → answer ≡ Found place n → IsEntryRefused file name user execute exists
    found_refused place n found k free size =
        let at : IsNameFoundAt file.contents name place n = subst (IsSearched file.contents name) found answered in
        cond-false (is_dots name) _ _ none_dots
        ∙ cond-false (not (may_change file user execute)) _ _ (ap not allowed)
        ∙ cond-true (is_some (look_up file.contents name)) _ _ (ap is_some at.names)

    pub absent_placed : (place : ℕ) → answer ≡ Absent place → IsNewPlace file name user execute place
    absent_placed place absent = record { named = named; proper = none_dots; allowed = allowed; absent = subst (IsSearched file.contents name) absent answered }

-- no look at all
pub no_look : (dir : DiskFile) (name : List ℕ) (user : ℕ) (execute : Bool) (s : DriveCounts) → MovesCounts None (place_calls dir name user execute) s s
no_look dir name user execute s = counts_most None 0 (place_calls dir name user execute) s s (omega arith) (no_calls s)

-- one look at the descriptor, and one at each sector that is searched
module _ (dir : DiskFile) (name : List ℕ) (user : ℕ) (execute : Bool) (proper : is_dots name ≡ false) (f : Option ℕ) (s t : DriveCounts) where
  abbrev sectors : ℕ
  sectors = sectors_searched dir.contents name

  calls_are : place_calls dir name user execute ≡ (if may_change dir user execute then 1 + sectors else 1)
  calls_are = cond-false (is_dots name) 0 (if may_change dir user execute then 1 + sectors else 1) proper

  pub one_look : MovesCounts f 1 s t → MovesCounts f (place_calls dir name user execute) s t
  one_look moved = counts_most f 1 (place_calls dir name user execute) s t (subst (λ n. 1 ≤ n) (sym calls_are) (either (may_change dir user execute))) moved
    where
      either : (b : Bool) → 1 ≤ (if b then 1 + sectors else 1)
      either true = omega arith
      either false = omega arith

  pub all_looks : may_change dir user execute ≡ true → (most : ℕ) (mid : DriveCounts) → MovesCounts None 1 s mid
      → MovesCounts f most mid t → t.calls ≤ mid.calls + sectors → MovesCounts f (place_calls dir name user execute) s t
  all_looks allowed most mid one other few =
      subst (λ n. MovesCounts f n s t)
      (sym (calls_are ∙ cond-true (may_change dir user execute) (1 + sectors) 1 allowed))
      (counts_then f 1 sectors s mid t one (counts_within f most sectors mid t few other))
