-- Images that are written under their names, one after another.
use Rattle.std.proofs.Common.{◌≡◌, ◌≢◌, ◌≤◌, ℕ, zero, suc, Bool, true, false, Option, Some, None, Err, List, [], ◌∷◌, length, take, slice_get, bytes_eq, refl, ap, ◌∙◌}
use Rattle.std.proofs.lemmas.List.{take_all}
use Rattle.std.proofs.lemmas.Option.{none-some, same_Some}
use Rattle.std.proofs.lemmas.Slice.Eq.{bytes_eq-Decides}
use Rattle.os9_base.specs.Count.{Rose}
use Rattle.os9_outer.specs.Host.{HostFiles, IfObserved, KeepsOrHoldsPrefix}
use Rattle.boot_run.specs.World.{World, HasNoFault}
use Rattle.boot_run.specs.Images.{with_file, with_images, WritesAll, WritesUpTo}
use Rattle.boot_run.specs.ImageWrites.{WritesImages}
use Rattle.boot_run.specs.declared.write.WriteFault.TheVariants.{Image, OutOfMemory}

-- one image more
with_images-more : (n : ℕ) (names images : List (List ℕ)) (name image : List ℕ) (files : HostFiles) → slice_get names n ≡
    Some name → slice_get images n ≡ Some image → with_images files (take (suc n) names) (take (suc n) images) ≡
    with_file (with_images files (take n names) (take n images)) name image
with_images-more n [] images name image files named here = absurd (none-some name named)
with_images-more n (first ∷ names) [] name image files named here = absurd (none-some image here)
with_images-more zero (first ∷ names) (one ∷ images) name image files named here =
    rw (same_Some first name named, same_Some one image here) refl
with_images-more (suc n) (first ∷ names) (one ∷ images) name image files named here =
    with_images-more n names images name image (with_file files first one) named here

-- the images before this number are written
abbrev pub WritesFirst : ℕ → List (List ℕ) → List (List ℕ) → HostFiles → HostFiles → Type 0
WritesFirst n names images before now = WritesAll (take n names) (take n images) before now

pub none-written : (names images : List (List ℕ)) (files : Option HostFiles) → IfObserved (WritesFirst 0 names images) files files
none-written names images None = refl
none-written names images (Some files) = λ name. refl

files-more : (n : ℕ) (names images : List (List ℕ)) (name image : List ℕ) (before mid now : HostFiles) → slice_get names n
    ≡ Some name → slice_get images n ≡ Some image → WritesFirst n names images before mid → now name ≡ Some image
    → ((other : List ℕ) → other ≢ name → now other ≡ mid other) → WritesFirst (suc n) names images before now
files-more n names images name image before mid now named here so_far written kept other =
    rw (with_images-more n names images name image before named here) (by (bytes_eq other name) refl)
  where
    by : (same : Bool) → bytes_eq other name ≡ same → now other ≡ with_file (with_images before (take n names) (take n images)) name image other
    by true same = rw same (ap now ((bytes_eq-Decides other name).0 same) ∙ written)
    by false differs =
        let others : other ≢ name = λ e. let same : bytes_eq other name ≡ true = (bytes_eq-Decides other name).1 e in cc in
        rw differs (kept other others ∙ so_far other)

pub writes-more : (n : ℕ) (names images : List (List ℕ)) (name image : List ℕ) (first mid next : Option HostFiles)
    → slice_get names n ≡ Some name → slice_get images n ≡ Some image → IfObserved (WritesFirst n names images) first
    mid → IfObserved (λ before now. now name ≡ Some image) mid next → IfObserved (λ before now. (other : List ℕ)
    → other ≢ name → now other ≡ before other) mid next → IfObserved (WritesFirst (suc n) names images) first next
writes-more n names images name image None None None named here so_far written kept = refl
writes-more n names images name image None None (Some now) named here so_far written kept = absurd (cc written)
writes-more n names images name image None (Some mid) next named here so_far written kept = absurd (cc so_far)
writes-more n names images name image (Some before) None next named here so_far written kept = absurd so_far
writes-more n names images name image (Some before) (Some mid) None named here so_far written kept = absurd written
writes-more n names images name image (Some before) (Some mid) (Some now) named here so_far written kept =
    files-more n names images name image before mid now named here so_far written kept

-- the next was not written, or in part
pub writes-up_to : (n : ℕ) (names images : List (List ℕ)) (name image : List ℕ) (first mid next : Option HostFiles)
    → slice_get names n ≡ Some name → slice_get images n ≡ Some image → IfObserved (WritesFirst n names images) first
    mid → IfObserved (λ before now. KeepsOrHoldsPrefix (before name) image (now name)) mid next
    → IfObserved (λ before now. (other : List ℕ) → other ≢ name → now other ≡ before other) mid next
    → IfObserved (WritesUpTo n names images) first next
writes-up_to n names images name image None None None named here so_far part kept = refl
writes-up_to n names images name image None None (Some now) named here so_far part kept = absurd (cc part)
writes-up_to n names images name image None (Some mid) next named here so_far part kept = absurd (cc so_far)
writes-up_to n names images name image (Some before) None next named here so_far part kept = absurd so_far
writes-up_to n names images name image (Some before) (Some mid) None named here so_far part kept = absurd part
writes-up_to n names images name image (Some before) (Some mid) (Some now) named here so_far part kept = record {
  name = name;
  image = image;
  named = named;
  written = here;
  others = λ other is. kept other is ∙ so_far other;
  part = rw (← so_far name) part;
}

-- all are written
pub all-written : (names images : List (List ℕ)) (n : ℕ) (first next : Option HostFiles) → length names ≤ n
    → length images ≤ n → IfObserved (WritesFirst n names images) first next → IfObserved (WritesAll names images)
    first next
all-written names images n None next named count written = written
all-written names images n (Some before) None named count written = written
all-written names images n (Some before) (Some now) named count written =
    λ name. rw (take_all n names named, take_all n images count) at (written name)

-- ---- a write that is not done

module _ {Value : Type 0} (n : ℕ) (names images : List (List ℕ)) (name image : List ℕ) (first mid next : World)
    (named : slice_get names n ≡ Some name) (here : slice_get images n ≡ Some image) (kept : HasNoFault first mid)
    (so_far : IfObserved (WritesFirst n names images) first.files mid.files)
    (part : IfObserved (λ before now. KeepsOrHoldsPrefix (before name) image (now name)) mid.files next.files)
    (others : IfObserved (λ before now. (other : List ℕ) → other ≢ name → now other ≡ before other) mid.files
    next.files) (out : next.out ≡ first.out) (devices : next.devices ≡ first.devices) where
  -- since the host failed
  pub stopped-failed : Rose mid.faults next.faults → next.failed_name ≡ Some name → next.failed_in_read ≡ false → WritesImages {Value = Value} names images (Err (Image n)) first next
  stopped-failed rose failed in_read = record {
    written = tt;
    no_fault = tt;
    stopped = (writes-up_to n names images name image first.files mid.files next.files named here so_far part others, (name, named, (rw (← kept.0) rose, failed, in_read)));
    out_kept = out;
    devices_kept = devices;
  }

  -- since memory was out
  pub stopped-without_memory : HasNoFault mid next → WritesImages {Value = Value} names images (Err OutOfMemory) first next
  stopped-without_memory still = record {
    written = tt;
    no_fault = tt;
    stopped = ((n, writes-up_to n names images name image first.files mid.files next.files named here so_far part others), (still.0 ∙ kept.0, still.1 ∙ kept.1, still.2 ∙ kept.2));
    out_kept = out;
    devices_kept = devices;
  }
