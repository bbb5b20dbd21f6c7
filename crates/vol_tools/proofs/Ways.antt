-- The way from the root.
use Rattle.std.proofs.Common.{◌≡◌, ℕ, false, Option, Some, None, IsSome, List, Result, Ok, Err, refl, sym, ap, ◌∙◌, subst}
use Rattle.rbf_model.specs.File.{DiskFile}
use Rattle.rbf_model.specs.Geometry.{geometry, image_geometry}
use Rattle.rbf_model.specs.Tree.{root}
use Rattle.rbf_model.specs.Volume.{DiskVolume, Vol}
use Rattle.rbf_model.specs.Walk.{walk, WalkEnd, arrives, not_allowed, not_found}
use Rattle.rbf_model.proofs.Lists.{some_of}
use Rattle.rbf_change.specs.Agrees.{Agrees}
use Rattle.rbf_change.specs.Calls.{shape}
use Rattle.rbf_access.specs.Mounted.{mounted_part, HasFile, IsMounted, RepresentsVolume}
use Rattle.rbf_access.specs.declared.faults.FileFault.TheVariants as file
use Rattle.rbf_access.specs.declared.volume.Volume.{Volume}
use Rattle.rbf_walk.specs.Walk.{AnswersWalk}
use Rattle.rbf_walk.specs.declared.error.DirError.{DirError}
use Rattle.rbf_walk.specs.declared.error.DirError.TheVariants.{NotAllowed, BadPath, NotFound, Exists, File}
use Rattle.vol_tools.specs.Numbers.{way_end, on_arrival}
use Rattle.vol_tools.specs.Answers.{AnswersWay}
use Rattle.vol_tools.specs.Faults.{of_directory}
use Rattle.vol_tools.specs.declared.fault.ToolFault.{ToolFault}

-- what a volume is called by that says so of the root
abbrev pub IsRootOf : Volume → ℕ → Type 0
IsRootOf volume n = (image : List ℕ) (v : DiskVolume) → Agrees (mounted_part volume) image → Vol image v → n ≡ (shape v).root

root_some : (media : Option (List ℕ)) (v : DiskVolume) → RepresentsVolume media v → (file : DiskFile) × (v.files (shape v).root ≡ Some file)
root_some media v on =
    let g = image_geometry on.image in
    let same : (shape v).root ≡ g.root = ap (λ ident. (geometry ident).root) on.vol.sound.shows.ident in
    some_of (v.files (shape v).root) (subst (λ n. IsSome (v.files n)) (sym same) ((on.vol.sound.tree.reached g.root).1 root))

pub root_there : (volume : Volume) (media : Option (List ℕ)) → IsMounted volume media → (n : ℕ) → IsRootOf volume n → HasFile media n
root_there volume media m n is =
    let at = is m.on.image m.content m.agrees m.on.vol in
    let f = root_some media m.content m.on in
    record { content = m.content; on = m.on; file = f.0; is = ap m.content.files at ∙ f.1 }

pub root_is : (volume : Volume) (media : Option (List ℕ)) → IsMounted volume media → (n : ℕ) → IsRootOf volume n → (v : DiskVolume) → RepresentsVolume media v → n ≡ (shape v).root
root_is volume media m n is v on =
    let one : m.on.image ≡ on.image = some_is (sym m.on.is ∙ on.is) in
    is on.image v (subst (Agrees (mounted_part volume)) one m.agrees) on.vol
  where
    some_is : {a b : List ℕ} → ◌≡◌ {A = Option (List ℕ)} (Some a) (Some b) → a ≡ b
    some_is h = cc

-- what a walk from the root answers, as an answer of the tools
pub way_done : (v : DiskVolume) (from n : ℕ) (names : List (List ℕ)) → from ≡ (shape v).root → AnswersWalk (walk v.files 0 false from names) (Ok n) → AnswersWay (way_end v names) (Ok n)
way_done v from n names at h = subst (λ r. walk v.files 0 false r names ≡ arrives n) at h

ends_so : (end : WalkEnd) (e : DirError) → AnswersWalk end (Err e) → AnswersWay end (Err (of_directory e))
ends_so end NotAllowed h = ap (λ w. on_arrival w (λ _. None)) h
ends_so end BadPath h = absurd h
ends_so end NotFound h = ap (λ w. on_arrival w (λ _. None)) h
ends_so end Exists h = absurd h
ends_so end (File (file.Device n)) h = tt
ends_so end (File file.NoCluster) h = absurd h
ends_so end (File file.TooManyRuns) h = absurd h

pub way_stopped : (v : DiskVolume) (from : ℕ) (names : List (List ℕ)) (e : DirError) → from ≡ (shape v).root → AnswersWalk (walk v.files 0 false from names) (Err e)
    → AnswersWay (way_end v names) (Err (of_directory e))
way_stopped v from names e at h = ends_so (way_end v names) e (subst (λ r. AnswersWalk (walk v.files 0 false r names) (Err e)) at h)

-- names that are the same lead to the same
pub way_as : (v : DiskVolume) (names way : List (List ℕ)) (r : Result ℕ ToolFault) → names ≡ way → AnswersWay (way_end v names) r → AnswersWay (way_end v way) r
way_as v names way r same h = subst (λ x. AnswersWay (way_end v x) r) same h

-- a walk that does not arrive ends with its number, whatever was to follow
pub stops_short : (end : WalkEnd) (next : ℕ → Option ℕ) (n : ℕ) → on_arrival end (λ _. None) ≡ Some n → on_arrival end next ≡ Some n
stops_short (arrives m) next n h = absurd (none h)
  where
    none : ◌≡◌ {A = Option ℕ} None (Some n) → ⊥
    none e = cc
stops_short not_allowed next n h = h
stops_short not_found next n h = h

-- the media is as it was
pub still : (media mid : Option (List ℕ)) (v : DiskVolume) → mid ≡ media → RepresentsVolume media v → RepresentsVolume mid v
still media mid v same on = record { image = on.image; is = same ∙ on.is; vol = on.vol }
