-- A walk by one name.
use Rattle.std.proofs.Common.{◌≡◌, ℕ, ◌+◌, ◌∙◌, Bool, Option, Some, List, [], ◌∷◌, Result, refl, ap, subst, add-zero}
use Rattle.rbf_access.specs.Mounted.{OnVolume}
use Rattle.rbf_model.specs.File.{DiskFile}
use Rattle.rbf_model.specs.Volume.{DiskVolume}
use Rattle.rbf_model.specs.Walk.{WalkEnd, arrives, not_allowed, not_found, go_on, step, walk}
use Rattle.rbf_access.specs.Drive.{DriveCounts, MovesCounts}
use Rattle.rbf_access.specs.Reading.{OnVolumeFile}
use Rattle.rbf_walk.specs.Walk.{AnswersWalk, calls_on, step_calls, walk_calls}
use Rattle.rbf_walk.specs.declared.error.DirError.{DirError}

no-further : (end : WalkEnd) → go_on end (λ n. arrives n) ≡ end
no-further (arrives n) = refl
no-further not_allowed = refl
no-further not_found = refl

no-calls : (end : WalkEnd) → calls_on end (λ n. 0) ≡ 0
no-calls (arrives n) = refl
no-calls not_allowed = refl
no-calls not_found = refl

-- it leads where the name leads
one-name : (v : DiskVolume) (file : DiskFile) (n user : ℕ) (execute : Bool) (name : List ℕ) → v.files n ≡ Some file → walk v.files user execute n (name ∷ []) ≡ step (Some file) user execute name
one-name v file n user execute name is =
    no-further (step (v.files n) user execute name) ∙ ap (λ (f : Option DiskFile). step f user execute name) is

one-name_calls : (v : DiskVolume) (file : DiskFile) (n user : ℕ) (execute : Bool) (name : List ℕ)
    → v.files n ≡ Some file → walk_calls v.files user execute n (name ∷ []) ≡ step_calls (Some file) user execute name
one-name_calls v file n user execute name is =
    ap (λ k. step_calls (v.files n) user execute name + k) (no-calls (step (v.files n) user execute name))
    ∙ add-zero (step_calls (v.files n) user execute name)
    ∙ ap (λ (f : Option DiskFile). step_calls f user execute name) is

-- the answer of a walk by one name, and its calls, are those of a step from the directory
pub walked-on : (media : Option (List ℕ)) (n user : ℕ) (execute : Bool) (name : List ℕ) (result : Result ℕ DirError)
    → OnVolume media (λ on. AnswersWalk (walk on.files user execute n (name ∷ [])) result) → OnVolumeFile media n
    (λ v file. AnswersWalk (step (Some file) user execute name) result)
walked-on media n user execute name result walked v file on there =
    subst (λ end. AnswersWalk end result) (one-name v file n user execute name there) (walked v on)

pub few-calls : (media : Option (List ℕ)) (n user : ℕ) (execute : Bool) (name : List ℕ) (fault : Option ℕ)
    (before after : DriveCounts) → OnVolume media (λ on. MovesCounts fault
    (walk_calls on.files user execute n (name ∷ [])) before after) → OnVolumeFile media n
    (λ v file. MovesCounts fault (step_calls (Some file) user execute name) before after)
few-calls media n user execute name fault before after counts v file on there =
    subst (λ most. MovesCounts fault most before after) (one-name_calls v file n user execute name there) (counts v on)
