-- A change of a volume keeps the length of its media, and its first sector. And a change that is made was not to be
-- refused.
use Rattle.std.proofs.Common.{◌≡◌, ◌⊎◌, ℕ, ◌+◌, ◌-◌, ◌*◌, ◌≤◌, ◌∙◌, Bool, true, false, not, ◌||◌, Option, Some, option_map, List, length, Result, Ok, Err, refl, ap, sym, inl, inr, arith}
use Rattle.std.proofs.lemmas.List.{length-drop}
use Rattle.os9_base.specs.declared.registers.TimePacket.{TimePacket}
use Rattle.os9_outer.specs.Drive.{sector_at}
use Rattle.rbf_model.specs.File.{DiskFile}
use Rattle.rbf_model.specs.Geometry.{geometry, image_geometry}
use Rattle.rbf_model.specs.Volume.{DiskVolume, Vol}
use Rattle.rbf_change.specs.Calls.{replaced}
use Rattle.rbf_change.specs.Faults as ends
use Rattle.rbf_change.specs.Faults.{DeletionEnds, MayLose, NewFileEnds, SizeEnds, with_front}
use Rattle.rbf_change.specs.NewFiles.{Plan, directory_plan, file_plan}
use Rattle.rbf_access.specs.Mounted.{RepresentsVolume}
use Rattle.rbf_access.specs.declared.faults.FileFault.TheVariants.{Device, NoCluster, TooManyRuns}
use Rattle.rbf_walk.specs.declared.error.DirError.{DirError}
use Rattle.rbf_walk.specs.declared.error.DirError.TheVariants.{NotAllowed, BadPath, NotFound, Exists, File}
use Rattle.file_rules.specs.Change.{Change, writes, sizes, sets_attributes, creates, makes_directory, deletes, AppliesChange, ChangeMayLeave}
use Rattle.file_drives.specs.Changed.{AnswersChange, Asked, ChangeIsMade, IsRefusedChange, has_full_list, is_allowed, is_full_for, is_refused}
use Rattle.file_drives.specs.Drives.{KeepsIdent}

-- ---- what a change leaves of a volume's first sector and of the bytes behind it

abbrev SameEnds : DiskVolume → DiskVolume → Type 0
SameEnds v left = (left.ident ≡ v.ident) × (left.rest ≡ v.rest)

of-same : (v u left : DiskVolume) → left ≡ u → SameEnds v u → SameEnds v left
of-same v u left is same = (ap (λ (w : DiskVolume). w.ident) is ∙ same.0, ap (λ (w : DiskVolume). w.rest) is ∙ same.1)

of-lost : (v u left : DiskVolume) (clusters : ℕ → Bool) → SameEnds v u → MayLose u left clusters → SameEnds v left
of-lost v u left clusters same lose =
    (ap (λ (w : DiskVolume). w.ident) lose.same ∙ same.0, ap (λ (w : DiskVolume). w.rest) lose.same ∙ same.1)

of-made : (change : Change) (user : ℕ) (now : TimePacket) (v left : DiskVolume) (new : ℕ) → AppliesChange change user now v left new → SameEnds v left
of-made (writes n at bytes) user now v left new it = of-same v _ left it.volume (refl, refl)
of-made (sizes n size) user now v left new it = of-same v _ left it.volume (refl, refl)
of-made (sets_attributes n attributes) user now v left new it = of-same v _ left it.volume (refl, refl)
of-made (creates d name attributes) user now v left new it = of-same v _ left it.volume (refl, refl)
of-made (makes_directory d name attributes) user now v left new it = of-same v _ left it.volume (refl, refl)
of-made (deletes d n name) user now v left new it = of-same v _ left it.drops.volume (refl, refl)

of-size : (image : List ℕ) (v left : DiskVolume) (n size : ℕ) (now : TimePacket) → SizeEnds image v left n size now → SameEnds v left
of-size image v left n size now (ends.before same) = of-same v v left same (refl, refl)
of-size image v left n size now (ends.longer end) = of-lost v v left _ (refl, refl) end.volume
of-size image v left n size now (ends.cut end) = of-lost v (replaced v n (Some end.new)) left _ (refl, refl) end.volume

of-entry : (v left : DiskVolume) (d : ℕ) (name : List ℕ) (plan : ℕ → Plan) → NewFileEnds v left d name plan → SameEnds v left
of-entry v left d name plan (ends.before same) = of-same v v left same (refl, refl)
of-entry v left d name plan (ends.taken end) = of-lost v v left _ (refl, refl) end.volume

of-deletion : (image : List ℕ) (v left : DiskVolume) (d n : ℕ) (name : List ℕ) → DeletionEnds image v left d n name → SameEnds v left
of-deletion image v left d n name (ends.before same) = of-same v v left same (refl, refl)
of-deletion image v left d n name (ends.gone deleted there lose marked) =
    of-lost v _ left _ (of-same v _ _ deleted.drops.volume (refl, refl)) lose

of-fault : (change : Change) (user : ℕ) (now : TimePacket) (v left : DiskVolume) → ChangeMayLeave change user now v left → SameEnds v left
of-fault (writes n at bytes) user now v left it =
    of-lost v (replaced v n (Some (with_front it.old at bytes it.count))) left _ (refl, refl) it.volume
of-fault (sizes n size) user now v left (image, vol, it) = of-size image v left n size now it
of-fault (sets_attributes n attributes) user now v left it = of-same v v left it (refl, refl)
of-fault (creates d name attributes) user now v left it = of-entry v left d name (λ n. file_plan attributes user now) it
of-fault (makes_directory d name attributes) user now v left it = of-entry v left d name (directory_plan attributes user now d) it
of-fault (deletes d n name) user now v left (image, vol, it) = of-deletion image v left d n name it

of-answer : (asked : Asked) (v : DiskVolume) (file : DiskFile) (left : DiskVolume) (answer : Result ℕ DirError) → AnswersChange asked v file left answer → SameEnds v left
of-answer asked v file left (Ok n) it = of-made asked.change asked.user asked.now v left n it.makes
of-answer asked v file left (Err NotAllowed) it = of-same v v left it.same (refl, refl)
of-answer asked v file left (Err BadPath) it = absurd it
of-answer asked v file left (Err NotFound) it = absurd it
of-answer asked v file left (Err Exists) it = absurd it
of-answer asked v file left (Err (File (Device number))) it = of-fault asked.change asked.user asked.now v left it.may_be
of-answer asked v file left (Err (File NoCluster)) it = of-same v v left it.same (refl, refl)
of-answer asked v file left (Err (File TooManyRuns)) it = of-same v v left it.same (refl, refl)

-- ---- and of its media

parts : (long total rest kept : ℕ) → 256 * total ≤ long → rest ≡ long - 256 * total → kept ≡ total → long ≡ 256 * kept + rest
parts long total rest kept fits behind same = omega (arith, fits, behind, same)

whole : (image : List ℕ) (v : DiskVolume) → Vol image v → length image ≡ 256 * (geometry v.ident).total + length v.rest
whole image v vol =
    let total = (image_geometry image).total in
    parts (length image) total (length v.rest) (geometry v.ident).total vol.header.fits (ap (λ (xs : List ℕ). length xs) vol.rest ∙ length-drop (256 * total) image)
    (ap (λ (s : List ℕ). (geometry s).total) vol.sound.shows.ident)

as-long : (v left : DiskVolume) (image now : List ℕ) → Vol image v → Vol now left → SameEnds v left → length now ≡ length image
as-long v left image now was is same =
    whole now left is
    ∙ ap (λ (s : List ℕ). 256 * (geometry s).total + length left.rest) same.0
    ∙ ap (λ (rest : List ℕ). 256 * (geometry v.ident).total + length rest) same.1
    ∙ sym (whole image v was)

ident-kept : (v left : DiskVolume) (before after : Option (List ℕ)) → RepresentsVolume before v → RepresentsVolume after left → SameEnds v left → KeepsIdent before after
ident-kept v left before after was is same = record {
  as_long =
      ap (option_map length) is.is
      ∙ ap (λ (n : ℕ). let long : Option ℕ = Some n in long) (as-long v left was.image is.image was.vol is.vol same)
      ∙ sym (ap (option_map length) was.is);
  first =
      ap (λ m. sector_at m 0) is.is
      ∙ sym is.vol.sound.shows.ident
      ∙ same.0
      ∙ was.vol.sound.shows.ident
      ∙ sym (ap (λ m. sector_at m 0) was.is);
}

pub ident-left : (asked : Asked) (v : DiskVolume) (file : DiskFile) (left : DiskVolume) (answer : Result ℕ DirError)
    (before after : Option (List ℕ)) → RepresentsVolume before v → RepresentsVolume after left
    → AnswersChange asked v file left answer → KeepsIdent before after
ident-left asked v file left answer before after was is it =
    ident-kept v left before after was is (of-answer asked v file left answer it)

-- ---- a change that is made was not to be refused

not-refused-at : (allowed full long : Bool) → allowed ≡ true → full ≡ false → long ≡ false → (not allowed || (full || long)) ≡ true → ⊥
not-refused-at false full long a b c h = absurd (cc a)
not-refused-at true true long a b c h = absurd (cc b)
not-refused-at true false true a b c h = absurd (cc c)
not-refused-at true false false a b c h = absurd (cc h)

pub made-anyway : (asked : Asked) (v : DiskVolume) (file : DiskFile) (left : DiskVolume) (n : ℕ) → ChangeIsMade asked v file left n → IsRefusedChange (Ok n) ⊎ (is_refused asked v file ≡ true) → ⊥
made-anyway asked v file left n it (inl never) = absurd never
made-anyway asked v file left n it (inr refused) =
    not-refused-at (is_allowed asked.change asked.user file) (is_full_for asked.change v file) (has_full_list asked.change v file) it.allowed it.enough it.list refused
