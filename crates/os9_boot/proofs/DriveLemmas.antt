-- A tool that is used on an image in D0.
use Rattle.std.proofs.Common.{◌≡◌, ◌≢◌, ◌≤◌, ℕ, zero, suc, Some, None, Result, Ok, Err, List, [], ◌∷◌, length, map, slice_get, refl, sym, ap, subst, ◌∙◌, arith, All}
use Rattle.std.proofs.lemmas.List.{length-map}
use Rattle.rbf_model.specs.Volume.{DiskVolume, Vol}
use Rattle.rbf_access.specs.Mounted.{IsSoundMedia}
use Rattle.file_drives.specs.Drives.{ChangesOneDrive, DriveView, drive_state, drive_states, media_at, media_of}
use Rattle.file_rules.specs.Files.{DriveState, KeepsDriveFaults, OneFailed, drive_at}
use Rattle.boot_run.specs.BootFile.{IsVolume}
use Rattle.boot_run.specs.Drives.{HaveRoom, IsEmptyDrive, TakesImages, holding, with_media, without_media}
use Rattle.boot_run.specs.Ready.{AreEmptyAgain}
use Rattle.boot_run.proofs.DriveLemmas.{counts-without, empty-without, media-without}
use Rattle.vol_tools.specs.Tool.{Tool}
use Rattle.vol_tools.specs.UsesInTurn.{Use}
use Rattle.vol_tools.specs.Answers.{GivesOn}
use Rattle.vol_tools.specs.Faults.{MovesFaults}
use Rattle.vol_tools.specs.Others.{KeepsOthersBy}
use Rattle.vol_tools.specs.Tail.{KeepsTailBy, OnMedia}
use Rattle.vol_tools.specs.declared.fault.ToolFault.{ToolFault}
use Rattle.vol_tools.specs.declared.fault.ToolFault.TheVariants.{Number, Device, OutOfMemory}
use Rattle.os9_words.specs.declared.vol_words.VolWords.{VolWords}
use Rattle.boot_run.specs.declared.status.End.{End}
use Rattle.boot_run.specs.declared.status.End.TheVariants.{NoMemory}
use Rattle.os9_boot.specs.VolSteps.{DrivesAfter, DrivesFail, UsesDrive, UsesImage, fault_end}
use Rattle.os9_boot.specs.Vol.{IsToolUsed}
use Rattle.os9_boot.specs.declared.made.Made.{Made}

some-one : {X : Type 0} (x y : X) → Some x ≡ Some y → x ≡ y
some-one x y is = cc is

-- the image that was put in is sound
pub sound-in : (image : List ℕ) (drives : List DriveView) → 1 ≤ length drives → IsVolume image → (drive : DriveView) → slice_get (holding (image ∷ []) drives) 0 ≡ Some drive → IsSoundMedia drive.media
sound-in image [] some volume drive is = absurd (omega (arith, some))
sound-in image (d ∷ ds) some (v, vol) drive is =
    let same : with_media image d ≡ drive = some-one (with_media image d) drive is in
    (v, record { image = image; is = sym (ap (λ (drive : DriveView). drive.media) same); vol = vol })

-- ---- D0 behind the tool

module _ {A : Type 0} (use_ : Use) (bytes : A → List ℕ) (answer : Result A ToolFault) (image : List ℕ) where
  record UsedAt (d : DriveView) (ds mid : List DriveView) : Type 0 where
    pub new : DriveView
    pub is : mid ≡ new ∷ ds
    pub uses : UsesDrive use_ bytes answer (with_media image d) new

  used-at : (d : DriveView) (ds mid : List DriveView) → ChangesOneDrive (UsesDrive use_ bytes answer) 0 (with_media image d ∷ ds) mid → UsedAt d ds mid
  used-at d ds mid (old, new, at, is, changed) = record {
    new = new;
    is = is;
    uses = subst (λ (old : DriveView). UsesDrive use_ bytes answer old new) (sym (some-one (with_media image d) old at)) changed;
  }

  -- the drives are as many
  many : (d : DriveView) (ds mid : List DriveView) → UsedAt d ds mid → length mid ≡ length (d ∷ ds)
  many d ds mid it = ap length it.is

  -- its count has not risen, and its last fault is as before
  quiet : (d : DriveView) (ds mid : List DriveView) (it : UsedAt d ds mid) → MovesFaults None d.counts it.new.counts → KeepsDriveFaults (drive_states (d ∷ ds)) (drive_states (map without_media mid))
  quiet d ds mid it moves =
      let same : drive_state it.new ≡ drive_state d = λ i. record { faults = moves.kept i; last = moves.last_kept i } in
      counts-without mid ∙ ap drive_states it.is ∙ ap (λ (state : DriveState). state ∷ drive_states ds) same

-- the other drives have not
others-kept : (s t : DriveState) (rest : List DriveState) (other : ℕ) → other ≢ 0 → drive_at (t ∷ rest) other ≡ drive_at (s ∷ rest) other
others-kept s t rest zero is = absurd (is refl)
others-kept s t rest (suc other) is = refl

has-failed : (d new : DriveView) (ds : List DriveView) (number : ℕ) → MovesFaults (Some number) d.counts new.counts → OneFailed 0 number (drive_states (d ∷ ds)) (drive_states (new ∷ ds))
has-failed d new ds number moves = record {
  rose = moves.rose;
  never_falls = moves.never_falls;
  last = moves.number;
  others = others-kept (drive_state d) (drive_state new) (drive_states ds);
  as_many = refl;
}

-- ---- the drives behind it

left-behind : (drives mid : List DriveView) → All IsEmptyDrive drives → length mid ≡ length drives → (media_of (map without_media mid) ≡ media_of drives) × AreEmptyAgain drives (map without_media mid)
left-behind drives mid empty same =
    (media-without drives mid empty same, record { as_many = length-map mid without_media ∙ same; empty = empty-without mid })

-- the tool was done
pub drives-done : {A : Type 0} (use_ : Use) (bytes : A → List ℕ) (a : A) (image : List ℕ)
    (drives mid : List DriveView) (made : Made) → HaveRoom 1 drives → ChangesOneDrive (UsesDrive use_ bytes (Ok a)) 0
    (holding (image ∷ []) drives) mid → DrivesAfter (Ok made) drives (map without_media mid)
drives-done use_ bytes a image [] mid made room changes = absurd (omega (arith, room.enough))
drives-done use_ bytes a image (d ∷ ds) mid made room changes =
    let it = used-at use_ bytes (Ok a) image d ds mid changes in
    let left = left-behind (d ∷ ds) mid room.empty (many use_ bytes (Ok a) image d ds mid it) in
    record { fails = quiet use_ bytes (Ok a) image d ds mid it it.uses.counts; media_kept = left.0; empty = left.1 }

-- or ended
ended-fails : {A : Type 0} (use_ : Use) (bytes : A → List ℕ) (fault : ToolFault) (image : List ℕ) (d : DriveView)
    (ds mid : List DriveView) → UsedAt use_ bytes (Err fault) image d ds mid → DrivesFail {A = Made}
    (Err (fault_end fault)) (d ∷ ds) (map without_media mid)
ended-fails use_ bytes (Number n) image d ds mid it = quiet use_ bytes (Err (Number n)) image d ds mid it it.uses.counts
ended-fails use_ bytes OutOfMemory image d ds mid it = quiet use_ bytes (Err OutOfMemory) image d ds mid it it.uses.counts
ended-fails use_ bytes (Device n) image d ds mid it =
    subst (λ states. OneFailed 0 n (drive_states (d ∷ ds)) states) (sym (counts-without mid ∙ ap drive_states it.is)) (has-failed d it.new ds n it.uses.counts)

pub drives-ended : {A : Type 0} (use_ : Use) (bytes : A → List ℕ) (fault : ToolFault) (image : List ℕ)
    (drives mid : List DriveView) → HaveRoom 1 drives → ChangesOneDrive (UsesDrive use_ bytes (Err fault)) 0
    (holding (image ∷ []) drives) mid → DrivesAfter {A = Made} (Err (fault_end fault)) drives (map without_media mid)
drives-ended use_ bytes fault image [] mid room changes = absurd (omega (arith, room.enough))
drives-ended use_ bytes fault image (d ∷ ds) mid room changes =
    let it = used-at use_ bytes (Err fault) image d ds mid changes in
    let left = left-behind (d ∷ ds) mid room.empty (many use_ bytes (Err fault) image d ds mid it) in
    record { fails = ended-fails use_ bytes fault image d ds mid it; media_kept = left.0; empty = left.1 }

-- nothing was done
pub drives-still : (drives : List DriveView) (end : End) → HaveRoom 1 drives → end ≡ NoMemory → DrivesAfter {A = Made} (Err end) drives drives
drives-still drives end room is = rw is (record { fails = refl; media_kept = refl; empty = record { as_many = refl; empty = room.empty } })

-- ---- what it made

module _ {A : Type 0} (tool : Tool) (vol : VolWords) (bytes : A → List ℕ) (image : List ℕ) (volume : IsVolume image) where
  abbrev use-of : Use
  use-of = record { tool = tool; now = vol.start }

  -- the image was taken out again
  taken : (v : DiskVolume) (a : A) (new : DriveView) (ds mid after : List DriveView) (images : List (List ℕ))
      (left : List ℕ) → Vol image v → mid ≡ new ∷ ds → GivesOn use-of v (bytes a) new.media
      → OnMedia (KeepsTailBy tool) (Some image) new.media → OnMedia (KeepsOthersBy tool) (Some image) new.media
      → TakesImages images mid after → slice_get images 0 ≡ Some left → IsToolUsed tool vol image (bytes a) left
  taken v a new ds mid after images left was is gives tail others takes at =
      let there : media_at mid 0 ≡ Some gives.on.image = ap (λ (drives : List DriveView). media_at drives 0) is ∙ gives.on.is in
      record {
        before = v;
        was = was;
        after = gives.volume;
        is = subst (λ image. Vol image gives.volume) (sym (takes.each 0 left gives.on.image at there)) gives.on.vol;
        gives = gives.gives;
        tail = subst (KeepsTailBy tool image) (sym (takes.each 0 left gives.on.image at there)) (tail image gives.on.image refl gives.on.is);
        others = subst (KeepsOthersBy tool image) (sym (takes.each 0 left gives.on.image at there)) (others image gives.on.image refl gives.on.is);
      }

  pub image-used : (a : A) (drives mid after : List DriveView) (images : List (List ℕ)) (left : List ℕ)
      → HaveRoom 1 drives → ChangesOneDrive (UsesDrive use-of bytes (Ok a)) 0 (holding (image ∷ []) drives) mid
      → TakesImages images mid after → slice_get images 0 ≡ Some left → IsToolUsed tool vol image (bytes a) left
  image-used a [] mid after images left room changes takes at = absurd (omega (arith, room.enough))
  image-used a (d ∷ ds) mid after images left room changes takes at =
      let it = used-at use-of bytes (Ok a) image d ds mid changes in
      taken volume.0 a it.new ds mid after images left volume.1 it.is (it.uses.answers volume.0 (record { image = image; is = refl; vol = volume.1 })) it.uses.tail it.uses.others takes at

  pub tool-ended : (fault : ToolFault) (drives mid : List DriveView) → HaveRoom 1 drives
      → ChangesOneDrive (UsesDrive {A = A} use-of bytes (Err fault)) 0 (holding (image ∷ []) drives) mid
      → UsesImage tool vol image (Err (fault_end fault))
  tool-ended fault [] mid room changes = absurd (omega (arith, room.enough))
  tool-ended (Device n) (d ∷ ds) mid room changes = refl
  tool-ended OutOfMemory (d ∷ ds) mid room changes = tt
  tool-ended (Number n) (d ∷ ds) mid room changes =
      let it = used-at use-of bytes (Err (Number n)) image d ds mid changes in
      let refused = it.uses.answers volume.0 (record { image = image; is = refl; vol = volume.1 }) in
      (volume.0, refused.volume, volume.1, refused.refuses)
