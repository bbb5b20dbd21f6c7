-- Clusters that are given back: their marks are cleared on the media and in the mounted part of the volume.
use Rattle.std.specs.Prelude.{◌≡◌, ℕ, ◌*◌, ◌/◌, ◌<◌, ◌&&◌, ◌||◌, nat_lt, Bool, true, false, not, List, Option, Some, Result, Ok, Err}
use Rattle.rbf_model.specs.Geometry.{image_geometry, sector, map_sectors}
use Rattle.rbf_model.specs.Space.{is_marked, cluster_count, Unused}
use Rattle.rbf_model.specs.Volume.{DiskVolume, Vol}
use Rattle.rbf_model.specs.Writes.{with_lost}
use Rattle.rbf_model.specs.Laws.{IsMapSector}
use Rattle.rbf_change.specs.Agrees.{MountedPart, Agrees}
use Rattle.rbf_change.specs.Calls.{shape}
use Rattle.rbf_alloc.specs.Own.{here, HasHere}

-- clusters that may be given back: they are marked and in no file; the whole ones are lost
pub record MayClear (v : DiskVolume) (image : List ℕ) (gone : ℕ → Bool) : Type 0 where
  pub marked : (c : ℕ) → gone c ≡ true → is_marked (sector image) c ≡ true
  pub unused : (c : ℕ) → gone c ≡ true → Unused (shape v) v.files c
  pub in_volume : (c : ℕ) → gone c ≡ true → c < cluster_count (shape v)

-- the marks of these clusters have been cleared on the media, and the mounted part agrees with it; only sectors of the
-- map have changed
pub record AreMarksCleared (v : DiskVolume) (old : List ℕ) (cleared : ℕ
    → Bool) (media : Option (List ℕ)) (kept : MountedPart)
    : Type 0 where
  pub now : List ℕ
  pub is : media ≡ Some now
  pub vol : Vol now (with_lost v (λ c. v.lost c && not (cleared c)))
  pub marks : (c : ℕ) → c < 2048 * map_sectors (image_geometry old)
      → is_marked (sector now) c ≡ (is_marked (sector old) c && not (cleared c))
  pub others : (s : ℕ) → ¬ IsMapSector (image_geometry old) s → sector now s ≡ sector old s
  pub agrees : Agrees kept now

-- the next sector of the map is the one in this place: no mark in it has been cleared
pub record IsClearing (v : DiskVolume) (old : List ℕ) (cleared gone : ℕ → Bool) (place : ℕ) (media : Option (List ℕ))
    (kept : MountedPart) : Type 0 where
  pub vol : Vol old v
  pub may : MayClear v old gone
  pub far : AreMarksCleared v old cleared media kept
  pub fresh : (c : ℕ) → c / 2048 ≡ place → cleared c ≡ false
  pub within : place < map_sectors (image_geometry old)

-- the same for some volume
pub record MayGoOn (gone : ℕ → Bool) (place : ℕ) (media : Option (List ℕ)) (kept : MountedPart) : Type 0 where
  pub volume : DiskVolume
  pub old : List ℕ
  pub cleared : ℕ → Bool
  pub is : IsClearing volume old cleared gone place media kept

-- the marks of these clusters in that sector are cleared in addition
abbrev pub ClearsNext : (ℕ → Bool) → ℕ → Option (List ℕ) → Option (List ℕ) → MountedPart → MountedPart → Type 0
ClearsNext gone place media now kept kept_now =
    (v : DiskVolume) (old : List ℕ) (cleared : ℕ → Bool) → IsClearing v old cleared gone place media kept
    → AreMarksCleared v old (λ c. cleared c || here gone place c) now kept_now

-- a fault occurred at a sector of the map with the mark of one of these clusters; nothing has changed
pub record IsStopped (gone : ℕ → Bool) (place : ℕ) (media now : Option (List ℕ)) (kept kept_now : MountedPart)
    : Type 0 where
  pub some : HasHere gone place
  pub media_kept : now ≡ media
  pub volume_kept : kept_now ≡ kept

-- by the answer: the marks have been cleared, or a fault occurred
abbrev pub AnswersClearing : {Done Fault : Type 0} → (ℕ → Bool) → ℕ → Option (List ℕ) → Option (List ℕ) → MountedPart
    → MountedPart → Result Done Fault → Type 0
AnswersClearing gone place media now kept kept_now (Ok done) = ClearsNext gone place media now kept kept_now
AnswersClearing gone place media now kept kept_now (Err fault) = IsStopped gone place media now kept kept_now

-- those of these clusters that have their mark in an earlier sector of the map
abbrev pub before : (ℕ → Bool) → ℕ → ℕ → Bool
before gone place c = gone c && nat_lt (c / 2048) place

-- the others of these clusters
abbrev pub not_before : (ℕ → Bool) → ℕ → ℕ → Bool
not_before gone place c = gone c && not (before gone place c)
