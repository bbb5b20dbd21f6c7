-- A sector of the map is written without the marks of clusters that are given back.
use Rattle.std.proofs.Common.{◌≡◌, ◌≢◌, ℕ, ◌+◌, ◌-◌, ◌*◌, ◌/◌, ◌%◌, ◌<◌, ◌≤◌, Bool, true, false, not, ◌==◌, ◌&&◌, ◌||◌, Option, List, length, inl, inr, refl, sym, ap, ◌∙◌, subst, ⊎_elim, arith, slice_index, eqb-true, eq-eqb}
use Rattle.std.specs.Prelude.{if◌then◌else◌, MatchOption, Some, None, is_some}
use Rattle.std.specs.Int.{bit_at}
use Rattle.std.proofs.Math.Nat.{mul-le-mul_left}
use Rattle.std.proofs.lemmas.Bool.{false≢true, and_parts, and_from, not_from_false, false_from_ne_true, cases_eq, cases_Bool}
use Rattle.rbf_model.specs.Disk.{disk_of}
use mathlib.Core.Path.{fun_ext}
use Rattle.os9_outer.specs.Drive.{sector_count, with_sector}
use Rattle.rbf_model.specs.Geometry.{Geometry, image_geometry, geometry, sector, map_sectors}
use Rattle.rbf_model.specs.Space.{is_whole, is_marked, cluster_count, Unused}
use Rattle.rbf_model.specs.Volume.{DiskVolume, Vol}
use Rattle.rbf_model.specs.Writes.{put, put_sector, with_lost}
use Rattle.rbf_model.specs.Laws.{FreesClusters}
use Rattle.rbf_model.proofs.Bytes.{put_beside, marked_beside, marked_here}
use Rattle.rbf_model.proofs.ImageLaws.{frees_image}
use Rattle.rbf_model.proofs.Lifted.{sector_put}
use Rattle.rbf_model.proofs.Owners.{cluster_positive}
use Rattle.rbf_model.specs.ClusterMap.{ClusterMap, mark, IsSectorOf}
use Rattle.rbf_change.specs.Agrees.{MountedPart, Agrees}
use Rattle.rbf_change.specs.Calls.{shape}
use Rattle.rbf_change.proofs.LawfulWrites.{shape-image}
use Rattle.rbf_access.specs.Mounted.{RepresentsVolume}
use Rattle.rbf_access.proofs.Reading.{below_total}
use Rattle.rbf_access.specs.Mounted.{IsSoundMedia}
use Rattle.rbf_alloc.specs.Own.{here, NoneHere, AreInMap, sector_mark, ClearsIn, ClearsMarks}
use Rattle.rbf_alloc.specs.Cleared.{AreMarksCleared, IsClearing, MayGoOn, ClearsNext}

and_or : (t a b : Bool) → ((t && not a) && not b) ≡ (t && not (a || b))
and_or true true b = refl
and_or true false b = refl
and_or false true b = refl
and_or false false b = refl

and_true : (t : Bool) → (t && true) ≡ t
and_true true = refl
and_true false = refl

or_false : (t : Bool) → (t || false) ≡ t
or_false true = refl
or_false false = refl

cleared_mark : (t : Bool) (m : ℕ) → ((m == 1) && not t) ≡ ((if t then 0 else m) == 1)
cleared_mark true m = and_false (m == 1)
  where
    and_false : (b : Bool) → (b && false) ≡ false
    and_false true = refl
    and_false false = refl
cleared_mark false m = and_true (m == 1)

module _ (v : DiskVolume) (old : List ℕ) (cleared gone : ℕ → Bool) (place : ℕ) (media : Option (List ℕ)) (kept : MountedPart) (state : IsClearing v old cleared gone place media kept) where
  abbrev now : List ℕ
  now = state.far.now

  abbrev g : Geometry
  g = image_geometry now

  abbrev left : DiskVolume
  left = with_lost v (λ c. v.lost c && not (cleared c))

  same_shape : g ≡ image_geometry old
  same_shape = ap geometry (state.far.others 0 (λ is. let after = is.after in absurd (omega arith)))

  volume_shape : shape v ≡ g
  volume_shape = shape-image old v state.vol ∙ sym same_shape

  there : 1 + place ≤ map_sectors g
  there =
      let within = state.within in
      let same : map_sectors g ≡ map_sectors (image_geometry old) = ap map_sectors same_shape in
      omega arith

  -- the drive has the sector, and the map has the clusters
  pub sector_there : 1 + place < sector_count media
  sector_there =
      let on : RepresentsVolume media left = record { image = now; is = state.far.is; vol = state.far.vol } in
      let room = state.far.vol.sound.shape.map.fits in
      let low = there in
      below_total media left on (1 + place) (omega arith)

  pub in_kept : AreInMap gone kept.map
  in_kept c h =
      let low : c < cluster_count (shape v) = state.may.in_volume c h in
      let same : kept.map.clusters ≡ cluster_count (shape v) = state.far.agrees.map.clusters_are ∙ ap cluster_count (sym volume_shape) in
      omega arith

  pub positive : 1 ≤ kept.sizes.cluster
  positive =
      let same : kept.sizes.cluster ≡ g.cluster = ap (λ (h : Geometry). h.cluster) state.far.agrees.sizes_are in
      let some = cluster_positive g.cluster state.far.vol.sound.shape.header.clusters in
      omega arith

  in_bits : (c : ℕ) → c / 2048 ≡ place → c < 8 * length kept.map.bytes
  in_bits c is =
      let size = state.far.agrees.map.sectors in
      let low = there in
      omega arith

  -- no cluster has its mark there
  pub nothing_there : NoneHere gone place → AreMarksCleared v old (λ c. cleared c || here gone place c) media kept
  nothing_there none =
      let same : cleared ≡ (λ c. cleared c || here gone place c) = fun_ext (λ c. sym (ap (λ t. cleared c || t) (none c) ∙ or_false (cleared c))) in
      subst (λ t. AreMarksCleared v old t media kept) same state.far

  module _ (first bytes : List ℕ) (of_map : IsSectorOf kept.map.bytes place first) (whole : length bytes ≡ 256) (without : ClearsIn place first bytes gone) where
    abbrev disk : ℕ → List ℕ
    disk = put (sector now) (1 + place) bytes

    mark_kept : (c : ℕ) → c / 2048 ≡ place → sector_mark first c ≡ (mark kept.map.bytes c == 1)
    mark_kept c is =
        let at : 256 * place + c / 8 % 256 ≡ c / 8 = omega arith in
        ap (λ b. bit_at b (7 - c % 8) == 1) (of_map.each (c / 8 % 256) (omega arith) ∙ ap (slice_index kept.map.bytes) at)

    marks_then : (c : ℕ) → is_marked disk c ≡ (is_marked (sector now) c && not (here gone place c))
    marks_then c = ⊎_elim
        (λ is.
        let at : 1 + c / 8 / 256 ≡ 1 + place = omega arith in
        marked_here (sector now) (1 + place) bytes c at
        ∙ without c is ∙ ap (λ t. t && not (gone c)) (mark_kept c is ∙ sym (state.far.agrees.map.marks c (in_bits c is)))
        ∙ ap (λ t. is_marked (sector now) c && not t) (sym (ap (λ t. gone c && t) (eq-eqb (c / 2048) place is) ∙ and_true (gone c))))
        (λ differ.
        let elsewhere : 1 + c / 8 / 256 ≢ 1 + place = λ same. differ (omega arith) in
        let none : here gone place c ≡ false = false_from_ne_true (here gone place c) (λ h. differ (eqb-true (c / 2048) place (and_parts (gone c) (c / 2048 == place) h).1)) in
        marked_beside (sector now) (1 + place) bytes c elsewhere ∙ sym (ap (λ t. is_marked (sector now) c && not t) none ∙ and_true (is_marked (sector now) c)))
        (cases_eq (c / 2048) place)

    frees : FreesClusters (disk_of g (sector now)) left (1 + place) bytes (here gone place)
    frees = record {
      map = record { after = omega arith; within = there };
      unused = λ c h.
          let parts = and_parts (gone c) (c / 2048 == place) h in
          let at : c / 2048 ≡ place = eqb-true (c / 2048) place parts.1 in
          let unused : Unused g v.files c = subst (λ s. Unused s v.files c) volume_shape (state.may.unused c parts.0) in
          ⊎_elim
          (λ is_all.
          inl (and_from (v.lost c) (not (cleared c))
          ((state.vol.sound.mapped.lost_are c).1 (record {
            whole = subst (λ s. is_whole s c ≡ true) same_shape is_all;
            marked_in = state.may.marked c parts.0;
            unused = subst (λ s. Unused s v.files c) same_shape unused;
          }))
          (not_from_false (cleared c) (state.fresh c at))))
          (λ part. inr (part, unused))
          (cases_Bool (is_whole g c));
      marks = λ c low. marks_then c;
    }

    fits : 256 * (1 + place + 1) ≤ length now
    fits =
        let all = state.far.vol.header.fits in
        let room = state.far.vol.sound.shape.map.fits in
        let low = there in
        let more : 256 * (1 + place + 1) ≤ 256 * g.total = mul-le-mul_left 256 (omega arith) in
        omega arith

    sectors_then : sector (put_sector now (1 + place) bytes) ≡ disk
    sectors_then = sector_put now (1 + place) bytes whole fits

    shape_then : image_geometry (put_sector now (1 + place) bytes) ≡ g
    shape_then = ap geometry (ap (λ (d : ℕ → List ℕ). d 0) sectors_then ∙ put_beside (sector now) (1 + place) bytes 0 (λ same. absurd (omega arith)))

    agrees_then : (map : ClusterMap) → ClearsMarks kept.map map (here gone place) → Agrees (record { sizes = kept.sizes; map = map }) (put_sector now (1 + place) bytes)
    agrees_then map freed =
        let agrees = state.far.agrees in
        record {
          sizes_are = agrees.sizes_are ∙ sym shape_then;
          map = record {
            clusters_are = freed.clusters ∙ agrees.map.clusters_are ∙ ap cluster_count (sym shape_then);
            whole_are = freed.whole ∙ agrees.map.whole_are ∙ ap (λ (h : Geometry). h.total / h.cluster) (sym shape_then);
            sectors = freed.bytes ∙ agrees.map.sectors ∙ ap (λ h. 256 * map_sectors h) (sym shape_then);
            marks = λ c low.
                let size = freed.bytes in
                ap (λ d. is_marked d c) sectors_then ∙ marks_then c ∙ ap (λ t. t && not (here gone place c)) (agrees.map.marks c (omega arith))
                ∙ cleared_mark (here gone place c) (mark kept.map.bytes c) ∙ ap (λ m. m == 1) (sym (freed.marks c));
          };
        }

    -- the media is sound once the sector is written
    pub sound_then : IsSoundMedia (with_sector media (1 + place) bytes)
    sound_then = (
      _,
      record {
        image = put_sector now (1 + place) bytes;
        is = ap (λ m. with_sector m (1 + place) bytes) state.far.is;
        vol = frees_image now left state.far.vol (1 + place) bytes (here gone place) whole frees;
      },
    )

    -- the sector has been written, and then what is kept has the marks no more
    pub cleared_then : (media_now : Option (List ℕ)) (kept_now : MountedPart) (map : ClusterMap) → media_now ≡ with_sector media (1 + place) bytes → ClearsMarks kept.map map (here gone place)
        → kept_now ≡ record { sizes = kept.sizes; map = map } → AreMarksCleared v old (λ c. cleared c || here gone place c) media_now kept_now
    cleared_then media_now kept_now map written freed is = record {
      now = put_sector now (1 + place) bytes;
      is = written ∙ ap (λ m. with_sector m (1 + place) bytes) state.far.is;
      vol = subst (λ lost. Vol (put_sector now (1 + place) bytes) (with_lost v lost)) (fun_ext (λ c. and_or (v.lost c) (cleared c) (here gone place c)))
          (frees_image now left state.far.vol (1 + place) bytes (here gone place) whole frees);
      marks = λ c low.
          ap (λ d. is_marked d c) sectors_then ∙ marks_then c ∙ ap (λ t. t && not (here gone place c)) (state.far.marks c low)
          ∙ and_or (is_marked (sector old) c) (cleared c) (here gone place c);
      others = λ s none.
          let low = state.within in
          ap (λ (d : ℕ → List ℕ). d s) sectors_then
          ∙ put_beside (sector now) (1 + place) bytes s (λ same. none (record { after = omega arith; within = omega arith })) ∙ state.far.others s none;
      agrees = subst (λ kv. Agrees kv (put_sector now (1 + place) bytes)) (sym is) (agrees_then map freed);
    }

-- the same for some volume, as the code has it
pub go_sector : (gone : ℕ → Bool) (place : ℕ) (media : Option (List ℕ)) (kept : MountedPart) → MayGoOn gone place media kept → 1 + place < sector_count media
go_sector gone place media kept go = sector_there go.volume go.old go.cleared gone place media kept go.is

pub go_in_map : (gone : ℕ → Bool) (place : ℕ) (media : Option (List ℕ)) (kept : MountedPart) → MayGoOn gone place media kept → AreInMap gone kept.map
go_in_map gone place media kept go = in_kept go.volume go.old go.cleared gone place media kept go.is

pub go_positive : (gone : ℕ → Bool) (place : ℕ) (media : Option (List ℕ)) (kept : MountedPart) → MayGoOn gone place media kept → 1 ≤ kept.sizes.cluster
go_positive gone place media kept go = positive go.volume go.old go.cleared gone place media kept go.is

pub clears_nothing : (gone : ℕ → Bool) (place : ℕ) (media : Option (List ℕ)) (kept : MountedPart) → NoneHere gone place → ClearsNext gone place media media kept kept
clears_nothing gone place media kept none v old cleared state = nothing_there v old cleared gone place media kept state none

pub clears_next : (gone : ℕ → Bool) (place p : ℕ) (media now : Option (List ℕ)) (kept kept_now : MountedPart) (first bytes : List ℕ) (map : ClusterMap)
    → IsSectorOf kept.map.bytes place first → length bytes ≡ 256
    → ClearsIn place first bytes gone → p ≡ place → now ≡ with_sector media (1 + p) bytes → ClearsMarks kept.map map (here gone place) → kept_now ≡ record { sizes = kept.sizes; map = map }
    → ClearsNext gone place media now kept kept_now
clears_next gone place p media now kept kept_now first bytes map of_map whole without same written freed is v old cleared state =
    cleared_then v old cleared gone place media kept state first bytes of_map whole without now kept_now map (written ∙ ap (λ q. with_sector media (1 + q) bytes) same) freed is

pub go_sound : (gone : ℕ → Bool) (place p : ℕ) (media : Option (List ℕ)) (kept : MountedPart) (first bytes : List ℕ) → IsSectorOf kept.map.bytes place first → length bytes ≡ 256
    → ClearsIn place first bytes gone → p ≡ place → MayGoOn gone place media kept → IsSoundMedia (with_sector media (1 + p) bytes)
go_sound gone place p media kept first bytes of_map whole without same go =
    subst (λ q. IsSoundMedia (with_sector media (1 + q) bytes)) (sym same) (sound_then go.volume go.old go.cleared gone place media kept go.is first bytes of_map whole without)

-- an answer that is none
pub none_if : (o : Option ℕ) (P : Type 0) (Q : ℕ → Type 0) → is_some o ≡ false → MatchOption o P Q → P
none_if None P Q none h = h
none_if (Some c) P Q none h = absurd (false≢true (sym none))

-- and one that is there
pub some_if : (o : Option ℕ) (P : Type 0) (Q : ℕ → Type 0) → is_some o ≡ true → MatchOption o P Q → (c : ℕ) × Q c
some_if None P Q some h = absurd (false≢true some)
some_if (Some c) P Q some h = (c, h)
