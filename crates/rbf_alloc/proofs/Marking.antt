-- A sector of the map that is written to the media.
use Rattle.std.proofs.Common.{◌≡◌, ◌≢◌, ℕ, ◌+◌, ◌-◌, ◌*◌, ◌/◌, ◌%◌, ◌<◌, ◌≤◌, Bool, true, false, not, ◌==◌, ◌&&◌, ◌||◌, Option, List, length, get_or, set, refl, sym, ap, ◌∙◌, subst, ⊎_elim, arith, slice_index, eqb-true, eq-eqb}
use Rattle.std.specs.Prelude.{if◌then◌else◌}
use Rattle.std.specs.Int.{bit_at}
use Rattle.std.proofs.Math.Nat.{mul-le-mul_left, mul-le-mul_right}
use Rattle.std.proofs.lemmas.Bool.{and_parts, false_from_ne_true, cases_eq}
use Rattle.std.proofs.lemmas.List.{get_or-set_same, get_or-set_other}
use Rattle.rbf_model.specs.Disk.{disk_of}
use mathlib.Core.Path.{fun_ext}
use Rattle.os9_outer.specs.Drive.{sector_count, with_sector}
use Rattle.rbf_model.specs.Geometry.{Geometry, image_geometry, geometry, sector, map_sectors}
use Rattle.rbf_model.specs.Space.{is_whole, is_marked}
use Rattle.rbf_model.specs.Volume.{DiskVolume, Vol, is_free}
use Rattle.rbf_model.specs.Writes.{put, put_sector, with_lost}
use Rattle.rbf_model.specs.Laws.{MarksFreeClusters}
use Rattle.rbf_model.proofs.Bytes.{put_beside, marked_beside, marked_here}
use Rattle.rbf_model.proofs.Free.{is_free_is}
use Rattle.rbf_model.proofs.ImageLaws.{takes_image}
use Rattle.rbf_model.proofs.Lifted.{sector_put}
use Rattle.rbf_model.proofs.Owners.{cluster_positive, mark_sector}
use Rattle.rbf_model.specs.ClusterMap.{ClusterMap, mark, IsSectorOf}
use Rattle.rbf_change.specs.Agrees.{MountedPart}
use Rattle.rbf_change.specs.Calls.{is_free_in}
use Rattle.rbf_change.proofs.LawfulWrites.{shape-image}
use Rattle.rbf_access.specs.Mounted.{RepresentsVolume, IsSoundMedia}
use Rattle.rbf_access.proofs.Reading.{below_total}
use Rattle.rbf_alloc.specs.Gained.{is_written}
use Rattle.rbf_alloc.specs.Marked.{is_new_mark, IsAhead, IsMarkedTo, IsMarkedOn, IsMarking, WritesMapSector}

-- the sector that has the mark of a cluster
mark_place : (c n : ℕ) → c / 2048 ≡ n → 1 + c / 8 / 256 ≡ 1 + n
mark_place c n is = omega arith

other_place : (c n : ℕ) → c / 2048 ≢ n → 1 + c / 8 / 256 ≢ 1 + n
other_place c n differ same = differ (omega arith)

-- what is free in a volume is free in its shape
free_in_shape : (image : List ℕ) (v : DiskVolume) (vol : Vol image v) (c : ℕ) → is_free_in v c ≡ (is_whole (image_geometry image) c && not (is_marked (sector image) c))
free_in_shape image v vol c = ap (λ g. is_free g v c) (shape-image image v vol) ∙ is_free_is (image_geometry image) (sector image) v vol.sound c

-- sector 0 is no sector of the map
pub shape_kept : (v : DiskVolume) (old now : List ℕ) (map : ClusterMap) (written : List Bool) → IsMarkedTo v old now map written → image_geometry now ≡ image_geometry old
shape_kept v old now map written marked = ap geometry (marked.others 0 (λ is. let after = is.after in absurd (omega arith)))

or_mark : (w t n : Bool) → ((w || (t && n)) || (t && true)) ≡ (w || (t && true))
or_mark true t n = refl
or_mark false true true = refl
or_mark false true false = refl
or_mark false false n = refl

or_none : (t : Bool) → (t || false) ≡ t
or_none true = refl
or_none false = refl

and_none : (t : Bool) → (t && false) ≡ false
and_none true = refl
and_none false = refl

module _ (v : DiskVolume) (old now : List ℕ) (kept : MountedPart) (written : List Bool) (ahead : IsAhead v old kept)
    (marked : IsMarkedTo v old now kept.map written) (n : ℕ) (room : n < length written)
    (fresh : (c : ℕ) → c / 2048 ≡ n → is_written written c ≡ false) (within : 1 + n ≤ map_sectors (image_geometry old))
    (bytes : List ℕ) (of_map : IsSectorOf kept.map.bytes n bytes) where
  abbrev g : Geometry
  g = image_geometry now

  same_shape : g ≡ image_geometry old
  same_shape = shape_kept v old now kept.map written marked

  abbrev then_written : List Bool
  then_written = set written n true

  abbrev left : DiskVolume
  left = with_lost v (λ c. v.lost c || (is_new_mark v kept.map c && is_written written c))

  here_now : (c : ℕ) → c / 2048 ≡ n → is_written then_written c ≡ true
  here_now c is = ap (λ i. get_or then_written i false) is ∙ get_or-set_same written n true false room

  as_before : (c : ℕ) → c / 2048 ≢ n → is_written then_written c ≡ is_written written c
  as_before c differ = get_or-set_other written n (c / 2048) true false differ

  -- the clusters that this write takes
  abbrev taken : ℕ → Bool
  taken c = is_new_mark v kept.map c && (c / 2048 == n)

  -- the mark in the sector that is written
  mark_here : (c : ℕ) → c / 2048 ≡ n → is_marked (put (sector now) (1 + n) bytes) c ≡ (mark kept.map.bytes c == 1)
  mark_here c is =
      let place : 256 * n + c / 8 % 256 ≡ c / 8 = omega arith in
      marked_here (sector now) (1 + n) bytes c (mark_place c n is)
      ∙ ap (λ b. bit_at b (7 - c % 8) == 1) (of_map.each (c / 8 % 256) (omega arith) ∙ ap (slice_index kept.map.bytes) place)

  in_bits : (c : ℕ) → c / 2048 ≡ n → c < 8 * length kept.map.bytes
  in_bits c is = let size = ahead.sectors in omega arith

  was_marked : (c : ℕ) → c / 2048 ≡ n → is_marked (sector now) c ≡ is_marked (sector old) c
  was_marked c is = marked.marks c (in_bits c is) ∙ ap (λ t. if t then mark kept.map.bytes c == 1 else is_marked (sector old) c) (fresh c is)

  takes : MarksFreeClusters (disk_of g (sector now)) left (1 + n) bytes taken
  takes = record {
    map = record { after = omega arith; within = subst (λ h. 1 + n ≤ map_sectors h) (sym same_shape) within };
    free = λ c h.
        let parts = and_parts (is_new_mark v kept.map c) (c / 2048 == n) h in
        let new = and_parts (is_free_in v c) (mark kept.map.bytes c == 1) parts.0 in
        let place = eqb-true (c / 2048) n parts.1 in
        is_free_is g (sector now) left marked.vol.sound c
        ∙ ap (λ t. is_whole g c && not t) (was_marked c place) ∙ ap (λ h. is_whole h c && not (is_marked (sector old) c)) same_shape
        ∙ sym (free_in_shape old v ahead.vol c) ∙ new.0;
    marks = λ c low. ⊎_elim
        (λ is.
        mark_here c is ∙ ahead.marks c (in_bits c is) ∙ ap (λ t. t || is_new_mark v kept.map c) (sym (was_marked c is))
        ∙ ap (λ t. is_marked (sector now) c || t) (sym (ap (λ t. is_new_mark v kept.map c && t) (eq-eqb (c / 2048) n is) ∙ and_all (is_new_mark v kept.map c))))
        (λ differ.
        marked_beside (sector now) (1 + n) bytes c (other_place c n differ)
        ∙ sym (ap (λ t. is_marked (sector now) c || (is_new_mark v kept.map c && t)) (false_from_ne_true (c / 2048 == n) (λ h. differ (eqb-true (c / 2048) n h)))
        ∙ ap (λ t. is_marked (sector now) c || t) (and_none (is_new_mark v kept.map c)) ∙ or_none (is_marked (sector now) c)))
        (cases_eq (c / 2048) n);
  }
    where
      and_all : (t : Bool) → (t && true) ≡ t
      and_all true = refl
      and_all false = refl

  lost_then : (c : ℕ) → (left.lost c || taken c) ≡ (v.lost c || (is_new_mark v kept.map c && is_written then_written c))
  lost_then c = ⊎_elim
      (λ is.
      ap (λ t. (v.lost c || (is_new_mark v kept.map c && is_written written c)) || (is_new_mark v kept.map c && t)) (eq-eqb (c / 2048) n is)
      ∙ or_mark (v.lost c) (is_new_mark v kept.map c) (is_written written c)
      ∙ ap (λ t. v.lost c || (is_new_mark v kept.map c && t)) (sym (here_now c is)))
      (λ differ.
      ap (λ t. (v.lost c || (is_new_mark v kept.map c && is_written written c)) || (is_new_mark v kept.map c && t)) (false_from_ne_true (c / 2048 == n) (λ h. differ (eqb-true (c / 2048) n h)))
      ∙ ap (λ t. (v.lost c || (is_new_mark v kept.map c && is_written written c)) || t) (and_none (is_new_mark v kept.map c))
      ∙ or_none (v.lost c || (is_new_mark v kept.map c && is_written written c))
      ∙ ap (λ t. v.lost c || (is_new_mark v kept.map c && t)) (sym (as_before c differ)))
      (cases_eq (c / 2048) n)

  fits : 256 * (1 + n + 1) ≤ length now
  fits =
      let whole = marked.vol.header.fits in
      let room_there = marked.vol.sound.shape.map.fits in
      let low : 1 + n ≤ map_sectors g = takes.map.within in
      let more : 256 * (1 + n + 1) ≤ 256 * g.total = mul-le-mul_left 256 (omega arith) in
      omega arith

  sectors_then : sector (put_sector now (1 + n) bytes) ≡ put (sector now) (1 + n) bytes
  sectors_then = sector_put now (1 + n) bytes of_map.length fits

  pub one_marked : IsMarkedTo v old (put_sector now (1 + n) bytes) kept.map (set written n true)
  one_marked = record {
    vol = subst (λ lost. Vol (put_sector now (1 + n) bytes) (with_lost v lost)) (fun_ext lost_then) (takes_image now left marked.vol (1 + n) bytes taken of_map.length takes);
    marks = λ c low. ap (λ d. is_marked d c) sectors_then ∙ ⊎_elim
        (λ is. mark_here c is ∙ sym (ap (λ t. if t then mark kept.map.bytes c == 1 else is_marked (sector old) c) (here_now c is)))
        (λ differ.
        marked_beside (sector now) (1 + n) bytes c (other_place c n differ) ∙ marked.marks c low
        ∙ sym (ap (λ t. if t then mark kept.map.bytes c == 1 else is_marked (sector old) c) (as_before c differ)))
        (cases_eq (c / 2048) n);
    others = λ s none.
        ap (λ (d : ℕ → List ℕ). d s) sectors_then
        ∙ put_beside (sector now) (1 + n) bytes s (λ same. none (record { after = omega arith; within = omega arith })) ∙ marked.others s none;
  }

-- the mark of a whole cluster is in the map
pub mark_within : (v : DiskVolume) (old : List ℕ) (kept : MountedPart) (cluster : ℕ) → IsAhead v old kept → cluster < kept.map.whole → 1 + cluster / 2048 ≤ map_sectors (image_geometry old)
mark_within v old kept cluster ahead low =
    let whole = ahead.whole_are in
    let positive = cluster_positive (image_geometry old).cluster ahead.vol.sound.shape.header.clusters in
    let most : (cluster + 1) * (image_geometry old).cluster ≤ ((image_geometry old).total / (image_geometry old).cluster) * (image_geometry old).cluster =
    mul-le-mul_right (image_geometry old).cluster (omega arith) in
    let begins : ((image_geometry old).total / (image_geometry old).cluster) * (image_geometry old).cluster ≤ (image_geometry old).total = omega arith in
    let there = mark_sector (image_geometry old) ahead.vol.sound.shape cluster (omega arith) in
    omega arith

-- on the media of a drive
pub write_on : (v : DiskVolume) (old : List ℕ) (before after : Option (List ℕ)) (kept : MountedPart) (written now_written : List Bool) (cluster n : ℕ) → n ≡ cluster / 2048 → n < length written
    → is_written written cluster ≡ false → cluster < kept.map.whole → now_written ≡ set written n true → WritesMapSector kept.map n before after
    → IsMarkedOn v old before kept written → IsMarkedOn v old after kept now_written
write_on v old before after kept written now_written cluster n place room not_yet low news writes on =
    let fresh : (c : ℕ) → c / 2048 ≡ n → is_written written c ≡ false = λ c is. ap (λ i. get_or written i false) (is ∙ place) ∙ not_yet in
    let within : 1 + n ≤ map_sectors (image_geometry old) = let size = on.ahead.sectors in let whole = on.ahead.whole_are in let all = mark_within v old kept cluster on.ahead low in omega arith in
    let marked = one_marked v old on.now kept written on.ahead on.marked n room fresh within writes.bytes writes.of_map in
    record {
      ahead = on.ahead;
      now = put_sector on.now (1 + n) writes.bytes;
      is = writes.media ∙ ap (λ m. with_sector m (1 + n) writes.bytes) on.is;
      marked = subst (λ w. IsMarkedTo v old (put_sector on.now (1 + n) writes.bytes) kept.map w) (sym news) marked;
    }

-- and the drive has that sector
pub sector_on : (kept : MountedPart) (media : Option (List ℕ)) (written : List Bool) (cluster n : ℕ) → n ≡ cluster / 2048
    → cluster < kept.map.whole → IsMarking kept media written → 1 + n < sector_count media
sector_on kept media written cluster n place low marking =
    let on = marking.on in
    let on_now : RepresentsVolume media (with_lost marking.volume (λ c. marking.volume.lost c || (is_new_mark marking.volume kept.map c && is_written written c))) =
    record { image = on.now; is = on.is; vol = on.marked.vol } in
    let within = mark_within marking.volume marking.old kept cluster on.ahead low in
    let same = shape_kept marking.volume marking.old on.now kept.map written on.marked in
    let room = on.marked.vol.sound.shape.map.fits in
    let sectors : map_sectors (image_geometry on.now) ≡ map_sectors (image_geometry marking.old) = ap map_sectors same in
    below_total media _ on_now (1 + n) (omega arith)

-- the media is sound once the sector is written
pub mark_sound : (kept : MountedPart) (media : Option (List ℕ)) (written : List Bool) (cluster n : ℕ) → n ≡ cluster / 2048 → n < length written → is_written written cluster ≡ false
    → cluster < kept.map.whole → IsMarking kept media written → (bytes : List ℕ) → IsSectorOf kept.map.bytes n bytes → IsSoundMedia (with_sector media (1 + n) bytes)
mark_sound kept media written cluster n place room not_yet low marking bytes of_map =
    let on =
    write_on marking.volume marking.old media (with_sector media (1 + n) bytes) kept written (set written n true) cluster n place room not_yet low refl
    (record { bytes = bytes; of_map = of_map; media = refl }) marking.on in
    (with_lost marking.volume (λ c. marking.volume.lost c || (is_new_mark marking.volume kept.map c && is_written (set written n true) c)), record { image = on.now; is = on.is; vol = on.marked.vol })
