-- What is read of a volume when it is mounted.
use Rattle.std.proofs.Common.{◌≡◌, ℕ, ◌+◌, ◌-◌, ◌*◌, ◌/◌, ◌<◌, ◌≤◌, ◌==◌, min, Option, Some, None, List, [], ◌++◌, length, take, drop, get_or, refl, ap, sym, subst, ◌∙◌, arith, length-take, length-drop, drop-drop, ⊎_elim}
use Rattle.std.proofs.Math.Seq.{take-add}
use Rattle.std.specs.Int.{div_ceil}
use Rattle.std.proofs.Math.Nat.{mul-le-mul_left}
use Rattle.std.proofs.lemmas.Nat.{div-mul-add}
use Rattle.std.proofs.lemmas.Bool.{cases_lt}
use Rattle.std.proofs.lemmas.Grind.{div_ceil_times}
use Rattle.std.proofs.lemmas.List.{get_or-take, get_or-drop}
use Rattle.os9_outer.specs.Drive.{sector_count, sector_at}
use Rattle.rbf_model.specs.Geometry.{Geometry, geometry, image_geometry, sector, HasHeader, HasMap, map_sectors}
use Rattle.rbf_model.specs.Space.{is_marked, cluster_count}
use Rattle.rbf_model.proofs.SectorBytes.{map_byte_is}
use Rattle.rbf_model.proofs.Owners.{cluster_positive, cluster_begins}
use Rattle.rbf_model.specs.Volume.{DiskVolume, Vol, free_clusters}
use Rattle.rbf_model.specs.ClusterMap.{ClusterMap, mark, map_free_clusters}
use Rattle.rbf_map.proofs.Volume.{marked_is, free_clusters_are}
use Rattle.rbf_change.specs.Agrees.{Agrees, AgreesOnMap}
use Rattle.rbf_change.specs.Calls.{shape, free_total}
use Rattle.rbf_change.proofs.LawfulWrites.{shape-image}
use Rattle.rbf_sector.specs.Ident.{geometry_of}
use Rattle.rbf_sector.specs.declared.ident.Ident.{Ident}
use Rattle.rbf_access.specs.Drive.{DriveCounts, MovesCounts, AccessesMade}
use Rattle.rbf_access.proofs.Caching.{none_cached}
use Rattle.rbf_access.proofs.Counting.{no_calls, counts_then, counts_most, made_then}
use Rattle.rbf_access.specs.Mounted.{FitsDrive, HoldsVolume, IsIdentOf, IsMapOf, IsVolumeOf, IsMounted, RepresentsVolume, mounted_part, map_bytes, media_calls}
use Rattle.rbf_access.specs.declared.volume.Volume.{Volume}

-- an image that a drive holds with an identification sector that fits it
held : (image : List ℕ) (sectors : ℕ) → sectors ≡ sector_count (Some image) → FitsDrive (sector image 0) sectors → HoldsVolume (Some image)
held image sectors count fits =
    let least = fits.header.least in
    let below = fits.fits in
    let all : sectors ≤ length image / 256 = omega arith in
    record {
      image = image;
      is = refl;
      header = record { ident = omega arith; header = fits.header; fits = omega arith };
      map = fits.map;
    }

pub ident_of : (media : Option (List ℕ)) (bytes : List ℕ) (sectors : ℕ) (ident : Ident) → sectors ≡ sector_count media
    → bytes ≡ sector_at media 0 → FitsDrive bytes sectors → geometry_of ident ≡ geometry bytes → IsIdentOf media ident
unfolding held
ident_of None bytes sectors ident count read fits sizes =
    let least = fits.header.least in
    let below = fits.fits in
    absurd (omega arith)
ident_of (Some image) bytes sectors ident count read fits sizes =
    record {
      holds = held image sectors count (subst (λ b. FitsDrive b sectors) read fits);
      sizes = sizes ∙ ap geometry read;
    }

-- an image that holds its volume fits the drive
pub fits_of : (media : Option (List ℕ)) (bytes : List ℕ) (sectors : ℕ) → sectors ≡ sector_count media → bytes ≡ sector_at media 0
    → HoldsVolume media → FitsDrive bytes sectors
fits_of media bytes sectors count read holds =
    let image = holds.image in
    let least = holds.header.header.least in
    let most = holds.header.header.most in
    let within = holds.header.fits in
    let counted : sectors ≡ min (length image / 256) 4294967295 = count ∙ ap sector_count holds.is in
    let read_is : bytes ≡ sector image 0 = read ∙ ap (λ m. sector_at m 0) holds.is in
    subst (λ b. FitsDrive b sectors) (sym read_is) (record { header = holds.header.header; map = holds.map; fits = omega arith })

-- a drive without a sector holds none
pub none_held : (media : Option (List ℕ)) → sector_count media ≡ 0 → HoldsVolume media → ⊥
none_held media none holds =
    let image = holds.image in
    let whole = holds.header.ident in
    let counted : min (length image / 256) 4294967295 ≡ 0 = ap sector_count (sym holds.is) ∙ none in
    absurd (omega arith)

-- one sector of the map more
pub map_more : (media : Option (List ℕ)) (count lsn : ℕ) → lsn ≡ count + 1 → map_bytes media count ++ sector_at media lsn ≡ map_bytes media (count + 1)
map_more None count lsn is = refl
map_more (Some image) count lsn is =
    let place : 256 * lsn ≡ 256 + 256 * count = omega arith in
    let more : 256 * count + 256 ≡ 256 * (count + 1) = omega arith in
    ap (λ b. take (256 * count) (drop 256 image) ++ b) (ap (λ k. take 256 (drop k image)) place ∙ ap (take 256) (sym (drop-drop (256 * count) 256 image)))
    ∙ sym (take-add (256 * count) 256 (drop 256 image)) ∙ ap (λ n. take n (drop 256 image)) more

-- so many sectors of the map have been read
pub record IsMapRead (media : Option (List ℕ)) (before : DriveCounts) (count : ℕ) (bytes : List ℕ) (media_now : Option (List ℕ)) (now : DriveCounts) : Type 0 where
  pub bytes_are : bytes ≡ map_bytes media count
  pub same : media_now ≡ media
  pub moved : MovesCounts None count before now
  pub calls : AccessesMade count before.calls now.calls

pub none_read : (media : Option (List ℕ)) (before : DriveCounts) (bytes : List ℕ) → bytes ≡ [] → IsMapRead media before 0 bytes media before
none_read media before bytes none =
    record { bytes_are = none ∙ no_bytes media; same = refl; moved = no_calls before; calls = omega arith }
  where
    no_bytes : (m : Option (List ℕ)) → [] ≡ map_bytes m 0
    no_bytes None = refl
    no_bytes (Some image) = refl

pub one_read : (media : Option (List ℕ)) (before : DriveCounts) (count lsn : ℕ) (bytes : List ℕ) (mid : Option (List ℕ)) (half : DriveCounts)
    (sector : List ℕ) (now : Option (List ℕ)) (after : DriveCounts) (next : ℕ) (news : List ℕ) → IsMapRead media before count bytes mid half
    → lsn ≡ count + 1 → next ≡ count + 1 → sector ≡ sector_at mid lsn → now ≡ mid → MovesCounts None 1 half after → AccessesMade 1 half.calls after.calls
    → news ≡ bytes ++ sector → IsMapRead media before next news now after
one_read media before count lsn bytes mid half sector now after next news read is step sector_is kept counts made more =
    let whole : sector ≡ sector_at media lsn = sector_is ∙ ap (λ m. sector_at m lsn) read.same in
    let all : IsMapRead media before (count + 1) (bytes ++ sector) now after = record {
      bytes_are = ap (λ b. bytes ++ b) whole ∙ ap (λ b. b ++ sector_at media lsn) read.bytes_are ∙ map_more media count lsn is;
      same = kept ∙ read.same;
      moved = counts_then None count 1 before half after read.moved counts;
      calls = made_then count 1 before.calls half.calls after.calls read.calls made;
    } in
    let there = subst (λ n. IsMapRead media before n (bytes ++ sector) now after) (sym step) all in
    subst (λ b. IsMapRead media before next b now after) (sym more) there

-- one list alone is the media
one_image : (media : Option (List ℕ)) (one other : List ℕ) → media ≡ Some one → media ≡ Some other → one ≡ other
one_image media one other p q = let both : Some one ≡ Some other = sym p ∙ q in cc

module _ (image : List ℕ) (header : HasHeader image) (has : HasMap (image_geometry image)) (map : ClusterMap)
    (bytes : map.bytes ≡ take (256 * map_sectors (image_geometry image)) (drop 256 image)) where
  map_length : length map.bytes ≡ 256 * map_sectors (image_geometry image)
  map_length =
      let fits = has.fits in
      let whole = header.fits in
      let behind = length-drop 256 image in
      ap length bytes ∙ length-take (256 * map_sectors (image_geometry image)) (drop 256 image) ∙ omega arith

  map_marks : (c : ℕ) → c < 8 * length map.bytes → is_marked (sector image) c ≡ (mark map.bytes c == 1)
  map_marks c low =
      let front = 256 * map_sectors (image_geometry image) in
      let all = map_length in
      let within : c / 8 < front = omega arith in
      marked_is (sector image) map.bytes c
      (ap (λ b. get_or b (c / 8) 0) bytes ∙ get_or-take front (drop 256 image) (c / 8) 0 within ∙ get_or-drop 256 image (c / 8) 0 ∙ sym (map_byte_is image (c / 8)))

  pub image_map : map.clusters ≡ cluster_count (image_geometry image) → map.whole ≡ (image_geometry image).total / (image_geometry image).cluster → AgreesOnMap map image
  image_map clusters whole = record { clusters_are = clusters; whole_are = whole; sectors = map_length; marks = map_marks }

-- the map that is made of an identification and the bytes of the map's sectors is that of the media
pub map_agrees : (media : Option (List ℕ)) (ident : Ident) (map : ClusterMap) → IsIdentOf media ident
    → map.clusters ≡ cluster_count (geometry_of ident) → map.whole ≡ ident.total / ident.cluster
    → map.bytes ≡ map_bytes media (map_sectors (geometry_of ident)) → IsMapOf media map
map_agrees media ident map known clusters whole bytes image is =
    let holds = known.holds in
    let same : holds.image ≡ image = one_image media holds.image image holds.is is in
    let sizes : geometry_of ident ≡ image_geometry image = known.sizes ∙ ap image_geometry same in
    let P : List ℕ → Type 0 = HasHeader in
    let Q : List ℕ → Type 0 = λ i. HasMap (image_geometry i) in
    image_map image (subst P same holds.header) (subst Q same holds.map) map
    (bytes ∙ ap (λ m. map_bytes m (map_sectors (geometry_of ident))) is ∙ ap (λ g. take (256 * map_sectors g) (drop 256 image)) sizes)
    (clusters ∙ ap cluster_count sizes) (whole ∙ ap (λ g. g.total / g.cluster) sizes)

-- what is known of the sizes that an identification gives
pub record AreSizes (media : Option (List ℕ)) (g : Geometry) : Type 0 where
  pub cluster_some : 1 ≤ g.cluster
  pub map_within : 1 + map_sectors g ≤ sector_count media
  pub bits : g.total ≤ 8 * g.map_bytes * g.cluster
  pub all_bytes : length (map_bytes media (map_sectors g)) ≡ 256 * map_sectors g

pub sizes_of : (media : Option (List ℕ)) (ident : Ident) → IsIdentOf media ident → AreSizes media (geometry_of ident)
sizes_of media ident known =
    let holds = known.holds in
    let image = holds.image in
    let g = image_geometry image in
    let fits = holds.map.fits in
    let whole = holds.header.fits in
    let most = holds.header.header.most in
    let behind = length-drop 256 image in
    let there : AreSizes (Some image) g = record {
      cluster_some = cluster_positive g.cluster holds.header.header.clusters;
      map_within = omega arith;
      bits = holds.map.bits;
      all_bytes = length-take (256 * map_sectors g) (drop 256 image) ∙ omega arith;
    } in
    let moved = subst (λ m. AreSizes m g) (sym holds.is) there in
    subst (AreSizes media) (sym known.sizes) moved

-- a total divided by the sectors of a cluster and rounded up
ceil_is : (t k : ℕ) → 0 < k → (t + (k - 1)) / k ≡ div_ceil t k
ceil_is t k positive =
    let q = div_ceil t k in
    let bounds = div_ceil_times t k positive in
    let low : t ≤ q * k = bounds.0 in
    let high : q * k < t + k = bounds.1 in
    let split : q * k + (t + (k - 1) - q * k) ≡ t + (k - 1) = omega arith in
    ap (λ x. x / k) (sym split) ∙ div-mul-add q k (t + (k - 1) - q * k) (omega arith)

-- so many clusters are not more than a number of which k times is the total at least
ceil_most : (t k m : ℕ) → 0 < k → t ≤ m * k → div_ceil t k ≤ m
ceil_most t k m positive most =
    let q = div_ceil t k in
    let high : q * k < t + k = (div_ceil_times t k positive).1 in
    ⊎_elim (λ less. let more : k * (m + 1) ≤ k * q = mul-le-mul_left k (omega arith) in absurd (omega arith)) (λ enough. enough) (cases_lt m q)

-- the clusters have bits in the map
pub bits_enough : (media : Option (List ℕ)) (g : Geometry) (clusters k : ℕ) (bytes : List ℕ) → AreSizes media g → k ≡ g.cluster → clusters ≡ div_ceil g.total k
    → bytes ≡ map_bytes media (map_sectors g) → clusters ≤ 8 * length bytes
bits_enough media g clusters k bytes sizes cluster is read =
    let few : div_ceil g.total g.cluster ≤ 8 * g.map_bytes = ceil_most g.total g.cluster (8 * g.map_bytes) sizes.cluster_some sizes.bits in
    let same : clusters ≡ div_ceil g.total g.cluster = is ∙ ap (div_ceil g.total) cluster in
    let whole : length bytes ≡ 256 * map_sectors g = ap length read ∙ sizes.all_bytes in
    omega arith

pub cluster_count_is : (g : Geometry) (clusters k : ℕ) → 1 ≤ g.cluster → k ≡ g.cluster → clusters ≡ div_ceil g.total k → clusters ≡ cluster_count g
cluster_count_is g clusters k positive cluster is = is ∙ ap (div_ceil g.total) cluster ∙ sym (ceil_is g.total g.cluster positive)

-- an identification and a map of the media are what is kept of its volume
pub volume_of : (old mid now : Option (List ℕ)) (volume : Volume) → mid ≡ old → now ≡ mid → IsIdentOf old volume.ident → IsMapOf mid volume.map → volume.cache ≡ [] → IsVolumeOf now volume
volume_of old mid now volume first then_kept known map none =
    let there : IsVolumeOf old volume = record {
      holds = known.holds;
      agrees = record { sizes_are = known.sizes; map = map known.holds.image (first ∙ known.holds.is) };
      cached = none_cached old volume.cache none;
    } in
    subst (λ m. IsVolumeOf m volume) (sym (then_kept ∙ first)) there

-- the calls that a mount makes of a drive with this media
pub media_calls_of : (media : Option (List ℕ)) (ident : Ident) → IsIdentOf media ident → 1 + map_sectors (geometry_of ident) ≡ media_calls media
media_calls_of media ident known = ap (λ g. 1 + map_sectors g) known.sizes ∙ sym (ap media_calls known.holds.is)

-- the identification sector alone has been read, if there is one
pub first_call : (media : Option (List ℕ)) (f : Option ℕ) (s t : DriveCounts) → (sector_count media ≡ 0 → t.calls ≡ s.calls) → MovesCounts f 1 s t → MovesCounts f (media_calls media) s t
first_call None f s t empty moved =
    let same = empty refl in
    record { calls_made = omega arith; never_falls = moved.never_falls; rose = moved.rose; number = moved.number; kept = moved.kept; last_kept = moved.last_kept }
first_call (Some image) f s t empty moved = counts_most f 1 (1 + map_sectors (image_geometry image)) s t (omega arith) moved

-- the root and the free clusters of a volume that is kept are those of the volume that the image represents
pub root_is : (volume : Volume) (image : List ℕ) (v : DiskVolume) → Agrees (mounted_part volume) image → Vol image v → volume.ident.root ≡ (shape v).root
root_is volume image v agrees vol = ap (λ (g : Geometry). g.root) (agrees.sizes_are ∙ sym (shape-image image v vol))

pub free_total_is : (volume : Volume) (image : List ℕ) (v : DiskVolume) → Agrees (mounted_part volume) image → Vol image v → length (map_free_clusters volume.map) ≡ free_total v
free_total_is volume image v agrees vol =
    let g = image_geometry image in
    let map = agrees.map in
    let positive = cluster_positive g.cluster vol.sound.shape.header.clusters in
    let few : g.total / g.cluster ≤ 8 * g.map_bytes = whole_most g.total g.cluster (8 * g.map_bytes) positive vol.sound.shape.map.bits in
    let marked = λ (c : ℕ) (low : c < volume.map.whole). map.marks c (let whole = map.whole_are in let bytes = map.sectors in omega arith) in
    ap length (sym (free_clusters_are g (sector image) v vol.sound volume.map map.whole_are marked)) ∙ ap (λ h. length (free_clusters h v)) (sym (shape-image image v vol))
  where
    whole_most : (t k m : ℕ) → 1 ≤ k → t ≤ m * k → t / k ≤ m
    whole_most t k m positive most =
        let q = t / k in
        let begins = cluster_begins t k positive in
        ⊎_elim (λ less. let more : k * (m + 1) ≤ k * q = mul-le-mul_left k (omega arith) in absurd (omega arith)) (λ enough. enough) (cases_lt m q)

-- and it is mounted where the media represents a volume
pub mounted_of : (old now : Option (List ℕ)) (volume : Volume) (v : DiskVolume) → now ≡ old → IsVolumeOf now volume → RepresentsVolume old v → IsMounted volume now
mounted_of old now volume v same known on =
    let there : now ≡ Some on.image = same ∙ on.is in
    let P : List ℕ → Type 0 = λ i. Agrees (mounted_part volume) i in
    record {
      content = v;
      on = record { image = on.image; is = there; vol = on.vol };
      agrees = subst P (one_image now known.holds.image on.image known.holds.is there) known.agrees;
      cached = known.cached;
    }
