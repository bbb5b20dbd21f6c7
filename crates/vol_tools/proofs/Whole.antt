-- An image of the parts of a blank disk represents the volume of a root without files.
use Rattle.std.proofs.Common.{◌≡◌, ℕ, ◌+◌, ◌-◌, ◌*◌, ◌/◌, ◌%◌, ◌^◌, ◌<◌, ◌≤◌, ltb, List, [], ◌∷◌, ◌++◌, length, take, get_or, replicate, refl, sym, ap, ◌∙◌, subst, arith, append_assoc, length-append}
use Rattle.std.proofs.Math.ListN.{drop_of_length-le}
use Rattle.std.proofs.lemmas.List.{length-replicate, take_all}
use Rattle.os9_base.specs.declared.registers.TimePacket.{TimePacket}
use Rattle.rbf_model.specs.Fields.{attributes_field, owner_field, modified_field, links_field, size_field, created_field, segments_field}
use Rattle.rbf_model.specs.File.{file_at, file_from, segment_bytes}
use Rattle.rbf_model.specs.Geometry.{Geometry, geometry, image_geometry, sector, HasHeader, IsHeader}
use Rattle.rbf_model.specs.Space.{is_marked}
use Rattle.rbf_model.specs.Disk.{disk_of, IsDisk}
use Rattle.rbf_model.specs.Volume.{Vol, Sound}
use Rattle.rbf_model.proofs.Images.{is_disk}
use Rattle.rbf_change.specs.Calls.{minute_of, day_of}
use Rattle.rbf_change.specs.Contents.{extended}
use Rattle.rbf_change.specs.Names.{new_listing}
use Rattle.vol_tools.specs.Blank.{blank_ident, blank_root, blank_directory, blank_volume, map_bytes_for}
use Rattle.vol_tools.specs.Image.{IsClean, IsDiskSize, used_clusters, marks_map}
use Rattle.vol_tools.proofs.Sizes.{fits, in_map, cluster_low}
use Rattle.vol_tools.proofs.Rules.{blank_geometry, HasBlank, sound}
use Rattle.vol_tools.proofs.Marks.{length-marks, marked-are}
use Rattle.vol_tools.proofs.Laid.{laid, sector-0, sector-desc, sector-list, map-byte, byte-behind, laid-long}
use Rattle.vol_tools.proofs.Descriptor.{zeros_read}
use Rattle.vol_tools.proofs.Behind.{entries_end}

three_bytes : (m : ℕ) → m < 16777216 → m / 65536 * 256 ^ 2 + (m / 256 % 256 * 256 ^ 1 + (m % 256 * 256 ^ 0 + 0)) ≡ m
three_bytes m low = omega arith

two_bytes : (m : ℕ) → m < 65536 → m / 256 * 256 ^ 1 + (m % 256 * 256 ^ 0 + 0) ≡ m
two_bytes m low = omega arith

-- the fields of the root's descriptor
pub record IsRootSector (root : ℕ) (now : TimePacket) (desc : List ℕ) : Type 0 where
  pub attributes : attributes_field desc ≡ 191
  pub owner : owner_field desc ≡ 0
  pub modified : modified_field desc ≡ minute_of now
  pub links : links_field desc ≡ 1
  pub size : size_field desc ≡ 64
  pub created : created_field desc ≡ day_of now
  pub segments : segments_field desc ≡ (root + 1, 1) ∷ []

module _ (s k : ℕ) (now : TimePacket) (size : IsDiskSize s k) where
  abbrev pub mb : ℕ
  mb = map_bytes_for s k

  abbrev pub ms : ℕ
  ms = (mb + 255) / 256

  abbrev pub r : ℕ
  r = blank_root s k

  abbrev pub g : Geometry
  g = blank_geometry s k

  size_fits : (r + 2 ≤ s) × (s ≤ 8 * mb * k) × (mb < 65536)
  size_fits = fits s k size.clusters size.least size.most

  k-low : k < 65536
  k-low = cluster_low k size.clusters

  ident-geometry : geometry (blank_ident s k now) ≡ g
  unfolding blank_ident
  ident-geometry =
      let f = size_fits in
      let most = size.most in
      let total = three_bytes s (omega arith) in
      let bytes = two_bytes mb f.2 in
      let cluster = two_bytes k k-low in
      let root = three_bytes r (omega arith) in
      λ i. record { total = total i; map_bytes = bytes i; cluster = cluster i; root = root i }

  pub ident-long : length (blank_ident s k now) ≡ 256
  unfolding blank_ident
  ident-long = refl

  module _ (desc zeros : List ℕ) (desc-long : length desc ≡ 256) (is : IsRootSector r now desc) (all : 256 * (ms + 3) + length zeros ≡ 256 * s) where
    abbrev pub listing : List ℕ
    listing = extended (new_listing r r) 256

    abbrev pub marks : List ℕ
    marks = marks_map (used_clusters s k) (256 * ms)

    pub marks-long : length marks ≡ 256 * ms
    marks-long = length-marks (used_clusters s k) (256 * ms)

    abbrev pub blank : List ℕ
    blank = laid (blank_ident s k now) marks desc listing zeros ms ident-long marks-long desc-long refl

    pub long : length blank ≡ 256 * s
    long = laid-long (blank_ident s k now) marks desc listing zeros ms ident-long marks-long desc-long refl ∙ all

    zero-is : sector blank 0 ≡ blank_ident s k now
    zero-is = sector-0 (blank_ident s k now) marks desc listing zeros ms ident-long marks-long desc-long refl

    desc-is : sector blank r ≡ desc
    desc-is = sector-desc (blank_ident s k now) marks desc listing zeros ms ident-long marks-long desc-long refl

    list-is : sector blank (r + 1) ≡ listing
    list-is = sector-list (blank_ident s k now) marks desc listing zeros ms ident-long marks-long desc-long refl

    geometry-is : image_geometry blank ≡ g
    geometry-is = ap geometry zero-is ∙ ident-geometry

    contents : take (size_field desc) (segment_bytes (sector blank) (segments_field desc)) ≡ new_listing r r
    contents =
        ap (λ n. take n (segment_bytes (sector blank) (segments_field desc))) is.size
        ∙ ap (λ x. take 64 (segment_bytes (sector blank) x)) is.segments
        ∙ ap (λ d. take 64 (d ++ [])) list-is

    root-is : file_at (sector blank) r ≡ blank_directory r now
    root-is =
        ap (file_from (sector blank)) desc-is
        ∙ (λ i. record {
          attributes = is.attributes i;
          owner = is.owner i;
          modified = is.modified i;
          links = is.links i;
          created = is.created i;
          segments = is.segments i;
          contents = contents i;
        })

    header : HasHeader blank
    header =
        let f = size_fits in
        let least = size.least in
        let most = size.most in
        let total : (image_geometry blank).total ≡ s = ap (λ (x : Geometry). x.total) geometry-is in
        record {
          ident = omega (arith, long);
          header = subst IsHeader (sym geometry-is) (record { least = omega arith; most = most; clusters = size.clusters; root_after = omega arith; root_below = omega arith });
          fits = omega (arith, long, total);
        }

    marks-are : (c : ℕ) → c * k < s → is_marked (sector blank) c ≡ ltb c (used_clusters s k)
    marks-are c low =
        let here = in_map s k size.clusters c low in
        marked-are blank (used_clusters s k) (256 * ms) c here
        (map-byte (blank_ident s k now) marks desc listing zeros ms ident-long marks-long desc-long refl (c / 8) here)

    has-blank : HasBlank (sector blank) s k now
    has-blank = record {
      size = size;
      sectors = subst (λ (x : Geometry). IsDisk (disk_of x (sector blank))) geometry-is (is_disk blank header);
      ident = zero-is;
      root_is = root-is;
      root_size = ap size_field desc-is ∙ is.size;
      marks = marks-are;
    }

    behind : ((i : ℕ) → get_or zeros i 0 ≡ 0) → (i : ℕ) → 256 * (r + 1) + 64 ≤ i → get_or blank i 0 ≡ 0
    behind none i past =
        let place : i ≡ 256 * (2 + ms) + (i - 256 * (2 + ms)) = omega arith in
        ap (λ n. get_or blank n 0) place
        ∙ byte-behind (blank_ident s k now) marks desc listing zeros ms ident-long marks-long desc-long refl (i - 256 * (2 + ms))
        ∙ entries_end (new_listing r r) zeros refl none (i - 256 * (2 + ms)) (omega arith)

    pub clean : ((i : ℕ) → 21 ≤ i → get_or desc i 0 ≡ 0) → ((i : ℕ) → get_or zeros i 0 ≡ 0) → IsClean blank s k
    clean rest none = record {
      map = λ c low.
          let here : c / 8 < 256 * ms = omega arith in
          marked-are blank (used_clusters s k) (256 * ms) c here
          (map-byte (blank_ident s k now) marks desc listing zeros ms ident-long marks-long desc-long refl (c / 8) here);
      descriptor = λ i past. ap (λ d. get_or d i 0) desc-is ∙ rest i past;
      behind = behind none;
    }

    pub represents : Vol blank (blank_volume s k now)
    represents = record {
      header = header;
      sound = subst (λ (x : Geometry). Sound (disk_of x (sector blank)) (blank_volume s k now)) (sym geometry-is) (sound (sector blank) s k now has-blank);
      rest = sym (drop_of_length-le blank (let total : (image_geometry blank).total ≡ s = ap (λ (x : Geometry). x.total) geometry-is in omega (arith, long, total)));
    }

-- what holds of the image of a blank disk
pub record IsBlankImage (s k : ℕ) (now : TimePacket) (image : List ℕ) : Type 0 where
  pub represents_it : Vol image (blank_volume s k now)
  pub is_clean : IsClean image s k

-- the parts put one behind the other, and filled up with zeros
pub put-together : (s k : ℕ) (now : TimePacket) (size : IsDiskSize s k) (desc none one two three four five : List ℕ)
    (root used bytes count so_far : ℕ) → length desc ≡ 256 → IsRootSector root now desc → root ≡ blank_root s k
    → used ≡ used_clusters s k → bytes ≡ 256 * (root - 1) → count ≡ 256 * s
    → none ≡ [] → one ≡ none ++ blank_ident s k now → two ≡ one ++ marks_map used bytes → three ≡ two ++ desc → four ≡ three ++ extended (new_listing root root) 256
    → so_far ≡ length four → five ≡ take count four ++ replicate (count - so_far) 0
    → ((i : ℕ) → 21 ≤ i → get_or desc i 0 ≡ 0) → IsBlankImage s k now five
put-together s k now size desc none one two three four five root used bytes count so_far long is at used_is bytes_is count_is p0 p1 p2 p3 p4 many p5 clear =
    let f = fits s k size.clusters size.least size.most in
    let rm : ℕ = (map_bytes_for s k + 255) / 256 in
    let id : List ℕ = blank_ident s k now in
    let ls : List ℕ = extended (new_listing (blank_root s k) (blank_root s k)) 256 in
    let mk : List ℕ = marks_map (used_clusters s k) (256 * rm) in
    let b : bytes ≡ 256 * rm = omega arith in
    let four_is : four ≡ ((id ++ mk) ++ desc) ++ ls =
    p4 ∙ ap (λ n. three ++ extended (new_listing n n) 256) at ∙ ap (λ x. x ++ ls)
    (p3 ∙ ap (λ x. x ++ desc) (p2 ∙ ap (λ n. one ++ marks_map n bytes) used_is ∙ ap
    (λ n. one ++ marks_map (used_clusters s k) n) b ∙ ap (λ x. x ++ mk) (p1 ∙ ap (λ x. x ++ id) p0))) in
    let four_long : length four ≡ 256 * (rm + 3) =
    ap length four_is ∙ length-append ((id ++ mk) ++ desc) ls ∙ omega (
      arith,
      length-append (id ++ mk) desc,
      length-append id mk,
      ident-long s k now size,
      length-marks (used_clusters s k) (256 * rm),
      long,
    ) in
    let within : length four ≤ count = omega arith in
    let zeros : List ℕ = replicate (count - so_far) 0 in
    let whole : five ≡ id ++ (mk ++ (desc ++ (ls ++ zeros))) =
    p5 ∙ ap (λ x. x ++ zeros) (take_all count four within ∙ four_is) ∙ simp append_assoc in
    let zeros_long : length zeros ≡ count - so_far = length-replicate {A = ℕ} (count - so_far) 0 in
    let is_root : IsRootSector (blank_root s k) now desc = subst (λ n. IsRootSector n now desc) at is in
    let all : 256 * (rm + 3) + length zeros ≡ 256 * s = omega arith in
    subst (IsBlankImage s k now) (sym whole)
    (record { represents_it = represents s k now size desc zeros long is_root all; is_clean = clean s k now size desc zeros long is_root all clear (zeros_read (count - so_far)) })
