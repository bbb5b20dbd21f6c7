-- The image represents the volume of its file.
use Rattle.std.proofs.Common.{◌≡◌, ◌⊎◌, ℕ, ◌+◌, ◌*◌, ◌≤◌, ◌==◌, ◌&&◌, ◌||◌, Bool, true, false, not, List, [], ◌∷◌, length, drop, Some, None, refl, sym, ap, ◌∙◌, subst, inl, inr, ⊎_elim, arith, eqb-true}
use Rattle.std.specs.Prelude.{if◌then◌else◌}
use Rattle.std.specs.List.{list_any}
use Rattle.std.proofs.lemmas.Bool.{cases_lt, cases_eq, le-ltb, or_cases, or_left, or_right, false≢true, ne_eqb, lt-leb}
use Rattle.std.proofs.Math.Bool.{and-false}
use Rattle.std.proofs.Math.ListN.{drop_of_length-le}
use Rattle.rbf_change.specs.Contents.{sector_count}
use Rattle.rbf_model.specs.Geometry.{Geometry, image_geometry, sector, HasHeader, IsHeader}
use Rattle.rbf_model.specs.Disk.{disk_of}
use Rattle.rbf_model.specs.File.{file_at}
use Rattle.rbf_model.specs.Segments.{has}
use Rattle.rbf_model.specs.Space.{is_whole, is_marked, has_cluster}
use Rattle.rbf_model.specs.Search.{IsListOfReached, IsReachedOn, image_volume}
use Rattle.rbf_model.specs.Keeps.{Keeps}
use Rattle.rbf_model.specs.Volume.{Vol}
use Rattle.rbf_model.proofs.Images.{vol_from_keeps}
use Rattle.guest_mods.specs.BootDisk.{boot_image, boot_files, boot_volume, BootsFile}
use Rattle.guest_mods.proofs.Parts.{image-long, sector-0, file-there}
use Rattle.guest_mods.proofs.Fields.{boot_geometry, image-geometry, image-boot, image-boot_size, HasParts, has-parts}
use Rattle.guest_mods.proofs.Rules.{reached, reached-root, reached-file, used-is, keeps}

-- the descriptors of the two files
abbrev numbers : List ℕ
numbers = 3 ∷ 5 ∷ []

number-is : (n : ℕ) → has numbers n ≡ true → (n ≡ 3) ⊎ (n ≡ 5)
number-is n h =
    ⊎_elim (λ one. inl (sym (eqb-true 3 n one)))
    (λ more. inr (⊎_elim (λ other. sym (eqb-true 5 n other)) (λ none. absurd (false≢true none)) (or_cases (5 == n) false more)))
    (or_cases (3 == n) ((5 == n) || false) h)

last-fails : (a b x : Bool) → x ≡ true → (a && b && not x) ≡ false
last-fails a b x is = ap (λ y. a && b && not y) is ∙ and-false (a && b)

second-fails : (a b x : Bool) → b ≡ false → (a && b && not x) ≡ false
second-fails a b x is = ap (λ y. a && y && not x) is ∙ ap (λ y. y && not x) (and-false a)

first-fails : (a b x : Bool) → a ≡ false → (a && b && not x) ≡ false
first-fails a b x is = ap (λ y. y && b && not x) is

module _ (file : List ℕ) (some : 1 ≤ length file) (short : length file ≤ 57344) where
  abbrev image : List ℕ
  image = boot_image file

  abbrev parts : HasParts (sector image) file
  parts = has-parts file some short

  total : (image_geometry image).total ≡ 4096
  total = ap (λ (g : Geometry). g.total) (image-geometry file some short)

  header : HasHeader image
  header = record {
    ident = omega (arith, image-long file short);
    header = subst IsHeader (sym (image-geometry file some short)) (record { least = omega arith; most = omega arith; clusters = refl; root_after = omega arith; root_below = omega arith });
    fits = omega (arith, image-long file short, total);
  }

  found-there : IsListOfReached (disk_of boot_geometry (sector image)) numbers
  found-there n = (
    λ h. ⊎_elim (λ at. subst (IsReachedOn (disk_of boot_geometry (sector image))) (sym at) (reached-root (sector image) file parts))
        (λ at. subst (IsReachedOn (disk_of boot_geometry (sector image))) (sym at) (reached-file (sector image) file parts)) (number-is n h),
    λ is. ⊎_elim (λ at. subst (λ m. has numbers m ≡ true) (sym at) refl) (λ at. subst (λ m. has numbers m ≡ true) (sym at) refl) (reached (sector image) file parts is),
  )

  found : IsListOfReached (disk_of (image_geometry image) (sector image)) numbers
  found = subst (λ (g : Geometry). IsListOfReached (disk_of g (sector image)) numbers) (sym (image-geometry file some short)) found-there

  kept : Keeps (disk_of (image_geometry image) (sector image))
  kept = subst (λ (g : Geometry). Keeps (disk_of g (sector image))) (sym (image-geometry file some short)) (keeps (sector image) file parts)

  represents : Vol image (image_volume image numbers)
  represents = vol_from_keeps image header kept numbers found

  -- ---- that volume, in words
  files-are : (n : ℕ) → (if has numbers n then Some (file_at (sector image) n) else None) ≡ boot_files file n
  files-are n =
      ⊎_elim
      (λ at. subst (λ m. (if has numbers m then Some (file_at (sector image) m) else None) ≡ boot_files file m) (sym at) (ap Some parts.root))
      (λ differs. ⊎_elim
      (λ at. subst (λ m. (if has numbers m then Some (file_at (sector image) m) else None) ≡ boot_files file m) (sym at) (ap Some parts.entry))
      (λ others.
      let a : (3 == n) ≡ false = ne_eqb 3 n (λ same. differs (sym same)) in
      let b : (5 == n) ≡ false = ne_eqb 5 n (λ same. others (sym same)) in
      let c : (n == 3) ≡ false = ne_eqb n 3 differs in
      let d : (n == 5) ≡ false = ne_eqb n 5 others in
      rw (a, b, c, d) refl)
      (cases_eq n 5))
      (cases_eq n 3)

  lost-there : (c : ℕ) → (is_whole boot_geometry c && is_marked (sector image) c && not (list_any (λ n. has_cluster boot_geometry n (file_at (sector image) n) c) numbers)) ≡ false
  lost-there c =
      ⊎_elim
      (λ low. last-fails (is_whole boot_geometry c) (is_marked (sector image) c) (list_any (λ n. has_cluster boot_geometry n (file_at (sector image) n) c) numbers)
      (⊎_elim (λ one. or_left (has_cluster boot_geometry 3 (file_at (sector image) 3) c) (has_cluster boot_geometry 5 (file_at (sector image) 5) c || false) one)
      (λ other. or_right (has_cluster boot_geometry 3 (file_at (sector image) 3) c) (has_cluster boot_geometry 5
      (file_at (sector image) 5) c || false) (or_left (has_cluster boot_geometry 5 (file_at (sector image) 5) c)
      false other))
      (used-is (sector image) file parts c low)))
      (λ high. ⊎_elim
      (λ within. second-fails (is_whole boot_geometry c) (is_marked (sector image) c) (list_any (λ n. has_cluster boot_geometry n (file_at (sector image) n) c) numbers)
      (parts.marks c within ∙ le-ltb c (6 + sector_count (length file)) high))
      (λ past. first-fails (is_whole boot_geometry c) (is_marked (sector image) c) (list_any (λ n. has_cluster boot_geometry n (file_at (sector image) n) c) numbers)
      (lt-leb ((c + 1) * 1) 4096 (omega arith)))
      (cases_lt c 4096))
      (cases_lt c (6 + sector_count (length file)))

  lost-none : (c : ℕ) → (is_whole (image_geometry image) c && is_marked (sector image) c && not (list_any (λ n. has_cluster (image_geometry image) n (file_at (sector image) n) c) numbers)) ≡ false
  lost-none c =
      subst (λ (g : Geometry). (is_whole g c && is_marked (sector image) c && not (list_any (λ n. has_cluster g n (file_at (sector image) n) c) numbers)) ≡ false)
      (sym (image-geometry file some short)) (lost-there c)

  no-rest : drop (256 * (image_geometry image).total) image ≡ []
  no-rest = drop_of_length-le image (omega (arith, image-long file short, total))

  volume-is : image_volume image numbers ≡ boot_volume file
  volume-is = λ i. record {
    ident = sector-0 file short i;
    files = λ n. files-are n i;
    lost = λ c. lost-none c i;
    rest = no-rest i;
  }

  pub represents-volume : Vol image (boot_volume file)
  represents-volume = subst (Vol image) volume-is represents

  pub boots-file : BootsFile image file
  boots-file = record {
    long = image-long file short;
    place = image-boot file some short;
    size = image-boot_size file some short;
    within = omega (arith, image-long file short);
    bytes = file-there file short;
  }
