-- Which sector of the image each part is.
use Rattle.std.proofs.Common.{◌≡◌, ℕ, zero, suc, ◌+◌, ◌-◌, ◌*◌, ◌≤◌, List, [], ◌++◌, length, take, drop, replicate, refl, sym, ap, ◌∙◌, arith, append_assoc, length-append}
use Rattle.std.specs.Prelude.{flat_map}
use Rattle.std.specs.List.{range_with_len}
use Rattle.std.proofs.lemmas.List.{take_at, take-take, drop-drop, length-replicate}
use Rattle.std.proofs.Math.Seq.{take-add}
use Rattle.rbf_change.specs.Contents.{sector_count}
use Rattle.rbf_model.specs.Geometry.{sector}
use Rattle.vol_tools.specs.Image.{marks_map}
use Rattle.vol_tools.proofs.Laid.{dropped, behind, first}
use Rattle.vol_tools.proofs.Marks.{length-marks}
use Rattle.guest_mods.specs.BootDisk.{sector_with, used_sectors, ident_front, root_front, root_entries, file_front, used_part, boot_image}

pub length-sector_with : (bytes : List ℕ) → length bytes ≤ 256 → length (sector_with bytes) ≡ 256
unfolding sector_with
length-sector_with bytes short =
    length-append bytes (replicate (256 - length bytes) 0) ∙ omega (arith, length-replicate {A = ℕ} (256 - length bytes) 0)

pub length-root_entries : length root_entries ≡ 96
unfolding root_entries
length-root_entries = refl

-- sectors that follow each other are a piece of the image
pub joined : (image : List ℕ) (a n : ℕ) → flat_map (sector image) (range_with_len a n) ≡ take (256 * n) (drop (256 * a) image)
joined image a zero = refl
joined image a (suc n) =
    let many : 256 + 256 * n ≡ 256 * suc n = omega arith in
    let next : 256 * a + 256 ≡ 256 * (a + 1) = omega arith in
    ap (λ rest. sector image a ++ rest) (joined image (a + 1) n)
    ∙ ap (λ k. take 256 (drop (256 * a) image) ++ take (256 * n) (drop k image)) (sym next)
    ∙ ap (λ rest. take 256 (drop (256 * a) image) ++ take (256 * n) rest) (sym (drop-drop 256 (256 * a) image))
    ∙ sym (take-add 256 (256 * n) (drop (256 * a) image))
    ∙ ap (λ k. take k (drop (256 * a) image)) many

-- six parts, put one behind the other
pub parts-put : (none one two three four five six a b c d e f : List ℕ) → none ≡ [] → one ≡ none ++ a → two ≡ one ++ b → three ≡ two ++ c → four ≡ three ++ d → five ≡ four ++ e → six ≡ five ++ f
    → six ≡ ((((a ++ b) ++ c) ++ d) ++ e) ++ f
parts-put none one two three four five six a b c d e f p0 p1 p2 p3 p4 p5 p6 =
    p6 ∙ ap (λ x. x ++ f) (p5 ∙ ap (λ x. x ++ e) (p4 ∙ ap (λ x. x ++ d) (p3 ∙ ap (λ x. x ++ c) (p2 ∙ ap (λ x. x ++ b) (p1 ∙ ap (λ x. x ++ a) p0)))))

-- the zeros behind them
pub image-put : (file part : List ℕ) (long : ℕ) → part ≡ used_part file → long ≡ length (used_part file) → part ++ replicate (1048576 - long) 0 ≡ boot_image file
image-put file part long is many =
    ap (λ p. p ++ replicate (1048576 - long) 0) is ∙ ap (λ n. used_part file ++ replicate (1048576 - n) 0) many

module _ (file : List ℕ) (short : length file ≤ 57344) where
  abbrev size : ℕ
  size = length file

  abbrev image : List ℕ
  image = boot_image file

  abbrev ident : List ℕ
  ident = sector_with (ident_front size)

  abbrev marks : List ℕ
  marks = marks_map (used_sectors size) 512

  abbrev end : List ℕ
  end = file ++ replicate (1047040 - size) 0

  abbrev behind_entries : List ℕ
  behind_entries = sector_with (file_front size) ++ end

  abbrev behind_root : List ℕ
  behind_root = sector_with root_entries ++ behind_entries

  abbrev pub files_part : List ℕ
  files_part = sector_with root_front ++ behind_root

  pub ident-long : length ident ≡ 256
  ident-long = length-sector_with (ident_front size) (omega arith)

  root-long : length (sector_with root_front) ≡ 256
  root-long = length-sector_with root_front (omega arith)

  entries-long : length (sector_with root_entries) ≡ 256
  entries-long = length-sector_with root_entries (omega (arith, length-root_entries))

  file-long : length (sector_with (file_front size)) ≡ 256
  file-long = length-sector_with (file_front size) (omega arith)

  end-long : length end ≡ 1047040
  end-long = length-append file (replicate (1047040 - size) 0) ∙ omega (arith, length-replicate {A = ℕ} (1047040 - size) 0)

  pub used-long : length (used_part file) ≡ 1536 + size
  used-long =
      let one = length-append ident marks in
      let two = length-append (ident ++ marks) (sector_with root_front) in
      let three = length-append ((ident ++ marks) ++ sector_with root_front) (sector_with root_entries) in
      let four = length-append (((ident ++ marks) ++ sector_with root_front) ++ sector_with root_entries) (sector_with (file_front size)) in
      let five = length-append ((((ident ++ marks) ++ sector_with root_front) ++ sector_with root_entries) ++ sector_with (file_front size)) file in
      let marked = length-marks (used_sectors size) 512 in
      omega (arith, one, two, three, four, five, ident-long, marked, root-long, entries-long, file-long)

  pub image-long : length image ≡ 1048576
  image-long =
      length-append (used_part file) (replicate (1048576 - length (used_part file)) 0)
      ∙ omega (arith, used-long, length-replicate {A = ℕ} (1048576 - length (used_part file)) 0)

  -- the image, part by part
  pub laid-out : image ≡ ident ++ (marks ++ files_part)
  laid-out =
      let zeros : 1048576 - length (used_part file) ≡ 1047040 - size = omega (arith, used-long) in
      ap (λ n. used_part file ++ replicate n 0) zeros ∙ simp append_assoc

  pub sector-0 : sector image 0 ≡ ident
  sector-0 = ap (λ b. sector b 0) laid-out ∙ first ident (marks ++ files_part) ident-long

  from-3 : (n m k : ℕ) → n ≡ 1 + m → m ≡ 2 + k → sector image n ≡ sector files_part k
  from-3 n m k one two =
      ap (λ b. sector b n) laid-out
      ∙ behind ident (marks ++ files_part) 1 n m (omega (arith, ident-long)) one
      ∙ behind marks files_part 2 m k (omega (arith, length-marks (used_sectors size) 512)) two

  pub sector-3 : sector image 3 ≡ sector_with root_front
  sector-3 = from-3 3 2 0 refl refl ∙ first (sector_with root_front) behind_root root-long

  pub sector-4 : sector image 4 ≡ sector_with root_entries
  sector-4 =
      from-3 4 3 1 refl refl ∙ behind (sector_with root_front) behind_root 1 1 0 (omega (arith, root-long)) refl
      ∙ first (sector_with root_entries) behind_entries entries-long

  pub sector-5 : sector image 5 ≡ sector_with (file_front size)
  sector-5 =
      from-3 5 4 2 refl refl ∙ behind (sector_with root_front) behind_root 1 2 1 (omega (arith, root-long)) refl
      ∙ behind (sector_with root_entries) behind_entries 1 1 0 (omega (arith, entries-long)) refl
      ∙ first (sector_with (file_front size)) end file-long

  -- the file stands from sector 6 on
  from-6 : drop 1536 image ≡ end
  from-6 =
      ap (drop 1536) laid-out
      ∙ dropped ident (marks ++ files_part) 1536 1280 (omega (arith, ident-long))
      ∙ dropped marks files_part 1280 768 (omega (arith, length-marks (used_sectors size) 512))
      ∙ dropped (sector_with root_front) behind_root 768 512 (omega (arith, root-long))
      ∙ dropped (sector_with root_entries) behind_entries 512 256 (omega (arith, entries-long))
      ∙ dropped (sector_with (file_front size)) end 256 0 (omega (arith, file-long))

  pub file-there : take size (drop 1536 image) ≡ file
  file-there = ap (take size) from-6 ∙ take_at file (replicate (1047040 - size) 0) size refl

  pub file-joined : take size (flat_map (sector image) (range_with_len 6 (sector_count size))) ≡ file
  file-joined =
      ap (take size) (joined image 6 (sector_count size))
      ∙ take-take size (256 * sector_count size) (drop 1536 image) (omega arith)
      ∙ file-there
