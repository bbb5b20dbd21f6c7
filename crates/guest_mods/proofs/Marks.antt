-- The map marks the sectors in use.
use Rattle.std.proofs.Common.{◌≡◌, ℕ, ◌+◌, ◌/◌, ◌<◌, ◌≤◌, ltb, List, ◌++◌, length, get_or, sym, ap, ◌∙◌, arith}
use Rattle.std.proofs.lemmas.List.{get_or_append_left, get_or-append-add}
use Rattle.rbf_model.specs.Geometry.{sector}
use Rattle.rbf_model.specs.Space.{is_marked}
use Rattle.vol_tools.specs.Image.{marks_map}
use Rattle.vol_tools.proofs.Marks.{length-marks, marked-are as marked_as}
use Rattle.guest_mods.specs.BootDisk.{sector_with, used_sectors, ident_front, boot_image}
use Rattle.guest_mods.proofs.Parts.{files_part, ident-long, laid-out}

module _ (file : List ℕ) (short : length file ≤ 57344) where
  abbrev marked : ℕ
  marked = used_sectors (length file)

  byte-of-image : (i : ℕ) → i < 512 → get_or (boot_image file) (256 + i) 0 ≡ get_or (marks_map marked 512) i 0
  byte-of-image i low =
      let ident : List ℕ = sector_with (ident_front (length file)) in
      let long : 256 ≡ length ident = sym (ident-long file short) in
      let within : i < length (marks_map marked 512) = omega (arith, length-marks marked 512) in
      ap (λ n. get_or (boot_image file) (n + i) 0) long
      ∙ ap (λ b. get_or b (length ident + i) 0) (laid-out file short)
      ∙ get_or-append-add ident (marks_map marked 512 ++ files_part file short) i 0
      ∙ get_or_append_left (marks_map marked 512) (files_part file short) 0 i within

  pub marked-are : (c : ℕ) → c < 4096 → is_marked (sector (boot_image file)) c ≡ ltb c marked
  marked-are c low = marked_as (boot_image file) marked 512 c (omega arith) (byte-of-image (c / 8) (omega arith))
