-- What a stop of a drive leaves of an image (this project's own).
use Rattle.std.specs.Prelude.{◌≡◌, ℕ, ◌*◌, true, List, drop, length, bytes_eq}
use Rattle.rbf_model.specs.Fields.{total_field}
use Rattle.rbf_model.specs.Geometry.{sector}

-- length, first sector and the bytes past the volume are unchanged
pub record KeepsImageEnds (before after : List ℕ) : Type 0 where
  pub as_long : length after ≡ length before
  pub first : sector after 0 ≡ sector before 0
  pub past : bytes_eq (drop (256 * total_field (sector before 0)) after)
      (drop (256 * total_field (sector before 0)) before) ≡ true
