-- The sectors that a file keeps when it is cut, and its new descriptor.
use Rattle.std.specs.Prelude.{◌≡◌, ℕ, ◌+◌, ◌/◌, ◌==◌, Option, List, ◌∷◌, length, take_while, drop, get_or}
use Rattle.os9_base.specs.declared.registers.TimePacket.{TimePacket}
use Rattle.os9_outer.specs.Drive.{with_sector}
use Rattle.rbf_model.specs.Segments.{sectors_of}
use Rattle.rbf_change.specs.Contents.{sector_count}
use Rattle.rbf_write.specs.declared.loaded.Loaded.{Loaded}
use Rattle.rbf_write.specs.Finished.{IsResized}

-- the number of file n's sectors from a place on that are in the cluster of the sector before that place; before the
-- first is the descriptor
abbrev pub sectors_beside : ℕ → ℕ → List ℕ → ℕ → ℕ
sectors_beside k n sectors place =
    length (take_while (λ s. s / k == get_or (n ∷ sectors) place 0 / k) (drop place sectors))

-- the number of sectors of file n with these segments that a cut to a size keeps: kept_count of such a file
abbrev pub kept_sectors : ℕ → ℕ → List (ℕ × ℕ) → ℕ → ℕ
kept_sectors k n segments size =
    sector_count size + sectors_beside k n (sectors_of segments) (sector_count size)

-- the descriptor that was read has been written with these segments, a new size and the date of that change
pub record IsStored (loaded : Loaded) (segments : List (ℕ × ℕ)) (size : ℕ) (now : TimePacket)
    (before after : Option (List ℕ)) : Type 0 where
  pub bytes : List ℕ
  pub says : IsResized loaded segments size now bytes
  pub written : after ≡ with_sector before loaded.number bytes
