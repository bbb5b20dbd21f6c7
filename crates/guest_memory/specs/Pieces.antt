-- Bytes of a process that lie together in a block.
use Rattle.std.specs.Prelude.{ℕ, ◌+◌, ◌<◌, ◌≤◌, List, length}
use Rattle.os9_base.specs.Cells.{Cells, HoldsBytes}

-- bytes from an address on, at least one and at most this many, none past FFFF
pub record IsPiece (cells : Cells) (at most : ℕ) (bytes : List ℕ) : Type 0 where
  pub holds : HoldsBytes cells at bytes
  pub fits : at + length bytes ≤ 65536
  pub some : 0 < length bytes
  pub few : length bytes ≤ most
