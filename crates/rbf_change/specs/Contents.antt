-- The bytes of a file: reads, writes and changes of size.
use Rattle.std.specs.Prelude.{ℕ, ◌+◌, ◌-◌, ◌/◌, nat_le, List, [], ◌∷◌, ◌++◌, length, take, drop, replicate, if◌then◌else◌}
use Rattle.rbf_model.specs.Writes.{put_at}

-- contents with zeros after them up to a size
abbrev pub extended : List ℕ → ℕ → List ℕ
extended contents size = contents ++ replicate (size - length contents) 0

-- contents of another size: a cut of their bytes, or zeros after their end
abbrev pub resized : List ℕ → ℕ → List ℕ
resized contents size = take size (extended contents size)

-- contents with these bytes from a place on, and zeros between their old end and that place; a write of no bytes
-- changes nothing
abbrev pub written : List ℕ → ℕ → List ℕ → List ℕ
written contents at [] = contents
written contents at (byte ∷ bytes) = put_at (extended contents at) at (byte ∷ bytes)

-- the bytes from a place on, at most `count`
abbrev pub bytes_from : List ℕ → ℕ → ℕ → List ℕ
bytes_from contents at count = take count (drop at contents)

-- the number of sectors that hold `size` bytes
abbrev pub sector_count : ℕ → ℕ
sector_count size = (size + 255) / 256

-- the number of sectors with a byte from one place up to another
abbrev pub sector_span : ℕ → ℕ → ℕ
sector_span from end = if nat_le end from then 0 else sector_count end - from / 256
