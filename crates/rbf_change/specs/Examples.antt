-- Files and directories that show the definitions at work.
use Rattle.std.specs.Prelude.{ℕ, ◌+◌, ◌*◌, ◌==◌, ◌||◌, Bool, List, [], ◌∷◌, map, replicate}
use Rattle.std.specs.List.{range_with_len}
use Rattle.rbf_model.specs.File.{DiskFile}
use Rattle.rbf_change.specs.Names.{new_listing}

-- a file of 255 bytes, each of them 7; the same with one byte more at its end, and with two
abbrev pub short_file : List ℕ
short_file = replicate 255 7

-- 48 segments of one sector, 4, 6, 8 and so on to 98
abbrev pub scattered : List (ℕ × ℕ)
scattered = map (λ i. (2 * i + 4, 1)) (range_with_len 0 48)

-- only cluster 120 is free; or also the one after the last of these sectors
abbrev pub only_far : ℕ → Bool
only_far c = c == 120

abbrev pub near_and_far : ℕ → Bool
near_and_far c = (c == 99) || (c == 120)

-- the root of the smallest volume: descriptor 2 has sector 3, and the two entries of each directory
abbrev pub smallest_root : DiskFile
smallest_root = record {
  attributes = 191;
  owner = 0;
  modified = [];
  links = 1;
  created = [];
  segments = (3, 1) ∷ [];
  contents = new_listing 2 2;
}

-- a file of descriptor 8 and 769 bytes in a volume of four sectors per cluster
abbrev pub file_of_two_clusters : DiskFile
file_of_two_clusters = record {
  attributes = 3;
  owner = 0;
  modified = [];
  links = 1;
  created = [];
  segments = (9, 3) ∷ (16, 4) ∷ [];
  contents = replicate 769 7;
}
