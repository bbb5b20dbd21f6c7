-- What a file keeps when it is cut.
use Rattle.std.specs.Prelude.{ℕ, ◌+◌, ◌/◌, ◌==◌, Bool, List, length, take, drop, take_while, get_or, ◌&&◌, not}
use Rattle.rbf_model.specs.Segments.{sectors_of}
use Rattle.rbf_model.specs.Geometry.{Geometry}
use Rattle.rbf_model.specs.File.{DiskFile}
use Rattle.rbf_model.specs.Space.{own_sectors, has_cluster}
use Rattle.rbf_model.specs.Segments.{shortened_segments}
use Rattle.rbf_change.specs.Contents.{sector_count}

-- the sector of file n before place j; before the first is the descriptor
abbrev pub sector_before : ℕ → DiskFile → ℕ → ℕ
sector_before n file j = get_or (own_sectors n file) j 0

-- the number of kept sectors: those that the size needs, and the next ones in the cluster of the sector before them
abbrev pub kept_count : ℕ → ℕ → DiskFile → ℕ → ℕ
kept_count k n file size =
    let needed = sector_count size in
    let rest = drop needed (sectors_of file.segments) in
    needed + length (take_while (λ s. s / k == sector_before n file needed / k) rest)

-- file n, cut to a size at a time
abbrev pub cut_file : ℕ → ℕ → DiskFile → ℕ → List ℕ → DiskFile
cut_file k n file size now =
    record file {
      contents = take size file.contents;
      segments = shortened_segments (kept_count k n file size) file.segments;
      modified = now;
    }

-- a cluster of the old file that the new one does not have
abbrev pub is_given_up : Geometry → ℕ → DiskFile → DiskFile → ℕ → Bool
is_given_up g n old new c = has_cluster g n old c && not (has_cluster g n new c)
