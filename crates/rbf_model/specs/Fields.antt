-- The places of the fields in RBF's sectors (OS-9 Technical Reference, Random Block File Manager). Places are decimal.
use Rattle.std.specs.Prelude.{ℕ, ◌+◌, ◌*◌, ◌==◌, Bool, not, List, map, take, drop, slice_index, take_while, Option}
use Rattle.std.specs.List.{range_with_len}
use Rattle.byteorder.specs.Endian.{big_from}
use Rattle.os9_base.specs.Name.{stored_name}

-- Identification sector, LSN 0 ("Identification Sector").

-- DD.TOT: the number of sectors of the volume
abbrev pub total_field : List ℕ → ℕ
total_field ident = big_from 0 3 ident

-- DD.MAP: the number of bytes of the allocation map
abbrev pub map_bytes_field : List ℕ → ℕ
map_bytes_field ident = big_from 4 2 ident

-- DD.BIT: the number of sectors of a cluster
abbrev pub cluster_field : List ℕ → ℕ
cluster_field ident = big_from 6 2 ident

-- DD.DIR: the descriptor of the root directory
abbrev pub root_field : List ℕ → ℕ
root_field ident = big_from 8 3 ident

-- DD.BT: the first sector of the bootstrap file
abbrev pub boot_field : List ℕ → ℕ
boot_field ident = big_from 21 3 ident

-- DD.BSZ: the number of bytes of the bootstrap file
abbrev pub boot_size_field : List ℕ → ℕ
boot_size_field ident = big_from 24 2 ident

-- File descriptor ("File Descriptors").

-- FD.ATT: the attributes
abbrev pub attributes_field : List ℕ → ℕ
attributes_field descriptor = slice_index descriptor 0

-- FD.OWN: the owner's user number
abbrev pub owner_field : List ℕ → ℕ
owner_field descriptor = big_from 1 2 descriptor

-- FD.DAT: the date and time of the last change: year, month, day, hour, minute
abbrev pub modified_field : List ℕ → List ℕ
modified_field descriptor = take 5 (drop 3 descriptor)

-- FD.LNK: the link count
abbrev pub links_field : List ℕ → ℕ
links_field descriptor = slice_index descriptor 8

-- FD.SIZ: the number of bytes of the file
abbrev pub size_field : List ℕ → ℕ
size_field descriptor = big_from 9 4 descriptor

-- FD.CREAT: the date of the file's creation: year, month, day
abbrev pub created_field : List ℕ → List ℕ
created_field descriptor = take 3 (drop 13 descriptor)

-- FD.SEG: the pair in place i of the segment list: the first sector and the number of sectors
abbrev pub segment_field : List ℕ → ℕ → ℕ × ℕ
segment_field descriptor i = (big_from (16 + 5 * i) 3 descriptor, big_from (19 + 5 * i) 2 descriptor)

-- a pair that represents sectors
abbrev pub has_sectors : ℕ × ℕ → Bool
has_sectors segment = not (segment.1 == 0)

-- the segments of a file: those of the 48 pairs before the first with a zero count
unfoldable pub segments_field : List ℕ → List (ℕ × ℕ)
segments_field descriptor = take_while has_sectors (map (segment_field descriptor) (range_with_len 0 48))

-- Directory entry ("Directories").

-- the entry in place i of a directory's bytes
abbrev pub directory_entry : List ℕ → ℕ → List ℕ
directory_entry contents i = take 32 (drop (32 * i) contents)

-- DIR.NM: an entry is used if its name does not begin with a zero
abbrev pub is_used : List ℕ → Bool
is_used entry = not (slice_index entry 0 == 0)

-- DIR.NM: the name, in 29 bytes, the last character with bit 7
abbrev pub entry_name_field : List ℕ → Option (List ℕ)
entry_name_field entry = stored_name (take 29 entry)

-- DIR.FD: the descriptor that the entry names
abbrev pub descriptor_field : List ℕ → ℕ
descriptor_field entry = big_from 29 3 entry
