-- Memory: objects of 8,192 bytes, and maps that name them (Level Two manual, "Memory management").
use Rattle.std.specs.Prelude.{ℕ, ◌+◌, ◌*◌, ◌/◌, ◌%◌, Option, Some, None, option_and_then, List, [], ◌∷◌, ◌++◌, length, map, take, drop, replicate, slice_get, slice_set}
use Rattle.std.specs.List.{range_with_len}

-- what a slot of a map names: the place of an object in the list of all objects so far, or nothing
abbrev pub slot_of : List (Option ℕ) → ℕ → Option ℕ
slot_of places slot = option_and_then (λ place. place) (slice_get places slot)

-- a byte of the object of this number, if there is one
abbrev pub object_byte : List (List ℕ) → ℕ → ℕ → Option ℕ
object_byte objects at number = option_and_then (λ object. slice_get object at) (slice_get objects number)

-- the byte at an address: byte `address mod 8192` of the object that slot `address div 8192` names
abbrev pub object_cells : List (List ℕ) → List (Option ℕ) → ℕ → Option ℕ
object_cells objects places address =
    option_and_then (object_byte objects (address % 8192)) (slot_of places (address / 8192))

-- the objects with another byte in the one of this number
abbrev pub with_object_byte : List (List ℕ) → ℕ → ℕ → Option ℕ → List (List ℕ)
with_object_byte objects at byte None = objects
with_object_byte objects at byte (Some number) = with_byte_in (slice_get objects number)
  where
    with_byte_in : Option (List ℕ) → List (List ℕ)
    with_byte_in None = objects
    with_byte_in (Some object) = slice_set objects number (slice_set object at byte)

-- the objects with another byte at an address of a map
abbrev pub with_cell : List (List ℕ) → List (Option ℕ) → ℕ → ℕ → List (List ℕ)
with_cell objects places address byte = with_object_byte objects (address % 8192) byte (slot_of places (address / 8192))

-- the objects after these writes: pairs of an address and a byte, in order
abbrev pub with_writes : List (List ℕ) → List (Option ℕ) → List (ℕ × ℕ) → List (List ℕ)
with_writes objects places [] = objects
with_writes objects places (write ∷ writes) = with_writes (with_cell objects places write.0 write.1) places writes

-- ---- new objects

-- a new object
abbrev pub zero_object : List ℕ
zero_object = replicate 8192 0

-- the number of blocks of 8,192 bytes for this number of bytes
abbrev pub block_count : ℕ → ℕ
block_count bytes = (bytes + 8191) / 8192

-- the blocks of a file
abbrev pub file_blocks : List ℕ → ℕ
file_blocks file = block_count (length file)

-- the k-th block of a file; zeros fill the last one
abbrev pub file_block : List ℕ → ℕ → List ℕ
file_block file k = take 8192 (drop (8192 * k) file ++ zero_object)

-- the objects that hold a file
abbrev pub file_objects : List ℕ → List (List ℕ)
file_objects file = map (file_block file) (range_with_len 0 (file_blocks file))
