-- Names in path lists, module headers and directory entries.
use Rattle.std.specs.Prelude.{◌≡◌, ℕ, ◌+◌, ◌-◌, ◌≤◌, ◌==◌, ◌&&◌, ◌||◌, ◌%◌, not, nat_le, nat_lt, Bool, true, Option, Some, None, option_map, option_and_then, List, [], ◌∷◌, ◌++◌, replicate, length, map, take, All, if◌then◌else◌}

-- a letter, a digit, `_` or `.` (System Programmer's Manual, F$PrsNam)
abbrev pub is_name_character : ℕ → Bool
is_name_character c =
    (nat_le 97 c && nat_le c 122) || (nat_le 65 c && nat_le c 90) || (nat_le 48 c && nat_le c 57) || (c == 95)
    || (c == 46)

-- a character that the name of a module header or directory entry may have: from `!` to `~`, except `/`
abbrev pub is_stored_character : ℕ → Bool
is_stored_character c = nat_le 33 c && nat_le c 126 && not (c == 47)

-- the low seven bits of a byte; bit 7 marks the last character of a name
abbrev pub low_bits : ℕ → ℕ
low_bits byte = byte % 128

-- a name with bit 7 on its last character (OS-9 Technical Reference, "Directories", DIR.NM; System Programmer's Manual,
-- module headers)
abbrev pub marked_name : List ℕ → List ℕ
marked_name [] = []
marked_name (c ∷ []) = (c + 128) ∷ []
marked_name (c ∷ next ∷ name) = c ∷ marked_name (next ∷ name)

-- the longest run of name characters at the front; one that has bit 7 ends it
abbrev pub name_run : List ℕ → List ℕ
name_run [] = []
name_run (byte ∷ bytes) =
    if is_name_character (low_bits byte) then low_bits byte ∷ (if nat_lt byte 128 then name_run bytes else []) else []

-- the characters up to and with the first one with bit 7, if all of them are stored characters
abbrev pub marked_run : List ℕ → Option (List ℕ)
marked_run [] = None
marked_run (byte ∷ bytes) =
    if is_stored_character (low_bits byte)
    then (if nat_lt byte 128 then option_map (λ run. byte ∷ run) (marked_run bytes)
    else Some (low_bits byte ∷ [])) else None

-- a list of characters is a name if it has 1 to 29 of them
abbrev pub if_name : List ℕ → Option (List ℕ)
if_name run = if nat_le 1 (length run) && nat_le (length run) 29 then Some run else None

-- the name at the front of the bytes of a path list or a call (System Programmer's Manual, F$PrsNam)
abbrev pub parsed_name : List ℕ → Option (List ℕ)
parsed_name bytes = if_name (name_run bytes)

-- the name at the front of the bytes in a module header or a directory entry (System Programmer's Manual, module header
-- and RBF directory)
abbrev pub stored_name : List ℕ → Option (List ℕ)
stored_name bytes = option_and_then if_name (marked_run bytes)

-- a letter in lower case, or any other character unchanged
abbrev pub lower : ℕ → ℕ
lower c = if nat_le 65 c && nat_le c 90 then c + 32 else c

-- the two names agree, regardless of the case of letters
abbrev pub SameName : List ℕ → List ℕ → Type 0
SameName a b = map lower a ≡ map lower b

-- what a `Name` is: 1 to 29 stored characters
pub record IsName (name : List ℕ) : Type 0 where
  pub not_empty : 1 ≤ length name
  pub short : length name ≤ 29
  pub characters : All (λ c. is_stored_character c ≡ true) name

-- a name in a field of 29 bytes, filled with zeros
abbrev pub padded_name : List ℕ → List ℕ
padded_name name = name ++ replicate (29 - length name) 0

-- the first bytes, this many, are a stored name up to and with its last character
pub record EndsName (bytes : List ℕ) (len : ℕ) : Type 0 where
  pub in_bytes : len ≤ length bytes
  pub is_name : IsName (map low_bits (take len bytes))
  pub stored : stored_name bytes ≡ Some (map low_bits (take len bytes))
