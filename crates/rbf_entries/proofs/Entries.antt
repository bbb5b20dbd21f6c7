-- The two entries of a new directory.
use Rattle.std.proofs.Common.{◌≡◌, ℕ, ◌+◌, ◌*◌, ◌/◌, ◌%◌, ◌^◌, ◌<◌, List, ◌++◌, length, take, refl, inl, arith}
use Rattle.rbf_model.specs.Fields.{directory_entry}
use Rattle.rbf_model.specs.Tree.{dot, dot_dot, IsEntry}
use Rattle.rbf_model.specs.Writes.{IsNewDirectory}
use Rattle.rbf_change.specs.Contents.{extended}
use Rattle.rbf_change.specs.Names.{new_listing}

three_bytes : (m : ℕ) → m < 16777216 → m / 65536 * 256 ^ 2 + (m / 256 % 256 * 256 ^ 1 + (m % 256 * 256 ^ 0 + 0)) ≡ m
three_bytes m low = omega arith

pub listing_size : (n d : ℕ) → length (new_listing n d) ≡ 64
listing_size n d = refl

parent_is : (n d : ℕ) → d < 16777216 → IsEntry (directory_entry (new_listing n d) 0) dot_dot d
parent_is n d low = record { name_is = refl; descriptor = three_bytes d low }

self_is : (n d : ℕ) → n < 16777216 → IsEntry (directory_entry (new_listing n d) 1) dot n
self_is n d low = record { name_is = refl; descriptor = three_bytes n low }

pub new_directory_is : (n d : ℕ) → n < 16777216 → d < 16777216 → IsNewDirectory (new_listing n d) n d
new_directory_is n d low parent_low = record { two = refl; dots = inl (parent_is n d parent_low, self_is n d low) }

-- the first bytes of its sector
pub sector_front : (n d : ℕ) (rest : List ℕ) → take 64 (extended (new_listing n d) 256 ++ rest) ≡ new_listing n d
sector_front n d rest = refl

pub sector_whole : (n d : ℕ) → length (extended (new_listing n d) 256) ≡ 256
sector_whole n d = refl
