-- What is read of a module depends on its own bytes alone.
use Rattle.std.proofs.Common.{◌≡◌, ℕ, ◌∷◌, [], ◌++◌, lit<, ◌+◌, ◌-◌, ◌/◌, ◌<◌, ◌≤◌, ◌==◌, ◌&&◌, nat_lt, nat_le, bit_xor, if◌then◌else◌, Bool, true, false, Option, Some, None, inl, inr, is_some, List, length, take, drop, slice_range, fold, get_or, refl, sym, ap, ◌∙◌, arith, length-take-le, length-drop}
use Rattle.std.proofs.lemmas.List.{get_or-take, get_or-drop, drop-take, take-take}
use Rattle.std.proofs.Math.Seq.{take-add}
use Rattle.std.proofs.lemmas.Bool.{cases_lt, eqb-true, and_parts, and_from, leb-true, le-leb}
use Rattle.byteorder.specs.Endian.{big_number}
use Rattle.os9_base.specs.Name.{stored_name}
use Rattle.proc_model.specs.CrcModel.{crc_of, crc_register}
use Rattle.proc_model.proofs.CrcLaws.{residue, crc_register-append, crc_register_lt}
use Rattle.proc_model.specs.Module.{header_word, module_size, name_offset, module_kind, is_program, header_length, program_word, module_entry, crc_offset, module_name, has_sync, has_size, has_module_name, has_entry, keeps_header_rule, keeps_parity_rule, crc_field, keeps_crc_rule, module_fault, IsModule}
use Rattle.proc_model.specs.declared.module.ModuleFault.TheVariants.{BadSync, BadParity, BadCrc}

drop_of_take : (at n : ℕ) (xs : List ℕ) → at ≤ n → drop at (take n xs) ≡ take (n - at) (drop at xs)
drop_of_take at n xs h =
    let whole : at + (n - at) ≡ n = omega arith in
    ap (λ (k : ℕ). drop at (take k xs)) (sym whole) ∙ drop-take at (n - at) xs

two_of_take : (n : ℕ) (xs : List ℕ) → 2 ≤ n → big_number 2 (take n xs) ≡ big_number 2 xs
two_of_take n xs h =
    let first : get_or (take n xs) 0 0 ≡ get_or xs 0 0 = get_or-take n xs 0 0 (omega arith) in
    let second : get_or (take n xs) 1 0 ≡ get_or xs 1 0 = get_or-take n xs 1 0 (omega arith) in
    cc

three_of_take : (n : ℕ) (xs : List ℕ) → 3 ≤ n → big_number 3 (take n xs) ≡ big_number 3 xs
three_of_take n xs h =
    let first : get_or (take n xs) 0 0 ≡ get_or xs 0 0 = get_or-take n xs 0 0 (omega arith) in
    let second : get_or (take n xs) 1 0 ≡ get_or xs 1 0 = get_or-take n xs 1 0 (omega arith) in
    let third : get_or (take n xs) 2 0 ≡ get_or xs 2 0 = get_or-take n xs 2 0 (omega arith) in
    cc

word_at-take : (n at : ℕ) (xs : List ℕ) → at + 2 ≤ n → header_word (take n xs) at ≡ header_word xs at
word_at-take n at xs h = ap (big_number 2) (drop_of_take at n xs (omega arith)) ∙ two_of_take (n - at) (drop at xs) (omega arith)

range_of_take : (n from to : ℕ) (xs : List ℕ) → to ≤ n → slice_range (take n xs) from to ≡ slice_range xs from to
range_of_take n from to xs h =
    elim (cases_lt n from) [
      | inl past ↦ (let none : to - from ≡ 0 = omega arith in rw none refl)
      | inr before ↦ ap (take (to - from)) (drop_of_take from n xs before) ∙ take-take (to - from) (n - from) (drop from xs) (omega arith)
    ]

kind-take : (n : ℕ) (xs : List ℕ) → 7 ≤ n → module_kind (take n xs) ≡ module_kind xs
kind-take n xs h = get_or-take n xs 6 0 h

is_program-take : (n : ℕ) (xs : List ℕ) → 7 ≤ n → is_program (take n xs) ≡ is_program xs
is_program-take n xs h = ap (λ (kind : ℕ). kind / 16 == 1) (kind-take n xs h)

header_length-take : (n : ℕ) (xs : List ℕ) → 7 ≤ n → header_length (take n xs) ≡ header_length xs
header_length-take n xs h = ap (λ (program : Bool). if program then 13 else 9) (is_program-take n xs h)

program_word-take : (n at : ℕ) (xs : List ℕ) → 7 ≤ n → at + 2 ≤ n → program_word (take n xs) at ≡ program_word xs at
program_word-take n at xs h within =
    ap (λ (program : Bool). if program then header_word (take n xs) at else 0) (is_program-take n xs h)
    ∙ ap (λ (word : ℕ). if is_program xs then word else 0) (word_at-take n at xs within)

-- a module of any number of bytes behind it is the module alone
pub record Fits (n : ℕ) (bytes : List ℕ) : Type 0 where
  pub size : module_size bytes ≡ n
  pub least : 13 ≤ n
  pub within : n ≤ length bytes

size-take : (n : ℕ) (bytes : List ℕ) → Fits n bytes → module_size (take n bytes) ≡ n
size-take n bytes fits = word_at-take n 2 bytes (let least = fits.least in omega arith) ∙ fits.size

crc_offset-take : (n : ℕ) (bytes : List ℕ) → Fits n bytes → crc_offset (take n bytes) ≡ crc_offset bytes
crc_offset-take n bytes fits = ap (λ (size : ℕ). size - 3) (size-take n bytes fits ∙ sym fits.size)

name-take : (n : ℕ) (bytes : List ℕ) → Fits n bytes → module_name (take n bytes) ≡ module_name bytes
name-take n bytes fits =
    ap (λ (from : ℕ). stored_name (slice_range (take n bytes) from (crc_offset (take n bytes)))) (word_at-take n 4 bytes (omega (arith, fits.least)))
    ∙ ap (λ (to : ℕ). stored_name (slice_range (take n bytes) (name_offset bytes) to)) (crc_offset-take n bytes fits)
    ∙ ap stored_name (range_of_take n (name_offset bytes) (crc_offset bytes) bytes (omega (arith, fits.size)))

sync-take : (n : ℕ) (bytes : List ℕ) → Fits n bytes → has_sync (take n bytes) ≡ has_sync bytes
sync-take n bytes fits = ap (λ (word : ℕ). word == 0x87CD) (word_at-take n 0 bytes (omega (arith, fits.least)))

header_least : (bytes : List ℕ) → 9 ≤ header_length bytes
header_least bytes = elim (is_program bytes) as (λ program. 9 ≤ (if program then 13 else 9)) [ true ↦ omega arith | false ↦ omega arith ]

room_from : (bytes : List ℕ) → has_size bytes ≡ true → header_length bytes + 4 ≤ module_size bytes
room_from bytes h = leb-true (header_length bytes + 4) (module_size bytes) (and_parts _ _ h).0

-- what the header rule says of the size
pub fits_from : (bytes : List ℕ) → has_size bytes ≡ true → Fits (module_size bytes) bytes
fits_from bytes h = record {
  size = refl;
  least = omega (arith, header_least bytes, room_from bytes h);
  within = leb-true (module_size bytes) (length bytes) (and_parts _ _ h).1;
}

size_test-take : (n : ℕ) (bytes : List ℕ) → Fits n bytes → has_size bytes ≡ true → has_size (take n bytes) ≡ true
size_test-take n bytes fits h =
    and_from (nat_le (header_length (take n bytes) + 4) (module_size (take n bytes))) (nat_le (module_size (take n bytes)) (length (take n bytes)))
    (le-leb (header_length (take n bytes) + 4) (module_size (take n bytes))
    (omega (arith, room_from bytes h, fits.size, size-take n bytes fits, header_length-take n bytes (omega (arith, fits.least)))))
    (le-leb (module_size (take n bytes)) (length (take n bytes))
    (omega (arith, size-take n bytes fits, length-take-le n bytes fits.within)))

has_name-take : (n : ℕ) (bytes : List ℕ) → Fits n bytes → has_module_name (take n bytes) ≡ has_module_name bytes
has_name-take n bytes fits =
    ap (λ (len : ℕ). nat_le len (name_offset (take n bytes)) && is_some (module_name (take n bytes))) (header_length-take n bytes (omega (arith, fits.least)))
    ∙ ap (λ (at : ℕ). nat_le (header_length bytes) at && is_some (module_name (take n bytes))) (word_at-take n 4 bytes (omega (arith, fits.least)))
    ∙ ap (λ (name : Option (List ℕ)). nat_le (header_length bytes) (name_offset bytes) && is_some name) (name-take n bytes fits)

has_entry-take : (n : ℕ) (bytes : List ℕ) → Fits n bytes → has_entry (take n bytes) ≡ has_entry bytes
has_entry-take n bytes fits =
    ap (λ (entry : ℕ). nat_lt entry (crc_offset (take n bytes))) (program_word-take n 9 bytes (omega (arith, fits.least)) (omega (arith, fits.least)))
    ∙ ap (nat_lt (module_entry bytes)) (crc_offset-take n bytes fits)

parity-take : (n : ℕ) (bytes : List ℕ) → Fits n bytes → keeps_parity_rule (take n bytes) ≡ keeps_parity_rule bytes
parity-take n bytes fits = ap (λ (front : List ℕ). fold bit_xor 0 front == 255) (take-take 9 n bytes (omega (arith, fits.least)))

crc-take : (n : ℕ) (bytes : List ℕ) → Fits n bytes → keeps_crc_rule (take n bytes) ≡ keeps_crc_rule bytes
crc-take n bytes fits =
    let k = crc_offset bytes in
    let m = take n bytes in
    let below : k + 3 ≡ n = omega (arith, fits.least, fits.size) in
    ap (λ (at : ℕ). big_number 3 (drop at m) == crc_of (take at m)) (crc_offset-take n bytes fits)
    ∙ ap (λ (number : ℕ). number == crc_of (take k m))
    (ap (big_number 3) (drop_of_take k n bytes (omega arith)) ∙ three_of_take (n - k) (drop k bytes) (omega arith))
    ∙ ap (λ (body : List ℕ). crc_field bytes == crc_of body) (take-take k n bytes (omega arith))

-- the three rules by the fault
keeps_all : (header parity crc : Bool)
    → (if header then (if parity then (if crc then None else Some BadCrc) else Some BadParity) else Some BadSync) ≡ None
    → (header ≡ true) × (parity ≡ true) × (crc ≡ true)
keeps_all true true true h = (refl, refl, refl)
keeps_all true true false h = absurd cc
keeps_all true false crc h = absurd cc
keeps_all false parity crc h = absurd cc

-- the first `size` bytes of what breaks no rule are a module
pub IsModule-take : (bytes : List ℕ) → module_fault bytes ≡ None → IsModule (take (module_size bytes) bytes)
IsModule-take bytes h =
    let kept = keeps_all (keeps_header_rule bytes) (keeps_parity_rule bytes) (keeps_crc_rule bytes) h in
    let entered = and_parts (has_sync bytes && has_size bytes && has_module_name bytes) (has_entry bytes) kept.0 in
    let named = and_parts (has_sync bytes && has_size bytes) (has_module_name bytes) entered.0 in
    let sized = and_parts (has_sync bytes) (has_size bytes) named.0 in
    let n = module_size bytes in
    let m = take n bytes in
    let fits : Fits n bytes = fits_from bytes sized.1 in
    let header : keeps_header_rule m ≡ true =
    and_from (has_sync m && has_size m && has_module_name m) (has_entry m)
    (and_from (has_sync m && has_size m) (has_module_name m)
    (and_from (has_sync m) (has_size m) (sync-take n bytes fits ∙ sized.0) (size_test-take n bytes fits sized.1))
    (has_name-take n bytes fits ∙ named.1))
    (has_entry-take n bytes fits ∙ entered.1)
    in
    let parity : keeps_parity_rule m ≡ true = parity-take n bytes fits ∙ kept.1 in
    let crc : keeps_crc_rule m ≡ true = crc-take n bytes fits ∙ kept.2 in
    record {
      whole = size-take n bytes fits ∙ sym (length-take-le n bytes fits.within);
      accepted =
          ap (λ (b : Bool). if b then (if keeps_parity_rule m then (if keeps_crc_rule m then None else Some BadCrc) else Some BadParity) else Some BadSync) header
          ∙ ap (λ (b : Bool). if b then (if keeps_crc_rule m then None else Some BadCrc) else Some BadParity) parity
          ∙ ap (λ (b : Bool). if b then None else Some BadCrc) crc;
    }

three_first : (xs : List ℕ) → 3 ≤ length xs → take 3 xs ≡ get_or xs 0 0 ∷ get_or xs 1 0 ∷ get_or xs 2 0 ∷ []
three_first [] h = absurd (omega arith)
three_first (x ∷ []) h = absurd (omega arith)
three_first (x ∷ y ∷ []) h = absurd (omega arith)
three_first (x ∷ y ∷ z ∷ xs) h = refl

-- over a whole module with its CRC the register holds 800FE3
pub residue_of_module : (bytes : List ℕ) → ((i : ℕ) → get_or bytes i 0 < 256) → module_fault bytes ≡ None → crc_register 0xFFFFFF (take (module_size bytes) bytes) ≡ 0x800FE3
residue_of_module bytes are_bytes h =
    let kept = keeps_all (keeps_header_rule bytes) (keeps_parity_rule bytes) (keeps_crc_rule bytes) h in
    let entered = and_parts (has_sync bytes && has_size bytes && has_module_name bytes) (has_entry bytes) kept.0 in
    let named = and_parts (has_sync bytes && has_size bytes) (has_module_name bytes) entered.0 in
    let sized = and_parts (has_sync bytes) (has_size bytes) named.0 in
    let n = module_size bytes in
    let k = crc_offset bytes in
    let fits : Fits n bytes = fits_from bytes sized.1 in
    let tail = drop k bytes in
    let whole : n ≡ k + 3 = omega (arith, fits.least) in
    let body = crc_register 0xFFFFFF (take k bytes) in
    let is_byte : (i : ℕ) → get_or tail i 0 < 256 = λ i. rw (get_or-drop k bytes i 0) (are_bytes (k + i)) in
    let right : crc_field bytes ≡ crc_of (take k bytes) = eqb-true (crc_field bytes) (crc_of (take k bytes)) kept.2 in
    let split : take n bytes ≡ take k bytes ++ (get_or tail 0 0 ∷ get_or tail 1 0 ∷ get_or tail 2 0 ∷ []) =
    ap (λ (m : ℕ). take m bytes) whole ∙ take-add k 3 bytes ∙ ap (λ (end : List ℕ). take k bytes ++ end) (three_first tail (omega (arith, length-drop k bytes, fits.within))) in
    ap (crc_register 0xFFFFFF) split
    ∙ crc_register-append 0xFFFFFF (take k bytes) (get_or tail 0 0 ∷ get_or tail 1 0 ∷ get_or tail 2 0 ∷ [])
    ∙ residue body (get_or tail 0 0) (get_or tail 1 0) (get_or tail 2 0) (crc_register_lt 0xFFFFFF (take k bytes) (lit< tt))
    (is_byte 0) (is_byte 1) (is_byte 2) (omega (arith, right))
