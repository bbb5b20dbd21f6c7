-- A module that is made of its parts breaks no rule, and its header says what they are.
use Rattle.std.proofs.Common.{◌≡◌, ◌≤◌, ◌<◌, ℕ, ◌+◌, ◌-◌, ◌*◌, ◌/◌, ◌%◌, ◌^◌, ◌&&◌, bit_xor, Bool, true, false, nat_le, eqb, Some, None, is_some, unwrap_or, List, [], ◌∷◌, ◌++◌, length, take, drop, fold, slice_range, refl, sym, ap, ◌∙◌, arith, length-append, if◌then◌else◌}
use Rattle.std.proofs.lemmas.Bool.{le-leb, lt-ltb, and_from, eq-eqb, agree_below_at, eqb-true}
use Rattle.std.proofs.lemmas.List.{take_at, drop_at}
use Rattle.std.proofs.lemmas.Nat.{xor_of_8}
use Rattle.byteorder.specs.Endian.{big_number}
use Rattle.os9_base.specs.Name.{stored_name, IsName, marked_name}
use Rattle.proc_model.specs.CrcModel.{crc_of}
use Rattle.proc_model.specs.Module.{header_word, module_size, name_offset, header_length, module_entry, module_storage, crc_offset, module_name, has_sync, has_size, has_module_name, has_entry, keeps_header_rule, keeps_parity_rule, crc_field, keeps_crc_rule, info_at, IsModule}
use Rattle.proc_model.specs.declared.module.ModuleFault.TheVariants.{BadSync, BadParity, BadCrc}
use Rattle.module_format.specs.declared.maker.Header.{Header}
use Rattle.module_format.specs.GuestModule.{is_program_kind, kind_header_length, code_offset, guest_size, header_front, parity_of, made_body, crc_bytes, made_module, made_info, BeginsWithin, at_code, guest_module, guest_info}
use Rattle.module_format.proofs.NameLemmas.{stored_name-marked, length-marked_name}

-- ---- the parity
abbrev AreBytes : List ℕ → Type 0
AreBytes [] = Unit {0}
AreBytes (x ∷ xs) = (x < 256) × AreBytes xs

xor-below : (first : ℕ) (xs : List ℕ) → first < 256 → AreBytes xs → fold bit_xor first xs < 256
xor-below first [] below are = below
xor-below first (x ∷ xs) below are = xor-below (bit_xor first x) xs (xor_of_8 first x below are.0) are.1

with_parity : (x : ℕ) → x < 256 → bit_xor x (255 - x) ≡ 255
with_parity x below =
    eqb-true (bit_xor x (255 - x)) 255 (agree_below_at (λ n. eqb (bit_xor n (255 - n)) 255) (λ n. true) 256 x refl below)

-- ---- numbers in bytes
word-whole : (n : ℕ) → n / 256 * 256 ^ 1 + (n % 256 * 256 ^ 0 + 0) ≡ n
word-whole n = omega arith

crc-whole : (n : ℕ) → big_number 3 (crc_bytes n) ≡ n
crc-whole n = omega arith

rules-kept : (header parity crc : Bool) → header ≡ true → parity ≡ true → crc ≡ true
    → (if header then (if parity then (if crc then None else Some BadCrc) else Some BadParity) else Some BadSync) ≡
    None
rules-kept header parity crc h p c = simp (h, p, c)

module _ (name : List ℕ) (kind attr entry storage : ℕ) (code : List ℕ) where
  abbrev head : Header
  head = record { kind = kind; attr = attr; entry = entry; storage = storage }

  abbrev whole : List ℕ
  whole = made_module name head code

  abbrev body : List ℕ
  body = made_body name head code

  abbrev size : ℕ
  size = guest_size name kind code

  abbrev header : ℕ
  header = kind_header_length kind

  abbrev end : List ℕ
  end = crc_bytes (crc_of body)

  -- what stands behind the header
  abbrev behind : List ℕ
  behind = (marked_name name ++ code) ++ end

  size-is : module_size whole ≡ size
  size-is = word-whole size

  offset-is : name_offset whole ≡ header
  offset-is = omega arith

  -- the fields of a program, or none
  abbrev fields : Bool → List ℕ
  fields program =
      if program then entry / 256 ∷ entry % 256 ∷ storage / 256 ∷ storage % 256 ∷ [] else []

  abbrev body_by : Bool → List ℕ
  body_by program = header_front size kind attr ++ parity_of (header_front size kind attr) ∷ (fields program ++ (marked_name name ++ code))

  long-by : (program : Bool) → length (body_by program) ≡ (if program then 13 else 9) + length (marked_name name ++ code)
  long-by true = omega arith
  long-by false = omega arith

  body-long : length body + 3 ≡ size
  body-long = omega (arith, long-by (is_program_kind kind), length-append (marked_name name) code, length-marked_name name)

  pub length-made_module : length whole ≡ size
  length-made_module = omega (arith, length-append body end, body-long)

  dropped-by : (program : Bool) → drop (if program then 13 else 9) (body_by program ++ end) ≡ behind
  dropped-by true = refl
  dropped-by false = refl

  header-dropped : drop header whole ≡ behind
  header-dropped = dropped-by (is_program_kind kind)

  crc-place : crc_offset whole ≡ length body
  crc-place = omega (arith, size-is, body-long)

  name-bytes : slice_range whole (name_offset whole) (crc_offset whole) ≡ marked_name name ++ code
  name-bytes =
      let many : crc_offset whole - header ≡ length (marked_name name ++ code) = omega (arith, crc-place, long-by (is_program_kind kind)) in
      ap (λ n. slice_range whole n (crc_offset whole)) offset-is
      ∙ ap (λ n. take n (drop header whole)) many
      ∙ ap (take (length (marked_name name ++ code))) header-dropped
      ∙ take_at (marked_name name ++ code) end (length (marked_name name ++ code)) refl

  name-is : IsName name → module_name whole ≡ Some name
  name-is is = ap stored_name name-bytes ∙ stored_name-marked name code is

  -- a program's words
  entry-by : (program : Bool) → (if program then header_word (body_by program ++ end) 9 else 0) ≡ (if program then entry else 0)
  entry-by true = word-whole entry
  entry-by false = refl

  entry-is : module_entry whole ≡ (if is_program_kind kind then entry else 0)
  entry-is = entry-by (is_program_kind kind)

  storage-by : (program : Bool) → (if program then header_word (body_by program ++ end) 11 else 0) ≡ (if program then storage else 0)
  storage-by true = word-whole storage
  storage-by false = refl

  storage-is : module_storage whole ≡ (if is_program_kind kind then storage else 0)
  storage-is = storage-by (is_program_kind kind)

  header-by : (program : Bool) → (9 ≤ (if program then 13 else 9)) × ((if program then 13 else 9) ≤ 13)
  header-by true = (omega arith, omega arith)
  header-by false = (omega arith, omega arith)

  -- ---- the rules
  sync-kept : has_sync whole ≡ true
  sync-kept = refl

  size-kept : IsName name → has_size whole ≡ true
  size-kept is =
      and_from (nat_le (header_length whole + 4) (module_size whole)) (nat_le (module_size whole) (length whole))
      (le-leb (header_length whole + 4) (module_size whole) (omega (arith, size-is, is.not_empty)))
      (le-leb (module_size whole) (length whole) (omega (arith, size-is, length-made_module)))

  name-kept : IsName name → has_module_name whole ≡ true
  name-kept is =
      and_from (nat_le (header_length whole) (name_offset whole)) (is_some (module_name whole))
      (le-leb (header_length whole) (name_offset whole) (omega (arith, offset-is)))
      (ap is_some (name-is is))

  entry-kept : BeginsWithin name head code → has_entry whole ≡ true
  entry-kept begins = lt-ltb (module_entry whole) (crc_offset whole) (omega (arith, entry-is, begins, size-is))

  parity-kept : size < 65536 → kind < 256 → attr < 256 → keeps_parity_rule whole ≡ true
  parity-kept short kind_fits attr_fits =
      eq-eqb _ 255 (with_parity (fold bit_xor 0 (header_front size kind attr))
      (xor-below 0 (header_front size kind attr) (omega arith) (
        (omega arith),
        (
          (omega arith),
          (
            (omega arith),
            (
              (omega arith),
              (
                (omega arith),
                (
                  (omega (arith, header-by (is_program_kind kind))),
                  (kind_fits, (attr_fits, tt)),
                ),
              ),
            ),
          ),
        ),
      )))

  crc-kept : keeps_crc_rule whole ≡ true
  crc-kept =
      let field : crc_field whole ≡ crc_of body = ap (λ n. big_number 3 (drop n whole)) crc-place ∙ ap (big_number 3) (drop_at body end (length body) refl) ∙ crc-whole (crc_of body) in
      let front : crc_of (take (crc_offset whole) whole) ≡ crc_of body = ap (λ n. crc_of (take n whole)) crc-place ∙ ap crc_of (take_at body end (length body) refl) in
      eq-eqb (crc_field whole) (crc_of (take (crc_offset whole) whole)) (field ∙ sym front)

  pub made_module-is : IsName name → BeginsWithin name head code → size ≤ 57344 → kind < 256 → attr < 256 → IsModule whole
  made_module-is is begins short kind_fits attr_fits =
      let header_kept : keeps_header_rule whole ≡ true = and_from (has_sync whole && has_size whole && has_module_name
      whole) (has_entry whole) (and_from (has_sync whole && has_size whole) (has_module_name whole)
      (and_from (has_sync whole) (has_size whole) sync-kept (size-kept is)) (name-kept is)) (entry-kept begins) in
      record {
        whole = size-is ∙ sym length-made_module;
        accepted = rules-kept (keeps_header_rule whole) (keeps_parity_rule whole) (keeps_crc_rule whole) header_kept (parity-kept (omega arith) kind_fits attr_fits) crc-kept;
      }

  pub made_info-is : IsName name → info_at 0 whole ≡ made_info name head code
  made_info-is is =
      λ i. record {
        name = ap (λ found. unwrap_or found []) (name-is is) i;
        at = 0;
        size = size-is i;
        kind = kind;
        attr = attr;
        entry = entry-is i;
        storage = storage-is i;
      }

-- ---- modules that begin at their code
module _ (name : List ℕ) (kind attr storage : ℕ) (code : List ℕ) where
  begins-at : (program : Bool) → 0 < length code → (if program then code_offset name kind else 0) < code_offset name kind + length code
  begins-at true filled = omega arith
  begins-at false filled = omega arith

  pub begins_within : 0 < length code → BeginsWithin name (at_code name kind attr storage) code
  begins_within filled = begins-at (is_program_kind kind) filled

  pub length-guest_module : length (guest_module name kind attr storage code) ≡ guest_size name kind code
  length-guest_module = length-made_module name kind attr (code_offset name kind) storage code

  pub guest_module-is : IsName name → 0 < length code → guest_size name kind code ≤ 57344 → kind < 256 → attr < 256 → IsModule (guest_module name kind attr storage code)
  guest_module-is is filled short kind_fits attr_fits = made_module-is name kind attr (code_offset name kind) storage code is (begins_within filled) short kind_fits attr_fits

  pub guest_info-is : IsName name → info_at 0 (guest_module name kind attr storage code) ≡ guest_info name kind attr storage code
  guest_info-is is = made_info-is name kind attr (code_offset name kind) storage code is
