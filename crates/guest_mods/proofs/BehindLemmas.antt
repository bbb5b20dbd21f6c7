-- A module with bytes behind it is read as the module alone, and is the next step in a file.
use Rattle.std.proofs.Common.{◌≡◌, ◌≢◌, ℕ, ◌∷◌, [], ◌++◌, ◌+◌, ◌-◌, ◌/◌, ◌<◌, ◌≤◌, ◌==◌, ◌&&◌, not, nat_lt, nat_le, bit_xor, if◌then◌else◌, Bool, true, false, Option, Some, None, inl, inr, is_some, unwrap_or, List, length, take, drop, slice_range, fold, get_or, refl, sym, ap, ◌∙◌, arith, length-append, length-drop}
use Rattle.std.specs.Option.{option_map_or}
use Rattle.std.specs.List.{position_or_len}
use Rattle.std.proofs.lemmas.List.{get_or-drop, get_or_append_left, take-append-le, drop-append-le}
use Rattle.std.proofs.Math.ListN.{drop_of_length-le}
use Rattle.std.proofs.lemmas.Bool.{cases_lt, and_parts, and_from, leb-true, le-leb, ne_eqb, eq-eqb, cond-true, cond-false}
use Rattle.byteorder.specs.Endian.{big_number}
use Rattle.os9_base.specs.Name.{stored_name}
use Rattle.proc_model.specs.CrcModel.{crc_of}
use Rattle.proc_model.specs.Module.{header_word, module_size, name_offset, module_kind, module_attributes, is_program, header_length, program_word, module_entry, crc_offset, module_name, has_sync, has_size, has_module_name, has_entry, keeps_header_rule, keeps_parity_rule, crc_field, keeps_crc_rule, module_fault, info_at, next_place, step_at, step_from, IsModule}
use Rattle.proc_model.specs.declared.module.ModuleFault.TheVariants.{BadSync, BadParity, BadCrc}
use Rattle.proc_model.specs.declared.module.ModuleStep.TheVariants.{Module, End, Fault}

-- ---- parts of a list that has bytes behind it
byte-at : (m rest : List ℕ) (at k : ℕ) → at + k < length m → get_or (drop at (m ++ rest)) k 0 ≡ get_or (drop at m) k 0
byte-at m rest at k within =
    get_or-drop at (m ++ rest) k 0 ∙ get_or_append_left m rest 0 (at + k) within ∙ sym (get_or-drop at m k 0)

word-at : (m rest : List ℕ) (at : ℕ) → at + 2 ≤ length m → header_word (m ++ rest) at ≡ header_word m at
word-at m rest at within =
    let first = byte-at m rest at 0 (omega arith) in
    let second = byte-at m rest at 1 (omega arith) in
    cc

three-at : (m rest : List ℕ) (at : ℕ) → at + 3 ≤ length m → big_number 3 (drop at (m ++ rest)) ≡ big_number 3 (drop at m)
three-at m rest at within =
    let first = byte-at m rest at 0 (omega arith) in
    let second = byte-at m rest at 1 (omega arith) in
    let third = byte-at m rest at 2 (omega arith) in
    cc

range-at : (m rest : List ℕ) (from to : ℕ) → to ≤ length m → slice_range (m ++ rest) from to ≡ slice_range m from to
range-at m rest from to within =
    elim (cases_lt to from) [
      | inl past ↦ (let none : to - from ≡ 0 = omega arith in rw none refl)
      | inr before ↦
          ap (take (to - from)) (drop-append-le from m rest (omega arith))
          ∙ take-append-le (to - from) (drop from m) rest (omega (arith, length-drop from m))
    ]

-- ---- the rules
keeps-all : (header parity crc : Bool)
    → (if header then (if parity then (if crc then None else Some BadCrc) else Some BadParity) else Some BadSync) ≡ None
    → (header ≡ true) × (parity ≡ true) × (crc ≡ true)
keeps-all true true true h = (refl, refl, refl)
keeps-all true true false h = absurd cc
keeps-all true false crc h = absurd cc
keeps-all false parity crc h = absurd cc

keeps-from : (header parity crc : Bool) → header ≡ true → parity ≡ true → crc ≡ true
    → (if header then (if parity then (if crc then None else Some BadCrc) else Some BadParity) else Some BadSync) ≡ None
keeps-from header parity crc h p c = simp (h, p, c)

header-least : (bytes : List ℕ) → 9 ≤ header_length bytes
header-least bytes = elim (is_program bytes) as (λ program. 9 ≤ (if program then 13 else 9)) [ true ↦ omega arith | false ↦ omega arith ]

module _ (m rest : List ℕ) (is : IsModule m) where
  abbrev whole : List ℕ
  whole = m ++ rest

  kept : (keeps_header_rule m ≡ true) × (keeps_parity_rule m ≡ true) × (keeps_crc_rule m ≡ true)
  kept = keeps-all (keeps_header_rule m) (keeps_parity_rule m) (keeps_crc_rule m) is.accepted

  entered : (has_sync m ≡ true) × (has_size m ≡ true) × (has_module_name m ≡ true) × (has_entry m ≡ true)
  entered =
      let all = and_parts (has_sync m && has_size m && has_module_name m) (has_entry m) kept.0 in
      let named = and_parts (has_sync m && has_size m) (has_module_name m) all.0 in
      let sized = and_parts (has_sync m) (has_size m) named.0 in
      (sized.0, sized.1, named.1, all.1)

  room : header_length m + 4 ≤ module_size m
  room = leb-true (header_length m + 4) (module_size m) (and_parts _ _ entered.1).0

  least : 13 ≤ length m
  least = omega (arith, header-least m, room, is.whole)

  size-same : module_size whole ≡ module_size m
  size-same = word-at m rest 2 (let few = least in omega arith)

  kind-same : module_kind whole ≡ module_kind m
  kind-same = get_or_append_left m rest 0 6 (let few = least in omega arith)

  attr-same : module_attributes whole ≡ module_attributes m
  attr-same = get_or_append_left m rest 0 7 (let few = least in omega arith)

  program-same : is_program whole ≡ is_program m
  program-same = ap (λ kind. kind / 16 == 1) kind-same

  header-same : header_length whole ≡ header_length m
  header-same = ap (λ (program : Bool). if program then 13 else 9) program-same

  word-same : (at : ℕ) → at + 2 ≤ 13 → program_word whole at ≡ program_word m at
  word-same at within =
      ap (λ (program : Bool). if program then header_word whole at else 0) program-same
      ∙ ap (λ (word : ℕ). if is_program m then word else 0) (word-at m rest at (let few = least in omega arith))

  end-same : crc_offset whole ≡ crc_offset m
  end-same = ap (λ (size : ℕ). size - 3) size-same

  place-same : name_offset whole ≡ name_offset m
  place-same = word-at m rest 4 (let few = least in omega arith)

  name-same : module_name whole ≡ module_name m
  name-same =
      let within : crc_offset m ≤ length m = omega (arith, is.whole) in
      ap (λ (from : ℕ). stored_name (slice_range whole from (crc_offset whole))) place-same
      ∙ ap (λ (to : ℕ). stored_name (slice_range whole (name_offset m) to)) end-same
      ∙ ap stored_name (range-at m rest (name_offset m) (crc_offset m) within)

  sync-kept : has_sync whole ≡ true
  sync-kept = ap (λ (word : ℕ). word == 0x87CD) (word-at m rest 0 (let few = least in omega arith)) ∙ entered.0

  size-kept : has_size whole ≡ true
  size-kept =
      and_from (nat_le (header_length whole + 4) (module_size whole)) (nat_le (module_size whole) (length whole))
      (le-leb (header_length whole + 4) (module_size whole) (omega (arith, header-same, size-same, room)))
      (le-leb (module_size whole) (length whole) (omega (arith, size-same, is.whole, length-append m rest)))

  name-kept : has_module_name whole ≡ true
  name-kept =
      ap (λ (len : ℕ). nat_le len (name_offset whole) && is_some (module_name whole)) header-same
      ∙ ap (λ (at : ℕ). nat_le (header_length m) at && is_some (module_name whole)) place-same
      ∙ ap (λ (name : Option (List ℕ)). nat_le (header_length m) (name_offset m) && is_some name) name-same
      ∙ entered.2

  entry-kept : has_entry whole ≡ true
  entry-kept =
      ap (λ (entry : ℕ). nat_lt entry (crc_offset whole)) (word-same 9 (omega arith)) ∙ ap (nat_lt (module_entry m)) end-same ∙ entered.3

  parity-kept : keeps_parity_rule whole ≡ true
  parity-kept = ap (λ (front : List ℕ). fold bit_xor 0 front == 255) (take-append-le 9 m rest (let few = least in omega arith)) ∙ kept.1

  crc-kept : keeps_crc_rule whole ≡ true
  crc-kept =
      let end : crc_offset m + 3 ≤ length m = (let few = least in omega (arith, is.whole)) in
      ap (λ (at : ℕ). big_number 3 (drop at whole) == crc_of (take at whole)) end-same
      ∙ ap (λ (number : ℕ). number == crc_of (take (crc_offset m) whole)) (three-at m rest (crc_offset m) end)
      ∙ ap (λ (body : List ℕ). crc_field m == crc_of body) (take-append-le (crc_offset m) m rest (omega arith))
      ∙ kept.2

  pub no-fault : module_fault whole ≡ None
  no-fault =
      keeps-from (keeps_header_rule whole) (keeps_parity_rule whole) (keeps_crc_rule whole)
      (and_from (has_sync whole && has_size whole && has_module_name whole) (has_entry whole)
      (and_from (has_sync whole && has_size whole) (has_module_name whole) (and_from (has_sync whole) (has_size whole) sync-kept size-kept) name-kept)
      entry-kept)
      parity-kept crc-kept

  pub info-same : (at : ℕ) → info_at at whole ≡ info_at at m
  info-same at = λ i. record {
    name = unwrap_or (name-same i) [];
    at = at;
    size = size-same i;
    kind = kind-same i;
    attr = attr-same i;
    entry = word-same 9 (omega arith) i;
    storage = word-same 11 (omega arith) i;
  }

-- ---- steps in a file
first-stays : (m rest : List ℕ) → 1 ≤ length m → get_or m 0 0 ≢ 0 → position_or_len (λ byte. not (byte == 0)) (m ++ rest) ≡ 0
first-stays [] rest some other = absurd (omega arith)
first-stays (byte ∷ m) rest some other = let differs : (byte == 0) ≡ false = ne_eqb byte 0 other in simp differs

-- the module that stands in a place is the next step from there
pub step-module : (file m rest : List ℕ) (at : ℕ) → IsModule m → drop at file ≡ m ++ rest → get_or m 0 0 ≢ 0 → at < length file → step_from file at ≡ Module (info_at at m)
step-module file m rest at is there other low =
    let few : 13 ≤ length m = least m rest is in
    let still : next_place file at ≡ at = ap (λ l. at + position_or_len (λ byte. not (byte == 0)) l) there ∙ omega (arith, first-stays m rest (omega arith) other) in
    ap (step_at file) still
    ∙ cond-false (at == length file) End (option_map_or (λ fault. Fault at fault) (module_fault (drop at file)) (Module (info_at at (drop at file))))
    (ne_eqb at (length file) (λ same. omega arith))
    ∙ ap (λ l. option_map_or (λ fault. Fault at fault) (module_fault l) (Module (info_at at l))) there
    ∙ ap (λ fault. option_map_or (λ fault. Fault at fault) fault (Module (info_at at (m ++ rest)))) (no-fault m rest is)
    ∙ ap Module (info-same m rest is at)

-- at the end of a file there is none
pub step-end : (file : List ℕ) → step_from file (length file) ≡ End
step-end file =
    let none : drop (length file) file ≡ [] = drop_of_length-le file (omega arith) in
    let still : next_place file (length file) ≡ length file = ap (λ l. length file + position_or_len (λ byte. not (byte == 0)) l) none ∙ omega arith in
    ap (step_at file) still
    ∙ cond-true (length file == length file) End (option_map_or (λ fault. Fault (length file) fault)
    (module_fault (drop (length file) file)) (Module (info_at (length file) (drop (length file) file))))
    (eq-eqb (length file) (length file) refl)
