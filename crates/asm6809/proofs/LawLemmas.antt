-- The bytes that a source makes are the module that it describes.
use Rattle.std.proofs.Common.{◌≡◌, ◌≤◌, ◌<◌, ℕ, ◌+◌, ◌/◌, ◌%◌, ◌&&◌, Bool, true, false, Option, Some, None, List, [], ◌∷◌, ◌++◌, length, take, drop, get_or, refl, ap, sym, subst, ◌∙◌, arith, append_assoc, ℤ, pos, negsuc}
use Rattle.std.specs.Prelude.{option_map, option_and_then, is_some, nat_le, nat_lt, IsSomeAnd, Ok, if◌then◌else◌}
use Rattle.std.specs.List.{list_all}
use Rattle.std.proofs.lemmas.Bool.{and_parts, leb-true, ltb-true}
use Rattle.std.proofs.lemmas.List.{take_at, drop_at, drop-drop}
use Rattle.std.proofs.lemmas.List.Sums.{AllPass-from_list_all}
use Rattle.os9_base.specs.declared.limits.TheConstants.{MOST_GROUP_BYTES}
use Rattle.os9_base.specs.Name.{is_name_character, if_name, IsName, marked_name}
use Rattle.os9_base.proofs.NameLemmas.{is_stored_character-from_name}
use Rattle.proc_model.specs.CrcModel.{crc_of}
use Rattle.proc_model.specs.Module.{IsModule, info_at}
use Rattle.proc_model.specs.declared.module.ModuleInfo.{ModuleInfo}
use Rattle.module_format.specs.declared.maker.Header.{Header}
use Rattle.module_format.specs.GuestModule.{made_module, made_body, made_info, header_front, parity_of, crc_bytes, code_offset, guest_size, is_program_kind, kind_header_length}
use Rattle.module_format.proofs.ModuleLemmas.{length-made_module, made_module-is, made_info-is}
use Rattle.module_format.proofs.NameLemmas.{length-marked_name}
use Rattle.asm_model.specs.Operands.{modulo}
use Rattle.asm_model.specs.Characters.{is_line_feed}
use Rattle.asm_model.specs.Statements.{ModuleFields, is_module_name, module_start, source_lines}
use Rattle.asm_model.specs.Placement.{Reached, start, reached_from, action_length, SourceFault, source_fault}
use Rattle.asm6809.specs.Assembled.{placed, actions_of, byte_there, word_there, code_of, first_start, is_framed, is_filled, kind_of, header_with, start_value, offset_below, entry_of, module_with, code_if_filled, module_of, or_fault, outcome_of, StandAt, Says, reached_by, Assembled}
use Rattle.asm6809.proofs.ShapeLemmas.{lines_shaped}
use Rattle.asm6809.proofs.StandLemmas.{Follows, Stood, all_stood}
use Rattle.std.specs.List.{slice_split}

-- ---- what an answer is made of

if-some : {A : Type 0} (b : Bool) (o : Option A) (x : A) → (if b then o else None) ≡ Some x → (b ≡ true) × (o ≡ Some x)
if-some true o x is = (refl, is)
if-some false o x is = absurd (cc)

then-some : {A B : Type 0} (f : A → Option B) (o : Option A) (y : B) → option_and_then f o ≡ Some y → (x : A) × (o ≡ Some x) × (f x ≡ Some y)
then-some f None y is = absurd (cc)
then-some f (Some x) y is = (x, refl, is)

map-some : {A B : Type 0} (f : A → B) (o : Option A) (y : B) → option_map f o ≡ Some y → (x : A) × (o ≡ Some x) × (f x ≡ y)
map-some f None y is = absurd (cc)
map-some f (Some x) y is = let same : f x ≡ y = cc in (x, refl, same)

fault-none : (fault : Option SourceFault) (made : Option (List ℕ)) (bytes : List ℕ) → or_fault fault made ≡ Ok bytes → (fault ≡ None) × (made ≡ Some bytes)
fault-none (Some fault) made bytes is = absurd (cc)
fault-none None None bytes is = absurd (cc)
fault-none None (Some made) bytes is = let same : made ≡ bytes = cc in (refl, ap Some same)

some-if : {A : Type 0} (b : Bool) (x : A) → is_some (if b then Some x else None) ≡ true → b ≡ true
some-if true x is = refl
some-if false x is = absurd (cc)

name-is : (name : List ℕ) → is_module_name name ≡ true → IsName name
name-is name is =
    let parts = and_parts (is_some (if_name name)) (list_all is_name_character name) is in
    let long = and_parts (nat_le 1 (length name)) (nat_le (length name) 29) (some-if _ name parts.0) in
    record {
      not_empty = leb-true 1 (length name) long.0;
      short = leb-true (length name) 29 long.1;
      characters = λ k d below. is_stored_character-from_name (get_or name k d) (AllPass-from_list_all is_name_character name parts.1 k d below);
    }

below : (n end entry : ℕ) (b : Bool) → nat_lt n end ≡ b → (if b then Some n else None) ≡ Some entry → (entry < end) × (Some (pos n) ≡ Some (pos entry))
below n end entry true lt is =
    let same : n ≡ entry = cc in
    let less : n < end = ltb-true n end lt in
    (omega arith, ap (λ k. Some (pos k)) same)
below n end entry false lt is = absurd (cc)

started : (begin : Option ℤ) (end entry : ℕ) → offset_below end begin ≡ Some entry → (entry < end) × (begin ≡ Some (pos entry))
started None end entry is = absurd (cc)
started (Some (negsuc n)) end entry is = absurd (cc)
started (Some (pos n)) end entry is = below n end entry (nat_lt n end) refl is

pub begun : (program : Bool) (begin : Option ℤ) (end entry : ℕ) → 0 < end → (if program then offset_below end begin else Some 0) ≡ Some entry →
    ((if program then entry else 0) < end) × (program ≡ true → begin ≡ Some (pos (if program then entry else 0)))
begun true begin end entry some is = let parts = started begin end entry is in (parts.0, λ p. parts.1)
begun false begin end entry some is = (some, λ p. absurd (cc))

header-some : (program : Bool) → 0 < (if program then 13 else 9)
header-some true = omega arith
header-some false = omega arith

pub end-some : (name : List ℕ) (kind : ℕ) (code : List ℕ) → 0 < code_offset name kind + length code
end-some name kind code = omega (arith, header-some (is_program_kind kind))

modulo-below : (z : ℤ) → modulo 256 z < 256
modulo-below (pos n) = omega arith
modulo-below (negsuc n) = omega arith

-- ---- the parts of a module

module _ (name : List ℕ) (head : Header) (code : List ℕ) where
  abbrev end : List ℕ
  end = crc_bytes (crc_of (made_body name head code))

  abbrev front : List ℕ
  front = header_front (guest_size name head.kind code) head.kind head.attr

  abbrev fields : Bool → List ℕ
  fields program = if program then head.entry / 256 ∷ head.entry % 256 ∷ head.storage / 256 ∷ head.storage % 256 ∷ [] else []

  dropped : (program : Bool) → drop (if program then 13 else 9) ((front ++ parity_of front ∷ (fields program ++ (marked_name name ++ code))) ++ end) ≡ marked_name name ++ (code ++ end)
  dropped true = append_assoc (marked_name name) code end
  dropped false = append_assoc (marked_name name) code end

  name-there : drop (kind_header_length head.kind) (made_module name head code) ≡ marked_name name ++ (code ++ end)
  name-there = dropped (is_program_kind head.kind)

  code-there : drop (code_offset name head.kind) (made_module name head code) ≡ code ++ end
  code-there =
      sym (drop-drop (length name) (kind_header_length head.kind) (made_module name head code)) ∙ ap (drop (length name)) name-there
      ∙ drop_at (marked_name name) (code ++ end) (length name) (length-marked_name name)

  name-stands : (at : ℕ) → at ≡ kind_header_length head.kind → StandAt (made_module name head code) at (marked_name name)
  name-stands at is =
      ap (λ n. take (length (marked_name name)) (drop n (made_module name head code))) is ∙ ap (take (length (marked_name name))) name-there
      ∙ take_at (marked_name name) (code ++ end) (length (marked_name name)) refl

module _ (source : List ℕ) (m : ModuleFields) (entry : ℕ) (code : List ℕ) (right : source_fault source ≡ None)
    (framed : is_framed (actions_of (source_lines source)) ≡ true) (starts : first_start (actions_of (source_lines source)) ≡ Some m)
    (fills : list_all (is_filled (reached_by source)) (placed source) ≡ true) (code_is : code_of (reached_by source) (placed source) ≡ code)
    (named : is_module_name m.name ≡ true) (short : guest_size m.name (kind_of m) code ≤ 57344) (enters : entry_of (reached_by source) m code ≡ Some entry) where
  abbrev all : Reached
  all = reached_by source

  abbrev head : Header
  head = header_with (reached_by source) m entry

  abbrev whole : List ℕ
  whole = made_module m.name (header_with (reached_by source) m entry) code

  is_name : IsName m.name
  is_name = name-is m.name named

  begins : ((if is_program_kind (kind_of m) then entry else 0) < code_offset m.name (kind_of m) + length code)
      × (is_program_kind (kind_of m) ≡ true → start_value all ≡ Some (pos (if is_program_kind (kind_of m) then entry else 0)))
  begins = begun (is_program_kind (kind_of m)) (start_value all) (code_offset m.name (kind_of m) + length code) entry (end-some m.name (kind_of m) code) enters

  module_is : IsModule whole
  module_is =
      made_module-is m.name (kind_of m) (byte_there all 0 m.attributes) entry (word_there all 0 m.storage) code is_name begins.0 short (modulo-below _) (modulo-below _)

  abbrev info : ModuleInfo
  info = made_info m.name (header_with (reached_by source) m entry) code

  said : Says all m (made_info m.name (header_with (reached_by source) m entry) code)
  said =
      record {
        name = refl;
        kind = refl;
        attributes = refl;
        entry = begins.1;
        storage = λ program. ap (λ b. if b then word_there all 0 m.storage else 0) program;
      }

  says : Says all m (info_at 0 whole)
  says =
      subst (λ (i : ModuleInfo). Says all m i)
      (sym (made_info-is m.name (kind_of m) (byte_there all 0 m.attributes) entry (word_there all 0 m.storage) code is_name)) said

  long : length whole ≡ guest_size m.name (kind_of m) code
  long = length-made_module m.name (kind_of m) (byte_there all 0 m.attributes) entry (word_there all 0 m.storage) code

  follows : Follows all (made_body m.name head code) (placed source) m
  follows =
      record {
        name = name-stands m.name head code (0 + kind_header_length (kind_of m)) (omega arith);
        code = ap (λ n. drop n whole) (let at : 0 + action_length (module_start m) ≡ code_offset m.name (kind_of m) = omega arith in at)
            ∙ code-there m.name head code ∙ ap (λ c. c ++ crc_bytes (crc_of (made_body m.name head code))) (sym code_is);
        room = omega (arith, long);
      }

  stood : Stood all (made_body m.name head code) 0 (placed source)
  stood = all_stood all (made_body m.name head code) (source_lines source) m (lines_shaped (slice_split is_line_feed source)) framed starts fills follows

  whole-assembled : Assembled source whole
  whole-assembled =
      record {
        right = right;
        is_module = module_is;
        says = subst (λ (o : Option ModuleFields). IsSomeAnd o (λ m. Says (reached_by source) m (info_at 0 whole))) (sym starts) says;
        stands = stood.stand;
        ends = omega (arith, stood.ends);
      }

made-assembled : (source bytes : List ℕ) → source_fault source ≡ None → module_of (reached_by source) (source_lines source) ≡ Some bytes → Assembled source bytes
made-assembled source bytes right made =
    let framed = if-some (is_framed (actions_of (source_lines source))) _ bytes made in
    let starts = then-some (λ (m : ModuleFields). option_and_then (module_with (reached_by source) m) (code_if_filled (reached_by source) (placed source)))
    (first_start (actions_of (source_lines source))) bytes framed.1 in
    let coded = then-some (module_with (reached_by source) starts.0) (code_if_filled (reached_by source) (placed source)) bytes starts.2 in
    let filled = if-some (list_all (is_filled (reached_by source)) (placed source)) (Some (code_of (reached_by source) (placed source))) coded.0 coded.1 in
    let code_is : code_of (reached_by source) (placed source) ≡ coded.0 = (let both = filled.1 in cc) in
    let tests = if-some (is_module_name starts.0.name && nat_le (guest_size starts.0.name (kind_of starts.0) coded.0) MOST_GROUP_BYTES) _ bytes coded.2 in
    let parts = and_parts (is_module_name starts.0.name) (nat_le (guest_size starts.0.name (kind_of starts.0) coded.0) MOST_GROUP_BYTES) tests.0 in
    let short : guest_size starts.0.name (kind_of starts.0) coded.0 ≤ 57344 = leb-true _ 57344 parts.1 in
    let enters = map-some (λ (entry : ℕ). made_module starts.0.name (header_with (reached_by source) starts.0 entry) coded.0) (entry_of (reached_by source) starts.0 coded.0) bytes tests.1 in
    subst (λ (b : List ℕ). Assembled source b) enters.2
    (whole-assembled source starts.0 enters.0 coded.0 right framed.0 starts.1 filled.0 code_is parts.0 short enters.1)

-- the bytes of a source's outcome
pub assembled : (source bytes : List ℕ) → outcome_of source ≡ Ok bytes → Assembled source bytes
unfolding outcome_of
assembled source bytes is =
    let parts = fault-none (source_fault source) (module_of (reached_from start (source_lines source)) (source_lines source)) bytes is in
    made-assembled source bytes parts.0 parts.1
