-- Each list of bytes has an instruction at its front, or is the beginning of one, or is neither whatever follows.
use Rattle.std.proofs.Common.{◌≡◌, ◌≢◌, ℕ, ◌+◌, ◌*◌, ◌/◌, ◌%◌, ◌<◌, Bool, true, false, Option, Some, None, List, [], ◌∷◌, ◌++◌, length, refl, ap, sym, ◌∙◌, arith, append_assoc, subst}
use Rattle.std.specs.Prelude.{Err, option_to_list, ◌==◌}
use Rattle.std.specs.List.{AllByRecursion}
use Rattle.cpu_model.specs.declared.rows.Row.{Row}
use Rattle.cpu_model.specs.declared.rows.Mode.{Mode}
use Rattle.cpu_model.specs.declared.rows.Mode.TheVariants.{Inherent, Immediate8, Immediate16, Direct, Indexed, Extended, Relative8, Relative16, Pair}
use Rattle.cpu_model.specs.declared.indexing.Indexing.{Indexing}
use Rattle.cpu_model.specs.declared.instruction.Page.{Page}
use Rattle.cpu_model.specs.declared.instruction.Page.TheVariants.{Base, Ten, Eleven}
use Rattle.cpu_model.specs.declared.instruction.Tail.{Tail}
use Rattle.cpu_model.specs.declared.instruction.Tail.TheVariants.{Empty, Byte, Word}
use Rattle.cpu_model.specs.declared.instruction.Instr.{Instr}
use Rattle.cpu_model.specs.declared.instruction.DecodeFault.TheVariants.{NotDocumented, Short}
use Rattle.cpu_model.specs.Table.{row, postbyte, form_lines, plain_postbyte, is_pair}
use Rattle.cpu_model.specs.BasePage.{base_page}
use Rattle.cpu_model.specs.TenPage.{ten_page}
use Rattle.cpu_model.specs.ElevenPage.{eleven_page}
use Rattle.cpu_model.specs.Reading.{Extent, none, byte, word, extent_of_mode, extent_of_form, read_tail, read_operand, read_row, reading}
use Rattle.cpu_table.specs.Spelling.{HasExtent, HasOperand, IsDocumented, prefix, tail_bytes, spelling}

-- every number is a byte
abbrev pub AreBytes : List ℕ → Type 0
AreBytes = AllByRecursion (λ b. b < 256)

-- what can stand where these operand bytes, of this extent, are wanted
data TailClass (extent : Extent) (rest : List ℕ) : Type 0 where
  spelled : (tail : Tail) (after : List ℕ) → rest ≡ tail_bytes tail ++ after → HasExtent extent tail → TailClass extent rest
  begun : (tail : Tail) (more : List ℕ) → rest ++ more ≡ tail_bytes tail → HasExtent extent tail → more ≢ [] → AreBytes more →
      ((page : Page) (opcode : ℕ) (post : Option ℕ) (before : ℕ) → read_tail page opcode post before extent rest ≡ Err Short) →
      TailClass extent rest

tail_class : (extent : Extent) (rest : List ℕ) → AreBytes rest → TailClass extent rest
tail_class none rest h = spelled Empty rest refl tt
tail_class byte [] h = begun (Byte 0) (0 ∷ []) refl tt (λ e. cc) (omega arith, tt) (λ page opcode post before. refl)
tail_class byte (b ∷ rest) h = spelled (Byte b) rest refl tt
tail_class word [] h = begun (Word 0) (0 ∷ 0 ∷ []) refl tt (λ e. cc) (omega arith, (omega arith, tt)) (λ page opcode post before. refl)
tail_class word (high ∷ []) h =
    let first : (high * 256) / 256 ≡ high = omega arith in
    let second : (high * 256) % 256 ≡ 0 = omega arith in
    begun (Word (high * 256)) (0 ∷ []) (rw (first, second) refl) tt (λ e. cc) (omega arith, tt) (λ page opcode post before. refl)
tail_class word (high ∷ low ∷ rest) h =
    let low_byte : low < 256 = h.1.0 in
    let first : (high * 256 + low) / 256 ≡ high = omega arith in
    let second : (high * 256 + low) % 256 ≡ low = omega arith in
    spelled (Word (high * 256 + low)) rest (rw (first, second) refl) tt

-- and what can stand where the operand of a mode is wanted
data OperandClass (mode : Mode) (rest : List ℕ) : Type 0 where
  operand_spelled : (post : Option ℕ) (tail : Tail) (after : List ℕ) → rest ≡ option_to_list post ++ tail_bytes tail ++ after →
      HasOperand mode post tail → OperandClass mode rest
  operand_begun : (post : Option ℕ) (tail : Tail) (more : List ℕ) → rest ++ more ≡ option_to_list post ++ tail_bytes tail →
      HasOperand mode post tail → more ≢ [] → AreBytes more →
      ((page : Page) (opcode before : ℕ) → read_operand page opcode before mode rest ≡ Err Short) → OperandClass mode rest
  operand_wrong : ((page : Page) (opcode before : ℕ) (after : List ℕ) → read_operand page opcode before mode (rest ++ after) ≡ Err NotDocumented) →
      OperandClass mode rest

-- an operand with no postbyte
plain_class : (mode : Mode) (rest : List ℕ) → TailClass (extent_of_mode mode) rest →
    ((tail : Tail) → HasExtent (extent_of_mode mode) tail → HasOperand mode None tail) →
    ((page : Page) (opcode before : ℕ) → read_operand page opcode before mode rest ≡ read_tail page opcode None before (extent_of_mode mode) rest) →
    OperandClass mode rest
plain_class mode rest (spelled tail after e h) operand read = operand_spelled None tail after e (operand tail h)
plain_class mode rest (begun tail more e h some bytes short) operand read =
    operand_begun None tail more e (operand tail h) some bytes (λ page opcode before. read page opcode before ∙ short page opcode None before)

-- an operand whose postbyte has this meaning
indexed_class : (post : ℕ) (rest : List ℕ) (indexing : Indexing) → postbyte post ≡ Some indexing →
    TailClass (extent_of_form indexing.0) rest → OperandClass Indexed (post ∷ rest)
indexed_class post rest indexing e (spelled tail after split h) =
    operand_spelled (Some post) tail after (ap (λ bytes. post ∷ bytes) split) (rw e h)
indexed_class post rest indexing e (begun tail more split h some bytes short) =
    operand_begun (Some post) tail more (ap (λ bytes. post ∷ bytes) split) (rw e h) some bytes
    (λ page opcode before. rw e (short page opcode (Some (plain_postbyte indexing.0 post)) (before + 1)))

post_class : (post : ℕ) (rest : List ℕ) (found : Option Indexing) → postbyte post ≡ found → AreBytes rest → OperandClass Indexed (post ∷ rest)
post_class post rest None e h = operand_wrong (λ page opcode before after. rw e refl)
post_class post rest (Some indexing) e h = indexed_class post rest indexing e (tail_class (extent_of_form indexing.0) rest h)

pair_class : (pair : ℕ) (rest : List ℕ) (documented : Bool) → is_pair pair ≡ documented → OperandClass Pair (pair ∷ rest)
pair_class pair rest true e = operand_spelled None (Byte pair) rest refl e
pair_class pair rest false e = operand_wrong (λ page opcode before after. rw e refl)

-- `,X`
no_offset : HasOperand Indexed (Some 0x84) Empty
unfolding postbyte form_lines
no_offset = tt

operand_class : (mode : Mode) (rest : List ℕ) → AreBytes rest → OperandClass mode rest
operand_class Indexed [] h = operand_begun (Some 0x84) Empty (0x84 ∷ []) refl no_offset (λ e. cc) (omega arith, tt) (λ page opcode before. refl)
operand_class Indexed (post ∷ rest) h = post_class post rest (postbyte post) refl h.1
operand_class Pair [] h = operand_begun None (Byte 0) (0 ∷ []) refl refl (λ e. cc) (omega arith, tt) (λ page opcode before. refl)
operand_class Pair (pair ∷ rest) h = pair_class pair rest (is_pair pair) refl
operand_class Inherent rest h = plain_class Inherent rest (tail_class none rest h) (λ tail k. k) (λ page opcode before. refl)
operand_class Immediate8 rest h = plain_class Immediate8 rest (tail_class byte rest h) (λ tail k. k) (λ page opcode before. refl)
operand_class Immediate16 rest h = plain_class Immediate16 rest (tail_class word rest h) (λ tail k. k) (λ page opcode before. refl)
operand_class Direct rest h = plain_class Direct rest (tail_class byte rest h) (λ tail k. k) (λ page opcode before. refl)
operand_class Extended rest h = plain_class Extended rest (tail_class word rest h) (λ tail k. k) (λ page opcode before. refl)
operand_class Relative8 rest h = plain_class Relative8 rest (tail_class byte rest h) (λ tail k. k) (λ page opcode before. refl)
operand_class Relative16 rest h = plain_class Relative16 rest (tail_class word rest h) (λ tail k. k) (λ page opcode before. refl)

-- and what can stand at the front of bytes
pub data Class (bytes : List ℕ) : Type 0 where
  is_spelled : (i : Instr) (after : List ℕ) → bytes ≡ spelling i ++ after → IsDocumented i → Class bytes
  is_begun : (i : Instr) (more : List ℕ) → bytes ++ more ≡ spelling i → IsDocumented i → more ≢ [] → AreBytes more →
      reading bytes ≡ Err Short → Class bytes
  is_wrong : ((after : List ℕ) → reading (bytes ++ after) ≡ Err NotDocumented) → Class bytes

-- after a prefix and an opcode
module _ (page : Page) (opcode : ℕ)
    (read : (rest : List ℕ) → reading (prefix page ++ (opcode ∷ rest)) ≡ read_row page opcode (length (prefix page) + 1) (row page opcode) rest) where
  known_class : (rest : List ℕ) (r : Row) → row page opcode ≡ Some r → OperandClass r.1 rest → Class (prefix page ++ (opcode ∷ rest))
  known_class rest r e (operand_spelled post tail after split h) =
      is_spelled (record { page = page; opcode = opcode; post = post; tail = tail }) after
      (rw split (sym (append_assoc (prefix page) (opcode ∷ (option_to_list post ++ tail_bytes tail)) after)))
      (rw e h)
  known_class rest r e (operand_begun post tail more split h some bytes short) =
      is_begun (record { page = page; opcode = opcode; post = post; tail = tail }) more
      (append_assoc (prefix page) (opcode ∷ rest) more ∙ ap (λ operand. prefix page ++ (opcode ∷ operand)) split)
      (rw e h) some bytes
      (rw (read rest, e) (short page opcode (length (prefix page) + 1)))
  known_class rest r e (operand_wrong wrong) =
      is_wrong (λ after. rw (append_assoc (prefix page) (opcode ∷ rest) after, read (rest ++ after), e)
      (wrong page opcode (length (prefix page) + 1) after))

  row_class : (rest : List ℕ) (found : Option Row) → row page opcode ≡ found → AreBytes rest → Class (prefix page ++ (opcode ∷ rest))
  row_class rest None e h =
      is_wrong (λ after. rw (append_assoc (prefix page) (opcode ∷ rest) after, read (rest ++ after), e) refl)
  row_class rest (Some r) e h = known_class rest r e (operand_class r.1 rest h)

-- NOP, SWI2 and SWI3, whose one byte after the prefix is the opcode
nop : IsDocumented (record { page = Base; opcode = 0x12; post = None; tail = Empty })
unfolding row base_page
nop = tt

swi2 : IsDocumented (record { page = Ten; opcode = 0x3F; post = None; tail = Empty })
unfolding row ten_page
swi2 = tt

swi3 : IsDocumented (record { page = Eleven; opcode = 0x3F; post = None; tail = Empty })
unfolding row eleven_page
swi3 = tt

empty_class : Class []
unfolding reading
empty_class =
    is_begun (record { page = Base; opcode = 0x12; post = None; tail = Empty }) (0x12 ∷ []) refl nop (λ e. cc) (omega arith, tt) refl

ten_class : (rest : List ℕ) → AreBytes rest → Class (0x10 ∷ rest)
unfolding reading
ten_class [] h =
    is_begun (record { page = Ten; opcode = 0x3F; post = None; tail = Empty }) (0x3F ∷ []) refl swi2 (λ e. cc) (omega arith, tt) refl
ten_class (opcode ∷ rest) h = row_class Ten opcode (λ more. refl) rest (row Ten opcode) refl h.1

eleven_class : (rest : List ℕ) → AreBytes rest → Class (0x11 ∷ rest)
unfolding reading
eleven_class [] h =
    is_begun (record { page = Eleven; opcode = 0x3F; post = None; tail = Empty }) (0x3F ∷ []) refl swi3 (λ e. cc) (omega arith, tt) refl
eleven_class (opcode ∷ rest) h = row_class Eleven opcode (λ more. refl) rest (row Eleven opcode) refl h.1

base_read : (opcode : ℕ) (rest : List ℕ) → opcode ≢ 0x10 → opcode ≢ 0x11 →
    reading (opcode ∷ rest) ≡ read_row Base opcode 1 (row Base opcode) rest
unfolding reading
base_read opcode rest ten eleven = grind arith

first_class : (first : ℕ) (rest : List ℕ) (is_ten is_eleven : Bool) → (first == 0x10) ≡ is_ten → (first == 0x11) ≡ is_eleven →
    AreBytes rest → Class (first ∷ rest)
first_class first rest true is_eleven e f h =
    let ten : 0x10 ≡ first = grind arith in
    subst (λ b. Class (b ∷ rest)) ten (ten_class rest h)
first_class first rest false true e f h =
    let eleven : 0x11 ≡ first = grind arith in
    subst (λ b. Class (b ∷ rest)) eleven (eleven_class rest h)
first_class first rest false false e f h =
    let ten : first ≢ 0x10 = grind arith in
    let eleven : first ≢ 0x11 = grind arith in
    row_class Base first (λ more. base_read first more ten eleven) rest (row Base first) refl h

pub class : (bytes : List ℕ) → AreBytes bytes → Class bytes
class [] h = empty_class
class (first ∷ rest) h = first_class first rest (first == 0x10) (first == 0x11) refl refl h.1
