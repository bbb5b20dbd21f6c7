-- What an instruction changes, class by class. The registers are those after the instruction's own bytes; there is
-- no effect if a cell that is read is not named.
use Rattle.std.specs.Prelude.{ℕ, ◌+◌, ◌-◌, ◌/◌, ◌%◌, nat_le, bit_and, bit_or, Option, Some, option_map, option_and_then, List, [], ◌∷◌, ◌++◌, length, if◌then◌else◌}
use Rattle.os9_base.specs.declared.registers.Regs.{Regs}
use Rattle.cpu_model.specs.declared.rows.Unary.{Unary}
use Rattle.cpu_model.specs.declared.rows.Unary.TheVariants.{Tst}
use Rattle.cpu_model.specs.declared.rows.Binary.{Binary}
use Rattle.cpu_model.specs.declared.rows.WordBinary.{WordBinary}
use Rattle.cpu_model.specs.declared.rows.Condition.{Condition}
use Rattle.cpu_model.specs.declared.rows.Accumulator.{Accumulator}
use Rattle.cpu_model.specs.declared.rows.WordRegister.{WordRegister}
use Rattle.cpu_model.specs.declared.rows.IndexRegister.{IndexRegister}
use Rattle.cpu_model.specs.declared.rows.IndexRegister.TheVariants as index
use Rattle.cpu_model.specs.declared.rows.Stack.{Stack}
use Rattle.cpu_model.specs.declared.rows.Stack.TheVariants.{System}
use Rattle.cpu_model.specs.declared.rows.Register.{Register}
use Rattle.cpu_model.specs.declared.rows.Register.TheVariants.{X, Y, Pc, A, B, Cc, Dp}
use Rattle.cpu_model.specs.declared.operand.Place.{Place}
use Rattle.cpu_model.specs.declared.operand.ByteOperand.{ByteOperand}
use Rattle.cpu_model.specs.declared.operand.WordOperand.{WordOperand}
use Rattle.cpu_model.specs.Arithmetic.{adjusted8, product, extended}
use Rattle.cpu_model.specs.Flags.{has_bit, flags_of, logic8_flags, logic16_flags, daa_flags, sex_flags, mul_flags, lea_flags}
use Rattle.cpu_model.specs.Registers.{wrapped, with_d, accumulator, with_accumulator, word_register, with_word_register, stack_pointer, with_stack_pointer, with_flags, register_coded, register, with_register, other_pointer}
use Rattle.cpu_model.specs.Operations.{unary_value, unary_flags, binary_value, binary_flags, word_value, word_flags, holds}
use Rattle.cpu_model.specs.Places.{place, word_at}

-- the registers afterwards, and the bytes written, in order, each with its address
pub record Effect : Type 0 where
  pub regs : Regs
  pub writes : List (ℕ × ℕ)

-- ---- what is written

-- these bytes from an address on, which wraps around
abbrev pub bytes_from : ℕ → List ℕ → List (ℕ × ℕ)
bytes_from at [] = []
bytes_from at (byte ∷ bytes) = (at, byte) ∷ bytes_from (wrapped (at + 1)) bytes

abbrev pub word_bytes : ℕ → List ℕ
word_bytes value = value / 256 ∷ value % 256 ∷ []

abbrev pub changes : Regs → Effect
changes r = record { regs = r; writes = [] }

abbrev pub writes_byte : Regs → ℕ → ℕ → Effect
writes_byte r at byte = record { regs = r; writes = bytes_from at (byte ∷ []) }

abbrev pub writes_word : Regs → ℕ → ℕ → Effect
writes_word r at value = record { regs = r; writes = bytes_from at (word_bytes value) }

-- ---- one byte

-- TST writes nothing
abbrev pub unary_writes : Unary → ℕ → ℕ → List (ℕ × ℕ)
unary_writes Tst at value = []
unary_writes _ at value = bytes_from at (value ∷ [])

-- NEG to CLR of the byte at a place
abbrev pub unary_effect : Unary → Place → ℕ → Effect
unary_effect u p value =
    let f = flags_of p.regs.cc in
    record { regs = with_flags p.regs (unary_flags u value f); writes = unary_writes u p.at (unary_value u value f) }

abbrev pub unary_effect_at : (ℕ → Option ℕ) → Unary → Place → Option Effect
unary_effect_at cells u p = option_map (λ value. unary_effect u p value) (cells p.at)

abbrev pub unary_on : Regs → Unary → Accumulator → Regs
unary_on r u acc =
    let f = flags_of r.cc in let value = accumulator r acc in
    with_flags (with_accumulator r acc (unary_value u value f)) (unary_flags u value f)

-- ---- registers and operands

abbrev pub binary_on : Binary → Accumulator → ByteOperand → Regs
binary_on op acc x =
    let f = flags_of x.regs.cc in let a = accumulator x.regs acc in
    with_flags (with_accumulator x.regs acc (binary_value op a x.value f)) (binary_flags op a x.value f)

abbrev pub word_on : WordBinary → WordRegister → WordOperand → Regs
word_on op reg x =
    let f = flags_of x.regs.cc in let a = word_register x.regs reg in
    with_flags (with_word_register x.regs reg (word_value op a x.value)) (word_flags op a x.value f)

abbrev pub store : Accumulator → Place → Effect
store acc p =
    let value = accumulator p.regs acc in
    writes_byte (with_flags p.regs (logic8_flags value (flags_of p.regs.cc))) p.at value

-- a register that the address has stepped is stored with its new value
abbrev pub store_word : WordRegister → Place → Effect
store_word reg p =
    let value = word_register p.regs reg in
    writes_word (with_flags p.regs (logic16_flags value (flags_of p.regs.cc))) p.at value

-- ---- addresses

-- LEAX and LEAY set Z; LEAU and LEAS set no flag
abbrev pub lea : IndexRegister → Place → Regs
lea index.X p = with_flags (record p.regs { x = p.at }) (lea_flags p.at (flags_of p.regs.cc))
lea index.Y p = with_flags (record p.regs { y = p.at }) (lea_flags p.at (flags_of p.regs.cc))
lea index.U p = record p.regs { u = p.at }
lea index.S p = record p.regs { s = p.at }

abbrev pub jump : Place → Effect
jump p = changes (record p.regs { pc = p.at })

abbrev pub branch : Regs → Condition → ℕ → Regs
branch r condition target = if holds condition (flags_of r.cc) then record r { pc = target } else r

-- a subroutine is entered: the next instruction's address is pushed on the stack
abbrev pub enters : Regs → ℕ → Effect
enters r target =
    let at = wrapped (r.s + 65534) in writes_word (record r { s = at; pc = target }) at r.pc

-- ---- stacks

-- the bytes of a register, if the mask has the bit of this weight
abbrev pub part : ℕ → ℕ → List ℕ → List ℕ
part mask weight bytes = if has_bit weight mask then bytes else []

-- what a push with this mask puts on a stack, from the lowest address up
unfoldable pub frame : Regs → Stack → ℕ → List ℕ
frame r stack mask =
    part mask 1 (r.cc ∷ []) ++ part mask 2 (r.a ∷ []) ++ part mask 4 (r.b ∷ []) ++ part mask 8 (r.dp ∷ [])
    ++ part mask 16 (word_bytes r.x) ++ part mask 32 (word_bytes r.y)
    ++ part mask 64 (word_bytes (register r (other_pointer stack))) ++ part mask 128 (word_bytes r.pc)

abbrev pub push : Regs → Stack → ℕ → Effect
push r stack mask =
    let bytes = frame r stack mask in let at = wrapped (stack_pointer r stack + 65536 - length bytes) in
    record { regs = with_stack_pointer r stack at; writes = bytes_from at bytes }

-- a register is taken from the stack, if the mask names it: the next address, and the registers
abbrev pub pull_byte : (ℕ → Option ℕ) → ℕ → ℕ → Register → Place → Option Place
pull_byte cells mask weight reg p =
    if has_bit weight mask
    then option_map (λ value. place (wrapped (p.at + 1)) (with_register p.regs reg value)) (cells p.at)
    else Some p

abbrev pub pull_word : (ℕ → Option ℕ) → ℕ → ℕ → Register → Place → Option Place
pull_word cells mask weight reg p =
    if has_bit weight mask
    then option_map (λ value. place (wrapped (p.at + 2)) (with_register p.regs reg value)) (word_at cells p.at)
    else Some p

abbrev pub pull_bytes : (ℕ → Option ℕ) → ℕ → Place → Option Place
pull_bytes cells mask p =
    option_and_then (λ p. pull_byte cells mask 8 Dp p)
    (option_and_then (λ p. pull_byte cells mask 4 B p)
    (option_and_then (λ p. pull_byte cells mask 2 A p) (pull_byte cells mask 1 Cc p)))

abbrev pub pull_words : (ℕ → Option ℕ) → Stack → ℕ → Place → Option Place
pull_words cells stack mask p =
    option_and_then (λ p. pull_word cells mask 128 Pc p)
    (option_and_then (λ p. pull_word cells mask 64 (other_pointer stack) p)
    (option_and_then (λ p. pull_word cells mask 32 Y p) (pull_word cells mask 16 X p)))

-- the registers after a pull with this mask
unfoldable pub pull : (ℕ → Option ℕ) → Regs → Stack → ℕ → Option Regs
pull cells r stack mask =
    option_map (λ p. with_stack_pointer p.regs stack p.at)
    (option_and_then (λ p. pull_words cells stack mask p) (pull_bytes cells mask (place (stack_pointer r stack) r)))

-- RTI: E of the CC on the stack says whether all registers are there, or CC and PC alone
abbrev pub return_mask : ℕ → ℕ
return_mask cc = if nat_le 128 cc then 255 else 129

abbrev pub return_from_interrupt : (ℕ → Option ℕ) → Regs → Option Regs
return_from_interrupt cells r = option_and_then (λ cc. pull cells r System (return_mask cc)) (cells r.s)

abbrev pub return_from_subroutine : (ℕ → Option ℕ) → Regs → Option Regs
return_from_subroutine cells r =
    option_map (λ target. record r { s = wrapped (r.s + 2); pc = target }) (word_at cells r.s)

-- ---- the other instructions on registers

-- the high half of the postbyte names the source
abbrev pub transfer : Regs → ℕ → Regs
transfer r pair = with_register r (register_coded (pair % 16)) (register r (register_coded (pair / 16)))

abbrev pub exchange : Regs → ℕ → Regs
exchange r pair =
    let high = register_coded (pair / 16) in let low = register_coded (pair % 16) in
    with_register (with_register r low (register r high)) high (register r low)

abbrev pub abx : Regs → Regs
abx r = record r { x = wrapped (r.x + r.b) }

abbrev pub daa : Regs → Regs
daa r =
    let f = flags_of r.cc in with_flags (record r { a = adjusted8 r.a f.h f.c }) (daa_flags r.a f)

abbrev pub mul : Regs → Regs
mul r = with_flags (with_d r (product r.a r.b)) (mul_flags r.a r.b (flags_of r.cc))

abbrev pub sex : Regs → Regs
sex r = with_flags (with_d r (extended r.b)) (sex_flags r.b (flags_of r.cc))

abbrev pub orcc : Regs → ℕ → Regs
orcc r bits = record r { cc = bit_or r.cc bits }

abbrev pub andcc : Regs → ℕ → Regs
andcc r bits = record r { cc = bit_and r.cc bits }
