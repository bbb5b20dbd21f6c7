-- The division is linear over exclusive or.
use Rattle.std.proofs.Common.{◌≡◌, ℕ, zero, suc, ◌+◌, ◌-◌, ◌*◌, ◌/◌, ◌%◌, ◌^◌, ◌<◌, ◌==◌, if◌then◌else◌, bit_and, bit_xor, List, [], ◌∷◌, ◌++◌, refl, sym, ap, add-zero, zero-add, zero-mul, lit<, true, map, replicate, get_or, false, ◌∙◌, arith}
use Rattle.std.specs.Int.Bits.{xor_assoc, xor_self, xor_add_and, xor_zero_r}
use Rattle.std.specs.Int.{bit_at}
use Rattle.std.proofs.lemmas.Nat.Bits.{bit_at-lt}
use Rattle.std.proofs.lemmas.Nat.{and_comm, and_mask, xor_comm, xor_lt, xor_shr, xor_mod, xor_block}
use Rattle.std.specs.List.{range_with_len, flat_map}
use Rattle.std.proofs.lemmas.Grind.{flat_map-append, fold-append}
use Rattle.std.proofs.lemmas.List.{get_or-replicate}
use Rattle.std.proofs.lemmas.List.FromFn.{get_or-map-range_with_len}
use Rattle.proc_model.specs.CrcModel.{polynomial, divided_once, divided, bits_of, crc_register}

-- the polynomial where the bits differ
abbrev pub subtracted : ℕ → ℕ
subtracted differ = if differ == 0 then 0 else polynomial

once_cases : (moved top bit : ℕ) → top < 2 → bit < 2 → (if top == bit then moved else bit_xor moved polynomial) ≡ bit_xor moved (subtracted (bit_xor top bit))
once_cases moved zero zero p q = sym (xor_zero_r moved)
once_cases moved zero (suc zero) p q = refl
once_cases moved (suc zero) zero p q = refl
once_cases moved (suc zero) (suc zero) p q = sym (xor_zero_r moved)
once_cases moved zero (suc (suc b)) p q = absurd (omega arith)
once_cases moved (suc zero) (suc (suc b)) p q = absurd (omega arith)
once_cases moved (suc (suc t)) b p q = absurd (omega arith)

-- one step as exclusive ors
pub divided_once_xor : (register bit : ℕ) → register < 2 ^ 24 → bit < 2 → divided_once register bit ≡ bit_xor (register * 2 % 2 ^ 24) (subtracted (bit_xor (register / 2 ^ 23) bit))
unfolding divided_once
divided_once_xor register bit p q = once_cases (register * 2 % 2 ^ 24) (register / 2 ^ 23) bit (omega arith) q

subtracted_xor : (a b : ℕ) → a < 2 → b < 2 → subtracted (bit_xor a b) ≡ bit_xor (subtracted a) (subtracted b)
subtracted_xor zero zero p q = refl
subtracted_xor zero (suc zero) p q = refl
subtracted_xor (suc zero) zero p q = refl
subtracted_xor (suc zero) (suc zero) p q = refl
subtracted_xor zero (suc (suc b)) p q = absurd (omega arith)
subtracted_xor (suc zero) (suc (suc b)) p q = absurd (omega arith)
subtracted_xor (suc (suc a)) b p q = absurd (omega arith)

-- the four parts of two exclusive ors change places
pub xor_middle : (a b c d : ℕ) → bit_xor (bit_xor a b) (bit_xor c d) ≡ bit_xor (bit_xor a c) (bit_xor b d)
xor_middle a b c d =
    xor_assoc a b (bit_xor c d)
    ∙ ap (bit_xor a) (sym (xor_assoc b c d) ∙ ap (λ (x : ℕ). bit_xor x d) (xor_comm b c) ∙ xor_assoc c b d)
    ∙ sym (xor_assoc a c (bit_xor b d))

double_xor : (a b : ℕ) → bit_xor a b * 2 % 2 ^ 24 ≡ bit_xor (a * 2 % 2 ^ 24) (b * 2 % 2 ^ 24)
double_xor a b =
    let e : bit_xor (a * 2 + 0) (b * 2 + 0) ≡ bit_xor a b * 2 + 0 = xor_block 1 a b 0 0 (omega arith) (omega arith) in
    ap (λ (x : ℕ). x % 2 ^ 24) (sym (simp add-zero at e)) ∙ xor_mod (a * 2) (b * 2) 24

subtracted_lt : (differ : ℕ) → subtracted differ < 2 ^ 24
subtracted_lt differ = elim (differ == 0) as (λ c. (if c then 0 else polynomial) < 2 ^ 24) [ true ↦ lit< tt | false ↦ lit< tt ]

-- the register keeps its 24 bits
pub divided_once_lt : (register bit : ℕ) → register < 2 ^ 24 → bit < 2 → divided_once register bit < 2 ^ 24
divided_once_lt register bit p q =
    rw (divided_once_xor register bit p q) (xor_lt 24 (register * 2 % 2 ^ 24) (subtracted (bit_xor (register / 2 ^ 23) bit)) (omega arith) (subtracted_lt (bit_xor (register / 2 ^ 23) bit)))

pub divided_once_linear : (a b x y : ℕ) → a < 2 ^ 24 → b < 2 ^ 24 → x < 2 → y < 2 → divided_once (bit_xor a b) (bit_xor x y) ≡ bit_xor (divided_once a x) (divided_once b y)
divided_once_linear a b x y a_fits b_fits x_bit y_bit =
    divided_once_xor (bit_xor a b) (bit_xor x y) (xor_lt 24 a b a_fits b_fits) (xor_lt 1 x y x_bit y_bit)
    ∙ ap (λ (m : ℕ). bit_xor m (subtracted (bit_xor (bit_xor a b / 2 ^ 23) (bit_xor x y)))) (double_xor a b)
    ∙ ap (λ (d : ℕ). bit_xor (bit_xor (a * 2 % 2 ^ 24) (b * 2 % 2 ^ 24)) (subtracted d))
    (ap (λ (t : ℕ). bit_xor t (bit_xor x y)) (xor_shr a b 23) ∙ xor_middle (a / 2 ^ 23) (b / 2 ^ 23) x y)
    ∙ ap (bit_xor (bit_xor (a * 2 % 2 ^ 24) (b * 2 % 2 ^ 24)))
    (subtracted_xor (bit_xor (a / 2 ^ 23) x) (bit_xor (b / 2 ^ 23) y) (xor_lt 1 (a / 2 ^ 23) x (omega arith) x_bit) (xor_lt 1 (b / 2 ^ 23) y (omega arith) y_bit))
    ∙ xor_middle (a * 2 % 2 ^ 24) (b * 2 % 2 ^ 24) (subtracted (bit_xor (a / 2 ^ 23) x)) (subtracted (bit_xor (b / 2 ^ 23) y))
    ∙ sym (ap (λ (m : ℕ). bit_xor m (divided_once b y)) (divided_once_xor a x a_fits x_bit) ∙ ap
    (bit_xor (bit_xor (a * 2 % 2 ^ 24) (subtracted (bit_xor (a / 2 ^ 23) x)))) (divided_once_xor b y b_fits
    y_bit))

-- two messages of equally many bits
abbrev pub AreBits : List ℕ → List ℕ → Type 0
AreBits [] [] = Unit {0}
AreBits [] (y ∷ ys) = ⊥
AreBits (x ∷ xs) [] = ⊥
AreBits (x ∷ xs) (y ∷ ys) = (x < 2) × (y < 2) × AreBits xs ys

-- their exclusive or, bit by bit
abbrev pub xor_bits : List ℕ → List ℕ → List ℕ
xor_bits [] ys = []
xor_bits (x ∷ xs) [] = []
xor_bits (x ∷ xs) (y ∷ ys) = bit_xor x y ∷ xor_bits xs ys

pub divided_linear : (a b : ℕ) (xs ys : List ℕ) → a < 2 ^ 24 → b < 2 ^ 24 → AreBits xs ys → divided (bit_xor a b) (xor_bits xs ys) ≡ bit_xor (divided a xs) (divided b ys)
divided_linear a b [] [] p q bits = refl
divided_linear a b [] (y ∷ ys) p q bits = absurd bits
divided_linear a b (x ∷ xs) [] p q bits = absurd bits
divided_linear a b (x ∷ xs) (y ∷ ys) p q bits =
    ap (λ (r : ℕ). divided r (xor_bits xs ys)) (divided_once_linear a b x y p q bits.0 bits.1)
    ∙ divided_linear (divided_once a x) (divided_once b y) xs ys (divided_once_lt a x p bits.0) (divided_once_lt b y q bits.1) bits.2

bit_at_exclusive : (a b k : ℕ) → bit_at (bit_xor a b) k ≡ bit_xor (bit_at a k) (bit_at b k)
bit_at_exclusive a b k = ap (λ (x : ℕ). x % 2) (xor_shr a b k) ∙ xor_mod (a / 2 ^ k) (b / 2 ^ k) 1

bits_of_xor : (a b : ℕ) → bits_of (bit_xor a b) ≡ xor_bits (bits_of a) (bits_of b)
bits_of_xor a b = simp bit_at_exclusive

are_bits : (a b : ℕ) → AreBits (bits_of a) (bits_of b)
are_bits a b = (
  bit_at-lt a 7,
  bit_at-lt b 7,
  (
    bit_at-lt a 6,
    bit_at-lt b 6,
    (
      bit_at-lt a 5,
      bit_at-lt b 5,
      (
        bit_at-lt a 4,
        bit_at-lt b 4,
        (bit_at-lt a 3, bit_at-lt b 3, (bit_at-lt a 2, bit_at-lt b 2, (bit_at-lt a 1, bit_at-lt b 1, (bit_at-lt a 0, bit_at-lt b 0, tt)))),
      ),
    ),
  ),
)

-- the division of a byte is linear
pub byte_linear : (a b x y : ℕ) → a < 2 ^ 24 → b < 2 ^ 24 → divided (bit_xor a b) (bits_of (bit_xor x y)) ≡ bit_xor (divided a (bits_of x)) (divided b (bits_of y))
byte_linear a b x y p q = ap (divided (bit_xor a b)) (bits_of_xor x y) ∙ divided_linear a b (bits_of x) (bits_of y) p q (are_bits x y)

-- the register keeps its 24 bits over bytes
pub byte_lt : (register byte : ℕ) → register < 2 ^ 24 → divided register (bits_of byte) < 2 ^ 24
byte_lt register byte p = bits_lt register (bits_of byte) (bits_of byte) p (are_bits byte byte)
  where
    bits_lt : (r : ℕ) (xs ys : List ℕ) → r < 2 ^ 24 → AreBits xs ys → divided r xs < 2 ^ 24
    bits_lt r [] ys p bits = p
    bits_lt r (x ∷ xs) [] p bits = absurd bits
    bits_lt r (x ∷ xs) (y ∷ ys) p bits = bits_lt (divided_once r x) xs ys (divided_once_lt r x p bits.0) bits.2

once_small : (register : ℕ) → register < 2 ^ 23 → divided_once register 0 ≡ register * 2
once_small register p =
    let top : register / 2 ^ 23 ≡ 0 = omega arith in
    divided_once_xor register 0 (omega arith) (omega arith)
    ∙ ap (λ (t : ℕ). bit_xor (register * 2 % 2 ^ 24) (subtracted (bit_xor t 0))) top
    ∙ xor_zero_r (register * 2 % 2 ^ 24)
    ∙ (let small : register * 2 % 2 ^ 24 ≡ register * 2 = omega arith in small)

-- zero bits move a register up whose high bits are clear
pub shifts : (register : ℕ) → register < 2 ^ 16 → divided register (bits_of 0) ≡ register * 256
shifts r p =
    ap (λ (x : ℕ). divided x (0 ∷ 0 ∷ 0 ∷ 0 ∷ 0 ∷ 0 ∷ 0 ∷ [])) (once_small r (omega arith))
    ∙ ap (λ (x : ℕ). divided x (0 ∷ 0 ∷ 0 ∷ 0 ∷ 0 ∷ 0 ∷ [])) (once_small (r * 2) (omega arith))
    ∙ ap (λ (x : ℕ). divided x (0 ∷ 0 ∷ 0 ∷ 0 ∷ 0 ∷ [])) (once_small (r * 2 * 2) (omega arith))
    ∙ ap (λ (x : ℕ). divided x (0 ∷ 0 ∷ 0 ∷ 0 ∷ [])) (once_small (r * 2 * 2 * 2) (omega arith))
    ∙ ap (λ (x : ℕ). divided x (0 ∷ 0 ∷ 0 ∷ [])) (once_small (r * 2 * 2 * 2 * 2) (omega arith))
    ∙ ap (λ (x : ℕ). divided x (0 ∷ 0 ∷ [])) (once_small (r * 2 * 2 * 2 * 2 * 2) (omega arith))
    ∙ ap (λ (x : ℕ). divided x (0 ∷ [])) (once_small (r * 2 * 2 * 2 * 2 * 2 * 2) (omega arith))
    ∙ once_small (r * 2 * 2 * 2 * 2 * 2 * 2 * 2) (omega arith)
    ∙ (let product : r * 2 * 2 * 2 * 2 * 2 * 2 * 2 * 2 ≡ r * 256 = omega arith in product)

all_vanish : map (λ (b : ℕ). divided (b * 65536) (bits_of b)) (range_with_len 0 256) ≡ replicate 256 0
unfolding divided_once
all_vanish = refl

-- a byte that meets itself at the register's top leaves nothing
pub vanishes : (byte : ℕ) → byte < 256 → divided (byte * 65536) (bits_of byte) ≡ 0
vanishes byte p =
    sym (get_or-map-range_with_len (λ (b : ℕ). divided (b * 65536) (bits_of b)) 0 256 byte byte 0 p (omega arith))
    ∙ ap (λ (xs : List ℕ). get_or xs byte 0) all_vanish
    ∙ get_or-replicate 256 byte 0 0 p

-- what eight zero bits leave of a byte at the register's top: the usual table of a CRC
abbrev pub table_word : ℕ → ℕ
table_word top = divided (top * 65536) (bits_of 0)

high_xor : (a b : ℕ) → bit_xor (a * 65536) (b * 65536) ≡ bit_xor a b * 65536
high_xor a b =
    let e : bit_xor (a * 65536 + 0) (b * 65536 + 0) ≡ bit_xor a b * 65536 + 0 = xor_block 16 a b 0 0 (omega arith) (omega arith) in
    simp add-zero at e

low_high : (low high : ℕ) → low < 2 ^ 16 → bit_xor low (high * 65536) ≡ high * 65536 + low
low_high low high p =
    let e : bit_xor (0 * 65536 + low) (high * 65536 + 0) ≡ bit_xor 0 high * 65536 + bit_xor low 0 = xor_block 16 0 high low 0 p (omega arith) in
    let f : bit_xor low (high * 65536) ≡ high * 65536 + bit_xor low 0 = simp (add-zero, zero-add, zero-mul) at e in
    f ∙ ap (λ (x : ℕ). high * 65536 + x) (xor_zero_r low)

-- a byte's division by one look at the table
pub byte_by_table : (register byte : ℕ) → register < 2 ^ 24 → byte < 256
    → divided register (bits_of byte) ≡ bit_xor (register * 256 % 2 ^ 24) (table_word (bit_xor (register / 65536) byte))
byte_by_table register byte p q =
    let high = register / 65536 in
    let low = register % 65536 in
    let top : ℕ = bit_xor high byte in
    let high_fits : high < 2 ^ 8 = omega arith in
    let cancelled : bit_xor top byte ≡ high = xor_assoc high byte byte ∙ ap (bit_xor high) (xor_self byte) ∙ xor_zero_r high in
    let parts : bit_xor low (bit_xor (top * 65536) (byte * 65536)) ≡ register =
    ap (bit_xor low) (high_xor top byte ∙ ap (λ (x : ℕ). x * 65536) cancelled) ∙ low_high low high (omega arith) ∙ (let whole : high * 65536 + low ≡ register = omega arith in whole)
    in
    let top_fits : top * 65536 < 2 ^ 24 = (let fits : top < 2 ^ 8 = xor_lt 8 high byte high_fits q in omega arith) in
    ap (λ (r : ℕ). divided r (bits_of byte)) (sym parts)
    ∙ byte_linear low (bit_xor (top * 65536) (byte * 65536)) 0 byte (omega arith) (xor_lt 24 (top * 65536) (byte * 65536) top_fits (omega arith))
    ∙ ap (λ (x : ℕ). bit_xor x (divided (bit_xor (top * 65536) (byte * 65536)) (bits_of byte))) (shifts low (omega arith) ∙ (let moved : low * 256 ≡ register * 256 % 2 ^ 24 = omega arith in moved))
    ∙ ap (bit_xor (register * 256 % 2 ^ 24))
    (byte_linear (top * 65536) (byte * 65536) 0 byte top_fits (omega arith) ∙ ap (bit_xor (table_word top)) (vanishes byte q) ∙ xor_zero_r (table_word top))

-- a division may be cut anywhere between two bytes
pub crc_register-append : (register : ℕ) (xs ys : List ℕ) → crc_register register (xs ++ ys) ≡ crc_register (crc_register register xs) ys
crc_register-append register xs ys =
    ap (divided register) (flat_map-append bits_of xs ys) ∙ fold-append divided_once register (flat_map bits_of xs) (flat_map bits_of ys)

pub crc_register_lt : (register : ℕ) (bytes : List ℕ) → register < 2 ^ 24 → crc_register register bytes < 2 ^ 24
crc_register_lt register [] p = p
crc_register_lt register (byte ∷ bytes) p = crc_register_lt (divided register (bits_of byte)) bytes (byte_lt register byte p)

-- a message that is the register's own bits leaves nothing of them but what lies below
own_byte : (register byte : ℕ) → byte < 256 → register / 65536 ≡ byte → divided register (bits_of byte) ≡ register % 65536 * 256
own_byte register byte q top =
    let low = register % 65536 in
    let parts : bit_xor low (byte * 65536) ≡ register = low_high low byte (omega arith) ∙ (let whole : byte * 65536 + low ≡ register = omega arith in whole) in
    ap (λ (r : ℕ). divided r (bits_of byte)) (sym parts)
    ∙ byte_linear low (byte * 65536) 0 byte (omega arith) (omega arith)
    ∙ ap (λ (x : ℕ). bit_xor x (divided (byte * 65536) (bits_of byte))) (shifts low (omega arith))
    ∙ ap (bit_xor (low * 256)) (vanishes byte q)
    ∙ xor_zero_r (low * 256)

apart : (a b byte : ℕ) → a < 2 ^ 24 → b < 2 ^ 24 → byte < 256 → b / 65536 ≡ byte
    → divided (bit_xor a b) (bits_of byte) ≡ bit_xor (divided a (bits_of 0)) (b % 65536 * 256)
apart a b byte p q r top = byte_linear a b 0 byte p q ∙ ap (bit_xor (divided a (bits_of 0))) (own_byte b byte r top)

complement : (c : ℕ) → c < 2 ^ 24 → bit_xor (2 ^ 24 - 1) c ≡ 2 ^ 24 - 1 - c
complement c p =
    let same : bit_and (2 ^ 24 - 1) c ≡ c = and_comm (2 ^ 24 - 1) c ∙ and_mask c 24 ∙ (let small : c % 2 ^ 24 ≡ c = omega arith in small) in
    omega (arith, same, xor_add_and (2 ^ 24 - 1) c)

three_zeros : divided (divided (divided 0xFFFFFF (bits_of 0)) (bits_of 0)) (bits_of 0) ≡ 0x800FE3
unfolding divided_once
three_zeros = refl

-- a register that meets its own complement holds 800FE3
pub residue : (register x y z : ℕ) → register < 2 ^ 24 → x < 256 → y < 256 → z < 256
    → x * 65536 + y * 256 + z ≡ 0xFFFFFF - register → crc_register register (x ∷ y ∷ z ∷ []) ≡ 0x800FE3
residue register x y z p x_fits y_fits z_fits own =
    let c = x * 65536 + y * 256 + z in
    let first : ℕ = divided 0xFFFFFF (bits_of 0) in
    let second : ℕ = divided first (bits_of 0) in
    let d = c % 65536 * 256 in
    let e = d % 65536 * 256 in
    let met : register ≡ bit_xor 0xFFFFFF c = omega (arith, complement c (omega arith)) in
    ap (λ (r : ℕ). divided (divided (divided r (bits_of x)) (bits_of y)) (bits_of z)) met
    ∙ ap (λ (r : ℕ). divided (divided r (bits_of y)) (bits_of z)) (apart 0xFFFFFF c x (lit< tt) (omega arith) x_fits (omega arith))
    ∙ ap (λ (r : ℕ). divided r (bits_of z)) (apart first d y (byte_lt 0xFFFFFF 0 (lit< tt)) (omega arith) y_fits (omega arith))
    ∙ apart second e z (byte_lt first 0 (byte_lt 0xFFFFFF 0 (lit< tt))) (omega arith) z_fits (omega arith)
    ∙ ap (bit_xor (divided second (bits_of 0))) (let gone : e % 65536 * 256 ≡ 0 = omega arith in gone)
    ∙ xor_zero_r (divided second (bits_of 0))
    ∙ three_zeros
