-- Registers in hexadecimal digits, put piece by piece.
use Rattle.std.proofs.Common.{◌≡◌, ℕ, List, [], ◌++◌, codes, ap, ◌∙◌, append_assoc}
use Rattle.std.specs.Prelude.{OnOk, Result, Ok, Err}
use Rattle.os9_base.specs.declared.registers.Regs.{Regs}
use Rattle.asm_model.specs.Numbers.{four_digits, two_digits}
use Rattle.os9_debug.specs.Show.{regs_text}

-- the first five and the last four
abbrev pub first_text : (pc a b dp flags : List ℕ) → List ℕ
first_text pc a b dp flags =
    codes " pc " ++ (pc ++ (codes " a " ++ (a ++ (codes " b " ++ (b ++ (codes " dp " ++ (dp ++ (codes " cc " ++ (flags ++ [])))))))))

abbrev pub last_text : (x y u s : List ℕ) → List ℕ
last_text x y u s = codes " x " ++ (x ++ (codes " y " ++ (y ++ (codes " u " ++ (u ++ (codes " s " ++ (s ++ [])))))))

whole : (regs : Regs) (before pc a b dp flags x y u s : List ℕ) → pc ≡ four_digits regs.pc → a ≡ two_digits regs.a
    → b ≡ two_digits regs.b → dp ≡ two_digits regs.dp → flags ≡ two_digits regs.cc → x ≡ four_digits regs.x
    → y ≡ four_digits regs.y → u ≡ four_digits regs.u → s ≡ four_digits regs.s
    → (before ++ first_text pc a b dp flags) ++ last_text x y u s ≡ before ++ regs_text regs
whole regs before pc a b dp flags x y u s is_pc is_a is_b is_dp is_flags is_x is_y is_u is_s =
    rw (is_pc, is_a, is_b, is_dp, is_flags, is_x, is_y, is_u, is_s)
    (append_assoc before (first_text (four_digits regs.pc) (two_digits regs.a) (two_digits regs.b)
    (two_digits regs.dp) (two_digits regs.cc)) (last_text (four_digits regs.x) (four_digits regs.y)
    (four_digits regs.u) (four_digits regs.s)))

pub registers-put : {Value Error : Type 0} (answer : Result Value Error) (regs : Regs) (before mid now pc a b dp flags
    x y u s : List ℕ) → pc ≡ four_digits regs.pc → a ≡ two_digits regs.a → b ≡ two_digits regs.b
    → dp ≡ two_digits regs.dp → flags ≡ two_digits regs.cc → x ≡ four_digits regs.x → y ≡ four_digits regs.y
    → u ≡ four_digits regs.u → s ≡ four_digits regs.s → mid ≡ before ++ first_text pc a b dp flags
    → OnOk answer (now ≡ mid ++ last_text x y u s) → OnOk answer (now ≡ before ++ regs_text regs)
registers-put (Ok value) regs before mid now pc a b dp flags x y u s is_pc is_a is_b is_dp is_flags is_x is_y is_u is_s first last =
    last ∙ ap (λ list. list ++ last_text x y u s) first ∙ whole regs before pc a b dp flags x y u s is_pc is_a is_b is_dp is_flags is_x is_y is_u is_s
registers-put (Err error) regs before mid now pc a b dp flags x y u s is_pc is_a is_b is_dp is_flags is_x is_y is_u is_s first last = tt
