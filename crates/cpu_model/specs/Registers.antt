-- The registers by their names.
use Rattle.std.specs.Prelude.{ℕ, ◌+◌, ◌*◌, ◌/◌, ◌%◌, ◌==◌, if◌then◌else◌}
use Rattle.os9_base.specs.declared.registers.Regs.{Regs}
use Rattle.cpu_model.specs.declared.flags.Flags.{Flags}
use Rattle.cpu_model.specs.declared.rows.Accumulator.{Accumulator}
use Rattle.cpu_model.specs.declared.rows.Accumulator.TheVariants as acc
use Rattle.cpu_model.specs.declared.rows.WordRegister.{WordRegister}
use Rattle.cpu_model.specs.declared.rows.WordRegister.TheVariants as reg
use Rattle.cpu_model.specs.declared.rows.IndexRegister.{IndexRegister}
use Rattle.cpu_model.specs.declared.rows.IndexRegister.TheVariants as index
use Rattle.cpu_model.specs.declared.rows.Stack.{Stack}
use Rattle.cpu_model.specs.declared.rows.Stack.TheVariants.{System, User}
use Rattle.cpu_model.specs.declared.rows.Register.{Register}
use Rattle.cpu_model.specs.declared.rows.Register.TheVariants.{D, X, Y, U, S, Pc, A, B, Cc, Dp}
use Rattle.cpu_model.specs.Flags.{cc_with}

-- an address wrapped around: FFFF is followed by 0000
abbrev pub wrapped : ℕ → ℕ
wrapped address = address % 65536

-- D: A is its high byte, B its low one
abbrev pub d_of : Regs → ℕ
d_of r = r.a * 256 + r.b

abbrev pub with_d : Regs → ℕ → Regs
with_d r value = record r { a = value / 256; b = value % 256 }

abbrev pub accumulator : Regs → Accumulator → ℕ
accumulator r acc.A = r.a
accumulator r acc.B = r.b

abbrev pub with_accumulator : Regs → Accumulator → ℕ → Regs
with_accumulator r acc.A value = record r { a = value }
with_accumulator r acc.B value = record r { b = value }

abbrev pub word_register : Regs → WordRegister → ℕ
word_register r reg.D = d_of r
word_register r reg.X = r.x
word_register r reg.Y = r.y
word_register r reg.U = r.u
word_register r reg.S = r.s

abbrev pub with_word_register : Regs → WordRegister → ℕ → Regs
with_word_register r reg.D value = with_d r value
with_word_register r reg.X value = record r { x = value }
with_word_register r reg.Y value = record r { y = value }
with_word_register r reg.U value = record r { u = value }
with_word_register r reg.S value = record r { s = value }

abbrev pub index_register : Regs → IndexRegister → ℕ
index_register r index.X = r.x
index_register r index.Y = r.y
index_register r index.U = r.u
index_register r index.S = r.s

abbrev pub with_index_register : Regs → IndexRegister → ℕ → Regs
with_index_register r index.X value = record r { x = value }
with_index_register r index.Y value = record r { y = value }
with_index_register r index.U value = record r { u = value }
with_index_register r index.S value = record r { s = value }

abbrev pub stack_pointer : Regs → Stack → ℕ
stack_pointer r System = r.s
stack_pointer r User = r.u

abbrev pub with_stack_pointer : Regs → Stack → ℕ → Regs
with_stack_pointer r System value = record r { s = value }
with_stack_pointer r User value = record r { u = value }

abbrev pub with_flags : Regs → Flags → Regs
with_flags r f = record r { cc = cc_with f r.cc }

-- ---- the registers of EXG, TFR, pushes and pulls

-- the register of a code in the postbyte of EXG and TFR
abbrev pub register_coded : ℕ → Register
register_coded code =
    if code == 0 then D
    else (if code == 1 then X
    else (if code == 2 then Y
    else (if code == 3 then U
    else (if code == 4 then S
    else (if code == 5 then Pc
    else (if code == 8 then A
    else (if code == 9 then B
    else (if code == 10 then Cc
    else Dp))))))))

abbrev pub register : Regs → Register → ℕ
register r D = d_of r
register r X = r.x
register r Y = r.y
register r U = r.u
register r S = r.s
register r Pc = r.pc
register r A = r.a
register r B = r.b
register r Cc = r.cc
register r Dp = r.dp

-- a byte register gets the low byte
abbrev pub with_register : Regs → Register → ℕ → Regs
with_register r D value = with_d r value
with_register r X value = record r { x = value }
with_register r Y value = record r { y = value }
with_register r U value = record r { u = value }
with_register r S value = record r { s = value }
with_register r Pc value = record r { pc = value }
with_register r A value = record r { a = value % 256 }
with_register r B value = record r { b = value % 256 }
with_register r Cc value = record r { cc = value % 256 }
with_register r Dp value = record r { dp = value % 256 }

-- the pointer of the other stack, which a push or a pull may name
abbrev pub other_pointer : Stack → Register
other_pointer System = U
other_pointer User = S
