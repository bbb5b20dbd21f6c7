-- The words of the MC6809's instructions (programming manual, appendix A).
use Rattle.std.specs.Prelude.{ℕ, List, [], ◌++◌, codes}
use Rattle.cpu_model.specs.declared.rows.Row.{Row}
use Rattle.cpu_model.specs.declared.rows.Operation.{Operation}
use Rattle.cpu_model.specs.declared.rows.Operation.TheVariants.{Abx, Andcc, Binary, Branch, Bsr, Cwai, Daa, Exg, Jmp, Jsr, Lea, Mul, Nop, Orcc, Psh, Pul, Rti, Rts, Sex, Store, StoreWord, Swi, Swi2, Swi3, Sync, Tfr, Unary, UnaryOn, Word}
use Rattle.cpu_model.specs.declared.rows.Mode.{Mode}
use Rattle.cpu_model.specs.declared.rows.Mode.TheVariants.{Relative16}
use Rattle.cpu_model.specs.declared.rows.Condition.{Condition}
use Rattle.cpu_model.specs.declared.rows.Condition.TheVariants.{Always, Never, Higher, LowerOrSame, CarryClear, CarrySet, NotEqual, Equal, OverflowClear, OverflowSet, Plus, Minus, GreaterOrEqual, Less, Greater, LessOrEqual}
use Rattle.cpu_model.specs.declared.rows.Stack.{Stack}
use Rattle.cpu_model.specs.declared.rows.Stack.TheVariants.{System, User}
use Rattle.cpu_model.specs.declared.rows.Unary.{Unary as UnaryKind}
use Rattle.cpu_model.specs.declared.rows.Unary.TheVariants as unary
use Rattle.cpu_model.specs.declared.rows.Binary.{Binary as BinaryKind}
use Rattle.cpu_model.specs.declared.rows.Binary.TheVariants as binary
use Rattle.cpu_model.specs.declared.rows.WordBinary.{WordBinary}
use Rattle.cpu_model.specs.declared.rows.WordBinary.TheVariants as word
use Rattle.cpu_model.specs.declared.rows.Accumulator.{Accumulator}
use Rattle.cpu_model.specs.declared.rows.Accumulator.TheVariants as acc
use Rattle.cpu_model.specs.declared.rows.WordRegister.{WordRegister}
use Rattle.cpu_model.specs.declared.rows.WordRegister.TheVariants as reg
use Rattle.cpu_model.specs.declared.rows.IndexRegister.{IndexRegister}
use Rattle.cpu_model.specs.declared.rows.IndexRegister.TheVariants as index

abbrev pub unary_word : UnaryKind → List ℕ
unary_word unary.Neg = codes "NEG"
unary_word unary.Com = codes "COM"
unary_word unary.Lsr = codes "LSR"
unary_word unary.Ror = codes "ROR"
unary_word unary.Asr = codes "ASR"
unary_word unary.Asl = codes "ASL"
unary_word unary.Rol = codes "ROL"
unary_word unary.Dec = codes "DEC"
unary_word unary.Inc = codes "INC"
unary_word unary.Tst = codes "TST"
unary_word unary.Clr = codes "CLR"

abbrev pub binary_word : BinaryKind → List ℕ
binary_word binary.Sub = codes "SUB"
binary_word binary.Cmp = codes "CMP"
binary_word binary.Sbc = codes "SBC"
binary_word binary.And = codes "AND"
binary_word binary.Bit = codes "BIT"
binary_word binary.Ld = codes "LD"
binary_word binary.Eor = codes "EOR"
binary_word binary.Adc = codes "ADC"
binary_word binary.Or = codes "OR"
binary_word binary.Add = codes "ADD"

abbrev pub word_binary_word : WordBinary → List ℕ
word_binary_word word.Sub = codes "SUB"
word_binary_word word.Cmp = codes "CMP"
word_binary_word word.Add = codes "ADD"
word_binary_word word.Ld = codes "LD"

abbrev pub condition_word : Condition → List ℕ
condition_word Always = codes "RA"
condition_word Never = codes "RN"
condition_word Higher = codes "HI"
condition_word LowerOrSame = codes "LS"
condition_word CarryClear = codes "CC"
condition_word CarrySet = codes "CS"
condition_word NotEqual = codes "NE"
condition_word Equal = codes "EQ"
condition_word OverflowClear = codes "VC"
condition_word OverflowSet = codes "VS"
condition_word Plus = codes "PL"
condition_word Minus = codes "MI"
condition_word GreaterOrEqual = codes "GE"
condition_word Less = codes "LT"
condition_word Greater = codes "GT"
condition_word LessOrEqual = codes "LE"

abbrev pub accumulator_word : Accumulator → List ℕ
accumulator_word acc.A = codes "A"
accumulator_word acc.B = codes "B"

abbrev pub word_register_word : WordRegister → List ℕ
word_register_word reg.D = codes "D"
word_register_word reg.X = codes "X"
word_register_word reg.Y = codes "Y"
word_register_word reg.U = codes "U"
word_register_word reg.S = codes "S"

abbrev pub index_register_word : IndexRegister → List ℕ
index_register_word index.X = codes "X"
index_register_word index.Y = codes "Y"
index_register_word index.U = codes "U"
index_register_word index.S = codes "S"

abbrev pub stack_word : Stack → List ℕ
stack_word System = codes "S"
stack_word User = codes "U"

abbrev pub operation_word : Operation → List ℕ
operation_word (Unary u) = unary_word u
operation_word (UnaryOn u a) = unary_word u ++ accumulator_word a
operation_word (Binary b a) = binary_word b ++ accumulator_word a
operation_word (Word w r) = word_binary_word w ++ word_register_word r
operation_word (Store a) = codes "ST" ++ accumulator_word a
operation_word (StoreWord r) = codes "ST" ++ word_register_word r
operation_word Jmp = codes "JMP"
operation_word Jsr = codes "JSR"
operation_word (Branch c) = codes "B" ++ condition_word c
operation_word Bsr = codes "BSR"
operation_word (Lea r) = codes "LEA" ++ index_register_word r
operation_word (Psh s) = codes "PSH" ++ stack_word s
operation_word (Pul s) = codes "PUL" ++ stack_word s
operation_word Exg = codes "EXG"
operation_word Tfr = codes "TFR"
operation_word Orcc = codes "ORCC"
operation_word Andcc = codes "ANDCC"
operation_word Abx = codes "ABX"
operation_word Daa = codes "DAA"
operation_word Mul = codes "MUL"
operation_word Sex = codes "SEX"
operation_word Nop = codes "NOP"
operation_word Rts = codes "RTS"
operation_word Rti = codes "RTI"
operation_word Swi = codes "SWI"
operation_word Swi2 = codes "SWI2"
operation_word Swi3 = codes "SWI3"
operation_word Sync = codes "SYNC"
operation_word Cwai = codes "CWAI"

-- branches with a word as their offset are long
abbrev pub long_mark : Mode → List ℕ
long_mark Relative16 = codes "L"
long_mark _ = []

-- the word of a row of the opcode map
abbrev pub row_word : Row → List ℕ
row_word r = long_mark r.1 ++ operation_word r.0
