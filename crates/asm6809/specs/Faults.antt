-- Answers with a line, and the numbers of errors.
use Rattle.std.specs.Prelude.{ℕ, Result, Ok, Err}
use Rattle.asm_model.specs.declared.error.AsmError.{AsmError}
use Rattle.asm_model.specs.declared.error.AsmError.TheVariants.{Syntax, UnknownName, Twice, Range, NoModule}
use Rattle.asm6809.specs.declared.assembler.AsmFault.{AsmFault}
use Rattle.asm6809.specs.declared.assembler.AsmFault.TheVariants.{Line, OutOfMemory}

-- a fact of the line and the rule that an answer names, if it names one
abbrev pub OnAsmError : {T : Type 0} → Result T AsmFault → (ℕ → AsmError → Type 0) → Type 0
OnAsmError (Ok value) P = Unit {0}
OnAsmError (Err (Line line error)) P = P line error
OnAsmError (Err OutOfMemory) P = Unit {0}

-- the number of an error, which its message reports
abbrev pub error_number : AsmError → ℕ
error_number Syntax = 1
error_number UnknownName = 2
error_number Twice = 3
error_number Range = 4
error_number NoModule = 5
