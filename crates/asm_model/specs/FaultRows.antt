-- Sources of one line between others, with the faults that an outside program finds.
use Rattle.std.specs.Prelude.{ℕ, Option, Some, None, option_map, List, [], ◌∷◌, ◌++◌, codes}
use Rattle.asm_model.specs.declared.error.AsmError.{AsmError}
use Rattle.asm_model.specs.declared.error.AsmError.TheVariants.{Syntax, UnknownName, Range}
use Rattle.asm_model.specs.Placement.{SourceFault, fault_on, source_fault}

-- a line, with the rule that it breaks as the fourth line of a module
pub record FaultRow : Type 0 where
  pub line : List ℕ
  pub error : Option AsmError

abbrev breaking : AsmError → List ℕ → FaultRow
breaking error line = record { line = line; error = Some error }

abbrev sound : List ℕ → FaultRow
sound line = record { line = line; error = None }

abbrev module_with : List ℕ → List ℕ
module_with line = codes " mod Q,$11,$81,0\nstart nop\nhere nop\n" ++ (line ++ codes "\n emod\n")

-- the fault of a module with the line of a row
abbrev pub fault_of_row : FaultRow → Option SourceFault
fault_of_row r = source_fault (module_with r.line)

abbrev pub expected_fault : FaultRow → Option SourceFault
expected_fault r = option_map (fault_on 4) r.error

abbrev pub fault_rows : List FaultRow
fault_rows =
    breaking Syntax (codes " ") ∷
    breaking Range (codes " bra *+130") ∷
    breaking UnknownName (codes " bra nolabel") ∷
    breaking Syntax (codes " equ 5") ∷
    breaking Syntax (codes " exg d,a") ∷
    breaking Syntax (codes " fcb \"a\"") ∷
    breaking Syntax (codes " fcb 1,") ∷
    breaking Syntax (codes " fcb 1, 2") ∷
    breaking Range (codes " fcb 256") ∷
    breaking UnknownName (codes " fcb nolabel") ∷
    breaking Syntax (codes " fcc \"a\"b") ∷
    breaking Syntax (codes " fcc \"abc") ∷
    breaking Range (codes " fdb 65535+1") ∷
    breaking Syntax (codes " foo 5") ∷
    breaking Syntax (codes " jmp #5") ∷
    breaking Syntax (codes " lda #") ∷
    breaking Syntax (codes " lda #$") ∷
    breaking Syntax (codes " lda #$12345") ∷
    breaking Syntax (codes " lda #+5") ∷
    breaking Syntax (codes " lda #--5") ∷
    breaking Syntax (codes " lda #5\r") ∷
    breaking Syntax (codes " lda #5+") ∷
    breaking Syntax (codes " lda #65536") ∷
    breaking Syntax (codes " lda #a") ∷
    breaking Syntax (codes " lda #abcdefghijklmnopqrstuvwxyz_1234") ∷
    breaking Syntax (codes " lda #x") ∷
    breaking Syntax (codes " lda 5,pc") ∷
    breaking Range (codes " lda <-1") ∷
    breaking Range (codes " lda <128,x") ∷
    breaking Range (codes " lda >65535+1") ∷
    breaking Syntax (codes " lda [,x+]") ∷
    breaking Syntax (codes " lda [5") ∷
    breaking Syntax (codes " lda [<5]") ∷
    breaking Syntax (codes " lda []") ∷
    breaking Syntax (codes " leax 5") ∷
    breaking Range (codes " leax <*+131,pcr") ∷
    breaking Syntax (codes " mod a,*,0,0") ∷
    breaking Syntax (codes " mod a-b,$11,0,0") ∷
    breaking Syntax (codes " mod abcdefghijklmnopqrstuvwxyz0123,$11,0,0") ∷
    breaking Syntax (codes " nop a comment\t") ∷
    breaking Syntax (codes " os9 #5") ∷
    breaking Syntax (codes " pshs d") ∷
    breaking Syntax (codes " puls") ∷
    breaking Syntax (codes " tfr a,x") ∷
    breaking Syntax (codes "* a\tcomment") ∷
    breaking Syntax (codes "9x nop") ∷
    breaking Syntax (codes "a nop") ∷
    breaking Syntax (codes "abcdefghijklmnopqrstuvwxyz_123 nop") ∷
    breaking Syntax (codes "abcdefghijklmnopqrstuvwxyz_1234 nop") ∷
    breaking UnknownName (codes "e1 equ nolabel") ∷
    breaking UnknownName (codes "e2 equ e2") ∷
    breaking Range (codes "e3 equ 65535+1") ∷
    breaking Range (codes "e5 equ *-65535") ∷
    sound (codes "pcr nop extra") ∷
    sound (codes "e6 equ -32768") ∷
    sound (codes " lda #-128") ∷
    sound (codes " lda #255") ∷
    sound (codes " lda <0") ∷
    sound (codes " ldb -129,x") ∷
    sound (codes " ldb 128,pcr") ∷
    sound (codes " bra *-126") ∷
    sound (codes " bra *+129") ∷
    []
