-- Lines with the bytes that an outside program makes from them.
use Rattle.std.specs.Prelude.{ℕ, Option, Some, None, option_map, List, [], ◌∷◌, codes}
use Rattle.cpu_table.specs.Spelling.{spelling}
use Rattle.asm_model.specs.Instructions.{instr_of}

-- a line at an offset, with the bytes of its instruction, if it is one
pub record ReadRow : Type 0 where
  pub at : ℕ
  pub line : List ℕ
  pub bytes : Option (List ℕ)

abbrev accepting : ℕ → List ℕ → List ℕ → ReadRow
accepting at line bytes = record { at = at; line = line; bytes = Some bytes }

abbrev refusing : ℕ → List ℕ → ReadRow
refusing at line = record { at = at; line = line; bytes = None }

-- the bytes of the instruction in the line of a row
abbrev pub bytes_of_row : ReadRow → Option (List ℕ)
bytes_of_row r = option_map spelling (instr_of r.line r.at)

abbrev pub read_rows : List ReadRow
read_rows =
    accepting 0x1000 (codes "lda  #5") (0x86 ∷ 0x05 ∷ []) ∷
    accepting 0x1000 (codes "lda #-128") (0x86 ∷ 0x80 ∷ []) ∷
    refusing 0x1000 (codes "lda #256") ∷
    accepting 0x1000 (codes "lda  <5") (0x96 ∷ 0x05 ∷ []) ∷
    refusing 0x1000 (codes "lDA  <256") ∷
    accepting 0x1000 (codes "LdA 5") (0xB6 ∷ 0x00 ∷ 0x05 ∷ []) ∷
    accepting 0x1000 (codes "lda  >5") (0xB6 ∷ 0x00 ∷ 0x05 ∷ []) ∷
    accepting 0x1000 (codes "lda -1") (0xB6 ∷ 0xFF ∷ 0xFF ∷ []) ∷
    accepting 0x1000 (codes "lda [5]") (0xA6 ∷ 0x9F ∷ 0x00 ∷ 0x05 ∷ []) ∷
    accepting 0x1000 (codes "LDA ,X") (0xA6 ∷ 0x84 ∷ []) ∷
    accepting 0x1000 (codes "LDA ,--x") (0xA6 ∷ 0x83 ∷ []) ∷
    accepting 0x1000 (codes "lda  [,y++]") (0xA6 ∷ 0xB1 ∷ []) ∷
    refusing 0x1000 (codes "lda [,x+]") ∷
    accepting 0x1000 (codes "lDA [D,y]") (0xA6 ∷ 0xBB ∷ []) ∷
    accepting 0x1000 (codes "lda  0,x") (0xA6 ∷ 0x00 ∷ []) ∷
    accepting 0x1000 (codes "LDa -16,u") (0xA6 ∷ 0x50 ∷ []) ∷
    accepting 0x1000 (codes "lDa 16,s") (0xA6 ∷ 0xE8 ∷ 0x10 ∷ []) ∷
    accepting 0x1000 (codes "LDA 128,s") (0xA6 ∷ 0xE9 ∷ 0x00 ∷ 0x80 ∷ []) ∷
    accepting 0x1000 (codes "LDA 1+1,x") (0xA6 ∷ 0x89 ∷ 0x00 ∷ 0x02 ∷ []) ∷
    accepting 0x1000 (codes "ldA [0,x]") (0xA6 ∷ 0x98 ∷ 0x00 ∷ []) ∷
    accepting 0x1000 (codes "ldA <-128,y") (0xA6 ∷ 0xA8 ∷ 0x80 ∷ []) ∷
    refusing 0x1000 (codes "Lda  <128,x") ∷
    accepting 0x1000 (codes "lda  >5,x") (0xA6 ∷ 0x89 ∷ 0x00 ∷ 0x05 ∷ []) ∷
    accepting 0x1000 (codes "LdA  [>5,s]") (0xA6 ∷ 0xF9 ∷ 0x00 ∷ 0x05 ∷ []) ∷
    accepting 0x1000 (codes "LDA  $1234,pcr") (0xA6 ∷ 0x8D ∷ 0x02 ∷ 0x30 ∷ []) ∷
    accepting 0x1000 (codes "Lda <$1040,PCR") (0xA6 ∷ 0x8C ∷ 0x3D ∷ []) ∷
    refusing 0x1000 (codes "lda <$1200,pcr") ∷
    accepting 0x1000 (codes "LDA [$1234,Pcr]") (0xA6 ∷ 0x9D ∷ 0x02 ∷ 0x30 ∷ []) ∷
    refusing 0x1000 (codes "LDA A,B") ∷
    refusing 0x1000 (codes "Lda  x") ∷
    refusing 0x1000 (codes "lda  lab") ∷
    refusing 0x1000 (codes "lda  *") ∷
    refusing 0x1000 (codes "LDa 5,z") ∷
    refusing 0x1000 (codes "lda [5") ∷
    refusing 0x1000 (codes "lda 5,pc") ∷
    accepting 0x1000 (codes "pshs cc,a,b,dp,x,y,u,pc") (0x34 ∷ 0xFF ∷ []) ∷
    accepting 0x1000 (codes "PshS #$ff") (0x34 ∷ 0xFF ∷ []) ∷
    refusing 0x1000 (codes "pshs s") ∷
    refusing 0x1000 (codes "PSHS d,u") ∷
    accepting 0x1000 (codes "EXG a,dp") (0x1E ∷ 0x8B ∷ []) ∷
    refusing 0x1000 (codes "EXG a,x") ∷
    refusing 0x1000 (codes "exg A,B,x") ∷
    accepting 0x1000 (codes "bsr $1080") (0x8D ∷ 0x7E ∷ []) ∷
    refusing 0x1000 (codes "bsr  $1082") ∷
    refusing 0x1000 (codes "LEAX #5") ∷
    accepting 0x0000 (codes "bra -1") (0x20 ∷ 0xFD ∷ []) ∷
    accepting 0x0000 (codes "lbra $ffff") (0x16 ∷ 0xFF ∷ 0xFC ∷ []) ∷
    accepting 0x0000 (codes "ldx #65535+65535-65535") (0x8E ∷ 0xFF ∷ 0xFF ∷ []) ∷
    refusing 0x0000 (codes "lda #$000ff") ∷
    accepting 0x0000 (codes "swi2") (0x10 ∷ 0x3F ∷ []) ∷
    refusing 0x0000 (codes "lbhs 5") ∷
    refusing 0x0000 (codes "ld a") ∷
    refusing 0x0000 (codes " nop") ∷
    refusing 0x0000 (codes "lab nop") ∷
    refusing 0x0000 (codes "fcb 5") ∷
    accepting 0x0000 (codes "lda -0,x") (0xA6 ∷ 0x00 ∷ []) ∷
    []
