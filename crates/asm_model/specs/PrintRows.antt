-- Instructions with the texts that an outside program prints for them.
use Rattle.std.specs.Prelude.{ℕ, Ok, Err, List, [], ◌∷◌, codes}
use Rattle.cpu_model.specs.Reading.{Reading, reading}
use Rattle.asm_model.specs.Print.{printed}

-- bytes at an offset, with the text of their instruction
pub record PrintRow : Type 0 where
  pub at : ℕ
  pub bytes : List ℕ
  pub text : List ℕ

abbrev printing : ℕ → List ℕ → List ℕ → PrintRow
printing at bytes text = record { at = at; bytes = bytes; text = text }

abbrev printed_reading : ℕ → Reading → List ℕ
printed_reading at (Ok found) = printed found.0 at
printed_reading at (Err fault) = []

-- the text of the instruction that the bytes of a row decode to
abbrev pub text_of_row : PrintRow → List ℕ
text_of_row r = printed_reading r.at (reading r.bytes)

abbrev pub print_rows : List PrintRow
print_rows =
    printing 0xE012 (0x00 ∷ 0x00 ∷ []) (codes "NEG <$00") ∷
    printing 0xE012 (0x40 ∷ []) (codes "NEGA") ∷
    printing 0xE012 (0x60 ∷ 0x00 ∷ []) (codes "NEG 0,X") ∷
    printing 0xE012 (0x60 ∷ 0x0F ∷ []) (codes "NEG 15,X") ∷
    printing 0xE012 (0x60 ∷ 0x10 ∷ []) (codes "NEG -16,X") ∷
    printing 0xE012 (0x60 ∷ 0x1F ∷ []) (codes "NEG -1,X") ∷
    printing 0xE012 (0x60 ∷ 0x80 ∷ []) (codes "NEG ,X+") ∷
    printing 0xE012 (0x60 ∷ 0x81 ∷ []) (codes "NEG ,X++") ∷
    printing 0xE012 (0x60 ∷ 0x82 ∷ []) (codes "NEG ,-X") ∷
    printing 0xE012 (0x60 ∷ 0x83 ∷ []) (codes "NEG ,--X") ∷
    printing 0xE012 (0x60 ∷ 0x84 ∷ []) (codes "NEG ,X") ∷
    printing 0xE012 (0x60 ∷ 0x85 ∷ []) (codes "NEG B,X") ∷
    printing 0xE012 (0x60 ∷ 0x86 ∷ []) (codes "NEG A,X") ∷
    printing 0xE012 (0x60 ∷ 0x88 ∷ 0x80 ∷ []) (codes "NEG <-$80,X") ∷
    printing 0xE012 (0x60 ∷ 0x89 ∷ 0xFF ∷ 0xFF ∷ []) (codes "NEG >$FFFF,X") ∷
    printing 0xE012 (0x60 ∷ 0x8B ∷ []) (codes "NEG D,X") ∷
    printing 0xFFFC (0x60 ∷ 0x8C ∷ 0x80 ∷ []) (codes "NEG <$FF7F,PCR") ∷
    printing 0xFFFF (0x60 ∷ 0x8D ∷ 0xFF ∷ 0xFF ∷ []) (codes "NEG $0002,PCR") ∷
    printing 0xE012 (0x60 ∷ 0x91 ∷ []) (codes "NEG [,X++]") ∷
    printing 0xE012 (0x60 ∷ 0x93 ∷ []) (codes "NEG [,--X]") ∷
    printing 0xE012 (0x60 ∷ 0x94 ∷ []) (codes "NEG [,X]") ∷
    printing 0xE012 (0x60 ∷ 0x95 ∷ []) (codes "NEG [B,X]") ∷
    printing 0xE012 (0x60 ∷ 0x96 ∷ []) (codes "NEG [A,X]") ∷
    printing 0xE012 (0x60 ∷ 0x98 ∷ 0x80 ∷ []) (codes "NEG [<-$80,X]") ∷
    printing 0xE012 (0x60 ∷ 0x99 ∷ 0xFF ∷ 0xFF ∷ []) (codes "NEG [>$FFFF,X]") ∷
    printing 0xE012 (0x60 ∷ 0x9B ∷ []) (codes "NEG [D,X]") ∷
    printing 0xE012 (0x60 ∷ 0x9C ∷ 0x80 ∷ []) (codes "NEG [<$DF95,PCR]") ∷
    printing 0xFFFF (0x60 ∷ 0x9D ∷ 0xFF ∷ 0xFF ∷ []) (codes "NEG [$0002,PCR]") ∷
    printing 0xE012 (0x60 ∷ 0x9F ∷ 0xFF ∷ 0xFF ∷ []) (codes "NEG [$FFFF]") ∷
    printing 0xE012 (0x70 ∷ 0x00 ∷ 0x00 ∷ []) (codes "NEG >$0000") ∷
    printing 0x7FF0 (0x16 ∷ 0x00 ∷ 0x00 ∷ []) (codes "LBRA $7FF3") ∷
    printing 0xE012 (0x1A ∷ 0x00 ∷ []) (codes "ORCC #$00") ∷
    printing 0xE012 (0x1E ∷ 0x00 ∷ []) (codes "EXG D,D") ∷
    printing 0x0000 (0x20 ∷ 0x00 ∷ []) (codes "BRA $0002") ∷
    printing 0xE012 (0x10 ∷ 0x21 ∷ 0x00 ∷ 0x00 ∷ []) (codes "LBRN $E016") ∷
    printing 0xE012 (0x34 ∷ 0x00 ∷ []) (codes "PSHS #$00") ∷
    printing 0xE012 (0x34 ∷ 0x01 ∷ []) (codes "PSHS CC") ∷
    printing 0xE012 (0x34 ∷ 0x03 ∷ []) (codes "PSHS CC,A") ∷
    printing 0xE012 (0x35 ∷ 0x01 ∷ []) (codes "PULS CC") ∷
    printing 0xE012 (0x35 ∷ 0x03 ∷ []) (codes "PULS CC,A") ∷
    printing 0xE012 (0xA6 ∷ 0x01 ∷ []) (codes "LDA 1,X") ∷
    printing 0xE012 (0xA6 ∷ 0x88 ∷ 0x00 ∷ []) (codes "LDA <$00,X") ∷
    printing 0xE012 (0xA6 ∷ 0x98 ∷ 0x00 ∷ []) (codes "LDA [<$00,X]") ∷
    printing 0xE012 (0x83 ∷ 0x00 ∷ 0x00 ∷ []) (codes "SUBD #$0000") ∷
    printing 0xE012 (0x10 ∷ 0x83 ∷ 0x00 ∷ 0x00 ∷ []) (codes "CMPD #$0000") ∷
    printing 0xE012 (0x11 ∷ 0x93 ∷ 0x00 ∷ []) (codes "CMPU <$00") ∷
    printing 0xE012 (0x10 ∷ 0x3F ∷ []) (codes "SWI2") ∷
    printing 0xE012 (0x11 ∷ 0x3F ∷ []) (codes "SWI3") ∷
    printing 0xE012 (0x1E ∷ 0x05 ∷ []) (codes "EXG D,PC") ∷
    printing 0xE012 (0x1F ∷ 0xAB ∷ []) (codes "TFR CC,DP") ∷
    printing 0xE012 (0x34 ∷ 0xFF ∷ []) (codes "PSHS CC,A,B,DP,X,Y,U,PC") ∷
    printing 0xE012 (0x35 ∷ 0x80 ∷ []) (codes "PULS PC") ∷
    printing 0xE012 (0x36 ∷ 0xFF ∷ []) (codes "PSHU CC,A,B,DP,X,Y,S,PC") ∷
    []
