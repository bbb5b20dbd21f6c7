-- Sources with faults that an outside program finds, and an instruction.
use Rattle.std.specs.Prelude.{ℕ, Some, List, ◌++◌, codes}
use Rattle.cpu_model.specs.declared.instruction.Page.TheVariants.{Base}
use Rattle.cpu_model.specs.declared.instruction.Tail.TheVariants.{Byte}
use Rattle.cpu_model.specs.declared.instruction.Instr.{Instr}

abbrev pub leax : Instr
leax = record { page = Base; opcode = 0x30; post = Some 0x8C; tail = Byte 0x0D }

abbrev front : List ℕ
front = codes " mod SysGo,$11,$81,$c8\nstart leax <text,pcr\n ldy #80\n lda #1\n os9 $8c\n clrb\n"

abbrev back : List ℕ
back = codes " fcb $0d\n emod\n"

abbrev pub hello : List ℕ
hello = front ++ codes " os9 6\ntext fcc \"Hello\"\n" ++ back

abbrev pub hello_without_text : List ℕ
hello_without_text = front ++ codes " os9 6\n fcc \"Hello\"\n" ++ back

abbrev pub hello_with_256 : List ℕ
hello_with_256 = front ++ codes " ldb #256\n os9 6\ntext fcc \"Hello\"\n" ++ back

abbrev pub two_labels : List ℕ
two_labels = codes " mod a,$21,0,0\nl1 nop\nl1 nop\n emod\n"

abbrev pub two_starts : List ℕ
two_starts = codes " mod a,$21,0,0\n mod a,$21,0,0\n emod\n"

abbrev pub equal_to_label_below : List ℕ
equal_to_label_below = codes " mod a,$21,0,0\nl1 equ l2\nl2 equ 5\n emod\n"

-- lines that break several rules
abbrev pub twice_and_out : List ℕ
twice_and_out = codes " mod a,$21,0,0\nl1 nop\nl1 fcb 256\n emod\n"

abbrev pub unknown_twice_and_out : List ℕ
unknown_twice_and_out = codes " mod a,$21,0,0\nl1 nop\nl1 fcb 256,nolabel\n emod\n"
