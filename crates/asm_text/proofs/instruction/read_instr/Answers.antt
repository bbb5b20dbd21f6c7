use Rattle.std.proofs.Common.{◌≡◌, ℕ, Option, Some, None, List, sym, ap, ◌∙◌}
use Rattle.std.specs.Prelude.{IfSome}
use Rattle.cpu_model.specs.declared.instruction.Instr.{Instr}
use Rattle.cpu_table.specs.Spelling.{IsPlainInstr}
use Rattle.asm_model.specs.Instructions.{instr_of}
use Rattle.asm_model.proofs.Printed.{printed_back}
use Rattle.asm_model.proofs.ReadPlain.{instr_plain}
use Rattle.asm_text.proofs.instruction.read_instr.Goals as goal

plain-if-read : (line : List ℕ) (at : ℕ) (o : Option Instr) → o ≡ instr_of line at → IfSome o IsPlainInstr
plain-if-read line at None is = tt
plain-if-read line at (Some i) is = instr_plain line at i (sym is)

pub returns-clause-read_again : goal.returns-clause-read_again
returns-clause-read_again c =
    λ i plainly bytes is. c.read_line.ensures ∙ ap (λ line. instr_of line c.args.at) is ∙ printed_back i c.args.at plainly bytes.post bytes.tail

pub returns-clause-plain : goal.returns-clause-plain
returns-clause-plain c = plain-if-read c.args.line.now c.args.at _ c.read_line.ensures
