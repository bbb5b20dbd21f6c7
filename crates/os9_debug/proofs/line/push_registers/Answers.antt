use Rattle.os9_debug.proofs.Registers.{registers-put}
use Rattle.os9_debug.proofs.line.push_registers.Goals as goal

pub returns : goal.returns
returns c =
    registers-put c.push_pieces-2.result c.args.regs.now _ _ _ _ _ _ _ _ _ _ _ _ c.four_digits.ensures
    c.two_digits.ensures c.two_digits-2.ensures c.two_digits-3.ensures c.two_digits-4.ensures
    c.four_digits-2.ensures c.four_digits-3.ensures c.four_digits-4.ensures c.four_digits-5.ensures
    c.in_ok-push_pieces.ensures c.push_pieces-2.ensures
