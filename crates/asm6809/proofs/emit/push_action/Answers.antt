-- The place has the offset of the statement.
use Rattle.asm6809.proofs.emit.push_action.Goals as goal

pub returns-in-Instruction : goal.returns-in-Instruction
returns-in-Instruction c = rw c.in-Instruction.is (rw c.requires at c.push_shape.ensures)

pub returns-in-WordList : goal.returns-in-WordList
returns-in-WordList c = rw c.in-WordList.is (rw c.requires at c.push_words.ensures)

pub returns-in-SystemCall : goal.returns-in-SystemCall
returns-in-SystemCall c =
    rw c.in-SystemCall.is (rw c.requires at (rw c.byte_at.ensures at c.push_texts-in-SystemCall.ensures))
