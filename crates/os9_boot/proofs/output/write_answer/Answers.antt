use Rattle.os9_boot.proofs.OutputLemmas.{answer-failed, answer-wanting, answer-written, get-file, noted-file, noted-wanting, noted-whole, outputs-get}
use Rattle.os9_boot.proofs.output.write_answer.Goals as goal

pub word-requires : goal.word-requires
word-requires g c = get-file c.args.vol.now c.requires.words c.requires.verb

pub returns-in-Ok-clause-wrote : goal.returns-in-Ok-clause-wrote
returns-in-Ok-clause-wrote g c devices image =
    answer-written c.args.vol.now c.word.result.now c.args.answer.now image _ _ c.requires.verb c.word.ensures _ (c.in-Ok.ensures.wrote devices)

pub returns-in-Err-Failed-clause-wrote : goal.returns-in-Err-Failed-clause-wrote
returns-in-Err-Failed-clause-wrote g c devices image =
    answer-failed c.args.vol.now c.word.result.now c.args.answer.now image _ _ c.requires.verb c.word.ensures (rw c.in-Err-Failed.field-0-is at (c.in-Err-Failed.ensures.wrote devices))

pub returns-in-Err-OutOfMemory-clause-wrote : goal.returns-in-Err-OutOfMemory-clause-wrote
returns-in-Err-OutOfMemory-clause-wrote g c devices image =
    answer-wanting c.args.vol.now c.word.result.now c.args.answer.now image _ _ c.requires.verb c.word.ensures (rw c.in-Err-OutOfMemory.field-0-is at (c.in-Err-OutOfMemory.ensures.wrote devices))

pub returns-in-Ok-clause-noted : goal.returns-in-Ok-clause-noted
returns-in-Ok-clause-noted g c =
    noted-whole c.args.vol.now c.word.result.now (outputs-get c.args.vol.now c.word.result.now c.word.ensures c.requires.verb) _ _ c.in-Ok.ensures.noted

pub returns-in-Err-Failed-clause-noted : goal.returns-in-Err-Failed-clause-noted
returns-in-Err-Failed-clause-noted g c =
    noted-file c.args.vol.now c.word.result.now (outputs-get c.args.vol.now c.word.result.now c.word.ensures c.requires.verb) _ _ (rw c.in-Err-Failed.field-0-is at c.in-Err-Failed.ensures.noted)

pub returns-in-Err-OutOfMemory-clause-noted : goal.returns-in-Err-OutOfMemory-clause-noted
returns-in-Err-OutOfMemory-clause-noted g c =
    noted-wanting c.args.vol.now c.word.result.now (outputs-get c.args.vol.now c.word.result.now c.word.ensures
    c.requires.verb) _ _ (rw c.in-Err-OutOfMemory.field-0-is at c.in-Err-OutOfMemory.ensures.noted)
