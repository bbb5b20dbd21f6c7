use Rattle.file_io.proofs.EndingLemmas.{moved-on, still-there}
use Rattle.file_io.proofs.ends.answer_at.Goals as goal

pub set_position-requires : goal.set_position-requires
set_position-requires c = still-there c.args.machine.now.files.io c.answer-end.new.io c.args.by.p.0 c.args.opened.now c.answer-end.ensures.io c.requires.path

pub returns-clause-io : goal.returns-clause-io
returns-clause-io c =
    moved-on c.args.machine.now.files.io c.answer-end.new.io c.args.by.p.0 c.args.opened.now c.answer-end.ensures.io c.requires.path c.set_position.new.self c.args.at
    c.set_position.ensures
