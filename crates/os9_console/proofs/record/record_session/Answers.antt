use Rattle.os9_console.proofs.RecordLemmas.{asked-at, recorded-so}
use Rattle.os9_console.proofs.record.record_session.Goals as goal

pub returns-in-Ended-clause-recorded : goal.returns-in-Ended-clause-recorded
returns-in-Ended-clause-recorded g c devices =
    recorded-so c.args.words.now c.args.typed.now c.args.end c.write_record.result _ _
    (asked-at c.args.words.now c.args.end c.in-Ended.is c.if-words.true) (c.write_record.ensures.recorded devices)
    (c.write_record.ensures.silent devices)
