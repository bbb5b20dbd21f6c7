use Rattle.os9_boot.proofs.BootCallLemmas.{command-reported, err-only, reported}
use Rattle.os9_boot.proofs.top.do_command.Goals as goal

pub returns-clause-call : goal.returns-clause-call
returns-clause-call g c =
    command-reported c.args.command.now _ _ _ _ _ _ _ _ (err-only g.H.Host _ _ _ c.report_end.ensures.others)
    c.number.ensures c.perform-end.ensures.call c.perform-end.ensures.noted
    (reported g.H.Host _ _ _ _ c.report_end.ensures)
