use Rattle.std.proofs.Common.{ℕ, List, subst}
use Rattle.os9_words.specs.Lines.{cannot_write_file_line}
use Rattle.os9_words.specs.Streams.{WritesErr}
use Rattle.os9_console.proofs.session_report.report_session.Goals as goal

pub returns-in-Unwritten : goal.returns-in-Unwritten
returns-in-Unwritten g c =
    rw c.in-Unwritten.is (subst (λ (name : List ℕ). WritesErr g.H.Host (cannot_write_file_line name) c.report.result c.args.host.now c.report.new.host) c.name_in.ensures c.report.ensures)
