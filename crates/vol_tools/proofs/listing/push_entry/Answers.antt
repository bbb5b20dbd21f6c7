-- The file that the entry names gives its line.
use Rattle.std.proofs.Common.{sym, ◌∙◌}
use Rattle.std.proofs.lemmas.Result.{err_from_is_err_and}
use Rattle.rbf_sector.specs.declared.fd.Fd.{Fd}
use Rattle.vol_tools.proofs.Counts.{file_ends, faults_of, no_faults}
use Rattle.vol_tools.proofs.Lines.{named_file, unused_line, used_line}
use Rattle.vol_tools.proofs.Opened.{fault-bytes}
use Rattle.vol_tools.proofs.listing.push_entry.Goals as goal

pub returns-then-not-is_used-clause-line : goal.returns-then-not-is_used-clause-line
returns-then-not-is_used-clause-line g c v on = unused_line v c.args.entry.now c.args.lines.now.items (sym c.is_used.ensures ∙ c.if-not-is_used.true)

pub returns-then-not-is_used-clause-fault : goal.returns-then-not-is_used-clause-fault
returns-then-not-is_used-clause-fault g c = no_faults _

pub fd-requires-clause-file : goal.fd-requires-clause-file
fd-requires-clause-file g c = named_file _ c.args.entry.now c.read_entry.result.lsn c.requires.file (sym c.is_used.ensures ∙ c.if-not-is_used.false) c.read_entry.ensures.lsn

pub returns-in_err-file-clause-line : goal.returns-in_err-file-clause-line
returns-in_err-file-clause-line g c v on =
    let p = err_from_is_err_and c.from_residual.result c.from_residual.ensures.1 in
    rw (p.1, p.2) (fault-bytes Fd (Unit {0}) (λ _. Unit {0}) c.in_err-file.field-0.0 c.in_err-file.ensures.device)

pub returns-in_err-file-clause-fault : goal.returns-in_err-file-clause-fault
returns-in_err-file-clause-fault g c =
    let p = err_from_is_err_and c.from_residual.result c.from_residual.ensures.1 in
    rw (p.1, p.2) (file_ends (Unit {0}) Fd c.in_err-file.field-0.0 _ _ _ c.in_err-file.ensures.counts)

pub returns-clause-line : goal.returns-clause-line
returns-clause-line g c v on =
    let used = sym c.is_used.ensures ∙ c.if-not-is_used.false in
    used_line _ v on c.args.entry.now c.args.lines.now.items _ (c.requires.file used) c.in_ok-file.file
    c.read_entry.result.lsn used c.read_entry.ensures.lsn c.in_ok-file.ensures.ok c.in_ok-push_line.ensures
