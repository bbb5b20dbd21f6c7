-- The way leads to a file, whose descriptor is read.
use Rattle.std.proofs.Common.{ℕ, refl}
use Rattle.std.proofs.lemmas.Result.{err_from_is_err_and}
use Rattle.rbf_sector.specs.declared.fd.Fd.{Fd}
use Rattle.rbf_walk.proofs.Stepping.{file_in}
use Rattle.vol_tools.specs.declared.opening.Opened.{Opened}
use Rattle.vol_tools.proofs.Counts.{file_ends_then, done_then, same_faults}
use Rattle.vol_tools.proofs.Opened.{way-stops, fault-opens, closed, opened, has_opened}
use Rattle.vol_tools.proofs.Ways.{still}
use Rattle.vol_tools.proofs.opening.open_file.Goals as goal

pub returns-in_err-number-clause-answer : goal.returns-in_err-number-clause-answer
returns-in_err-number-clause-answer g c v on =
    let p = err_from_is_err_and c.from_residual.result c.from_residual.ensures.1 in
    rw (p.1, p.2) (way-stops v c.args.names.now c.args.kind c.in_err-number.field-0.0 (c.in_err-number.ensures.answer v on))

pub returns-in_err-file-clause-answer : goal.returns-in_err-file-clause-answer
returns-in_err-file-clause-answer g c v on =
    let p = err_from_is_err_and c.from_residual-in_err-file.result c.from_residual-in_err-file.ensures.1 in
    rw (p.1, p.2) (fault-opens Fd v c.args.names.now c.args.kind c.in_err-file.field-0.0 c.in_err-file.ensures.device)

pub returns-in_err-file-clause-fault : goal.returns-in_err-file-clause-fault
returns-in_err-file-clause-fault g c =
    let p = err_from_is_err_and c.from_residual-in_err-file.result c.from_residual-in_err-file.ensures.1 in
    rw (p.1, p.2) (file_ends_then Opened Fd c.in_err-file.field-0.0 _ _ _ _ c.in_ok-number.ensures.fault c.in_err-file.ensures.counts)

pub returns-then-not-is_readable-clause-answer : goal.returns-then-not-is_readable-clause-answer
returns-then-not-is_readable-clause-answer g c v on =
    let there = file_in _ c.in_ok-number.number c.in_ok-number.ensures.file v on in
    closed v c.args.names.now c.args.kind c.in_ok-number.number _ (c.in_ok-number.ensures.answer v on) there c.in_ok-file.file
    (c.in_ok-file.ensures.ok v _ (still _ _ v c.in_ok-number.ensures.media_kept on) there) c.is_readable.result c.is_readable.ensures c.if-not-is_readable.true

pub returns-then-not-is_readable-clause-fault : goal.returns-then-not-is_readable-clause-fault
returns-then-not-is_readable-clause-fault g c = done_then _ _ _ _ c.in_ok-number.ensures.fault c.in_ok-file.ensures.counts

pub returns-clause-answer : goal.returns-clause-answer
returns-clause-answer g c v on =
    let there = file_in _ c.in_ok-number.number c.in_ok-number.ensures.file v on in
    opened v c.args.names.now c.args.kind c.in_ok-number.number _ (c.in_ok-number.ensures.answer v on) there c.in_ok-file.file
    (c.in_ok-file.ensures.ok v _ (still _ _ v c.in_ok-number.ensures.media_kept on) there) c.is_readable.result c.is_readable.ensures c.if-not-is_readable.false _ refl refl

pub returns-clause-file : goal.returns-clause-file
returns-clause-file g c =
    has_opened _ c.in_ok-number.number c.in_ok-number.ensures.file c.in_ok-file.file (λ v f on is. c.in_ok-file.ensures.ok v f (still _ _ v c.in_ok-number.ensures.media_kept on) is) _ refl refl

pub returns-clause-fault : goal.returns-clause-fault
returns-clause-fault g c = done_then _ _ _ _ c.in_ok-number.ensures.fault c.in_ok-file.ensures.counts

pub returns-in_err-number-clause-fault : goal.returns-in_err-number-clause-fault
returns-in_err-number-clause-fault g c =
    let p = err_from_is_err_and c.from_residual.result c.from_residual.ensures.1 in
    rw (p.1, p.2) (same_faults ℕ Opened c.in_err-number.field-0.0 _ _ c.in_err-number.ensures.fault)
