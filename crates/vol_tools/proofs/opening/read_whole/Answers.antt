-- One read fills as many bytes as the file has.
use Rattle.std.proofs.Common.{ℕ, refl, arith}
use Rattle.std.proofs.lemmas.Result.{err_from_is_err_and}
use Rattle.vol_tools.proofs.Counts.{file_ends, faults_of, no_faults}
use Rattle.vol_tools.proofs.Opened.{fault-bytes, file_opened, same_contents, whole_read}
use Rattle.vol_tools.proofs.opening.read_whole.Goals as goal

pub returns-in_err-bytes-clause-bytes : goal.returns-in_err-bytes-clause-bytes
returns-in_err-bytes-clause-bytes g c v f on is =
    let p = err_from_is_err_and c.from_residual.result c.from_residual.ensures.1 in
    rw (p.1, p.2) tt

pub returns-in_err-bytes-clause-fault : goal.returns-in_err-bytes-clause-fault
returns-in_err-bytes-clause-fault g c =
    let p = err_from_is_err_and c.from_residual.result c.from_residual.ensures.1 in
    rw (p.1, p.2) (no_faults _)

pub read_at-requires-clause-file : goal.read_at-requires-clause-file
read_at-requires-clause-file g c = file_opened _ _ c.args.opened.now refl c.requires.opened

pub returns-in_err-read_at-clause-bytes : goal.returns-in_err-read_at-clause-bytes
returns-in_err-read_at-clause-bytes g c v f on is =
    let p = err_from_is_err_and c.from_residual-in_err-read_at.result c.from_residual-in_err-read_at.ensures.1 in
    rw (p.1, p.2) (fault-bytes ℕ (Unit {0}) (λ _. Unit {0}) c.in_err-read_at.field-0.0 c.in_err-read_at.ensures.device)

pub returns-in_err-read_at-clause-fault : goal.returns-in_err-read_at-clause-fault
returns-in_err-read_at-clause-fault g c =
    let p = err_from_is_err_and c.from_residual-in_err-read_at.result c.from_residual-in_err-read_at.ensures.1 in
    let has = c.requires.opened in
    rw (p.1, p.2) (file_ends (Unit {0}) ℕ c.in_err-read_at.field-0.0 _ _ _ (c.in_err-read_at.ensures.counts has.content has.file has.on has.is))

pub returns-clause-bytes : goal.returns-clause-bytes
returns-clause-bytes g c v f on is =
    let bytes = c.in_ok-bytes.bytes in
    let size = same_contents _ c.args.opened.now c.requires.opened v f on is in
    whole_read f bytes.items _ _ bytes.len _ (c.in_ok-read_at.ensures.ok v f on is) c.deref_mut.ensures.value
    (omega (arith, bytes.ok.0, c.in_ok-bytes.ensures.len, size)) (omega (arith, bytes.ok.0))

pub returns-clause-fault : goal.returns-clause-fault
returns-clause-fault g c =
    let has = c.requires.opened in
    faults_of _ _ _ _ (c.in_ok-read_at.ensures.counts has.content has.file has.on has.is)
