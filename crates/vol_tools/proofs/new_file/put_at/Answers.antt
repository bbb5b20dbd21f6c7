-- The file is made, and its bytes are written.
use Rattle.std.proofs.Common.{◌≡◌, ℕ, None, Some, Ok, Err, refl, subst}
use Rattle.std.proofs.lemmas.Result.{err_from_is_err_and}
use Rattle.vol_tools.proofs.Counts.{file_ends_then, faults_then, same_faults}
use Rattle.rbf_model.specs.Volume.{DiskVolume}
use Rattle.rbf_access.specs.Mounted.{RepresentsVolume}
use Rattle.rbf_walk.proofs.Stepping.{same_content}
use Rattle.rbf_write.specs.Laying.{Laying}
use Rattle.vol_tools.proofs.Others.{absent, written-others}
use Rattle.vol_tools.proofs.Tails.{tail_then, write-tail}
use Rattle.vol_tools.proofs.Filled.{not_made, new_there, written, not_written, write_moved}
use Rattle.vol_tools.proofs.new_file.put_at.Goals as goal

pub returns-in_err-n-clause-answer : goal.returns-in_err-n-clause-answer
returns-in_err-n-clause-answer g c path place v on =
    let p = err_from_is_err_and c.from_residual.result c.from_residual.ensures.1 in
    rw (p.1, p.2) (not_made path c.args.bytes.now c.args.now v _ _ c.in_err-n.field-0.0 on (c.in_err-n.ensures.answer path v place on))

pub returns-in_err-write_at-clause-answer : goal.returns-in_err-write_at-clause-answer
returns-in_err-write_at-clause-answer g c path place v on =
    let p = err_from_is_err_and c.from_residual-in_err-write_at.result c.from_residual-in_err-write_at.ensures.1 in
    let made = c.in_ok-n.ensures.answer path v place on in
    let there = new_there path c.args.bytes.now c.args.now v c.in_ok-n.n _ made in
    rw (p.1, p.2)
    (not_written path c.args.bytes.now c.args.now v c.in_ok-n.n _ made _ _ c.in_err-write_at.field-0.0 (c.in_err-write_at.ensures.answer made.volume there.0 made.on there.1))

pub returns-in_err-write_at-clause-fault : goal.returns-in_err-write_at-clause-fault
returns-in_err-write_at-clause-fault g c =
    let p = err_from_is_err_and c.from_residual-in_err-write_at.result c.from_residual-in_err-write_at.ensures.1 in
    let has = c.in_ok-n.ensures.data in
    rw (p.1, p.2) (file_ends_then (Unit {0}) (Unit {0}) c.in_err-write_at.field-0.0 _ _ _ _ c.in_ok-n.ensures.fault (c.in_err-write_at.ensures.counts has.content has.file has.on has.is _ refl))

pub returns-clause-answer : goal.returns-clause-answer
returns-clause-answer g c path place v on =
    let made = c.in_ok-n.ensures.answer path v place on in
    let there = new_there path c.args.bytes.now c.args.now v c.in_ok-n.n _ made in
    written path c.args.bytes.now c.args.now v c.in_ok-n.n _ made _ (c.in_ok-write_at.ensures.answer made.volume there.0 made.on there.1)

pub returns-clause-fault : goal.returns-clause-fault
returns-clause-fault g c =
    let has = c.in_ok-n.ensures.data in
    faults_then None _ _ _ c.in_ok-n.ensures.fault
    (write_moved _ _ c.in_ok-n.n 0 c.args.bytes.now c.args.now _ _ has (c.in_ok-write_at.ensures.answer has.content has.file has.on has.is)
    (c.in_ok-write_at.ensures.counts has.content has.file has.on has.is))

pub returns-in_err-write_at-clause-tail : goal.returns-in_err-write_at-clause-tail
returns-in_err-write_at-clause-tail g c =
    let has = c.in_ok-n.ensures.data in
    tail_then _ _ _ has.on.image has.on.is c.in_ok-n.ensures.tail
    (write-tail has.content _ _ has.on has.file _ (Err c.in_err-write_at.field-0.0) (c.in_err-write_at.ensures.answer has.content has.file has.on has.is))

pub returns-clause-tail : goal.returns-clause-tail
returns-clause-tail g c =
    let has = c.in_ok-n.ensures.data in
    tail_then _ _ _ has.on.image has.on.is c.in_ok-n.ensures.tail (write-tail has.content _ _ has.on has.file _ (Ok tt) (c.in_ok-write_at.ensures.answer has.content has.file has.on has.is))

pub returns-in_err-n-clause-fault : goal.returns-in_err-n-clause-fault
returns-in_err-n-clause-fault g c =
    let p = err_from_is_err_and c.from_residual.result c.from_residual.ensures.1 in
    rw (p.1, p.2) (same_faults ℕ (Unit {0}) c.in_err-n.field-0.0 _ _ c.in_err-n.ensures.fault)

pub returns-clause-others : goal.returns-clause-others
returns-clause-others g c path place image now was is =
    let has = c.in_ok-n.ensures.data in
    let n = c.in_ok-n.n in
    let first = c.in_ok-n.ensures.others path place image has.on.image was has.on.is in
    let kept = c.in_ok-n.ensures.tail image has.on.image was has.on.is in
    let before : RepresentsVolume _ first.before = record { image = image; is = was; vol = first.was } in
    let after : RepresentsVolume _ first.after = record { image = has.on.image; is = has.on.is; vol = first.is } in
    let made = c.in_ok-n.ensures.answer path first.before place before in
    let there = new_there path c.args.bytes.now c.args.now first.before n _ made in
    let same : made.volume ≡ first.after = same_content _ made.volume first.after made.on after in
    let here : first.after.files n ≡ Some there.0 = subst (λ (u : DiskVolume). u.files n ≡ Some there.0) same there.1 in
    let both = made.enters.both in
    let write : Laying = record { number = n; at = 0; bytes = c.args.bytes.now; now = c.args.now } in
    written-others path write _ _ image has.on.image now has.on.is is first kept.first
    (absent image first.before first.was n _ both.file both.made) there.0 (c.in_ok-write_at.ensures.answer
    first.after there.0 after here)
