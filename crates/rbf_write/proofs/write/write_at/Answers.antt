use Rattle.std.proofs.Common.{length, sym, ◌∙◌, eqb-true, Ok, Err, arith}
use Rattle.std.proofs.lemmas.List.{nil_from_length}
use Rattle.std.proofs.lemmas.Result.{err_from_is_err_and}
use Rattle.rbf_access.proofs.Caching.{held_used}
use Rattle.rbf_access.proofs.Reading.{number_on, mounted_still}
use Rattle.rbf_access.proofs.ReadPieces.{some_room}
use Rattle.rbf_write.proofs.Descriptors.{data_still, loaded_number}
use Rattle.rbf_write.proofs.Steps.{all_marks, has_file}
use Rattle.rbf_write.proofs.Whole.{nothing_written, load_answers, whole_answers, whole_calls}
use Rattle.rbf_write.proofs.write.write_at.Goals as goal

pub returns-then-is_empty-clause-answer : goal.returns-then-is_empty-clause-answer
returns-then-is_empty-clause-answer g c v file on is =
    nothing_written _ v file on _ is (nil_from_length c.args.write.bytes.now (eqb-true (length c.args.write.bytes.now) 0 (sym c.is_empty.ensures ∙ c.if-is_empty.true)))

pub bring-requires-clause-on : goal.bring-requires-clause-on
bring-requires-clause-on g c = number_on _ c.args.fd (has_file _ c.args.fd c.requires.file)

pub bring-requires-clause-cached : goal.bring-requires-clause-cached
bring-requires-clause-cached g c = c.requires.mounted.cached

pub held_file-loaded-requires : goal.held_file-loaded-requires
held_file-loaded-requires g c = held_used c.args.fd c.args.volume.now.cache c.bring.new.self.cache c.in_ok-bring.ensures.used

pub lay_over-requires-clause-file : goal.lay_over-requires-clause-file
lay_over-requires-clause-file g c =
    data_still _ _ c.args.fd c.held_file-loaded.result.number c.in_ok-bring.ensures.media_kept (c.held_file-loaded.ensures _ c.in_ok-bring.ensures.cached).number_is c.requires.file

pub lay_over-requires-clause-loaded : goal.lay_over-requires-clause-loaded
lay_over-requires-clause-loaded g c = loaded_number _ c.args.fd c.held_file-loaded.result (c.held_file-loaded.ensures _ c.in_ok-bring.ensures.cached)

pub returns-in_err-bring-clause-answer : goal.returns-in_err-bring-clause-answer
returns-in_err-bring-clause-answer g c v file on is =
    let p = err_from_is_err_and c.from_residual.result c.from_residual.ensures.1 in
    rw (p.1, p.2)
    (load_answers _ v file on _ is (some_room c.args.write.bytes.now c.is_empty.result c.if-is_empty.false c.is_empty.ensures) _ _ c.in_err-bring.ensures.device c.in_err-bring.ensures.media_kept)

pub returns-in_err-bring-clause-mounted : goal.returns-in_err-bring-clause-mounted
returns-in_err-bring-clause-mounted g c = mounted_still _ _ _ _ c.in_err-bring.ensures.volume_kept c.in_err-bring.ensures.media_kept c.in_err-bring.ensures.cached c.requires.mounted

pub lay_over-requires-clause-mounted : goal.lay_over-requires-clause-mounted
lay_over-requires-clause-mounted g c = mounted_still _ _ _ _ c.in_ok-bring.ensures.volume_kept c.in_ok-bring.ensures.media_kept c.in_ok-bring.ensures.cached c.requires.mounted

pub returns-in_err-lay_over-clause-answer : goal.returns-in_err-lay_over-clause-answer
returns-in_err-lay_over-clause-answer g c v file on is =
    let p = err_from_is_err_and c.from_residual-in_err-lay_over.result c.from_residual-in_err-lay_over.ensures.1 in
    rw (p.1, p.2)
    (whole_answers _ _ c.args.fd c.held_file-loaded.result.number c.args.write.at c.args.write.bytes.now c.args.write.date
    c.in_ok-bring.ensures.media_kept (c.held_file-loaded.ensures _ c.in_ok-bring.ensures.cached).number_is
    (some_room c.args.write.bytes.now c.is_empty.result c.if-is_empty.false c.is_empty.ensures)
    ((goal.BlockDriver-dyn g (c.args.d.now.0, c.lay_over.new.d)).media c.lay_over.new.d)
    (Err c.in_err-lay_over.field-0.0) c.in_err-lay_over.ensures.answer v file on is)

pub returns-in_err-lay_over-clause-counts : goal.returns-in_err-lay_over-clause-counts
returns-in_err-lay_over-clause-counts g c v file on is marks are =
    let p = err_from_is_err_and c.from_residual-in_err-lay_over.result c.from_residual-in_err-lay_over.ensures.1 in
    rw (p.1, p.2)
    (whole_calls _ _ c.args.fd c.held_file-loaded.result.number c.args.write.at c.args.write.bytes.now c.args.write.date
    c.in_ok-bring.ensures.media_kept (c.held_file-loaded.ensures _ c.in_ok-bring.ensures.cached).number_is
    (some_room c.args.write.bytes.now c.is_empty.result c.if-is_empty.false c.is_empty.ensures)
    ((goal.BlockDriver-dyn g (c.args.d.now.0, c.lay_over.new.d)).media c.lay_over.new.d)
    (Err c.in_err-lay_over.field-0.0) _ _ _ _ c.in_ok-bring.ensures.counts c.in_err-lay_over.ensures.counts v file on
    is marks (all_marks v file _ _ _ _ p.1 marks are))

pub returns-clause-answer : goal.returns-clause-answer
returns-clause-answer g c v file on is =
    whole_answers _ _ c.args.fd c.held_file-loaded.result.number c.args.write.at c.args.write.bytes.now c.args.write.date
    c.in_ok-bring.ensures.media_kept (c.held_file-loaded.ensures _ c.in_ok-bring.ensures.cached).number_is
    (some_room c.args.write.bytes.now c.is_empty.result c.if-is_empty.false c.is_empty.ensures)
    ((goal.BlockDriver-dyn g (c.args.d.now.0, c.lay_over.new.d)).media c.lay_over.new.d) (Ok tt)
    c.in_ok-lay_over.ensures.answer v file on is

pub returns-clause-counts : goal.returns-clause-counts
returns-clause-counts g c v file on is marks are =
    whole_calls _ _ c.args.fd c.held_file-loaded.result.number c.args.write.at c.args.write.bytes.now c.args.write.date
    c.in_ok-bring.ensures.media_kept (c.held_file-loaded.ensures _ c.in_ok-bring.ensures.cached).number_is
    (some_room c.args.write.bytes.now c.is_empty.result c.if-is_empty.false c.is_empty.ensures)
    ((goal.BlockDriver-dyn g (c.args.d.now.0, c.lay_over.new.d)).media c.lay_over.new.d) (Ok tt) _ _ _ _
    c.in_ok-bring.ensures.counts c.in_ok-lay_over.ensures.counts v file on is marks are

pub returns-in_err-lay_over-clause-refused_calls : goal.returns-in_err-lay_over-clause-refused_calls
returns-in_err-lay_over-clause-refused_calls g c =
    let p = err_from_is_err_and c.from_residual-in_err-lay_over.result c.from_residual-in_err-lay_over.ensures.1 in
    rw (p.1, p.2)
    (λ none. let one = c.in_ok-bring.ensures.counts.calls_made in let same = c.in_err-lay_over.ensures.calls_kept none in omega arith)
