use Rattle.std.proofs.lemmas.Result.{err_from_is_err_and}
use Rattle.rbf_access.proofs.Reading.{number_on, mounted_still}
use Rattle.rbf_write.proofs.Descriptors.{loaded_fields}
use Rattle.rbf_write.proofs.Steps.{none_grows, no_counts, past_answers, calls_fill, calls_finish, may_lay, same_list, fill_answers, file_after, finish_answers, done_answers, done_mounted, done_sound, all_marks, most_marks, marks_then}
use Rattle.rbf_write.proofs.laying.lay_over.Goals as goal

pub returns-in_default-clause-answer : goal.returns-in_default-clause-answer
returns-in_default-clause-answer g c = past_answers _ c.args.loaded.now c.args.write.at c.args.write.bytes.now
    c.args.write.date c.requires.loaded c.requires.file c.args.volume.now c.requires.mounted c.in_default.ensures

pub fill-requires-clause-may : goal.fill-requires-clause-may
fill-requires-clause-may g c =
    may_lay _ c.args.loaded.now c.args.write.at c.args.write.bytes.now c.args.write.date c.requires.loaded c.requires.file c.args.volume.now
    c.requires.mounted c.in-Some.count c.in-Some.ensures _ c.args.loaded.now.file.segs (none_grows _ c.args.loaded.now c.requires.loaded c.in-Some.count c.if-count-ne0.false)
    c.requires.some

pub returns-in_err-fill-clause-answer : goal.returns-in_err-fill-clause-answer
returns-in_err-fill-clause-answer g c v file on is =
    let p = err_from_is_err_and c.from_residual.result c.from_residual.ensures.1 in
    rw (p.1, p.2) (fill_answers _ c.args.loaded.now c.args.write.at c.args.write.bytes.now c.args.write.date c.requires.loaded
    c.requires.file c.args.volume.now c.requires.mounted c.in-Some.count c.in-Some.ensures _ c.args.loaded.now.file.segs
    (none_grows _ c.args.loaded.now c.requires.loaded c.in-Some.count c.if-count-ne0.false) _ _ c.in_err-fill.ensures.device c.in_err-fill.ensures.fills v file on is)

pub returns-in_err-fill-clause-counts : goal.returns-in_err-fill-clause-counts
returns-in_err-fill-clause-counts g c v file on is marks are =
    let p = err_from_is_err_and c.from_residual.result c.from_residual.ensures.1 in
    rw (p.1, p.2) (calls_fill _ c.args.loaded.now c.args.write.at c.args.write.bytes.now c.args.write.date c.requires.loaded c.requires.file
    c.args.volume.now c.requires.mounted c.in-Some.count c.in-Some.ensures v file on is c.args.loaded.now.file.segs marks
    (most_marks _ c.args.loaded.now c.args.write.at c.args.write.bytes.now c.args.write.date c.requires.loaded c.requires.file
    c.args.volume.now c.requires.mounted c.in-Some.count c.in-Some.ensures v file on is c.args.loaded.now.file.segs marks
    (all_marks v file _ _ _ _ p.1 marks are)) _ _ _ _ (no_counts c.in-Some.count _) (no_counts _ _)
    c.in_err-fill.ensures.counts)

pub resize-requires-clause-may : goal.resize-requires-clause-may
resize-requires-clause-may g c = record {
  may = record {
    number =
        number_on _ c.args.loaded.now.number (file_after _ c.args.loaded.now c.args.write.at c.args.write.bytes.now c.args.write.date
        c.requires.loaded c.requires.file c.args.volume.now c.requires.mounted c.in-Some.count c.in-Some.ensures _
        c.args.loaded.now.file.segs (none_grows _ c.args.loaded.now c.requires.loaded c.in-Some.count c.if-count-ne0.false) _ c.in_ok-fill.ensures.fills);
    list = c.requires.loaded.list_is;
    same =
        same_list _ c.args.loaded.now c.args.write.at c.args.write.bytes.now c.args.write.date c.requires.loaded c.requires.file
        c.args.volume.now c.requires.mounted c.in-Some.count c.in-Some.ensures _ c.args.loaded.now.file.segs
        (none_grows _ c.args.loaded.now c.requires.loaded c.in-Some.count c.if-count-ne0.false);
    sound =
        done_sound _ c.args.loaded.now c.args.write.at c.args.write.bytes.now c.args.write.date c.requires.loaded c.requires.file
        c.args.volume.now c.requires.mounted c.in-Some.count c.in-Some.ensures _ c.args.loaded.now.file.segs
        (none_grows _ c.args.loaded.now c.requires.loaded c.in-Some.count c.if-count-ne0.false) _ c.in_ok-fill.ensures.fills;
  };
  fields = loaded_fields _ c.args.loaded.now.number c.args.loaded.now c.requires.file c.requires.loaded;
}

pub resize-requires-clause-cached : goal.resize-requires-clause-cached
resize-requires-clause-cached g c = c.in_ok-fill.ensures.mounted.cached

pub returns-in_err-resize-clause-answer : goal.returns-in_err-resize-clause-answer
returns-in_err-resize-clause-answer g c v file on is =
    let p = err_from_is_err_and c.from_residual-in_err-resize.result c.from_residual-in_err-resize.ensures.1 in
    rw (p.1, p.2) (finish_answers _ c.args.loaded.now c.args.write.at c.args.write.bytes.now c.args.write.date c.requires.loaded
    c.requires.file c.args.volume.now c.requires.mounted c.in-Some.count c.in-Some.ensures _ c.args.loaded.now.file.segs
    (none_grows _ c.args.loaded.now c.requires.loaded c.in-Some.count c.if-count-ne0.false) _ c.in_ok-fill.ensures.fills _ _ c.in_err-resize.ensures.media_kept
    c.in_err-resize.ensures.later c.in_err-resize.ensures.device v file on is)

pub returns-in_err-resize-clause-mounted : goal.returns-in_err-resize-clause-mounted
returns-in_err-resize-clause-mounted g c = mounted_still _ _ _ _ c.in_err-resize.ensures.volume_kept c.in_err-resize.ensures.media_kept c.in_err-resize.ensures.cached c.in_ok-fill.ensures.mounted

pub returns-in_err-resize-clause-counts : goal.returns-in_err-resize-clause-counts
returns-in_err-resize-clause-counts g c v file on is marks are =
    let p = err_from_is_err_and c.from_residual-in_err-resize.result c.from_residual-in_err-resize.ensures.1 in
    rw (p.1, p.2) (calls_finish _ c.args.loaded.now c.args.write.at c.args.write.bytes.now c.args.write.date c.requires.loaded
    c.requires.file c.args.volume.now c.requires.mounted c.in-Some.count c.in-Some.ensures v file on is
    c.args.loaded.now.file.segs marks (most_marks _ c.args.loaded.now c.args.write.at c.args.write.bytes.now c.args.write.date c.requires.loaded
    c.requires.file c.args.volume.now c.requires.mounted c.in-Some.count c.in-Some.ensures v file on is
    c.args.loaded.now.file.segs marks (all_marks v file _ _ _ _ p.1 marks are)) _ _ _ _ _ (no_counts c.in-Some.count _)
    (no_counts _ _) c.in_ok-fill.ensures.counts c.in_err-resize.ensures.counts)

pub returns-clause-answer : goal.returns-clause-answer
returns-clause-answer g c v file on is =
    done_answers _ c.args.loaded.now c.args.write.at c.args.write.bytes.now c.args.write.date c.requires.loaded c.requires.file
    c.args.volume.now c.requires.mounted c.in-Some.count c.in-Some.ensures _ c.args.loaded.now.file.segs
    (none_grows _ c.args.loaded.now c.requires.loaded c.in-Some.count c.if-count-ne0.false) _ c.in_ok-fill.ensures.fills _ c.in_ok-resize.ensures.done v file on is

pub returns-clause-mounted : goal.returns-clause-mounted
returns-clause-mounted g c =
    done_mounted _ c.args.loaded.now c.args.write.at c.args.write.bytes.now c.args.write.date c.requires.loaded c.requires.file
    c.args.volume.now c.requires.mounted c.in-Some.count c.in-Some.ensures _ c.args.loaded.now.file.segs
    (none_grows _ c.args.loaded.now c.requires.loaded c.in-Some.count c.if-count-ne0.false) _ c.in_ok-fill.ensures.fills _ c.in_ok-resize.ensures.done _ _
    c.in_ok-fill.ensures.mounted c.in_ok-resize.ensures.volume_kept c.in_ok-resize.ensures.cached

pub returns-clause-counts : goal.returns-clause-counts
returns-clause-counts g c v file on is marks are =
    calls_finish _ c.args.loaded.now c.args.write.at c.args.write.bytes.now c.args.write.date c.requires.loaded c.requires.file
    c.args.volume.now c.requires.mounted c.in-Some.count c.in-Some.ensures v file on is c.args.loaded.now.file.segs marks
    (marks_then _ c.args.loaded.now c.args.write.at c.args.write.bytes.now c.args.write.date c.requires.loaded c.requires.file
    c.args.volume.now c.requires.mounted c.in-Some.count c.in-Some.ensures _ c.args.loaded.now.file.segs
    (none_grows _ c.args.loaded.now c.requires.loaded c.in-Some.count c.if-count-ne0.false) _ c.in_ok-fill.ensures.fills _ c.in_ok-resize.ensures.done v file on is marks are) _ _
    _ _ _ (no_counts c.in-Some.count _) (no_counts _ _) c.in_ok-fill.ensures.counts
    c.in_ok-resize.ensures.counts

pub lay_longer-requires-clause-loaded : goal.lay_longer-requires-clause-loaded
lay_longer-requires-clause-loaded g c = record { file = c.requires.file; read = c.requires.loaded }
