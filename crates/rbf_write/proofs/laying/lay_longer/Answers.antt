use Rattle.std.proofs.Common.{◌≤◌, length, subst}
use Rattle.std.proofs.lemmas.Result.{err_from_is_err_and}
use Rattle.rbf_access.proofs.Reading.{number_on, mounted_still}
use Rattle.rbf_write.proofs.Steps.{few_segments, apart_all, growth_answers, calls_growth, calls_fill, calls_finish, may_lay, same_list, fill_answers, file_after, finish_answers, done_answers, done_mounted, done_sound, all_marks, most_marks, marks_then}
use Rattle.rbf_write.proofs.laying.lay_longer.Goals as goal

pub grow-requires-clause-few : goal.grow-requires-clause-few
grow-requires-clause-few g c = subst (λ xs. length xs ≤ 48) c.requires.loaded.read.list_is (few_segments c.args.loaded.now.descriptor)

pub grow-requires-clause-apart : goal.grow-requires-clause-apart
grow-requires-clause-apart g c = apart_all _ c.args.loaded.now c.args.write.at c.args.write.bytes.now c.args.write.date
    c.requires.loaded.read c.requires.loaded.file c.args.volume.now c.requires.mounted

pub returns-in_err-longer-clause-answer : goal.returns-in_err-longer-clause-answer
returns-in_err-longer-clause-answer g c v file on is =
    let p = err_from_is_err_and c.from_residual.result c.from_residual.ensures.1 in
    rw (p.1, p.2) (growth_answers _ c.args.loaded.now c.args.write.at c.args.write.bytes.now c.args.write.date c.requires.loaded.read
    c.requires.loaded.file c.args.volume.now c.requires.mounted c.args.count c.requires.count v file on is _ _
    (c.in_err-longer.ensures.grows v on) c.in_err-longer.ensures.refused)

pub returns-in_err-longer-clause-counts : goal.returns-in_err-longer-clause-counts
returns-in_err-longer-clause-counts g c v file on is marks are =
    let p = err_from_is_err_and c.from_residual.result c.from_residual.ensures.1 in
    rw (p.1, p.2) (calls_growth _ c.args.loaded.now c.args.write.at c.args.write.bytes.now c.args.write.date c.requires.loaded.read
    c.requires.loaded.file c.args.volume.now c.requires.mounted c.args.count c.requires.count v file on is marks
    (all_marks v file _ _ _ _ p.1 marks are) _ _ _ (c.in_err-longer.ensures.marks v on))

pub fill-requires-clause-may : goal.fill-requires-clause-may
fill-requires-clause-may g c =
    may_lay _ c.args.loaded.now c.args.write.at c.args.write.bytes.now c.args.write.date c.requires.loaded.read c.requires.loaded.file c.args.volume.now
    c.requires.mounted c.args.count c.requires.count _ c.in_ok-longer.longer c.in_ok-longer.ensures.grows
    c.requires.some

pub returns-in_err-fill-clause-answer : goal.returns-in_err-fill-clause-answer
returns-in_err-fill-clause-answer g c v file on is =
    let p = err_from_is_err_and c.from_residual-in_err-fill.result c.from_residual-in_err-fill.ensures.1 in
    rw (p.1, p.2) (fill_answers _ c.args.loaded.now c.args.write.at c.args.write.bytes.now c.args.write.date c.requires.loaded.read
    c.requires.loaded.file c.args.volume.now c.requires.mounted c.args.count c.requires.count _ c.in_ok-longer.longer
    c.in_ok-longer.ensures.grows _ _ c.in_err-fill.ensures.device c.in_err-fill.ensures.fills v file on is)

pub returns-in_err-fill-clause-counts : goal.returns-in_err-fill-clause-counts
returns-in_err-fill-clause-counts g c v file on is marks are =
    let p = err_from_is_err_and c.from_residual-in_err-fill.result c.from_residual-in_err-fill.ensures.1 in
    rw (p.1, p.2) (calls_fill _ c.args.loaded.now c.args.write.at c.args.write.bytes.now c.args.write.date c.requires.loaded.read c.requires.loaded.file
    c.args.volume.now c.requires.mounted c.args.count c.requires.count v file on is c.in_ok-longer.longer marks
    (most_marks _ c.args.loaded.now c.args.write.at c.args.write.bytes.now c.args.write.date c.requires.loaded.read c.requires.loaded.file
    c.args.volume.now c.requires.mounted c.args.count c.requires.count v file on is c.in_ok-longer.longer marks
    (all_marks v file _ _ _ _ p.1 marks are)) _ _ _ _ c.in_ok-longer.ensures.counts (c.in_ok-longer.ensures.marks v on)
    c.in_err-fill.ensures.counts)

pub finish-requires-clause-may : goal.finish-requires-clause-may
finish-requires-clause-may g c = record {
  number =
      number_on _ c.args.loaded.now.number (file_after _ c.args.loaded.now c.args.write.at c.args.write.bytes.now c.args.write.date
      c.requires.loaded.read c.requires.loaded.file c.args.volume.now c.requires.mounted c.args.count c.requires.count _
      c.in_ok-longer.longer c.in_ok-longer.ensures.grows _ c.in_ok-fill.ensures.fills);
  list = c.requires.loaded.read.list_is;
  same =
      same_list _ c.args.loaded.now c.args.write.at c.args.write.bytes.now c.args.write.date c.requires.loaded.read c.requires.loaded.file
      c.args.volume.now c.requires.mounted c.args.count c.requires.count _ c.in_ok-longer.longer
      c.in_ok-longer.ensures.grows;
  sound =
      done_sound _ c.args.loaded.now c.args.write.at c.args.write.bytes.now c.args.write.date c.requires.loaded.read c.requires.loaded.file
      c.args.volume.now c.requires.mounted c.args.count c.requires.count _ c.in_ok-longer.longer
      c.in_ok-longer.ensures.grows _ c.in_ok-fill.ensures.fills;
}

pub finish-requires-clause-cached : goal.finish-requires-clause-cached
finish-requires-clause-cached g c = c.in_ok-fill.ensures.mounted.cached

pub returns-in_err-finish-clause-answer : goal.returns-in_err-finish-clause-answer
returns-in_err-finish-clause-answer g c v file on is =
    let p = err_from_is_err_and c.from_residual-in_err-finish.result c.from_residual-in_err-finish.ensures.1 in
    rw (p.1, p.2) (finish_answers _ c.args.loaded.now c.args.write.at c.args.write.bytes.now c.args.write.date c.requires.loaded.read
    c.requires.loaded.file c.args.volume.now c.requires.mounted c.args.count c.requires.count _ c.in_ok-longer.longer
    c.in_ok-longer.ensures.grows _ c.in_ok-fill.ensures.fills _ _ c.in_err-finish.ensures.media_kept
    c.in_err-finish.ensures.later c.in_err-finish.ensures.device v file on is)

pub returns-in_err-finish-clause-mounted : goal.returns-in_err-finish-clause-mounted
returns-in_err-finish-clause-mounted g c = mounted_still _ _ _ _ c.in_err-finish.ensures.volume_kept c.in_err-finish.ensures.media_kept c.in_err-finish.ensures.cached c.in_ok-fill.ensures.mounted

pub returns-in_err-finish-clause-counts : goal.returns-in_err-finish-clause-counts
returns-in_err-finish-clause-counts g c v file on is marks are =
    let p = err_from_is_err_and c.from_residual-in_err-finish.result c.from_residual-in_err-finish.ensures.1 in
    rw (p.1, p.2) (calls_finish _ c.args.loaded.now c.args.write.at c.args.write.bytes.now c.args.write.date c.requires.loaded.read
    c.requires.loaded.file c.args.volume.now c.requires.mounted c.args.count c.requires.count v file on is
    c.in_ok-longer.longer marks (most_marks _ c.args.loaded.now c.args.write.at c.args.write.bytes.now c.args.write.date c.requires.loaded.read
    c.requires.loaded.file c.args.volume.now c.requires.mounted c.args.count c.requires.count v file on is
    c.in_ok-longer.longer marks (all_marks v file _ _ _ _ p.1 marks are)) _ _ _ _ _ c.in_ok-longer.ensures.counts
    (c.in_ok-longer.ensures.marks v on) c.in_ok-fill.ensures.counts c.in_err-finish.ensures.counts)

pub returns-clause-answer : goal.returns-clause-answer
returns-clause-answer g c v file on is =
    done_answers _ c.args.loaded.now c.args.write.at c.args.write.bytes.now c.args.write.date c.requires.loaded.read c.requires.loaded.file
    c.args.volume.now c.requires.mounted c.args.count c.requires.count _ c.in_ok-longer.longer
    c.in_ok-longer.ensures.grows _ c.in_ok-fill.ensures.fills _ c.in_ok-finish.ensures.done v file on is

pub returns-clause-mounted : goal.returns-clause-mounted
returns-clause-mounted g c =
    done_mounted _ c.args.loaded.now c.args.write.at c.args.write.bytes.now c.args.write.date c.requires.loaded.read c.requires.loaded.file
    c.args.volume.now c.requires.mounted c.args.count c.requires.count _ c.in_ok-longer.longer
    c.in_ok-longer.ensures.grows _ c.in_ok-fill.ensures.fills _ c.in_ok-finish.ensures.done _ _
    c.in_ok-fill.ensures.mounted c.in_ok-finish.ensures.volume_kept c.in_ok-finish.ensures.cached

pub returns-clause-counts : goal.returns-clause-counts
returns-clause-counts g c v file on is marks are =
    calls_finish _ c.args.loaded.now c.args.write.at c.args.write.bytes.now c.args.write.date c.requires.loaded.read c.requires.loaded.file
    c.args.volume.now c.requires.mounted c.args.count c.requires.count v file on is c.in_ok-longer.longer marks
    (marks_then _ c.args.loaded.now c.args.write.at c.args.write.bytes.now c.args.write.date c.requires.loaded.read c.requires.loaded.file
    c.args.volume.now c.requires.mounted c.args.count c.requires.count _ c.in_ok-longer.longer
    c.in_ok-longer.ensures.grows _ c.in_ok-fill.ensures.fills _ c.in_ok-finish.ensures.done v file on is marks are) _ _
    _ _ _ c.in_ok-longer.ensures.counts (c.in_ok-longer.ensures.marks v on) c.in_ok-fill.ensures.counts
    c.in_ok-finish.ensures.counts

pub returns-in_err-longer-clause-calls_kept : goal.returns-in_err-longer-clause-calls_kept
returns-in_err-longer-clause-calls_kept g c =
    let p = err_from_is_err_and c.from_residual.result c.from_residual.ensures.1 in
    rw (p.1, p.2) c.in_err-longer.ensures.refused_calls
