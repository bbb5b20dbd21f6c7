use Rattle.std.proofs.Common.{arith}
use Rattle.rbf_entries.proofs.Entered.{may_fill, fill_calls, may_append, append_calls}
use Rattle.rbf_entries.proofs.enter.enter_file.Goals as goal

pub fill_place-requires-clause-place : goal.fill_place-requires-clause-place
fill_place-requires-clause-place g c =
    may_fill _ c.args.found.now.dir.number c.args.found.now.place c.args.entry.now c.requires.place c.args.found.now.dir c.requires.read c.if-found.true

pub append_entry-requires-clause-place : goal.append_entry-requires-clause-place
append_entry-requires-clause-place g c =
    may_append _ c.args.found.now.dir.number c.args.found.now.place c.args.entry.now c.requires.place c.args.found.now.dir c.requires.read (omega (arith, c.if-found.false))

pub returns-then-found-clause-answer : goal.returns-then-found-clause-answer
returns-then-found-clause-answer g c v file on is = c.fill_place.ensures.answer c.args.now v file on is

pub returns-then-found-clause-counts : goal.returns-then-found-clause-counts
returns-then-found-clause-counts g c v file on is =
    fill_calls _ c.args.found.now.dir.number c.args.found.now.place c.args.entry.now c.requires.place c.args.found.now.dir c.requires.read c.if-found.true v file on is _ _ _
    c.fill_place.ensures.counts

pub returns-else-found-clause-counts : goal.returns-else-found-clause-counts
returns-else-found-clause-counts g c v file on is =
    append_calls _ c.args.found.now.dir.number c.args.found.now.place c.args.entry.now c.requires.place c.args.found.now.dir c.requires.read
    (omega (arith, c.if-found.false)) c.args.now (omega arith) v file on is _ _ _
    (c.append_entry.ensures.counts v file on is)
