use Rattle.std.proofs.Common.{IsSome, refl, subst, sym, ◌∙◌, arith}
use Rattle.rbf_entries.proofs.Filling.{lsn_there, put_on_drive, fill_sound, entry_answers, entry_mounted}
use Rattle.rbf_entries.proofs.enter.fill_place.Goals as goal

pub unwrap-lsn-requires : goal.unwrap-lsn-requires
unwrap-lsn-requires g c =
    subst IsSome (sym c.lsn_of.ensures) (lsn_there _ c.args.found.now.dir.number c.args.found.now.place c.args.entry.now c.requires.place (omega arith) c.args.found.now.dir c.requires.read)

pub put_entry-requires-clause-cached : goal.put_entry-requires-clause-cached
put_entry-requires-clause-cached g c = c.requires.mounted.cached

pub put_entry-requires-clause-sound : goal.put_entry-requires-clause-sound
put_entry-requires-clause-sound g c =
    fill_sound _ c.args.found.now.dir.number c.args.found.now.place c.args.entry.now c.requires.place (omega arith) c.args.found.now.dir
    c.requires.read c.unwrap-lsn.result (sym c.lsn_of.ensures ∙ c.unwrap-lsn.ensures) _ refl

pub put_entry-requires-clause-on : goal.put_entry-requires-clause-on
put_entry-requires-clause-on g c =
    put_on_drive _ c.args.found.now.dir.number c.args.found.now.place c.args.entry.now c.requires.place (omega arith) c.args.found.now.dir c.requires.read c.unwrap-lsn.result
    (sym c.lsn_of.ensures ∙ c.unwrap-lsn.ensures)

pub returns-clause-answer : goal.returns-clause-answer
returns-clause-answer g c now v file on is =
    entry_answers _ c.args.found.now.dir.number c.args.found.now.place c.args.entry.now c.requires.place (omega arith) now
    c.args.found.now.dir c.requires.read c.unwrap-lsn.result (sym c.lsn_of.ensures ∙ c.unwrap-lsn.ensures) _
    c.put_entry.result c.put_entry.ensures.written c.put_entry.ensures.media_kept c.put_entry.ensures.device v file on
    is

pub returns-clause-mounted : goal.returns-clause-mounted
returns-clause-mounted g c =
    entry_mounted _ c.args.found.now.dir.number c.args.found.now.place c.args.entry.now c.requires.place (omega arith) c.args.found.now.dir
    c.requires.read c.unwrap-lsn.result (sym c.lsn_of.ensures ∙ c.unwrap-lsn.ensures) _ c.put_entry.result
    c.put_entry.ensures.written c.put_entry.ensures.media_kept _ _ c.put_entry.ensures.volume_kept
    c.put_entry.ensures.cached c.requires.mounted
