use Rattle.std.proofs.Common.{refl, sym, subst}
use Rattle.rbf_access.specs.Mounted.{IsSoundMedia}
use Rattle.rbf_entries.proofs.Puts.{piece_written}
use Rattle.rbf_entries.proofs.sector.put_entry.Goals as goal

pub store-requires-clause-sound : goal.store-requires-clause-sound
store-requires-clause-sound g c =
    subst IsSoundMedia (sym (piece_written _ _ _ c.args.lsn _ _ _ c.args.entry.now c.in_ok-bytes.ensures.bytes c.in_ok-bytes.ensures.media_kept c.put_bytes.ensures refl)) c.requires.sound
