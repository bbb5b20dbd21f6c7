use Rattle.std.proofs.Common.{[], ◌∷◌, refl, sym, subst}
use Rattle.rbf_access.specs.Mounted.{IsSoundMedia}
use Rattle.rbf_entries.proofs.Puts.{piece_written}
use Rattle.rbf_entries.proofs.freed.free_entry.Goals as goal

pub returns-clause-written : goal.returns-clause-written
returns-clause-written g c = piece_written _ _ _ c.args.found.now.lsn _ _ _ (0 ∷ []) c.in_ok-bytes.ensures.bytes c.in_ok-bytes.ensures.media_kept c.put_bytes.ensures c.in_ok-store.ensures.written

pub store-requires-clause-sound : goal.store-requires-clause-sound
store-requires-clause-sound g c =
    subst IsSoundMedia (sym (piece_written _ _ _ c.args.found.now.lsn _ _ _ (0 ∷ []) c.in_ok-bytes.ensures.bytes c.in_ok-bytes.ensures.media_kept c.put_bytes.ensures refl)) c.requires.sound
