use Rattle.file_rules.specs.Locking.{call_of}
use Rattle.file_io.proofs.writes.pending_count.Goals as goal

pub returns-then-read_bytes-clause-some : goal.returns-then-read_bytes-clause-some
returns-then-read_bytes-clause-some c =
    (c.pending.ensures.sound.waits.calls c.args.p.0 (call_of c.args.request) c.requires.kept).left
