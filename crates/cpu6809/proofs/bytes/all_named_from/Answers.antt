use Rattle.cpu6809.proofs.Writes.{not_all_named, still_named}
use Rattle.cpu6809.proofs.bytes.all_named_from.Goals as goal

pub returns-then-not-is_named : goal.returns-then-not-is_named
returns-then-not-is_named g c = not_all_named _ _ _ _ _ c.loop-byte-test.true c.loop-byte.invariant (cc)

pub loop-byte-preserved : goal.loop-byte-preserved
loop-byte-preserved g c = still_named _ _ _ _ _ c.loop-byte-test.true c.loop-byte.invariant (cc)
