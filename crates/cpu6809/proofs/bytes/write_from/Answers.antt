use Rattle.std.proofs.Common.{rules}
use Rattle.cpu6809.proofs.Writes.{named_when_written, written_so_far}
use Rattle.cpu6809.proofs.bytes.write_from.Goals as goal

pub loop-byte-preserved : goal.loop-byte-preserved
loop-byte-preserved g c = record {
  named = named_when_written _ _ _ _ _ c.loop-byte-test.true c.loop-byte.invariant.named c.put.ensures.changed;
  written = written_so_far _ _ _ _ _ _ c.loop-byte-test.true c.loop-byte.invariant.written c.put.ensures.changed;
  beside = search rules;
}
