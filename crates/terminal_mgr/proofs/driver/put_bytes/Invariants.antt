-- So far exactly the bytes below the index were put, and nothing else has changed.
use Rattle.std.proofs.Common.{◌≡◌, take}
use Rattle.os9_outer.specs.Stream.{stream_with}
use Rattle.terminal_mgr.proofs.driver.put_bytes.Given as goal

abbrev pub invariant-loop-byte : goal.invariant-loop-byte
invariant-loop-byte g l = record {
  put : (goal.CharDriver-dyn g l.d.now).bytes_put l.d.now.1 ≡ stream_with ((goal.CharDriver-dyn g l.fn.d.now).bytes_put l.fn.d.now.1) (take l.byte-index l.bytes);
  faults : (goal.CharDriver-dyn g l.d.now).term_faults l.d.now.1 ≡ (goal.CharDriver-dyn g l.fn.d.now).term_faults l.fn.d.now.1;
  keys : (goal.CharDriver-dyn g l.d.now).keys_left l.d.now.1 ≡ (goal.CharDriver-dyn g l.fn.d.now).keys_left l.fn.d.now.1;
}
