use Rattle.std.proofs.Common.{◌+◌, ◌%◌, ◌++◌, length, refl, sym, ap, ◌∙◌, arith}
use Rattle.os9_debug.specs.Course.{state_at}
use Rattle.os9_debug.specs.Disassembly.{bytes_from}
use Rattle.os9_debug.specs.Show.{shown_cells}
use Rattle.os9_debug.proofs.Bytes.{byte-more, byte-none, bytes-all}
use Rattle.os9_debug.proofs.memory.bytes_from.Goals as goal

pub loop-k-init : goal.loop-k-init
loop-k-init c = record {
  read = λ course last slices devices at.
      ap (λ bytes. bytes ++ bytes_from (shown_cells (state_at course c.args.position.now.events)) c.args.at 5) (sym c.new-bytes.ensures);
  count = ap length c.new-bytes.ensures;
}

pub loop-k-preserved : goal.loop-k-preserved
loop-k-preserved c = record {
  read = λ course last slices devices at.
      rw c.push.ensures.items
      (byte-more (shown_cells (state_at course c.args.position.now.events)) c.loop-k.at ((c.loop-k.at + 1) % 65536) _
      c.loop-k.bytes.items c.loop-k._k 5 c.in-Some.byte (omega arith) (omega arith) refl
      (sym (c.byte.ensures course last slices devices at) ∙ c.in-Some.is) (c.loop-k.invariant.read course last
      slices devices at));
  count = omega arith;
}

pub returns-in-None : goal.returns-in-None
returns-in-None c = λ course last slices devices at.
    byte-none (shown_cells (state_at course c.args.position.now.events)) c.loop-k.at _ c.loop-k.bytes.items
    c.loop-k._k 5 (omega arith) (omega arith) (sym (c.byte.ensures course last slices devices at) ∙ c.in-None.is)
    (c.loop-k.invariant.read course last slices devices at)

pub returns : goal.returns
returns c = λ course last slices devices at.
    bytes-all (shown_cells (state_at course c.args.position.now.events)) c.loop-k.at _ c.loop-k.bytes.items c.loop-k._k 5 (omega arith) (c.loop-k.invariant.read course last slices devices at)
