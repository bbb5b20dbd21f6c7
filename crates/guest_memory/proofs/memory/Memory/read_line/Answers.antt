use Rattle.std.proofs.Common.{◌≡◌, ◌+◌, ◌-◌, ◌++◌, length, take, ap, sym, ◌∙◌, arith}
use Rattle.std.proofs.lemmas.List.{length-take-le}
use Rattle.std.proofs.lemmas.Slice.{take-put_mid}
use Rattle.guest_memory.specs.Tie.{cells_of}
use Rattle.guest_memory.proofs.LineLemmas.{len-within, line-found, line-open, put-room}
use Rattle.guest_memory.proofs.memory.Memory.read_line.Goals as goal

pub returns-then-is_some-clause-some : goal.returns-then-is_some-clause-some
returns-then-is_some-clause-some c =
    let into = c.pieces.into in
    let count = c.pieces.count in
    let bytes = c.in_ok-piece.piece.now in
    let len = c.line_len-len.result in
    let new = c.copy_from_slice.new.self in
    let cells = cells_of c.args.self.now c.args.p.0 in
    let found = c.return_place-found.ensures.place in
    let fits = len-within cells c.args.at c.args.most count into c.pieces-test.true c.pieces.invariant.read bytes
    c.in_ok-piece.ensures.some into c.return_place-found.result (sym found) len c.line_len-len.ensures in
    let long = length-take-le len bytes fits.0 in
    let whole : count + len ≡ count + length new = omega (arith, long, ap length c.copy_from_slice.ensures.after) in
    let written = take-put_mid count (count + len - count) into new (count + len) whole
    (omega (arith, c.pieces-test.true, c.pieces.invariant.room, c.requires.room)) ∙ ap
    (λ front. take count into ++ front) c.copy_from_slice.ensures.after in
    line-found cells c.args.at c.args.most count into c.pieces-test.true c.pieces.invariant.read bytes
    c.in_ok-piece.ensures.some _ c.return_place-found.result (sym found) len c.line_len-len.ensures written
    (sym c.is_some.ensures ∙ c.if-is_some.true)

pub pieces-preserved : goal.pieces-preserved
pieces-preserved c =
    let into = c.pieces.into in
    let count = c.pieces.count in
    let bytes = c.in_ok-piece.piece.now in
    let len = c.line_len-len.result in
    let new = c.copy_from_slice.new.self in
    let cells = cells_of c.args.self.now c.args.p.0 in
    let found = c.return_place-found.ensures.place in
    let fits = len-within cells c.args.at c.args.most count into c.pieces-test.true c.pieces.invariant.read bytes
    c.in_ok-piece.ensures.some into c.return_place-found.result (sym found) len c.line_len-len.ensures in
    let long = length-take-le len bytes fits.0 in
    let whole : count + len ≡ count + length new = omega (arith, long, ap length c.copy_from_slice.ensures.after) in
    let few = c.in_ok-piece.ensures.some.few in
    let written = take-put_mid count (count + len - count) into new (count + len) whole
    (omega (arith, c.pieces-test.true, c.pieces.invariant.room, c.requires.room)) ∙ ap
    (λ front. take count into ++ front) c.copy_from_slice.ensures.after in
    record {
      read = line-open cells c.args.at c.args.most count into c.pieces-test.true c.pieces.invariant.read bytes
          c.in_ok-piece.ensures.some _ c.return_place-found.result (sym found) len c.line_len-len.ensures written
          (sym c.is_some.ensures ∙ c.if-is_some.false);
      room = put-room count (count + len - count) into new (omega (arith, few, fits.0, c.pieces-test.true, c.pieces.invariant.room, c.requires.room)) (omega (arith, whole)) ∙ c.pieces.invariant.room;
      most = omega (arith, few, fits.0, c.pieces-test.true);
    }
