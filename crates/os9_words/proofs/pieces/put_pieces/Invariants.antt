-- The pieces below the index are written.
use Rattle.std.proofs.Common.{take}
use Rattle.os9_words.proofs.PieceLemmas.{WroteOut}
use Rattle.os9_words.proofs.pieces.put_pieces.Given as goal

abbrev pub invariant-loop-piece : goal.invariant-loop-piece
invariant-loop-piece g l = WroteOut g.H.Host (take l.piece-index l.pieces) l.fn.host l.host
