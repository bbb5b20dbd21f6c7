-- The pieces below the index are written.
use Rattle.std.proofs.Common.{take}
use Rattle.os9_words.proofs.PieceLemmas.{WroteErr}
use Rattle.os9_words.proofs.pieces.report_pieces.Given as goal

abbrev pub invariant-loop-piece : goal.invariant-loop-piece
invariant-loop-piece g l = WroteErr g.H.Host (take l.piece-index l.pieces) l.fn.host l.host
