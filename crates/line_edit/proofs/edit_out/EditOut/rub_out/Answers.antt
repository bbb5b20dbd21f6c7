use Rattle.std.proofs.Common.{◌≡◌, ◌∷◌, [], ◌++◌, ◌∙◌, arith}
use Rattle.line_edit.specs.Echo.{echoed}
use Rattle.line_edit.proofs.EchoLemmas.{rubouts-more}
use Rattle.line_edit.proofs.edit_out.EditOut.rub_out.Goals as goal

pub loop-preserved : goal.loop-preserved
loop-preserved c =
    let three : echoed c.put-in-loop-2.new.self ≡ echoed c.loop.self ++ 8 ∷ [] ++ 32 ∷ [] ++ 8 ∷ [] = cc in
    record {
      put = three ∙ rubouts-more (echoed c.args.self.now) (echoed c.loop.self) c.args.bytes.now c.loop.index (omega arith) c.loop.invariant.put;
      len = omega arith;
      end = cc;
    }
