use Rattle.std.proofs.Common.{◌==◌, rules}
use Rattle.std.proofs.lemmas.Iterator.Consumers.{YieldsList-from_rest}
use Rattle.std.proofs.lemmas.Iterator.Search.{position_from_yields_List}
use Rattle.io_model.specs.declared.keys.TheConstants.{RETURN}
use Rattle.pipe_mgr.proofs.pipe.return_place.Goals as goal

pub returns : goal.returns
returns c =
    position_from_yields_List (λ byte. byte == RETURN) _ _ c.position.result c.position.ensures.ran (YieldsList-from_rest _ c.iter.ensures.rest) (λ x b q k. search rules)
