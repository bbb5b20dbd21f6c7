use Rattle.proc_model.proofs.EldestLaws.{chosen_if, nobody_if}
use Rattle.proc_model.proofs.turn.the_eldest_is_chosen.Goals as goal

pub returns-clause-chosen : goal.returns-clause-chosen
returns-clause-chosen c = λ is_ready priority order. chosen_if is_ready order

pub returns-clause-nobody : goal.returns-clause-nobody
returns-clause-nobody c = λ is_ready priority order. nobody_if is_ready order
