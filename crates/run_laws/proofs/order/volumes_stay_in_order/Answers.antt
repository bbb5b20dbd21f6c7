use Rattle.run_laws.proofs.ImagesInOrder.{start-order}
use Rattle.run_laws.proofs.KeepingOrder.{choice-order, event-order, tick-order}
use Rattle.run_laws.proofs.order.volumes_stay_in_order.Goals as goal

pub returns : goal.returns
returns c = record { start = start-order; event = event-order; tick = tick-order; choice = choice-order }
