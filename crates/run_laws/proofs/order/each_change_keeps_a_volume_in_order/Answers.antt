use Rattle.run_laws.proofs.ImagesInOrder.{image-order}
use Rattle.run_laws.proofs.Ordered.{order-left, order-made}
use Rattle.run_laws.proofs.order.each_change_keeps_a_volume_in_order.Goals as goal

pub returns : goal.returns
returns c = record {
  image = image-order;
  made =
      λ change user now v w number some plain it order. order-made v w order change user now number some plain it;
  left = λ change user now v w plain it order. order-left v w order change user now plain it;
}
