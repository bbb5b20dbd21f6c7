use Rattle.isolation_laws.proofs.Owning.{own-acting, own-event}
use Rattle.isolation_laws.proofs.Slices.{own-slice}
use Rattle.isolation_laws.proofs.own.what_is_its_own_is_left_to_a_process.Goals as goal

pub returns : goal.returns
returns c = record { event = own-event; acting = own-acting; slice = own-slice }
