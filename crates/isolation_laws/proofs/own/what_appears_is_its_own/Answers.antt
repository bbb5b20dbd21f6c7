use Rattle.isolation_laws.proofs.Owning.{own-area, own-at_once, own-unless_entered}
use Rattle.isolation_laws.proofs.own.what_appears_is_its_own.Goals as goal

pub returns : goal.returns
returns c = record { own = own-at_once; unless_entered = own-unless_entered; area = own-area }
