use Rattle.isolation_laws.proofs.Beginning.{start-appeared}
use Rattle.isolation_laws.proofs.Owning.{still-appeared}
use Rattle.isolation_laws.proofs.own.names_have_appeared.Goals as goal

pub returns : goal.returns
returns c = record { start = start-appeared; event = still-appeared }
