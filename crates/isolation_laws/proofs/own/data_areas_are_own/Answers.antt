use Rattle.isolation_laws.proofs.Beginning.{start-own}
use Rattle.isolation_laws.proofs.OwnRows.{first-own, second-own}
use Rattle.isolation_laws.proofs.own.data_areas_are_own.Goals as goal

pub returns : goal.returns
returns c = record { start = start-own; first = first-own; second = second-own }
