-- The draws compute.
use Rattle.std.proofs.Common.{refl}
use Rattle.guest_mods.specs.Random.{random}
use Rattle.guest_mods.proofs.rows.first_draws.Goals as goal

pub returns-clause-first : goal.returns-clause-first
unfolding random
returns-clause-first c = refl

pub returns-clause-other : goal.returns-clause-other
unfolding random
returns-clause-other c = refl
