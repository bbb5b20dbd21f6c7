use Rattle.sector_cache.specs.Inside.{own}
use Rattle.sector_cache.proofs.places.Places.place_for.Goals as goal

pub returns-in-Some-clause-place : goal.returns-in-Some-clause-place
returns-in-Some-clause-place c = own c.in-Some.ensures.within c.in-Some.ensures.has

pub returns-clause-place : goal.returns-clause-place
returns-clause-place c = c.new_place.ensures.place _ _ c.in_default.ensures.none
