use Rattle.std.proofs.Common.{take}
use Rattle.rbf_check.specs.Places.{AreLinkPlaces}
use Rattle.rbf_check.proofs.places.list_places.Given as goal

abbrev pub invariant-loop-link : goal.invariant-loop-link
invariant-loop-link l = AreLinkPlaces (take l.link-index l.links) l.total l.places.items
