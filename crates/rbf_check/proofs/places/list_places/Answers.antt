use Rattle.std.proofs.Common.{arith}
use Rattle.rbf_check.proofs.Listed.{places_more}
use Rattle.rbf_check.proofs.places.list_places.Goals as goal

pub loop-link-preserved : goal.loop-link-preserved
loop-link-preserved c =
    let low = c.loop-link-test.true in
    places_more c.args.links.now c.args.total c.loop-link.link-index c.loop-link.places.items
    (record { directory = 0; entry = 0; descriptor = 0 }) c.loop-link.invariant (omega arith)
    (c.requires c.loop-link.link-index (record { directory = 0; entry = 0; descriptor = 0 }) (omega arith))
