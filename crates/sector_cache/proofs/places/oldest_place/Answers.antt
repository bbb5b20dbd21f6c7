use Rattle.std.proofs.Common.{◌<◌, ℕ, sym, arith}
use Rattle.sector_cache.proofs.Order.{last_is, last_there, of_last}
use Rattle.sector_cache.proofs.places.oldest_place.Goals as goal

pub unreachable-requires : goal.unreachable-requires
unreachable-requires c =
    let many = c.requires.count in
    last_there c.args.order.now.entries (omega arith) c.in-None.ensures

pub returns-clause-within : goal.returns-clause-within
returns-clause-within c =
    let n = c.in-Some.n.now in
    let es = c.args.order.now.entries in
    of_last (λ (k : ℕ). k < 256) n es (last_is n es (sym c.in-Some.ensures)) c.requires.below
