use Rattle.std.proofs.Common.{Some, sym, ap, ◌∙◌, eqb-true}
use Rattle.sector_cache.proofs.Order.{first_stays}
use Rattle.sector_cache.proofs.cache.is_first.Goals as goal

pub returns-in-Some : goal.returns-in-Some
returns-in-Some c is =
    let same = eqb-true c.in-Some.first.now c.args.n is in
    first_stays c.args.n c.args.order.now.entries (sym c.in-Some.ensures ∙ ap (λ k. Some (k, tt)) same)
