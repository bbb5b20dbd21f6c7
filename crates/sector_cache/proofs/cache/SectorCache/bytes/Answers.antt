use Rattle.std.proofs.Common.{sym, ◌∙◌}
use Rattle.sector_cache.proofs.Calls.{not_held, held_is}
use Rattle.sector_cache.proofs.cache.SectorCache.bytes.Goals as goal

pub returns-in-None : goal.returns-in-None
returns-in-None c = sym (not_held c.self.inside.places.sectors.items c.self.inside.order c.self.invariant.sound c.args.drive c.args.lsn c.args.self.now c.self.view_is c.in-None.ensures.none)

pub returns-in-Some : goal.returns-in-Some
returns-in-Some c =
    c.bytes.ensures
    ∙ sym (held_is c.self.inside.places.sectors.items c.self.inside.order c.self.invariant.sound c.args.drive c.args.lsn c.in-Some.n c.in-Some.ensures.within c.in-Some.ensures.has c.args.self.now
    c.self.view_is)
