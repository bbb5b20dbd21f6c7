use Rattle.std.proofs.Common.{Some, sym, ap, subst, ◌∙◌}
use Rattle.std.proofs.Math.ListN.{set}
use Rattle.sector_cache.specs.Inside.{IsSoundCache}
use Rattle.sector_cache.proofs.Calls.{absent_of, kept_view, kept_sound}
use Rattle.sector_cache.proofs.cache.SectorCache.add.Goals as goal

pub invariant_of-self : goal.invariant_of-self
invariant_of-self c =
    let absent =
    absent_of c.self.inside.places.sectors.items c.self.inside.order c.self.invariant.sound c.args.drive c.args.lsn
    c.args.self.now c.self.view_is c.requires in
    let place = c.new_place-n.ensures.place c.args.drive c.args.lsn absent in
    record {
      sound = subst (λ xs. IsSoundCache xs c.bring_first.new.order)
          (sym (c.put.ensures.put ∙ ap (λ xs. set xs c.new_place-n.result
          (Some (record { drive = c.args.drive; lsn = c.args.lsn; bytes = c.args.bytes.now })))
          c.new_place-n.ensures.kept))
          (kept_sound c.self.inside.places.sectors.items c.self.inside.order c.self.invariant.sound c.args.drive c.args.lsn c.new_place-n.result c.args.bytes.now place c.bring_first.new.order
          c.bring_first.ensures);
      indexed = c.put.ensures.indexed;
    }

pub returns : goal.returns
returns c =
    let absent =
    absent_of c.self.inside.places.sectors.items c.self.inside.order c.self.invariant.sound c.args.drive c.args.lsn
    c.args.self.now c.self.view_is c.requires in
    let place = c.new_place-n.ensures.place c.args.drive c.args.lsn absent in
    rw (c.bring_first.ensures, c.put.ensures.put, c.new_place-n.ensures.kept)
    (kept_view c.self.inside.places.sectors.items c.self.inside.order c.self.invariant.sound c.args.drive c.args.lsn c.new_place-n.result c.args.bytes.now place c.args.self.now c.self.view_is)
