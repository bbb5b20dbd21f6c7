use Rattle.std.proofs.Common.{refl, sym, subst}
use Rattle.std.proofs.lemmas.Bool.{false≢true}
use Rattle.sector_cache.specs.Inside.{IsSoundCache}
use Rattle.sector_cache.proofs.Calls.{not_held, some_held, moved, sound_moved}
use Rattle.sector_cache.proofs.cache.SectorCache.touch.Goals as goal

pub invariant_of-self : goal.invariant_of-self
invariant_of-self c =
    record {
      sound = subst (λ xs. IsSoundCache xs c.bring_first.new.order) (sym c.note.ensures.kept)
          (sound_moved c.self.inside.places.sectors.items c.self.inside.order c.self.invariant.sound c.args.drive c.args.lsn c.in-Some.n c.bring_first.new.order c.in-Some.ensures.within
          c.bring_first.ensures);
      indexed = c.note.ensures.indexed;
    }

pub returns-in-None-clause-held : goal.returns-in-None-clause-held
returns-in-None-clause-held c =
    let gone = not_held c.self.inside.places.sectors.items c.self.inside.order c.self.invariant.sound c.args.drive c.args.lsn c.args.self.now c.self.view_is c.in-None.ensures.none in
    (λ is. absurd (false≢true is), λ some. let some' = rw gone at some in cc)

pub returns-in-None-clause-first : goal.returns-in-None-clause-first
returns-in-None-clause-first c bytes there =
    let gone = not_held c.self.inside.places.sectors.items c.self.inside.order c.self.invariant.sound c.args.drive c.args.lsn c.args.self.now c.self.view_is c.in-None.ensures.none in
    let found = rw gone at there in
    cc

pub returns-in-Some-clause-held : goal.returns-in-Some-clause-held
returns-in-Some-clause-held c =
    let held =
    some_held c.self.inside.places.sectors.items c.self.inside.order c.self.invariant.sound c.args.drive c.args.lsn c.in-Some.n c.in-Some.ensures.within c.in-Some.ensures.has c.args.self.now
    c.self.view_is in
    (λ is. held, λ some. refl)

pub returns-in-Some-clause-first : goal.returns-in-Some-clause-first
returns-in-Some-clause-first c bytes there =
    rw (c.bring_first.ensures, c.note.ensures.kept)
    (moved c.self.inside.places.sectors.items c.self.inside.order c.self.invariant.sound c.args.drive c.args.lsn c.in-Some.n c.in-Some.ensures.within c.in-Some.ensures.has c.args.self.now bytes
    c.self.view_is there)

pub returns-in-None-clause-none : goal.returns-in-None-clause-none
returns-in-None-clause-none c is =
    not_held c.self.inside.places.sectors.items c.self.inside.order c.self.invariant.sound c.args.drive c.args.lsn c.args.self.now c.self.view_is c.in-None.ensures.none
