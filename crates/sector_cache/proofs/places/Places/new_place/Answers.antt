use Rattle.std.proofs.Common.{◌≡◌, ◌∙◌, ◌<◌, false, Option, Some, None, length, refl, subst, sym, arith}
use Rattle.std.specs.Option.{is_some}
use Rattle.std.proofs.lemmas.List.{get_or_default}
use Rattle.sector_cache.specs.declared.sector.Sector.{Sector}
use Rattle.sector_cache.specs.Inside.{in_place, AreFull, empty, oldest}
use Rattle.sector_cache.proofs.places.Places.new_place.Goals as goal

-- no sector
is_none : (x : Option Sector) → is_some x ≡ false → x ≡ None
is_none None is = refl
is_none (Some s) is = cc

pub returns-then-self-clause-place : goal.returns-then-self-clause-place
returns-then-self-clause-place c drive lsn absent =
    let many = c.requires.sound.places_are in
    oldest (omega (arith, c.oldest_place-oldest.ensures.within)) absent (c.requires.indexed.none_empty c.if-self.true) c.oldest_place-oldest.ensures.last

pub returns-then-is_none-clause-place : goal.returns-then-is_none-clause-place
returns-then-is_none-clause-place c drive lsn absent =
    let many = c.requires.sound.places_are in
    let low = c.oldest_place-oldest.ensures.within in
    let xs = c.args.self.now.sectors.items in
    let n = c.oldest_place-oldest.result in
    let here = c.index.result.now in
    let same : in_place xs n ≡ here = get_or_default xs n None here (omega arith) ∙ sym c.index.ensures in
    empty (omega arith) absent (same ∙ is_none here c.if-is_none.ensures)

pub returns-in-Some-clause-place : goal.returns-in-Some-clause-place
returns-in-Some-clause-place c drive lsn absent =
    let same = c.deref.ensures.value in
    let n = c.in-Some.n in
    empty (subst (λ xs. n < length xs) same c.in-Some.ensures.within) absent (subst (λ xs. in_place xs n ≡ None) same c.in-Some.ensures.empty)

pub returns-clause-place : goal.returns-clause-place
returns-clause-place c drive lsn absent =
    let many = c.requires.sound.places_are in
    let full : AreFull c.args.self.now.sectors.items = subst AreFull c.deref.ensures.value c.in_default.ensures.full in
    oldest (omega (arith, c.oldest_place-oldest.ensures.within)) absent full c.oldest_place-oldest.ensures.last
