use Rattle.std.proofs.Common.{◌∙◌, ap, length, arith}
use Rattle.rbf_model.specs.Geometry.{sector}
use Rattle.rbf_sector.specs.Ident.{geometry_of}
use Rattle.rbf_sector_rules.specs.declared.unread.Unread.{Unread}
use Rattle.rbf_sector_rules.proofs.Searching.{searching_same, searching_after, named_after}
use Rattle.rbf_sector_rules.proofs.PositionsRead.{read_none, read_more, read_all}
use Rattle.rbf_sector_rules.proofs.walk.Search.read_range.Goals as goal

pub loop-e-init : goal.loop-e-init
loop-e-init c =
    let g = geometry_of c.args.image.now.ident in
    let disk = sector c.args.image.now.bytes.now in
    let search = c.args.self.now in
    let first = c.first-e.ensures in
    let searching = c.requires.searching in (
      searching_same g disk search c.first-e.new.self searching first.size first.ordered (λ t. (first.same t).0),
      read_none g disk c.args.first c.args.end search.found.items c.first-e.result (λ t n from below names number. searching.read t n (first.read t from below) names number),
      first.after,
      omega (arith, first.within, searching.positions),
    )

pub pass-requires-clause-place : goal.pass-requires-clause-place
pass-requires-clause-place c =
    let places = ap (λ (unread : Unread). length unread.next.items) c.in_ok-read_position.ensures.unread in
    omega (arith, places, c.loop-e.invariant.0.positions)

pub loop-e-preserved : goal.loop-e-preserved
loop-e-preserved c =
    let g = geometry_of c.args.image.now.ident in
    let disk = sector c.args.image.now.bytes.now in
    let search = c.loop-e.self in
    let mid = c.read_position.new.self in
    let e = c.loop-e.e in
    let read = c.in_ok-read_position.ensures in
    let first = c.first-e-in-loop-e.ensures in
    let before = c.loop-e.invariant in
    let places = ap (λ (unread : Unread). length unread.next.items) read.unread in
    let named = named_after g disk search mid c.pass.new.self e before.0 read.found read.unread c.pass.ensures.only in (
      searching_after g disk search mid c.first-e-in-loop-e.new.self e before.0 read.found read.unread
          (λ t h. c.pass.ensures.only t ((first.same t).0 h)) read.marks read.size (first.size ∙ c.pass.ensures.size)
          first.ordered,
      read_more g disk c.args.first c.args.end c.args.self.now.found.items search.found.items mid.found.items e
          c.first-e-in-loop-e.result before.2 (omega arith) before.1 read.found (λ t n above below names number. named
          t n (first.read t (omega arith) below) names number),
      omega (arith, first.after, before.2),
      omega (arith, first.within, c.pass.ensures.size, places, before.0.positions),
    )

pub returns-clause-found : goal.returns-clause-found
returns-clause-found c =
    read_all (geometry_of c.args.image.now.ident) (sector c.args.image.now.bytes.now) c.args.first c.args.end
    c.args.self.now.found.items c.loop-e.self.found.items c.loop-e.e (omega arith) c.loop-e.invariant.1
