use Rattle.std.proofs.Common.{◌+◌, Vec, Global, subst, sym, arith}
use Rattle.rbf_sector_rules.specs.declared.links.Link.{Link}
use Rattle.rbf_sector_rules.specs.Linked.{AreAdded}
use Rattle.rbf_sector.specs.Ident.{geometry_of}
use Rattle.rbf_sector_rules.specs.Reading.{listed}
use Rattle.rbf_sector_rules.proofs.Linking.{added_none, added_more, added_past, added_before}
use Rattle.rbf_sector_rules.proofs.links.add_links.Goals as goal
use Rattle.rbf_sector_rules.proofs.links.add_links.Goals.{in-Some+in_ok-push, in_default}

pub loop-i-init : goal.loop-i-init
loop-i-init c = added_none _ _ _ _

pub loop-i-preserved : goal.loop-i-preserved
loop-i-preserved c =
    let g = geometry_of c.args.image.now.ident in
    let d = c.args.dir.now.number in
    let contents = listed c.args.image.now d in
    let old = c.args.links.now.items in
    let P : Vec Link Global → Type 0 = λ v. AreAdded g contents d old v.items (c.loop-i.i + 1) in
    elim c.match-named.branch [
      | in-Some+in_ok-push w ↦
          subst P (sym w.links-is) (added_more g contents d old c.loop-i.links.items c.loop-i.i c.loop-i.invariant
          w.in-Some.n w.push.new.self.items w.in-Some.ensures.0 w.in-Some.ensures.1 w.in_ok-push.ensures.items)
      | in_default w ↦
          subst P (sym w.links-is) (added_past g contents d old c.loop-i.links.items c.loop-i.i c.loop-i.invariant (λ m names number. w.in_default.ensures m names number))
    ]

pub returns : goal.returns
returns c =
    added_before _ _ _ _ _ c.loop-i.i c.args.dir.now.entries (omega arith) c.loop-i.invariant
