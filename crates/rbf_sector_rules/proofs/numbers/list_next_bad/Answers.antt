use Rattle.std.proofs.Common.{ℕ, ◌-◌, ◌*◌, subst, sym, arith, rules}
use Rattle.rbf_model.specs.Disk.{disk_of}
use Rattle.rbf_model.specs.Geometry.{sector}
use Rattle.rbf_sector.specs.Ident.{geometry_of}
use Rattle.rbf_sector_rules.specs.Rules.{IsBadPosition}
use Rattle.rbf_sector_rules.specs.Nexts.{IsNextSuch}
use Rattle.rbf_sector_rules.proofs.NextTables.{IsFilled, filled_from, filled_more, filled_all, next_with, next_without}
use Rattle.rbf_sector_rules.proofs.numbers.list_next_bad.Goals as goal
use Rattle.rbf_sector_rules.proofs.numbers.list_next_bad.Goals.{then-is_bad_position, else-is_bad_position}

pub loop-e-init : goal.loop-e-init
loop-e-init c =
    filled_from (IsBadPosition (disk_of (geometry_of c.args.image.now.ident) (sector c.args.image.now.bytes.now))) (8 * c.args.image.now.ident.total) c.in_ok-nexts.nexts.items c.end_of_bad-e.result
    (c.in_ok-nexts.ensures.items_if_clones_equal (search rules)) c.end_of_bad-e.ensures.within c.end_of_bad-e.ensures.none

pub loop-e-preserved : goal.loop-e-preserved
loop-e-preserved c =
    let B = IsBadPosition (disk_of (geometry_of c.args.image.now.ident) (sector c.args.image.now.bytes.now)) in
    let positions = 8 * c.args.image.now.ident.total in
    let e = c.loop-e.e in
    let next = c.if-is_bad_position.next in
    let P : ℕ → Type 0 = λ n. IsNextSuch B positions (e - 1) n in
    let here : IsNextSuch B positions (e - 1) next = elim c.if-is_bad_position.branch [
      | then-is_bad_position w ↦ subst P (sym w.next-is) (next_with B positions (e - 1) (omega arith) w.if-is_bad_position.ensures)
      | else-is_bad_position w ↦ subst P (sym w.next-is) (next_without B positions e c.loop-e.next (omega arith) c.loop-e.invariant.here (λ bad. w.if-is_bad_position.ensures bad))
    ] in
    filled_more B positions c.loop-e.nexts.items e c.loop-e.next next (omega arith) (omega arith) c.loop-e.invariant here

pub returns : goal.returns
returns c =
    let B = IsBadPosition (disk_of (geometry_of c.args.image.now.ident) (sector c.args.image.now.bytes.now)) in
    let positions = 8 * c.args.image.now.ident.total in
    let P : ℕ → Type 0 = λ e. IsFilled B positions c.loop-e.nexts.items e c.loop-e.next in
    filled_all B positions c.loop-e.nexts.items c.loop-e.next (subst P (omega arith) c.loop-e.invariant)
