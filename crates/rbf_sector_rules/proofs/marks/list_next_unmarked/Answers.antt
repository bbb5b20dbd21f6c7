use Rattle.std.proofs.Common.{ℕ, ◌-◌, subst, sym, ◌∙◌, arith, rules}
use Rattle.std.proofs.lemmas.Bool.{both_ways}
use Rattle.rbf_model.specs.Disk.{disk_of}
use Rattle.rbf_model.specs.Geometry.{sector}
use Rattle.rbf_sector.specs.Ident.{geometry_of}
use Rattle.rbf_sector_rules.specs.Used.{IsUnmarked}
use Rattle.rbf_sector_rules.specs.Nexts.{IsNextSuch}
use Rattle.rbf_sector_rules.proofs.NextTables.{IsFilled, filled_none, filled_more, filled_all, next_with, next_without}
use Rattle.rbf_sector_rules.proofs.marks.list_next_unmarked.Goals as goal
use Rattle.rbf_sector_rules.proofs.marks.list_next_unmarked.Goals.{then-not-is_sector_marked, else-not-is_sector_marked}

pub loop-s-init : goal.loop-s-init
loop-s-init c =
    filled_none (IsUnmarked (disk_of (geometry_of c.args.image.now.ident) (sector c.args.image.now.bytes.now)))
    c.args.image.now.ident.total c.in_ok-nexts.nexts.items
    (search (rules, c.in_ok-nexts.ensures.len, c.in_ok-nexts.nexts.ok.0))

pub loop-s-preserved : goal.loop-s-preserved
loop-s-preserved c =
    let B = IsUnmarked (disk_of (geometry_of c.args.image.now.ident) (sector c.args.image.now.bytes.now)) in
    let total = c.args.image.now.ident.total in
    let s = c.loop-s.s in
    let next = c.if-not-is_sector_marked.next in
    let P : ℕ → Type 0 = λ n. IsNextSuch B total (s - 1) n in
    let here : IsNextSuch B total (s - 1) next = elim c.if-not-is_sector_marked.branch [
      | then-not-is_sector_marked w ↦ subst P (sym w.next-is) (next_with B total (s - 1) (omega arith) (sym c.is_sector_marked.ensures ∙ w.if-not-is_sector_marked.true))
      | else-not-is_sector_marked w ↦
          subst P (sym w.next-is) (next_without B total s c.loop-s.next (omega arith) c.loop-s.invariant.here
          (λ unmarked. both_ways c.is_sector_marked.result (c.is_sector_marked.ensures ∙ unmarked)
          w.if-not-is_sector_marked.false))
    ] in
    filled_more B total c.loop-s.nexts.items s c.loop-s.next next (omega arith) (omega arith) c.loop-s.invariant here

pub returns : goal.returns
returns c =
    let B = IsUnmarked (disk_of (geometry_of c.args.image.now.ident) (sector c.args.image.now.bytes.now)) in
    let P : ℕ → Type 0 = λ s. IsFilled B c.args.image.now.ident.total c.loop-s.nexts.items s c.loop-s.next in
    filled_all B c.args.image.now.ident.total c.loop-s.nexts.items c.loop-s.next (subst P (omega arith) c.loop-s.invariant)
