use Rattle.std.proofs.Common.{◌≡◌, ◌∙◌, ℕ, arith, rules, length, replicate, None, subst}
use Rattle.rbf_model.specs.Geometry.{sector}
use Rattle.rbf_sector.specs.Ident.{geometry_of}
use Rattle.rbf_sector_rules.specs.Least.{IsLeast, Before}
use Rattle.rbf_check.specs.Named.{AreFirsts, IsNamedAgain}
use Rattle.rbf_sector_rules.proofs.Leasts.{least_before, least_next}
use Rattle.rbf_sector_rules.proofs.Tables.{none_filled}
use Rattle.rbf_sector_rules.proofs.Headers.{header_of}
use Rattle.rbf_check.proofs.Naming.{firsts_none, numbers_below, least_again}
use Rattle.rbf_check.proofs.links.least_named_again.Goals as goal

pub returns : goal.returns
returns c =
    let links = c.args.links.now in
    let root = c.args.image.now.ident.root in
    let all : c.loop-k.k ≡ length links = omega arith in
    let P : ℕ → Type 0 = λ k. AreFirsts links c.loop-k.firsts.items k in
    let Q : ℕ → Type 0 = λ k. IsLeast (Before (IsNamedAgain links root) k) c.loop-k.least in
    least_again (geometry_of c.args.image.now.ident) (sector c.args.image.now.bytes.now) (header_of c.args.image.now)
    links c.requires c.loop-k.firsts.items (subst P all c.loop-k.invariant.1) c.loop-k.least
    (subst Q all c.loop-k.invariant.2)

pub loop-k-init : goal.loop-k-init
loop-k-init c =
    let table = c.in_ok-firsts.firsts.items in
    let all : table ≡ replicate c.args.image.now.ident.total None = c.in_ok-firsts.ensures.items_if_clones_equal (search rules) in
    let size : length table ≡ c.args.image.now.ident.total = search (rules, c.in_ok-firsts.ensures.len, c.in_ok-firsts.firsts.ok.0) in
    (size, firsts_none c.args.links.now table (none_filled table c.args.image.now.ident.total all), least_before (IsNamedAgain c.args.links.now c.args.image.now.ident.root))

pub named_again-requires-clause-numbers : goal.named_again-requires-clause-numbers
named_again-requires-clause-numbers c =
    numbers_below (geometry_of c.args.image.now.ident) (sector c.args.image.now.bytes.now) c.args.links.now (length c.loop-k.firsts.items) c.requires c.loop-k.invariant.0

pub loop-k-preserved : goal.loop-k-preserved
loop-k-preserved c =
    let again = c.named_again.ensures in (
      again.size ∙ c.loop-k.invariant.0,
      again.firsts,
      least_next (IsNamedAgain c.args.links.now c.args.image.now.ident.root) c.loop-k.k c.loop-k.least
          c.named_again.result c.least_of-least.result c.loop-k.invariant.2 again.again c.least_of-least.ensures,
    )
