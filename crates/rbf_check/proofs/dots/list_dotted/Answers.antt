use Rattle.std.proofs.Common.{◌≡◌, ◌∙◌, ℕ, refl, subst, arith, rules, length, replicate, false}
use Rattle.std.specs.Prelude.{MatchBool}
use Rattle.rbf_model.specs.Geometry.{sector}
use Rattle.rbf_sector.specs.Ident.{geometry_of}
use Rattle.rbf_sector_rules.specs.Reading.{listed}
use Rattle.rbf_check.specs.Dots.{BeginsWithDots}
use Rattle.rbf_sector_rules.proofs.Headers.{header_of}
use Rattle.rbf_check.proofs.Dotting.{answer_true, answer_must, nothing_marked, dotted_root, dotted_more, dotted_are, number_linked}
use Rattle.rbf_check.proofs.dots.list_dotted.Goals as goal

pub loop-link-init : goal.loop-link-init
loop-link-init c =
    let g = geometry_of c.args.image.now.ident in
    let disk = sector c.args.image.now.bytes.now in
    let root = c.args.image.now.ident.root in
    let none = c.in_ok-dotted.dotted.items in
    let answer = c.begins_with_dots.result in
    let filled : none ≡ replicate c.args.image.now.ident.total false = c.in_ok-dotted.ensures.items_if_clones_equal (search rules) in
    let size : length none ≡ c.args.image.now.ident.total = search (rules, c.in_ok-dotted.ensures.len, c.in_ok-dotted.dotted.ok.0) in
    let P : ℕ → Type 0 = λ n. MatchBool answer (BeginsWithDots (listed c.args.image.now n) n root) (BeginsWithDots (listed c.args.image.now n) n root → ⊥) in
    let said = subst P (c.directory_of-root.ensures.number ∙ c.read_file.ensures.number) c.begins_with_dots.ensures in
    let Dots = BeginsWithDots (listed c.args.image.now root) root root in
    dotted_root g disk c.args.links.now none _ answer (header_of c.args.image.now).root_below size
    (nothing_marked c.args.image.now.ident.total none filled) refl (λ e. answer_true answer Dots (Dots → ⊥) said
    e) (λ d. answer_must answer Dots said d)

pub mark_dots-requires-clause-number : goal.mark_dots-requires-clause-number
mark_dots-requires-clause-number c =
    (number_linked (geometry_of c.args.image.now.ident) (sector c.args.image.now.bytes.now) c.args.links.now c.loop-link.link-index c.requires (omega arith)).below

pub loop-link-preserved : goal.loop-link-preserved
loop-link-preserved c =
    dotted_more (geometry_of c.args.image.now.ident) (sector c.args.image.now.bytes.now) c.args.links.now
    c.loop-link.dotted.items c.mark_dots.new.dotted.items c.loop-link.link-index c.requires (omega arith)
    c.loop-link.invariant c.mark_dots.ensures

pub returns : goal.returns
returns c =
    dotted_are (geometry_of c.args.image.now.ident) (sector c.args.image.now.bytes.now) c.args.links.now c.loop-link.dotted.items c.loop-link.link-index (omega arith) c.requires c.loop-link.invariant
