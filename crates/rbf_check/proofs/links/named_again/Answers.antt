use Rattle.std.proofs.Common.{◌<◌, arith, rules, length}
use Rattle.rbf_check.proofs.Naming.{noted_more, noted_first, again_is, again_not}
use Rattle.rbf_check.proofs.links.named_again.Goals as goal

pub offset_bounds-links-first_of : goal.offset_bounds-links-first_of
offset_bounds-links-first_of c =
    let f = noted_first c.args.links.now c.args.firsts.now.items c.first_of.new.firsts.items c.args.k c.first_of.result c.requires.firsts c.first_of.ensures.noted c.first_of.ensures.first in
    let low : c.first_of.result < length c.args.links.now = omega (arith, f.0, c.requires.place) in
    search rules

pub bounds-links-first_of : goal.bounds-links-first_of
bounds-links-first_of c =
    let f = noted_first c.args.links.now c.args.firsts.now.items c.first_of.new.firsts.items c.args.k c.first_of.result c.requires.firsts c.first_of.ensures.noted c.first_of.ensures.first in
    omega (arith, f.0, c.requires.place)

pub returns-then-is_again-clause-firsts : goal.returns-then-is_again-clause-firsts
returns-then-is_again-clause-firsts c =
    noted_more c.args.links.now c.args.firsts.now.items c.first_of.new.firsts.items c.args.k c.first_of.result c.requires.firsts c.first_of.ensures.noted c.first_of.ensures.first

pub returns-then-is_again-clause-again : goal.returns-then-is_again-clause-again
returns-then-is_again-clause-again c =
    let f = noted_first c.args.links.now c.args.firsts.now.items c.first_of.new.firsts.items c.args.k c.first_of.result c.requires.firsts c.first_of.ensures.noted c.first_of.ensures.first in
    again_is c.args.links.now c.args.ident.now.root c.args.k c.first_of.result f.0 f.1 c.if-is_again.ensures

pub returns-else-is_again-clause-firsts : goal.returns-else-is_again-clause-firsts
returns-else-is_again-clause-firsts c =
    noted_more c.args.links.now c.args.firsts.now.items c.first_of.new.firsts.items c.args.k c.first_of.result c.requires.firsts c.first_of.ensures.noted c.first_of.ensures.first

pub returns-else-is_again-clause-again : goal.returns-else-is_again-clause-again
returns-else-is_again-clause-again c =
    let f = noted_first c.args.links.now c.args.firsts.now.items c.first_of.new.firsts.items c.args.k c.first_of.result c.requires.firsts c.first_of.ensures.noted c.first_of.ensures.first in
    again_not c.args.links.now c.args.ident.now.root c.args.k c.first_of.result f.0 f.1 c.if-is_again.ensures.0 c.if-is_again.ensures.1
