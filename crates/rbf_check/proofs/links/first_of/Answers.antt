use Rattle.std.proofs.Common.{sym, ◌∙◌, None}
use Rattle.std.proofs.lemmas.List.{get_or_read}
use Rattle.rbf_sector_rules.proofs.Tables.{given_new}
use Rattle.rbf_check.proofs.links.first_of.Goals as goal

pub returns-in-None-clause-noted : goal.returns-in-None-clause-noted
returns-in-None-clause-noted c =
    let old = c.args.firsts.now.items in
    given_new old c.args.k c.args.n c.requires (sym (get_or_read old c.args.n c.index.result.now c.requires c.index.ensures None) ∙ c.in-None.is)
