use Rattle.std.proofs.Common.{sym, ◌∙◌, None}
use Rattle.std.proofs.lemmas.List.{get_or_read}
use Rattle.rbf_sector_rules.proofs.Tables.{given_new}
use Rattle.rbf_sector_rules.proofs.uses.give.Goals as goal

pub returns-in-None-clause-given : goal.returns-in-None-clause-given
returns-in-None-clause-given c =
    let old = c.args.owners.now.items in
    given_new old c.args.n c.args.c c.requires (sym (get_or_read old c.args.c c.index.result.now c.requires c.index.ensures None) ∙ c.in-None.is)
