use Rattle.std.proofs.Common.{◌+◌, ◌-◌, ◌/◌, ◌%◌, ◌==◌, ◌∙◌, ap, get_or}
use Rattle.std.proofs.lemmas.Nat.Bits.{shr_and_one}
use Rattle.rbf_sector_rules.proofs.Headers.{mark_is}
use Rattle.rbf_sector_rules.proofs.header.is_marked.Goals as goal

pub returns : goal.returns
returns c =
    ap (λ b. b == 1) (shr_and_one (get_or c.args.image.now (256 + c.args.c / 8) 0) (7 - c.args.c % 8)) ∙ mark_is c.args.image.now c.args.c
