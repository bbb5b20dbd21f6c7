use Rattle.std.proofs.Common.{◌-◌, ap, sym, ◌∙◌, arith}
use Rattle.std.proofs.lemmas.Option.{get_or_from_slice_get}
use Rattle.os9_base.specs.Name.{lower}
use Rattle.rbf_walk.proofs.sector.end_of.Goals as goal

pub returns : goal.returns
returns c =
    let valid = c.len-at.ensures.name in
    let some = valid.not_empty in
    let long = c.len-at.ensures.length in
    record {
      is_name = valid;
      place = omega arith;
      character = c.lower.ensures ∙ ap lower (sym (get_or_from_slice_get c.args.name.now (c.len-at.result - 1) c.byte.result 0 c.byte.ensures));
    }
