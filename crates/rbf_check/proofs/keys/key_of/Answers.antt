use Rattle.std.proofs.Common.{◌≡◌, ◌<◌, ◌∙◌, refl, sym, ap, arith}
use Rattle.std.proofs.lemmas.Option.{get_or_from_slice_get}
use Rattle.os9_base.specs.Name.{lower}
use Rattle.rbf_check.proofs.Keyed.{no_characters, size_more, same_more, behind_more, stored_positive}
use Rattle.rbf_check.proofs.keys.key_of.Goals as goal

pub loop-i-init : goal.loop-i-init
loop-i-init c = (refl, λ k low. absurd (omega arith), λ k high. no_characters k)

pub loop-i-preserved : goal.loop-i-preserved
loop-i-preserved c =
    let name = c.args.name.now in
    let before = c.loop-i.invariant in
    let short = c.len-i-end.ensures.name.short in
    let low : c.loop-i.i < 29 = omega (arith, short) in
    let at : c.from.result ≡ c.loop-i.i = omega arith in
    let is = c.lower.ensures ∙ ap lower (sym (get_or_from_slice_get name c.loop-i.i c.byte.result 0 c.byte.ensures)) in (
      size_more name c.loop-i.key c.loop-i.i c.from.result c.lower.result before.0 before.1 before.2 at low is,
      same_more name c.loop-i.key c.loop-i.i c.from.result c.lower.result before.0 before.1 before.2 at low is,
      behind_more name c.loop-i.key c.loop-i.i c.from.result c.lower.result before.0 before.1 before.2 at low is,
    )

pub returns : goal.returns
returns c =
    let after = c.loop-i.invariant in
    record {
      size = after.0;
      characters = λ k low. stored_positive c.args.name.now c.len-i-end.ensures.name k low;
      same = λ k low. after.1 k (omega arith);
      behind = λ k past. after.2 k (omega arith);
    }
