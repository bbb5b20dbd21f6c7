use Rattle.std.proofs.Common.{◌≡◌, get_or, sym, ap, ◌∙◌}
use Rattle.std.proofs.Math.ListN.{get_or-map}
use Rattle.os9_base.specs.Name.{lower}
use Rattle.os9_base.proofs.name.same_letters.Goals as goal

pub returns-then-lower : goal.returns-then-lower
returns-then-lower c =
    let differ = c.if-lower.true in (
      λ h. cc,
      λ same.
          let here : lower (get_or c.args.a.now c.loop-i.i 0) ≡ lower (get_or c.args.b.now c.loop-i.i 0) =
          sym (get_or-map lower c.args.a.now c.loop-i.i 0) ∙ ap (λ xs. get_or xs c.loop-i.i 0) same ∙ get_or-map lower c.args.b.now c.loop-i.i 0 in
          absurd (c.if-lower.true cc),
    )
