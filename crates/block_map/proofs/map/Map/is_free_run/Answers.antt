use Rattle.std.proofs.Common.{List, Option, arith, ap, ◌∙◌, sym}
use Rattle.proc_model.specs.declared.group.BlockId.{BlockId}
use Rattle.proc_model.specs.Slots.{Slots}
use Rattle.block_map.proofs.Places.{at, free_part, part_free}
use Rattle.block_map.proofs.map.Map.is_free_run.Goals as goal

pub returns-then-len-first : goal.returns-then-len-first
returns-then-len-first c =
    let places = c.self.inside.places in
    let same = ap (λ (slots : Slots BlockId). slots.places) c.self.view_is in (
      λ all. (
        omega arith,
        λ slot low high. ap (λ (list : List (Option BlockId)). at list slot) (sym same) ∙ free_part
            places c.args.first c.args.len (omega (arith, c.self.invariant.eight_places))
            (c.name_nothing.ensures.0 all) slot low high,
      ),
      λ run. c.name_nothing.ensures.1 (part_free places c.args.first c.args.len (λ slot low high. ap (λ (list : List (Option BlockId)). at list slot) same ∙ run.1 slot low high)),
    )
