-- One more byte of the map is pushed, and in the end all are.
use Rattle.std.proofs.Common.{◌≡◌, ◌++◌, ℕ, map, arith, append_assoc, ap, ◌∙◌}
use Rattle.std.specs.List.{range_with_len}
use Rattle.std.proofs.lemmas.Grind.{common_steps}
use Rattle.std.proofs.lemmas.List.FromFn.{map-range_with_len_more}
use Rattle.vol_tools.specs.Image.{marks_byte, marks_map}
use Rattle.vol_tools.proofs.parts.push_map.Goals as goal

pub loop-i-preserved : goal.loop-i-preserved
loop-i-preserved c =
    let more = map-range_with_len_more (marks_byte c.args.marked) 0 c.loop-i.i c.loop-i.i (omega arith) in
    grind (arith, common_steps, append_assoc, more)

pub returns : goal.returns
unfolding marks_map
returns c =
    let end : c.loop-i.i ≡ c.args.bytes = omega arith in
    c.loop-i.invariant ∙ ap (λ (n : ℕ). c.args.image.now.items ++ map (marks_byte c.args.marked) (range_with_len 0 n)) end
