-- Each turn of the loop draws the next slice.
use Rattle.std.proofs.Common.{◌≡◌, ◌+◌, List, ℕ, ◌++◌, ◌∷◌, [], sym, ap, ◌∙◌}
use Rattle.guest_mods.specs.Random.{random, random_after, slice_lengths}
use Rattle.guest_mods.proofs.RandomLemmas.{random-behind, draws-next}
use Rattle.guest_mods.proofs.slices.stress_slices.Goals as goal

pub loop-i-preserved : goal.loop-i-preserved
loop-i-preserved c =
    let after : c.next_random-x.result ≡ random_after (random c.args.seed (800 + c.loop-i._i)) = cc in
    record {
      number = after ∙ sym (random-behind c.args.seed 800 c.loop-i._i);
      below = c.next_random-x.ensures.below;
      drawn = c.in_ok-push_length.ensures
          ∙ ap (λ (l : List ℕ). l ++ c.draw.result ∷ []) c.loop-i.invariant.drawn
          ∙ ap (λ (d : ℕ). slice_lengths c.args.seed c.loop-i._i ++ d ∷ []) c.draw.ensures.drawn
          ∙ sym (draws-next c.args.seed 500 800 c.loop-i._i c.next_random-x.result after);
    }
