-- Each turn of the loop draws the next length.
use Rattle.std.proofs.Common.{◌≡◌, ◌+◌, List, ℕ, ◌++◌, ◌∷◌, [], sym, ap, ◌∙◌, append_assoc}
use Rattle.std.proofs.lemmas.List.{append-nil}
use Rattle.guest_mods.specs.Random.{random, random_after, draws}
use Rattle.guest_mods.proofs.RandomLemmas.{random-first, random-behind, draws-next}
use Rattle.guest_mods.proofs.programs.push_lengths.Goals as goal

pub loop-i-init : goal.loop-i-init
loop-i-init c = record {
  number = sym (random-first c.args.load.now.seed);
  below = c.requires.seed;
  drawn = sym (append-nil c.args.code.now.items);
}

pub loop-i-preserved : goal.loop-i-preserved
loop-i-preserved c =
    let after : c.next_random-x.result ≡ random_after (random c.args.load.now.seed (0 + c.loop-i._i)) = cc in
    record {
      number = after ∙ sym (random-behind c.args.load.now.seed 0 c.loop-i._i);
      below = c.next_random-x.ensures.below;
      drawn = c.in_ok-push.ensures.items
          ∙ ap (λ (l : List ℕ). l ++ c.draw.result ∷ []) c.loop-i.invariant.drawn
          ∙ append_assoc c.args.code.now.items (draws c.args.load.now.seed 32 0 c.loop-i._i) (c.draw.result ∷ [])
          ∙ ap (λ (d : ℕ). c.args.code.now.items ++ (draws c.args.load.now.seed 32 0 c.loop-i._i ++ d ∷ [])) c.draw.ensures.drawn
          ∙ ap (λ (l : List ℕ). c.args.code.now.items ++ l) (sym (draws-next c.args.load.now.seed 32 0 c.loop-i._i c.next_random-x.result after));
    }
