-- Each turn of the loop makes the next random number.
use Rattle.std.proofs.Common.{sym}
use Rattle.guest_mods.proofs.RandomLemmas.{random-first, random-next}
use Rattle.guest_mods.proofs.random.random_at.Goals as goal

pub loop-i-init : goal.loop-i-init
loop-i-init c = record { is = sym (random-first c.args.seed); below = c.requires }

pub loop-i-preserved : goal.loop-i-preserved
loop-i-preserved c = record {
  is = (let next = random-next c.args.seed c.loop-i._i in cc);
  below = c.next_random-x.ensures.below;
}
