use Rattle.std.proofs.Common.{◌≡◌, ◌≤◌, ℕ, sym, ap, ◌∙◌, drop, take, arith}
use Rattle.os9_words.proofs.VolLemmas.{rest-all, rest-few}
use Rattle.os9_words.proofs.vol_words.rest_words.Goals as goal
use Rattle.os9_words.proofs.vol_words.rest_words.Goals.{else-loop-place-test, then-loop-place-test+in-None}

pub of-requires : goal.of-requires
of-requires c = rw c.loop-place.invariant.copied (rest-few c.args.given.now.arguments c.loop-place.place c.loop-place.invariant.few)

pub returns : goal.returns
returns c =
    let within : c.loop-place.place ≤ c.args.count = c.loop-place.auto.place-end c.requires.least in
    elim c.loop-place-test.branch [
      | else-loop-place-test w ↦ let same : c.loop-place.place ≡ c.args.count = omega (arith, within) in c.of.ensures
          ∙ c.loop-place.invariant.copied ∙ ap (λ (n : ℕ). drop 2 (take n c.args.given.now.arguments)) same
      | then-loop-place-test+in-None w ↦ c.of.ensures ∙ c.loop-place.invariant.copied ∙ rest-all c.args.given.now.arguments c.loop-place.place c.args.count (sym w.in-None.ensures) within
    ]
