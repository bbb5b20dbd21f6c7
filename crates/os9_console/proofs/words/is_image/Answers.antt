use Rattle.std.proofs.Common.{◌≡◌, ℕ, List, bytes_eq, subst, sym, ◌∙◌, arith}
use Rattle.os9_console.proofs.WordLemmas.{none-more, some-there}
use Rattle.os9_console.proofs.words.is_image.Goals as goal

pub returns-then-eq : goal.returns-then-eq
returns-then-eq c =
    let same : bytes_eq c.args.name.now c.word.result.now ≡ c.eq.result = subst (λ (text : List ℕ). bytes_eq c.args.name.now text ≡ c.eq.result) c.text.ensures (sym c.eq.ensures) in
    sym (some-there c.args.name.now c.args.boot.now.files c.loop-place.place c.word.result.now c.word.ensures (same ∙ c.if-eq.true))

pub loop-place-preserved : goal.loop-place-preserved
loop-place-preserved c =
    let same : bytes_eq c.args.name.now c.word.result.now ≡ c.eq.result = subst (λ (text : List ℕ). bytes_eq c.args.name.now text ≡ c.eq.result) c.text.ensures (sym c.eq.ensures) in
    record {
      within = omega (arith, c.len-place-end.ensures, c.loop-place-test.true);
      none = none-more c.args.name.now c.args.boot.now.files c.loop-place.place c.word.result.now c.word.ensures c.loop-place.invariant.none (same ∙ c.if-eq.false);
    }
