use Rattle.std.proofs.Common.{◌/◌, ◌++◌, ◌∷◌, [], ℕ, List, ap, ◌∙◌}
use Rattle.console_run.specs.Texts.{hex_digit}
use Rattle.console_run.proofs.PushLemmas.{word-behind}
use Rattle.console_run.proofs.texts.push_byte.Goals as goal

pub returns-clause-word : goal.returns-clause-word
returns-clause-word c =
    let text : List ℕ = c.args.text.now.items in
    c.in_ok-push-3.ensures.items
    ∙ ap (λ (front : List ℕ). front ++ c.hex_digit-2.result ∷ []) (c.in_ok-push-2.ensures.items ∙ ap (λ (front : List ℕ). front ++ c.hex_digit.result ∷ []) c.in_ok-push.ensures.items)
    ∙ word-behind text 32 c.hex_digit.result c.hex_digit-2.result
    ∙ ap (λ (high : ℕ). text ++ 32 ∷ high ∷ c.hex_digit-2.result ∷ []) c.hex_digit.ensures
    ∙ ap (λ (low : ℕ). text ++ 32 ∷ hex_digit (c.args.byte / 16) ∷ low ∷ []) c.hex_digit-2.ensures
