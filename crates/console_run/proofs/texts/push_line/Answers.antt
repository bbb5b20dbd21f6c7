use Rattle.std.proofs.Common.{◌++◌, ◌∷◌, [], ℕ, All, List, ap, ◌∙◌, subst}
use Rattle.std.specs.Prelude.{codes}
use Rattle.std.specs.List.{flat_map}
use Rattle.std.proofs.lemmas.List.Elements.{All-append, All-cons, All-nil}
use Rattle.console_run.specs.Texts.{IsByte, byte_word}
use Rattle.console_run.proofs.PushLemmas.{line-behind}
use Rattle.console_run.proofs.texts.push_line.Goals as goal

pub returns-clause-line : goal.returns-clause-line
returns-clause-line c =
    let line = c.args.line.now in
    let number = c.in_ok-push_number.ensures in
    let term = c.in_ok-extend_from_slice.ensures.items ∙ ap (λ (front : List ℕ). front ++ codes " TERM") number in
    let bytes = c.in_ok-push_bytes.ensures.words ∙ ap (λ (items : List ℕ). c.extend_from_slice.new.self.items ++
    flat_map byte_word items) c.as_slice.ensures.value ∙ ap (λ (front : List ℕ). front ++ flat_map byte_word
    line.bytes.items) term in
    let key = c.in_ok-push_byte.ensures.word ∙ ap (λ (front : List ℕ). front ++ byte_word c.args.line.now.last) bytes in
    c.in_ok-push.ensures.items ∙ ap (λ (front : List ℕ). front ++ 10 ∷ []) key ∙ line-behind c.args.text.now.items line

pub returns-clause-bytes : goal.returns-clause-bytes
returns-clause-bytes c =
    let line = c.args.line.now in
    let front = subst (All IsByte) c.as_slice.ensures.value c.in_ok-push_bytes.ensures.bytes in
    All-append IsByte line.bytes.items (line.last ∷ []) front (All-cons IsByte line.last [] c.in_ok-push_byte.ensures.byte (All-nil IsByte))
