use Rattle.std.proofs.Common.{◌≡◌, ◌-◌, ◌/◌, ◌++◌, ◌∷◌, [], ℕ, List, suc, append_assoc, ap, sym, ◌∙◌, arith}
use Rattle.lock_model.specs.Lines.{hex_digits}
use Rattle.record_locks.proofs.hex.+push_hex.Goals as goal

pub push_hex-requires : goal.push_hex-requires
push_hex-requires t c = (omega (arith, c.if-count-eq0.false, c.decreases), tt)

pub returns : goal.returns
returns t c =
    let more : c.args.count ≡ suc (c.args.count - 1) = omega (arith, c.if-count-eq0.false) in
    c.in_ok-push.ensures.items
    ∙ ap (λ (bytes : List ℕ). bytes ++ c.hex_digit.result ∷ []) c.in_ok-push_hex.ensures
    ∙ append_assoc c.args.text.now.items (hex_digits (c.args.count - 1) (c.args.number / 16)) (c.hex_digit.result ∷ [])
    ∙ ap (λ (digit : ℕ). c.args.text.now.items ++ (hex_digits (c.args.count - 1) (c.args.number / 16) ++ digit ∷ [])) c.hex_digit.ensures
    ∙ ap (λ (count : ℕ). c.args.text.now.items ++ hex_digits count c.args.number) (sym more)
