use Rattle.std.proofs.Common.{◌≡◌, ◌≢◌, ◌∙◌, refl, sym, ap, Bool, true, false, bytes_eq, List, [], ℕ}
use Rattle.clap.specs.Words.{found_of, rows_of}
use Rattle.clap.proofs.WalkLemmas.{first_value-rows}
use Rattle.option_reader.specs.Given.{value_of}
use Rattle.option_reader.proofs.RowLemmas.{value_of-row}
use Rattle.option_reader.proofs.Rules.{same_bytes}
use Rattle.option_reader.proofs.given.GivenWords.value.Goals as goal

not_empty : (name : List ℕ) → name ≢ [] → (b : Bool) → bytes_eq name [] ≡ b → bytes_eq name [] ≡ false
not_empty name other true e = absurd (other (same_bytes name [] e))
not_empty name other false e = e

pub returns : goal.returns
returns c =
    let name = c.args.name.now in
    let rows = rows_of (found_of c.self.inside.matches) in
    c.get_str.ensures ∙ first_value-rows (found_of c.self.inside.matches) name
    ∙ sym (value_of-row name (not_empty name c.requires (bytes_eq name []) refl) rows c.self.invariant)
    ∙ ap (λ given. value_of given name) c.self.view_is
