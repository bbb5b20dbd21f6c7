use Rattle.std.proofs.Common.{◌≡◌, ◌==◌, ℕ, ◌<◌, Option, Some, None, IfSome, position, List, length, sym, rules}
use Rattle.std.proofs.lemmas.Iterator.{YieldsList-from_slice}
use Rattle.std.proofs.lemmas.Iterator.Search.{position_from_yields_List}
use Rattle.std.proofs.lemmas.List.Quantifiers.{position-Some}
use Rattle.guest_memory.proofs.lines.return_place.Goals as goal

pub returns-clause-place : goal.returns-clause-place
returns-clause-place c =
    position_from_yields_List (λ byte. byte == 13) _ _ c.position.result c.position.ensures.ran (YieldsList-from_slice _ c.iter.ensures.rest) (λ x b q k. search rules)

inside : (bytes : List ℕ) (place : Option ℕ) → place ≡ position (λ byte. byte == 13) bytes → IfSome place (λ place. place < length bytes)
inside bytes None is = _
inside bytes (Some place) is = (position-Some (λ byte. byte == 13) bytes place 0 (sym is)).0

pub returns-clause-within : goal.returns-clause-within
returns-clause-within c = inside c.args.bytes.now c.position.result (returns-clause-place c)
