-- The first of a list that passes.
use Rattle.std.proofs.Common.{◌≡◌, Bool, true, IsSome, List, [], ◌∷◌, arith}
use Rattle.std.specs.List.{find, list_any}

-- an element that passes is found
pub IsSome-find : {X : Type 0} → (p : X → Bool) (xs : List X) → list_any p xs ≡ true → IsSome (find p xs)
IsSome-find {X} p [] some = absurd (cc)
IsSome-find {X} p (x ∷ xs) some = grind (arith, IsSome-find p xs)
