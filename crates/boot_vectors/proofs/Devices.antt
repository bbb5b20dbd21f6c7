-- What is seen of devices that are put into a list one by one.
use Rattle.std.proofs.Common.{◌≡◌, List, [], ◌∷◌, ◌++◌, map}
use Rattle.std.specs.List.{All}
use Rattle.std.proofs.lemmas.List.{map-append}
use Rattle.std.proofs.lemmas.List.Elements.{All-nil, All-cons, All-append}

-- each of them is such a one still
pub one-more : {X Y : Type 0} (P : Y → Type 0) (view : X → Y) (xs now : List X) (x : X) → now ≡ xs ++ x ∷ [] → All P (map view xs) → P (view x) → All P (map view now)
one-more P view xs now x is all more =
    rw (is, map-append view xs (x ∷ [])) (All-append P (map view xs) (view x ∷ []) all (All-cons P (view x) [] more (All-nil P)))
