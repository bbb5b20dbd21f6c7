-- The last of the names of a path, and those before it.
use Rattle.std.proofs.Common.{◌≡◌, ℕ, Some, List, [], ◌∷◌, ◌++◌, refl, sym, ap, ◌∙◌}
use Rattle.vol_tools.specs.Path.{behind, last_place, place_in, path_names, place_of}

last_put : (way : List (List ℕ)) (name : List ℕ) → last_place (way ++ name ∷ []) ≡ Some (record { way = way; name = name })
last_put [] name = refl
last_put (one ∷ []) name = refl
last_put (one ∷ next ∷ way) name = ap (behind one) (last_put (next ∷ way) name)

pub place_put : (path : List ℕ) (names way : List (List ℕ)) (name : List ℕ) → Some names ≡ path_names path → names ≡ way ++ name ∷ [] → Some (record { way = way; name = name }) ≡ place_of path
place_put path names way name are ends = sym (ap place_in (sym are) ∙ ap last_place ends ∙ last_put way name)
