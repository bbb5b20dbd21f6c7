-- In a tree, what names a file is a reached directory, and what it names is a file.
use Rattle.std.proofs.Common.{◌≡◌, ◌≢◌, ℕ, Option, Some, None, IsSome, refl, ap, ⊎_elim}
use Rattle.std.proofs.lemmas.Bool.{cases_eq}
use Rattle.rbf_model.specs.Geometry.{Geometry}
use Rattle.rbf_model.specs.File.{DiskFile}
use Rattle.rbf_model.specs.Tree.{EntryNames, ReachedFile, named}
use Rattle.rbf_model.specs.Volume.{IsTree, directories, listing}
use Rattle.rbf_model.proofs.Lists.{some_is}
use Rattle.rbf_model.proofs.Keeps.{no_entry}

-- a number is one of two others, or neither
pub by_place : {X : Type 0} (n d m : ℕ) → (m ≡ n → X) → (m ≡ d → X) → (m ≢ n → m ≢ d → X) → X
by_place n d m here above beside =
    ⊎_elim here (λ not_n. ⊎_elim above (λ not_d. beside not_n not_d) (cases_eq m d)) (cases_eq m n)

module _ (g : Geometry) (files : ℕ → Option DiskFile) (tree : IsTree g files) where
  pub names_from : (e j m : ℕ) → EntryNames (directories files e) j m → ReachedFile g (directories files) e
  names_from e j m names = at (files e) refl
    where
      at : (o : Option DiskFile) → files e ≡ o → ReachedFile g (directories files) e
      at None h = absurd (no_entry (directories files e) j (ap listing h) names.entry)
      at (Some f) h = (tree.reached e).0 (some_is (files e) f h)

  pub names_to : (e j m : ℕ) → EntryNames (directories files e) j m → IsSome (files m)
  names_to e j m names = (tree.reached m).1 (named (names_from e j m names) names (tree.numbers e j m names))
