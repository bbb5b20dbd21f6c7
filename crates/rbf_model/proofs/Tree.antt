-- What the tree rests on: the bytes of the directories that are reached.
use Rattle.std.proofs.Common.{◌≡◌, ℕ, List, subst}
use Rattle.rbf_model.specs.Geometry.{Geometry}
use Rattle.rbf_model.specs.Tree.{EntryNames, ReachedFile, root, named, Links, IsEntry, IsParent, of_root, of_other, HasDots, self_first, parent_first, dot, dot_dot}
use Rattle.rbf_model.specs.Fields.{directory_entry}

-- what is reached stays so where the reached directories keep their bytes
pub reached_along : (g : Geometry) (dirs news : ℕ → List ℕ) → ((d : ℕ) → ReachedFile g dirs d → dirs d ≡ news d) → {n : ℕ} → ReachedFile g dirs n → ReachedFile g news n
reached_along g dirs news same root = root
reached_along g dirs news same (named {d = d} {i = i} {n = n} r names number) =
    named (reached_along g dirs news same r) (subst (λ c. EntryNames c i n) (same d r) names) number

-- and where those do that are reached afterwards
pub reached_back : (g : Geometry) (dirs news : ℕ → List ℕ) → ((d : ℕ) → ReachedFile g news d → dirs d ≡ news d) → {n : ℕ} → ReachedFile g dirs n → ReachedFile g news n
reached_back g dirs news same root = root
reached_back g dirs news same (named {d = d} {i = i} {n = n} r names number) =
    let before = reached_back g dirs news same r in
    named before (subst (λ c. EntryNames c i n) (same d before) names) number

-- so do a directory's links
pub links_along : (g : Geometry) (dirs news : ℕ → List ℕ) → ((d : ℕ) → ReachedFile g dirs d → dirs d ≡ news d) → (d i n : ℕ) → Links g dirs d i n → Links g news d i n
links_along g dirs news same d i n link = record {
  from = reached_along g dirs news same link.from;
  names = subst (λ c. EntryNames c i n) (same d link.from) link.names;
}

-- a directory's parent
pub parent_along : (g : Geometry) (dirs news : ℕ → List ℕ) → ((d : ℕ) → ReachedFile g dirs d → dirs d ≡ news d) → (d p : ℕ) → IsParent g dirs d p → IsParent g news d p
parent_along g dirs news same d p (of_root a b) = of_root a b
parent_along g dirs news same d p (of_other {i = i} a link) = of_other a (links_along g dirs news same p i d link)

-- and its first two entries
pub dots_along : (g : Geometry) (dirs news : ℕ → List ℕ) → ((d : ℕ) → ReachedFile g dirs d → dirs d ≡ news d) → (d : ℕ) → ReachedFile g dirs d → HasDots g dirs d → HasDots g news d
dots_along g dirs news same d r (self_first {p = p} one two parent) =
    self_first (subst (λ c. IsEntry (directory_entry c 0) dot d) (same d r) one) (subst (λ c. IsEntry (directory_entry c 1) dot_dot p) (same d r) two)
    (parent_along g dirs news same d p parent)
dots_along g dirs news same d r (parent_first {p = p} one two parent) =
    parent_first (subst (λ c. IsEntry (directory_entry c 0) dot_dot p) (same d r) one) (subst (λ c. IsEntry (directory_entry c 1) dot d) (same d r) two)
    (parent_along g dirs news same d p parent)
