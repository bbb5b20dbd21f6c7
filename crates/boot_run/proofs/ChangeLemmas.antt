-- Files that are written change under their names alone.
use Rattle.std.proofs.Common.{◌≡◌, ◌≢◌, ℕ, zero, suc, Bool, true, false, Option, Some, None, List, [], ◌∷◌, take, slice_get, bytes_eq, refl, ap, ◌∙◌, All}
use Rattle.std.proofs.lemmas.List.Elements.{All-cons, All-head, All-nil, All-tail}
use Rattle.std.proofs.lemmas.Slice.Eq.{bytes_eq-Decides}
use Rattle.os9_outer.specs.Host.{HostFiles, IfObserved}
use Rattle.boot_run.specs.Images.{WritesAll, WritesUpTo, with_images}
use Rattle.boot_run.specs.Left.{ChangesOnly}

-- files that are as they were have changed under no name
pub same-changes : (names : List (List ℕ)) (before now : Option HostFiles) → now ≡ before → IfObserved (ChangesOnly names) before now
same-changes names None now same = same
same-changes names (Some before) None same = absurd (cc same)
same-changes names (Some before) (Some now) same = λ name others. let equal : now ≡ before = cc same in ap (λ (files : HostFiles). files name) equal

-- no name of these is that one
abbrev IsNone : List ℕ → List (List ℕ) → Type 0
IsNone name names = All (λ other. name ≢ other) names

differs : (name other : List ℕ) → name ≢ other → bytes_eq name other ≡ false
differs name other is = by (bytes_eq name other) refl
  where
    by : (same : Bool) → bytes_eq name other ≡ same → bytes_eq name other ≡ false
    by false same = same
    by true same = absurd (is ((bytes_eq-Decides name other).0 same))

-- under another name the files are as they were
with_images-other : (names images : List (List ℕ)) (files : HostFiles) (name : List ℕ) → IsNone name names → with_images files names images name ≡ files name
with_images-other [] images files name none = refl
with_images-other (first ∷ names) [] files name none = refl
with_images-other (first ∷ names) (image ∷ images) files name none =
    with_images-other names images _ name (All-tail (λ other. name ≢ other) first names none) ∙ rw (differs name first (All-head (λ other. name ≢ other) first names none)) refl

is-none-of-first : (n : ℕ) (names : List (List ℕ)) (name : List ℕ) → IsNone name names → IsNone name (take n names)
is-none-of-first zero [] name none = none
is-none-of-first (suc n) [] name none = none
is-none-of-first zero (first ∷ names) name none = All-nil (λ other. name ≢ other)
is-none-of-first (suc n) (first ∷ names) name none =
    All-cons (λ other. name ≢ other) first (take n names) (All-head (λ other. name ≢ other) first names none) (is-none-of-first n names name (All-tail (λ other. name ≢ other) first names none))

not-named : (names : List (List ℕ)) (number : ℕ) (name other : List ℕ) → slice_get names number ≡ Some other → IsNone name names → name ≢ other
not-named [] number name other named none = absurd (cc named)
not-named (first ∷ names) zero name other named none =
    let same : first ≡ other = cc named in rw (← same) (All-head (λ other. name ≢ other) first names none)
not-named (first ∷ names) (suc number) name other named none =
    not-named names number name other named (All-tail (λ other. name ≢ other) first names none)

-- all images were written
pub all-change : (names images : List (List ℕ)) (before now : Option HostFiles) → IfObserved (WritesAll names images) before now → IfObserved (ChangesOnly names) before now
all-change names images None now wrote = wrote
all-change names images (Some before) None wrote = wrote
all-change names images (Some before) (Some now) wrote = λ name none. wrote name ∙ with_images-other names images before name none

-- those up to one were
pub first-change : (number : ℕ) (names images : List (List ℕ)) (before now : Option HostFiles) → IfObserved (WritesUpTo number names images) before now → IfObserved (ChangesOnly names) before now
first-change number names images None now wrote = wrote
first-change number names images (Some before) None wrote = wrote
first-change number names images (Some before) (Some now) wrote = λ name none.
    wrote.others name (not-named names number name wrote.name wrote.named none) ∙ with_images-other (take number names) (take number images) before name (is-none-of-first number names name none)
