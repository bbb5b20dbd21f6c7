-- What a file holds when one was written under a name.
use Rattle.std.proofs.Common.{◌≡◌, ◌≢◌, ℕ, Bool, true, false, Some, List, [], ◌∷◌, bytes_eq, unwrap_or, refl, sym, ap, ◌∙◌}
use Rattle.std.specs.Prelude.{if◌then◌else◌}
use Rattle.std.proofs.lemmas.Slice.Eq.{bytes_eq-Decides}
use Rattle.os9_outer.specs.Host.{HostFiles, file_contents}
use Rattle.boot_run.specs.Images.{WritesAll}

same-name : (name : List ℕ) → bytes_eq name name ≡ true
same-name name = (bytes_eq-Decides name name).1 refl

differs : (one other : List ℕ) → other ≢ one → bytes_eq one other ≡ false
differs one other apart = by (bytes_eq one other) refl
  where
    by : (same : Bool) → bytes_eq one other ≡ same → bytes_eq one other ≡ false
    by false same = same
    by true same = absurd (apart (sym ((bytes_eq-Decides one other).0 same)))

-- the file of the name
pub holds-written : (files now : HostFiles) (name bytes : List ℕ) → WritesAll (name ∷ []) (bytes ∷ []) files now
    → file_contents now name ≡ bytes
holds-written files now name bytes writes =
    ap (λ held. unwrap_or held []) (writes name ∙ ap (λ same. if same then Some bytes else files name) (same-name name))

-- another
pub keeps-other : (files now : HostFiles) (name other bytes : List ℕ) → other ≢ name
    → WritesAll (other ∷ []) (bytes ∷ []) files now → file_contents now name ≡ file_contents files name
keeps-other files now name other bytes apart writes =
    ap (λ held. unwrap_or held []) (writes name ∙ ap (λ same. if same then Some bytes else files name) (differs name other apart))
