-- A text that is written part by part gains a prefix of the whole.
use Rattle.std.proofs.Common.{◌≡◌, ℕ, zero, suc, ◌+◌, Option, Some, None, List, [], ◌∷◌, ◌++◌, take, length, refl, sym, ap, ◌∙◌, append_assoc, arith}
use Rattle.std.proofs.Math.Seq.{take-append-add}
use Rattle.std.proofs.lemmas.Grind.{common_steps}
use Rattle.os9_outer.specs.Stream.{stream_with, GainsPrefix}

pub appended-appended : (stream : Option (List ℕ)) (a b : List ℕ) → stream_with (stream_with stream a) b ≡ stream_with stream (a ++ b)
appended-appended None a b = refl
appended-appended (Some before) a b = ap Some (append_assoc before a b)

-- the first of these bytes are the first of these and more bytes
take-front : (k : ℕ) (a b : List ℕ) → (j : ℕ) × (take k a ≡ take j (a ++ b))
take-front zero a b = (0, grind (arith, common_steps))
take-front (suc k) [] b = (0, grind (arith, common_steps))
take-front (suc k) (x ∷ a) b = let rest = take-front k a b in (suc rest.0, ap (λ bytes. x ∷ bytes) rest.1)

pub GainsPrefix-front : (stream : Option (List ℕ)) (a b : List ℕ) (now : Option (List ℕ)) → GainsPrefix stream a now → GainsPrefix stream (a ++ b) now
GainsPrefix-front stream a b now gained =
    let front = take-front gained.0 a b in (front.0, gained.1 ∙ ap (stream_with stream) front.1)

pub GainsPrefix-then : (stream : Option (List ℕ)) (a b : List ℕ) (between now : Option (List ℕ)) → between ≡ stream_with stream a → GainsPrefix between b now → GainsPrefix stream (a ++ b) now
GainsPrefix-then stream a b between now first gained = (
  length a + gained.0,
  gained.1
      ∙ ap (λ before. stream_with before (take gained.0 b)) first
      ∙ appended-appended stream a (take gained.0 b)
      ∙ ap (stream_with stream) (sym (take-append-add a b gained.0)),
)
