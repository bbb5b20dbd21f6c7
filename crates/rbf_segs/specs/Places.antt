-- The places in which a `Segs` keeps its segments.
use Rattle.std.specs.Prelude.{◌≡◌, ℕ, ◌-◌, ◌≤◌, List, ◌++◌, length, take, All, replicate}
use Rattle.std.proofs.Common.{sym, ap₂}
use Rattle.rbf_segs.specs.declared.segs.Segs.TheInside.{Inside}
use Rattle.rbf_segs.specs.Segments.{IsSegment}

-- a list that fills 48 places: the places after the segments are zero
abbrev pub in_places : List (ℕ × ℕ) → List (ℕ × ℕ)
in_places segments = segments ++ replicate (48 - length segments) (0, 0)

-- the places hold the segments, with zeros after them
pub record HoldsSegments (inside : Inside) : Type 0 where
  pub few : inside.len ≤ 48
  pub counted : length (take inside.len inside.places) ≡ inside.len
  pub zeros : inside.places ≡ in_places (take inside.len inside.places)
  pub each : All IsSegment (take inside.len inside.places)

-- the list of segments determines the places
pub inside_again : (s : Inside) → HoldsSegments s
    → record { places = in_places (take s.len s.places); len = length (take s.len s.places) } ≡ s
inside_again s inside =
    ap₂ (λ places len. record { places = places; len = len }) (sym inside.zeros) inside.counted
