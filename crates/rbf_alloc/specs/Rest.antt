-- The clusters that a file gives up when it is cut.
use Rattle.std.specs.Prelude.{◌≡◌, ℕ, ◌&&◌, Bool, true, false, not}
use Rattle.rbf_alloc.specs.Own.{in_own, in_stretch}
use Rattle.rbf_alloc.specs.declared.own.Stretch.{Stretch}
use Rattle.rbf_alloc.specs.declared.rest.CutSectors.{CutSectors}

-- a cluster of k sectors has one of the old sectors and none of the kept ones
abbrev pub in_rest : ℕ → CutSectors → ℕ → Bool
in_rest k cut c = in_own k cut.old c && not (in_own k cut.kept c)

-- a cluster of a stretch has none of the kept sectors
abbrev pub in_rest_of : ℕ → CutSectors → Stretch → ℕ → Bool
in_rest_of k cut part c = in_stretch part c && not (in_own k cut.kept c)

-- all clusters of a stretch are kept, or one of them is given up
abbrev pub AllKept : ℕ → CutSectors → Stretch → Type 0
AllKept k cut part = (c : ℕ) → in_stretch part c ≡ true → in_own k cut.kept c ≡ true

pub record IsRest (k : ℕ) (cut : CutSectors) (part : Stretch) (c : ℕ) : Type 0 where
  pub in_part : in_stretch part c ≡ true
  pub given_up : in_own k cut.kept c ≡ false
