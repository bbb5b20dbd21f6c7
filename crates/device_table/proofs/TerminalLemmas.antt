-- A driver in the list is replaced by one that stands in a relation to it: of the terminals that the
-- lists tell, exactly that one changed.
use Rattle.std.proofs.Common.{◌≡◌, ℕ, ◌<◌, option_map, List, map, length, get_or, slice_set, refl, ap, ◌∙◌}
use Rattle.std.proofs.lemmas.List.{map-set}
use Rattle.std.proofs.lemmas.Option.{slice_get-map, slice_get_read}
use Rattle.os9_outer.specs.TerminalState.{TerminalState, ChangesOneTerminal}

pub ChangesOne-set : {Driver : Type 0} (screen : Driver → TerminalState) (change : TerminalState → TerminalState
    → Type 0) (drivers : List Driver) (n : ℕ) (old new : Driver) → n < length drivers → old ≡ get_or drivers n old
    → change (screen old) (screen new) → ChangesOneTerminal change n (map screen drivers)
    (map screen (slice_set drivers n new))
ChangesOne-set screen change drivers n old new inside here changed = (
  screen old,
  screen new,
  slice_get-map screen drivers n ∙ ap (option_map screen) (slice_get_read drivers (length drivers) n old refl inside here),
  map-set screen drivers n new,
  changed,
)
