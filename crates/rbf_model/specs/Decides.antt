-- A test of a proposition.
use Rattle.std.specs.Prelude.{Bool, MatchBool}

-- the answer says whether the proposition holds
abbrev pub Decides : Bool → Type 0 → Type 0
Decides answer P = MatchBool answer P (¬ P)
