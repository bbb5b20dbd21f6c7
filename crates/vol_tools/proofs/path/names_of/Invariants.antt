-- The parts so far are names.
use Rattle.std.proofs.Common.{◌≡◌, ℕ, true, List, map, take, Bor}
use Rattle.std.specs.List.{list_all}
use Rattle.vol_tools.specs.Path.{is_name_text}
use Rattle.vol_tools.proofs.path.names_of.Given as goal

abbrev pub invariant-loop-part : goal.invariant-loop-part
invariant-loop-part l = record {
  are : l.names.items ≡ map (λ (part : Bor (List ℕ)). part.now) (take l.part-index l.parts);
  named : list_all is_name_text (map (λ (part : Bor (List ℕ)). part.now) (take l.part-index l.parts)) ≡ true;
}
