-- The last name of the path is that of the place.
use Rattle.std.proofs.Common.{◌≡◌, ◌++◌, ◌∷◌, [], Some, arith}
use Rattle.std.proofs.lemmas.Grind.{common_steps}
use Rattle.vol_tools.specs.Path.{path_names}
use Rattle.vol_tools.proofs.Places.{place_put}
use Rattle.vol_tools.proofs.place.place_of.Goals as goal

pub returns-in-Some-pop : goal.returns-in-Some-pop
returns-in-Some-pop c =
    let are : Some c.in-Some.way.items ≡ path_names c.args.path.now = grind (arith, common_steps) in
    let ends : c.in-Some.way.items ≡ c.pop.new.self.items ++ c.in-Some-pop.name ∷ [] = grind (arith, common_steps) in
    place_put c.args.path.now c.in-Some.way.items c.pop.new.self.items c.in-Some-pop.name are ends
