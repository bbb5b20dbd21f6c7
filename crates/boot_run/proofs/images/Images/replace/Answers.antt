use Rattle.std.proofs.Common.{◌≡◌, ◌∙◌, map, refl, rules, Vec, Global, ℕ}
use Rattle.std.proofs.lemmas.List.{map-set}
use Rattle.boot_run.proofs.images.Images.replace.Goals as goal

pub returns-clause-replaced : goal.returns-clause-replaced
returns-clause-replaced c =
    let place : c.from.result ≡ c.args.number = search rules in
    let given : c.replace.new.dest ≡ c.args.image = search rules in
    let was : map (λ (image : Vec ℕ Global). image.items) c.self.inside.images.items ≡ c.args.self.now = search rules in
    map-set (λ (image : Vec ℕ Global). image.items) c.self.inside.images.items c.from.result c.replace.new.dest ∙ rw (place, given, was) refl
