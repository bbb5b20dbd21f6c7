use Rattle.std.proofs.Common.{rules, IsSome}
use Rattle.io_model.specs.Path.{PathTable, desc_of}
use Rattle.path_desc.proofs.PathLemmas.{are-described}
use Rattle.path_desc.proofs.paths.Paths.set_desc.Goals as goal

pub invariant_of-self : goal.invariant_of-self
invariant_of-self c =
    let paths : PathTable = record { descs = c.self.inside.descs.items; own = c.self.inside.own.items } in
    let live : IsSome (desc_of paths c.args.s.0) = search rules in
    are-described paths c.args.s.0 c.args.d c.self.invariant live

pub returns-clause-shape : goal.returns-clause-shape
returns-clause-shape c =
    let paths : PathTable = record { descs = c.self.inside.descs.items; own = c.self.inside.own.items } in
    let live : IsSome (desc_of paths c.args.s.0) = search rules in
    are-described paths c.args.s.0 c.args.d c.self.invariant live
