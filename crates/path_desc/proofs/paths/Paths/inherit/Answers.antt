use Rattle.std.proofs.Common.{◌≡◌, ◌∙◌, [], ap, arith}
use Rattle.io_model.specs.Path.{PathTable, inherited_numbers}
use Rattle.path_desc.proofs.PathLemmas.{are-inherited, same-item}
use Rattle.path_desc.proofs.paths.Paths.inherit.Goals as goal

pub invariant_of-self : goal.invariant_of-self
invariant_of-self c =
    are-inherited (record { descs = c.self.inside.descs.items; own = c.self.inside.own.items }) c.args.from.0
    c.args.to.0 c.inherited.result c.self.invariant c.requires.parent c.requires.child
    (c.inherited.ensures ∙ ap inherited_numbers (c.index.ensures ∙ same-item c.self.inside.own.items c.args.from.0
    c.index.result.now [] (omega (arith, c.self.invariant.processes, c.requires.parent))))

pub returns-clause-shape : goal.returns-clause-shape
returns-clause-shape c =
    are-inherited (record { descs = c.self.inside.descs.items; own = c.self.inside.own.items }) c.args.from.0
    c.args.to.0 c.inherited.result c.self.invariant c.requires.parent c.requires.child
    (c.inherited.ensures ∙ ap inherited_numbers (c.index.ensures ∙ same-item c.self.inside.own.items c.args.from.0
    c.index.result.now [] (omega (arith, c.self.invariant.processes, c.requires.parent))))
