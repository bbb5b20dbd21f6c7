use Rattle.std.proofs.Common.{◌∙◌, ℕ, Some, sym, ap}
use Rattle.guest_memory.specs.Tie.{cells_of}
use Rattle.device_paths.proofs.NamesLemmas.{slash-list, other-list}
use Rattle.device_paths.proofs.list.read_path_list.Goals as goal

pub returns-in-Some-eq47-clause-list : goal.returns-in-Some-eq47-clause-list
returns-in-Some-eq47-clause-list c =
    c.read_behind_slash.ensures.list
    ∙ slash-list (cells_of c.args.memory.now c.args.p.0) c.args.at
    (sym c.byte.ensures.byte ∙ c.in-Some-eq47.is ∙ ap (λ (byte : ℕ). Some byte) c.in-Some-eq47.field-0-test)

pub returns-in-Some-clause-list : goal.returns-in-Some-clause-list
returns-in-Some-clause-list c =
    c.read_relative.ensures.list
    ∙ other-list (cells_of c.args.memory.now c.args.p.0) c.args.at c.in-Some.field-0
    (sym c.byte.ensures.byte ∙ c.in-Some.is) c.in-Some.field-0-test.1
