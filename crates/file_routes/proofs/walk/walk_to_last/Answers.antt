use Rattle.std.proofs.Common.{[], ◌∷◌, sym, subst}
use Rattle.guest_memory.specs.Tie.{cells_of}
use Rattle.os9_base.specs.Cells.{Cells}
use Rattle.device_paths.specs.Standing.{IsFirstRead}
use Rattle.device_paths.proofs.NamesLemmas.{same-still}
use Rattle.file_routes.specs.Walks.{LastStands}
use Rattle.file_routes.proofs.WalkLemmas.{first-of, last-read}
use Rattle.file_routes.proofs.walk.walk_to_last.Goals as goal

pub unreachable-requires : goal.unreachable-requires
unreachable-requires g c =
    let p = c.args.walker.process.0 in
    let reached = c.in-Ok.ensures.reaches c.requires.names.names c.requires.names.stand in
    let last : LastStands (cells_of c.reach_last.new.memory p) c.requires.names.names c.in-Ok.last.at =
    subst (λ (cells : Cells). LastStands cells c.requires.names.names c.in-Ok.last.at) (sym (c.reach_last.ensures.same.cells p)) reached.last
    in
    subst (IsFirstRead (cells_of c.reach_last.new.memory p) (last.name ∷ [])) c.in-Err-read_name.is (c.read_name.ensures.first (last.name ∷ []) last.stand)

pub returns-in-Err-clause-walks : goal.returns-in-Err-clause-walks
returns-in-Err-clause-walks g c names stand = record {
  walks = (c.in-Err.ensures.reaches names stand).walks;
  name = tt;
}

pub returns-in-Ok-read_name-clause-walks : goal.returns-in-Ok-read_name-clause-walks
returns-in-Ok-read_name-clause-walks g c names stand =
    let p = c.args.walker.process.0 in
    let reached = c.in-Ok.ensures.reaches names stand in
    let last : LastStands (cells_of c.reach_last.new.memory p) names c.in-Ok.last.at =
    subst (λ (cells : Cells). LastStands cells names c.in-Ok.last.at) (sym (c.reach_last.ensures.same.cells p)) reached.last
    in
    record {
      walks = reached.walks;
      name =
          last-read (cells_of c.reach_last.new.memory p) names c.in-Ok.last.at c.in-Ok-read_name.named last
          (λ names there. first-of (cells_of c.reach_last.new.memory p) names c.read_name.result c.in-Ok-read_name.named c.in-Ok-read_name.is (c.read_name.ensures.first names there));
    }

pub returns-in-Ok-read_name-clause-same : goal.returns-in-Ok-read_name-clause-same
returns-in-Ok-read_name-clause-same g c =
    same-still c.args.memory.now c.reach_last.new.memory c.read_name.new.memory c.reach_last.ensures.same c.read_name.ensures.same
