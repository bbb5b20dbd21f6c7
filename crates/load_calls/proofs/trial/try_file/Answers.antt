use Rattle.std.proofs.Common.{Option, List, subst, sym}
use Rattle.load_calls.specs.Trying.{AreAlike}
use Rattle.proc_model.specs.MemoryChanges.{new_numbers}
use Rattle.proc_model.specs.ModuleList.{ModuleEntry}
use Rattle.proc_model.specs.Objects.{file_blocks}
use Rattle.load_calls.proofs.LoadedLemmas.{module-refused}
use Rattle.load_calls.proofs.SeenLemmas.{alike-seen}
use Rattle.load_calls.proofs.trial.try_file.Goals as goal

pub returns-in-Err-clause-tries : goal.returns-in-Err-clause-tries
returns-in-Err-clause-tries c = λ m tied.
    let alike = subst (λ (entries : List (Option ModuleEntry)). AreAlike entries m.modules) (sym c.modules.ensures) (alike-seen c.args.memory.now m tied) in
    let tried = c.in-Err.ensures.tried m.modules (new_numbers m (file_blocks c.args.file.now)) alike in
    module-refused c.args.file.now m tried.0 c.in-Err.number tried.1

pub try_room-requires-clause-tried : goal.try_room-requires-clause-tried
try_room-requires-clause-tried c m group tied =
    c.in-Ok.ensures.tried m.modules group (subst (λ (entries : List (Option ModuleEntry)). AreAlike entries m.modules) (sym c.modules.ensures) (alike-seen c.args.memory.now m tied))
