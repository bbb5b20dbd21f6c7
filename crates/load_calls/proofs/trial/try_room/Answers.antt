use Rattle.std.proofs.Common.{◌<◌, ◌≤◌, [], sym, arith}
use Rattle.std.proofs.lemmas.Bool.{lt-ltb, le-ltb}
use Rattle.proc_model.specs.Memory.{free_blocks}
use Rattle.proc_model.specs.MemoryChanges.{new_numbers}
use Rattle.proc_model.specs.Objects.{file_blocks}
use Rattle.load_calls.proofs.LoadedLemmas.{has-room, never-broken, no-module, no-room, some-memory}
use Rattle.load_calls.proofs.trial.try_room.Goals as goal

pub returns-in-End-clause-tries : goal.returns-in-End-clause-tries
returns-in-End-clause-tries c = λ m tied. no-module c.args.file.now m (sym c.in-End.ensures.step)

pub unreachable-requires : goal.unreachable-requires
unreachable-requires c =
    let it = some-memory c.args.memory.now in
    let tried = c.requires.tried it.0 [] it.1 in
    never-broken c.args.file.now it.0 tried.0 _ _ (sym c.in-Fault.ensures.step) tried.1

pub returns-then-free_blocks-from-clause-tries : goal.returns-then-free_blocks-from-clause-tries
returns-then-free_blocks-from-clause-tries c = λ m tied.
    let file = c.args.file.now in
    let tried = c.requires.tried m (new_numbers m (file_blocks file)) tied in
    let free = c.free_blocks.ensures.tied m tied in
    let few : free_blocks m < file_blocks file = omega (arith, free, c.blocks_of.ensures.blocks, c.from.ensures) in
    no-room file m c.in-Module.info tried.0 (sym c.in-Module.ensures.step) tried.1 (lt-ltb (free_blocks m) (file_blocks file) few)

pub returns-else-free_blocks-from-clause-tries : goal.returns-else-free_blocks-from-clause-tries
returns-else-free_blocks-from-clause-tries c = λ m tied.
    let file = c.args.file.now in
    let tried = c.requires.tried m (new_numbers m (file_blocks file)) tied in
    let free = c.free_blocks.ensures.tied m tied in
    let enough : file_blocks file ≤ free_blocks m = omega (arith, free, c.blocks_of.ensures.blocks, c.from.ensures) in
    has-room file m c.in-Module.info tried.0 (sym c.in-Module.ensures.step) tried.1 (le-ltb (free_blocks m) (file_blocks file) enough)
