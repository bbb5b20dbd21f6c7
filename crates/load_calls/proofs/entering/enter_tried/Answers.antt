use Rattle.std.proofs.Common.{◌≡◌, ◌∙◌, ◌+◌, false, ℕ, Some, Ok, Err, List, refl, subst, sym, arith}
use Rattle.std.proofs.lemmas.Option.{same_Some}
use Rattle.guest_memory.specs.Tie.{RepresentsMemory}
use Rattle.proc_model.proofs.LoadingLemmas.{LiesIn-step}
use Rattle.proc_model.specs.Loading.{EntersModules}
use Rattle.proc_model.specs.Memory.{MemoryState}
use Rattle.proc_model.specs.MemoryChanges.{new_numbers}
use Rattle.proc_model.specs.ModuleList.{free_number}
use Rattle.proc_model.specs.Objects.{file_blocks}
use Rattle.file_rules.specs.Load.{Loaded}
use Rattle.load_calls.proofs.LoadedLemmas.{can-enter, entered-first, first-group, not-refused, rest-enters, some-memory, taken, with_first}
use Rattle.load_calls.proofs.OutcomeLemmas.{IsLoaded, first-found, first-there, loads-ok, others-stay, tried-ok}
use Rattle.load_calls.proofs.SeenLemmas.{free-seen, refusal-seen, some-here}
use Rattle.load_calls.specs.Entering.{CanEnter}
use Rattle.load_calls.proofs.entering.enter_tried.Goals as goal
use Rattle.load_calls.proofs.entering.enter_tried.Goals.{After-enter_others}

pub enter-requires : goal.enter-requires
enter-requires c =
    let file : List ℕ = c.args.file.now in
    let lies = LiesIn-step file 0 c.args.first c.requires.first in
    let it = some-memory c.args.memory.now in
    let tried = tried-ok it.0 file c.args.first (c.requires.tried it.0 it.1) in
    let loaded = loads-ok it.0 file tried.loaded tried.loads in
    record {
      some = omega (arith, lies.sized, lies.in_file);
      short = c.requires.short;
      inside = lies.in_file;
      runs = lies.enters;
      accepted = sym (refusal-seen c.args.memory.now it.0 it.1 c.args.first) ∙ taken file it.0 c.args.first (new_numbers it.0 (file_blocks file)) loaded.after c.requires.first loaded.enters;
    }

pub overflow_add-rest : goal.overflow_add-rest
overflow_add-rest c =
    let lies = LiesIn-step c.args.file.now 0 c.args.first c.requires.first in
    omega (arith, lies.in_file, c.requires.short, c.from.ensures)

pub unreachable-requires : goal.unreachable-requires
unreachable-requires c =
    let file : List ℕ = c.args.file.now in
    let it = some-memory c.args.memory.now in
    let tried = tried-ok it.0 file c.args.first (c.requires.tried it.0 it.1) in
    let loaded = loads-ok it.0 file tried.loaded tried.loads in
    not-refused file it.0 c.args.first (Err c.in-Err.field-0) c.in-Err.field-0 c.enter.new.self loaded.room refl (c.in-Err.ensures.enters it.0 it.1)

pub enter_others-requires-clause-within : goal.enter_others-requires-clause-within
enter_others-requires-clause-within c =
    let lies = LiesIn-step c.args.file.now 0 c.args.first c.requires.first in
    omega (arith, lies.in_file, c.from.ensures)

pub enter_others-requires-clause-can : goal.enter_others-requires-clause-can
enter_others-requires-clause-can c =
    let file : List ℕ = c.args.file.now in
    let it = some-memory c.args.memory.now in
    let tried = tried-ok it.0 file c.args.first (c.requires.tried it.0 it.1) in
    let loaded = loads-ok it.0 file tried.loaded tried.loads in
    let first = entered-first file it.0 c.args.first loaded.after c.requires.first loaded.enters (Ok c.in-Ok.id) c.in-Ok.id c.enter.new.self loaded.room refl (c.in-Ok.ensures.enters it.0 it.1) in
    subst (λ (size : ℕ). CanEnter file c.in-Ok.id.0 (c.args.first.at + size) c.enter.new.self) (sym c.from.ensures)
    (can-enter file it.0 c.args.first loaded.after c.requires.first loaded.enters c.in-Ok.id.0 c.enter.new.self (free-seen c.args.memory.now it.0 it.1 ∙ c.in-Ok.ensures.number) first)

-- the first module has the number that was free
number-is : (c : After-enter_others) (m : MemoryState) (loaded : Loaded) → RepresentsMemory c.args.memory.now m → IsLoaded m c.args.file.now loaded → c.in-Ok.id.0 ≡ loaded.first.number
number-is c m loaded tied it =
    same_Some c.in-Ok.id.0 loaded.first.number (sym (free-seen c.args.memory.now m tied ∙ c.in-Ok.ensures.number) ∙ (first-found m it.after loaded.first it.first_is).number_is)

-- memory has the file
stands : (c : After-enter_others) (m : MemoryState) (loaded : Loaded) → RepresentsMemory c.args.memory.now m
    → IsLoaded m c.args.file.now loaded → RepresentsMemory c.enter_others.new.memory loaded.memory
stands c m loaded tied it =
    let file : List ℕ = c.args.file.now in
    let group : List ℕ = new_numbers m (file_blocks file) in
    let free : free_number m.modules ≡ Some c.in-Ok.id.0 = free-seen c.args.memory.now m tied ∙ c.in-Ok.ensures.number in
    let first = entered-first file m c.args.first it.after c.requires.first it.enters (Ok c.in-Ok.id) c.in-Ok.id c.enter.new.self it.room refl (c.in-Ok.ensures.enters m tied) in
    let rest = rest-enters file m c.args.first it.after c.requires.first it.enters in
    subst (RepresentsMemory c.enter_others.new.memory) (sym it.memory_is)
    (c.enter_others.ensures.entered (with_first file m c.args.first) group it.after first (first-group file m c.args.first it.after c.requires.first it.enters c.in-Ok.id.0 free)
    (subst (λ (size : ℕ). EntersModules file group false (c.args.first.at + size) (with_first file m c.args.first).modules (Ok it.after)) (sym c.from.ensures) rest))

pub returns-clause-loads : goal.returns-clause-loads
returns-clause-loads c m loaded tied loads =
    let it = loads-ok m c.args.file.now loaded loads in
    let after = (goal.at.returns-clause-loads c).After-enter_others in
    (λ i. Ok (record { 0 = number-is after m loaded tied it i }), stands after m loaded tied it)

pub returns-clause-entered : goal.returns-clause-entered
returns-clause-entered c =
    let file : List ℕ = c.args.file.now in
    let it = some-memory c.args.memory.now in
    let tried = tried-ok it.0 file c.args.first (c.requires.tried it.0 it.1) in
    let loaded = loads-ok it.0 file tried.loaded tried.loads in
    let after = (goal.at.returns-clause-entered c).After-enter_others in
    rw (number-is after it.0 tried.loaded it.1 loaded)
    (some-here c.enter_others.new.memory tried.loaded.memory (stands after it.0 tried.loaded it.1 loaded)
    tried.loaded.first.number tried.loaded.first.entry (first-there it.0 file tried.loaded loaded))

pub returns-clause-stay : goal.returns-clause-stay
returns-clause-stay c =
    let file : List ℕ = c.args.file.now in
    let it = some-memory c.args.memory.now in
    let tried = tried-ok it.0 file c.args.first (c.requires.tried it.0 it.1) in
    let loaded = loads-ok it.0 file tried.loaded tried.loads in
    others-stay c.args.memory.now c.enter_others.new.memory it.0 file tried.loaded it.1 loaded (stands (goal.at.returns-clause-stay c).After-enter_others it.0 tried.loaded it.1 loaded)
