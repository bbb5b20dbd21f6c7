use Rattle.std.proofs.Common.{◌≡◌, ℕ, Ok, Err, List, length, take, ap, sym, subst, arith}
use Rattle.std.proofs.lemmas.Bool.{le-ltb}
use Rattle.std.proofs.lemmas.List.{length-take-le}
use Rattle.guest_memory.specs.Tie.{ReturnsMemoryResult as AnswersMemory}
use Rattle.proc_model.specs.Processes.{Processes, with_memory}
use Rattle.proc_model.specs.Program.{Program, most_pages}
use Rattle.fork_calls.specs.Loading.{begun, IsNotLoaded}
use Rattle.fork_calls.specs.Naming.{meant}
use Rattle.fork_calls.proofs.LoadedPrograms.{loaded-refused, loaded-ok}
use Rattle.fork_calls.proofs.loading.load_program.Goals as goal

pub returns-in-Ok-clause-loaded : goal.returns-in-Ok-clause-loaded
returns-in-Ok-clause-loaded c m entry tied is =
    let p = c.args.p.0 in
    let buffer : List ℕ = c.args.s.now.buffer.items in
    let count = c.args.program.parameters in
    let bytes : List ℕ = take count buffer in
    let program : Program = meant c.args.program entry bytes in
    let long : length bytes ≡ count = length-take-le count buffer (omega arith) in
    loaded-ok m p program _ (le-ltb most_pages c.args.program.pages c.if-program-gt-MOST_PAGES.false) c.beginning_of-start.result
    (subst (λ (all : List ℕ). AnswersMemory {T = Unit {0}}
    (begun m.memory p (meant c.args.program entry (take count all))) m.memory (Ok tt) c.begin.new.memory)
    c.deref.ensures.value (c.in-Ok.ensures.begun m.memory entry tied.memory))
    (λ memory stands. record { memory = stands; is = ap (λ (s : Processes). with_memory s memory) tied.is })
    (c.beginning_of-start.ensures.regs m.memory entry bytes tied.memory is long)
    (c.beginning_of-start.ensures.own m.memory entry bytes tied.memory is)

pub returns-in-Err-clause-loaded : goal.returns-in-Err-clause-loaded
returns-in-Err-clause-loaded c m entry tied is =
    let p = c.args.p.0 in
    let count = c.args.program.parameters in
    let program : Program = meant c.args.program entry (take count c.args.s.now.buffer.items) in
    let answers : AnswersMemory {T = Unit {0}} (begun m.memory p program) m.memory (Err c.in-Err.fault) c.begin.new.memory =
    subst (λ (all : List ℕ). AnswersMemory {T = Unit {0}}
    (begun m.memory p (meant c.args.program entry (take count all))) m.memory (Err c.in-Err.fault)
    c.begin.new.memory) c.deref.ensures.value (c.in-Err.ensures.begun m.memory entry tied.memory) in
    subst (IsNotLoaded m p program _) (sym c.memory_error.ensures)
    (loaded-refused m p program _ (le-ltb most_pages c.args.program.pages c.if-program-gt-MOST_PAGES.false) c.in-Err.fault answers
    (λ memory stands. record { memory = stands; is = ap (λ (s : Processes). with_memory s memory) tied.is }))
