use Rattle.std.proofs.Common.{◌≡◌, ◌∙◌, ◌==◌, ℕ, false, Some, None, take, refl, ap, sym, subst}
use Rattle.std.proofs.lemmas.Bool.{eq-eqb, ne_eqb}
use Rattle.os9_base.specs.declared.errors.TheConstants.{E_NEMOD, E_PRCFUL}
use Rattle.os9_base.specs.declared.registers.Regs.{Regs}
use Rattle.proc_model.specs.ModuleList.{ModuleEntry, module_entry_at}
use Rattle.proc_model.specs.Objects.{file_blocks}
use Rattle.proc_model.specs.Records.{free_process}
use Rattle.proc_model.specs.Processes.{Processes, regs_at, with_memory}
use Rattle.proc_model.specs.Program.{Program, area_pages, program_kind}
use Rattle.file_rules.specs.Load.{Loaded}
use Rattle.file_rules.specs.Program.{forks, loaded_program, starts_first}
use Rattle.file_rules.specs.ProgramFile.{ProgramFile}
use Rattle.load_calls.proofs.OutcomeLemmas.{first-there}
use Rattle.fork_calls.specs.Starting.{starts_child}
use Rattle.proc_state.specs.Tie.{ReturnsDoneOrRefused, RepresentsProcesses}
use Rattle.load_calls.specs.Reading.{IsInBuffer}
use Rattle.load_calls.specs.Starting.{start_refusal}
use Rattle.load_calls.proofs.GoingOnLemmas.{goes-done, goes-refused}
use Rattle.load_calls.proofs.ReadyLemmas.{IsReady, ready}
use Rattle.load_calls.proofs.StartLemmas.{child-next, fork-child, fork-full, other-kind, right-kind, start-goes, start-refused}
use Rattle.load_calls.proofs.fork.fork_tried.Goals as goal
use Rattle.load_calls.proofs.fork.fork_tried.Goals.{Start}

-- the file can be loaded
it : (c : Start) (m : Processes) (file : ProgramFile) → RepresentsProcesses c.args.s.now m
    → IsInBuffer c.args.s.now.buffer.items file c.args.read → IsReady m.memory file.bytes c.args.read.size
    c.args.first
it c m file tied front =
    ready m.memory file.bytes (take c.args.read.size c.args.s.now.buffer.items) c.args.read.size c.args.first front.size_is front.bytes_are (c.requires.tried m.memory tied.memory) c.requires.first

pub returns-then-first-ne-PROGRAM-clause-call : goal.returns-then-first-ne-PROGRAM-clause-call
returns-then-first-ne-PROGRAM-clause-call c m file tied front params =
    let p = c.args.p.0 in
    let at = it (goal.at.returns-then-first-ne-PROGRAM-clause-call c).Start m file tied front in
    let other : (at.loaded.first.entry.info.kind == program_kind) ≡ false = ap
    (λ (entry : ModuleEntry). entry.info.kind == program_kind) at.first_is ∙ ne_eqb c.args.first.kind program_kind
    c.if-first-ne-PROGRAM.true in
    goes-refused m file (starts_first forks m p) c.args.s.now at.loaded at.loads E_NEMOD (other-kind forks m p file at.loaded other) tied

-- its first module is a program
is-program : (c : Start) (m : Processes) (file : ProgramFile) (at : IsReady m.memory file.bytes c.args.read.size
    c.args.first) → c.args.first.kind ≡ program_kind → starts_first forks m c.args.p.0 file at.loaded ≡ forks
    (with_memory m at.loaded.memory) c.args.p.0 (loaded_program m c.args.p.0 file at.loaded.first)
is-program c m file at kind =
    right-kind forks m c.args.p.0 file at.loaded (ap (λ (entry : ModuleEntry). entry.info.kind == program_kind) at.first_is ∙ eq-eqb c.args.first.kind program_kind kind)

pub returns-in_default-clause-call : goal.returns-in_default-clause-call
returns-in_default-clause-call c m file tied front params =
    let p = c.args.p.0 in
    let at = it (goal.at.returns-in_default-clause-call c).Start m file tied front in
    let program : Program = loaded_program m p file at.loaded.first in
    let none : free_process m.records ≡ None = ap (λ (s : Processes). free_process s.records) tied.is ∙ sym c.in_default.ensures.number in
    goes-refused m file (starts_first forks m p) c.args.s.now at.loaded at.loads E_PRCFUL
    (is-program (goal.at.returns-in_default-clause-call c).Start m file at c.if-first-ne-PROGRAM.false ∙ fork-full (with_memory m at.loaded.memory) p program none) tied

-- its pages, by the header that was read
pages-are : (c : Start) (m : Processes) (file : ProgramFile) (at : IsReady m.memory file.bytes c.args.read.size
    c.args.first) (regs : Regs) (pages : ℕ) → regs ≡ regs_at m c.args.p.0
    → ((entry : ModuleEntry) → entry.info.storage ≡ c.args.first.storage → pages ≡ area_pages entry regs.b regs.y)
    → pages ≡ area_pages at.loaded.first.entry (regs_at m c.args.p.0).b (regs_at m c.args.p.0).y
pages-are c m file at regs pages same is =
    is at.loaded.first.entry (ap (λ (entry : ModuleEntry). entry.info.storage) at.first_is) ∙ ap (λ (r : Regs). area_pages at.loaded.first.entry r.b r.y) same

pub returns-in-Some-start_refusal-clause-call : goal.returns-in-Some-start_refusal-clause-call
returns-in-Some-start_refusal-clause-call c m file tied front params =
    let p = c.args.p.0 in
    let start = (goal.at.returns-in-Some-start_refusal-clause-call c).Start in
    let at = it start m file tied front in
    let later : Processes = with_memory m at.loaded.memory in
    let program : Program = loaded_program m p file at.loaded.first in
    let child = c.in-Some.child.0 in
    let some : free_process m.records ≡ Some child = ap (λ (s : Processes). free_process s.records) tied.is ∙ sym c.in-Some.ensures.number in
    let pages = pages-are start m file at c.regs-regs.result c.area_pages-pages.result (c.regs-regs.ensures.tied m tied) c.area_pages-pages.ensures.pages in
    let refused : start_refusal m.memory child (file_blocks file.bytes) program.pages ≡ Some c.in-Some-start_refusal.number =
    (λ i. start_refusal m.memory child (sym (c.blocks_of.ensures.blocks ∙ at.blocks_are) i) (sym pages i)) ∙ sym (c.in-Some-start_refusal.ensures m.memory tied.memory) in
    goes-refused m file (starts_first forks m p) c.args.s.now at.loaded at.loads c.in-Some-start_refusal.number
    (is-program start m file at c.if-first-ne-PROGRAM.false ∙ fork-child later p program child some ∙ start-refused m
    child file.bytes at.loaded at.it c.args.first at.first_is program refl c.in-Some-start_refusal.number refused
    (child-next later p program child)) tied

pub returns-in-None-clause-call : goal.returns-in-None-clause-call
returns-in-None-clause-call c m file tied front params =
    let p = c.args.p.0 in
    let start = (goal.at.returns-in-None-clause-call c).Start in
    let at = it start m file tied front in
    let loaded : Loaded = at.loaded in
    let later : Processes = with_memory m loaded.memory in
    let program : Program = loaded_program m p file loaded.first in
    let child = c.in-Some.child.0 in
    let some : free_process m.records ≡ Some child = ap (λ (s : Processes). free_process s.records) tied.is ∙ sym c.in-Some.ensures.number in
    let pages = pages-are start m file at c.regs-regs.result c.area_pages-pages.result (c.regs-regs.ensures.tied m tied) c.area_pages-pages.ensures.pages in
    let goes : start_refusal m.memory child (file_blocks file.bytes) program.pages ≡ None =
    (λ i. start_refusal m.memory child (sym (c.blocks_of.ensures.blocks ∙ at.blocks_are) i) (sym pages i)) ∙ sym (c.in-None.ensures m.memory tied.memory) in
    let entered = c.enter_program-program.ensures.enters m file loaded tied front at.loads params in
    let answers = c.start_child.ensures.call later loaded.first.entry entered.stands (ap (module_entry_at loaded.memory.modules) entered.number_is ∙ first-there m.memory file.bytes loaded at.it) in
    goes-done m file (starts_first forks m p) c.start_child.new.s loaded at.loads c.start_child.result later _ (starts_child later p program) (is-program start m file at c.if-first-ne-PROGRAM.false)
    (fork-child later p program child some ∙ start-goes m child file.bytes loaded at.it c.args.first at.first_is program refl goes (child-next later p program child))
    (subst (λ (given : Program). ReturnsDoneOrRefused later (starts_child later p given) c.start_child.result c.start_child.new.s) entered.is answers)
