use Rattle.std.proofs.Common.{◌≡◌, ◌∙◌, ◌-◌, ℕ, true, false, Ok, List, length, take, ap, sym, subst, arith}
use Rattle.std.proofs.lemmas.List.{length-take-le}
use Rattle.os9_base.specs.declared.errors.TheConstants.{E_MEMFUL}
use Rattle.os9_base.specs.declared.registers.Regs.{Regs}
use Rattle.proc_model.specs.CallResult.{CallResult}
use Rattle.proc_model.specs.Processes.{Processes, regs_at, with_memory}
use Rattle.file_rules.specs.Load.{Loaded, Loads, links_first}
use Rattle.file_rules.specs.ProgramFile.{ProgramFile}
use Rattle.load_calls.proofs.OutcomeLemmas.{first-there}
use Rattle.proc_calls.specs.Linked.{links_entered}
use Rattle.proc_model.proofs.LoadingLemmas.{LiesIn-step}
use Rattle.proc_model.specs.ModuleList.{module_entry_at}
use Rattle.proc_model.specs.Objects.{file_blocks}
use Rattle.proc_state.specs.Tie.{ReturnsDoneOrRefused, RepresentsProcesses}
use Rattle.load_calls.specs.Reading.{IsInBuffer}
use Rattle.load_calls.specs.Loading.{has_place}
use Rattle.load_calls.proofs.GoingOnLemmas.{goes-done, goes-refused}
use Rattle.load_calls.proofs.LinkLemmas.{in-place, linked-first, no-place}
use Rattle.load_calls.proofs.ReadyLemmas.{IsReady, ready}
use Rattle.load_calls.proofs.load.load_tried.Goals as goal
use Rattle.load_calls.proofs.load.load_tried.Goals.{Start}

-- the file can be loaded
it : (c : Start) (m : Processes) (file : ProgramFile) → RepresentsProcesses c.args.s.now m
    → IsInBuffer c.args.s.now.buffer.items file c.args.read → IsReady m.memory file.bytes c.args.read.size
    c.args.first
it c m file tied front =
    ready m.memory file.bytes (take c.args.read.size c.args.s.now.buffer.items) c.args.read.size c.args.first front.size_is front.bytes_are (c.requires.tried m.memory tied.memory) c.requires.first

pub has_place-requires-clause-some : goal.has_place-requires-clause-some
has_place-requires-clause-some c =
    let size = c.args.read.size in
    let lies = LiesIn-step (take size c.args.s.now.buffer.items) 0 c.args.first c.requires.first in
    let long : length (take size c.args.s.now.buffer.items) ≡ size = length-take-le size c.args.s.now.buffer.items (omega arith) in
    omega (arith, lies.sized, lies.in_file, long, c.blocks_of.ensures.blocks)

pub returns-then-not-has_place-clause-call : goal.returns-then-not-has_place-clause-call
returns-then-not-has_place-clause-call c m file tied front =
    let p = c.args.p.0 in
    let at = it (goal.at.returns-then-not-has_place-clause-call c).Start m file tied front in
    let none : has_place m p (file_blocks file.bytes) ≡ false = ap (has_place m p) (sym (c.blocks_of.ensures.blocks ∙ at.blocks_are)) ∙ sym (c.has_place.ensures m tied) ∙ c.if-not-has_place.true in
    goes-refused m file (links_first m p) c.args.s.now at.loaded at.loads E_MEMFUL
    (no-place c.args.s.now.memory m tied.memory p (omega arith) file at.loaded at.it c.args.first at.first_is at.some none) tied

pub returns-clause-call : goal.returns-clause-call
returns-clause-call c m file tied front =
    let p = c.args.p.0 in
    let at = it (goal.at.returns-clause-call c).Start m file tied front in
    let loaded : Loaded = at.loaded in
    let later : Processes = with_memory m loaded.memory in
    let count : ℕ = file.next - (regs_at m p).x in
    let there : has_place m p (file_blocks file.bytes) ≡ true = ap (has_place m p) (sym (c.blocks_of.ensures.blocks ∙ at.blocks_are)) ∙ sym (c.has_place.ensures m tied) ∙ c.if-not-has_place.false in
    let entered = c.enter_front-id.ensures.loads m loaded tied (subst (λ (bytes : List ℕ). Loads m.memory bytes (Ok loaded)) (sym front.bytes_are) at.loads) in
    let first = linked-first c.args.s.now.memory m tied.memory p (omega arith) file loaded at.it c.args.first at.first_is at.some in
    let placed = in-place c.args.s.now.memory m tied.memory p (omega arith) file loaded at.it c.args.first at.first_is at.some there in
    let x_is : c.regs-x.result.x ≡ (regs_at m p).x = ap (λ (regs : Regs). regs.x) (c.regs-x.ensures.tied m tied) in
    let count_is : c.saturating_sub.result ≡ count = omega (arith, c.saturating_sub.ensures, c.from.ensures, front.next_is, x_is) in
    let answers = c.link_module.ensures.call later loaded.first.entry entered.stands (ap (module_entry_at loaded.memory.modules) entered.number_is ∙ first-there m.memory file.bytes loaded at.it) in
    goes-done m file (links_first m p) c.link_module.new.s loaded at.loads c.link_module.result later placed.0 (links_entered later p loaded.first count) (sym first) (first ∙ placed.1)
    (subst (λ (call : CallResult). ReturnsDoneOrRefused later call c.link_module.result c.link_module.new.s)
    (λ i. links_entered later p (record { number = entered.number_is i; entry = loaded.first.entry })
    (count_is i)) answers)
