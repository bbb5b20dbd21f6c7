use Rattle.std.proofs.Common.{◌≡◌, ◌∙◌, ◌-◌, ℕ, [], Ok, List, take, unwrap_or, ap, sym, subst, arith}
use Rattle.os9_base.specs.declared.registers.Regs.{Regs}
use Rattle.proc_model.specs.Processes.{Processes, regs_at, with_memory}
use Rattle.proc_model.specs.Program.{area_pages}
use Rattle.proc_model.specs.UserBytes.{user_bytes}
use Rattle.proc_model.specs.ModuleList.{ModuleEntry}
use Rattle.proc_state.specs.Tie.{bytes_read}
use Rattle.file_rules.specs.Load.{Loads}
use Rattle.file_rules.specs.Program.{parameters_of}
use Rattle.load_calls.proofs.OutcomeLemmas.{loads-ok}
use Rattle.load_calls.proofs.MapLemmas.{same-cells}
use Rattle.load_calls.proofs.ParameterLemmas.{read-again}
use Rattle.load_calls.proofs.ReadyLemmas.{ready, ready-first}
use Rattle.load_calls.proofs.program.enter_program.Goals as goal

pub returns-clause-enters : goal.returns-clause-enters
returns-clause-enters c m file loaded tied front loads params =
    let p = c.args.p.0 in
    let regs = c.regs-regs.result in
    let buffer : List ℕ = c.read_bytes.new.self.buffer.items in
    let at = ready m.memory file.bytes (take c.args.read.size c.args.s.now.buffer.items) c.args.read.size c.args.first
    front.size_is front.bytes_are (c.requires.tried m.memory tied.memory) c.requires.first in
    let first_is = ready-first m.memory file.bytes c.args.read.size c.args.first at loaded loads in
    let entered = c.enter_front-id.ensures.loads m loaded tied (subst (λ (bytes : List ℕ). Loads m.memory bytes (Ok loaded)) (sym front.bytes_are) loads) in
    let later : Processes = with_memory m loaded.memory in
    let regs_are : regs ≡ regs_at m p = c.regs-regs.ensures.tied m tied in
    let seen = same-cells c.args.s.now.memory m.memory tied.memory p (omega arith) file.bytes loaded (loads-ok m.memory file.bytes loaded loads) in
    let read : parameters_of m p ≡ bytes_read c.read_bytes.result regs.y buffer =
    (λ i. user_bytes (sym seen i) (sym regs_are i).u (sym regs_are i).y) ∙ c.read_bytes.ensures.read later entered.stands in
    let pages_are : c.area_pages-pages.result ≡ area_pages loaded.first.entry (regs_at m p).b (regs_at m p).y =
    c.area_pages-pages.ensures.pages loaded.first.entry (ap (λ (entry : ModuleEntry). entry.info.storage) first_is) ∙ ap (λ (r : Regs). area_pages loaded.first.entry r.b r.y) regs_are in
    let x_is : regs.x ≡ (regs_at m p).x = ap (λ (r : Regs). r.x) regs_are in
    let count_is : c.saturating_sub.result ≡ file.next - (regs_at m p).x = omega (arith, c.saturating_sub.ensures, c.from.ensures, front.next_is, x_is) in
    let bytes_are : take regs.y buffer ≡ unwrap_or (parameters_of m p) [] = read-again (parameters_of m p) c.read_bytes.result regs.y buffer params read in
    record {
      number_is = entered.number_is;
      stands = c.read_bytes.ensures.same.represents later entered.stands;
      is = λ i. record {
        entered = record { number = entered.number_is i; entry = loaded.first.entry };
        pages = pages_are i;
        parameters = bytes_are i;
        count = count_is i;
      };
    }
