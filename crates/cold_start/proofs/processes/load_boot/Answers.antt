use Rattle.std.proofs.Common.{List, option_map, sym, ap, ◌∙◌, subst}
use Rattle.std.specs.Prelude.{codes}
use Rattle.std.proofs.lemmas.Result.{err_from_is_err_and}
use Rattle.guest_memory.specs.Tie.{modules_of}
use Rattle.guest_memory.proofs.Seen.{found-seen}
use Rattle.proc_model.specs.declared.module.ModId.{ModId}
use Rattle.proc_model.specs.declared.own.Own.{Own}
use Rattle.proc_model.specs.Processes.{Processes, with_memory}
use Rattle.proc_model.specs.Program.{program_kind}
use Rattle.proc_state.specs.Sound.{ArePrimaries}
use Rattle.proc_state.proofs.First.{ArePrimaries-first}
use Rattle.machine_model.specs.ProcessStart.{boot_memory, first_program}
use Rattle.machine_model.proofs.StartLaws.{first_entry}
use Rattle.cold_start.proofs.Seen.{some-here}
use Rattle.cold_start.proofs.processes.load_boot.Goals as goal

pub invariant_of-processes-clause-primaries : goal.invariant_of-processes-clause-primaries
invariant_of-processes-clause-primaries c =
    let (blocks, least, tied) = c.requires.empty in
    subst (λ (owns : List Own). ArePrimaries owns (modules_of c.enter_boot.new.memory)) (ap (λ (m : Processes). m.own) tied.is)
    (ArePrimaries-first (modules_of c.enter_boot.new.memory))

pub returns-in_err-enter_boot-clause-refused : goal.returns-in_err-enter_boot-clause-refused
returns-in_err-enter_boot-clause-refused c = λ blocks tied.
    let p = err_from_is_err_and c.from_residual.result c.from_residual.ensures.1 in
    rw (p.1, p.2) (c.in_err-enter_boot.ensures.refused blocks)

pub returns-in_default-clause-refused : goal.returns-in_default-clause-refused
returns-in_default-clause-refused c = λ blocks tied.
    let boot = c.in_ok-enter_boot.ensures.entered blocks tied.memory in
    let none = found-seen c.enter_boot.new.memory (boot_memory c.args.boot.now blocks boot.entries) boot.represents (codes "SysGo") program_kind
    ∙ ap first_program (sym c.modules.ensures) ∙ sym c.first_program.ensures ∙ ap (option_map (λ (id : ModId). id.0)) c.in_default.is in
    (c.requires.short, (boot.entries, boot.entered, none))

pub returns-clause-found : goal.returns-clause-found
returns-clause-found c = λ blocks tied.
    let boot = c.in_ok-enter_boot.ensures.entered blocks tied.memory in
    let memory = boot_memory c.args.boot.now blocks boot.entries in
    let found_it = found-seen c.enter_boot.new.memory memory boot.represents (codes "SysGo") program_kind
    ∙ ap first_program (sym c.modules.ensures) ∙ sym c.first_program.ensures ∙ ap (option_map (λ (id : ModId). id.0)) c.in-Some.is in
    let (entry, is) = first_entry boot.entries c.in-Some.first.0 found_it in record {
      entries = boot.entries;
      entry = entry;
      has = record { short = c.requires.short; entered = boot.entered; found_it = found_it; is = is };
      represents = record { memory = boot.represents; is = ap (λ (m : Processes). with_memory m memory) tied.is };
    }

pub returns-clause-entered : goal.returns-clause-entered
returns-clause-entered c =
    let (blocks, least, tied) = c.requires.empty in
    let boot = c.in_ok-enter_boot.ensures.entered blocks tied.memory in
    let memory = boot_memory c.args.boot.now blocks boot.entries in
    let found_it = found-seen c.enter_boot.new.memory memory boot.represents (codes "SysGo") program_kind
    ∙ ap first_program (sym c.modules.ensures) ∙ sym c.first_program.ensures ∙ ap (option_map (λ (id : ModId). id.0)) c.in-Some.is in
    let (entry, is) = first_entry boot.entries c.in-Some.first.0 found_it in
    some-here c.enter_boot.new.memory memory boot.represents c.in-Some.first.0 entry is
