use Rattle.std.proofs.Common.{◌≡◌, Some, None, Option, List, IsSome, is_some, ap, sym, subst, ◌∙◌}
use Rattle.std.proofs.lemmas.Result.{err_from_is_err_and}
use Rattle.os9_base.specs.declared.registers.Regs.{Regs}
use Rattle.guest_memory.proofs.Seen.{found-seen}
use Rattle.proc_model.specs.ModuleList.{ModuleEntry, module_entry_at, found_module}
use Rattle.proc_model.proofs.ModuleListLaws.{found_entry}
use Rattle.proc_model.specs.Processes.{regs_at, cells_at}
use Rattle.os9_base.specs.UserNames.{name_at}
use Rattle.proc_calls.specs.Named.{name_or_error, IsModuleNamed}
use Rattle.proc_calls.proofs.Naming.{named-error, named-nothing, named-found}
use Rattle.proc_calls.proofs.named.named_module.Goals as goal

pub returns-in_err-name-clause-named : goal.returns-in_err-name-clause-named
returns-in_err-name-clause-named c =
    λ m tied.
    let p = err_from_is_err_and c.from_residual.result c.from_residual.ensures.1 in
    let number = c.in_err-name.field-0.0 in
    let x_is = c.regs-regs.ensures.tied m tied in
    rw (p.1, p.2) (named-error m c.args.p.0 number (ap (λ (regs : Regs). name_or_error (name_at (cells_at m c.args.p.0) regs.x)) (sym x_is) ∙ sym (c.in_err-name.ensures.name m tied)))

pub returns-in-Some-clause-named : goal.returns-in-Some-clause-named
returns-in-Some-clause-named c =
    λ m tied.
    let regs_are = c.regs-regs.ensures.tied m tied in
    let name = c.in_ok-name.name in
    let read = ap (λ (regs : Regs). name_or_error (name_at (cells_at m c.args.p.0) regs.x)) (sym regs_are) ∙ sym (c.in_ok-name.ensures.name m tied) in
    let stood = c.read_name.ensures.same.represents m tied in
    let found : found_module m.memory.modules name (regs_at m c.args.p.0).a ≡ Some c.in-Some.id.0 =
    ap (λ (regs : Regs). found_module m.memory.modules name regs.a) (sym regs_are) ∙ found-seen c.read_name.new.s.memory m.memory stood.memory name c.regs-regs.result.a
    ∙ ap (λ (modules : List (Option ModuleEntry)). found_module modules name c.regs-regs.result.a) (sym c.modules.ensures) ∙ sym c.in-Some.ensures.found in
    subst (IsModuleNamed m c.args.p.0 c.in-Some.id.0) (sym c.len.ensures.length) (named-found m c.args.p.0 name read c.in-Some.id.0 found)

pub returns-in-Some-clause-entered : goal.returns-in-Some-clause-entered
returns-in-Some-clause-entered c =
    let there = found_entry _ c.modules.result.now c.in-Some.id.0 (sym c.in-Some.ensures.found) in
    subst (λ (modules : List (Option ModuleEntry)). IsSome (module_entry_at modules c.in-Some.id.0)) c.modules.ensures (ap is_some there.1)

pub returns-in-None-clause-named : goal.returns-in-None-clause-named
returns-in-None-clause-named c =
    λ m tied.
    let regs_are = c.regs-regs.ensures.tied m tied in
    let name = c.in_ok-name.name in
    let read = ap (λ (regs : Regs). name_or_error (name_at (cells_at m c.args.p.0) regs.x)) (sym regs_are) ∙ sym (c.in_ok-name.ensures.name m tied) in
    let stood = c.read_name.ensures.same.represents m tied in
    let found : found_module m.memory.modules name (regs_at m c.args.p.0).a ≡ None =
    ap (λ (regs : Regs). found_module m.memory.modules name regs.a) (sym regs_are) ∙ found-seen c.read_name.new.s.memory m.memory stood.memory name c.regs-regs.result.a
    ∙ ap (λ (modules : List (Option ModuleEntry)). found_module modules name c.regs-regs.result.a) (sym c.modules.ensures) ∙ sym c.in-None.ensures.found in
    named-nothing m c.args.p.0 name read found
