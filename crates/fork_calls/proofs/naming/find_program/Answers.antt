use Rattle.std.proofs.Common.{◌≡◌, ℕ, true, Option, Some, None, option_map, List, IsSome, is_some, ap, sym, subst, eq-eqb, ◌∙◌}
use Rattle.std.proofs.lemmas.Bool.{ne_eqb}
use Rattle.std.proofs.lemmas.Option.{same_Some}
use Rattle.os9_base.specs.declared.errors.TheConstants.{E_NEMOD, E_MNF}
use Rattle.guest_memory.proofs.Seen.{found-seen}
use Rattle.proc_model.specs.declared.module.ModuleInfo.{ModuleInfo}
use Rattle.proc_model.specs.ModuleList.{ModuleEntry, module_entry_at, found_module}
use Rattle.proc_model.proofs.ModuleListLaws.{found_entry}
use Rattle.proc_model.specs.Program.{program_kind, asks_for_program}
use Rattle.fork_calls.specs.Naming.{IsProgramFound, IsUnfound}
use Rattle.fork_calls.proofs.Programs.{found-nothing, found-other, found-program}
use Rattle.fork_calls.proofs.naming.find_program.Goals as goal

pub info-requires : goal.info-requires
info-requires c =
    let there = found_entry _ c.modules.result.now c.in-Some-find.id.0 (sym c.in-Some-find.ensures.found) in
    subst (λ (modules : List (Option ModuleEntry)). IsSome (module_entry_at modules c.in-Some-find.id.0)) c.modules.ensures (ap is_some there.1)

pub returns-in_default-find-clause-found : goal.returns-in_default-find-clause-found
returns-in_default-find-clause-found c m tied =
    let kind = c.args.kind in
    let name = c.in-Some.name in
    let asked : asks_for_program kind ≡ true = sym c.asks_for_program.ensures ∙ c.if-not-asks_for_program.false in
    let found : found_module m.modules name kind ≡ None =
    found-seen c.args.memory.now m tied name kind ∙ ap (λ (modules : List (Option ModuleEntry)). found_module modules name kind) (sym c.modules.ensures) ∙ sym c.in_default-find.ensures.found in
    subst (λ (read : Option (List ℕ)). IsUnfound m.modules kind read E_MNF) (sym c.in-Some.is) (found-nothing m.modules kind asked name found)

pub returns-then-info-ne-PROGRAM-clause-found : goal.returns-then-info-ne-PROGRAM-clause-found
returns-then-info-ne-PROGRAM-clause-found c m tied =
    let kind = c.args.kind in
    let name = c.in-Some.name in
    let asked : asks_for_program kind ≡ true = sym c.asks_for_program.ensures ∙ c.if-not-asks_for_program.false in
    let found : found_module m.modules name kind ≡ Some c.in-Some-find.id.0 =
    found-seen c.args.memory.now m tied name kind ∙ ap (λ (modules : List (Option ModuleEntry)). found_module modules name kind) (sym c.modules.ensures) ∙ sym c.in-Some-find.ensures.found in
    let kind_is : (entry : ModuleEntry) → module_entry_at m.modules c.in-Some-find.id.0 ≡ Some entry → entry.info.kind ≡ c.info.result.kind =
    λ entry is. ap (λ (i : ModuleInfo). i.kind) (same_Some _ _ (sym (ap (option_map (λ (e : ModuleEntry). e.info)) is) ∙ c.info.ensures.tied m tied)) in
    subst (λ (read : Option (List ℕ)). IsUnfound m.modules kind read E_NEMOD) (sym c.in-Some.is)
    (found-other m.modules kind asked name c.in-Some-find.id.0 found (λ entry is. ne_eqb entry.info.kind program_kind (λ same. c.if-info-ne-PROGRAM.true (sym (kind_is entry is) ∙ same))))

pub returns-clause-found : goal.returns-clause-found
returns-clause-found c m tied =
    let kind = c.args.kind in
    let name = c.in-Some.name in
    let asked : asks_for_program kind ≡ true = sym c.asks_for_program.ensures ∙ c.if-not-asks_for_program.false in
    let found : found_module m.modules name kind ≡ Some c.in-Some-find.id.0 =
    found-seen c.args.memory.now m tied name kind ∙ ap (λ (modules : List (Option ModuleEntry)). found_module modules name kind) (sym c.modules.ensures) ∙ sym c.in-Some-find.ensures.found in
    let kind_is : (entry : ModuleEntry) → module_entry_at m.modules c.in-Some-find.id.0 ≡ Some entry → entry.info.kind ≡ c.info.result.kind =
    λ entry is. ap (λ (i : ModuleInfo). i.kind) (same_Some _ _ (sym (ap (option_map (λ (e : ModuleEntry). e.info)) is) ∙ c.info.ensures.tied m tied)) in
    subst (λ (read : Option (List ℕ)). IsProgramFound m.modules kind read c.in-Some-find.id.0 c.len.result) (sym c.in-Some.is)
    (subst (IsProgramFound m.modules kind (Some name) c.in-Some-find.id.0) (sym c.len.ensures.length)
    (found-program m.modules kind asked name c.in-Some-find.id.0 found (λ entry is. eq-eqb entry.info.kind program_kind (kind_is entry is ∙ c.if-info-ne-PROGRAM.false))))
