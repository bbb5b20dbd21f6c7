use Rattle.std.proofs.Common.{◌≡◌, ℕ, Err, subst, sym, refl}
use Rattle.std.proofs.lemmas.Result.{err_from_is_err_and}
use Rattle.proc_model.specs.Loading.{at_end, broken, entered, no_entries}
use Rattle.proc_model.specs.Module.{step_from}
use Rattle.proc_model.specs.declared.module.ModuleStep.TheVariants.{Module}
use Rattle.proc_model.proofs.LoadingLemmas.{LiesIn-step}
use Rattle.machine_model.specs.ProcessStart.{EntersBoot, boot_memory}
use Rattle.cold_start.specs.Booting.{with_boot_module}
use Rattle.cold_start.proofs.boot.enter_boot.Goals as goal
use Rattle.cold_start.proofs.boot.enter_boot.Goals.{In-Some}

-- the first module
first : (c : In-Some) → step_from c.args.boot.now 0 ≡ Module c.in-Some.info
first c = rw c.in-Some.is at c.in_ok-info.ensures.module

pub returns-in_err-info-clause-refused : goal.returns-in_err-info-clause-refused
returns-in_err-info-clause-refused c = λ blocks.
    let p = err_from_is_err_and c.from_residual.result c.from_residual.ensures.1 in
    let refusal = c.in_err-info.field-0.0 in
    let is = c.in_err-info.ensures.fault in
    let Ends : ℕ → Type 0 = λ error. EntersBoot c.args.boot.now (Err (refusal.at, error)) in
    rw (p.1, p.2) (c.requires.short, subst Ends (sym is.2) (broken is.1))

pub returns-in_default-clause-refused : goal.returns-in_default-clause-refused
returns-in_default-clause-refused c = λ blocks.
    (c.requires.short, (no_entries, at_end (rw c.in_default.is at c.in_ok-info.ensures.end), refl))

pub enter_first-id-requires-clause-runs : goal.enter_first-id-requires-clause-runs
enter_first-id-requires-clause-runs c =
    (LiesIn-step c.args.boot.now 0 c.in-Some.info (first (goal.at.enter_first-id-requires-clause-runs c).In-Some)).enters

pub returns-in_err-enter_others-clause-refused : goal.returns-in_err-enter_others-clause-refused
returns-in_err-enter_others-clause-refused c = λ blocks.
    let p = err_from_is_err_and c.from_residual-in_err-enter_others.result c.from_residual-in_err-enter_others.ensures.1 in
    let is = first (goal.at.returns-in_err-enter_others-clause-refused c).In-Some in
    let (some, least, tied) = c.requires.empty in
    let begins = c.enter_first-id.ensures.entered some tied in
    let why = c.in_err-enter_others.ensures.refused (with_boot_module c.args.boot.now (boot_memory c.args.boot.now some no_entries) c.in-Some.info) begins.represents begins.has in
    rw (p.1, p.2) (c.requires.short, entered is begins.accepted (rw c.from.ensures at why))

pub returns-clause-entered : goal.returns-clause-entered
returns-clause-entered c = λ blocks tied.
    let is = first (goal.at.returns-clause-entered c).In-Some in
    let begins = c.enter_first-id.ensures.entered blocks tied in
    let rest = c.in_ok-enter_others.ensures.entered (with_boot_module c.args.boot.now (boot_memory c.args.boot.now blocks no_entries) c.in-Some.info) begins.represents begins.has in record {
      entries = rest.entries;
      entered = entered is begins.accepted (rw c.from.ensures at rest.entered);
      represents = rest.represents;
    }
