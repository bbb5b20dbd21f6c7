use Rattle.std.proofs.Common.{◌≡◌, ℕ, ◌+◌, ◌-◌, take, drop, subst, sym, arith}
use Rattle.proc_model.specs.Module.{IsModule}
use Rattle.module_format.proofs.Places.{module_next, fault_next, not_all_zeros, rest_is}
use Rattle.module_format.proofs.file.next_module.Goals as goal

pub returns-in-Ok-clause-step : goal.returns-in-Ok-clause-step
returns-in-Ok-clause-step c =
    module_next c.args.bytes.now c.args.from c.next_place-at.result c.in-Ok.info c.next_place-at.ensures.place (omega arith)
    (rw rest_is at c.in-Ok.ensures.fault) (rw rest_is at c.in-Ok.ensures.fields)

pub returns-in-Ok-clause-end : goal.returns-in-Ok-clause-end
returns-in-Ok-clause-end c = (
  λ e. absurd cc,
  λ all. absurd (not_all_zeros c.args.bytes.now c.args.from c.next_place-at.result
      c.next_place-at.ensures.from_there (omega arith) (c.next_place-at.ensures.other (omega arith)) all),
)

pub returns-in-Ok-clause-module : goal.returns-in-Ok-clause-module
returns-in-Ok-clause-module c =
    let place = c.next_place-at.result in
    let size = c.in-Ok.info.size in
    let whole : place + size - place ≡ size = omega arith in
    let P : ℕ → Type 0 = λ n. IsModule (take n (drop place c.args.bytes.now)) in
    subst P (sym whole) (rw rest_is at c.in-Ok.ensures.module)

pub returns-in-Err-clause-step : goal.returns-in-Err-clause-step
returns-in-Err-clause-step c =
    fault_next c.args.bytes.now c.args.from c.next_place-at.result c.in-Err.fault c.next_place-at.ensures.place (omega arith)
    (rw rest_is at c.in-Err.ensures.fault)

pub returns-in-Err-clause-end : goal.returns-in-Err-clause-end
returns-in-Err-clause-end c = (
  λ e. absurd cc,
  λ all. absurd (not_all_zeros c.args.bytes.now c.args.from c.next_place-at.result
      c.next_place-at.ensures.from_there (omega arith) (c.next_place-at.ensures.other (omega arith)) all),
)
