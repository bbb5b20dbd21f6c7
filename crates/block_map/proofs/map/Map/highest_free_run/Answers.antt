use Rattle.std.proofs.Common.{◌-◌, ℕ, arith, sym, ◌∙◌, subst, inl, inr}
use Rattle.std.proofs.lemmas.Bool.{cases_lt, cases_eq, false≢true}
use Rattle.proc_model.specs.Slots.{IsFreeRun}
use Rattle.block_map.proofs.map.Map.highest_free_run.Goals as goal

pub returns-then-is_free_run-clause-highest : goal.returns-then-is_free_run-clause-highest
returns-then-is_free_run-clause-highest c =
    let here = c.loop-first.first - 1 in (
      c.is_free_run.ensures.0 c.if-is_free_run.true,
      λ higher run. elim (cases_lt here higher) [
        | inl above ↦ absurd (c.loop-first.invariant higher (omega arith) run)
        | inr not_above ↦ not_above
      ],
    )

pub loop-first-preserved : goal.loop-first-preserved
loop-first-preserved c =
    λ higher low run.
    let here = c.loop-first.first - 1 in
    elim (cases_eq higher here) [
      | inl same ↦ false≢true (sym c.if-is_free_run.false ∙ c.is_free_run.ensures.1 (subst (λ (first : ℕ). IsFreeRun c.args.self.now first c.args.len) same run))
      | inr other ↦ c.loop-first.invariant higher (omega arith) run
    ]

pub returns-clause-none : goal.returns-clause-none
returns-clause-none c = λ first run. c.loop-first.invariant first (omega arith) run
