-- What an attempt of a call on a terminal or a pipe leaves of the input and output of the others.
use Rattle.std.proofs.Common.{ℕ, None, List, length, ap, ◌∙◌}
use Rattle.std.proofs.lemmas.List.{get_or-set_other}
use Rattle.os9_outer.specs.TerminalState.{TerminalState}
use Rattle.proc_model.specs.CallResult.{CallResult}
use Rattle.proc_model.specs.Processes.{Processes}
use Rattle.io_model.specs.Path.{numbers_of}
use Rattle.io_model.specs.Attempts.{IoAttempts, caller_of, pending_in, step_of}
use Rattle.io_model.specs.Io.{Io, pending_at, open_path}
use Rattle.io_model.specs.declared.io_call.IoCall.{IoCall}
use Rattle.call_laws.specs.PathOthers.{LeavesPaths}
use Rattle.call_laws.proofs.IoKept.{EffectLeft, does-left, step-left}
use Rattle.call_laws.proofs.PathsKept.{IoLeft, open-stays}

pub left-leaves : (p : ℕ) (old new : Io) → IoLeft p old new → LeavesPaths p old new
left-leaves p old new left = record {
  numbers = left.paths.numbers;
  paths =
      λ q n opened differ is. open-stays old new q n opened (left.paths.numbers q differ) (λ path d named there. left.paths.descs q n path d named differ there) is;
  calls = left.calls;
}

module _ (call : IoCall) (m : Processes) (old new : Io) (drives p : ℕ) (result : CallResult) (before after : List TerminalState)
    (attempt : IoAttempts call m old drives p result new before after) where
  pub effect-left : EffectLeft call p old attempt.effect.io before after
  effect-left =
      does-left call (caller_of m p) old before after (step_of call m p old drives before) attempt.effect (step-left call (caller_of m p) old drives (length before)) attempt.does

  pub attempt-leaves : LeavesPaths p old new
  attempt-leaves = record {
    numbers = λ q differ. ap (λ (io : Io). numbers_of io.paths q) attempt.state ∙ effect-left.paths.numbers q differ;
    paths =
        λ q n opened differ is. ap (λ (io : Io). open_path io q n) attempt.state ∙ open-stays old attempt.effect.io q
        n opened (effect-left.paths.numbers q differ) (λ path d named there. effect-left.paths.descs q n path d
        named differ there) is;
    calls =
        λ q differ. ap (λ (io : Io). pending_at io q) attempt.state ∙ get_or-set_other attempt.effect.io.calls p q (pending_in attempt.effect.end) None differ ∙ effect-left.calls q differ;
  }
