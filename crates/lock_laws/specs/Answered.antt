-- How a request of an attempt is answered, and how the attempt ends (Level Two manual, RBF record locking).
use Rattle.std.specs.Prelude.{◌≡◌, length}
use Rattle.lock_model.specs.declared.lock.Grant.{Grant}
use Rattle.lock_model.specs.declared.lock.Request.{Request}
use Rattle.io_model.specs.Step.{IoStep}
use Rattle.file_rules.specs.Attempts.{file_step}
use Rattle.file_rules.specs.Locking.{answer_to}
use Rattle.file_rules.specs.Step.{as_io, deed_of}
use Rattle.file_laws.specs.Attempt.{Attempt, asker_in, made_in}
use Rattle.file_laws.specs.Claims.{Requests}

-- an attempt makes a request, which gets this answer
pub record IsAnsweredSo (grant : Grant) (it : Attempt) : Type 0 where
  pub request : Request
  pub requests : Requests (made_in it) request
  pub answer : answer_to (asker_in it) it.files request ≡ grant

-- it does what the call on a terminal or a pipe does
abbrev pub DoesAsDevice : Attempt → Type 0
DoesAsDevice it =
    (step : IoStep) × (deed_of (file_step it.call (asker_in it) it.files (length it.before)) it.files ≡ as_io step)
