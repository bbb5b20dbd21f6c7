-- Until when who is Ready does not change.
use Rattle.std.specs.Prelude.{ℕ, ◌<◌, ◌≤◌, ◌||◌, Bool, Option, IfSome}
use Rattle.file_state.specs.declared.state.FileState.{FileState}
use Rattle.io_model.specs.Waiting.{io_may_go}
use Rattle.lock_model.specs.Waits.{lock_may_go}

-- the waiting call of a process may go on in a tick, by the kernel's data
abbrev pub may_go_in : FileState → ℕ → ℕ → Bool
may_go_in files tick p = io_may_go files.io p || lock_may_go files.records.locks tick p

-- what ends in this tick, if in any, and has not ended now, does not end before `until`
abbrev pub EndsNotBefore : ℕ → ℕ → Option ℕ → Type 0
EndsNotBefore now until end = IfSome end (λ tick. now < tick → until ≤ tick)
