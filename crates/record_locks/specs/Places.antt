-- Numbers of system paths and processes.
use Rattle.std.specs.Prelude.{ℕ, ◌<◌}
use Rattle.lock_model.specs.declared.lock.TheConstants.{LOCK_PROCESSES, PATH_PLACES}

-- a system path has a place for its lock
abbrev pub IsPath : ℕ → Type 0
IsPath path = path < PATH_PLACES

-- a process has a place for its request
abbrev pub HasRequestPlace : ℕ → Type 0
HasRequestPlace p = p < LOCK_PROCESSES
