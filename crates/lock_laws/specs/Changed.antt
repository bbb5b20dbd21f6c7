-- What an event makes of locks (Level Two manual, RBF record locking).
use Rattle.std.specs.Prelude.{◌≡◌, ℕ}
use Rattle.file_rules.specs.Files.{Files}
use Rattle.file_rules.specs.Processes.{files_ended}
use Rattle.file_laws.specs.Recorded.{RecordsCome}
use Rattle.machine_model.specs.declared.ends.EventEnd.{EventEnd}
use Rattle.machine_model.specs.declared.ends.EventEnd.TheVariants.{Ended}
use Rattle.machine_model.specs.State.{State}
use Rattle.lock_laws.specs.Cycles.{AttemptsSo}

-- the locks of paths stay; or the process has ended by this event, and what it had is closed; or it attempts a call on
-- paths, which makes the records what they are
pub data ChangesLocks (s : State) (p : ℕ) (end : EventEnd) (new : Files) : Type 0 where
  stay : new.records.locks.held ≡ s.files.records.locks.held → ChangesLocks s p end new
  ended : end ≡ Ended → new ≡ files_ended s.files p → ChangesLocks s p end new
  called : AttemptsSo (λ m. RecordsCome m new.records) s → ChangesLocks s p end new
