-- An answer to a request changes no lock.
use Rattle.std.proofs.Common.{◌≡◌, ℕ, refl}
use Rattle.lock_model.specs.declared.lock.Grant.{Grant}
use Rattle.lock_model.specs.declared.lock.Grant.TheVariants.{Granted, Locked, Deadlock, Wait}
use Rattle.lock_model.specs.declared.lock.Request.{Request}
use Rattle.lock_model.specs.Locks.{Locks}
use Rattle.lock_model.specs.Waits.{after_answer, after_later}

pub held-answer : (locks : Locks) (request : Request) (answer : Grant) → (after_answer locks request answer).held ≡ locks.held
held-answer locks request Granted = refl
held-answer locks request Locked = refl
held-answer locks request Deadlock = refl
held-answer locks request Wait = refl

pub held-later : (locks : Locks) (p : ℕ) (answer : Grant) → (after_later locks p answer).held ≡ locks.held
held-later locks p Granted = refl
held-later locks p Locked = refl
held-later locks p Deadlock = refl
held-later locks p Wait = refl
