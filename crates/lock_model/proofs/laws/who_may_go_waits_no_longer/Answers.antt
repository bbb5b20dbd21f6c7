use Rattle.std.proofs.Common.{◌≡◌, ◌≢◌, ℕ, Bool, true, false, not, cond, ◌||◌, Some, sym, ap, refl, ◌∙◌}
use Rattle.std.proofs.lemmas.Bool.{false≢true}
use Rattle.lock_model.specs.declared.lock.Grant.{Grant}
use Rattle.lock_model.specs.declared.lock.Grant.TheVariants.{Granted, Locked, Wait}
use Rattle.lock_model.specs.declared.lock.Request.{Request}
use Rattle.lock_model.specs.Conflict.{conflicts}
use Rattle.lock_model.specs.Locks.{Locks, request_of}
use Rattle.lock_model.specs.Waits.{is_late, lock_may_go, request_may_go}
use Rattle.lock_model.proofs.laws.who_may_go_waits_no_longer.Goals as goal

answer : Bool → Bool → Grant
answer c l = cond (not c) Granted (cond l Locked Wait)

goes : (c l : Bool) → (not c || l) ≡ true → answer c l ≢ Wait
unfolding answer
goes false l e = λ same. differ same
  where
    differ : Granted ≡ Wait → ⊥
    differ e = cc
goes true true e = λ same. differ same
  where
    differ : Locked ≡ Wait → ⊥
    differ e = cc
goes true false e = absurd (false≢true e)

may_go : (c l : Bool) → answer c l ≢ Wait → (not c || l) ≡ true
unfolding answer
may_go false l e = refl
may_go true true e = refl
may_go true false e = absurd (e refl)

there : (locks : Locks) (tick p : ℕ) (request : Request) → request_of locks p ≡ Some request → lock_may_go locks tick p ≡ (not (conflicts locks request.lock) || is_late tick request)
there locks tick p request is = ap (request_may_go locks tick) is

pub returns : goal.returns
unfolding answer
returns c = λ locks tick p request is. (
  λ e. goes (conflicts locks request.lock) (is_late tick request) (sym (there locks tick p request is) ∙ e),
  λ e. there locks tick p request is ∙ may_go (conflicts locks request.lock) (is_late tick request) e,
)
