use Rattle.std.proofs.Common.{◌≡◌, ℕ, Bool, true, false, refl}
use Rattle.std.specs.Prelude.{◌&&◌, ◌||◌, is_some, not}
use Rattle.proc_model.specs.Records.{is_living, is_waiting, record_at}
use Rattle.proc_model.specs.Turns.{choose}
use Rattle.proc_model.specs.Choice.{turn_priority}
use Rattle.proc_model.specs.Ready.{is_ready, may_go_on}
use Rattle.proc_model.proofs.io_ready.a_choice_asks_for_the_living.Goals as goal

-- a process that lives is asked for, and no other
asked : (lives waits signalled goes one other : Bool) → (lives ≡ true → one ≡ other)
    → (lives && (not waits || (signalled || (goes || one)))) ≡ (lives && (not waits || (signalled || (goes || other))))
asked true waits signalled goes one other same = λ i. not waits || (signalled || (goes || same refl i))
asked false waits signalled goes one other same = refl

pub returns : goal.returns
returns c io other s same =
    let ready : (p : ℕ) → is_ready io s p ≡ is_ready other s p =
    λ p. asked (is_living s.records p) (is_waiting (record_at s.records p).life) (is_some (record_at s.records p).signal) (may_go_on s p) (io p) (other p) (same p) in
    λ i. choose (λ p. ready p i) (turn_priority s) s.order
