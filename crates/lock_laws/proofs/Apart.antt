-- What agreement says of a state: locks are apart, waits have no cycle, and pairs are whole.
use Rattle.std.proofs.Common.{◌≡◌, ◌≢◌, ℕ, ◌==◌, ◌&&◌, not, Bool, true, false, Some, sym, ap, ◌∙◌, refl}
use Rattle.std.proofs.lemmas.Bool.{eq-eqb, eqb-true, false≢true}
use Rattle.lock_model.specs.Conflict.{is_against, is_same_file, overlaps}
use Rattle.lock_model.specs.History.{AtomicPairs}
use Rattle.lock_model.specs.Laws.{IsIn}
use Rattle.lock_model.specs.Locks.{lock_of}
use Rattle.lock_model.specs.Waits.{NoCycle}
use Rattle.lock_model.specs.declared.lock.Held.{Held}
use Rattle.lock_model.specs.declared.place.FilePlace.{FilePlace}
use Rattle.lock_model.proofs.Histories.{pairs-atomic}
use Rattle.lock_laws.proofs.Overlaps.{overlaps-by}
use Rattle.lock_model.proofs.Ranks.{no-cycle}
use Rattle.machine_model.specs.State.{State}
use Rattle.lock_laws.specs.Locked.{IsAgreed}

-- a place is itself
same-file : (place : FilePlace) → is_same_file place place ≡ true
same-file place =
    ap (λ (b : Bool). b && (place.number == place.number)) (eq-eqb place.drive place.drive refl)
    ∙ eq-eqb place.number place.number refl

other-owner : (one two : ℕ) → one ≢ two → (two == one) ≡ false
other-owner one two differ = by_test (two == one) refl
  where
    by_test : (same : Bool) → (two == one) ≡ same → same ≡ false
    by_test true is = absurd (differ (sym (eqb-true two one is)))
    by_test false is = refl

-- locks of two processes on a file are against each other if their ranges overlap
pub against-so : (one two : Held) → one.owner.0 ≢ two.owner.0 → one.file ≡ two.file → overlaps one.range two.range ≡ true → is_against one two ≡ true
against-so one two differ file overlap =
    ap (λ (b : Bool). not b && (is_same_file one.file two.file && overlaps one.range two.range)) (other-owner one.owner.0 two.owner.0 differ)
    ∙ ap (λ (b : Bool). b && overlaps one.range two.range) (ap (is_same_file one.file) (sym file) ∙ same-file one.file)
    ∙ overlap

pub locks-apart : (s : State) (path other : ℕ) (one two : Held) → IsAgreed s → lock_of s.files.records.locks path ≡
    Some one → lock_of s.files.records.locks other ≡ Some two → one.owner.0 ≢ two.owner.0 → one.file ≡ two.file
    → (byte : ℕ) → IsIn byte one.range → IsIn byte two.range → ⊥
locks-apart s path other one two it is there differ file byte in_one in_two =
    false≢true (sym (it.agreed.records.locks.apart path other one two is there) ∙ against-so one two differ file (overlaps-by one.range two.range byte in_one in_two))

pub no-cycles : (s : State) → IsAgreed s → NoCycle s.files.records.locks
no-cycles s it = no-cycle s.files.records.locks it.agreed.records.locks.ranks

pub pairs-whole : (s : State) → IsAgreed s → AtomicPairs s.files.records.history
pairs-whole s it = pairs-atomic s.files.records.history it.agreed.records.undisturbed
