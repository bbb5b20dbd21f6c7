-- Who is Ready does not depend on registers.
use Rattle.std.proofs.Common.{◌≡◌, ℕ, zero, suc, ◌+◌, Bool, cond, true, Option, Some, None, List, [], ◌∷◌, get_or, is_some, position, not, refl, sym, ap}
use Rattle.std.specs.Prelude.{◌&&◌, ◌||◌, nat_lt, slice_set, unwrap_or}
use Rattle.std.specs.List.{prefix_len}
use Rattle.std.proofs.lemmas.List.{length-set}
use Rattle.os9_base.specs.declared.calls.TheConstants.{F_WAIT, F_SLEEP}
use Rattle.os9_base.specs.declared.registers.Regs.{Regs}
use Rattle.proc_model.specs.Ends.{is_ended_child}
use Rattle.proc_model.specs.declared.record.Record.{Record}
use Rattle.proc_model.specs.Records.{IsLiving, has_ended, is_waiting, new_record, record_at, record_of, record_passes, with_regs}
use Rattle.proc_model.specs.Processes.{Processes, own_at}
use Rattle.proc_model.specs.Ready.{is_ready}
use Rattle.proc_model.specs.Send.{is_call}
use Rattle.proc_model.specs.Sleep.{may_wake}

-- a place changes without a change of what is asked of it
place-same : {X Y : Type 0} (ask : X → Y) (xs : List X) (n : ℕ) (y d : X) (q : ℕ) → ask y ≡ ask (get_or xs n d) → ask (get_or (slice_set xs n y) q d) ≡ ask (get_or xs q d)
place-same ask [] n y d q same = refl
place-same ask (x ∷ xs) zero y d zero same = same
place-same ask (x ∷ xs) zero y d (suc q) same = refl
place-same ask (x ∷ xs) (suc n) y d zero same = refl
place-same ask (x ∷ xs) (suc n) y d (suc q) same = place-same ask xs n y d q same

prefix-same : {X : Type 0} (test : X → Bool) (xs : List X) (n : ℕ) (y d : X) → test y ≡ test (get_or xs n d) → prefix_len test (slice_set xs n y) ≡ prefix_len test xs
prefix-same test [] n y d same = refl
prefix-same test (x ∷ xs) zero y d same = ap (λ (b : Bool). cond b (1 + prefix_len test xs) 0) same
prefix-same test (x ∷ xs) (suc n) y d same =
    ap (λ (k : ℕ). cond (test x) (1 + k) 0) (prefix-same test xs n y d same)

position-same : {X : Type 0} (test : X → Bool) (xs : List X) (n : ℕ) (y d : X) → test y ≡ test (get_or xs n d) → position test (slice_set xs n y) ≡ position test xs
position-same test xs n y d same =
    let first = prefix-same (λ x. not (test x)) xs n y d (ap not same) in
    let long = length-set xs n y in
    λ i. cond (nat_lt (first i) (long i)) (Some (first i)) None

-- a process that lives has a record
living-record : (records : List (Option Record)) (p : ℕ) → IsLiving records p → record_of records p ≡ Some (record_at records p)
living-record records p lives = by_place (record_of records p) refl lives
  where
    by_place : (place : Option Record) → record_of records p ≡ place → record_passes (λ r. not (has_ended r.life)) place ≡ true → record_of records p ≡ Some (record_at records p)
    by_place None is lives = cc
    by_place (Some r) is lives = rw is refl

-- other registers of a process make nobody Ready, and nobody ceases to be so
pub regs-ready : (io : ℕ → Bool) (m : Processes) (p : ℕ) (regs : Regs) → IsLiving m.records p → (q : ℕ) → is_ready io (record m { records = with_regs m.records p regs }) q ≡ is_ready io m q
regs-ready io m p regs lives q =
    let put : Option Record = Some (record (record_at m.records p) { regs = regs }) in
    let was : Some (record_at m.records p) ≡ record_of m.records p = sym (living-record m.records p lives) in
    let lives_q = place-same (record_passes (λ r. not (has_ended r.life))) m.records p put None q (ap (record_passes (λ r. not (has_ended r.life))) was) in
    let waits = place-same (λ (place : Option Record). is_waiting
    (unwrap_or place (new_record (record { 0 = 0 }) 0 0)).life) m.records p put None q
    (ap (λ (place : Option Record). is_waiting (unwrap_or place (new_record (record { 0 = 0 }) 0 0)).life) was) in
    let signal = place-same (λ (place : Option Record). is_some
    (unwrap_or place (new_record (record { 0 = 0 }) 0 0)).signal) m.records p put None q
    (ap (λ (place : Option Record). is_some (unwrap_or place (new_record (record { 0 = 0 }) 0 0)).signal) was) in
    let child = position-same (record_passes (is_ended_child q)) m.records p put None (ap (record_passes (is_ended_child q)) was) in
    λ i. lives_q i
    && (not (waits i)
    || (signal i
    || (((is_call (own_at m q).call F_WAIT && is_some (child i)) || (is_call (own_at m q).call F_SLEEP && may_wake m.tick (own_at m q)))
    || io q)))
