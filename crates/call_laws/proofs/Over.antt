-- An attempt that is done or refused: its process does not wait then, the others go on as they did, and the tick stays.
use Rattle.std.proofs.Common.{◌≡◌, ◌≢◌, ℕ, Bool, true, false, Option, Some, None, Result, Ok, Err, List, length, refl, sym, ap, ◌∙◌, subst}
use Rattle.std.proofs.lemmas.List.{length-set}
use Rattle.os9_base.specs.declared.registers.Regs.{Regs}
use Rattle.proc_model.specs.declared.memory.MemoryFault.{MemoryFault}
use Rattle.proc_model.specs.Memory.{MemoryState, map_at}
use Rattle.proc_model.specs.MemoryChanges.{stored, writes_from}
use Rattle.proc_model.specs.declared.own.Own.{Own}
use Rattle.proc_model.specs.declared.record.Record.{Record}
use Rattle.proc_model.specs.Records.{record_of, with_regs}
use Rattle.proc_model.specs.Attempts.{after_attempt, done_regs, goes_on, refused_regs}
use Rattle.proc_model.specs.CallResult.{CallResult, changes, done, ends, needs, refused, refuses, waits}
use Rattle.proc_model.specs.Processes.{Processes, own_at, regs_at, with_memory, with_regs_of}
use Rattle.call_laws.specs.Objects.{KeepsSizes}
use Rattle.call_laws.proofs.MemoryKept.{kept-written}
use Rattle.call_laws.proofs.OthersKept.{own-other, record-other}
use Rattle.call_laws.proofs.InCalls.{IsWaiting, on-waits}
use Rattle.call_laws.proofs.Aside.{Aside, ComesSo}

-- ---- changes of the process itself

so-same : (m n : Processes) (q : ℕ) (place : Option Record) → map_at n.memory q ≡ map_at m.memory q → (own_at n q).call ≡ (own_at m q).call → ComesSo m n q place place
so-same m n q None map call = tt
so-same m n q (Some r) map call = record { life = refl; regs = refl; map = map; call = call }

-- where the others keep their records, their maps and their calls
pub aside-self : (m n : Processes) (p : ℕ) → KeepsSizes m.memory n.memory → ((q : ℕ) → q ≢ p → map_at n.memory q ≡ map_at
    m.memory q) → ((q : ℕ) → q ≢ p → record_of n.records q ≡ record_of m.records q)
    → ((q : ℕ) → q ≢ p → (own_at n q).call ≡ (own_at m q).call) → length n.records ≡ length m.records → Aside m n p
aside-self m n p sizes maps records calls places = record {
  sizes = sizes;
  places = places;
  others =
      λ q differ. subst (ComesSo m n q (record_of m.records q)) (sym (records q differ)) (so-same m n q (record_of m.records q) (maps q differ) (calls q differ));
}

so-own : (m t n : Processes) (q : ℕ) (old new : Option Record) → map_at n.memory q ≡ map_at t.memory q → (own_at n q).call ≡ (own_at t q).call → ComesSo m t q old new → ComesSo m n q old new
so-own m t n q (Some old) (Some new) map call it =
    record { life = it.life; regs = it.regs; map = map ∙ it.map; call = call ∙ it.call }
so-own m t n q (Some old) None map call it = it
so-own m t n q None (Some new) map call it = it
so-own m t n q None None map call it = tt

-- the process goes on after that
pub aside-goes_on : (m t : Processes) (p : ℕ) (regs : Regs) → Aside m t p → Aside m (goes_on t p regs) p
aside-goes_on m t p regs aside = record {
  sizes = aside.sizes;
  places = (let long : length (goes_on t p regs).records ≡ length t.records = simp length-set in long ∙ aside.places);
  others =
      λ q differ. subst (ComesSo m (goes_on t p regs) q (record_of m.records q)) (sym (record-other (with_regs t.records p regs) p _ q differ ∙ record-other t.records p _ q differ))
      (so-own m t (goes_on t p regs) q (record_of m.records q) (record_of t.records q) refl (ap (λ (own : Own). own.call) (own-other t p _ q differ)) (aside.others q differ));
}

pub aside-same : (m : Processes) (p : ℕ) → Aside m m p
aside-same m p = aside-self m m p (λ object there. refl) (λ q differ. refl) (λ q differ. refl) (λ q differ. refl) refl

-- bytes are stored where the process sees them
pub aside-stored : (m : Processes) (p at : ℕ) (bytes : List ℕ) → Aside m (with_memory m (stored m.memory p at bytes)) p
aside-stored m p at bytes =
    aside-self m (with_memory m (stored m.memory p at bytes)) p (kept-written {Given = λ byte. Unit {0}} m.memory p
    (writes_from at bytes)).sizes (λ q differ. refl) (λ q differ. refl) (λ q differ. refl) refl

-- and its registers change
pub aside-regs : (m : Processes) (p at : ℕ) (bytes : List ℕ) (regs : Regs) → Aside m (with_regs_of (with_memory m (stored m.memory p at bytes)) p regs) p
aside-regs m p at bytes regs =
    aside-self m (with_regs_of (with_memory m (stored m.memory p at bytes)) p regs) p
    (kept-written {Given = λ byte. Unit {0}} m.memory p (writes_from at bytes)).sizes (λ q differ. refl)
    (λ q differ. record-other m.records p _ q differ) (λ q differ. refl) (simp length-set)

-- ---- what an attempt comes to

-- it does not end the process
abbrev pub IsNoEnd : CallResult → Type 0
IsNoEnd (done t) = Unit {0}
IsNoEnd (refused number) = Unit {0}
IsNoEnd (waits t) = Unit {0}
IsNoEnd (ends status) = ⊥

pub record Over (m : Processes) (p : ℕ) (result : CallResult) : Type 0 where
  pub no_end : IsNoEnd result
  pub aside : Aside m (after_attempt m p result) p
  pub runs : IsWaiting (after_attempt m p result).records p → ⊥
  pub tick : (after_attempt m p result).tick ≡ m.tick

pub over-done : (m : Processes) (p : ℕ) (t : Processes) → Aside m t p → t.tick ≡ m.tick → Over m p (done t)
over-done m p t aside tick = record {
  no_end = tt;
  aside = aside-goes_on m t p (done_regs (regs_at t p)) aside;
  runs = on-waits t p (done_regs (regs_at t p));
  tick = tick;
}

pub over-refused : (m : Processes) (p number : ℕ) → Over m p (refused number)
over-refused m p number = record {
  no_end = tt;
  aside = aside-goes_on m m p (refused_regs (regs_at m p) number) (aside-same m p);
  runs = on-waits m p (refused_regs (regs_at m p) number);
  tick = refl;
}

-- a result is a refusal, or is done with a state that is so
abbrev pub IsOver : (Processes → Type 0) → CallResult → Type 0
IsOver So (done t) = So t
IsOver So (refused number) = Unit {0}
IsOver So (waits t) = ⊥
IsOver So (ends status) = ⊥

pub over-by : (m : Processes) (p : ℕ) (So : Processes → Type 0) (result : CallResult) → IsOver So result → ((t : Processes) → So t → Aside m t p × (t.tick ≡ m.tick)) → Over m p result
over-by m p So (done t) it so = (let (aside, tick) = so t it in over-done m p t aside tick)
over-by m p So (refused number) it so = over-refused m p number
over-by m p So (waits t) it so = absurd it
over-by m p So (ends status) it so = absurd it

module _ (So : Processes → Type 0) where
  pub of-needs : {A : Type 0} (some : Option A) (number : ℕ) (next : A → CallResult) → ((a : A) → some ≡ Some a → IsOver So (next a)) → IsOver So (needs some number next)
  of-needs None number next over = tt
  of-needs (Some a) number next over = over a refl

  pub of-refuses : (test : Bool) (number : ℕ) (next : CallResult) → IsOver So next → IsOver So (refuses test number next)
  of-refuses true number next over = tt
  of-refuses false number next over = over

  pub of-changes : (change : Result MemoryState MemoryFault) (next : MemoryState → CallResult)
      → ((memory : MemoryState) → change ≡ Ok memory → IsOver So (next memory)) → IsOver So (changes change next)
  of-changes (Ok memory) next over = over memory refl
  of-changes (Err fault) next over = tt
