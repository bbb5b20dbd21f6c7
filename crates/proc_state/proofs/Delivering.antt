-- The frame of a delivery: where it has room, and the state in which it is pushed.
use Rattle.std.proofs.Common.{◌≡◌, ℕ, ◌-◌, ◌≤◌, ◌||◌, cond, Bool, true, false, Option, Some, None, IsSome, is_none, Ok, Err, List, refl, sym, ap, ◌∙◌, arith}
use Rattle.std.proofs.lemmas.Bool.{false≢true, cond-true, le-ltb}
use Rattle.std.proofs.lemmas.Bool.Decides.{nat_tests}
use Rattle.std.proofs.lemmas.Option.{none-some, same_Some}
use Rattle.os9_base.specs.Cells.{FitsIn}
use Rattle.os9_base.specs.declared.errors.TheConstants.{E_PRCABT}
use Rattle.os9_base.specs.declared.registers.Regs.{Regs}
use Rattle.proc_model.specs.Memory.{MemoryState}
use Rattle.proc_model.specs.MemoryChanges.{stored}
use Rattle.proc_model.specs.declared.record.Intercept.{Intercept}
use Rattle.proc_model.specs.Records.{record_at, is_waiting}
use Rattle.proc_model.specs.Signals.{with_signal}
use Rattle.proc_model.specs.Attempts.{goes_on, refused_regs}
use Rattle.proc_model.specs.Delivery.{frame_bytes, stack_top, has_no_room, interrupted, interrupted_regs, routine_begun, routine_regs, with_frame}
use Rattle.proc_model.specs.Processes.{Processes, cells_at, regs_at, with_memory, with_records, with_regs_of}
use Rattle.proc_model.specs.UserBytes.{user_bytes}
use Rattle.proc_state.specs.Delivery.{frame_place}
use Rattle.proc_state.proofs.UserBytes.{user_bytes-fits, user_bytes-None}

not_none : {X : Type 0} (place : Option X) → IsSome place → is_none place ≡ false
not_none None some = absurd (false≢true some)
not_none (Some x) some = refl

-- ---- where the frame lies

pub stack_top-most : (stack : ℕ) → stack ≤ 65535 → stack_top stack ≤ 65536
stack_top-most stack most = grind (arith, nat_tests)

module _ (m : Processes) (p stack : ℕ) where
  -- where all of its bytes are in named slots
  pub place-fits : 12 ≤ stack_top stack → FitsIn (cells_at m p) (stack_top stack - 12) 12 → Some (stack_top stack - 12) ≡ frame_place m p stack
  place-fits above fits =
      let test : has_no_room m p (stack_top stack) ≡ false =
      (λ i. le-ltb (stack_top stack) 12 above i || not_none (user_bytes (cells_at m p) (stack_top stack - 12) 12) (user_bytes-fits (cells_at m p) (stack_top stack - 12) 12 fits) i) in
      sym (ap (λ (b : Bool). cond b None (Some (stack_top stack - 12))) test)

  -- where they are not
  pub place-none : 12 ≤ stack_top stack → stack_top stack ≤ 65536 → (FitsIn (cells_at m p) (stack_top stack - 12) 12 → ⊥) → None ≡ frame_place m p stack
  place-none above most not =
      let test : has_no_room m p (stack_top stack) ≡ true =
      (λ i. le-ltb (stack_top stack) 12 above i || is_none (user_bytes-None (cells_at m p) (stack_top stack - 12) 12 (omega arith) not i)) in
      sym (ap (λ (b : Bool). cond b None (Some (stack_top stack - 12))) test)

-- ---- the state in which it is pushed

module _ (m : Processes) (p signal : ℕ) where
  abbrev waits : Bool
  waits = is_waiting (record_at m.records p).life

  abbrev taken : Processes
  taken = with_records m (with_signal m.records p None)

  pub interrupted-waiting : waits ≡ true → interrupted m p signal ≡ goes_on taken p (interrupted_regs m p signal)
  interrupted-waiting is = cond-true waits (goes_on taken p (interrupted_regs m p signal)) taken is

  interrupted-stored : (memory : MemoryState) → interrupted (with_memory m memory) p signal ≡ with_memory (interrupted m p signal) memory
  interrupted-stored memory = by_wait waits
    where
      by_wait : (b : Bool) → cond b (goes_on (with_memory taken memory) p (cond b (refused_regs (regs_at m p) signal)
          (regs_at m p))) (with_memory taken memory) ≡ with_memory
          (cond b (goes_on taken p (cond b (refused_regs (regs_at m p) signal) (regs_at m p))) taken) memory
      by_wait true = refl
      by_wait false = refl

  interrupted-memory : (interrupted m p signal).memory ≡ m.memory
  interrupted-memory = by_wait waits
    where
      by_wait : (b : Bool) → (cond b (goes_on taken p (cond b (refused_regs (regs_at m p) signal) (regs_at m p))) taken).memory ≡ m.memory
      by_wait true = refl
      by_wait false = refl

  module _ (intercept : Intercept) (frame : ℕ) where
    pub frame-pushed : (regs pushed : Regs) (bytes : List ℕ) → regs ≡ interrupted_regs m p signal → bytes ≡ frame_bytes regs → pushed ≡ routine_regs regs intercept signal frame
        → with_regs_of (interrupted (with_memory m (stored m.memory p frame bytes)) p signal) p pushed ≡ with_frame (interrupted m p signal) p intercept signal (interrupted_regs m p signal) frame
    frame-pushed regs pushed bytes regs_is bytes_are pushed_is =
        let there : interrupted (with_memory m (stored m.memory p frame bytes)) p signal ≡ with_memory
        (interrupted m p signal) (stored m.memory p frame bytes) = interrupted-stored
        (stored m.memory p frame bytes) in
        let all : bytes ≡ frame_bytes (interrupted_regs m p signal) = bytes_are ∙ ap frame_bytes regs_is in
        let set : pushed ≡ routine_regs (interrupted_regs m p signal) intercept signal frame = pushed_is ∙ ap (λ (r : Regs). routine_regs r intercept signal frame) regs_is in
        (λ i. with_regs_of (there i) p pushed)
        ∙ (λ i. with_regs_of (with_memory (interrupted m p signal) (stored (sym interrupted-memory i) p frame (all i))) p (set i))

    abbrev begun : ℕ → Processes
    begun at = with_frame (interrupted m p signal) p intercept signal (interrupted_regs m p signal) at

    -- the routine begins where the frame has room
    pub begun-some : (stack : ℕ) → stack ≡ (regs_at m p).s → Some frame ≡ frame_place m p stack → routine_begun m p intercept signal ≡ Ok (begun frame)
    begun-some stack same is = by_room (has_no_room m p (stack_top (regs_at m p).s)) (is ∙ ap (frame_place m p) same)
      where
        by_room : (b : Bool) → Some frame ≡ cond b None (Some (stack_top (regs_at m p).s - 12)) → cond b (Err E_PRCABT) (Ok (begun (stack_top (regs_at m p).s - 12))) ≡ Ok (begun frame)
        by_room true is = absurd (none-some frame (sym is))
        by_room false is = ap (λ (at : ℕ). Ok (begun at)) (sym (same_Some frame (stack_top (regs_at m p).s - 12) is))

  pub begun-none : (intercept : Intercept) (stack : ℕ) → stack ≡ (regs_at m p).s → None ≡ frame_place m p stack → routine_begun m p intercept signal ≡ Err E_PRCABT
  begun-none intercept stack same is = by_room (has_no_room m p (stack_top (regs_at m p).s)) (is ∙ ap (frame_place m p) same)
    where
      by_room : (b : Bool) → None ≡ cond b None (Some (stack_top (regs_at m p).s - 12)) → cond b (Err E_PRCABT) (Ok (begun intercept 0 (stack_top (regs_at m p).s - 12))) ≡ Err E_PRCABT
      by_room true is = refl
      by_room false is = absurd (none-some (stack_top (regs_at m p).s - 12) is)
