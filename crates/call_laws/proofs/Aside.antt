-- What waits stays where another process goes on: its call, and what is kept of it.
use Rattle.std.proofs.Common.{◌≡◌, ◌≢◌, ℕ, ◌≤◌, not, true, Option, Some, None, is_some, List, length, refl, sym, ap, ◌∙◌, subst, inl, inr, arith}
use Rattle.std.specs.Prelude.{IsSomeAnd, slice_index_or}
use Rattle.std.proofs.lemmas.Bool.{cases_eq, false≢true}
use Rattle.io_model.specs.Read.{IsReadAllowed}
use Rattle.os9_base.specs.Cells.{Cells, FitsIn}
use Rattle.os9_base.specs.declared.registers.Regs.{Regs}
use Rattle.proc_model.specs.Memory.{map_at}
use Rattle.proc_model.specs.declared.record.Life.{Life}
use Rattle.proc_model.specs.declared.record.Life.TheVariants.{Running}
use Rattle.proc_model.specs.declared.record.Record.{Record}
use Rattle.proc_model.specs.Records.{IsLiving, has_ended, is_waiting, record_at, record_of, record_passes}
use Rattle.proc_model.specs.Processes.{Processes, cells_at, own_at, regs_at}
use Rattle.io_model.specs.Path.{numbers_of}
use Rattle.io_model.specs.declared.pending.PendingCall.{PendingCall}
use Rattle.io_model.specs.declared.path.SysPath.{SysPath}
use Rattle.io_model.specs.Again.{IsPending, path_number}
use Rattle.io_model.specs.Io.{Io, OpenPath, pending_at, open_path}
use Rattle.io_model.specs.Modes.{can_read}
use Rattle.io_model.specs.declared.io_call.IoCall.{IoCall}
use Rattle.machine_model.specs.declared.ends.EventEnd.{EventEnd}
use Rattle.proc_model.specs.declared.own.Own.{Own}
use Rattle.call_laws.specs.Others.{ComesOf}
use Rattle.call_laws.proofs.CallsKept.{Left}
use Rattle.call_laws.specs.Objects.{KeepsSizes}
use Rattle.call_laws.proofs.OthersKept.{living-record}
use Rattle.call_laws.specs.PathOthers.{LeavesPaths}
use Rattle.call_laws.specs.Pending.{AreInCalls, ArePending, IsPendingCall, IsAllowedIfRead, WaitsInCall}
use Rattle.call_laws.specs.Terminals.{AreOnTerminals}
use Rattle.call_laws.proofs.InCalls.{IsWaiting, waits-runs}
use Rattle.call_laws.proofs.KeptEvents.{lives-runs, there-at, there-lives}
use Rattle.call_laws.proofs.Named.{fits-on}

-- ---- the other processes

-- another process goes on in the same call
pub record StaysSo (m n : Processes) (q : ℕ) (old new : Record) : Type 0 where
  pub life : new.life ≡ old.life
  pub regs : new.regs ≡ old.regs
  pub map : map_at n.memory q ≡ map_at m.memory q
  pub call : (own_at n q).call ≡ (own_at m q).call

-- another process stays so, or had ended and goes, or begins and runs
abbrev pub ComesSo : Processes → Processes → ℕ → Option Record → Option Record → Type 0
ComesSo m n q (Some old) (Some new) = StaysSo m n q old new
ComesSo m n q (Some old) None = has_ended old.life ≡ true
ComesSo m n q None (Some new) = new.life ≡ Running
ComesSo m n q None None = Unit {0}

pub record Aside (m n : Processes) (p : ℕ) : Type 0 where
  pub sizes : KeepsSizes m.memory n.memory
  pub places : length n.records ≡ length m.records
  pub others : (q : ℕ) → q ≢ p → ComesSo m n q (record_of m.records q) (record_of n.records q)

comes-so : (m : Processes) (p : ℕ) (end : EventEnd) (n : Processes) (q : ℕ) (old new : Option Record) → ComesOf m p end n q old new → ComesSo m n q old new
comes-so m p end n q (Some old) (Some new) stays = record {
  life = ap (λ (r : Record). r.life) stays.record_is.others;
  regs = ap (λ (r : Record). r.regs) stays.record_is.others;
  map = stays.map;
  call = ap (λ (own : Own). own.call) stays.own.others;
}
comes-so m p end n q (Some old) None goes = goes.had_ended
comes-so m p end n q None (Some new) begins = begins.runs
comes-so m p end n q None None it = tt

-- by what an instruction, a call or a delivery leaves
pub left-aside : (m : Processes) (p : ℕ) (end : EventEnd) (n : Processes) → Left m p end n → Aside m n p
left-aside m p end n left = record {
  sizes = left.leaves.sizes;
  places = left.places;
  others = λ q differ. comes-so m p end n q (record_of m.records q) (record_of n.records q) (left.leaves.others q differ);
}

-- ---- input and output of the others

-- a number names the same path then, with the same mode and on the same
pub record StaysNamed (new : Io) (q n : ℕ) (opened : OpenPath) : Type 0 where
  pub now : OpenPath
  pub is : open_path new q n ≡ Some now
  pub path : now.path ≡ opened.path
  pub mode : now.desc.mode ≡ opened.desc.mode
  pub target : now.desc.target ≡ opened.desc.target

-- a path that is unchanged
pub same-named : (new : Io) (q n : ℕ) (opened : OpenPath) → open_path new q n ≡ Some opened → StaysNamed new q n opened
same-named new q n opened is = record { now = opened; is = is; path = refl; mode = refl; target = refl }

-- the numbers, the paths and the calls of the others that live stay, and no terminal of a path is gone
pub record IoAside (records : List (Option Record)) (terms p : ℕ) (old new : Io) : Type 0 where
  pub numbers : (q : ℕ) → q ≢ p → IsLiving records q → numbers_of new.paths q ≡ numbers_of old.paths q
  pub paths : (q n : ℕ) (opened : OpenPath) → q ≢ p → IsLiving records q → open_path old q n ≡ Some opened → StaysNamed new q n opened
  pub calls : (q : ℕ) → q ≢ p → pending_at new q ≡ pending_at old q
  pub places : length new.calls ≡ length old.calls
  pub on : AreOnTerminals terms old.paths → AreOnTerminals terms new.paths

-- by what an attempt leaves
pub leaves-aside : (records : List (Option Record)) (terms p : ℕ) (old new : Io) → LeavesPaths p old new
    → length new.calls ≡ length old.calls → (AreOnTerminals terms old.paths → AreOnTerminals terms new.paths)
    → IoAside records terms p old new
leaves-aside records terms p old new it places on = record {
  numbers = λ q differ lives. it.numbers q differ;
  paths = λ q n opened differ lives is. same-named new q n opened (it.paths q n opened differ is);
  calls = it.calls;
  places = places;
  on = on;
}

-- a path that may be read may be read then
mode-so : (old new : Io) (q n : ℕ) → ((opened : OpenPath) → open_path old q n ≡ Some opened → StaysNamed new q n
    opened) → IsSomeAnd (open_path old q n) (λ opened. can_read opened.desc.mode ≡ true)
    → IsSomeAnd (open_path new q n) (λ opened. can_read opened.desc.mode ≡ true)
mode-so old new q n stays may = by_path (open_path old q n) refl may
  where
    by_now : (opened now : OpenPath) → open_path new q n ≡ Some now → now.desc.mode ≡ opened.desc.mode
        → can_read opened.desc.mode ≡ true → IsSomeAnd (open_path new q n) (λ opened. can_read opened.desc.mode ≡
        true)
    by_now opened now is mode may =
        subst (λ (path : Option OpenPath). IsSomeAnd path (λ opened. can_read opened.desc.mode ≡ true)) (sym is) (ap can_read mode ∙ may)

    by_path : (path : Option OpenPath) → open_path old q n ≡ path
        → IsSomeAnd path (λ opened. can_read opened.desc.mode ≡ true) → IsSomeAnd (open_path new q n)
        (λ opened. can_read opened.desc.mode ≡ true)
    by_path None is may = absurd may
    by_path (Some opened) is may = (let it = stays opened is in by_now opened it.now it.is it.mode may)

-- a call stays allowed, where what is named stays so
stays-so : (call : IoCall) (cells later : Cells) (regs now : Regs) (old new : Io) (q : ℕ) → now ≡ regs
    → ((at count : ℕ) → FitsIn cells at count → FitsIn later at count) → ((n : ℕ) (opened : OpenPath)
    → open_path old q n ≡ Some opened → StaysNamed new q n opened) → IsAllowedIfRead call cells regs old q
    → IsAllowedIfRead call later now new q
stays-so call cells later regs now old new q same fits paths stays reads =
    let it = stays reads in
    subst (λ (regs : Regs). IsReadAllowed later regs new q) (sym same) (record {
      named = fits regs.x regs.y it.named;
      mode = mode-so old new q regs.a (paths regs.a) it.mode;
    })

-- ---- what waits

module _ (m n : Processes) (terms p : ℕ) (old new : Io) (aside : Aside m n p) (io_aside : IoAside m.records terms p old new) where
  -- what is kept of the call of another process
  kept-stays : (q : ℕ) → q ≢ p → (pending : PendingCall) → IsPendingCall m old q pending → (r : Record) → record_of n.records q ≡ Some r → StaysSo m n q (record_at m.records q) r
      → IsPendingCall n new q pending
  kept-stays q differ pending it r is stays =
      let here : record_at n.records q ≡ r = there-at n.records q r is in
      let life : (record_at n.records q).life ≡ (record_at m.records q).life = ap (λ (r : Record). r.life) here ∙ stays.life in
      let regs : regs_at n q ≡ regs_at m q = ap (λ (r : Record). r.regs) here ∙ stays.regs in
      record {
        lives = there-lives n.records q r is (ap has_ended stays.life ∙ lives-runs m.records q it.lives);
        waits = ap is_waiting life ∙ it.waits;
        made = stays.call ∙ it.made;
        call = it.call;
        again = subst (λ (regs : Regs). IsPending it.call regs new q pending) (sym regs) (record {
          code = it.again.code;
          path =
              ap (λ (numbers : List (Option SysPath)). slice_index_or numbers (path_number it.call (regs_at m q)) None) (io_aside.numbers q differ it.lives) ∙ it.again.path;
          count = it.again.count;
          unfinished = it.again.unfinished;
        });
        stays = stays-so it.call (cells_at m q) (cells_at n q) (regs_at m q) (regs_at n q) old new q regs
            (λ at count. fits-on m.memory n.memory aside.sizes q at count stays.map)
            (λ number opened. io_aside.paths q number opened differ it.lives) it.stays;
      }

  kept-other : (q : ℕ) → q ≢ p → (pending : PendingCall) → IsPendingCall m old q pending → IsPendingCall n new q pending
  kept-other q differ pending it =
      by_place (record_of n.records q) refl (subst (λ (place : Option Record). ComesSo m n q place (record_of n.records q)) (living-record m.records q it.lives) (aside.others q differ))
    where
      by_place : (place : Option Record) → record_of n.records q ≡ place → ComesSo m n q (Some (record_at m.records q)) (record_of n.records q) → IsPendingCall n new q pending
      by_place (Some r) is comes =
          kept-stays q differ pending it r is (subst (ComesSo m n q (Some (record_at m.records q))) is comes)
      by_place None is comes =
          let ended : has_ended (record_at m.records q).life ≡ true = subst (ComesSo m n q (Some (record_at m.records q))) is comes in
          absurd (false≢true (sym (lives-runs m.records q it.lives) ∙ ended))

  pub aside-kept : ((pending : PendingCall) → pending_at new p ≡ Some pending → IsPendingCall n new p pending) → ArePending m old → ArePending n new
  aside-kept itself all q pending is =
      elim (cases_eq q p) [
        | inl same ↦ subst (λ (q : ℕ). IsPendingCall n new q pending) (sym same) (itself pending (sym (ap (pending_at new) same) ∙ is))
        | inr differ ↦ kept-other q differ pending (all q pending (sym (io_aside.calls q differ) ∙ is))
      ]

  -- the call of another process that waits
  waits-other : AreInCalls m old → (q : ℕ) → q ≢ p → IsWaiting n.records q → WaitsInCall n new q
  waits-other all q differ waiting = by_new (record_of n.records q) refl (aside.others q differ)
    where
      by_stay : (before r : Record) → record_of m.records q ≡ Some before → record_of n.records q ≡ Some r → StaysSo m n q before r → WaitsInCall n new q
      by_stay before r was is stays =
          let there : record_at m.records q ≡ before = there-at m.records q before was in
          let here : record_at n.records q ≡ r = there-at n.records q r is in
          let runs : not (has_ended r.life) ≡ true = sym (ap (record_passes (λ r. not (has_ended r.life))) is) ∙ waiting.0 in
          let lived : IsLiving m.records q = ap (record_passes (λ r. not (has_ended r.life))) was ∙ ap (λ (life : Life). not (has_ended life)) (sym stays.life) ∙ runs in
          let waited : is_waiting (record_at m.records q).life ≡ true = ap (λ (r : Record). is_waiting r.life) there ∙
          ap is_waiting (sym stays.life) ∙ sym (ap (λ (r : Record). is_waiting r.life) here) ∙ waiting.1 in
          let it : WaitsInCall m old q = all q lived waited in
          record {
            code = it.code;
            made = stays.call ∙ it.made;
            kept = λ some. ap is_some (io_aside.calls q differ) ∙ it.kept some;
          }

      by_old : (r : Record) (before : Option Record) → record_of m.records q ≡ before → record_of n.records q ≡ Some r → ComesSo m n q before (Some r) → WaitsInCall n new q
      by_old r (Some before) was is comes = by_stay before r was is comes
      by_old r None was is comes =
          absurd (waits-runs (sym (ap is_waiting comes) ∙ sym (ap (λ (r : Record). is_waiting r.life) (there-at n.records q r is)) ∙ waiting.1))

      by_new : (place : Option Record) → record_of n.records q ≡ place → ComesSo m n q (record_of m.records q) (record_of n.records q) → WaitsInCall n new q
      by_new None is comes = absurd (false≢true (sym (ap (record_passes (λ r. not (has_ended r.life))) is) ∙ waiting.0))
      by_new (Some r) is comes =
          by_old r (record_of m.records q) refl is (subst (ComesSo m n q (record_of m.records q)) is comes)

  pub aside-in : (IsWaiting n.records p → WaitsInCall n new p) → AreInCalls m old → AreInCalls n new
  aside-in itself all q lives waits =
      elim (cases_eq q p) [
        | inl same ↦ subst (WaitsInCall n new) (sym same) (itself (subst (IsWaiting n.records) same (lives, waits)))
        | inr differ ↦ waits-other all q differ (lives, waits)
      ]

  pub aside-places : length m.records ≤ length old.calls → length n.records ≤ length new.calls
  aside-places places = omega (arith, places, aside.places, io_aside.places)
