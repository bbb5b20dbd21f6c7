-- What is kept of the call of a process after what it does.
use Rattle.std.proofs.Common.{◌≡◌, ℕ, ◌<◌, not, Bool, true, false, Option, Some, None, List, length, refl, sym, ap, ◌∙◌, subst, inl, inr}
use Rattle.std.specs.Prelude.{IsSomeAnd, slice_index_or, unwrap_or}
use Rattle.std.proofs.lemmas.Bool.{cases_lt, false≢true}
use Rattle.std.proofs.lemmas.List.{get_or-set_same, get_or_past, length-set}
use Rattle.std.proofs.lemmas.Option.{none-some, same_Some}
use Rattle.io_model.specs.Read.{IsReadAllowed}
use Rattle.os9_base.specs.Cells.{Cells, FitsIn}
use Rattle.os9_base.specs.declared.registers.Regs.{Regs}
use Rattle.os9_outer.specs.TerminalState.{TerminalState}
use Rattle.proc_model.specs.MemoryChanges.{writes_from}
use Rattle.proc_model.specs.declared.record.Life.TheVariants.{Waiting}
use Rattle.proc_model.specs.declared.record.Record.{Record}
use Rattle.proc_model.specs.Records.{IsLiving, has_ended, is_waiting, new_record, record_at, record_of, record_passes, with_record}
use Rattle.proc_model.specs.Attempts.{after_attempt}
use Rattle.proc_model.specs.CallResult.{CallResult}
use Rattle.proc_model.specs.Processes.{Processes, own_at, regs_at, cells_at}
use Rattle.proc_model.specs.Ready.{attempts, executes, act_of, next_act}
use Rattle.io_model.specs.Path.{numbers_of, slot_of}
use Rattle.io_model.specs.declared.pending.PendingCall.{PendingCall}
use Rattle.io_model.specs.declared.path.SysPath.{SysPath}
use Rattle.io_model.specs.Again.{IsPending, path_number}
use Rattle.io_model.specs.Attempts.{IoAttempts, caller_of, pending_in, result_by, step_of, with_stored}
use Rattle.io_model.specs.Codes.{io_call_of}
use Rattle.io_model.specs.Io.{Io, OpenPath, pending_at, open_path, with_call}
use Rattle.io_model.specs.Modes.{can_read}
use Rattle.io_model.specs.Processes.{closed_below, io_ended, without_user}
use Rattle.io_model.specs.Waiting.{io_interrupted, wait_target, without_unfinished}
use Rattle.io_model.specs.declared.path.TheConstants.{PROCESS_PATHS}
use Rattle.io_model.specs.Step.{IoEnd, answers, fails, keeps}
use Rattle.io_model.specs.declared.io_call.IoCall.{IoCall}
use Rattle.call_laws.specs.Objects.{KeepsSizes}
use Rattle.call_laws.proofs.MemoryKept.{kept-written}
use Rattle.call_laws.proofs.OthersKept.{living-record, living-within}
use Rattle.call_laws.specs.Pending.{ArePending, IsPendingCall, IsAllowedIfRead}
use Rattle.call_laws.proofs.Codes.{attempts-code}
use Rattle.call_laws.proofs.CallCodes.{code-is}
use Rattle.call_laws.proofs.Keeping.{Again, MayWait, does-keep, step-keeps}
use Rattle.call_laws.proofs.Named.{fits-on}

-- ---- records

-- a process that lives has not ended
pub lives-runs : (records : List (Option Record)) (p : ℕ) → IsLiving records p → has_ended (record_at records p).life ≡ false
lives-runs records p lives = by_test (has_ended (record_at records p).life) there
  where
    there : not (has_ended (record_at records p).life) ≡ true
    there = sym (ap (λ place. record_passes (λ r. not (has_ended r.life)) place) (living-record records p lives)) ∙ lives

    by_test : (ended : Bool) → not ended ≡ true → ended ≡ false
    by_test false is = refl
    by_test true is = absurd (false≢true is)

-- a record that does not say that its process has ended
pub there-lives : (records : List (Option Record)) (p : ℕ) (r : Record) → record_of records p ≡ Some r → has_ended r.life ≡ false → IsLiving records p
there-lives records p r is runs =
    ap (λ place. record_passes (λ r. not (has_ended r.life)) place) is ∙ ap not runs

pub there-at : (records : List (Option Record)) (p : ℕ) (r : Record) → record_of records p ≡ Some r → record_at records p ≡ r
there-at records p r is = ap (λ place. unwrap_or place (new_record (record { 0 = 0 }) 0 0)) is

-- a path that may be read stays
mode-on : (io new : Io) (p number : ℕ) → ((opened : OpenPath) → open_path io p number ≡ Some opened
    → open_path new p number ≡ Some opened) → IsSomeAnd (open_path io p number) (λ opened. can_read opened.desc.mode ≡
    true) → IsSomeAnd (open_path new p number) (λ opened. can_read opened.desc.mode ≡ true)
mode-on io new p number same may = by_path (open_path io p number) refl may
  where
    by_path : (path : Option OpenPath) → open_path io p number ≡ path
        → IsSomeAnd path (λ opened. can_read opened.desc.mode ≡ true) → IsSomeAnd (open_path new p number)
        (λ opened. can_read opened.desc.mode ≡ true)
    by_path None is may = absurd may
    by_path (Some opened) is may =
        subst (λ (path : Option OpenPath). IsSomeAnd path (λ opened. can_read opened.desc.mode ≡ true)) (sym (same opened is)) may

-- a call stays allowed, where what is named and the paths do
pub stays-on : (call : IoCall) (cells later : Cells) (regs now : Regs) (io new : Io) (p : ℕ) → now ≡ regs
    → ((at count : ℕ) → FitsIn cells at count → FitsIn later at count) → ((number : ℕ) (opened : OpenPath)
    → open_path io p number ≡ Some opened → open_path new p number ≡ Some opened) → IsAllowedIfRead call cells regs io p
    → IsAllowedIfRead call later now new p
stays-on call cells later regs now io new p same fits paths stays reads =
    let it = stays reads in
    subst (λ (regs : Regs). IsReadAllowed later regs new p) (sym same) (record {
      named = fits regs.x regs.y it.named;
      mode = mode-on io new p regs.a (paths regs.a) it.mode;
    })

-- what is kept of a call stays, where its process, what is named and its paths do
pub keeps-on : (m n : Processes) (io new : Io) (p : ℕ) (pending : PendingCall) → IsLiving n.records p → (record_at n.records p).life
    ≡ (record_at m.records p).life → regs_at n p ≡ regs_at m p → (own_at n p).call ≡ (own_at m p).call
    → numbers_of new.paths p ≡ numbers_of io.paths p → ((at count : ℕ) → FitsIn (cells_at m p) at count
    → FitsIn (cells_at n p) at count) → ((number : ℕ) (opened : OpenPath) → open_path io p number ≡ Some opened
    → open_path new p number ≡ Some opened) → IsPendingCall m io p pending → IsPendingCall n new p pending
keeps-on m n io new p pending lives life regs own numbers fits paths it = record {
  lives = lives;
  waits = ap is_waiting life ∙ it.waits;
  made = own ∙ it.made;
  call = it.call;
  again = subst (λ (regs : Regs). IsPending it.call regs new p pending) (sym regs) (record {
    code = it.again.code;
    path =
        ap (λ (numbers : List (Option SysPath)). slice_index_or numbers (path_number it.call (regs_at m p)) None) numbers ∙ it.again.path;
    count = it.again.count;
    unfinished = it.again.unfinished;
  });
  stays = stays-on it.call (cells_at m p) (cells_at n p) (regs_at m p) (regs_at n p) io new p regs fits paths it.stays;
}

-- ---- the process itself

-- no call of a process waits
abbrev pub None_waits : Io → ℕ → Type 0
None_waits io p = pending_at io p ≡ None

call-none : (io : Io) (p : ℕ) → None_waits (with_call io p None) p
call-none io p =
    elim (cases_lt p (length io.calls)) [
      | inl within ↦ get_or-set_same io.calls p None None within
      | inr past ↦ get_or_past (with_call io p None).calls p None (rw length-set past)
    ]

pub ended-none : (io : Io) (p : ℕ) → None_waits (io_ended io p) p
ended-none io p = call-none (without_user (closed_below io p PROCESS_PATHS) p) p

pub interrupted-none : (io : Io) (p : ℕ) → None_waits (io_interrupted io p) p
interrupted-none io p = call-none (without_unfinished io p (wait_target io p)) p

-- what is kept is what was put there
call-put : (io : Io) (p : ℕ) (place : Option PendingCall) (pending : PendingCall) → pending_at (with_call io p place) p ≡ Some pending → place ≡ Some pending
call-put io p place pending is =
    elim (cases_lt p (length io.calls)) [
      | inl within ↦ sym (get_or-set_same io.calls p place None within) ∙ is
      | inr past ↦ absurd (none-some pending (sym (get_or_past (with_call io p place).calls p None (rw length-set past)) ∙ is))
    ]

module _ (m : Processes) (old : Io) (p : ℕ) (kept_all : ArePending m old) (lives : IsLiving m.records p) where
  within : p < length m.records
  within = living-within m.records p lives

  -- a process without a call waits in none
  pub no-call : (own_at m p).call ≡ None → None_waits old p
  no-call none = by_place (pending_at old p) refl
    where
      by_place : (place : Option PendingCall) → pending_at old p ≡ place → place ≡ None
      by_place None is = refl
      by_place (Some pending) is = absurd (none-some pending.code (sym none ∙ (kept_all p pending is).made))

  pub executes-none : act_of m p ≡ executes → (own_at m p).call ≡ None
  executes-none next = by_call (own_at m p).call (is_waiting (record_at m.records p).life) (record_at m.records p).signal next
    where
      by_call : (call : Option ℕ) (held : Bool) (signal : Option ℕ) → next_act call held signal ≡ executes → call ≡ None
      by_call None held signal is = refl
      by_call (Some code) false signal is = cc
      by_call (Some code) true None is = cc
      by_call (Some code) true (Some signal) is = cc

  -- ---- a call on paths

  module _ (code : ℕ) (call : IoCall) (drives : ℕ) (result : CallResult) (io : Io) (before after : List TerminalState)
      (next : act_of m p ≡ attempts code) (coded : io_call_of code ≡ Some call) (attempt : IoAttempts call m old
      drives p result io before after) where
    again : Again call (caller_of m p) old
    again pending is =
        let it = kept_all p pending is in
        let same : code ≡ pending.code = same_Some code pending.code (sym (attempts-code m p code next) ∙ it.made) in
        let one : it.call ≡ call = same_Some it.call call (sym it.again.code ∙ sym (ap io_call_of same) ∙ coded) in
        subst (λ (call : IoCall). IsPending call (regs_at m p) old p pending) one it.again

    kept-end : (end : IoEnd) (pending : PendingCall) → pending_in end ≡ Some pending → end ≡ keeps pending
    kept-end (answers regs) pending is = absurd (none-some pending is)
    kept-end (fails number) pending is = absurd (none-some pending is)
    kept-end (keeps other) pending is = ap keeps (same_Some other pending is)

    -- what is kept is of the path that the number of the call names
    pub io-path : (pending : PendingCall) → pending_at io p ≡ Some pending → slot_of old.paths p (path_number call (regs_at m p)) ≡ Some pending.path
    io-path pending is =
        let put : pending_in attempt.effect.end ≡ Some pending = call-put attempt.effect.io p (pending_in attempt.effect.end) pending (sym (ap (λ (io : Io). pending_at io p) attempt.state) ∙ is) in
        let good = does-keep call (caller_of m p) old before after (step_of call m p old drives before) attempt.effect
        pending (step-keeps call (caller_of m p) old drives (length before) again) attempt.does
        (kept-end attempt.effect.end pending put) in
        good.0.kept_is.path

    -- the process then
    waiting-record : Record
    waiting-record = record (record_at m.records p) { life = Waiting }

    waits-then : (pending : PendingCall) → attempt.effect.end ≡ keeps pending → after_attempt m p result ≡ record
        (with_stored m p attempt.effect) {
          records = with_record m.records p (record (record_at m.records p)
              { life = Waiting });
        }
    waits-then pending is =
        ap (after_attempt m p) (attempt.result_is ∙ ap (λ (end : IoEnd). result_by end m p attempt.effect) is)

    pub io-keeps : (pending : PendingCall) → pending_at io p ≡ Some pending → IsPendingCall (after_attempt m p result) io p pending
    io-keeps pending is =
        let put : pending_in attempt.effect.end ≡ Some pending = call-put attempt.effect.io p (pending_in attempt.effect.end) pending (sym (ap (λ (io : Io). pending_at io p) attempt.state) ∙ is) in
        let waits_so : attempt.effect.end ≡ keeps pending = kept-end attempt.effect.end pending put in
        let good = does-keep call (caller_of m p) old before after (step_of call m p old drives before) attempt.effect
        pending (step-keeps call (caller_of m p) old drives (length before) again) attempt.does waits_so in
        subst (λ (n : Processes). IsPendingCall n io p pending) (sym (waits-then pending waits_so)) (by_record good.0 good.1)
      where
        written-sizes : KeepsSizes m.memory (with_stored m p attempt.effect).memory
        written-sizes = (kept-written {Given = λ byte. Unit {0}} m.memory p (writes_from attempt.effect.at attempt.effect.bytes)).sizes

        by_record : MayWait call (caller_of m p) old pending → attempt.effect.io.paths ≡ old.paths
            → IsPendingCall (record (with_stored m p attempt.effect) {
              records = with_record m.records p
                  (record (record_at m.records p) { life = Waiting });
            }) io p pending
        by_record good paths =
            let at : record_of (with_record m.records p (record (record_at m.records p) { life = Waiting })) p ≡ Some
            (record (record_at m.records p) { life = Waiting }) = get_or-set_same m.records p
            (Some (record (record_at m.records p) { life = Waiting })) None within in
            let here = there-at (with_record m.records p (record (record_at m.records p) { life = Waiting })) p (record (record_at m.records p) { life = Waiting }) at in
            let same : code ≡ pending.code = code-is code call coded ∙ sym (code-is pending.code call good.kept_is.code) in
            record {
              lives =
                  there-lives (with_record m.records p (record (record_at m.records p) { life = Waiting })) p (record (record_at m.records p) { life = Waiting }) at refl;
              waits = ap (λ (r : Record). is_waiting r.life) here;
              made = attempts-code m p code next ∙ ap Some same;
              call = call;
              again = subst (λ (regs : Regs). IsPending call regs io p pending) (sym (ap (λ (r : Record). r.regs) here)) (record {
                code = good.kept_is.code;
                path =
                    ap (λ (io : Io). slot_of io.paths p (path_number call (regs_at m p))) attempt.state ∙ ap (λ paths. slot_of paths p (path_number call (regs_at m p))) paths ∙ good.kept_is.path;
                count = good.kept_is.count;
                unfinished = good.kept_is.unfinished;
              });
              stays = stays-on call (cells_at m p) (cells_at (with_stored m p attempt.effect) p) (regs_at m p) _ old io p (ap (λ (r : Record). r.regs) here)
                  (λ at count. fits-on m.memory (with_stored m p attempt.effect).memory written-sizes p at count refl)
                  (λ number opened is. ap (λ (io : Io). open_path io p number) attempt.state ∙ ap (λ paths. open_path (record old { paths = paths }) p number) paths ∙ is) good.stays;
            }
