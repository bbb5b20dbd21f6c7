-- What an attempt of a write comes to.
use Rattle.std.proofs.Common.{◌≡◌, ◌≢◌, ◌∙◌, ℕ, ◌<◌, ◌≤◌, ◌==◌, Bool, true, false, Option, Some, None, is_some, option_map, option_and_then, unwrap_or, List, length, inl, inr, ap, sym, refl, subst, arith}
use Rattle.std.specs.Prelude.{IfSome, if◌then◌else◌}
use Rattle.std.proofs.lemmas.Bool.{cases_lt, eqb-true, eqb-false}
use Rattle.os9_base.specs.declared.call.CallEnd.{CallEnd}
use Rattle.os9_base.specs.declared.call.CallEnd.TheVariants as End
use Rattle.os9_base.specs.declared.errors.TheConstants.{E_BPADDR, E_WRITE}
use Rattle.os9_base.specs.declared.registers.Pid.{Pid}
use Rattle.os9_base.specs.declared.registers.Regs.{Regs}
use Rattle.os9_outer.specs.TerminalState.{TerminalState, ChangesOneTerminal}
use Rattle.proc_model.specs.Processes.{Processes, cells_at, regs_at}
use Rattle.proc_model.specs.UserBytes.{user_bytes}
use Rattle.io_model.specs.Path.{desc_of, slot_of}
use Rattle.io_model.specs.Terminal.{TerminalWriteAttempt}
use Rattle.io_model.specs.declared.pending.PendingCall.{PendingCall}
use Rattle.io_model.specs.declared.path.Desc.{Desc}
use Rattle.io_model.specs.declared.path.SysPath.{SysPath}
use Rattle.io_model.specs.declared.path.Target.{Target}
use Rattle.io_model.specs.declared.path.Target.TheVariants.{Pipe, Term}
use Rattle.io_model.specs.declared.terminal.Progress.{Progress}
use Rattle.io_model.specs.Again.{IsAgain, IsPending, path_number}
use Rattle.io_model.specs.Attempts.{caller_of, result_by}
use Rattle.io_model.specs.Codes.{io_call_of, direction_of, direction_of_call}
use Rattle.io_model.specs.Io.{Io, OpenPath, pending_at, open_path, terminal_at, with_call, with_terminal}
use Rattle.io_model.specs.Modes.{can_write}
use Rattle.io_model.specs.Step.{Caller, IoEffect, IoEnd, IoStep, TerminalWrite, answers, fails, keeps, comes, done, leaves, refused, writes}
use Rattle.io_model.specs.Transfer.{first_call, on_path, unless_nothing}
use Rattle.io_model.specs.Alone.{is_alone}
use Rattle.io_model.specs.Pipes.{writes_pipe}
use Rattle.io_model.specs.Write.{f_perr, i_write, i_writln, line_bytes, error_line, sends_on, sent_bytes, sent_line, writes_target}
use Rattle.io_model.specs.declared.io_call.Direction.{Direction}
use Rattle.io_model.specs.declared.io_call.Direction.TheVariants as Way
use Rattle.io_model.specs.declared.io_call.IoCall.{IoCall}
use Rattle.os9_base.specs.declared.calls.TheConstants.{I_WRITE, I_WRITLN}
use Rattle.io_state.proofs.HeldLemmas.{slot-held}
use Rattle.io_state.proofs.WaitLemmas.{some-same}
use Rattle.io_state.specs.Sound.{IsIo, target_at}
use Rattle.device_io.specs.Leaving.{IsTold, Settles}
use Rattle.proc_state.specs.Tie.{ReturnsCallEnd}
use Rattle.proc_state.specs.declared.state.ProcState.{ProcState}
use Rattle.device_io.proofs.LineLemmas.{IsSentLine}
use Rattle.device_io.proofs.MovingLemmas.{opened-parts}
use Rattle.device_io.proofs.TryingLemmas.{tries-needs-some, tries-same}
use Rattle.device_io.specs.Sending.{MayWriteTarget, PutEnds, Sends, Tells, put_of, regs_done, sender, sent, write_call, write_code, write_named, write_on, write_open}
use Rattle.io_model.specs.Memory.{WantsMemory}
use Rattle.device_io.specs.Trying.{TriesIoStep}
use Rattle.device_io.specs.declared.sending.WriteKind.{WriteKind}
use Rattle.device_io.specs.declared.sending.WriteKind.TheVariants.{Bytes, Line, ErrorLine}

-- ---- the call of an attempt

way-of : (kind : WriteKind) → direction_of (write_code kind) ≡ Some Way.Writing
way-of Bytes = refl
way-of Line = refl
way-of ErrorLine = refl

way-of-call : (kind : WriteKind) → direction_of_call (write_call kind) ≡ Some Way.Writing
way-of-call Bytes = refl
way-of-call Line = refl
way-of-call ErrorLine = refl

-- a call that is kept of such a write writes
kept-writes : (kind : WriteKind) (code : ℕ) → io_call_of code ≡ Some (write_call kind) → direction_of code ≡ Some Way.Writing
kept-writes kind code is = ap (λ (o : Option IoCall). option_and_then direction_of_call o) is ∙ way-of-call kind

no-way-back : Some Way.Writing ≡ Some Way.Reading → ⊥
no-way-back e = cc

-- what is known of the call of a write
pub record IsWriteCall (io : Io) (p : ℕ) (target : Target) (call : PendingCall) (count : ℕ) : Type 0 where
  pub may : MayWriteTarget io p target call count
  pub first : (n : ℕ) → target ≡ Term n → pending_at io p ≡ None

pub write-call : (kind : WriteKind) (regs : Regs) (io : Io) (p : ℕ) (opened : OpenPath) (code : ℕ) (call : PendingCall)
    (count : ℕ) → IsIo io → IsAgain (write_call kind) regs io p
    → IfSome (pending_at io p) (λ pending. pending.count ≡ count)
    → open_path io p (path_number (write_call kind) regs) ≡ Some opened → code ≡ write_code kind
    → call ≡ unwrap_or (pending_at io p) (first_call code opened count) → count ≢ 0
    → IsWriteCall io p opened.desc.target call count
write-call kind regs io p opened code call count is again kept open_is code_is call_is some =
    by (pending_at io p) refl again kept (subst (λ (code : ℕ). call ≡ unwrap_or (pending_at io p) (first_call code opened count)) code_is call_is)
  where
    number : ℕ
    number = path_number (write_call kind) regs

    parts : (slot_of io.paths p number ≡ Some opened.path) × (desc_of io.paths opened.path.0 ≡ Some opened.desc)
    parts = opened-parts io p number opened open_is

    on : target_at io.paths opened.path.0 ≡ Some opened.desc.target
    on = ap (λ (o : Option Desc). option_map (λ (desc : Desc). desc.target) o) parts.1

    first : PendingCall
    first = first_call (write_code kind) opened count

    begun : pending_at io p ≡ None → IsWriteCall io p opened.desc.target first count
    begun none = record {
      may = record {
        on = on;
        may = λ pipe is_pipe. record {
          moves = inl (ap (λ (o : Option Direction). is_some o) (way-of kind));
          left = omega arith;
          held = slot-held io.paths p number opened.path parts.0;
          reads = λ n at.
              let e : Some (Pipe pipe) ≡ Some (Term n) = ap (λ (t : Target). Some t) (sym is_pipe) ∙ sym on ∙ at in
              absurd cc;
        };
        all = refl;
      };
      first = λ n is_term. none;
    }

    further : (pending : PendingCall) → pending_at io p ≡ Some pending → IsPending (write_call kind) regs io p pending → pending.count ≡ count → IsWriteCall io p opened.desc.target pending count
    further pending at fact same =
        let same_path : pending.path ≡ opened.path = some-same pending.path opened.path (sym fact.path ∙ parts.0) in
        let kept_on : target_at io.paths pending.path.0 ≡ Some opened.desc.target = ap (λ (s : SysPath). target_at io.paths s.0) same_path ∙ on in
        record {
          may = record { on = kept_on; may = λ pipe is_pipe. is.waits.calls p pending at; all = sym same };
          first = λ n is_term. absurd (no-way-back (sym (kept-writes kind pending.code fact.code) ∙ (is.waits.calls p pending at).reads n (kept_on ∙ ap (λ (t : Target). Some t) is_term)));
        }

    by : (pending : Option PendingCall) → pending_at io p ≡ pending → IfSome pending (IsPending (write_call kind) regs io p)
        → IfSome pending (λ pending. pending.count ≡ count) → call ≡ unwrap_or pending first → IsWriteCall io p opened.desc.target
        call count
    by None none fact same call_is = subst (λ (k : PendingCall). IsWriteCall io p opened.desc.target k count) (sym call_is) (begun none)
    by (Some pending) at fact same call_is = subst (λ (k : PendingCall). IsWriteCall io p opened.desc.target k count) (sym call_is) (further pending at fact same)

-- ---- ends

module _ (caller : Caller) (io : Io) (regs : Regs) (new : Io) (before after : List TerminalState) where
  pub sends-same : (one other : IoStep) (end : CallEnd) → one ≡ other → Sends one caller io regs end new before after → Sends other caller io regs end new before after
  sends-same one other end same sends = subst (λ (step : IoStep). Sends step caller io regs end new before after) same sends

  -- what is told is no want of memory
  never-told : (it : IoEnd) → IsTold it regs End.NoMemory → ⊥
  never-told (answers it) told = let e : End.NoMemory ≡ End.Done = told.0 in cc
  never-told (fails number) told = let e : End.NoMemory ≡ End.Error number = told in cc
  never-told (keeps pending) told = let e : End.NoMemory ≡ End.Wait = told in cc

  pub sends-tells : (step : IoStep) (end : CallEnd) → Tells step caller io regs end new before after → Sends step caller io regs end new before after
  sends-tells step End.Done tells = tells
  sends-tells step (End.Error number) tells = tells
  sends-tells step End.Wait tells = tells
  sends-tells step End.Ended tells = tells
  sends-tells step End.NoMemory tells = absurd (never-told tells.it tells.told)

module _ (caller : Caller) (io : Io) (regs : Regs) (new : Io) (terms : List TerminalState) where
  -- it reaches no device, and stores nothing
  pub sends-settled : (effect : IoEffect) (end : CallEnd) → effect ≡ leaves effect.end effect.io → Settles effect regs
      caller.process.0 end new → Sends (comes effect) caller io regs end new terms terms
  sends-settled effect end bare settles =
      sends-tells caller io regs new terms terms (comes effect) end
      (record { it = effect.end; between = effect.io; does = (sym bare, refl); told = settles.0; state = settles.1 })

  -- it is refused
  pub sends-refused : (number : ℕ) (end : CallEnd) → end ≡ End.Error number → new ≡ with_call io caller.process.0 None → Sends (refused number) caller io regs end new terms terms
  sends-refused number end is state =
      sends-tells caller io regs new terms terms (refused number) end
      (record { it = fails number; between = io; does = (refl, refl); told = is; state = state })

  -- it is done at once
  pub sends-done : (end : CallEnd) → end ≡ End.Done → new ≡ with_call io caller.process.0 None → Sends (done regs io) caller io regs end new terms terms
  sends-done end is state = sends-settled (leaves (answers regs) io) end refl ((is, refl), state)

-- ---- terminals

module _ (caller : Caller) (io new : Io) (n : ℕ) (put : List ℕ) (count : ℕ) (regs : Regs) (before after : List TerminalState) where
  abbrev write : TerminalWrite
  write = record { terminal = n; put = put; count = count; regs = regs }

  abbrev Changes : ℕ → Progress → Type 0
  Changes taken answer =
      ChangesOneTerminal (TerminalWriteAttempt caller.process put taken answer (terminal_at io n) (terminal_at new n)) n before after

  put-ends : (answer : Progress) (end : CallEnd) → Changes count answer
      → new ≡ with_call (with_terminal io n (terminal_at new n)) caller.process.0 None → PutEnds answer end
      → Sends (writes write) caller io regs end new before after
  put-ends (Progress.Done moved) end device state ends =
      sends-tells caller io regs new before after (writes write) end
      (record {
        it = answers regs;
        between = with_terminal io n (terminal_at new n);
        does = record { answer = Progress.Done moved; new = terminal_at new n; end = answers regs; device = device; ends = refl; effect_is = refl };
        told = (ends, refl);
        state = state;
      })
  put-ends Progress.Wait end device state ends = absurd ends
  put-ends Progress.End end device state ends = absurd ends
  put-ends Progress.Fault end device state ends =
      sends-tells caller io regs new before after (writes write) end
      (record {
        it = fails E_WRITE;
        between = with_terminal io n (terminal_at new n);
        does = record { answer = Progress.Fault; new = terminal_at new n; end = fails E_WRITE; device = device; ends = refl; effect_is = refl };
        told = ends;
        state = state;
      })
  put-ends Progress.NoMemory end device state ends =
      let wants : WantsMemory (writes write) caller io before after = (terminal_at new n, device) in
      subst (λ (e : CallEnd). Sends (writes write) caller io regs e new before after) (sym ends) wants

  -- by what the terminal answered, which took all the bytes
  pub sends-put : (taken : ℕ) (answer : Progress) (end : CallEnd) → taken ≡ count → Changes taken answer
      → new ≡ with_call (with_terminal io n (terminal_at new n)) caller.process.0 None → PutEnds answer end
      → Sends (writes write) caller io regs end new before after
  sends-put taken answer end same device state ends =
      put-ends answer end (subst (λ (c : ℕ). Changes c answer) same device) state ends

-- what a write does on a terminal, and on a pipe
pub on-terminal : (kind : WriteKind) (caller : Caller) (io : Io) (bytes : List ℕ) (call : PendingCall) (n : ℕ)
    → writes (record {
      terminal = n;
      put = put_of kind bytes;
      count = length bytes;
      regs = regs_done kind caller.regs
          (length bytes);
    }) ≡ writes_target (sent kind caller bytes) caller io call (Term n)
on-terminal Bytes caller io bytes call n = refl
on-terminal Line caller io bytes call n = refl
on-terminal ErrorLine caller io bytes call n = refl

pub on-pipe : (kind : WriteKind) (caller : Caller) (io : Io) (bytes : List ℕ) (call : PendingCall) (n : ℕ)
    → comes (writes_pipe io n call (is_alone io caller.process.0 call.path.0 Way.Writing) bytes
    (regs_done kind caller.regs (length bytes))) ≡ writes_target (sent kind caller bytes) caller io call (Pipe n)
on-pipe Bytes caller io bytes call n = refl
on-pipe Line caller io bytes call n = refl
on-pipe ErrorLine caller io bytes call n = refl

-- the registers of a write that is done
pub done-regs : (kind : WriteKind) (caller : Caller) (bytes : List ℕ) → (sent kind caller bytes).regs ≡ regs_done kind caller.regs (length bytes)
done-regs Bytes caller bytes = refl
done-regs Line caller bytes = refl
done-regs ErrorLine caller bytes = refl

-- ---- what is told

module _ (m : Processes) (io : Io) (p : ℕ) (processes : ProcState) (regs : Regs) (new : Io) (before after : List TerminalState) (step : IoStep) where
  pub tries-told : (end : CallEnd) → Sends step (caller_of m p) io regs end new before after
      → ((it : IoEnd) (between : Io) → IsTold it regs end → ReturnsCallEnd m p (result_by it m p (leaves it between)) end
      processes) → TriesIoStep step m io p end processes new before after
  tries-told End.Done it told = record { effect = leaves it.it it.between; does = it.does; comes = told it.it it.between it.told; state = it.state }
  tries-told (End.Error number) it told = record { effect = leaves it.it it.between; does = it.does; comes = told it.it it.between it.told; state = it.state }
  tries-told End.Wait it told = record { effect = leaves it.it it.between; does = it.does; comes = told it.it it.between it.told; state = it.state }
  tries-told End.Ended it told = record { effect = leaves it.it it.between; does = it.does; comes = told it.it it.between it.told; state = it.state }
  tries-told End.NoMemory it told = it

-- an attempt whose process was told of it
pub sends-tries : (m : Processes) (io : Io) (process : Pid) (processes : ProcState) (new : Io)
    (before after : List TerminalState) (kind : WriteKind) (bytes : List ℕ) (regs told : Regs) (end : CallEnd)
    → regs ≡ regs_at m process.0 → regs_done kind regs (length bytes) ≡ told
    → Sends (write_named kind (sender process regs (cells_at m process.0)) io bytes)
    (sender process regs (cells_at m process.0)) io (regs_done kind regs (length bytes)) end new before after
    → ((it : IoEnd) (between : Io) → IsTold it told end → ReturnsCallEnd m process.0
    (result_by it m process.0 (leaves it between)) end processes) → TriesIoStep (write_named kind (caller_of m process.0) io
    bytes) m io process.0 end processes new before after
sends-tries m io process processes new before after kind bytes regs told end same told_is sends tells =
    let by_regs = subst (λ (r : Regs). Sends (write_named kind (sender process r (cells_at m process.0)) io bytes)
    (sender process r (cells_at m process.0)) io (regs_done kind regs (length bytes)) end new before after) same
    sends in
    let by_told = subst (λ (r : Regs). Sends (write_named kind (caller_of m process.0) io bytes) (caller_of m process.0) io r end new before after) told_is by_regs in
    tries-told m io process.0 processes told new before after (write_named kind (caller_of m process.0) io bytes) end by_told tells

-- ---- steps

-- a call that moves no byte is done at once
nothing-same : (caller : Caller) (io : Io) (next : IoStep) (count : ℕ) → (count ≡ 0 → caller.regs.y ≡ 0)
    → (caller.regs.y ≡ 0 → count ≡ 0) → (if count == 0 then done (record caller.regs { y = count }) io else next) ≡
    unless_nothing caller io next
nothing-same caller io next count one other = by (count == 0) (caller.regs.y == 0) refl refl
  where
    by : (none asks : Bool) → (count == 0) ≡ none → (caller.regs.y == 0) ≡ asks → (if none then done (record caller.regs { y = count }) io else next) ≡ (if asks then done caller.regs io else next)
    by true true is asks_is =
        let same : count ≡ caller.regs.y = eqb-true count 0 is ∙ sym (eqb-true caller.regs.y 0 asks_is) in
        ap (λ (y : ℕ). done (record caller.regs { y = y }) io) same
    by true false is asks_is = absurd (eqb-false caller.regs.y 0 asks_is (one (eqb-true count 0 is)))
    by false true is asks_is = absurd (eqb-false count 0 is (other (eqb-true caller.regs.y 0 asks_is)))
    by false false is asks_is = refl

pub bytes-step : (caller : Caller) (io : Io) (bytes : List ℕ) → length bytes ≡ caller.regs.y → write_named Bytes
    caller io bytes ≡ on_path caller io caller.regs.a can_write (λ (opened : OpenPath). unless_nothing caller io
    (sends_on (sent_bytes caller bytes) I_WRITE caller io opened))
unfolding write_named write_open write_on
bytes-step caller io bytes all =
    λ i. on_path caller io caller.regs.a can_write (λ (opened : OpenPath). nothing-same caller io
    (sends_on (sent_bytes caller bytes) I_WRITE caller io opened) (length bytes) (λ none. sym all ∙ none)
    (λ none. all ∙ none) i)

pub line-step : (caller : Caller) (io : Io) (line : List ℕ) → (length line ≡ 0 → caller.regs.y ≡ 0)
    → (caller.regs.y ≡ 0 → length line ≡ 0) → write_named Line caller io line ≡ on_path caller io caller.regs.a
    can_write (λ (opened : OpenPath). unless_nothing caller io (sends_on (sent_line caller line) I_WRITLN caller io
    opened))
unfolding write_named write_open write_on
line-step caller io line one other =
    λ i. on_path caller io caller.regs.a can_write (λ (opened : OpenPath). nothing-same caller io (sends_on (sent_line caller line) I_WRITLN caller io opened) (length line) one other i)

pub error-step : (caller : Caller) (io : Io) → write_named ErrorLine caller io (error_line caller.regs.b) ≡ f_perr caller io
unfolding write_named write_open write_on
error-step caller io = refl

-- ---- the three calls

-- the count of a call that is kept
pub kept-same : (pending : Option PendingCall) (count other : ℕ) → count ≡ other → IfSome pending (λ pending. pending.count ≡ count) → IfSome pending (λ pending. pending.count ≡ other)
kept-same pending count other same is = subst (λ (n : ℕ). IfSome pending (λ pending. pending.count ≡ n)) same is

module _ (m : Processes) (io : Io) (process : Pid) (processes : ProcState) (new : Io) (before after : List TerminalState)
    (bytes : List ℕ) (regs : Regs) (end : CallEnd) (same : regs ≡ regs_at m process.0) where
  abbrev Sent : WriteKind → Type 0
  Sent kind =
      Sends (write_named kind (sender process regs (cells_at m process.0)) io bytes) (sender process regs (cells_at m process.0)) io (regs_done kind regs (length bytes)) end new before after

  abbrev Told : Regs → Type 0
  Told told =
      (it : IoEnd) (between : Io) → IsTold it told end → ReturnsCallEnd m process.0 (result_by it m process.0 (leaves it between)) end processes

  pub bytes-tries : length bytes ≡ regs.y → user_bytes (cells_at m process.0) regs.x regs.y ≡ Some bytes → Sent Bytes
      → Told regs → TriesIoStep (i_write (caller_of m process.0) io) m io process.0 end processes new before after
  bytes-tries all there sends told =
      let caller : Caller = caller_of m process.0 in
      let next : List ℕ → IoStep = λ bytes. on_path caller io caller.regs.a can_write (λ (opened : OpenPath). unless_nothing caller io (sends_on (sent_bytes caller bytes) I_WRITE caller io opened)) in
      tries-needs-some m io process.0 end processes new before after (user_bytes (cells_at m process.0) (regs_at m process.0).x (regs_at m process.0).y) bytes E_BPADDR next
      (subst (λ (r : Regs). user_bytes (cells_at m process.0) r.x r.y ≡ Some bytes) same there)
      (tries-same m io process.0 end processes new before after (write_named Bytes caller io bytes) (next bytes) (bytes-step caller io bytes (subst (λ (r : Regs). length bytes ≡ r.y) same all))
      (sends-tries m io process processes new before after Bytes bytes regs regs end same (ap (λ (n : ℕ). record regs { y = n }) all) sends told))

  pub line-tries : (y : ℕ) → length bytes ≡ y → line_bytes (caller_of m process.0) (pending_at io process.0) ≡ Some bytes
      → IsSentLine regs (pending_at io process.0) bytes → Sent Line → Told (record regs { y = y })
      → TriesIoStep (i_writln (caller_of m process.0) io) m io process.0 end processes new before after
  line-tries y all there line sends told =
      let caller : Caller = caller_of m process.0 in
      let known : IsSentLine caller.regs (pending_at io process.0) bytes = subst (λ (r : Regs). IsSentLine r (pending_at io process.0) bytes) same line in
      let next : List ℕ → IoStep = λ line. on_path caller io caller.regs.a can_write (λ (opened : OpenPath). unless_nothing caller io (sends_on (sent_line caller line) I_WRITLN caller io opened)) in
      tries-needs-some m io process.0 end processes new before after (line_bytes caller (pending_at io process.0)) bytes E_BPADDR next there
      (tries-same m io process.0 end processes new before after (write_named Line caller io bytes) (next bytes) (line-step caller io bytes (asks-none known.some) (λ none. has-none known.few none))
      (sends-tries m io process processes new before after Line bytes regs (record regs { y = y }) end same (ap (λ (n : ℕ). record regs { y = n }) all) sends told))
    where
      asks-none : (0 < (regs_at m process.0).y → 0 < length bytes) → length bytes ≡ 0 → (regs_at m process.0).y ≡ 0
      asks-none some none =
          elim (cases_lt 0 (regs_at m process.0).y) [
            | inl more ↦ absurd (let less = some more in omega arith)
            | inr past ↦ omega arith
          ]

      has-none : length bytes ≤ (regs_at m process.0).y → (regs_at m process.0).y ≡ 0 → length bytes ≡ 0
      has-none few none = omega arith

  pub error-tries : bytes ≡ error_line regs.b → Sent ErrorLine → Told regs → TriesIoStep (f_perr (caller_of m process.0) io) m io process.0 end processes new before after
  error-tries is sends told =
      let caller : Caller = caller_of m process.0 in
      tries-same m io process.0 end processes new before after (write_named ErrorLine caller io bytes) (f_perr caller io)
      (ap (λ (line : List ℕ). write_named ErrorLine caller io line) (is ∙ ap (λ (r : Regs). error_line r.b) same) ∙ error-step caller io)
      (sends-tries m io process processes new before after ErrorLine bytes regs regs end same refl sends told)
