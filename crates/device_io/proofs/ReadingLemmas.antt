-- What an attempt of a write reads of the memory of its process.
use Rattle.std.proofs.Common.{◌≡◌, ◌∙◌, ℕ, zero, suc, ◌+◌, ◌-◌, ◌<◌, ◌≤◌, ◌==◌, min, Bool, true, false, Option, Some, None, List, ◌∷◌, ◌++◌, length, take, drop, refl, sym, subst, ap, arith, drop_at, length-append, length-drop, length-take-le, take_at, take-take}
use Rattle.std.specs.Prelude.{IfSome, option_map, unwrap_or, is_some, not, if◌then◌else◌}
use Rattle.std.proofs.lemmas.Bool.{false≢true}
use Rattle.std.proofs.lemmas.List.{drop-take, take_min, take-append-le}
use Rattle.std.proofs.lemmas.Option.{none-some, same_Some}
use borrow.Rule.Slice.PartMut.{put_mid}
use Rattle.os9_base.specs.Cells.{Cells, HoldsBytes}
use Rattle.os9_base.specs.declared.call.CallEnd.{CallEnd}
use Rattle.os9_base.specs.declared.errors.TheConstants.{E_BMODE, E_BPNUM}
use Rattle.os9_base.specs.declared.registers.Pid.{Pid}
use Rattle.os9_base.specs.declared.registers.Regs.{Regs}
use Rattle.os9_outer.specs.TerminalState.{TerminalState}
use Rattle.os9_base.specs.UserNames.{user_cell}
use Rattle.proc_model.specs.UserBytes.{byte_before, user_bytes}
use Rattle.io_model.specs.Pipe.{added_to, answer_unmoved, moved_count, pipe_room, write_answer}
use Rattle.io_model.specs.declared.pending.PendingCall.{PendingCall}
use Rattle.io_model.specs.declared.path.Target.{Target}
use Rattle.io_model.specs.declared.path.Target.TheVariants.{File, Folder, Term, Pipe}
use Rattle.io_model.specs.declared.pipe.PipeAns.{PipeAns}
use Rattle.io_model.specs.declared.pipe.PipeAns.TheVariants.{Done, NoReader}
use Rattle.io_model.specs.Again.{path_number}
use Rattle.io_model.specs.Alone.{is_alone}
use Rattle.io_model.specs.Io.{Io, OpenPath, pending_at, open_path, pipe_bytes, with_pipe_bytes}
use Rattle.io_model.specs.Modes.{can_write}
use Rattle.io_model.specs.Pipes.{write_end, write_leaves, writes_pipe}
use Rattle.io_model.specs.Step.{Caller, IoEffect, IoStep, comes, done, leaves, needs, refuses}
use Rattle.io_model.specs.Transfer.{call_now, first_call}
use Rattle.io_model.specs.Write.{writes_target}
use Rattle.io_model.specs.declared.io_call.Direction.TheVariants as Way
use Rattle.proc_state.proofs.UserBytes.{user_bytes-Some}
use Rattle.device_io.proofs.LineLemmas.{user-length}
use Rattle.device_io.proofs.SendingLemmas.{done-regs, on-pipe}
use Rattle.device_io.specs.Reading.{AreWriteBytesRead, AreReadForWrite, is_on_pipe, is_pipe, moved_before, window}
use Rattle.device_io.specs.Sending.{Sends, regs_done, sender, sent, write_call, write_code, write_named, write_open, write_on}
use Rattle.device_io.specs.declared.sending.WriteKind.{WriteKind}

-- ---- parts of a range

user-take : (cells : Cells) (at few count : ℕ) (bytes : List ℕ) → few ≤ count → user_bytes cells at count ≡ Some bytes → user_bytes cells at few ≡ Some (take few bytes)
user-take cells at zero count bytes within is = refl
user-take cells at (suc few) zero bytes within is = absurd (omega arith)
user-take cells at (suc few) (suc count) bytes within is =
    by_byte (user_cell cells at) (user_bytes cells (at + 1) count) (λ rest there. user-take cells (at + 1) few count rest (omega arith) there) is
  where
    by_byte : (byte : Option ℕ) (rest : Option (List ℕ)) → ((bytes : List ℕ) → rest ≡ Some bytes
        → user_bytes cells (at + 1) few ≡ Some (take few bytes)) → byte_before byte rest ≡ Some bytes
        → byte_before byte (user_bytes cells (at + 1) few) ≡ Some (take (suc few) bytes)
    by_byte None rest there is = absurd (none-some bytes is)
    by_byte (Some byte) None there is = absurd (none-some bytes is)
    by_byte (Some byte) (Some rest) there is =
        ap (λ (more : Option (List ℕ)). byte_before (Some byte) more) (there rest refl)
        ∙ ap (λ (it : List ℕ). Some (take (suc few) it)) (same_Some (byte ∷ rest) bytes is)

user-drop : (cells : Cells) (at moved left count : ℕ) (bytes : List ℕ) → count ≡ moved + left → user_bytes cells at count ≡ Some bytes → user_bytes cells (at + moved) left ≡ Some (drop moved bytes)
user-drop cells at zero left count bytes sum is =
    let here : at ≡ at + 0 = omega arith in
    let all : count ≡ left = omega (arith, sum) in
    subst (λ (a : ℕ). user_bytes cells a left ≡ Some bytes) here (subst (λ (n : ℕ). user_bytes cells at n ≡ Some bytes) all is)
user-drop cells at (suc moved) left zero bytes sum is = absurd (omega (arith, sum))
user-drop cells at (suc moved) left (suc count) bytes sum is =
    by_byte (user_cell cells at) (user_bytes cells (at + 1) count) (λ rest there. user-drop cells (at + 1) moved left count rest (omega (arith, sum)) there) is
  where
    by_byte : (byte : Option ℕ) (rest : Option (List ℕ)) → ((bytes : List ℕ) → rest ≡ Some bytes
        → user_bytes cells ((at + 1) + moved) left ≡ Some (drop moved bytes)) → byte_before byte rest ≡ Some bytes
        → user_bytes cells (at + suc moved) left ≡ Some (drop (suc moved) bytes)
    by_byte None rest there is = absurd (none-some bytes is)
    by_byte (Some byte) None there is = absurd (none-some bytes is)
    by_byte (Some byte) (Some rest) there is =
        let past : (at + 1) + moved ≡ at + suc moved = omega arith in
        subst (λ (a : ℕ). user_bytes cells a left ≡ Some (drop moved rest)) past (there rest refl)
        ∙ ap (λ (it : List ℕ). Some (drop (suc moved) it)) (same_Some (byte ∷ rest) bytes is)

-- ---- the part that one attempt may move

front : (xs : List ℕ) (left few : ℕ) → length xs ≡ left → few ≡ min 256 left → take 256 xs ≡ take few xs
front xs left few long is =
    sym (take_min 256 xs) ∙ ap (λ (n : ℕ). take n xs) (ap (λ (n : ℕ). min 256 n) long ∙ sym is)

put-room : (first count : ℕ) (into new : List ℕ) → first + count ≤ length into → length new ≡ count → length (put_mid first count into new) ≡ length into
put-room first count into new within same =
    let rest : List ℕ = drop count (drop first into) in
    omega (arith, length-append (take first into) (new ++ rest), length-append new rest, length-take-le first into (omega arith), length-drop count (drop first into), length-drop first into)

pub window-read : (cells : Cells) (at moved count few k : ℕ) (into new : List ℕ) → moved < count → count ≤ length into
    → few ≡ min 256 (count - moved) → k ≡ few → length new ≡ few → at + count ≤ 65536 → HoldsBytes cells (at + moved) new
    → IfSome (user_bytes cells at count) (λ bytes. window moved (take count (put_mid moved k into new)) ≡ window moved
    bytes)
window-read cells at moved count few k into new less room few_is part long fits holds =
    by (user_bytes cells at count) refl
  where
    by : (found : Option (List ℕ)) → user_bytes cells at count ≡ found → IfSome found (λ bytes. window moved (take count (put_mid moved k into new)) ≡ window moved bytes)
    by None is = tt
    by (Some bytes) is =
        let left : ℕ = count - moved in
        let sum : count ≡ moved + left = omega (arith, less) in
        let few_left : few ≤ left = omega (arith, few_is) in
        let all : length bytes ≡ count = user-length cells at count bytes is in
        let one : user_bytes cells (at + moved) few ≡ Some new = user_bytes-Some cells (at + moved) few new long (omega (arith, fits, less, few_left)) holds in
        let two : user_bytes cells (at + moved) few ≡ Some (take few (drop moved bytes)) = user-take cells
        (at + moved) few left (drop moved bytes) few_left (user-drop cells at moved left count bytes sum is) in
        let same : new ≡ take few (drop moved bytes) = same_Some new (take few (drop moved bytes)) (sym one ∙ two) in
        let of_bytes : window moved bytes ≡ take few (drop moved bytes) = front (drop moved bytes) left few (length-drop moved bytes ∙ ap (λ (n : ℕ). n - moved) all) few_is in
        let now : List ℕ = put_mid moved k into new in
        let whole : length now ≡ length into = put-room moved k into new (omega (arith, part, few_left, room, less)) (omega (arith, long, part)) in
        let rest : List ℕ = drop moved (take count now) in
        let long_rest : length rest ≡ left = length-drop moved (take count now) ∙ ap (λ (n : ℕ). n - moved) (length-take-le count now (omega (arith, whole, room))) in
        let cut : window moved (take count now) ≡ take few rest = front rest left few long_rest few_is in
        let rest_is : rest ≡ take left (drop moved now) = ap (λ (n : ℕ). drop moved (take n now)) sum ∙ drop-take moved left now in
        let tail : drop moved now ≡ new ++ drop k (drop moved into) = drop_at (take moved into) (new ++ drop k (drop moved into)) moved (length-take-le moved into (omega (arith, room, less))) in
        cut
        ∙ ap (λ (it : List ℕ). take few it) rest_is
        ∙ take-take few left (drop moved now) few_left
        ∙ ap (λ (it : List ℕ). take few it) tail
        ∙ take_at new (drop k (drop moved into)) few long
        ∙ same
        ∙ sym of_bytes

-- what stands at the front of the buffer
pub front-of : (new rest : List ℕ) (len count : ℕ) → count ≤ length new → count ≤ len → take count (take len (new ++ rest)) ≡ take count new
front-of new rest len count there within =
    take-take count len (new ++ rest) within ∙ take-append-le count new rest there

-- ---- what was read

module _ (io : Io) (p number : ℕ) where
  pub read-all : (found : Option (List ℕ)) (result : Option ℕ) (buffer : List ℕ) → found ≡ option_map (λ count. take count buffer) result → AreWriteBytesRead io p number found result buffer
  read-all None None buffer is = tt
  read-all None (Some count) buffer is = absurd (none-some (take count buffer) is)
  read-all (Some bytes) None buffer is = absurd (none-some bytes (sym is))
  read-all (Some bytes) (Some count) buffer is =
      let same : take count buffer ≡ bytes = same_Some (take count buffer) bytes (sym is) in
      record { count = ap (λ (it : List ℕ). length it) same; all = λ none. same; moving = ap (λ (it : List ℕ). window (moved_before (pending_at io p)) it) same }

  pub read-window : (found : Option (List ℕ)) (count moved : ℕ) (buffer : List ℕ) → is_some found ≡ true
      → ((bytes : List ℕ) → found ≡ Some bytes → length bytes ≡ count) → is_on_pipe (open_path io p number) ≡ true
      → moved ≡ moved_before (pending_at io p) → count ≤ length buffer
      → IfSome found (λ bytes. window moved (take count buffer) ≡ window moved bytes) → AreWriteBytesRead io p number found
      (Some count) buffer
  read-window None count moved buffer there all on same room fact = absurd (false≢true there)
  read-window (Some bytes) count moved buffer there all on same room fact = record {
    count = length-take-le count buffer room ∙ sym (all bytes refl);
    all = λ none. absurd (false≢true (sym none ∙ on));
    moving = subst (λ (n : ℕ). window n (take count buffer) ≡ window n bytes) same fact;
  }

  pub read-none : (found : Option (List ℕ)) (buffer : List ℕ) → AreWriteBytesRead io p number found None buffer → found ≡ None
  read-none None buffer read = refl
  read-none (Some bytes) buffer read = absurd read

  pub read-some : (found : Option (List ℕ)) (count : ℕ) (buffer : List ℕ) → AreWriteBytesRead io p number found (Some count)
      buffer → (bytes : List ℕ) × (found ≡ Some bytes) × AreReadForWrite io p number bytes (take count buffer)
  read-some None count buffer read = absurd read
  read-some (Some bytes) count buffer read = (bytes, refl, read)

-- ---- what an attempt makes of it

few-moved : (held : List ℕ) (alone : Bool) (count : ℕ) → moved_count (write_answer held alone count) ≤ 256
few-moved held alone count = by (pipe_room held == 0) alone
  where
    by : (full alone : Bool) → moved_count (if full then answer_unmoved alone NoReader else Done (min count (pipe_room held))) ≤ 256
    by true true = omega arith
    by true false = omega arith
    by false alone = omega arith

added-same : (answer : PipeAns) (held one other : List ℕ) → moved_count answer ≤ 256 → take 256 one ≡ take 256 other → added_to answer one held ≡ added_to answer other held
added-same answer held one other few same =
    ap (λ (it : List ℕ). held ++ it)
    (sym (take-take (moved_count answer) 256 one few) ∙ ap (λ (it : List ℕ). take (moved_count answer) it) same ∙ take-take (moved_count answer) 256 other few)

pipe-same : (io : Io) (pipe : ℕ) (call : PendingCall) (alone : Bool) (bytes read : List ℕ) (regs : Regs)
    → length read ≡ length bytes → window call.moved read ≡ window call.moved bytes → writes_pipe io pipe call alone
    read regs ≡ writes_pipe io pipe call alone bytes regs
pipe-same io pipe call alone bytes read regs long same =
    let held : List ℕ = pipe_bytes io pipe in
    let one : List ℕ = drop call.moved read in
    let other : List ℕ = drop call.moved bytes in
    let left : length one ≡ length other = length-drop call.moved read ∙ ap (λ (n : ℕ). n - call.moved) long ∙ sym (length-drop call.moved bytes) in
    let answer : PipeAns = write_answer held alone (length other) in
    ap (λ (n : ℕ). write_leaves io pipe call alone one regs (write_answer held alone n)) left
    ∙ ap (λ (now : List ℕ). leaves (write_end alone call regs answer) (with_pipe_bytes io pipe now)) (added-same answer held one other (few-moved held alone (length other)) same)

module _ (kind : WriteKind) (caller : Caller) (io : Io) (bytes read : List ℕ) (stands : AreReadForWrite io caller.process.0 (path_number (write_call kind) caller.regs) bytes read) where
  abbrev call_of : OpenPath → ℕ → PendingCall
  call_of opened count = call_now caller io (write_code kind) opened count

  abbrev On : OpenPath → Target → List ℕ → IoStep
  On opened target it =
      if length it == 0 then done (sent kind caller it).regs io
      else writes_target (sent kind caller it) caller io (call_of opened (length it)) target

  abbrev OnPipe : OpenPath → ℕ → ℕ → List ℕ → IoStep
  OnPipe opened pipe count it =
      if count == 0 then done (regs_done kind caller.regs count) io
      else comes (writes_pipe io pipe (call_of opened count) (is_alone io caller.process.0 (call_of opened count).path.0 Way.Writing) it (regs_done kind caller.regs count))

  on-pipe-is : (opened : OpenPath) (pipe : ℕ) (it : List ℕ) → On opened (Pipe pipe) it ≡ OnPipe opened pipe (length it) it
  on-pipe-is opened pipe it =
      λ i. if length it == 0 then done (done-regs kind caller it i) io else sym (on-pipe kind caller io it (call_of opened (length it)) pipe) i

  moved-is : (opened : OpenPath) (count : ℕ) → moved_before (pending_at io caller.process.0) ≡ (call_of opened count).moved
  moved-is opened count = by (pending_at io caller.process.0)
    where
      by : (pending : Option PendingCall) → moved_before pending ≡ (unwrap_or pending (first_call (write_code kind) opened count)).moved
      by None = refl
      by (Some pending) = refl

  into-pipe : (opened : OpenPath) (pipe : ℕ) → On opened (Pipe pipe) read ≡ On opened (Pipe pipe) bytes
  into-pipe opened pipe =
      let count : ℕ = length bytes in
      let call : PendingCall = call_of opened count in
      let regs : Regs = regs_done kind caller.regs count in
      let same : window call.moved read ≡ window call.moved bytes = subst (λ (n : ℕ). window n read ≡ window n bytes) (moved-is opened count) stands.moving in
      on-pipe-is opened pipe read
      ∙ ap (λ (n : ℕ). OnPipe opened pipe n read) stands.count
      ∙ ap (λ (effect : IoEffect). if count == 0 then done regs io else comes effect) (pipe-same io pipe call (is_alone io caller.process.0 call.path.0 Way.Writing) bytes read regs stands.count same)
      ∙ sym (on-pipe-is opened pipe bytes)

  on-target : (opened : OpenPath) (target : Target) → (is_pipe target ≡ false → read ≡ bytes) → On opened target read ≡ On opened target bytes
  on-target opened (File drive sector) all = ap (λ (it : List ℕ). On opened (File drive sector) it) (all refl)
  on-target opened (Folder drive sector) all = ap (λ (it : List ℕ). On opened (Folder drive sector) it) (all refl)
  on-target opened (Term terminal) all = ap (λ (it : List ℕ). On opened (Term terminal) it) (all refl)
  on-target opened (Pipe pipe) all = into-pipe opened pipe

  on-path : (path : Option OpenPath) → (is_on_pipe path ≡ false → read ≡ bytes) → needs path E_BPNUM
      (λ opened. refuses (not (can_write opened.desc.mode)) E_BMODE (On opened opened.desc.target read)) ≡ needs path
      E_BPNUM (λ opened. refuses (not (can_write opened.desc.mode)) E_BMODE (On opened opened.desc.target bytes))
  on-path None all = refl
  on-path (Some opened) all =
      ap (λ (step : IoStep). refuses (not (can_write opened.desc.mode)) E_BMODE step) (on-target opened opened.desc.target all)

  named-same : write_named kind caller io read ≡ write_named kind caller io bytes
  unfolding write_named write_open write_on
  named-same = on-path (open_path io caller.process.0 (path_number (write_call kind) caller.regs)) stands.all

-- an attempt of what was read is one of the bytes themselves
pub sends-read : (kind : WriteKind) (process : Pid) (regs : Regs) (cells : Cells) (io new : Io) (end : CallEnd)
    (before after : List TerminalState) (bytes read : List ℕ) → AreReadForWrite io process.0 (path_number (write_call kind)
    regs) bytes read → Sends (write_named kind (sender process regs cells) io read) (sender process regs cells) io
    (regs_done kind regs (length read)) end new before after → Sends (write_named kind (sender process regs cells) io
    bytes) (sender process regs cells) io (regs_done kind regs (length bytes)) end new before after
sends-read kind process regs cells io new end before after bytes read stands sends =
    let caller : Caller = sender process regs cells in
    subst (λ (n : ℕ). Sends (write_named kind caller io bytes) caller io (regs_done kind regs n) end new before after) stands.count
    (subst (λ (step : IoStep). Sends step caller io (regs_done kind regs (length read)) end new before after) (named-same kind caller io bytes read stands) sends)
