-- Calls that wait and unfinished reads, where paths, terminals and calls change.
use Rattle.std.proofs.Common.{◌≡◌, ◌≢◌, ◌<◌, ◌==◌, ◌⊎◌, ℕ, Bool, true, false, MatchBool, if◌then◌else◌, Option, Some, None, IsSome, IfSome, option_map, option_and_then, List, [], ◌++◌, map, length, get_or, set, take, drop, append_assoc, inl, inr, sym, ap, refl, ◌∙◌, subst, arith}
use Rattle.std.specs.Option.{option_map_or}
use Rattle.std.proofs.lemmas.Bool.{cases_eq, cases_lt, eqb-false, false≢true}
use Rattle.std.proofs.lemmas.List.{length-set, get_or-set_same, get_or-set_other, get_or-map, get_or_past, length-map, take_at}
use Rattle.os9_base.specs.declared.registers.Pid.{Pid}
use Rattle.os9_outer.specs.TerminalState.{TerminalState}
use Rattle.io_model.specs.Edit.{Typing}
use Rattle.io_model.specs.Pending.{pending_of, with_pending}
use Rattle.io_model.specs.Path.{PathTable, ArePaths, desc_of, holds_path, paths_after_begin, paths_after_dup, paths_after_close, paths_after_inherit}
use Rattle.io_model.specs.Terminal.{Terminal, new_terminal, TerminalReadAttempt, TerminalWriteAttempt, IsOutputCutShort, IsOutputWritten, BreaksOffEcho, Attempted, IsSameCall, is_refused, is_taken, read_attempt, kept_waiting, typed_attempt, attempt_by, typed, stored_bytes, stored_over, is_process, without_reading, released, forgotten}
use Rattle.io_model.specs.declared.edit.LineEnd.{LineEnd}
use Rattle.io_model.specs.declared.edit.LineEnd.TheVariants.{Line, EndOfFile}
use Rattle.io_model.specs.declared.pending.PendingCall.{PendingCall}
use Rattle.io_model.specs.declared.path.Desc.{Desc}
use Rattle.io_model.specs.declared.path.Target.TheVariants.{Term}
use Rattle.io_model.specs.declared.terminal.Progress.{Progress}
use Rattle.io_model.specs.declared.terminal.Progress.TheVariants as progress
use Rattle.io_model.specs.declared.terminal.ReadKind.{ReadKind}
use Rattle.io_model.specs.declared.terminal.Reading.{Reading}
use Rattle.io_model.specs.Codes.{io_call_of, direction_of, direction_of_call}
use Rattle.io_model.specs.Io.{Io, pending_at, terminal_at, target_of, with_paths, with_pipes, with_terminal, with_call}
use Rattle.io_model.specs.Processes.{without_user}
use Rattle.io_model.specs.Waiting.{pid, wait_target}
use Rattle.io_model.specs.declared.io_call.Direction.TheVariants as Way
use Rattle.io_model.specs.declared.io_call.IoCall.{IoCall}
use Rattle.io_model.specs.declared.io_call.IoCall.TheVariants as Call
use Rattle.terminal_mgr.specs.Term.{read_of}
use Rattle.io_state.proofs.HeldLemmas.{IsHeldStill, begun-still, doubled-still, closed-still, inherited-still, held-there}
use Rattle.io_state.specs.Sound.{AreWaits, MayWait, SetsStatus, MakesTerminalRead, IsWaitedFor, IsNoRead, read_kind, read_kind_of, most_of, target_at}
use Rattle.io_state.specs.Terminals.{MayReadTerminal, count_of, pending_after}

abbrev nothing : {X : Type 0} → Option X
nothing = None

pub none-some : {X : Type 0} (x : X) → nothing {X = X} ≡ Some x → ⊥
none-some x e = cc

pub some-same : {X : Type 0} (x y : X) → Some x ≡ Some y → x ≡ y
some-same x y e = cc

-- ---- paths and pipes

-- a call on a path that is on the same moves bytes, or sets a status of it
moves-still : {old : PathTable} (paths : PathTable) (call : PendingCall) → target_at paths call.path.0 ≡ target_at old
    call.path.0 → IsSome (direction_of call.code) ⊎ SetsStatus old call → IsSome (direction_of call.code) ⊎ SetsStatus
    paths call
moves-still paths call same (inl moves) = inl moves
moves-still paths call same (inr it) =
    inr (record { sets = it.sets; target = it.target; on = same ∙ it.on; on_disk = it.on_disk })

-- each call that waits has its path still
pub waits-with_paths : (io : Io) (paths : PathTable) → ((p : ℕ) (call : PendingCall) → pending_at io p ≡ Some call
    → holds_path io.paths p call.path.0 ≡ true → IsHeldStill io.paths paths p call.path.0) → AreWaits io
    → AreWaits (with_paths io paths)
waits-with_paths io paths still are = record {
  calls = λ p call kept.
      let was = are.calls p call kept in
      let now = still p call kept was.held in
      record { moves = moves-still paths call now.1 was.moves; left = was.left; held = now.0; reads = λ n on. was.reads n (sym now.1 ∙ on) };
  reads = λ n reading is.
      let was = are.reads n reading is in
      let now = still reading.process.0 was.call was.kept (are.calls reading.process.0 was.call was.kept).held in
      record {
        call = was.call;
        kept = was.kept;
        read = record { on = now.1 ∙ was.read.on; kind = was.read.kind; most = was.read.most };
      };
}

pub waits-with_pipes : (io : Io) (pipes : List (Option (List ℕ))) → AreWaits io → AreWaits (with_pipes io pipes)
waits-with_pipes io pipes are = record { calls = are.calls; reads = are.reads }

pub waits-begun : (io : Io) (p : ℕ) (desc : Desc) → ArePaths io.paths → AreWaits io → AreWaits (with_paths io (paths_after_begin io.paths p desc))
waits-begun io p desc paths are =
    waits-with_paths io (paths_after_begin io.paths p desc) (λ q call kept held. begun-still io.paths p desc q call.path.0 paths held) are

pub waits-doubled : (io : Io) (p n : ℕ) → AreWaits io → AreWaits (with_paths io (paths_after_dup io.paths p n))
waits-doubled io p n are =
    waits-with_paths io (paths_after_dup io.paths p n) (λ q call kept held. doubled-still io.paths p n q call.path.0 held) are

-- a process of which no call is kept is not one of which a call is kept
pub apart-from : (io : Io) (p q : ℕ) (call : PendingCall) → pending_at io p ≡ None → pending_at io q ≡ Some call → q ≢ p
apart-from io p q call none kept same =
    none-some call (sym none ∙ ap (λ (k : ℕ). pending_at io k) (sym same) ∙ kept)

pub waits-closed : (io : Io) (p n : ℕ) → pending_at io p ≡ None → AreWaits io → AreWaits (with_paths io (paths_after_close io.paths p n))
waits-closed io p n none are =
    waits-with_paths io (paths_after_close io.paths p n) (λ q call kept held. closed-still io.paths p n q call.path.0 (apart-from io p q call none kept) held) are

pub waits-inherited : (io : Io) (parent child : ℕ) → pending_at io child ≡ None → AreWaits io → AreWaits (with_paths io (paths_after_inherit io.paths parent child))
waits-inherited io parent child none are =
    waits-with_paths io (paths_after_inherit io.paths parent child) (λ q call kept held. inherited-still io.paths parent child q call.path.0 (apart-from io child q call none kept) held) are

-- ---- a terminal changes

reading-of : Terminal → Option Reading
reading-of t = t.reading

pub waits-with_terminal : (io : Io) (n : ℕ) (t : Terminal) → ((reading : Reading) → t.reading ≡ Some reading → IsWaitedFor io.paths io.calls n reading) → AreWaits io → AreWaits (with_terminal io n t)
waits-with_terminal io n t there are = record {
  calls = are.calls;
  reads = λ m reading is. elim (cases_eq m n) [
    | inl same ↦ elim (cases_lt n (length io.terminals)) [
      | inl within ↦
          let at : get_or (set io.terminals n t) m new_terminal ≡ t =
          ap (λ (k : ℕ). get_or (set io.terminals n t) k new_terminal) same ∙ get_or-set_same io.terminals n t new_terminal within in
          subst (λ (k : ℕ). IsWaitedFor io.paths io.calls k reading) (sym same) (there reading (sym (ap (λ (x : Terminal). x.reading) at) ∙ is))
      | inr past ↦
          let at : get_or (set io.terminals n t) m new_terminal ≡ new_terminal =
          get_or_past (set io.terminals n t) m new_terminal (omega (arith, same, past, length-set io.terminals n t)) in
          absurd (none-some reading (sym (ap (λ (x : Terminal). x.reading) at) ∙ is))
    ]
    | inr differ ↦
        are.reads m reading (sym (ap (λ (x : Terminal). x.reading) (get_or-set_other io.terminals n m t new_terminal differ)) ∙ is)
  ];
}

-- the terminal after it changed
terminal-same : (io : Io) (n m : ℕ) (t : Terminal) → m ≡ n → n < length io.terminals → terminal_at (with_terminal io n t) m ≡ t
terminal-same io n m t same within =
    ap (λ (k : ℕ). get_or (set io.terminals n t) k new_terminal) same ∙ get_or-set_same io.terminals n t new_terminal within

-- its unfinished read stays, or goes
pub waits-read_kept : (io : Io) (n : ℕ) (t : Terminal) → t.reading ≡ (terminal_at io n).reading → AreWaits io → AreWaits (with_terminal io n t)
waits-read_kept io n t same are =
    waits-with_terminal io n t (λ reading is. are.reads n reading (sym same ∙ is)) are

pub waits-read_gone : (io : Io) (n : ℕ) (t : Terminal) → t.reading ≡ None → AreWaits io → AreWaits (with_terminal io n t)
waits-read_gone io n t none are =
    waits-with_terminal io n t (λ reading is. absurd (none-some reading (sym none ∙ is))) are

-- ---- another call of a process is kept

pub waits-with_call : (io : Io) (p : ℕ) (call : Option PendingCall) → p < length io.calls → ((now : PendingCall) → call ≡ Some now
    → MayWait io.paths p now) → ((n : ℕ) (reading : Reading) → (terminal_at io n).reading ≡ Some reading
    → reading.process.0 ≡ p → IsWaitedFor io.paths (with_pending io.calls p call) n reading) → AreWaits io
    → AreWaits (with_call io p call)
waits-with_call io p call within may reads are = record {
  calls = λ q now kept. elim (cases_eq q p) [
    | inl same ↦
        let at : get_or (set io.calls p call) q None ≡ call =
        ap (λ (k : ℕ). get_or (set io.calls p call) k None) same ∙ get_or-set_same io.calls p call None within in
        subst (λ (k : ℕ). MayWait io.paths k now) (sym same) (may now (sym at ∙ kept))
    | inr differ ↦ are.calls q now (sym (get_or-set_other io.calls p q call None differ) ∙ kept)
  ];
  reads = λ n reading is. elim (cases_eq reading.process.0 p) [
    | inl same ↦ reads n reading is same
    | inr differ ↦
        let was = are.reads n reading is in
        record {
          call = was.call;
          kept = get_or-set_other io.calls p reading.process.0 call None differ ∙ was.kept;
          read = was.read;
        }
  ];
}

-- no read of the process is unfinished
abbrev pub IsNoReader : Io → ℕ → Type 0
IsNoReader io p = (n : ℕ) (reading : Reading) → (terminal_at io n).reading ≡ Some reading → reading.process.0 ≡ p → ⊥

-- of a process without an unfinished read any call may be kept in which it may wait
pub waits-kept : (io : Io) (p : ℕ) (call : Option PendingCall) → p < length io.calls → ((now : PendingCall) → call ≡ Some now
    → MayWait io.paths p now) → IsNoReader io p → AreWaits io → AreWaits (with_call io p call)
waits-kept io p call within may none are =
    waits-with_call io p call within may (λ n reading is same. absurd (none n reading is same)) are

reading-direction : (call : Option IoCall) (kind : ReadKind) → option_and_then read_kind_of call ≡ Some kind → option_and_then direction_of_call call ≡ Some Way.Reading
reading-direction None kind e = absurd (none-some kind e)
reading-direction (Some Call.Dup) kind e = absurd (none-some kind e)
reading-direction (Some Call.Create) kind e = absurd (none-some kind e)
reading-direction (Some Call.Open) kind e = absurd (none-some kind e)
reading-direction (Some Call.Close) kind e = absurd (none-some kind e)
reading-direction (Some Call.Read) kind e = refl
reading-direction (Some Call.ReadLn) kind e = refl
reading-direction (Some Call.Write) kind e = absurd (none-some kind e)
reading-direction (Some Call.WritLn) kind e = absurd (none-some kind e)
reading-direction (Some Call.GetStt) kind e = absurd (none-some kind e)
reading-direction (Some Call.SetStt) kind e = absurd (none-some kind e)
reading-direction (Some Call.PErr) kind e = absurd (none-some kind e)

-- the call of a code that reads moves bytes so
pub reading-moves : (code : ℕ) (kind : ReadKind) → read_kind code ≡ Some kind → direction_of code ≡ Some Way.Reading
reading-moves code kind e = reading-direction (io_call_of code) kind e

pub if-some : {X : Type 0} (o : Option X) (x : X) (P : X → Type 0) → IfSome o P → o ≡ Some x → P x
if-some {X} None x P holds e = absurd (none-some x e)
if-some {X} (Some y) x P holds e = subst (λ (z : X). P z) (some-same y x e) holds

-- the call that is kept of the process of an unfinished read
kept-of : (io : Io) (p n : ℕ) (reading : Reading) → AreWaits io → (terminal_at io n).reading ≡ Some reading
    → reading.process.0 ≡ p → (call : PendingCall) × (pending_at io p ≡ Some call) × MakesTerminalRead io.paths n reading call
kept-of io p n reading are is same =
    let was = are.reads n reading is in
    (was.call, ap (λ (k : ℕ). pending_at io k) (sym same) ∙ was.kept, was.read)

-- a process whose kept call is no unfinished read has none
pub no-reader : (io : Io) (p : ℕ) → IfSome (pending_at io p) (IsNoRead io) → AreWaits io → IsNoReader io p
no-reader io p free are n reading is same =
    let was = kept-of io p n reading are is same in
    if-some (pending_at io p) was.0 (IsNoRead io) free was.1 n was.2.on (reading-moves was.0.code reading.kind was.2.kind)

-- ---- an attempt of a read

-- what an attempt of a read leaves of the unfinished read
pub data Leaves (request : Reading) (answer : Progress) (old new : Terminal) : Type 0 where
  over : new.reading ≡ None → Leaves request answer old new
  begun : answer ≡ progress.Wait → new.reading ≡ Some request → Leaves request answer old new
  waits : answer ≡ progress.Wait → new.reading ≡ old.reading → Leaves request answer old new

typed-leaves : (end : Option LineEnd) (it : Typing) (request : Reading) (answer : Progress) (old new : Terminal)
    → answer ≡ (attempt_by end it request).answer → new ≡ (attempt_by end it request).terminal → Leaves request answer
    old new
typed-leaves None it request answer old new a b = begun a (ap (λ (x : Terminal). x.reading) b)
typed-leaves (Some EndOfFile) it request answer old new a b = over (ap (λ (x : Terminal). x.reading) b)
typed-leaves (Some Line) it request answer old new a b = over (ap (λ (x : Terminal). x.reading) b)

attempt-leaves : (taken : Bool) (request : Reading) (answer : Progress) (old new : Terminal)
    → answer ≡ (if taken then kept_waiting request old else typed_attempt request old).answer
    → new ≡ (if taken then kept_waiting request old else typed_attempt request old).terminal → Leaves request answer
    old new
attempt-leaves true request answer old new a b = waits a (ap (λ (x : Terminal). x.reading) b)
attempt-leaves false request answer old new a b =
    typed-leaves (typed request old.line old.ahead).end (typed request old.line old.ahead) request answer old new a b

outcome-leaves : (refused : Bool) (request : Reading) (answer : Progress) (old new : Terminal)
    (before now : TerminalState) → MatchBool refused (BreaksOffEcho request old new before now)
    (Attempted (read_attempt request old) answer new before now) → Leaves request answer old new
outcome-leaves true request answer old new before now outcome = over (ap (λ (x : Terminal). x.reading) outcome.terminal)
outcome-leaves false request answer old new before now outcome =
    attempt-leaves (is_taken request.process old) request answer old new outcome.answer_is outcome.terminal

pub read-leaves : (request : Reading) (answer : Progress) (old new : Terminal) (before now : TerminalState) → TerminalReadAttempt request answer old new before now → Leaves request answer old new
read-leaves request answer old new before now reads =
    outcome-leaves (is_refused answer) request answer old new before now reads.outcome

-- the unfinished read of such a process is that of the call, and on that terminal
reader-is : (io : Io) (p n m : ℕ) (kind : ReadKind) (call : PendingCall) (reading : Reading) → MayReadTerminal io p n kind call
    → AreWaits io → (terminal_at io m).reading ≡ Some reading → reading.process.0 ≡ p → (m ≡ n) × MakesTerminalRead io.paths m
    reading call
reader-is io p n m kind call reading may are is same =
    let was = kept-of io p m reading are is same in
    let here : was.0 ≡ call = if-some (pending_at io p) was.0 (λ (kept : PendingCall). kept ≡ call) may.same was.1 in
    let read : MakesTerminalRead io.paths m reading call = subst (λ (k : PendingCall). MakesTerminalRead io.paths m reading k) here was.2 in
    ((let on : Some (Term m) ≡ Some (Term n) = sym read.on ∙ may.on in cc), read)

reading-same : (reading : Reading) (process : Pid) (kind : ReadKind) (most : ℕ) → reading.process ≡ process → reading.kind ≡ kind → reading.most ≡ most → reading ≡ read_of process kind most
reading-same reading process kind most a b c = λ i. record { process = a i; kind = b i; most = c i }

-- it is the same read
pub same-read : (io : Io) (p n : ℕ) (kind : ReadKind) (call : PendingCall) → MayReadTerminal io p n kind call → AreWaits io → IsSameCall (read_of (pid p) kind (most_of call)) (terminal_at io n)
same-read io p n kind call may are = by (terminal_at io n).reading refl
  where
    by : (reading : Option Reading) → (terminal_at io n).reading ≡ reading → IfSome reading (λ reading. reading.process ≡ pid p → reading ≡ read_of (pid p) kind (most_of call))
    by None is = tt
    by (Some reading) is = λ same.
        let read = (reader-is io p n n kind call reading may are is (ap (λ (q : Pid). q.0) same)).1 in
        reading-same reading (pid p) kind (most_of call) same (some-same reading.kind kind (sym read.kind ∙ may.kind_is)) (sym read.most)

call-same : (io : Io) (p q : ℕ) (call : Option PendingCall) → q ≡ p → p < length io.calls → pending_of (with_pending io.calls p call) q ≡ call
call-same io p q call same within =
    ap (λ (k : ℕ). get_or (set io.calls p call) k None) same ∙ get_or-set_same io.calls p call None within

kept-may : (io : Io) (p n : ℕ) (kind : ReadKind) (call : PendingCall) (answer : Progress) → MayReadTerminal io p n kind call → (now : PendingCall) → pending_after answer call ≡ Some now
    → MayWait io.paths p now
kept-may io p n kind call (progress.Done count) may now e = absurd (none-some now e)
kept-may io p n kind call progress.Wait may now e =
    subst (λ (k : PendingCall). MayWait io.paths p k) (some-same call now e) may.may
kept-may io p n kind call progress.End may now e = absurd (none-some now e)
kept-may io p n kind call progress.Fault may now e = absurd (none-some now e)
kept-may io p n kind call progress.NoMemory may now e = absurd (none-some now e)

-- the read is over
over-waits : (io : Io) (p n : ℕ) (kind : ReadKind) (call : PendingCall) (kept : Option PendingCall) (t : Terminal)
    → p < length io.calls → n < length io.terminals → MayReadTerminal io p n kind call → ((now : PendingCall) → kept ≡ Some now
    → MayWait io.paths p now) → t.reading ≡ None → AreWaits io → AreWaits (with_call (with_terminal io n t) p kept)
over-waits io p n kind call kept t process terminal may allowed none are =
    let gone = waits-read_gone io n t none are in
    let may' : MayReadTerminal (with_terminal io n t) p n kind call =
    record { may = may.may; on = may.on; kind_is = may.kind_is; same = may.same } in
    waits-kept (with_terminal io n t) p kept process allowed (λ m reading is same.
    let here = (reader-is (with_terminal io n t) p n m kind call reading may' gone is same).0 in
    none-some reading (sym none ∙ sym (ap (λ (x : Terminal). x.reading) (terminal-same io n m t here terminal)) ∙ is)) gone

-- the read waits
waiting-waits : (io : Io) (p n : ℕ) (kind : ReadKind) (call : PendingCall) (t : Terminal) → p < length io.calls
    → MayReadTerminal io p n kind call → (t.reading ≡ Some (read_of (pid p) kind (most_of call))) ⊎
    (t.reading ≡ (terminal_at io n).reading) → AreWaits io → AreWaits (with_call (with_terminal io n t) p (Some call))
waiting-waits io p n kind call t process may leaves are =
    waits-with_terminal (with_call io p (Some call)) n t (λ reading is. elim leaves [
      | inl new ↦
          let here : reading ≡ read_of (pid p) kind (most_of call) = some-same reading (read_of (pid p) kind (most_of call)) (sym is ∙ new) in
          subst (λ (r : Reading). IsWaitedFor io.paths (with_pending io.calls p (Some call)) n r) (sym here) (record {
            call = call;
            kept = call-same io p p (Some call) refl process;
            read = record { on = may.on; kind = may.kind_is; most = refl };
          })
      | inr same ↦ kept.reads n reading (sym same ∙ is)
    ]) kept
  where
    kept : AreWaits (with_call io p (Some call))
    kept =
        waits-with_call io p (Some call) process (λ now e. subst (λ (k : PendingCall). MayWait io.paths p k) (some-same call now e) may.may) (λ m reading is same. record {
          call = call;
          kept = call-same io p reading.process.0 (Some call) same process;
          read = (reader-is io p n m kind call reading may are is same).1;
        }) are

-- after an attempt of a read
pub waits-after_read : (io : Io) (p n : ℕ) (kind : ReadKind) (call : PendingCall) (t : Terminal) (answer : Progress)
    → p < length io.calls → n < length io.terminals → MayReadTerminal io p n kind call
    → Leaves (read_of (pid p) kind (most_of call)) answer (terminal_at io n) t → AreWaits io
    → AreWaits (with_call (with_terminal io n t) p (pending_after answer call))
waits-after_read io p n kind call t answer process terminal may (over none) are =
    over-waits io p n kind call (pending_after answer call) t process terminal may (kept-may io p n kind call answer may) none are
waits-after_read io p n kind call t answer process terminal may (begun wait is) are =
    subst (λ (a : Progress). AreWaits (with_call (with_terminal io n t) p (pending_after a call))) (sym wait) (waiting-waits io p n kind call t process may (inl is) are)
waits-after_read io p n kind call t answer process terminal may (waits wait is) are =
    subst (λ (a : Progress). AreWaits (with_call (with_terminal io n t) p (pending_after a call))) (sym wait) (waiting-waits io p n kind call t process may (inr is) are)

-- ---- an attempt of a write

-- what a write leaves of the unfinished read
pub write-leaves : (process : Pid) (bytes : List ℕ) (count : ℕ) (answer : Progress) (old new : Terminal)
    (before now : TerminalState) → TerminalWriteAttempt process bytes count answer old new before now → (new.reading ≡ None) ⊎
    (new.reading ≡ old.reading)
write-leaves process bytes count answer old new before now writes = by (is_refused answer) writes.outcome
  where
    by : (refused : Bool) → MatchBool refused (IsOutputCutShort process bytes old new before now)
        (IsOutputWritten process bytes count answer old new before now) → (new.reading ≡ None) ⊎ (new.reading ≡ old.reading)
    by true outcome = inl (ap (λ (x : Terminal). x.reading) outcome.terminal)
    by false outcome = inr (ap (λ (x : Terminal). x.reading) outcome.terminal)

-- after a change of a terminal that leaves its unfinished read, or drops it
pub waits-left : (io : Io) (n : ℕ) (t : Terminal) → (t.reading ≡ None) ⊎ (t.reading ≡ (terminal_at io n).reading) → AreWaits io → AreWaits (with_terminal io n t)
waits-left io n t leaves are = elim leaves [
  | inl none ↦ waits-read_gone io n t none are
  | inr same ↦ waits-read_kept io n t same are
]

-- where no call of the process is kept then
pub waits-after_write : (io : Io) (p n : ℕ) (t : Terminal) → p < length io.calls → IfSome (pending_at io p) (IsNoRead io)
    → (t.reading ≡ None) ⊎ (t.reading ≡ (terminal_at io n).reading) → AreWaits io
    → AreWaits (with_call (with_terminal io n t) p None)
waits-after_write io p n t process free leaves are =
    let left = waits-left io n t leaves are in
    waits-kept (with_terminal io n t) p None process (λ now e. absurd (none-some now e)) (no-reader (with_terminal io n t) p free left) left

-- ---- what stands in a buffer

refused-count : (answer : Progress) → is_refused answer ≡ true → 0 ≡ count_of answer
refused-count (progress.Done count) e = absurd (false≢true e)
refused-count progress.Wait e = refl
refused-count progress.End e = refl
refused-count progress.Fault e = refl
refused-count progress.NoMemory e = refl

typed-count : (end : Option LineEnd) (it : Typing) (request : Reading) → length (attempt_by end it request).stored ≡ count_of (attempt_by end it request).answer
typed-count None it request = refl
typed-count (Some EndOfFile) it request = refl
typed-count (Some Line) it request = refl

attempt-count : (taken : Bool) (request : Reading) (old : Terminal) → length (if taken then kept_waiting request old
    else typed_attempt request old).stored ≡ count_of (if taken then kept_waiting request old else typed_attempt
    request old).answer
attempt-count true request old = refl
attempt-count false request old =
    typed-count (typed request old.line old.ahead).end (typed request old.line old.ahead) request

-- an attempt of a read answers how many bytes it stores
pub stored-count : (request : Reading) (answer : Progress) (old new : Terminal) (before now : TerminalState)
    → TerminalReadAttempt request answer old new before now → length (stored_bytes answer request old) ≡ count_of answer
stored-count request answer old new before now reads = by (is_refused answer) refl reads.outcome
  where
    by : (refused : Bool) → is_refused answer ≡ refused → MatchBool refused (BreaksOffEcho request old new before now)
        (Attempted (read_attempt request old) answer new before now)
        → length (if refused then [] else (read_attempt request old).stored) ≡ count_of answer
    by true e outcome = refused-count answer e
    by false e outcome = attempt-count (is_taken request.process old) request old ∙ ap count_of (sym outcome.answer_is)

-- they stand at the front of a buffer, a part of which was read into
pub stored-front : (stored room into rest : List ℕ) (count : ℕ) → length stored ≡ count → into ≡ stored_over stored room → take count (into ++ rest) ≡ stored
stored-front stored room into rest count counted is =
    ap (λ (bytes : List ℕ). take count (bytes ++ rest)) is
    ∙ ap (take count) (append_assoc stored (drop (length stored) room) rest)
    ∙ take_at stored (drop (length stored) room ++ rest) count counted

-- ---- a call is broken off

-- what the process of an unfinished read waits on
reads-here : (io : Io) (p n : ℕ) (reading : Reading) → AreWaits io → (terminal_at io n).reading ≡ Some reading → reading.process.0 ≡ p → wait_target io p ≡ Some (Term n)
reads-here io p n reading are is same =
    let was = kept-of io p n reading are is same in
    ap (option_and_then (λ (kept : PendingCall). target_of io kept.path)) was.1 ∙ was.2.on

-- who waits on no terminal reads none
pub no-reader_off : (io : Io) (p : ℕ) → ((n : ℕ) → wait_target io p ≡ Some (Term n) → ⊥) → AreWaits io → IsNoReader io p
no-reader_off io p off are n reading is same = off n (reads-here io p n reading are is same)

pub waits-dropped : (io : Io) (p : ℕ) → p < length io.calls → IsNoReader io p → AreWaits io → AreWaits (with_call io p None)
waits-dropped io p process none are =
    waits-kept io p None process (λ now e. absurd (none-some now e)) none are

-- the unfinished read of a process, after it was released
released-by : (p : ℕ) (t : Terminal) (reading : Option Reading) → t.reading ≡ reading → (now : Reading)
    → (if option_map_or (is_process (pid p)) (option_map (λ (it : Reading). it.process) reading) false then
    without_reading t else t).reading ≡ Some now → (now.process.0 ≡ p → ⊥) × (t.reading ≡ Some now)
released-by p t None e now is = absurd (none-some now (sym e ∙ is))
released-by p t (Some it) e now is = by (p == it.process.0) refl is
  where
    by : (mine : Bool) → (p == it.process.0) ≡ mine → (if mine then without_reading t else t).reading ≡ Some now → (now.process.0 ≡ p → ⊥) × (t.reading ≡ Some now)
    by true mine is = absurd (none-some now is)
    by false mine is = (
      λ same. eqb-false p it.process.0 mine (sym (ap (λ (r : Reading). r.process.0) (some-same it now (sym e ∙ is)) ∙ same)),
      is,
    )

-- is another process's, and was there
pub released-reads : (p : ℕ) (t : Terminal) (now : Reading) → (released (pid p) t).reading ≡ Some now → (now.process.0 ≡ p → ⊥) × (t.reading ≡ Some now)
released-reads p t now is = released-by p t t.reading refl now is

forgotten-reads : (p : ℕ) (t : Terminal) (now : Reading) → (forgotten (pid p) t).reading ≡ Some now → (now.process.0 ≡ p → ⊥) × (t.reading ≡ Some now)
forgotten-reads p t now is = by (option_map_or (is_process (pid p)) t.user false) is
  where
    by : (user : Bool) → (if user then record (released (pid p) t) { user = None } else released (pid p) t).reading ≡ Some now → (now.process.0 ≡ p → ⊥) × (t.reading ≡ Some now)
    by true is = released-reads p t now is
    by false is = released-reads p t now is

-- who waits on this terminal
pub waits-released : (io : Io) (p n : ℕ) → p < length io.calls → n < length io.terminals → wait_target io p ≡ Some
    (Term n) → AreWaits io → AreWaits (with_call (with_terminal io n (released (pid p) (terminal_at io n))) p None)
waits-released io p n process within on are =
    let t : Terminal = released (pid p) (terminal_at io n) in
    let left = waits-with_terminal io n t (λ reading is. are.reads n reading (released-reads p (terminal_at io n) reading is).1) are in
    waits-dropped (with_terminal io n t) p process (λ m reading is same.
    let here : m ≡ n = (let e : Some (Term n) ≡ Some (Term m) = sym on ∙ reads-here (with_terminal io n t) p m reading left is same in cc) in
    (released-reads p (terminal_at io n) reading (sym (ap (λ (x : Terminal). x.reading) (terminal-same io n m t here within)) ∙ is)).0 same) left

-- ---- a process ends

forgotten-at : (io : Io) (p n : ℕ) (now : Reading) → (terminal_at (without_user io p) n).reading ≡ Some now → (now.process.0 ≡ p → ⊥) × ((terminal_at io n).reading ≡ Some now)
forgotten-at io p n now is = elim (cases_lt n (length io.terminals)) [
  | inl within ↦
      forgotten-reads p (terminal_at io n) now (sym (ap (λ (t : Terminal). t.reading) (get_or-map (forgotten (pid p)) io.terminals n new_terminal new_terminal within)) ∙ is)
  | inr past ↦
      absurd (none-some now (sym (ap (λ (t : Terminal). t.reading) (get_or_past (map (forgotten (pid p)) io.terminals)
      n new_terminal (omega (arith, past, length-map io.terminals (forgotten (pid p)))))) ∙ is))
]

pub waits-forgotten : (io : Io) (p : ℕ) → p < length io.calls → AreWaits io → AreWaits (with_call (without_user io p) p None)
waits-forgotten io p process are =
    waits-dropped (without_user io p) p process (λ n reading is same. (forgotten-at io p n reading is).0 same) (record {
      calls = are.calls;
      reads = λ n reading is. are.reads n reading (forgotten-at io p n reading is).1;
    })

-- a call that waits is on a path that is there
pub call-there : (io : Io) (p : ℕ) (call : PendingCall) → ArePaths io.paths → AreWaits io → pending_at io p ≡ Some call → IsSome (desc_of io.paths call.path.0)
call-there io p call paths are kept = held-there io.paths p call.path.0 paths (are.calls p call kept).held
