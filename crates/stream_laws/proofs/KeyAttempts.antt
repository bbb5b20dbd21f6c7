-- What an attempt, an end and a signal make of the keys of a terminal.
use Rattle.std.proofs.Common.{◌≡◌, ◌≢◌, ◌⊎◌, ℕ, zero, suc, ◌<◌, ◌==◌, Bool, true, false, Option, Some, None, List, [], ◌∷◌, ◌++◌, length, slice_get, slice_set, refl, sym, ap, ◌∙◌, subst, inl, inr, append_assoc}
use Rattle.std.specs.Prelude.{slice_index_or, if◌then◌else◌}
use Rattle.std.specs.Option.{option_map_or}
use Rattle.std.proofs.lemmas.Bool.{cases_eq, cases_lt, eq-eqb, eqb-true}
use Rattle.std.proofs.lemmas.List.{get_or-set_same, get_or-set_other, get_or_past, get_or-map, length-map, length-set}
use Rattle.std.proofs.lemmas.Option.{none-some, same_Some}
use Rattle.io_model.specs.Read.{read_call}
use Rattle.os9_base.specs.Count.{Rose}
use Rattle.os9_base.specs.declared.errors.TheConstants.{E_EOF, E_WRITE}
use Rattle.os9_base.specs.declared.registers.Pid.{Pid}
use Rattle.os9_outer.specs.TerminalState.{TerminalState, ChangesOneTerminal}
use Rattle.os9_outer.specs.declared.terminal.Key.{Key}
use Rattle.io_model.specs.Edit.{Edited, Editing, Typing, after_key, cleared, goes_on, typing, used_up}
use Rattle.io_model.proofs.EditLemmas.{typing-append, uses-all, uses-front}
use Rattle.io_model.specs.Path.{closed_desc, paths_after_close, slot_of}
use Rattle.io_model.specs.Terminal.{Terminal, Attempted, BreaksOffEcho, TerminalReadAttempt, TerminalWriteAttempt, attempt_by, forgotten, is_process, is_taken, key_effect, kept_waiting, new_terminal, read_attempt, reader, released, stored_bytes, typed, typed_attempt, without_reading}
use Rattle.io_model.specs.declared.edit.LineEnd.{LineEnd}
use Rattle.io_model.specs.declared.edit.LineEnd.TheVariants.{EndOfFile, Line}
use Rattle.io_model.specs.declared.path.Desc.{Desc}
use Rattle.io_model.specs.declared.path.SysPath.{SysPath}
use Rattle.io_model.specs.declared.path.Target.{Target}
use Rattle.io_model.specs.declared.path.Target.TheVariants.{File, Folder, Term, Pipe}
use Rattle.io_model.specs.declared.path.TheConstants.{PROCESS_PATHS}
use Rattle.io_model.specs.declared.terminal.Progress.{Progress}
use Rattle.io_model.specs.declared.terminal.ReadKind.{ReadKind}
use Rattle.io_model.specs.declared.terminal.ReadKind.TheVariants.{Bytes, WholeLine}
use Rattle.io_model.specs.declared.terminal.Reading.{Reading}
use Rattle.io_model.specs.Attempts.{HasIoEffect}
use Rattle.io_model.specs.Close.{after_close, without_path, without_target}
use Rattle.io_model.specs.Codes.{direction_of_call}
use Rattle.io_model.specs.Io.{Io, OpenPath, open_path, terminal_at, with_paths, with_terminal}
use Rattle.io_model.specs.Pipes.{count_regs}
use Rattle.io_model.specs.Processes.{closed_below, closed_if_open, io_ended, without_user}
use Rattle.io_model.specs.Step.{Caller, IoEffect, IoEnd, IoStep, answers, fails, keeps, refused, comes, reads, writes, TerminalRead, TerminalWrite}
use Rattle.io_model.specs.Terminals.{ReadsTerminal, read_ends, read_leaves, request_of, write_ends}
use Rattle.io_model.specs.Waiting.{io_interrupted, pid, wait_target, without_unfinished}
use Rattle.io_model.specs.declared.io_call.Direction.TheVariants.{Writing}
use Rattle.io_model.specs.declared.io_call.Direction.TheVariants as Way
use Rattle.io_model.specs.declared.io_call.IoCall.{IoCall}
use Rattle.call_laws.proofs.StepWalk.{StepGives}
use Rattle.stream_laws.specs.Keys.{LineGoes, LineStays, UsesNone, reading_of}
use Rattle.stream_laws.proofs.KeyReads.{IsReadOn, ReadsOn, StepReads, one-target}
use Rattle.stream_laws.proofs.KeyWrites.{OnTerminal, StepWrites}

-- ---- one terminal of many

-- the type-ahead stays, and the line too, or it is dropped for a cause
pub record TermLeft (Cause : Type 0) (old new : Terminal) : Type 0 where
  pub ahead : new.ahead ≡ old.ahead
  pub line : LineStays old new ⊎ Cause × LineGoes old.line new

term-same : (Cause : Type 0) (old new : Terminal) → new ≡ old → TermLeft Cause old new
term-same Cause old new is = record {
  ahead = ap (λ (t : Terminal). t.ahead) is;
  line = inl (record { line = ap (λ (t : Terminal). t.line) is; reading = ap (λ (t : Terminal). t.reading) is });
}

pub term-for : (A B : Type 0) (old new : Terminal) → (A → B) → TermLeft A old new → TermLeft B old new
term-for A B old new causes it = record { ahead = it.ahead; line = by_line it.line }
  where
    by_line : LineStays old new ⊎ A × LineGoes old.line new → LineStays old new ⊎ B × LineGoes old.line new
    by_line (inl stays) = inl stays
    by_line (inr (cause, goes)) = inr (causes cause, goes)

-- and the terminals are as many
pub record AheadLeft (Cause : Type 0) (n : ℕ) (old new : Io) : Type 0 where
  pub terminal : TermLeft Cause (terminal_at old n) (terminal_at new n)
  pub places : length new.terminals ≡ length old.terminals

pub left-same : (Cause : Type 0) (n : ℕ) (old new : Io) → new.terminals ≡ old.terminals → AheadLeft Cause n old new
left-same Cause n old new same = record {
  terminal =
      term-same Cause (terminal_at old n) (terminal_at new n) (ap (λ (terminals : List Terminal). slice_index_or terminals n new_terminal) same);
  places = ap (length {A = Terminal}) same;
}

pub left-for : (A B : Type 0) (n : ℕ) (old new : Io) → (A → B) → AheadLeft A n old new → AheadLeft B n old new
left-for A B n old new causes it =
    record { terminal = term-for A B (terminal_at old n) (terminal_at new n) causes it.terminal; places = it.places }

left-set : (Cause : ℕ → Type 0) (n : ℕ) (io : Io) (m : ℕ) (terminal : Terminal) → TermLeft (Cause m) (terminal_at io m) terminal → AheadLeft (Cause n) n io (with_terminal io m terminal)
left-set Cause n io m terminal it =
    record { terminal = by_place (cases_eq n m); places = length-set io.terminals m terminal }
  where
    at_it : TermLeft (Cause m) (terminal_at io m) (terminal_at (with_terminal io m terminal) m)
    at_it =
        elim (cases_lt m (length io.terminals)) [
          | inl within ↦ subst (TermLeft (Cause m) (terminal_at io m)) (sym (get_or-set_same io.terminals m terminal new_terminal within)) it
          | inr past ↦ term-same (Cause m) (terminal_at io m) (terminal_at (with_terminal io m terminal) m)
              (get_or_past (with_terminal io m terminal).terminals m new_terminal (rw length-set past) ∙ sym
              (get_or_past io.terminals m new_terminal past))
        ]

    by_place : (n ≡ m) ⊎ (n ≢ m) → TermLeft (Cause n) (terminal_at io n) (terminal_at (with_terminal io m terminal) n)
    by_place (inl is) =
        subst (λ (n : ℕ). TermLeft (Cause n) (terminal_at io n) (terminal_at (with_terminal io m terminal) n)) (sym is) at_it
    by_place (inr apart) =
        term-same (Cause n) (terminal_at io n) (terminal_at (with_terminal io m terminal) n) (get_or-set_other io.terminals m n terminal new_terminal apart)

-- ---- what a process closes and lets go of

-- the unfinished read of a terminal is this process's
abbrev pub IsReader : Io → ℕ → ℕ → Type 0
IsReader io p n = reader (terminal_at io n) ≡ Some (pid p)

released-left : (p : ℕ) (t : Terminal) → TermLeft (reader t ≡ Some (pid p)) t (released (pid p) t)
released-left p t = by_reader (reader t) refl
  where
    by_it : (q : Pid) → reader t ≡ Some q → (it : Bool) → (p == q.0) ≡ it → TermLeft (reader t ≡ Some (pid p)) t (if it then without_reading t else t)
    by_it q is true same = record {
      ahead = refl;
      line =
          inr (is ∙ ap (λ (k : ℕ). Some (pid k)) (sym (eqb-true p q.0 same)), record { line = refl; reading = refl });
    }
    by_it q is false apart = term-same (reader t ≡ Some (pid p)) t t refl

    by_reader : (who : Option Pid) → reader t ≡ who → TermLeft (reader t ≡ Some (pid p)) t (if option_map_or (is_process (pid p)) who false then without_reading t else t)
    by_reader None is = term-same (reader t ≡ Some (pid p)) t t refl
    by_reader (Some q) is = by_it q is (p == q.0) refl

forgotten-term : (p : ℕ) (t : Terminal) → TermLeft (reader t ≡ Some (pid p)) t (forgotten (pid p) t)
forgotten-term p t = by_user (option_map_or (is_process (pid p)) t.user false)
  where
    by_line : LineStays t (released (pid p) t) ⊎ (reader t ≡ Some (pid p)) × LineGoes t.line (released (pid p) t)
        → LineStays t (record (released (pid p) t) { user = None }) ⊎ (reader t ≡ Some (pid p)) × LineGoes t.line
        (record (released (pid p) t) { user = None })
    by_line (inl stays) = inl (record { line = stays.line; reading = stays.reading })
    by_line (inr (reads_it, goes)) = inr (reads_it, record { line = goes.line; reading = goes.reading })

    by_user : (it : Bool) → TermLeft (reader t ≡ Some (pid p)) t (if it then record (released (pid p) t) { user = None } else released (pid p) t)
    by_user true = record { ahead = (released-left p t).ahead; line = by_line (released-left p t).line }
    by_user false = released-left p t

pub closed-terminals : (io : Io) (p k : ℕ) → (after_close io p k).terminals ≡ io.terminals
closed-terminals io p k = by_gone (closed_desc io.paths p k)
  where
    by_target : (target : Target) → (without_target (with_paths io (paths_after_close io.paths p k)) target).terminals ≡ io.terminals
    by_target (File drive sector) = refl
    by_target (Folder drive sector) = refl
    by_target (Term terminal) = refl
    by_target (Pipe pipe) = refl

    by_gone : (gone : Option Desc) → (without_path (with_paths io (paths_after_close io.paths p k)) gone).terminals ≡ io.terminals
    by_gone None = refl
    by_gone (Some desc) = by_target desc.target

closed-if : (io : Io) (p k : ℕ) (path : Option SysPath) → (closed_if_open io p k path).terminals ≡ io.terminals
closed-if io p k None = refl
closed-if io p k (Some path) = closed-terminals io p k

all-closed : (io : Io) (p k : ℕ) → (closed_below io p k).terminals ≡ io.terminals
all-closed io p zero = refl
all-closed io p (suc k) =
    closed-if (closed_below io p k) p k (slot_of (closed_below io p k).paths p k) ∙ all-closed io p k

forgotten-left : (n : ℕ) (io : Io) (p : ℕ) → AheadLeft (IsReader io p n) n io (without_user io p)
forgotten-left n io p = record {
  terminal =
      elim (cases_lt n (length io.terminals)) [
        | inl within ↦ subst (TermLeft (IsReader io p n) (terminal_at io n))
            (sym (get_or-map (forgotten (pid p)) io.terminals n new_terminal new_terminal within))
            (forgotten-term p (terminal_at io n))
        | inr past ↦ term-same (IsReader io p n) (terminal_at io n) (terminal_at (without_user io p) n)
            (get_or_past (without_user io p).terminals n new_terminal (rw length-map past) ∙ sym
            (get_or_past io.terminals n new_terminal past))
      ];
  places = simp length-map;
}

-- the terminals are those that an end finds, after all was closed
closed-from : (n p : ℕ) (io closed : Io) (new : Io) → closed.terminals ≡ io.terminals → AheadLeft (IsReader closed p n) n closed new → AheadLeft (IsReader io p n) n io new
closed-from n p io closed new same it = record {
  terminal =
      subst (λ (t : Terminal). TermLeft (reader t ≡ Some (pid p)) t (terminal_at new n)) (ap (λ (terminals : List Terminal). slice_index_or terminals n new_terminal) same) it.terminal;
  places = it.places ∙ ap (length {A = Terminal}) same;
}

pub ended-left : (n : ℕ) (io : Io) (p : ℕ) → AheadLeft (IsReader io p n) n io (io_ended io p)
ended-left n io p =
    let closed : Io = closed_below io p PROCESS_PATHS in
    let freed : AheadLeft (IsReader closed p n) n closed (without_user closed p) = forgotten-left n closed p in
    let it : AheadLeft (IsReader io p n) n io (without_user closed p) = closed-from n p io closed (without_user closed p) (all-closed io p PROCESS_PATHS) freed in
    record { terminal = it.terminal; places = it.places }

-- the read of a process that ends is dropped
released-drops : (p : ℕ) (t : Terminal) → reader t ≡ Some (pid p) → (released (pid p) t).reading ≡ None
released-drops p t is =
    ap (λ (who : Option Pid). (if option_map_or (is_process (pid p)) who false then without_reading t else t).reading) is
    ∙ ap (λ (it : Bool). (if it then without_reading t else t).reading) (eq-eqb p p refl)

forgotten-drops : (p : ℕ) (t : Terminal) → reader t ≡ Some (pid p) → (forgotten (pid p) t).reading ≡ None
forgotten-drops p t is = by_user (option_map_or (is_process (pid p)) t.user false)
  where
    by_user : (it : Bool) → (if it then record (released (pid p) t) { user = None } else released (pid p) t).reading ≡ None
    by_user true = released-drops p t is
    by_user false = released-drops p t is

-- and of one whose call on the terminal is broken off
pub interrupted-drops : (n : ℕ) (io : Io) (p : ℕ) → wait_target io p ≡ Some (Term n) → IsReader io p n → (terminal_at (io_interrupted io p) n).reading ≡ None
interrupted-drops n io p waits_on is =
    ap (λ (target : Option Target). (terminal_at (without_unfinished io p target) n).reading) waits_on
    ∙ elim (cases_lt n (length io.terminals)) [
      | inl within ↦ ap (λ (t : Terminal). t.reading) (get_or-set_same io.terminals n (released (pid p) (terminal_at io n)) new_terminal within) ∙ released-drops p (terminal_at io n) is
      | inr past ↦ ap (λ (t : Terminal). t.reading) (get_or_past (with_terminal io n (released (pid p) (terminal_at io n))).terminals n new_terminal (rw length-set past))
    ]

pub ended-drops : (n : ℕ) (io : Io) (p : ℕ) → IsReader io p n → (terminal_at (io_ended io p) n).reading ≡ None
ended-drops n io p is =
    elim (cases_lt n (length closed.terminals)) [
      | inl within ↦ ap (λ (t : Terminal). t.reading) (get_or-map (forgotten (pid p)) closed.terminals n new_terminal
          new_terminal within) ∙ forgotten-drops p (terminal_at closed n)
          (ap (λ (terminals : List Terminal). reader (slice_index_or terminals n new_terminal))
          (all-closed io p PROCESS_PATHS) ∙ is)
      | inr past ↦ ap (λ (t : Terminal). t.reading) (get_or_past (without_user closed p).terminals n new_terminal (rw length-map past))
    ]
  where
    closed : Io
    closed = closed_below io p PROCESS_PATHS

unfinished-left : (n : ℕ) (io : Io) (p : ℕ) (target : Option Target) → AheadLeft (IsReader io p n) n io (without_unfinished io p target)
unfinished-left n io p None = left-same (IsReader io p n) n io io refl
unfinished-left n io p (Some (File drive sector)) = left-same (IsReader io p n) n io io refl
unfinished-left n io p (Some (Folder drive sector)) = left-same (IsReader io p n) n io io refl
unfinished-left n io p (Some (Term terminal)) =
    left-set (IsReader io p) n io terminal (released (pid p) (terminal_at io terminal)) (released-left p (terminal_at io terminal))
unfinished-left n io p (Some (Pipe pipe)) = left-same (IsReader io p n) n io io refl

pub interrupted-left : (n : ℕ) (io : Io) (p : ℕ) → AheadLeft (IsReader io p n) n io (io_interrupted io p)
interrupted-left n io p =
    let it = unfinished-left n io p (wait_target io p) in record { terminal = it.terminal; places = it.places }

-- ---- a read

-- how an attempt of a read ends that stores these bytes, where its keys made this of its line
abbrev pub Ends : Type 0 → Caller → Typing → Reading → Terminal → List ℕ → IoEnd → Type 0
Ends Fails caller made request new bytes (answers regs) =
    (made.end ≡ Some Line) × (regs ≡ count_regs caller (length made.line.bytes)) × (bytes ≡ made.line.bytes) × LineGoes made.line new
Ends Fails caller made request new bytes (fails number) =
    ((made.end ≡ Some EndOfFile) × (number ≡ E_EOF) ⊎ (number ≡ E_WRITE) × Fails) × LineGoes made.line new
Ends Fails caller made request new bytes (keeps kept) =
    (made.end ≡ None) × (new.line ≡ made.line) × (new.reading ≡ Some request) × (new.ahead ≡ []) × (bytes ≡ [])

-- an attempt of a read uses these keys
pub record Uses (Fails : Type 0) (caller : Caller) (request : Reading) (old new : Terminal) (keys bytes : List ℕ) (end : IoEnd) : Type 0 where
  pub alone : is_taken request.process old ≡ false
  pub front : old.ahead ≡ keys ++ new.ahead
  pub used : (typed request old.line keys).left ≡ []
  pub ends : Ends Fails caller (typed request old.line keys) request new bytes end

-- keys up to one whose echo failed
broken-line : (step : Editing → ℕ → Edited) (line : Editing) (front : List ℕ) (key : ℕ) → (typing step line front).end
    ≡ None → (typing step line (front ++ key ∷ [])).line ≡ (step (typing step line front).line key).line
broken-line step line front key unfinished =
    ap (λ (it : Typing). it.line) (typing-append step line front (key ∷ []))
    ∙ ap (λ (end : Option LineEnd). (goes_on end step (typing step line front) (key ∷ [])).line) unfinished
    ∙ by_end (step (typing step line front).line key).end
  where
    by_end : (end : Option LineEnd) → (after_key end (step (typing step line front).line key) []
        (typing step (step (typing step line front).line key).line [])).line ≡ (step (typing step line front).line
        key).line
    by_end None = refl
    by_end (Some end) = refl

broken-left : (step : Editing → ℕ → Edited) (line : Editing) (front : List ℕ) (key : ℕ) → (typing step line front).end ≡ None → (typing step line (front ++ key ∷ [])).left ≡ []
broken-left step line front key unfinished =
    ap (λ (it : Typing). it.left) (typing-append step line front (key ∷ []))
    ∙ ap (λ (end : Option LineEnd). (goes_on end step (typing step line front) (key ∷ [])).left) unfinished
    ∙ by_end (step (typing step line front).line key).end
  where
    by_end : (end : Option LineEnd) → (after_key end (step (typing step line front).line key) [] (typing step (step (typing step line front).line key).line [])).left ≡ []
    by_end None = refl
    by_end (Some end) = refl

broken-uses : (Fails : Type 0) (caller : Caller) (request : Reading) (old new : Terminal) (before now : TerminalState)
    (bytes : List ℕ) → Fails → is_taken request.process old ≡ false → (it : BreaksOffEcho request old new before now)
    → Uses Fails caller request old new (it.front ++ it.key ∷ []) bytes (fails E_WRITE)
broken-uses Fails caller request old new before now bytes failed alone it = record {
  alone = alone;
  front =
      it.keys ∙ sym (append_assoc it.front (it.key ∷ []) it.rest) ∙ ap (λ (left : List ℕ). (it.front ++ it.key ∷ []) ++ left) (sym (ap (λ (t : Terminal). t.ahead) it.terminal));
  used = broken-left (key_effect request) old.line it.front it.key it.unfinished;
  ends = (
    inr (refl, failed),
    record {
      line =
          ap (λ (t : Terminal). t.line) it.terminal ∙ ap cleared (sym (broken-line (key_effect request) old.line it.front it.key it.unfinished));
      reading = ap (λ (t : Terminal). t.reading) it.terminal;
    },
  );
}

module _ (Fails : Type 0) (caller : Caller) (read : TerminalRead) (old new : Terminal) (end : IoEnd) where
  abbrev asked : Reading
  asked = request_of caller read

  -- by how the line ended
  over-ends : (full made : Typing) (bytes : List ℕ) → made ≡ used_up full → (full.end ≡ None → full.left ≡ [])
      → (over : Option LineEnd) → full.end ≡ over → read_ends caller read (attempt_by over full asked).answer ≡ Some
      end → new ≡ (attempt_by over full asked).terminal → bytes ≡ (attempt_by over full asked).stored
      → Ends Fails caller made asked new bytes end
  over-ends full made bytes is all None over answered at stores_them =
      subst (Ends Fails caller made asked new bytes) (same_Some (keeps read.call) end answered) (
        ap (λ (it : Typing). it.end) is ∙ over,
        ap (λ (t : Terminal). t.line) at ∙ sym (ap (λ (it : Typing). it.line)
            is),
        ap (λ (t : Terminal). t.reading) at,
        ap (λ (t : Terminal). t.ahead) at ∙ all over,
        stores_them,
      )
  over-ends full made bytes is all (Some EndOfFile) over answered at stores_them =
      subst (Ends Fails caller made asked new bytes) (same_Some (fails E_EOF) end answered) (
        inl (ap (λ (it : Typing). it.end) is ∙ over, refl),
        record {
          line = ap (λ (t : Terminal). t.line) at ∙ sym
              (ap (λ (it : Typing). cleared it.line) is);
          reading = ap (λ (t : Terminal). t.reading) at;
        },
      )
  over-ends full made bytes is all (Some Line) over answered at stores_them =
      subst (Ends Fails caller made asked new bytes) (same_Some (answers (count_regs caller (length full.line.bytes))) end answered) (
        ap (λ (it : Typing). it.end) is ∙ over,
        ap (λ (it : Typing). count_regs caller (length it.line.bytes))
            (sym is),
        stores_them ∙ ap (λ (it : Typing). it.line.bytes) (sym is),
        record {
          line = ap (λ (t : Terminal). t.line) at ∙ sym (ap (λ (it : Typing). cleared it.line) is);
          reading = ap
              (λ (t : Terminal). t.reading) at;
        },
      )

  -- an attempt that types keys
  typed-uses : (bytes : List ℕ) → is_taken asked.process old ≡ false → read_ends caller read
      (typed_attempt asked old).answer ≡ Some end → new ≡ (typed_attempt asked old).terminal
      → bytes ≡ (typed_attempt asked old).stored → (keys : List ℕ) × Uses Fails caller asked old new keys bytes end
  typed-uses bytes alone answered at stores_them =
      let used = uses-front (key_effect asked) old.line old.ahead in (
        used.0,
        record {
          alone = alone;
          front =
              used.1 ∙ ap (λ (left : List ℕ). used.0 ++ left) (sym (ap (λ (t : Terminal). t.ahead) at ∙ left-is (typed asked old.line old.ahead).end (typed asked old.line old.ahead)));
          used = ap (λ (it : Typing). it.left) used.2;
          ends =
              over-ends (typed asked old.line old.ahead) (typed asked old.line used.0) bytes used.2
              (uses-all (key_effect asked) old.line old.ahead) (typed asked old.line old.ahead).end refl answered
              at stores_them;
        },
      )
    where
      left-is : (over : Option LineEnd) (it : Typing) → (attempt_by over it asked).terminal.ahead ≡ it.left
      left-is None it = refl
      left-is (Some EndOfFile) it = refl
      left-is (Some Line) it = refl

  -- it waits for another process's read
  record Stands (bytes : List ℕ) : Type 0 where
    pub left : TermLeft ⊥ old new
    pub taken : is_taken asked.process old ≡ true
    pub over : keeps read.call ≡ end
    pub none : bytes ≡ []

  abbrev Came : List ℕ → Type 0
  Came bytes = Stands bytes ⊎ ((keys : List ℕ) × Uses Fails caller asked old new keys bytes end)

  whole-uses : (answer : Progress) (before now : TerminalState) (bytes : List ℕ) → Attempted (read_attempt asked old)
      answer new before now → read_ends caller read answer ≡ Some end → bytes ≡ (read_attempt asked old).stored
      → Came bytes
  whole-uses answer before now bytes it answered stores_them =
      by_turn (is_taken asked.process old) refl (subst (λ (answer : Progress). read_ends caller read answer ≡ Some end) it.answer_is answered) it.terminal stores_them
    where
      by_turn : (taken : Bool) → is_taken asked.process old ≡ taken → read_ends caller read
          (if taken then kept_waiting asked old else typed_attempt asked old).answer ≡ Some end
          → new ≡ (if taken then kept_waiting asked old else typed_attempt asked old).terminal
          → bytes ≡ (if taken then kept_waiting asked old else typed_attempt asked old).stored → Came bytes
      by_turn true is answered at stores_them =
          inl (record {
            left = record { ahead = ap (λ (t : Terminal). t.ahead) at; line = inl (record { line = ap (λ (t : Terminal). t.line) at; reading = ap (λ (t : Terminal). t.reading) at }) };
            taken = is;
            over = same_Some (keeps read.call) end answered;
            none = stores_them;
          })
      by_turn false is answered at stores_them = inr (typed-uses bytes is answered at stores_them)

  read-uses : (answer : Progress) (before now : TerminalState) → (Rose before.faults now.faults → Fails)
      → TerminalReadAttempt asked answer old new before now → read_ends caller read answer ≡ Some end
      → Came (stored_bytes answer asked old)
  read-uses (Progress.Done count) before now failed it answered =
      whole-uses (Progress.Done count) before now (read_attempt asked old).stored it.outcome answered refl
  read-uses Progress.Wait before now failed it answered =
      whole-uses Progress.Wait before now (read_attempt asked old).stored it.outcome answered refl
  read-uses Progress.End before now failed it answered =
      whole-uses Progress.End before now (read_attempt asked old).stored it.outcome answered refl
  read-uses Progress.Fault before now failed it answered =
      inr (
        it.outcome.front ++ it.outcome.key ∷ [],
        subst (Uses Fails caller asked old new
            (it.outcome.front ++ it.outcome.key ∷ []) []) (same_Some (fails E_WRITE) end answered)
            (broken-uses Fails caller asked old new before now [] (failed it.driver.faults) (it.turn refl) it.outcome),
      )
  read-uses Progress.NoMemory before now failed it answered = absurd (none-some end answered)

-- ---- the keys to come, and the faults

abbrev pub come_of : List TerminalState → ℕ → List Key
come_of terms n = option_map_or (λ (terminal : TerminalState). terminal.keys) (slice_get terms n) []

come-set : (terms : List TerminalState) (m n : ℕ) (old new : TerminalState) → slice_get terms m ≡ Some old → new.keys ≡ old.keys → come_of (slice_set terms m new) n ≡ come_of terms n
come-set [] m n old new is same = absurd (none-some old is)
come-set (x ∷ terms) zero zero old new is same = same ∙ ap (λ (t : TerminalState). t.keys) (sym (same_Some x old is))
come-set (x ∷ terms) zero (suc n) old new is same = refl
come-set (x ∷ terms) (suc m) zero old new is same = refl
come-set (x ∷ terms) (suc m) (suc n) old new is same = come-set terms m n old new is same

come-one : (change : TerminalState → TerminalState → Type 0) (m n : ℕ) (before after : List TerminalState)
    → ((old new : TerminalState) → change old new → new.keys ≡ old.keys) → ChangesOneTerminal change m before after
    → come_of after n ≡ come_of before n
come-one change m n before after same (old, new, found, is, changed) =
    ap (λ (terms : List TerminalState). come_of terms n) is ∙ come-set before m n old new found (same old new changed)

abbrev faults_of : List TerminalState → ℕ → ℕ
faults_of terms n = option_map_or (λ (terminal : TerminalState). terminal.faults) (slice_get terms n) 0

put-found : (terms : List TerminalState) (n : ℕ) (old new : TerminalState) → slice_get terms n ≡ Some old → slice_get (slice_set terms n new) n ≡ Some new
put-found [] n old new is = absurd (none-some old is)
put-found (x ∷ terms) zero old new is = refl
put-found (x ∷ terms) (suc n) old new is = put-found terms n old new is

-- the count of one terminal rose
rose-one : (change : TerminalState → TerminalState → Type 0) (m : ℕ) (before after : List TerminalState)
    → (it : ChangesOneTerminal change m before after) → Rose it.0.faults it.1.faults → Rose (faults_of before m)
    (faults_of after m)
rose-one change m before after (old, new, found, is, changed) rose =
    let count : Option TerminalState → ℕ = λ place. option_map_or (λ (terminal : TerminalState). terminal.faults) place 0 in
    subst (λ (k : ℕ). Rose k (faults_of after m)) (sym (ap count found))
    (subst (λ (k : ℕ). Rose old.faults k) (sym (ap (λ (terms : List TerminalState). faults_of terms m) is ∙ ap count (put-found before m old new found))) rose)

-- ---- an attempt of a call on paths

-- a terminal of these failed
abbrev pub Failed : List TerminalState → List TerminalState → ℕ → Type 0
Failed before after n = Rose (faults_of before n) (faults_of after n)

-- a write on a terminal is refused
abbrev pub WriteRefused : IoCall → Caller → Io → IoEnd → List TerminalState → List TerminalState → ℕ → Type 0
WriteRefused call caller io end before after n =
    (direction_of_call call ≡ Some Writing) × OnTerminal call caller io n × (end ≡ fails E_WRITE) × Failed before after n

-- how an attempt ends that is a read of a terminal, and uses no key of it
abbrev pub EndsUnused : IoCall → Caller → Io → ℕ → IoEffect → Type 0
EndsUnused call caller io n effect =
    (kind : ReadKind) → call ≡ read_call kind → ReadsOn caller io n → UsesNone n caller io effect.end × (effect.bytes ≡ [])

-- what an attempt makes of the keys of a terminal
abbrev pub Moved : IoCall → Caller → Io → ℕ → List TerminalState → List TerminalState → IoEffect → Type 0
Moved call caller io n before after effect =
    AheadLeft (WriteRefused call caller io effect.end before after n) n io effect.io × EndsUnused call caller io n effect
    ⊎ ((kind : ReadKind) × (call ≡ read_call kind) ×
    ((opened : OpenPath) × (open_path io caller.process.0 caller.regs.a ≡ Some opened) ×
    (opened.desc.target ≡ Term n)) × (length effect.io.terminals ≡ length io.terminals) ×
    (effect.at ≡ caller.regs.x) × ((keys : List ℕ) × Uses (Failed before after n) caller
    (reading_of kind io caller.process.0 caller.regs) (terminal_at io n) (terminal_at effect.io n) keys
    effect.bytes effect.end))

-- a read moves bytes one way
read-way : (call : IoCall) (kind : ReadKind) → call ≡ read_call kind → direction_of_call call ≡ Some Way.Reading
read-way call kind is = ap direction_of_call is ∙ by_kind kind
  where
    by_kind : (kind : ReadKind) → direction_of_call (read_call kind) ≡ Some Way.Reading
    by_kind Bytes = refl
    by_kind WholeLine = refl

reading-writing : Some Way.Reading ≡ Some Writing → ⊥
reading-writing is = cc

abbrev number_in : Target → ℕ
number_in (File drive sector) = 0
number_in (Folder drive sector) = 0
number_in (Term terminal) = terminal
number_in (Pipe pipe) = 0

terminal-in : (m n : ℕ) → Term m ≡ Term n → m ≡ n
terminal-in m n is = ap number_in is

write-left : (write : TerminalWrite) (end : IoEnd) (Cause : Type 0) → (process : Pid) (answer : Progress)
    (old new : Terminal) (before now : TerminalState) → (end ≡ fails E_WRITE → Rose before.faults now.faults → Cause)
    → write_ends write answer ≡ Some end → TerminalWriteAttempt process write.put write.count answer old new before now
    → TermLeft Cause old new
write-left write end Cause process (Progress.Done count) old new before now causes is it = record {
  ahead = ap (λ (t : Terminal). t.ahead) it.outcome.terminal;
  line =
      inl (record { line = ap (λ (t : Terminal). t.line) it.outcome.terminal; reading = ap (λ (t : Terminal). t.reading) it.outcome.terminal });
}
write-left write end Cause process Progress.Wait old new before now causes is it = absurd (none-some end is)
write-left write end Cause process Progress.End old new before now causes is it = absurd (none-some end is)
write-left write end Cause process Progress.Fault old new before now causes is it = record {
  ahead = ap (λ (t : Terminal). t.ahead) it.outcome.terminal;
  line =
      inr (
        causes (sym (same_Some (fails E_WRITE) end is)) it.driver.faults,
        record {
          line = ap (λ (t : Terminal). t.line) it.outcome.terminal;
          reading = ap (λ (t : Terminal). t.reading)
              it.outcome.terminal;
        },
      );
}
write-left write end Cause process Progress.NoMemory old new before now causes is it = absurd (none-some end is)

module _ (call : IoCall) (caller : Caller) (io : Io) (n : ℕ) (within : n < length io.terminals) (before after : List TerminalState) where
  read-moves : (read : TerminalRead) (effect : IoEffect) (kind : ReadKind) → call ≡ read_call kind
      → IsReadOn kind caller io read → ReadsTerminal caller io read effect before after → Moved call caller io n
      before after effect
  read-moves read effect kind call_is on it =
      subst (λ (effect : IoEffect). Moved call caller io n before after effect) (sym it.effect_is)
      (by_uses (read-uses (Failed before after read.terminal) caller read (terminal_at io read.terminal) it.new
      it.end it.answer it.device.0 it.device.1
      (rose-one (TerminalReadAttempt (request_of caller read) it.answer (terminal_at io read.terminal) it.new) read.terminal
      before after it.device) it.device.4 it.ends))
    where
      put : n ≡ read.terminal → terminal_at (with_terminal io read.terminal it.new) n ≡ it.new
      put same =
          ap (λ (m : ℕ). terminal_at (with_terminal io m it.new) n) (sym same) ∙ get_or-set_same io.terminals n it.new new_terminal within

      -- the path of the call is on this terminal
      here : ReadsOn caller io n → n ≡ read.terminal
      here path =
          terminal-in n read.terminal (sym (one-target caller io on.path.0 n on.path.1 path) ∙ on.path.2)

      by_place : (keys : List ℕ) → Uses (Failed before after read.terminal) caller (request_of caller read)
          (terminal_at io read.terminal) it.new keys (stored_bytes it.answer (request_of caller read)
          (terminal_at io read.terminal)) it.end → (n ≡ read.terminal) ⊎ (n ≢ read.terminal) → Moved call caller io n
          before after (read_leaves caller io read it.answer it.new it.end)
      by_place keys uses (inl same) =
          inr (
            kind,
            call_is,
            (on.path.0, on.path.1, on.path.2 ∙ ap Term (sym same)),
            length-set io.terminals
                read.terminal it.new,
            refl,
            (
              keys,
              subst (λ (request : Reading). Uses (Failed before after n) caller
                  request (terminal_at io n) (terminal_at (with_terminal io read.terminal it.new) n) keys
                  (stored_bytes it.answer (request_of caller read) (terminal_at io read.terminal)) it.end) on.request
                  (subst (λ (t : Terminal). Uses (Failed before after n) caller (request_of caller read)
                  (terminal_at io n) t keys (stored_bytes it.answer (request_of caller read)
                  (terminal_at io read.terminal)) it.end) (sym (put same))
                  (subst (λ (m : ℕ). Uses (Failed before after m) caller (request_of caller read) (terminal_at io m)
                  it.new keys (stored_bytes it.answer (request_of caller read) (terminal_at io read.terminal)) it.end)
                  (sym same) uses)),
            ),
          )
      by_place keys uses (inr apart) = inl (
        record {
          terminal =
              term-same (WriteRefused call caller io it.end before after n) (terminal_at io n)
              (terminal_at (with_terminal io read.terminal it.new) n) (get_or-set_other io.terminals read.terminal
              n it.new new_terminal apart);
          places = length-set io.terminals read.terminal it.new;
        },
        λ other other_is path. absurd (apart (here path)),
      )

      never : (Cause : Type 0) → ⊥ → Cause
      never Cause none = absurd none

      by_uses : Stands (Failed before after read.terminal) caller read (terminal_at io read.terminal) it.new it.end
          (stored_bytes it.answer (request_of caller read) (terminal_at io read.terminal)) ⊎
          ((keys : List ℕ) × Uses (Failed before after read.terminal) caller (request_of caller read)
          (terminal_at io read.terminal) it.new keys (stored_bytes it.answer (request_of caller read)
          (terminal_at io read.terminal)) it.end) → Moved call caller io n before after (read_leaves caller io read
          it.answer it.new it.end)
      by_uses (inl same) = inl (
        left-set (WriteRefused call caller io it.end before after) n io read.terminal it.new
            (term-for ⊥ (WriteRefused call caller io it.end before after read.terminal) (terminal_at io read.terminal)
            it.new (never (WriteRefused call caller io it.end before after read.terminal)) same.left),
        λ other other_is path. (
          subst (UsesNone n caller io) same.over (ap (λ (m : ℕ). is_taken caller.process (terminal_at io m)) (here path) ∙ same.taken),
          same.none,
        ),
      )
      by_uses (inr (keys, uses)) = by_place keys uses (cases_eq n read.terminal)

  pub does-moves : (step : IoStep) (effect : IoEffect) → StepGives call (λ (new : Io). new.terminals ≡ io.terminals)
      caller io step → StepReads call caller io step → StepWrites call caller io step → HasIoEffect step caller io effect
      before after → Moved call caller io n before after effect
  does-moves (refused number) effect gives facts on (is, same) = inl (
    left-same (WriteRefused call caller io effect.end before after n) n io effect.io (ap (λ (effect : IoEffect). effect.io.terminals) is),
    λ kind kind_is path. subst (λ (effect : IoEffect). UsesNone n caller io effect.end × (effect.bytes ≡ [])) (sym is) (facts (read-way call kind kind_is), refl),
  )
  does-moves (comes it) effect gives facts on (is, same) = inl (
    left-same (WriteRefused call caller io effect.end before after n) n io effect.io (ap (λ (effect : IoEffect). effect.io.terminals) is ∙ gives),
    λ kind kind_is path.
        let fact = facts (read-way call kind kind_is) n path in
        subst (λ (effect : IoEffect). UsesNone n caller io effect.end × (effect.bytes ≡ [])) (sym (is ∙ fact.1)) ((fact.0, refl), refl),
  )
  does-moves (reads read) effect gives (kind, call_is, on) none does = read-moves read effect kind call_is on does
  does-moves (writes write) effect gives facts on it = inl (
    subst (λ (effect : IoEffect). AheadLeft (WriteRefused call caller io effect.end before after n) n io effect.io)
        (sym it.effect_is) (left-set (WriteRefused call caller io it.end before after) n io write.terminal it.new
        (write-left write it.end (WriteRefused call caller io it.end before after write.terminal) caller.process
        it.answer (terminal_at io write.terminal) it.new it.device.0 it.device.1
        (λ refuses_it failed. (
          gives.0,
          on,
          refuses_it,
          rose-one (TerminalWriteAttempt caller.process write.put write.count
              it.answer (terminal_at io write.terminal) it.new) write.terminal before after it.device failed,
        )) it.ends
        it.device.4)),
    λ kind kind_is path. absurd (reading-writing (sym (read-way call kind kind_is) ∙ gives.0)),
  )

  -- no key to come is taken
  pub does-come : (step : IoStep) (effect : IoEffect) → HasIoEffect step caller io effect before after → come_of after n ≡ come_of before n
  does-come (refused number) effect (is, same) = ap (λ (terms : List TerminalState). come_of terms n) same
  does-come (comes it) effect (is, same) = ap (λ (terms : List TerminalState). come_of terms n) same
  does-come (reads read) effect it =
      come-one (TerminalReadAttempt (request_of caller read) it.answer (terminal_at io read.terminal) it.new) read.terminal n before after (λ old new reads_it. reads_it.driver.keys) it.device
  does-come (writes write) effect it =
      come-one (TerminalWriteAttempt caller.process write.put write.count it.answer (terminal_at io write.terminal) it.new)
      write.terminal n before after (λ old new writes_it. writes_it.driver.keys) it.device
