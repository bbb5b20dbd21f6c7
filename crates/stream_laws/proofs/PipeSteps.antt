-- What an attempt of a call on paths moves through a pipe: each call by its code.
use Rattle.std.proofs.Common.{◌≡◌, ◌≢◌, ◌⊎◌, ℕ, zero, suc, ◌+◌, ◌<◌, ◌≤◌, ◌==◌, not, Bool, true, false, Option, Some, None, IsSome, is_none, Result, Ok, Err, List, [], ◌∷◌, ◌++◌, length, take, drop, position, get_or, refl, sym, ap, ◌∙◌, subst, inl, inr, arith}
use Rattle.std.specs.Prelude.{min, option_map, unwrap_or, ◌||◌, if◌then◌else◌}
use Rattle.std.specs.Option.{option_map_or}
use Rattle.std.proofs.lemmas.Bool.{cases_eq, cases_lt, eq-eqb, eqb-false, eqb-true, false≢true}
use Rattle.std.proofs.lemmas.Grind.{get_or_after_one}
use Rattle.std.proofs.lemmas.List.{get_or-set_same, get_or-set_other, get_or_past, length-drop, length-set, length-take-le, take-append-drop}
use Rattle.std.proofs.lemmas.List.Quantifiers.{position-Some}
use Rattle.std.proofs.lemmas.Option.{none-some, same_Some}
use Rattle.call_laws.specs.Refusals.{sent_by}
use Rattle.os9_base.specs.declared.calls.TheConstants.{I_READ, I_READLN, I_WRITE, I_WRITLN, F_PERR}
use Rattle.os9_base.specs.declared.errors.TheConstants.{E_BPADDR, E_BPNUM, E_BMODE, E_PTHFUL, E_NOTRDY, E_UNKSVC, E_EOF, E_WRITE}
use Rattle.os9_base.specs.declared.registers.Regs.{Regs}
use Rattle.os9_base.specs.declared.name_fault.NameFault.{NameFault}
use Rattle.os9_base.specs.declared.name_fault.NameFault.TheVariants.{Unreadable, NoName}
use Rattle.proc_model.specs.UserBytes.{user_bytes}
use Rattle.io_model.specs.Pending.{count_left, is_complete, moved_on}
use Rattle.io_model.specs.Line.{has_return, line_length, return_place}
use Rattle.io_model.specs.Path.{closed_desc, slot_of, free_number, new_number, paths_after_begin, paths_after_close, paths_after_dup}
use Rattle.io_model.specs.Pipe.{IsPipe, answer_unmoved, bytes_moved, free_pipe, held_bytes, moved_count, pipe_of, pipe_room, pipes_after_begin, read_answer, read_line_answer, with_pipe, write_answer, without_pipe}
use Rattle.io_model.specs.declared.pending.PendingCall.{PendingCall}
use Rattle.io_model.specs.declared.path.Desc.{Desc}
use Rattle.io_model.specs.declared.path.SysPath.{SysPath}
use Rattle.io_model.specs.declared.path.Target.{Target}
use Rattle.io_model.specs.declared.path.Target.TheVariants.{File, Folder, Term, Pipe}
use Rattle.io_model.specs.declared.pipe.PipeAns.{PipeAns}
use Rattle.io_model.specs.declared.pipe.PipeAns.TheVariants as Ans
use Rattle.io_model.specs.declared.terminal.ReadKind.{ReadKind}
use Rattle.io_model.specs.declared.terminal.ReadKind.TheVariants.{Bytes, WholeLine}
use Rattle.io_model.specs.Again.{path_number}
use Rattle.io_model.specs.Alone.{is_alone}
use Rattle.io_model.specs.Attempts.{io_step}
use Rattle.io_model.specs.Close.{after_close, without_path, without_target}
use Rattle.io_model.specs.Codes.{direction_of_call}
use Rattle.io_model.specs.Io.{Io, OpenPath, pending_at, new_desc, open_path, pipe_bytes, with_paths, with_pipes}
use Rattle.io_model.specs.Lead.{Lead, to_terminal, to_pipe, nowhere, what_is_there, a_new_place, lead_of}
use Rattle.io_model.specs.Modes.{can_read, can_write, is_mode}
use Rattle.io_model.specs.Open.{begins, opened_regs, opens_lead, reads_list}
use Rattle.io_model.specs.PathList.{PathList, path_list}
use Rattle.io_model.specs.Pipes.{after_adding, after_taking, count_regs, read_leaves, read_line_leaves, write_leaves, writes_pipe}
use Rattle.io_model.specs.Read.{pipe_read, reads_target, read_call}
use Rattle.io_model.specs.Status.{gets_end, gets_options, gets_ready, gets_status, options, ready_count}
use Rattle.io_model.specs.Step.{Caller, IoEffect, IoEnd, IoStep, answers, fails, keeps, refused, comes, reads, writes, leaves, needs, refuses, done, stores}
use Rattle.io_model.specs.Transfer.{call_now, first_call, on_path, unless_nothing}
use Rattle.io_model.specs.Write.{Sending, error_line, f_perr, line_bytes, sends_on, sent_bytes, sent_error, sent_line, writes_target}
use Rattle.io_model.specs.declared.io_call.Direction.{Direction}
use Rattle.io_model.specs.declared.io_call.Direction.TheVariants.{Reading, Writing}
use Rattle.io_model.specs.declared.io_call.IoCall.{IoCall}
use Rattle.io_model.specs.declared.io_call.IoCall.TheVariants as Call
use Rattle.io_model.specs.declared.modes.TheConstants.{STANDARD_ERROR}
use Rattle.io_model.specs.declared.status.TheConstants.{SS_OPT, SS_READY, SS_EOF, OPTION_BYTES}
use Rattle.stream_laws.specs.Flow.{MovesNone, ReadCounts, WriteCounts, in_all, moved_before, read_answers, stored_from, write_answers}

-- ---- one pipe of many

-- a pipe that lives has a place
pub lives-within : (pipes : List (Option (List ℕ))) (n : ℕ) → IsPipe pipes n → n < length pipes
lives-within pipes n lives =
    elim (cases_lt n (length pipes)) [
      | inl within ↦ within
      | inr past ↦ absurd (nothing (subst (λ (place : Option (List ℕ)). IsSome place) (get_or_past pipes n None past) lives))
    ]
  where
    nothing : IsSome {T = List ℕ} None → ⊥
    nothing some = cc

-- a pipe of a number that holds other bytes holds them
pub held-put : (pipes : List (Option (List ℕ))) (n : ℕ) (bytes : List ℕ) → IsPipe pipes n → held_bytes (with_pipe pipes n bytes) n ≡ bytes
held-put pipes n bytes lives =
    ap (λ (place : Option (List ℕ)). unwrap_or place []) (get_or-set_same pipes n (Some bytes) None (lives-within pipes n lives))

-- nothing is no pipe
pub no-pipe : IsSome {T = List ℕ} None → ⊥
no-pipe some = cc

-- what a change leaves of a pipe, if it lives then
abbrev pub PipeLeft : ℕ → Io → Io → Type 0
PipeLeft n old new = (pipe_of new.pipes n ≡ pipe_of old.pipes n) ⊎ (pipe_of new.pipes n ≡ None)

pub left-held : (n : ℕ) (old new : Io) → PipeLeft n old new → IsPipe new.pipes n → held_bytes new.pipes n ≡ held_bytes old.pipes n
left-held n old new (inl same) still = ap (λ (place : Option (List ℕ)). unwrap_or place []) same
left-held n old new (inr none) still =
    absurd (no-pipe (subst (λ (place : Option (List ℕ)). IsSome place) none still))

pub left-then : (n : ℕ) (a b c : Io) → PipeLeft n a b → PipeLeft n b c → PipeLeft n a c
left-then n a b c (inl same) (inl too) = inl (too ∙ same)
left-then n a b c (inr none) (inl too) = inr (too ∙ none)
left-then n a b c first (inr none) = inr none

-- a path goes, with its pipe
gone-pipe : (n : ℕ) (io : Io) (pipe : ℕ) → PipeLeft n io (with_pipes io (without_pipe io.pipes pipe))
gone-pipe n io pipe =
    elim (cases_eq n pipe) [
      | inl same ↦ inr (ap (pipe_of (without_pipe io.pipes pipe)) same ∙ none)
      | inr apart ↦ inl (get_or-set_other io.pipes pipe n None None apart)
    ]
  where
    none : pipe_of (without_pipe io.pipes pipe) pipe ≡ None
    none =
        elim (cases_lt pipe (length io.pipes)) [
          | inl within ↦ get_or-set_same io.pipes pipe None None within
          | inr past ↦ get_or_past (without_pipe io.pipes pipe) pipe None (rw length-set past)
        ]

target-left : (n : ℕ) (io : Io) (target : Target) → PipeLeft n io (without_target io target)
target-left n io (File drive sector) = inl refl
target-left n io (Folder drive sector) = inl refl
target-left n io (Term terminal) = inl refl
target-left n io (Pipe pipe) = gone-pipe n io pipe

gone-left : (n : ℕ) (io : Io) (gone : Option Desc) → PipeLeft n io (without_path io gone)
gone-left n io None = inl refl
gone-left n io (Some desc) = target-left n io desc.target

pub closed-left : (n : ℕ) (io : Io) (p k : ℕ) → PipeLeft n io (after_close io p k)
closed-left n io p k = gone-left n (with_paths io (paths_after_close io.paths p k)) (closed_desc io.paths p k)

-- a number that is free is no pipe's
is_nothing : {X : Type 0} (place : Option X) → is_none place ≡ true → place ≡ None
is_nothing None is = refl
is_nothing (Some x) is = absurd (false≢true is)

free-at : (pipes : List (Option (List ℕ))) (k : ℕ) (place : Option ℕ) → position is_none (drop 1 pipes) ≡ place → option_map (λ (k : ℕ). k + 1) place ≡ Some k → pipe_of pipes k ≡ None
free-at pipes k None at is = absurd (none-some k is)
free-at pipes k (Some i) at is =
    let found = position-Some is_none (drop 1 pipes) i None at in
    let same : 1 + i ≡ k = omega (arith, same_Some (i + 1) k is) in
    ap (pipe_of pipes) (sym same) ∙ sym (get_or_after_one pipes i None) ∙ is_nothing (get_or (drop 1 pipes) i None) found.1

begun-held : (pipes : List (Option (List ℕ))) (n k : ℕ) → free_pipe pipes ≡ Some k → IsPipe pipes n → held_bytes (pipes_after_begin pipes) n ≡ held_bytes pipes n
begun-held pipes n k free lives =
    ap (λ (place : Option ℕ). held_bytes (option_map_or (λ number. with_pipe pipes number []) place pipes) n) free
    ∙ ap (λ (place : Option (List ℕ)). unwrap_or place []) (get_or-set_other pipes k n (Some []) None apart)
  where
    apart : n ≢ k
    apart same =
        no-pipe (subst (λ (place : Option (List ℕ)). IsSome place) (ap (pipe_of pipes) same ∙ free-at pipes k (position is_none (drop 1 pipes)) refl free) lives)

-- a pipe that was not there is not there still, or is empty
abbrev pub StaysEmpty : ℕ → Io → Type 0
StaysEmpty n new = (pipe_of new.pipes n ≡ None) ⊎ (pipe_of new.pipes n ≡ Some [])

begun-empty : (pipes : List (Option (List ℕ))) (n k : ℕ) → free_pipe pipes ≡ Some k → pipe_of pipes n ≡ None
    → (pipe_of (pipes_after_begin pipes) n ≡ None) ⊎ (pipe_of (pipes_after_begin pipes) n ≡ Some [])
begun-empty pipes n k free none =
    subst (λ (now : List (Option (List ℕ))). (pipe_of now n ≡ None) ⊎ (pipe_of now n ≡ Some [])) (sym begun) (by_place (cases_eq n k))
  where
    begun : pipes_after_begin pipes ≡ with_pipe pipes k []
    begun = ap (λ (place : Option ℕ). option_map_or (λ number. with_pipe pipes number []) place pipes) free

    by_place : (n ≡ k) ⊎ (n ≢ k) → (pipe_of (with_pipe pipes k []) n ≡ None) ⊎ (pipe_of (with_pipe pipes k []) n ≡ Some [])
    by_place (inl same) =
        elim (cases_lt k (length pipes)) [
          | inl within ↦ inr (ap (pipe_of (with_pipe pipes k [])) same ∙ get_or-set_same pipes k (Some []) None within)
          | inr past ↦ inl (ap (pipe_of (with_pipe pipes k [])) same ∙ get_or_past (with_pipe pipes k []) k None (rw length-set past))
        ]
    by_place (inr apart) = inl (get_or-set_other pipes k n (Some []) None apart ∙ none)

pub left-empty : (n : ℕ) (old new : Io) → PipeLeft n old new → pipe_of old.pipes n ≡ None → StaysEmpty n new
left-empty n old new (inl same) none = inl (same ∙ none)
left-empty n old new (inr gone) none = inl gone

-- ---- how many bytes an attempt moves

line-few : (held : List ℕ) → line_length held ≤ length held
line-few held = by_place (return_place held) refl
  where
    by_place : (place : Option ℕ) → return_place held ≡ place → option_map_or (λ place. place + 1) place (length held) ≤ length held
    by_place None is = omega arith
    by_place (Some k) is = (let found = position-Some (λ byte. byte == 13) held k 0 is in omega (arith, found.0))

read-few : (held : List ℕ) (most : ℕ) (empty alone : Bool) → moved_count (if empty then answer_unmoved alone Ans.End else Ans.Done (min most (line_length held))) ≤ length held
read-few held most true true = omega arith
read-few held most true false = omega arith
read-few held most false alone = omega (arith, line-few held)

bytes-few : (held : List ℕ) (most : ℕ) (empty alone : Bool) → moved_count (if empty then answer_unmoved alone Ans.End else Ans.Done (min most (length held))) ≤ length held
bytes-few held most true true = omega arith
bytes-few held most true false = omega arith
bytes-few held most false alone = omega arith

write-few : (held rest : List ℕ) (full alone : Bool) → moved_count (if full then answer_unmoved alone Ans.NoReader else Ans.Done (min (length rest) (pipe_room held))) ≤ length rest
write-few held rest true true = omega arith
write-few held rest true false = omega arith
write-few held rest false alone = omega arith

-- one that moves none finds none, or no room
no-bytes : (held : List ℕ) → (length held == 0) ≡ true → held ≡ []
no-bytes [] is = refl
no-bytes (byte ∷ held) is =
    let none : length (byte ∷ held) ≡ 0 = eqb-true (length (byte ∷ held)) 0 is in
    absurd (omega (arith, none))

some-bytes : (held : List ℕ) → (length held == 0) ≡ false → 1 ≤ length held
some-bytes held is = by_length (length held) (eqb-false (length held) 0 is)
  where
    by_length : (n : ℕ) → (n ≡ 0 → ⊥) → 1 ≤ n
    by_length zero some = absurd (some refl)
    by_length (suc n) some = omega arith

line-some : (held : List ℕ) → 1 ≤ length held → 1 ≤ line_length held
line-some held some = by_place (return_place held)
  where
    by_place : (place : Option ℕ) → 1 ≤ option_map_or (λ place. place + 1) place (length held)
    by_place None = some
    by_place (Some k) = omega arith

bytes-idle : (held : List ℕ) (most : ℕ) (empty alone : Bool) → (length held == 0) ≡ empty → 1 ≤ most
    → moved_count (if empty then answer_unmoved alone Ans.End else Ans.Done (min most (length held))) ≡ 0 → held ≡ []
bytes-idle held most true alone is some none = no-bytes held is
bytes-idle held most false alone is some none = (let more = some-bytes held is in absurd (omega (arith, more, some, none)))

line-idle : (held : List ℕ) (most : ℕ) (empty alone : Bool) → (length held == 0) ≡ empty → 1 ≤ most
    → moved_count (if empty then answer_unmoved alone Ans.End else Ans.Done (min most (line_length held))) ≡ 0
    → held ≡ []
line-idle held most true alone is some none = no-bytes held is
line-idle held most false alone is some none =
    let more = line-some held (some-bytes held is) in absurd (omega (arith, more, some, none))

write-idle : (held rest : List ℕ) (full alone : Bool) → (pipe_room held == 0) ≡ full → 1 ≤ length rest
    → moved_count (if full then answer_unmoved alone Ans.NoReader else Ans.Done (min (length rest) (pipe_room held)))
    ≡ 0 → pipe_room held ≡ 0
write-idle held rest true alone is some none = eqb-true (pipe_room held) 0 is
write-idle held rest false alone is some none =
    absurd (eqb-false (pipe_room held) 0 is (omega (arith, some, none)))

-- it moves as many bytes as it says
none-moved : (bytes : List ℕ) (count : ℕ) → count ≤ length bytes → take count bytes ≡ [] → count ≡ 0
none-moved bytes count few none = sym (length-take-le count bytes few) ∙ ap (length {A = ℕ}) none

-- ---- what an attempt moves

-- its bytes are stored
abbrev pub IsStoring : IoEnd → Type 0
IsStoring (answers regs) = Unit {0}
IsStoring (fails number) = ⊥
IsStoring (keeps pending) = Unit {0}

module _ (call : IoCall) (caller : Caller) (io : Io) (n : ℕ) where
  abbrev pub OnPipe : Type 0
  OnPipe =
      (opened : OpenPath) × (open_path io caller.process.0 (path_number call caller.regs) ≡ Some opened) × (opened.desc.target ≡ Pipe n)

  pub record Takes (effect : IoEffect) : Type 0 where
    pub way : direction_of_call call ≡ Some Reading
    pub path : OnPipe
    pub bytes : List ℕ
    pub front : pipe_bytes io n ≡ bytes ++ pipe_bytes effect.io n
    pub none : bytes ≡ [] → moved_before io caller.process.0 < in_all io caller.process.0 caller.regs.y → pipe_bytes io n ≡ []
    pub stores_them : effect.bytes ≡ bytes
    pub seen : (bytes ≡ []) ⊎ (effect.at ≡ stored_from call caller.regs (moved_before io caller.process.0)) × IsStoring effect.end
    pub counts : ReadCounts call caller io (length bytes) effect.end

  pub record Puts (effect : IoEffect) : Type 0 where
    pub way : direction_of_call call ≡ Some Writing
    pub path : OnPipe
    pub bytes : List ℕ
    pub behind : pipe_bytes effect.io n ≡ pipe_bytes io n ++ bytes
    pub sent : List ℕ
    pub sends : sent_by call caller io ≡ Some sent
    pub next : bytes ≡ take (length bytes) (drop (moved_before io caller.process.0) sent)
    pub none : bytes ≡ [] → moved_before io caller.process.0 < length sent → pipe_room (pipe_bytes io n) ≡ 0
    pub stores_none : effect.bytes ≡ []
    pub counts : WriteCounts call caller io sent (length bytes) effect.end

  -- it leaves the pipe; an attempt on it moves no byte, and stores none
  pub record Leaves (effect : IoEffect) : Type 0 where
    pub held : pipe_bytes effect.io n ≡ pipe_bytes io n
    pub ends : (way : Direction) → direction_of_call call ≡ Some way → OnPipe → MovesNone caller effect.end × (effect.bytes ≡ [])

  abbrev pub Moved : IoEffect → Type 0
  Moved effect = Leaves effect ⊎ Takes effect ⊎ Puts effect

  -- the pipe is not there, and the process has no path on it
  pub record IsAbsent : Type 0 where
    pub none : pipe_of io.pipes n ≡ None
    pub unused : (number : ℕ) (opened : OpenPath) → open_path io caller.process.0 number ≡ Some opened → opened.desc.target ≢ Pipe n

  -- what becomes of the pipe
  pub record Becomes (effect : IoEffect) : Type 0 where
    pub moved : IsPipe io.pipes n → IsPipe effect.io.pipes n → Moved effect
    pub fresh : IsAbsent → StaysEmpty n effect.io

-- an attempt that reaches no device moves bytes through a pipe, or leaves it; one that reaches a terminal is on no pipe
abbrev pub StepMoves : IoCall → Caller → Io → ℕ → IoStep → Type 0
StepMoves call caller io n (refused number) = Unit {0}
StepMoves call caller io n (comes effect) = Becomes call caller io n effect
StepMoves call caller io n (reads read) = OnPipe call caller io n → ⊥
StepMoves call caller io n (writes write) = OnPipe call caller io n → ⊥

-- the call as an attempt finds it has moved what it had moved
now-moved : (caller : Caller) (io : Io) (code count : ℕ) (opened : OpenPath) → (call_now caller io code opened count).moved ≡ moved_before io caller.process.0
now-moved caller io code count opened = by_kept (pending_at io caller.process.0)
  where
    by_kept : (place : Option PendingCall) → (unwrap_or place (first_call code opened count)).moved ≡ option_map_or (λ kept. kept.moved) place 0
    by_kept None = refl
    by_kept (Some kept) = refl

-- and moves what it moves in all
now-count : (caller : Caller) (io : Io) (code : ℕ) (opened : OpenPath) (count : ℕ) → (call_now caller io code opened count).count ≡ in_all io caller.process.0 count
now-count caller io code opened count = by_kept (pending_at io caller.process.0)
  where
    by_kept : (place : Option PendingCall) → (unwrap_or place (first_call code opened count)).count ≡ option_map_or (λ kept. kept.count) place count
    by_kept None = refl
    by_kept (Some kept) = refl

-- where a read of this kind stores
abbrev stored_by : ReadKind → ℕ → ℕ → ℕ
stored_by Bytes x moved = x
stored_by WholeLine x moved = x + moved

module _ (call : IoCall) (caller : Caller) (io : Io) (n : ℕ) where
  -- ---- attempts on this pipe

  module _ (lives : IsPipe io.pipes n) (path : OnPipe call caller io n) (now : PendingCall) (moved : now.moved ≡ moved_before io caller.process.0) where
    front-is : (answer : PipeAns) → pipe_bytes io n ≡ bytes_moved answer (pipe_bytes io n) ++ pipe_bytes (after_taking io n answer) n
    front-is answer =
        sym (take-append-drop (moved_count answer) (pipe_bytes io n)) ∙ ap (λ (rest : List ℕ). bytes_moved answer
        (pipe_bytes io n) ++ rest) (sym (held-put io.pipes n (drop (moved_count answer) (pipe_bytes io n)) lives))

    none-more : now.moved ≡ moved_before io caller.process.0 + 0
    none-more = omega (arith, moved)

    some-more : (count some : ℕ) → some ≡ count → (moved_on now count).moved ≡ moved_before io caller.process.0 + some
    some-more count some same_count = omega (arith, moved, same_count)

    read-takes : direction_of_call call ≡ Some Reading → stored_from call caller.regs
        (moved_before io caller.process.0) ≡ caller.regs.x → ((count : ℕ) → read_answers call caller io count ≡
        count_regs caller count) → (answer : PipeAns) → moved_count answer ≤ length (pipe_bytes io n)
        → (moved_before io caller.process.0 < in_all io caller.process.0 caller.regs.y → moved_count answer ≡ 0
        → pipe_bytes io n ≡ []) → Takes call caller io n (read_leaves caller io n now answer)
    read-takes way at regs (Ans.Done count) few idle = record {
      way = way;
      path = path;
      bytes = bytes_moved (Ans.Done count) (pipe_bytes io n);
      front = front-is (Ans.Done count);
      none = λ none some. idle some (none-moved (pipe_bytes io n) count few none);
      stores_them = refl;
      seen = inr (sym at, tt);
      counts =
          ap (count_regs caller) (sym (length-take-le count (pipe_bytes io n) few)) ∙ sym (regs (length (take count (pipe_bytes io n))));
    }
    read-takes way at regs Ans.Wait few idle =
        record { way = way; path = path; bytes = []; front = front-is Ans.Wait; none = λ none some. idle some refl; stores_them = refl; seen = inl refl; counts = none-more }
    read-takes way at regs Ans.End few idle = record {
      way = way;
      path = path;
      bytes = [];
      front = front-is Ans.End;
      none = λ none some. idle some refl;
      stores_them = refl;
      seen = inl refl;
      counts = refl;
    }
    read-takes way at regs Ans.NoReader few idle = record {
      way = way;
      path = path;
      bytes = [];
      front = front-is Ans.NoReader;
      none = λ none some. idle some refl;
      stores_them = refl;
      seen = inl refl;
      counts = refl;
    }

    line-takes : direction_of_call call ≡ Some Reading → stored_from call caller.regs
        (moved_before io caller.process.0) ≡ caller.regs.x + now.moved
        → ((count : ℕ) → read_answers call caller io count ≡ count_regs caller (moved_before io caller.process.0 +
        count)) → (alone : Bool) (answer : PipeAns) → moved_count answer ≤ length (pipe_bytes io n)
        → (moved_before io caller.process.0 < in_all io caller.process.0 caller.regs.y → moved_count answer ≡ 0
        → pipe_bytes io n ≡ []) → Takes call caller io n (read_line_leaves caller io n now alone answer)
    line-takes way at regs alone (Ans.Done count) few idle = record {
      way = way;
      path = path;
      bytes = bytes_moved (Ans.Done count) (pipe_bytes io n);
      front = front-is (Ans.Done count);
      none = λ none some. idle some (none-moved (pipe_bytes io n) count few none);
      stores_them = refl;
      seen = inr (sym at, storing (has_return (take count (pipe_bytes io n)) || (is_complete (moved_on now count) || alone)));
      counts = counts (has_return (take count (pipe_bytes io n)) || (is_complete (moved_on now count) || alone));
    }
      where
        storing : (over : Bool) → IsStoring (if over then answers (count_regs caller (moved_on now count).moved) else keeps (moved_on now count))
        storing true = tt
        storing false = tt

        more : (moved_on now count).moved ≡ moved_before io caller.process.0 + length (take count (pipe_bytes io n))
        more = some-more count (length (take count (pipe_bytes io n))) (length-take-le count (pipe_bytes io n) few)

        counts : (over : Bool) → ReadCounts call caller io (length (take count (pipe_bytes io n))) (if over then answers (count_regs caller (moved_on now count).moved) else keeps (moved_on now count))
        counts true = ap (count_regs caller) more ∙ sym (regs (length (take count (pipe_bytes io n))))
        counts false = more
    line-takes way at regs alone Ans.Wait few idle =
        record { way = way; path = path; bytes = []; front = front-is Ans.Wait; none = λ none some. idle some refl; stores_them = refl; seen = inl refl; counts = none-more }
    line-takes way at regs alone Ans.End few idle = record {
      way = way;
      path = path;
      bytes = [];
      front = front-is Ans.End;
      none = λ none some. idle some refl;
      stores_them = refl;
      seen = inl refl;
      counts = over (now.moved == 0);
    }
      where
        over : (none : Bool) → ReadCounts call caller io 0 (if none then fails E_EOF else answers (count_regs caller now.moved))
        over true = refl
        over false = ap (count_regs caller) none-more ∙ sym (regs 0)
    line-takes way at regs alone Ans.NoReader few idle = record {
      way = way;
      path = path;
      bytes = [];
      front = front-is Ans.NoReader;
      none = λ none some. idle some refl;
      stores_them = refl;
      seen = inl refl;
      counts = refl;
    }

    module _ (way : direction_of_call call ≡ Some Writing) (sent : List ℕ) (sends : sent_by call caller io ≡ Some
        sent) (regs : Regs) (answered : regs ≡ write_answers call caller (length sent)) (all : now.count ≡ in_all io
        caller.process.0 (length sent)) where
      next-is : (count : ℕ) → count ≤ length (drop now.moved sent) → take count (drop now.moved sent) ≡ take (length (take count (drop now.moved sent))) (drop (moved_before io caller.process.0) sent)
      next-is count few =
          ap (λ (k : ℕ). take k (drop now.moved sent)) (sym (length-take-le count (drop now.moved sent) few))
          ∙ ap (λ (k : ℕ). take (length (take count (drop now.moved sent))) (drop k sent)) moved

      behind-is : (answer : PipeAns) → pipe_bytes (after_adding io n answer (drop now.moved sent)) n ≡ pipe_bytes io n ++ bytes_moved answer (drop now.moved sent)
      behind-is answer =
          held-put io.pipes n (pipe_bytes io n ++ bytes_moved answer (drop now.moved sent)) lives

      -- one that moves none has as many left
      none-left : moved_before io caller.process.0 < in_all io caller.process.0 (length sent) → moved_before io caller.process.0 + 0 ≢ in_all io caller.process.0 (length sent)
      none-left before same = omega (arith, before, same)

      write-puts : (alone : Bool) (answer : PipeAns) → moved_count answer ≤ length (drop now.moved sent)
          → (moved_before io caller.process.0 < length sent → moved_count answer ≡ 0 → pipe_room (pipe_bytes io n) ≡
          0) → Puts call caller io n (write_leaves io n now alone (drop now.moved sent) regs answer)
      write-puts alone (Ans.Done count) few idle = record {
        way = way;
        path = path;
        bytes = take count (drop now.moved sent);
        behind = behind-is (Ans.Done count);
        sent = sent;
        sends = sends;
        next = next-is count few;
        none = λ none some. idle some (none-moved (drop now.moved sent) count few none);
        stores_none = refl;
        counts = counts (is_complete (moved_on now count)) alone refl;
      }
        where
          more : (moved_on now count).moved ≡ moved_before io caller.process.0 + length (take count (drop now.moved sent))
          more = some-more count (length (take count (drop now.moved sent))) (length-take-le count (drop now.moved sent) few)

          counts : (complete single : Bool) → is_complete (moved_on now count) ≡ complete → WriteCounts call caller io
              sent (length (take count (drop now.moved sent))) (if complete then answers regs else
              (if single then fails E_WRITE else keeps (moved_on now count)))
          counts true single is = (sym more ∙ eqb-true (now.moved + count) now.count is ∙ all, answered)
          counts false true is = λ before same. false≢true (sym is ∙ eq-eqb (now.moved + count) now.count (more ∙ same ∙ sym all))
          counts false false is = more
      write-puts alone Ans.Wait few idle =
          record {
            way = way;
            path = path;
            bytes = [];
            behind = behind-is Ans.Wait;
            sent = sent;
            sends = sends;
            next =
                refl;
            none = λ none some. idle some refl;
            stores_none = refl;
            counts = none-more;
          }
      write-puts alone Ans.End few idle =
          record { way = way; path = path; bytes = []; behind = behind-is Ans.End; sent = sent; sends = sends; next = refl; none = λ none some. idle some refl; stores_none = refl; counts = none-left }
      write-puts alone Ans.NoReader few idle =
          record {
            way = way;
            path = path;
            bytes = [];
            behind = behind-is Ans.NoReader;
            sent = sent;
            sends = sends;
            next = refl;
            none = λ none some. idle some refl;
            stores_none = refl;
            counts = none-left;
          }

-- ---- on any pipe

term-pipe : (terminal n : ℕ) → Term terminal ≡ Pipe n → ⊥
term-pipe terminal n is = cc

abbrev pipe_in_target : Target → ℕ
pipe_in_target (File drive sector) = 0
pipe_in_target (Folder drive sector) = 0
pipe_in_target (Term terminal) = 0
pipe_in_target (Pipe pipe) = pipe

pipe-in : (m n : ℕ) → Pipe m ≡ Pipe n → m ≡ n
pipe-in m n is = ap pipe_in_target is

module _ (call : IoCall) (caller : Caller) (io : Io) (n : ℕ) where
  -- bytes of another pipe change
  other-held : (pipe : ℕ) (bytes : List ℕ) → n ≢ pipe → pipe_of (with_pipe io.pipes pipe bytes) n ≡ pipe_of io.pipes n
  other-held pipe bytes apart = get_or-set_other io.pipes pipe n (Some bytes) None apart

  -- the process has a path on what it reads or writes
  abbrev HasPath : Target → Type 0
  HasPath target =
      (opened : OpenPath) × (open_path io caller.process.0 (path_number call caller.regs) ≡ Some opened) × (opened.desc.target ≡ target)

  one-target : (one other : Target) → HasPath one → HasPath other → one ≡ other
  one-target one other (a, named, on) (b, too, at) =
      sym on ∙ ap (λ (opened : OpenPath). opened.desc.target) (same_Some a b (sym named ∙ too)) ∙ at

  -- an attempt on a terminal is on no pipe
  on-terminal : (terminal : ℕ) → HasPath (Term terminal) → HasPath (Pipe n) → ⊥
  on-terminal terminal path on = term-pipe terminal n (one-target (Term terminal) (Pipe n) path on)

  -- what leaves the pipes but another one
  passes-same : (effect : IoEffect) → pipe_of effect.io.pipes n ≡ pipe_of io.pipes n
      → ((way : Direction) → direction_of_call call ≡ Some way → OnPipe call caller io n → MovesNone caller effect.end
      × (effect.bytes ≡ [])) → Becomes call caller io n effect
  passes-same effect same ends = record {
    moved =
        λ lives still. inl (record { held = ap (λ (place : Option (List ℕ)). unwrap_or place []) same; ends = ends });
    fresh = λ absent. inl (same ∙ absent.none);
  }

  -- an attempt on another pipe
  passes-apart : (effect : IoEffect) (pipe : ℕ) → HasPath (Pipe pipe) → n ≢ pipe → pipe_of effect.io.pipes n ≡ pipe_of io.pipes n → Becomes call caller io n effect
  passes-apart effect pipe path apart same =
      passes-same effect same (λ way is on. absurd (apart (pipe-in n pipe (one-target (Pipe n) (Pipe pipe) on path))))

  -- an attempt on this one
  passes-here : (effect : IoEffect) (pipe : ℕ) → n ≡ pipe → HasPath (Pipe pipe) → (IsPipe io.pipes n → Moved call caller io n effect) → Becomes call caller io n effect
  passes-here effect pipe same path moves = record {
    moved = λ lives still. moves lives;
    fresh =
        λ absent. absurd (absent.unused (path_number call caller.regs) path.0 path.1 (path.2 ∙ ap Pipe (sym same)));
  }

  takes-here : (kind : ReadKind) → direction_of_call call ≡ Some Reading
      → ((moved : ℕ) → stored_from call caller.regs moved ≡ stored_by kind caller.regs.x moved)
      → call ≡ read_call kind → (now : PendingCall) → now.count ≡ in_all io caller.process.0 caller.regs.y
      → now.moved ≡ moved_before io caller.process.0 → HasPath (Pipe n) → IsPipe io.pipes n → Takes call caller io n
      (pipe_read kind caller io n now)
  takes-here Bytes way at is now all moved path lives =
      read-takes call caller io n lives path now moved way (at (moved_before io caller.process.0))
      (λ count. ap (λ (call : IoCall). read_answers call caller io count) is) (read_answer (pipe_bytes io n)
      (is_alone io caller.process.0 now.path.0 Reading) now.count)
      (bytes-few (pipe_bytes io n) now.count (length (pipe_bytes io n) == 0) (is_alone io caller.process.0 now.path.0 Reading))
      (λ left. bytes-idle (pipe_bytes io n) now.count (length (pipe_bytes io n) == 0) (is_alone io caller.process.0 now.path.0 Reading) refl (omega (arith, left, all)))
  takes-here WholeLine way at is now all moved path lives =
      line-takes call caller io n lives path now moved way (at (moved_before io caller.process.0) ∙ ap
      (λ (k : ℕ). caller.regs.x + k) (sym moved)) (λ count. ap (λ (call : IoCall). read_answers call caller io
      count) is) (is_alone io caller.process.0 now.path.0 Reading) (read_line_answer (pipe_bytes io n)
      (is_alone io caller.process.0 now.path.0 Reading) (count_left now))
      (read-few (pipe_bytes io n) (count_left now) (length (pipe_bytes io n) == 0) (is_alone io caller.process.0 now.path.0 Reading))
      (λ left. line-idle (pipe_bytes io n) (count_left now) (length (pipe_bytes io n) == 0) (is_alone io caller.process.0 now.path.0 Reading) refl (omega (arith, left, all, moved)))

  read-moves : (kind : ReadKind) → direction_of_call call ≡ Some Reading
      → ((moved : ℕ) → stored_from call caller.regs moved ≡ stored_by kind caller.regs.x moved)
      → call ≡ read_call kind → (now : PendingCall) → now.count ≡ in_all io caller.process.0 caller.regs.y
      → now.moved ≡ moved_before io caller.process.0 → (target : Target) → HasPath target → StepMoves call caller io n
      (reads_target kind caller io now target)
  read-moves kind way at is now all moved (File drive sector) path = tt
  read-moves kind way at is now all moved (Folder drive sector) path = tt
  read-moves kind way at is now all moved (Term terminal) path = λ on. on-terminal terminal path on
  read-moves kind way at is now all moved (Pipe pipe) path = by_place (cases_eq n pipe)
    where
      apart-held : (kind : ReadKind) → n ≢ pipe → pipe_of (pipe_read kind caller io pipe now).io.pipes n ≡ pipe_of io.pipes n
      apart-held Bytes apart = other-held pipe _ apart
      apart-held WholeLine apart = other-held pipe _ apart

      by_place : (n ≡ pipe) ⊎ (n ≢ pipe) → Becomes call caller io n (pipe_read kind caller io pipe now)
      by_place (inl same) =
          passes-here (pipe_read kind caller io pipe now) pipe same path
          (λ lives. inr (inl (subst (λ (m : ℕ). Takes call caller io n (pipe_read kind caller io m now)) same
          (takes-here kind way at is now all moved (subst (λ (m : ℕ). HasPath (Pipe m)) (sym same) path) lives))))
      by_place (inr apart) =
          passes-apart (pipe_read kind caller io pipe now) pipe path apart (apart-held kind apart)

  -- what a write sends is what its call sends
  puts-here : (sending : Sending) (sent : List ℕ) → direction_of_call call ≡ Some Writing → sent_by call caller io ≡
      Some sent → sending.bytes ≡ sent → sending.regs ≡ write_answers call caller (length sent) → (now : PendingCall)
      → now.count ≡ in_all io caller.process.0 (length sent) → now.moved ≡ moved_before io caller.process.0
      → HasPath (Pipe n) → IsPipe io.pipes n → Puts call caller io n
      (writes_pipe io n now (is_alone io caller.process.0 now.path.0 Writing) sending.bytes sending.regs)
  puts-here sending sent way sends same answered now all moved path lives =
      subst (λ (bytes : List ℕ). Puts call caller io n (writes_pipe io n now (is_alone io caller.process.0 now.path.0 Writing) bytes sending.regs)) (sym same)
      (write-puts call caller io n lives path now moved way sent sends sending.regs answered all
      (is_alone io caller.process.0 now.path.0 Writing) (write_answer (pipe_bytes io n)
      (is_alone io caller.process.0 now.path.0 Writing) (length (drop now.moved sent)))
      (write-few (pipe_bytes io n) (drop now.moved sent) (pipe_room (pipe_bytes io n) == 0) (is_alone io caller.process.0 now.path.0 Writing))
      (λ left. write-idle (pipe_bytes io n) (drop now.moved sent) (pipe_room (pipe_bytes io n) == 0)
      (is_alone io caller.process.0 now.path.0 Writing) refl
      (omega (arith, left, moved, length-drop now.moved sent))))

  write-moves : (sending : Sending) (sent : List ℕ) → direction_of_call call ≡ Some Writing → sent_by call caller io ≡
      Some sent → sending.bytes ≡ sent → sending.regs ≡ write_answers call caller (length sent) → (now : PendingCall)
      → now.count ≡ in_all io caller.process.0 (length sent) → now.moved ≡ moved_before io caller.process.0
      → (target : Target) → HasPath target → StepMoves call caller io n (writes_target sending caller io now target)
  write-moves sending sent way sends bytes_are answered now all moved (File drive sector) path = tt
  write-moves sending sent way sends bytes_are answered now all moved (Folder drive sector) path = tt
  write-moves sending sent way sends bytes_are answered now all moved (Term terminal) path = λ on. on-terminal terminal path on
  write-moves sending sent way sends bytes_are answered now all moved (Pipe pipe) path = by_place (cases_eq n pipe)
    where
      by_place : (n ≡ pipe) ⊎ (n ≢ pipe) → Becomes call caller io n (writes_pipe io pipe now (is_alone io caller.process.0 now.path.0 Writing) sending.bytes sending.regs)
      by_place (inl same) =
          passes-here (writes_pipe io pipe now (is_alone io caller.process.0 now.path.0 Writing) sending.bytes sending.regs) pipe same path
          (λ lives. inr (inr (subst (λ (m : ℕ). Puts call caller io n
          (writes_pipe io m now (is_alone io caller.process.0 now.path.0 Writing) sending.bytes sending.regs))
          same (puts-here sending sent way sends bytes_are answered now all moved
          (subst (λ (m : ℕ). HasPath (Pipe m)) (sym same) path) lives))))
      by_place (inr apart) =
          passes-apart (writes_pipe io pipe now (is_alone io caller.process.0 now.path.0 Writing) sending.bytes sending.regs) pipe path apart (other-held pipe _ apart)

  -- ---- reads and writes

  abbrev Through : IoStep → Type 0
  Through step = StepMoves call caller io n step

  path-moves : (number : ℕ) (is_allowed : ℕ → Bool) (next : OpenPath → IoStep)
      → ((opened : OpenPath) → open_path io caller.process.0 number ≡ Some opened → Through (next opened))
      → Through (on_path caller io number is_allowed next)
  path-moves number is_allowed next moves = by_path (open_path io caller.process.0 number) refl
    where
      by_mode : (opened : OpenPath) → open_path io caller.process.0 number ≡ Some opened → (allowed : Bool) → Through (refuses (not allowed) E_BMODE (next opened))
      by_mode opened is true = moves opened is
      by_mode opened is false = tt

      by_path : (opened : Option OpenPath) → open_path io caller.process.0 number ≡ opened
          → Through (needs opened E_BPNUM (λ opened. refuses (not (is_allowed opened.desc.mode)) E_BMODE
          (next opened)))
      by_path None is = tt
      by_path (Some opened) is = by_mode opened is (is_allowed opened.desc.mode)

  nothing-moves : (nothing : Bool) → (caller.regs.y == 0) ≡ nothing → (next : IoStep) → Through next → Through (if nothing then done caller.regs io else next)
  nothing-moves true none next moves =
      passes-same (leaves (answers caller.regs) io) refl (λ way is on. ((eqb-true caller.regs.y 0 none, refl), refl))
  nothing-moves false none next moves = moves

  read-through : (kind : ReadKind) (code : ℕ) → caller.regs.a ≡ path_number call caller.regs → direction_of_call call
      ≡ Some Reading → ((moved : ℕ) → stored_from call caller.regs moved ≡ stored_by kind caller.regs.x moved)
      → call ≡ read_call kind → (is_missing : Bool)
      → Through (refuses is_missing E_BPADDR (on_path caller io caller.regs.a can_read
      (λ opened. unless_nothing caller io (reads_target kind caller io (call_now caller io code opened caller.regs.y)
      opened.desc.target))))
  read-through kind code named way at is true = tt
  read-through kind code named way at one false =
      path-moves caller.regs.a can_read (λ opened. unless_nothing caller io (reads_target kind caller io (call_now caller io code opened caller.regs.y) opened.desc.target))
      (λ opened is. nothing-moves (caller.regs.y == 0) refl (reads_target kind caller io
      (call_now caller io code opened caller.regs.y) opened.desc.target) (read-moves kind way at one
      (call_now caller io code opened caller.regs.y) (now-count caller io code opened caller.regs.y)
      (now-moved caller io code caller.regs.y opened) opened.desc.target
      (opened, ap (open_path io caller.process.0) (sym named) ∙ is, refl)))

  send-through : (sending : List ℕ → Sending) (code : ℕ) → caller.regs.a ≡ path_number call caller.regs
      → direction_of_call call ≡ Some Writing → ((bytes : List ℕ) → (sending bytes).bytes ≡ bytes)
      → ((bytes : List ℕ) → (sending bytes).regs ≡ write_answers call caller (length bytes))
      → (bytes : Option (List ℕ)) → sent_by call caller io ≡ bytes
      → Through (needs bytes E_BPADDR (λ bytes. on_path caller io caller.regs.a can_write
      (λ opened. unless_nothing caller io (sends_on (sending bytes) code caller io opened))))
  send-through sending code named way same regs None sends = tt
  send-through sending code named way same regs (Some bytes) sends =
      path-moves caller.regs.a can_write (λ opened. unless_nothing caller io (sends_on (sending bytes) code caller io opened))
      (λ opened is. nothing-moves (caller.regs.y == 0) refl (sends_on (sending bytes) code caller io opened)
      (write-moves (sending bytes) bytes way sends (same bytes) (regs bytes) (call_now caller io code opened
      (length (sending bytes).bytes)) (now-count caller io code opened (length (sending bytes).bytes) ∙ ap
      (λ (bytes : List ℕ). in_all io caller.process.0 (length bytes)) (same bytes))
      (now-moved caller io code (length (sending bytes).bytes) opened) opened.desc.target
      (opened, ap (open_path io caller.process.0) (sym named) ∙ is, refl)))

  error-through : STANDARD_ERROR ≡ path_number call caller.regs → direction_of_call call ≡ Some Writing
      → sent_by call caller io ≡ Some (error_line caller.regs.b) → caller.regs ≡ write_answers call caller
      (length (error_line caller.regs.b)) → Through (f_perr caller io)
  error-through named way sends regs =
      path-moves STANDARD_ERROR can_write (λ opened. sends_on (sent_error caller) F_PERR caller io opened)
      (λ opened is. write-moves (sent_error caller) (error_line caller.regs.b) way sends refl regs
      (call_now caller io F_PERR opened (length (sent_error caller).bytes)) (now-count caller io F_PERR opened
      (length (sent_error caller).bytes)) (now-moved caller io F_PERR (length (sent_error caller).bytes) opened)
      opened.desc.target (opened, ap (open_path io caller.process.0) (sym named) ∙ is, refl))

  -- ---- calls that move no byte

  module _ (quiet : direction_of_call call ≡ None) where
    quiet-ends : (effect : IoEffect) (way : Direction) → direction_of_call call ≡ Some way → OnPipe call caller io n → MovesNone caller effect.end × (effect.bytes ≡ [])
    quiet-ends effect way is on = absurd (none-some way (sym quiet ∙ is))

    quiet-done : (regs : Regs) (new : Io) → pipe_of new.pipes n ≡ pipe_of io.pipes n → Becomes call caller io n (leaves (answers regs) new)
    quiet-done regs new same = passes-same (leaves (answers regs) new) same (quiet-ends (leaves (answers regs) new))

    dup-through : (path : Option SysPath) (free : Option ℕ)
        → Through (needs path E_BPNUM (λ path. needs free E_PTHFUL (λ number. done (record caller.regs { a = number })
        (with_paths io (paths_after_dup io.paths caller.process.0 caller.regs.a)))))
    dup-through None free = tt
    dup-through (Some path) None = tt
    dup-through (Some path) (Some number) =
        quiet-done (record caller.regs { a = number }) (with_paths io (paths_after_dup io.paths caller.process.0 caller.regs.a)) refl

    close-through : (path : Option SysPath) → Through (needs path E_BPNUM (λ path. done caller.regs (after_close io caller.process.0 caller.regs.a)))
    close-through None = tt
    close-through (Some path) = record {
      moved =
          λ lives still. inl (record {
            held = left-held n io (after_close io caller.process.0 caller.regs.a)
                (closed-left n io caller.process.0 caller.regs.a) still;
            ends = quiet-ends (leaves (answers caller.regs)
                (after_close io caller.process.0 caller.regs.a));
          });
      fresh =
          λ absent. left-empty n io (after_close io caller.process.0 caller.regs.a) (closed-left n io caller.process.0 caller.regs.a) absent.none;
    }

    module _ (list : PathList) where
      begins-through : (before : Io) (desc : Desc) (number : Option ℕ)
          → (IsPipe io.pipes n → pipe_bytes before n ≡ pipe_bytes io n) → (pipe_of io.pipes n ≡ None
          → StaysEmpty n before) → Through
          (needs number E_PTHFUL (λ number. done (opened_regs caller.regs list number)
          (with_paths before (paths_after_begin before.paths caller.process.0 desc))))
      begins-through before desc None same fresh = tt
      begins-through before desc (Some number) same fresh = record {
        moved =
            λ lives still. inl (record {
              held = same lives;
              ends = quiet-ends
                  (leaves (answers (opened_regs caller.regs list number))
                  (with_paths before (paths_after_begin before.paths caller.process.0 desc)));
            });
        fresh = λ absent. fresh absent.none;
      }

      pipe-through : (pipe : Option ℕ) → free_pipe io.pipes ≡ pipe
          → Through (needs pipe E_PTHFUL (λ pipe. begins caller (with_pipes io (pipes_after_begin io.pipes)) list
          (new_desc (Pipe pipe) caller.regs.a)))
      pipe-through None free = tt
      pipe-through (Some pipe) free =
          begins-through (with_pipes io (pipes_after_begin io.pipes)) (new_desc (Pipe pipe) caller.regs.a)
          (new_number io.paths caller.process.0) (begun-held io.pipes n pipe free) (begun-empty io.pipes n pipe
          free)

      lead-through : (lead : Lead) → Through (opens_lead caller io list lead)
      lead-through (to_terminal terminal) =
          begins-through io (new_desc (Term terminal) caller.regs.a) (new_number io.paths caller.process.0) (λ lives. refl) (λ none. inl none)
      lead-through to_pipe = pipe-through (free_pipe io.pipes) refl
      lead-through (nowhere number) = tt

    list-through : (lead : PathList → Lead) (list : Result PathList NameFault) (allowed : Bool) → Through (reads_list list allowed (λ list. opens_lead caller io list (lead list)))
    list-through lead (Ok list) true = lead-through list (lead list)
    list-through lead (Ok list) false = tt
    list-through lead (Err Unreadable) allowed = tt
    list-through lead (Err NoName) true = tt
    list-through lead (Err NoName) false = tt

    options-through : (target : Target) (is_missing : Bool) → Through (refuses is_missing E_BPADDR (comes (stores caller.regs.x (options target) (answers caller.regs) io)))
    options-through target true = tt
    options-through target false =
        passes-same (stores caller.regs.x (options target) (answers caller.regs) io) refl (quiet-ends (stores caller.regs.x (options target) (answers caller.regs) io))

    ready-through : (target : Target) (none : Bool) → Through (refuses none E_NOTRDY (done (record caller.regs { b = min 255 (ready_count io target) }) io))
    ready-through target true = tt
    ready-through target false = quiet-done (record caller.regs { b = min 255 (ready_count io target) }) io refl

    status-by : (target : Target) (opt ready end : Bool) → Through (if opt then gets_options caller io target else
        (if ready then gets_ready caller io target else (if end then gets_end caller io target else refused
        E_UNKSVC)))
    status-by target true ready end = options-through target (is_none (user_bytes caller.cells caller.regs.x OPTION_BYTES))
    status-by target false true end = ready-through target (ready_count io target == 0)
    status-by target false false true = quiet-done (record caller.regs { b = 0 }) io refl
    status-by target false false false = tt

    get-through : (opened : Option OpenPath) → Through (needs opened E_BPNUM (λ opened. gets_status caller io opened.desc.target caller.regs.b))
    get-through None = tt
    get-through (Some opened) =
        status-by opened.desc.target (caller.regs.b == SS_OPT) (caller.regs.b == SS_READY) (caller.regs.b == SS_EOF)

    set-through : (opened : Option OpenPath) → Through (needs opened E_BPNUM (λ opened. refused E_UNKSVC))
    set-through None = tt
    set-through (Some opened) = tt

-- what an attempt of each call moves
pub step-moves : (call : IoCall) (caller : Caller) (io : Io) (n drives terms : ℕ) → StepMoves call caller io n (io_step call caller io drives terms)
step-moves Call.Dup caller io n drives terms =
    dup-through Call.Dup caller io n refl (slot_of io.paths caller.process.0 caller.regs.a) (free_number io.paths caller.process.0)
step-moves Call.Create caller io n drives terms =
    list-through Call.Create caller io n refl (λ list. lead_of a_new_place drives terms list) (path_list caller.cells caller.regs.x) (can_write caller.regs.a)
step-moves Call.Open caller io n drives terms =
    list-through Call.Open caller io n refl (λ list. lead_of what_is_there drives terms list) (path_list caller.cells caller.regs.x) (is_mode caller.regs.a)
step-moves Call.Close caller io n drives terms =
    close-through Call.Close caller io n refl (slot_of io.paths caller.process.0 caller.regs.a)
step-moves Call.Read caller io n drives terms =
    read-through Call.Read caller io n Bytes I_READ refl refl (λ moved. refl) refl (is_none (user_bytes caller.cells caller.regs.x caller.regs.y))
step-moves Call.ReadLn caller io n drives terms =
    read-through Call.ReadLn caller io n WholeLine I_READLN refl refl (λ moved. refl) refl (is_none (user_bytes caller.cells caller.regs.x caller.regs.y))
step-moves Call.Write caller io n drives terms =
    send-through Call.Write caller io n (sent_bytes caller) I_WRITE refl refl (λ bytes. refl) (λ bytes. refl) (user_bytes caller.cells caller.regs.x caller.regs.y) refl
step-moves Call.WritLn caller io n drives terms =
    send-through Call.WritLn caller io n (sent_line caller) I_WRITLN refl refl (λ bytes. refl) (λ bytes. refl) (line_bytes caller (pending_at io caller.process.0)) refl
step-moves Call.GetStt caller io n drives terms =
    get-through Call.GetStt caller io n refl (open_path io caller.process.0 caller.regs.a)
step-moves Call.SetStt caller io n drives terms =
    set-through Call.SetStt caller io n refl (open_path io caller.process.0 caller.regs.a)
step-moves Call.PErr caller io n drives terms = error-through Call.PErr caller io n refl refl refl refl
