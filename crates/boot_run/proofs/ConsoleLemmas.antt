-- The bytes of the terminals, one terminal after another.
use Rattle.std.proofs.Common.{◌≡◌, ◌≢◌, ℕ, ◌+◌, ◌<◌, ◌==◌, Bool, false, Option, Some, None, List, [], ◌∷◌, ◌++◌, length, map, take, drop, slice_set, get_or, sym, ap, ◌∙◌, append-nil, get_or-drop, length-take, All, refl, arith}
use Rattle.std.specs.Prelude.{IfSome, IsSome, OnErr, Result, Ok, Err, unwrap_or}
use Rattle.std.proofs.lemmas.Bool.{false≢true}
use Rattle.std.proofs.lemmas.List.{take-append-drop, take_more, get_or-append_right, length-map}
use Rattle.std.proofs.lemmas.List.Concat.{flat_map-append}
use Rattle.std.proofs.lemmas.List.Edits.{map_over_more}
use Rattle.std.proofs.lemmas.List.Elements.{All-get_or}
use Rattle.std.proofs.lemmas.Option.{get_or_from_slice_get}
use Rattle.os9_words.proofs.Prefixes.{GainsPrefix-front, GainsPrefix-then}
use Rattle.os9_outer.specs.Stream.{stream_with, emptied, GainsPrefix}
use Rattle.device_table.proofs.StreamLemmas.{appended-twice}
use Rattle.os9_outer.specs.TerminalState.{TerminalState, ChangesOneTerminal}
use Rattle.machine_model.specs.Console.{put_bytes, console_bytes, without_bytes}
use Rattle.os9_base.specs.Count.{Rose}
use Rattle.os9_outer.specs.Host.{OnFailed, UnlessFailed}
use Rattle.os9_outer.specs.declared.host.HostFault.{HostFault}
use Rattle.os9_outer.specs.declared.host.HostFault.TheVariants.{Failed, OutOfMemory}
use Rattle.os9_kernel.specs.Outside.{Outside}
use Rattle.boot_run.specs.Console.{TakesBytes, IsObserved, emptied_front}
use Rattle.boot_run.specs.World.{World, HasNoFault, FailsToWrite}

-- what was taken from a terminal's driver was taken from the terminal
pub Takes-from : (bytes : List ℕ) (old new : TerminalState) → IfSome old.put (λ put. bytes ≡ put) → new.put ≡ emptied old.put → new.keys ≡ old.keys → new.faults ≡ old.faults → TakesBytes bytes old new
Takes-from bytes old new handed none keys faults =
    let by : List _ → Option (List ℕ) → ℕ → TerminalState = λ keys put faults. record { keys = keys; put = put; faults = faults } in
    record {
      handed_over = handed;
      none_left = ap (λ k. by k new.put new.faults) keys ∙ ap (λ p. by old.keys p new.faults) none ∙ ap (λ f. by old.keys (emptied old.put) f) faults;
    }

told_bytes : (bytes : List ℕ) (put : Option (List ℕ)) → IsSome put → IfSome put (λ put. bytes ≡ put) → bytes ≡ unwrap_or put []
told_bytes bytes None told is = cc
told_bytes bytes (Some put) told is = is

-- ---- some bytes

pub not-none : (bytes : List ℕ) (empty : Bool) → empty ≡ (length bytes == 0) → empty ≡ false → bytes ≢ []
not-none bytes empty is filled none = false≢true (sym filled ∙ is ∙ ap (λ bytes. length bytes == 0) none)

-- they are bytes of the whole
some-behind : (front bytes behind : List ℕ) → bytes ≢ [] → (front ++ bytes) ++ behind ≢ []
some-behind [] [] behind some is = some refl
some-behind [] (byte ∷ bytes) behind some is = cc is
some-behind (byte ∷ front) bytes behind some is = cc is

-- a fact of the call holds if it answers an error
pub on-error : {Value Fault : Type 0} (answer : Result Value Fault) (fact : Type 0) → fact → OnErr answer fact
on-error (Ok value) fact holds = tt
on-error (Err fault) fact holds = holds

-- one terminal more
pub record Passed (n : ℕ) (bytes : List ℕ) (screens now : List TerminalState) : Type 0 where
  pub emptied : now ≡ emptied_front (n + 1) screens
  pub written : All IsObserved screens → console_bytes (take (n + 1) screens) ≡ console_bytes (take n screens) ++ bytes

pub passes : (n : ℕ) (bytes : List ℕ) (screens before now : List TerminalState) → n < length screens
    → before ≡ emptied_front n screens → ChangesOneTerminal (TakesBytes bytes) n before now → Passed n bytes screens
    now
passes n bytes screens before now within so_far (old, new, is, set, took) =
    let here : old ≡ get_or before n old = sym (get_or_from_slice_get before n old old is) in
    let size : length (map without_bytes (take n screens)) ≡ n = simp (length-map, length-take) (omega arith) in
    let there : get_or before n old ≡ get_or screens n old = rw so_far
    (get_or-append_right (map without_bytes (take n screens)) (drop n screens) n n old size (omega arith) ∙ rw
    get_or-drop (ap (λ k. get_or screens k old) (omega arith))) in
    let same : old ≡ get_or screens n old = here ∙ there in
    record {
      emptied = set ∙ ap (λ screen. slice_set before n screen) took.none_left ∙ map_over_more without_bytes screens before n old within so_far here;
      written = λ told.
          let tells : IsSome old.put = rw same (All-get_or IsObserved screens n old within told) in
          rw (
            take_more screens n old within,
            flat_map-append,
            told_bytes bytes old.put tells took.handed_over,
            ←
                same,
          ) (ap (λ rest. console_bytes (take n screens) ++ rest) (append-nil (unwrap_or old.put [])));
    }

-- what was written after one terminal more
pub written-more : (n : ℕ) (bytes : List ℕ) (screens now : List TerminalState) (first before after : Option (List ℕ))
    → Passed n bytes screens now → (All IsObserved screens → before ≡ stream_with first
    (console_bytes (take n screens))) → after ≡ stream_with before bytes → All IsObserved screens
    → after ≡ stream_with first (console_bytes (take (n + 1) screens))
written-more n bytes screens now first before after passed so_far gained told =
    gained ∙ ap (λ stream. stream_with stream bytes) (so_far told) ∙ appended-twice first (console_bytes (take n screens)) bytes ∙ ap (stream_with first) (sym (passed.written told))

-- all bytes are these, those of the terminal, and those behind it
pub bytes-of : (n : ℕ) (bytes : List ℕ) (screens now : List TerminalState) → Passed n bytes screens now
    → All IsObserved screens → console_bytes screens ≡ (console_bytes (take n screens) ++ bytes) ++ console_bytes
    (drop (n + 1) screens)
bytes-of n bytes screens now passed told =
    let all = ap console_bytes (sym (take-append-drop (n + 1) screens)) ∙ flat_map-append put_bytes (take (n + 1) screens) (drop (n + 1) screens) in
    all ∙ ap (λ front. front ++ console_bytes (drop (n + 1) screens)) (passed.written told)

-- so there are some, if the terminal has some
pub some-here : (n : ℕ) (bytes : List ℕ) (screens now : List TerminalState) → Passed n bytes screens now → bytes ≢ [] → All IsObserved screens → console_bytes screens ≢ []
some-here n bytes screens now passed some told none =
    some-behind (console_bytes (take n screens)) bytes (console_bytes (drop (n + 1) screens)) some (sym (bytes-of n bytes screens now passed told) ∙ none)

-- where the bytes of a terminal are not all written, a prefix of the bytes of all terminals is
prefix-here : (n : ℕ) (bytes : List ℕ) (screens now : List TerminalState) (first before after : Option (List ℕ))
    → Passed n bytes screens now → (All IsObserved screens → before ≡ stream_with first
    (console_bytes (take n screens))) → GainsPrefix before bytes after → All IsObserved screens → GainsPrefix first
    (console_bytes screens) after
prefix-here n bytes screens now first before after passed so_far gained told =
    let front = console_bytes (take (n + 1) screens) in
    let behind = console_bytes (drop (n + 1) screens) in
    let all : console_bytes screens ≡ front ++ behind = ap console_bytes (sym (take-append-drop (n + 1) screens)) ∙ flat_map-append put_bytes (take (n + 1) screens) (drop (n + 1) screens) in
    rw all (GainsPrefix-front first front behind after (rw (passed.written told) (GainsPrefix-then first (console_bytes (take n screens)) bytes before after (so_far told) gained)))

-- the same where the call answers an error
pub prefix-on_error : {Value Fault : Type 0} (answer : Result Value Fault) (n : ℕ) (bytes : List ℕ)
    (screens now : List TerminalState) (first before after : Option (List ℕ)) → Passed n bytes screens now
    → (All IsObserved screens → before ≡ stream_with first (console_bytes (take n screens))) → GainsPrefix before
    bytes after → OnErr answer (All IsObserved screens → GainsPrefix first (console_bytes screens) after)
prefix-on_error (Ok value) n bytes screens now first before after passed so_far gained = tt
prefix-on_error (Err fault) n bytes screens now first before after passed so_far gained = prefix-here n bytes screens now first before after passed so_far gained

-- so many terminals gave their bytes
pub left-on_error : {Value Fault : Type 0} (answer : Result Value Fault) (count : ℕ)
    (screens now : List TerminalState) → now ≡ emptied_front count screens
    → OnErr answer ((count : ℕ) × (now ≡ emptied_front count screens))
left-on_error (Ok value) count screens now is = tt
left-on_error (Err fault) count screens now is = (count, is)

-- ---- what a write to the output says of a longer call

pub failed-then : {Value : Type 0} (answer : Result Value HostFault) (first between after : World)
    → HasNoFault first between → OnFailed answer (Rose between.faults after.faults)
    → OnFailed answer (after.failed_name ≡ None) → OnFailed answer (after.failed_in_read ≡ false)
    → OnFailed answer (FailsToWrite first after)
failed-then (Ok value) first between after kept rose name in_read = tt
failed-then (Err Failed) first between after kept rose name in_read = (rw (← kept.0) rose, name, in_read)
failed-then (Err OutOfMemory) first between after kept rose name in_read = tt

pub kept-then : {Value : Type 0} (answer : Result Value HostFault) (first between after : World)
    → HasNoFault first between → UnlessFailed answer (after.faults ≡ between.faults) → UnlessFailed answer
    (after.failed_name ≡ between.failed_name) → UnlessFailed answer (after.failed_in_read ≡ between.failed_in_read)
    → UnlessFailed answer (HasNoFault first after)
kept-then (Ok value) first between after kept faults name in_read = (faults ∙ kept.0, name ∙ kept.1, in_read ∙ kept.2)
kept-then (Err Failed) first between after kept faults name in_read = tt
kept-then (Err OutOfMemory) first between after kept faults name in_read = (faults ∙ kept.0, name ∙ kept.1, in_read ∙ kept.2)

-- no devices, where the host alone is spoken of
abbrev pub nowhere : Outside
nowhere = record { drives = []; terms = [] }
