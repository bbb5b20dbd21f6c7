-- Attempts on terminals that do not fail, and keys that arrive, are one.
use Rattle.std.proofs.Common.{◌^◌, ◌<◌, ◌≡◌, ◌≢◌, ℕ, zero, suc, ◌+◌, ◌-◌, ◌≤◌, min, Bool, true, false, Option, Some, None, List, [], ◌∷◌, ◌++◌, length, replicate, slice_get, slice_set, take, refl, sym, ap, ◌∙◌, subst, inl, inr, arith}
use Rattle.std.specs.Prelude.{MatchBool, MatchOption, option_map, if◌then◌else◌, All}
use Rattle.std.specs.List.{AllByRecursion, AllZip}
use Rattle.std.proofs.lemmas.Bool.{cases_eq, le-leb}
use Rattle.std.proofs.lemmas.List.Elements.{All-head, All-tail}
use Rattle.std.proofs.lemmas.Option.{none-some, same_Some}
use Rattle.os9_base.specs.Count.{Rose}
use Rattle.os9_base.specs.declared.registers.Pid.{Pid}
use Rattle.os9_outer.specs.Stream.{stream_with}
use Rattle.os9_outer.specs.Terminal.{due_byte}
use Rattle.os9_outer.specs.TerminalState.{TerminalState, fault_counts}
use Rattle.os9_outer.specs.declared.terminal.Key.{Key}
use Rattle.io_model.specs.Terminal.{Terminal, Arrives, TerminalReadAttempt, RoseTimes, TerminalWriteAttempt, dropped_count, first_signal, key_bytes, read_attempt, typed_bytes, used_by}
use Rattle.io_model.specs.declared.keys.TheConstants.{BELL}
use Rattle.io_model.specs.declared.terminal.Arrival.{Arrival}
use Rattle.io_model.specs.declared.terminal.Progress.{Progress}
use Rattle.io_model.specs.declared.terminal.Reading.{Reading}
use Rattle.io_model.specs.declared.terminal.TheConstants.{TYPE_AHEAD}
use Rattle.io_model.specs.Arrivals.{ArrivesAt, ArrivesFrom, Desk, after_key_signal}
use Rattle.io_model.specs.Attempts.{HasIoEffect}
use Rattle.io_model.specs.Io.{Io, terminal_at, with_terminal}
use Rattle.io_model.specs.Step.{Caller, IoEffect, IoEnd, IoStep, answers, refused, comes, reads, writes, leaves, TerminalRead, TerminalWrite}
use Rattle.io_model.specs.Terminals.{ReadsTerminal, WritesTerminal, read_ends, read_leaves, request_of, write_ends}
use Rattle.machine_model.specs.Terminals.{TerminalsOnlyGain}
use Rattle.machine_model.proofs.TerminalLaws.{gain-arrivals}
use Rattle.run_laws.specs.Faults.{NotFailed}

-- ---- counts that do not rise

pub rose-later : (most a b c : ℕ) → min (a + 1) most ≤ b → b ≤ c → min (a + 1) most ≤ c
rose-later most a b c rose more = omega arith

pub rose-before : (most a b c : ℕ) → a ≤ b → min (b + 1) most ≤ c → min (a + 1) most ≤ c
rose-before most a b c more rose = omega arith

-- no terminal failed of these
abbrev pub NoneOf : List TerminalState → List TerminalState → Type 0
NoneOf before now = AllZip NotFailed before now

pub first-none : (a b c : List TerminalState) → TerminalsOnlyGain a b → TerminalsOnlyGain b c → NoneOf a c → NoneOf a b
first-none [] [] [] one two none = tt
first-none [] [] (z ∷ c) one two none = absurd two
first-none [] (y ∷ b) c one two none = absurd one
first-none (x ∷ a) [] c one two none = absurd one
first-none (x ∷ a) (y ∷ b) [] one two none = absurd two
first-none (x ∷ a) (y ∷ b) (z ∷ c) one two none =
    ((λ rose. none.0 (rose-later _ x.faults y.faults z.faults rose two.0.faults)), first-none a b c one.1 two.1 none.1)

pub then-none : (a b c : List TerminalState) → TerminalsOnlyGain a b → TerminalsOnlyGain b c → NoneOf a c → NoneOf b c
then-none [] [] [] one two none = tt
then-none [] [] (z ∷ c) one two none = absurd two
then-none [] (y ∷ b) c one two none = absurd one
then-none (x ∷ a) [] c one two none = absurd one
then-none (x ∷ a) (y ∷ b) [] one two none = absurd two
then-none (x ∷ a) (y ∷ b) (z ∷ c) one two none =
    ((λ rose. none.0 (rose-before _ x.faults y.faults z.faults one.0.faults rose)), then-none a b c one.1 two.1 none.1)

-- counts that stay have not risen, if they could
pub stays-none : (most a b : ℕ) → a < most → b ≡ a → min (a + 1) most ≤ b → ⊥
stays-none most a b below same rose = omega arith

pub none-of : (before now : List TerminalState) → fault_counts now ≡ fault_counts before → AllByRecursion (λ (terminal : TerminalState). terminal.faults < 2 ^ 64 - 1) before → NoneOf before now
none-of [] [] same below = tt
none-of [] (y ∷ now) same below = cc
none-of (x ∷ before) [] same below = cc
none-of (x ∷ before) (y ∷ now) same below =
    let first : y.faults ≡ x.faults = cc in
    let rest : fault_counts now ≡ fault_counts before = cc in
    ((λ rose. stays-none _ x.faults y.faults below.0 first rose), none-of before now rest below.1)

-- ---- one terminal

-- a terminal that changed did not fail, if none failed
none-at : (before : List TerminalState) (n : ℕ) (old new : TerminalState) → slice_get before n ≡ Some old → NoneOf before (slice_set before n new) → NotFailed old new
none-at [] n old new is none = absurd (none-some old is)
none-at (x ∷ xs) zero old new is none =
    subst (λ (t : TerminalState). NotFailed t new) (same_Some x old is) none.0
none-at (x ∷ xs) (suc n) old new is none = none-at xs n old new is none.1

-- a terminal that is given these bytes, and does not fail
abbrev pub given : TerminalState → List ℕ → TerminalState
given old bytes = record old { put = stream_with old.put bytes }

given-is : (old now : TerminalState) (bytes : List ℕ) → now.keys ≡ old.keys → now.put ≡ stream_with old.put bytes → now.faults ≡ old.faults → now ≡ given old bytes
given-is old now bytes keys put faults = λ i. record { keys = keys i; put = put i; faults = faults i }

-- ---- an attempt of a call

-- a read that does not fail is the one attempt of it
record ReadOnce (request : Reading) (answer : Progress) (old new : Terminal) (before now : TerminalState) : Type 0 where
  pub answer_is : answer ≡ (read_attempt request old).answer
  pub terminal : new ≡ (read_attempt request old).terminal
  pub driver : now ≡ given before (read_attempt request old).echo

read-once : (request : Reading) (answer : Progress) (old new : Terminal) (before now : TerminalState)
    → (answer ≡ Progress.NoMemory → ⊥) → NotFailed before now → TerminalReadAttempt request answer old new before now
    → ReadOnce request answer old new before now
read-once request (Progress.Done count) old new before now memory calm it =
    record { answer_is = it.outcome.answer_is; terminal = it.outcome.terminal; driver = given-is before now (read_attempt request old).echo it.driver.keys it.outcome.echo it.driver.faults }
read-once request Progress.Wait old new before now memory calm it =
    record { answer_is = it.outcome.answer_is; terminal = it.outcome.terminal; driver = given-is before now (read_attempt request old).echo it.driver.keys it.outcome.echo it.driver.faults }
read-once request Progress.End old new before now memory calm it =
    record { answer_is = it.outcome.answer_is; terminal = it.outcome.terminal; driver = given-is before now (read_attempt request old).echo it.driver.keys it.outcome.echo it.driver.faults }
read-once request Progress.Fault old new before now memory calm it = absurd (calm it.driver.faults)
read-once request Progress.NoMemory old new before now memory calm it = absurd (memory refl)

-- what an attempt comes to is one
pub record OneEffect (effect other : IoEffect) (after others : List TerminalState) : Type 0 where
  pub effects : effect ≡ other
  pub terminals : after ≡ others

module _ (caller : Caller) (io : Io) (before after others : List TerminalState) (none : NoneOf before after) (none_too : NoneOf before others) where
  -- a read of a terminal, by what its attempt comes to
  record ReadOf (read : TerminalRead) (effect : IoEffect) (then_terms : List TerminalState) : Type 0 where
    pub old : TerminalState
    pub found : slice_get before read.terminal ≡ Some old
    pub end : IoEnd
    pub ends : read_ends caller read (read_attempt (request_of caller read) (terminal_at io read.terminal)).answer ≡ Some end
    pub effect_is : effect ≡ read_leaves caller io read (read_attempt (request_of caller read)
        (terminal_at io read.terminal)).answer (read_attempt (request_of caller read)
        (terminal_at io read.terminal)).terminal end
    pub terms : then_terms ≡ slice_set before read.terminal (given old (read_attempt (request_of caller read) (terminal_at io read.terminal)).echo)

  read-of : (read : TerminalRead) (effect : IoEffect) (then_terms : List TerminalState) → NoneOf before then_terms
      → ReadsTerminal caller io read effect before then_terms → ReadOf read effect then_terms
  read-of read effect then_terms calm it =
      let old = it.device.0 in
      let new = it.device.1 in
      let not_failed : NotFailed old new = none-at before read.terminal old new it.device.2 (subst (NoneOf before) it.device.3 calm) in
      let once : ReadOnce (request_of caller read) it.answer (terminal_at io read.terminal) it.new old new = read-once
      (request_of caller read) it.answer (terminal_at io read.terminal) it.new old new
      (λ wants. none-some it.end (sym (ap (read_ends caller read) wants) ∙ it.ends)) not_failed it.device.4 in
      record {
        old = old;
        found = it.device.2;
        end = it.end;
        ends = sym (ap (read_ends caller read) once.answer_is) ∙ it.ends;
        effect_is =
            it.effect_is ∙ (λ i. read_leaves caller io read (once.answer_is i) (once.terminal i) it.end);
        terms = it.device.3 ∙ ap (slice_set before read.terminal) once.driver;
      }

  read-one : (read : TerminalRead) (effect other : IoEffect) → ReadsTerminal caller io read effect before after → ReadsTerminal caller io read other before others → OneEffect effect other after others
  read-one read effect other first second =
      let one = read-of read effect after none first in
      let two = read-of read other others none_too second in
      let end : one.end ≡ two.end = same_Some one.end two.end (sym one.ends ∙ two.ends) in
      let old : one.old ≡ two.old = same_Some one.old two.old (sym one.found ∙ two.found) in
      record {
        effects =
            one.effect_is ∙ ap (read_leaves caller io read (read_attempt (request_of caller read)
            (terminal_at io read.terminal)).answer (read_attempt (request_of caller read)
            (terminal_at io read.terminal)).terminal) end ∙ sym two.effect_is;
        terminals =
            one.terms ∙ ap (λ (old : TerminalState). slice_set before read.terminal (given old (read_attempt (request_of caller read) (terminal_at io read.terminal)).echo)) old ∙ sym two.terms;
      }

  -- a write to a terminal, where it does not fail
  record WriteOf (write : TerminalWrite) (effect : IoEffect) (then_terms : List TerminalState) : Type 0 where
    pub old : TerminalState
    pub found : slice_get before write.terminal ≡ Some old
    pub effect_is : effect ≡ leaves (answers write.regs) (with_terminal io write.terminal (used_by caller.process (terminal_at io write.terminal)))
    pub terms : then_terms ≡ slice_set before write.terminal (given old write.put)

  write-of : (write : TerminalWrite) (effect : IoEffect) (then_terms : List TerminalState) → NoneOf before then_terms
      → WritesTerminal caller io write effect before then_terms → WriteOf write effect then_terms
  write-of write effect then_terms calm it = by_answer it.answer it.ends it.device.4
    where
      not_failed : NotFailed it.device.0 it.device.1
      not_failed =
          none-at before write.terminal it.device.0 it.device.1 it.device.2 (subst (NoneOf before) it.device.3 calm)

      by_answer : (answer : Progress) → write_ends write answer ≡ Some it.end → TerminalWriteAttempt caller.process write.put
          write.count answer (terminal_at io write.terminal) it.new it.device.0 it.device.1 → WriteOf write effect
          then_terms
      by_answer (Progress.Done count) ends it_writes = record {
        old = it.device.0;
        found = it.device.2;
        effect_is =
            it.effect_is ∙ (λ i. leaves (sym (same_Some (answers write.regs) it.end ends) i) (with_terminal io write.terminal (it_writes.outcome.terminal i)));
        terms = it.device.3 ∙ ap (slice_set before write.terminal) (given-is it.device.0 it.device.1 write.put it_writes.driver.keys it_writes.outcome.put it_writes.driver.faults);
      }
      by_answer Progress.Wait ends it_writes = absurd (none-some it.end ends)
      by_answer Progress.End ends it_writes = absurd (none-some it.end ends)
      by_answer Progress.Fault ends it_writes = absurd (not_failed it_writes.driver.faults)
      by_answer Progress.NoMemory ends it_writes = absurd (none-some it.end ends)

  write-one : (write : TerminalWrite) (effect other : IoEffect) → WritesTerminal caller io write effect before after
      → WritesTerminal caller io write other before others → OneEffect effect other after others
  write-one write effect other first second =
      let one = write-of write effect after none first in
      let two = write-of write other others none_too second in
      let old : one.old ≡ two.old = same_Some one.old two.old (sym one.found ∙ two.found) in
      record {
        effects = one.effect_is ∙ sym two.effect_is;
        terminals = one.terms ∙ ap (λ (old : TerminalState). slice_set before write.terminal (given old write.put)) old ∙ sym two.terms;
      }

  pub does-one : (step : IoStep) (effect other : IoEffect) → HasIoEffect step caller io effect before after → HasIoEffect step caller io other before others → OneEffect effect other after others
  does-one (refused number) effect other (is, same) (is_too, same_too) =
      record { effects = is ∙ sym is_too; terminals = same ∙ sym same_too }
  does-one (comes it) effect other (is, same) (is_too, same_too) =
      record { effects = is ∙ sym is_too; terminals = same ∙ sym same_too }
  does-one (reads read) effect other first second = read-one read effect other first second
  does-one (writes write) effect other first second = write-one write effect other first second

-- ---- keys that arrive

-- no fault is in a count that did not rise
rises : (most a b times : ℕ) → times ≢ 0 → min (a + times) most ≤ b → min (a + 1) most ≤ b
rises most a b times some rose = omega arith

calm : (times before now : ℕ) → RoseTimes times before now → (Rose before now → ⊥) → times ≡ 0
calm times before now rose not_rose =
    elim (cases_eq times 0) [
      | inl none ↦ none
      | inr some ↦ absurd (not_rose (rises _ before now times some rose.rose))
    ]

first-zero : (a b : ℕ) → a + b ≡ 0 → a ≡ 0
first-zero a b is = omega arith

second-zero : (a b : ℕ) → a + b ≡ 0 → b ≡ 0
second-zero a b is = omega arith

-- a key that is due is no key that is not
due-not : (key : Key) (keys : List Key) (tick : ℕ) → key.tick ≤ tick → due_byte (key ∷ keys) tick ≡ None → ⊥
due-not key keys tick due none =
    none-some key.byte (sym none ∙ ap (λ (there : Bool). if there then Some key.byte else None) (le-leb key.tick tick due))

-- the keys that are due, and those that are not
record OneCut (one two rest other : List Key) : Type 0 where
  pub taken : one ≡ two
  pub left : rest ≡ other

cut-one : (tick : ℕ) (one two rest other : List Key) → one ++ rest ≡ two ++ other
    → All (λ (key : Key). key.tick ≤ tick) one → All (λ (key : Key). key.tick ≤ tick) two → due_byte rest tick ≡ None
    → due_byte other tick ≡ None → OneCut one two rest other
cut-one tick [] [] rest other is due due_too none none_too = record { taken = refl; left = is }
cut-one tick [] (y ∷ two) rest other is due due_too none none_too =
    absurd (due-not y (two ++ other) tick (All-head (λ (key : Key). key.tick ≤ tick) y two due_too) (sym (ap (λ (keys : List Key). due_byte keys tick) is) ∙ none))
cut-one tick (x ∷ one) [] rest other is due due_too none none_too =
    absurd (due-not x (one ++ rest) tick (All-head (λ (key : Key). key.tick ≤ tick) x one due) (ap (λ (keys : List Key). due_byte keys tick) is ∙ none_too))
cut-one tick (x ∷ one) (y ∷ two) rest other is due due_too none none_too =
    let first : x ≡ y = cc in
    let after : one ++ rest ≡ two ++ other = cc in
    let cut : OneCut one two rest other = cut-one tick one two rest other after
    (All-tail (λ (key : Key). key.tick ≤ tick) x one due) (All-tail (λ (key : Key). key.tick ≤ tick) y two
    due_too) none none_too in
    record { taken = λ i. first i ∷ cut.taken i; left = cut.left }

-- a poll of a terminal that does not fail is one
record OnePoll (new other : Terminal) (now then_state : TerminalState) (answer second : Arrival) : Type 0 where
  pub terminal : new ≡ other
  pub driver : now ≡ then_state
  pub signal : answer.signal ≡ second.signal

module _ (tick : ℕ) (old new other : Terminal) (before now then_state : TerminalState) (answer second : Arrival)
    (memory : answer.memory ≡ true) (memory_too : second.memory ≡ true) (not_failed : NotFailed before now)
    (not_failed_too : NotFailed before then_state) where
  poll-one : Arrives tick old new before now answer → Arrives tick old other before then_state second → OnePoll new other now then_state answer second
  poll-one one two =
      let none : one.mute + one.broken ≡ 0 = calm (one.mute + one.broken) before.faults now.faults one.faults not_failed in
      let none_too : two.mute + two.broken ≡ 0 = calm (two.mute + two.broken) before.faults then_state.faults two.faults not_failed_too in
      let whole : one.broken ≡ 0 = second-zero one.mute one.broken none in
      let whole_too : two.broken ≡ 0 = second-zero two.mute two.broken none_too in
      let cut : OneCut one.taken two.taken now.keys then_state.keys = cut-one tick one.taken two.taken now.keys
      then_state.keys (sym one.in_order ∙ two.in_order) one.due two.due (one.all_taken memory whole)
      (two.all_taken memory_too whole_too) in
      let rings : one.bells ≡ dropped_count old.ahead (key_bytes one.taken) = bells-all one.bells one.mute one.broken _ none (one.every_bell memory) in
      let rings_too : two.bells ≡ dropped_count old.ahead (key_bytes two.taken) = bells-all two.bells two.mute two.broken _ none_too (two.every_bell memory_too) in
      let bells : one.bells ≡ two.bells = rings ∙ ap (λ (keys : List Key). dropped_count old.ahead (key_bytes keys)) cut.taken ∙ sym rings_too in
      record {
        terminal =
            one.kept ∙ ap (λ (keys : List Key). record old { ahead = take TYPE_AHEAD (old.ahead ++ typed_bytes (key_bytes keys)) }) cut.taken ∙ sym two.kept;
        driver = λ i. record {
          keys = cut.left i;
          put = (one.put ∙ ap (λ (bells : ℕ). stream_with before.put (replicate bells BELL)) bells ∙ sym two.put) i;
          faults = (one.faults.stood none ∙ sym (two.faults.stood none_too)) i;
        };
        signal = one.signal ∙ ap (λ (keys : List Key). first_signal (key_bytes keys)) cut.taken ∙ sym two.signal;
      }
    where
      bells-all : (bells mute broken dropped : ℕ) → mute + broken ≡ 0 → bells + mute ≡ dropped → bells ≡ dropped
      bells-all bells mute broken dropped none every = omega arith

gain-arrival : (tick n : ℕ) (old new : Desk) → ArrivesAt tick n old new → TerminalsOnlyGain old.terms new.terms
gain-arrival tick n old new here = gain-arrivals tick n 1 old new (new, here, refl)

arrival-one : (tick n : ℕ) (old new other : Desk) → ArrivesAt tick n old new → ArrivesAt tick n old other → NoneOf old.terms new.terms → NoneOf old.terms other.terms → new ≡ other
arrival-one tick n old new other one two none none_too =
    let before : one.device.0 ≡ two.device.0 = same_Some one.device.0 two.device.0 (sym one.device.2 ∙ two.device.2) in
    let not_failed : NotFailed one.device.0 one.device.1 = none-at old.terms n one.device.0 one.device.1 one.device.2 (subst (NoneOf old.terms) one.device.3 none) in
    let not_failed_too : NotFailed two.device.0 two.device.1 = none-at old.terms n two.device.0 two.device.1 two.device.2 (subst (NoneOf old.terms) two.device.3 none_too) in
    let poll : OnePoll one.terminal two.terminal one.device.1 two.device.1 one.answer two.answer = poll-one tick
    (terminal_at old.io n) one.terminal two.terminal one.device.0 one.device.1 two.device.1 one.answer two.answer
    one.memory two.memory not_failed (subst (λ (before : TerminalState). NotFailed before two.device.1)
    (sym before) not_failed_too) one.device.4
    (subst (λ (before : TerminalState). Arrives tick (terminal_at old.io n) two.terminal before two.device.1
    two.answer) (sym before) two.device.4) in
    λ i. record {
      processes =
          (one.signal ∙ (λ j. after_key_signal old.processes (poll.terminal j).user (poll.signal j)) ∙ sym two.signal) i;
      io = (one.io ∙ ap (with_terminal old.io n) poll.terminal ∙ sym two.io) i;
      terms = (one.device.3 ∙ ap (slice_set old.terms n) poll.driver ∙ sym two.device.3) i;
    }

pub arrivals-one : (tick n count : ℕ) (old new other : Desk) → ArrivesFrom tick n count old new → ArrivesFrom tick n
    count old other → NoneOf old.terms new.terms → NoneOf old.terms other.terms → new ≡ other
arrivals-one tick n zero old new other is is_too none none_too = is ∙ sym is_too
arrivals-one tick n (suc count) old new other (between, here, later) (second, here_too, later_too) none none_too =
    let gained = gain-arrival tick n old between here in
    let gained_too = gain-arrival tick n old second here_too in
    let after = gain-arrivals tick (n + 1) count between new later in
    let after_too = gain-arrivals tick (n + 1) count second other later_too in
    let same : between ≡ second = arrival-one tick n old between second here here_too
    (first-none old.terms between.terms new.terms gained after none) (first-none old.terms second.terms
    other.terms gained_too after_too none_too) in
    arrivals-one tick (n + 1) count between new other later
    (subst (λ (desk : Desk). ArrivesFrom tick (n + 1) count desk other) (sym same) later_too)
    (then-none old.terms between.terms new.terms gained after none)
    (subst (λ (desk : Desk). NoneOf desk.terms other.terms) (sym same) (then-none old.terms second.terms other.terms gained_too after_too none_too))
