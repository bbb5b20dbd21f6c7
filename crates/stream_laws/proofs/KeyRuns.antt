-- What becomes of the keys of a terminal in a tick, in a slice and in a run.
use Rattle.std.proofs.Common.{◌≡◌, ℕ, ◌+◌, ◌-◌, ◌<◌, ◌≤◌, List, [], ◌∷◌, ◌++◌, length, take, refl, sym, ap, ◌∙◌, subst, inl, inr, arith, append_assoc}
use Rattle.std.specs.List.{AllByRecursion, filter_map, flat_map}
use Rattle.std.proofs.lemmas.List.{get_or-replicate, length-append, length-take}
use Rattle.os9_outer.specs.TerminalState.{TerminalState}
use Rattle.os9_outer.specs.declared.terminal.Key.{Key}
use Rattle.proc_model.specs.declared.turn.Turn.{Turn}
use Rattle.proc_model.specs.Processes.{Processes}
use Rattle.io_model.specs.Pipe.{Flows}
use Rattle.io_model.proofs.PipeLemmas.{flows-in_order}
use Rattle.io_model.specs.Terminal.{Terminal, key_bytes, new_terminal, typed_bytes}
use Rattle.io_model.specs.declared.terminal.TheConstants.{TYPE_AHEAD}
use Rattle.io_model.specs.Io.{Io, first_io, terminal_at}
use Rattle.file_rules.specs.Files.{Files}
use Rattle.machine_model.specs.declared.ends.EventEnd.{EventEnd}
use Rattle.machine_model.specs.declared.ends.SliceEnd.{SliceEnd}
use Rattle.machine_model.specs.Console.{terminals_emptied}
use Rattle.stream_laws.specs.Keys.{KeyMove, arrive, arrived_by, stay, use_up, EventKeys, KeyStepsFollow, HasAhead, IsKeyStep, KeyStep, KeysArrive, KeysPass, KeepsAllButOrder, after_event, ahead_at, ahead_moves, keys_to_come}
use Rattle.stream_laws.proofs.KeyAttempts.{come_of}
use Rattle.stream_laws.proofs.KeyArrivals.{Polled, arrivals-polled, come-emptied}
use Rattle.machine_model.proofs.Induction.{IsCarriedByMoves, along-run, along-slice}
use Rattle.machine_model.specs.Event.{Event}
use Rattle.machine_model.specs.Run.{Choose, Run, Slice, Tick, desk_of}
use Rattle.machine_model.specs.Start.{Boot, Starts}
use Rattle.machine_model.specs.State.{State}
use Rattle.stream_laws.proofs.KeyEvents.{event-keys}

-- ---- a tick

pub tick-keys : (s t : State) (n : ℕ) → Tick s t → HasAhead n s → (keys : List Key) × KeysArrive n s keys t × HasAhead n t
tick-keys s t n (desk, arrives, is) has =
    let it : Polled n (s.processes.tick + 1) (desk_of s) desk = arrivals-polled n (s.processes.tick + 1) 0 (length s.terms) (desk_of s) desk has.within has.few arrives in (
      it.keys,
      record {
        come =
            it.come ∙ ap (λ (terms : List TerminalState). it.keys ++ come_of terms n) (sym (ap (λ (t : State). t.terms) is));
        kept = ap (λ (t : State). ahead_at t n) is ∙ it.ahead;
        line = record {
          line = ap (λ (t : State). (terminal_at t.files.io n).line) is ∙ it.line.line;
          reading = ap (λ (t : State). (terminal_at t.files.io n).reading) is ∙ it.line.reading;
        };
      },
      record {
        within =
            subst (λ (k : ℕ). n < k) (sym (ap (λ (t : State). length t.files.io.terminals) is ∙ it.places)) has.within;
        few = subst (λ (ahead : List ℕ). length ahead ≤ TYPE_AHEAD) (sym (ap (λ (t : State). ahead_at t n) is ∙ it.ahead)) (few-then (ahead_at s n) (typed_bytes (key_bytes it.keys)) has.few);
      },
    )
  where
    few-then : (ahead typed : List ℕ) → length ahead ≤ TYPE_AHEAD → length (ahead ++ take (TYPE_AHEAD - length ahead) typed) ≤ TYPE_AHEAD
    few-then ahead typed few =
        omega (arith, length-append ahead (take (TYPE_AHEAD - length ahead) typed), length-take (TYPE_AHEAD - length ahead) typed)

-- ---- what stays from one step to the next

stands-same : (s : State) → KeepsAllButOrder s s
stands-same s = record { io = refl; come = λ n. refl; processes = refl }

stands-then : (s m t : State) → KeepsAllButOrder s m → KeepsAllButOrder m t → KeepsAllButOrder s t
stands-then s m t one two = record {
  io = two.io ∙ one.io;
  come = λ n. two.come n ∙ one.come n;
  processes = two.processes ∙ ap (λ (processes : Processes). let next : Processes = record processes { order = t.processes.order } in next) one.processes;
}

stands-choice : (s t : State) → Choose s t → KeepsAllButOrder s t
stands-choice s t is = record {
  io = ap (λ (t : State). t.files.io) is;
  come = λ n. ap (λ (t : State). keys_to_come t n) is;
  processes = by_choice t is;
}
  where
    by_choice : (t : State) → Choose s t → t.processes ≡ record s.processes { order = t.processes.order }
    by_choice t is = ap (λ (t : State). t.processes) is
        ∙ ap (λ (order : List Turn). let next : Processes = record s.processes { order = order } in next) (sym (ap (λ (t : State). t.processes.order) is))

follow-from : (s m : State) (steps : List KeyStep) (t : State) → KeepsAllButOrder s m → KeyStepsFollow m steps t → KeyStepsFollow s steps t
follow-from s m [] t stands linked = stands-then s m t stands linked
follow-from s m (it ∷ steps) t stands linked = (stands-then s m it.before stands linked.0, linked.1)

-- ---- what passes, by its parts

passes : (n : ℕ) (s : State) (states : List State) (t : State) (steps : List KeyStep)
    → filter_map (λ (it : KeyStep). after_event it.move it.after) steps ≡ states → KeyStepsFollow s steps t
    → AllByRecursion (IsKeyStep n) steps → keys_to_come s n ≡ flat_map (λ (it : KeyStep). arrived_by it.move) steps ++
    keys_to_come t n → Flows (ahead_moves n steps) (ahead_at s n) (ahead_at t n) → KeysPass n s states t
passes n s states t steps are linked each come flow = record {
  steps = steps;
  through = are;
  linked = linked;
  each = each;
  come = come;
  flow = flow;
  in_order = flows-in_order (ahead_moves n steps) (ahead_at s n) (ahead_at t n) flow;
}

-- the keys pass, and the terminal is there at the end
abbrev Keeps : ℕ → State → List State → State → Type 0
Keeps n s states t = KeysPass n s states t × HasAhead n t

keeps-none : (n : ℕ) (s : State) → HasAhead n s → Keeps n s [] s
keeps-none n s has = (passes n s [] s [] refl (stands-same s) tt refl refl, has)

-- a state with the same keys
keeps-from : (n : ℕ) (s m : State) (states : List State) (t : State) → KeepsAllButOrder s m → Keeps n m states t → Keeps n s states t
keeps-from n s m states t stands (it, has) = (
  passes n s states t it.steps it.through (follow-from s m it.steps t stands it.linked) it.each (sym (stands.come n) ∙ it.come)
      (subst (λ (held : List ℕ). Flows (ahead_moves n it.steps) held (ahead_at t n)) (ap (λ (io : Io). (terminal_at io n).ahead) stands.io) it.flow),
  has,
)

keeps-tick : (n : ℕ) (s m : State) (states : List State) (t : State) (keys : List Key) → Tick s m → KeysArrive n s keys m → Keeps n m states t → Keeps n s states t
keeps-tick n s m states t keys ticks arrives (it, has) = (
  passes n s states t (record { before = s; move = arrive keys; after = m } ∷ it.steps) it.through (stands-same s, it.linked) (inl (keys, refl, ticks, arrives), it.each)
      (arrives.come ∙ ap (λ (rest : List Key). keys ++ rest) it.come ∙ sym
      (append_assoc keys (flat_map (λ (it : KeyStep). arrived_by it.move) it.steps) (keys_to_come t n)))
      (ahead_at m n, arrives.kept, it.flow),
  has,
)

keeps-event : (n : ℕ) (s m : State) (states : List State) (t : State) (end : EventEnd) (move : KeyMove) → Event s end m → EventKeys n s end move m → Keeps n m states t → Keeps n s (m ∷ states) t
keeps-event n s m states t end (arrive keys) event moved (it, has) = absurd moved
keeps-event n s m states t end (use_up keys) event uses (it, has) = (
  passes n s (m ∷ states) t (record { before = s; move = use_up keys; after = m } ∷ it.steps) (ap (λ (states : List State). m ∷ states) it.through) (stands-same s, it.linked)
      (inr (end, event, uses), it.each) (sym uses.come ∙ it.come) (ahead_at m n, uses.front, it.flow),
  has,
)
keeps-event n s m states t end stay event stays (it, has) = (
  passes n s (m ∷ states) t (record { before = s; move = stay; after = m } ∷ it.steps) (ap (λ (states : List State). m ∷ states) it.through) (stands-same s, it.linked)
      (inr (end, event, stays), it.each) (sym stays.come ∙ it.come)
      (subst (λ (held : List ℕ). Flows (ahead_moves n it.steps) held (ahead_at t n)) stays.ahead it.flow),
  has,
)

-- ---- slices and runs

stands-emptied : (m : State) → KeepsAllButOrder m (record m { terms = terminals_emptied m.terms })
stands-emptied m = record { io = refl; come = λ n. come-emptied m.terms n; processes = refl }

-- a state with the same input and output
has-same : (n : ℕ) (s m : State) → m.files.io ≡ s.files.io → HasAhead n s → HasAhead n m
has-same n s m same has = record {
  within = subst (λ (io : Io). n < length io.terminals) (sym same) has.within;
  few = subst (λ (io : Io). length (terminal_at io n).ahead ≤ TYPE_AHEAD) (sym same) has.few;
}

module _ (n : ℕ) where
  abbrev Passes : State → List State → State → Type 0
  Passes s states t = HasAhead n s → Keeps n s states t

  -- a state that stands as the one before it
  passes-on : (s m t : State) (states : List State) → KeepsAllButOrder s m → Passes m states t → Passes s states t
  passes-on s m t states stands rest has =
      keeps-from n s m states t stands (rest (has-same n s m stands.io has))

  passes-tick : (s m t : State) (states : List State) → Tick s m → Passes m states t → Passes s states t
  passes-tick s m t states ticks rest has =
      let first = tick-keys s m n ticks has in keeps-tick n s m states t first.0 ticks first.1 (rest first.2)

  passes-event : (s m t : State) (end : EventEnd) (states : List State) → Event s end m → Passes m states t → Passes s (m ∷ states) t
  passes-event s m t end states event rest has =
      let first = event-keys s m end n event has in keeps-event n s m states t end first.0 event first.1 (rest first.2)

  carried : IsCarriedByMoves Passes
  carried = record {
    events = record { none = keeps-none n; event = passes-event };
    tick = passes-tick;
    choice = λ s m t states chooses. passes-on s m t states (stands-choice s m chooses);
    emptied = λ m t states. passes-on m (record m { terms = terminals_emptied m.terms }) t states (stands-emptied m);
  }

pub slice-keys : (size : ℕ) (s t : State) (states : List State) (end : SliceEnd) (n : ℕ) → Slice size s states end t → HasAhead n s → KeysPass n s states t × HasAhead n t
slice-keys size s t states end n = along-slice (Passes n) (carried n) size s t states end

pub run-keys : (slices written : List ℕ) (s t : State) (states : List State) (n : ℕ) → Run slices s states written t → HasAhead n s → KeysPass n s states t × HasAhead n t
run-keys slices written s t states n = along-run (Passes n) (carried n) slices written s t states

-- ---- the start

-- the kernel has four terminals, and no key has arrived
pub start-ahead : (boot : Boot) (s : State) (n : ℕ) → Starts boot s → n < 4 → HasAhead n s × (ahead_at s n ≡ [])
start-ahead boot s n starts within =
    let same : terminal_at s.files.io n ≡ new_terminal = ap (λ (io : Io). terminal_at io n) first ∙ none in (
      record {
        within = subst (λ (io : Io). n < length io.terminals) (sym first) within;
        few = subst (λ (t : Terminal). length t.ahead ≤ TYPE_AHEAD) (sym same) (omega arith);
      },
      ap (λ (t : Terminal). t.ahead) same,
    )
  where
    none : terminal_at first_io n ≡ new_terminal
    none = get_or-replicate 4 n new_terminal new_terminal within

    first : s.files.io ≡ first_io
    first = ap (λ (s : State). s.files.io) starts.is ∙ ap (λ (files : Files). files.io) starts.mounted.is
