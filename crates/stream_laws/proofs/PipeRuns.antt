-- What goes through a pipe in a slice, and in a run.
use Rattle.std.proofs.Common.{◌≡◌, ℕ, ◌+◌, Option, Some, None, List, [], ◌∷◌, ◌++◌, length, map, refl, sym, ap, ◌∙◌, subst}
use Rattle.std.specs.List.{AllByRecursion}
use Rattle.std.proofs.lemmas.List.Elements.{filter_map-append}
use Rattle.proc_model.specs.Processes.{regs_at}
use Rattle.io_model.specs.Pipe.{Flows, IsPipe, In, Movement, Out, held_bytes}
use Rattle.io_model.proofs.PipeLemmas.{flows-in_order}
use Rattle.io_model.specs.Io.{pipe_bytes}
use Rattle.machine_model.specs.declared.ends.EventEnd.{EventEnd}
use Rattle.machine_model.specs.declared.ends.SliceEnd.{SliceEnd}
use Rattle.machine_model.specs.Console.{terminals_emptied}
use Rattle.stream_laws.proofs.PipeArrivals.{DeskRests, arrivals-rest}
use Rattle.machine_model.proofs.Induction.{IsCarriedByMoves, IsCarriedByEvents, along-first, along-part, along-run, along-slice, along-steps}
use Rattle.machine_model.specs.Event.{Event}
use Rattle.machine_model.specs.Run.{BeginsSlice, Choose, FirstSteps, Run, Slice, SliceEvents, Tick, desk_of}
use Rattle.machine_model.specs.State.{State}
use Rattle.stream_laws.specs.Flow.{AllLive, IsPassing, Linked, Passes, Passing, PassesThrough, KeepsStreams, moved_by}
use Rattle.stream_laws.proofs.PipeEvents.{event-passes}

-- ---- what stays from one event to the next

rests-same : (s : State) → KeepsStreams s s
rests-same s = record { pipes = refl; paths = refl; calls = refl; memory = refl; regs = λ p. refl }

rests-then : (s m t : State) → KeepsStreams s m → KeepsStreams m t → KeepsStreams s t
rests-then s m t one two = record {
  pipes = two.pipes ∙ one.pipes;
  paths = two.paths ∙ one.paths;
  calls = two.calls ∙ one.calls;
  memory = two.memory ∙ one.memory;
  regs = λ p. two.regs p ∙ one.regs p;
}

linked-from : (s m : State) (events : List Passing) (t : State) → KeepsStreams s m → Linked m events t → Linked s events t
linked-from s m [] t rests linked = rests-then s m t rests linked
linked-from s m (it ∷ events) t rests linked = (rests-then s m it.before rests linked.0, linked.1)

linked-then : (s : State) (first later : List Passing) (m t : State) → Linked s first m → Linked m later t → Linked s (first ++ later) t
linked-then s [] later m t one two = linked-from s m later t one two
linked-then s (it ∷ first) later m t one two = (one.0, linked-then it.after first later m t one.1 two)

rests-tick : (s t : State) → Tick s t → KeepsStreams s t
rests-tick s t (desk, arrives, is) =
    let it : DeskRests (desk_of s) desk = arrivals-rest (s.processes.tick + 1) 0 (length s.terms) (desk_of s) desk arrives in
    record {
      pipes = ap (λ (t : State). t.files.io.pipes) is ∙ it.pipes;
      paths = ap (λ (t : State). t.files.io.paths) is ∙ it.paths;
      calls = ap (λ (t : State). t.files.io.calls) is ∙ it.calls;
      memory = ap (λ (t : State). t.processes.memory) is ∙ it.memory;
      regs = λ p. ap (λ (t : State). regs_at t.processes p) is ∙ it.regs p;
    }

rests-choice : (s t : State) → Choose s t → KeepsStreams s t
rests-choice s t is = record {
  pipes = ap (λ (t : State). t.files.io.pipes) is;
  paths = ap (λ (t : State). t.files.io.paths) is;
  calls = ap (λ (t : State). t.files.io.calls) is;
  memory = ap (λ (t : State). t.processes.memory) is;
  regs = λ p. ap (λ (t : State). regs_at t.processes p) is;
}

-- ---- what passes, by its parts

-- what passes in order is in order
through : (n : ℕ) (s : State) (states : List State) (t : State) (events : List Passing)
    → map (λ (it : Passing). it.after) events ≡ states → Linked s events t → AllByRecursion (IsPassing n) events
    → Flows (moved_by events) (pipe_bytes s.files.io n) (pipe_bytes t.files.io n) → PassesThrough n s states t
through n s states t events are linked each flow = record {
  events = events;
  through = are;
  linked = linked;
  each = each;
  flow = flow;
  in_order = flows-in_order (moved_by events) (pipe_bytes s.files.io n) (pipe_bytes t.files.io n) flow;
}

held-rests : (n : ℕ) (s m : State) → KeepsStreams s m → pipe_bytes m.files.io n ≡ pipe_bytes s.files.io n
held-rests n s m rests = ap (λ (pipes : List (Option (List ℕ))). held_bytes pipes n) rests.pipes

lives-rests : (n : ℕ) (s m : State) → KeepsStreams s m → IsPipe s.files.io.pipes n → IsPipe m.files.io.pipes n
lives-rests n s m rests lives = subst (λ (pipes : List (Option (List ℕ))). IsPipe pipes n) (sym rests.pipes) lives

-- the pipe is as it was
pass-none : (n : ℕ) (s t : State) → KeepsStreams s t → PassesThrough n s [] t
pass-none n s t rests = through n s [] t [] refl rests tt (held-rests n s t rests)

pass-from : (n : ℕ) (s m : State) (states : List State) (t : State) → KeepsStreams s m → PassesThrough n m states t → PassesThrough n s states t
pass-from n s m states t rests it =
    through n s states t it.events it.through (linked-from s m it.events t rests it.linked) it.each
    (subst (λ (held : List ℕ). Flows (moved_by it.events) held (pipe_bytes t.files.io n)) (held-rests n s m rests)
    it.flow)

-- an event, and then others
pass-event : (n : ℕ) (s m : State) (end : EventEnd) (states : List State) (t : State) → Event s end m → Passes n s m → PassesThrough n m states t → PassesThrough n s (m ∷ states) t
pass-event n s m end states t event (None, same) rest =
    through n s (m ∷ states) t (record { before = s; moved = None; after = m } ∷ rest.events) (ap (λ (states : List State). m ∷ states) rest.through)
    (rests-same s, rest.linked) ((end, event, same), rest.each) (subst (λ (held : List ℕ). Flows (moved_by rest.events) held (pipe_bytes t.files.io n)) same.held rest.flow)
pass-event n s m end states t event (Some (In bytes), puts) rest =
    through n s (m ∷ states) t (record { before = s; moved = Some (In bytes); after = m } ∷ rest.events) (ap (λ (states : List State). m ∷ states) rest.through)
    (rests-same s, rest.linked) ((end, event, puts), rest.each) (pipe_bytes m.files.io n, puts.behind, rest.flow)
pass-event n s m end states t event (Some (Out bytes), takes) rest =
    through n s (m ∷ states) t (record { before = s; moved = Some (Out bytes); after = m } ∷ rest.events) (ap (λ (states : List State). m ∷ states) rest.through)
    (rests-same s, rest.linked) ((end, event, takes), rest.each) (pipe_bytes m.files.io n, takes.front, rest.flow)

-- what passes in one part of a run, and then in another
flows-then : (first later : List Movement) (held between now : List ℕ) → Flows first held between → Flows later between now → Flows (first ++ later) held now
flows-then [] later held between now one two =
    subst (λ (held : List ℕ). Flows later held now) one two
flows-then (movement ∷ first) later held between now (middle, moves, one) two =
    (middle, moves, flows-then first later middle between now one two)

all-then : (n : ℕ) (first later : List Passing) → AllByRecursion (IsPassing n) first → AllByRecursion (IsPassing n) later → AllByRecursion (IsPassing n) (first ++ later)
all-then n [] later one two = two
all-then n (it ∷ first) later one two = (one.0, all-then n first later one.1 two)

after-then : (first later : List Passing) → map (λ (it : Passing). it.after) (first ++ later) ≡ map (λ (it : Passing). it.after) first ++ map (λ (it : Passing). it.after) later
after-then [] later = refl
after-then (it ∷ first) later = ap (λ (states : List State). it.after ∷ states) (after-then first later)

pub pass-then : (n : ℕ) (s m t : State) (first later : List State) → PassesThrough n s first m → PassesThrough n m later t → PassesThrough n s (first ++ later) t
pass-then n s m t first later one two =
    through n s (first ++ later) t (one.events ++ two.events) (after-then one.events two.events ∙
    (λ i. one.through i ++ two.through i)) (linked-then s one.events two.events m t one.linked two.linked)
    (all-then n one.events two.events one.each two.each)
    (subst (λ (moves : List Movement). Flows moves (pipe_bytes s.files.io n) (pipe_bytes t.files.io n))
    (sym (filter_map-append (λ (it : Passing). it.moved) one.events two.events)) (flows-then (moved_by one.events)
    (moved_by two.events) (pipe_bytes s.files.io n) (pipe_bytes m.files.io n) (pipe_bytes t.files.io n) one.flow
    two.flow))

-- ---- slices and runs

module _ (n : ℕ) where
  abbrev Goes : State → List State → State → Type 0
  Goes s states t = IsPipe s.files.io.pipes n → AllLive n states → PassesThrough n s states t

  -- a state with the same pipes
  goes-on : (s m t : State) (states : List State) → KeepsStreams s m → Goes m states t → Goes s states t
  goes-on s m t states rests rest lives all =
      pass-from n s m states t rests (rest (lives-rests n s m rests lives) all)

  goes-event : (s m t : State) (end : EventEnd) (states : List State) → Event s end m → Goes m states t → Goes s (m ∷ states) t
  goes-event s m t end states event rest lives all =
      pass-event n s m end states t event (event-passes s m end n event lives all.0) (rest all.0 all.1)

  carried-events : IsCarriedByEvents Goes
  carried-events = record { none = λ s lives all. pass-none n s s (rests-same s); event = goes-event }

  carried : IsCarriedByMoves Goes
  carried = record {
    events = carried-events;
    tick = λ s m t states ticks. goes-on s m t states (rests-tick s m ticks);
    choice = λ s m t states chooses. goes-on s m t states (rests-choice s m chooses);
    emptied =
        λ m t states. goes-on m (record m { terms = terminals_emptied m.terms }) t states (record { pipes = refl; paths = refl; calls = refl; memory = refl; regs = λ p. refl });
  }

-- the events of a slice from one of its states on
pub steps-passes : (left : ℕ) (s t : State) (states : List State) (n : ℕ) → SliceEvents left s states t → IsPipe s.files.io.pipes n → AllLive n states → PassesThrough n s states t
steps-passes left s t states n = along-steps (Goes n) (carried-events n) left s t states

-- the first events of a slice that is not over
pub first-passes : (left : ℕ) (s t : State) (states : List State) (n : ℕ) → FirstSteps left s states t → IsPipe s.files.io.pipes n → AllLive n states → PassesThrough n s states t
first-passes left s t states n = along-first (Goes n) (carried-events n) left s t states

pub begun-passes : (size : ℕ) (s t : State) (states : List State) (n : ℕ) → BeginsSlice size s states t → IsPipe s.files.io.pipes n → AllLive n states → PassesThrough n s states t
begun-passes size s t states n = along-part (Goes n) (carried n) size s t states

pub slice-passes : (size : ℕ) (s t : State) (states : List State) (end : SliceEnd) (n : ℕ) → Slice size s states end t → IsPipe s.files.io.pipes n → AllLive n states → PassesThrough n s states t
slice-passes size s t states end n = along-slice (Goes n) (carried n) size s t states end

pub run-passes : (slices written : List ℕ) (s t : State) (states : List State) (n : ℕ) → Run slices s states written t → IsPipe s.files.io.pipes n → AllLive n states → PassesThrough n s states t
run-passes slices written s t states n = along-run (Goes n) (carried n) slices written s t states
