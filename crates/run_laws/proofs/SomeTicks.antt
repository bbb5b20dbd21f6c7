-- Each state has a tick in which no terminal fails.
use Rattle.std.proofs.Common.{◌≡◌, ℕ, zero, suc, ◌+◌, ◌-◌, ◌≤◌, Bool, true, false, Some, None, List, [], ◌∷◌, ◌++◌, length, replicate, slice_set, take, refl, sym, ap, ◌∙◌, subst, arith}
use Rattle.std.specs.Prelude.{All, nat_le, if◌then◌else◌}
use Rattle.std.proofs.lemmas.Bool.{false≢true, leb-true}
use Rattle.std.proofs.lemmas.List.{length-set}
use Rattle.std.proofs.lemmas.List.Elements.{All-cons, All-nil}
use Rattle.os9_outer.specs.Stream.{stream_with}
use Rattle.os9_outer.specs.Terminal.{due_byte}
use Rattle.os9_outer.specs.TerminalState.{TerminalState, fault_counts}
use Rattle.os9_outer.specs.declared.terminal.Key.{Key}
use Rattle.io_model.specs.Terminal.{Terminal, Arrives, dropped_count, first_signal, key_bytes, typed_bytes}
use Rattle.io_model.specs.declared.keys.TheConstants.{BELL}
use Rattle.io_model.specs.declared.terminal.Arrival.{Arrival}
use Rattle.io_model.specs.declared.terminal.TheConstants.{TYPE_AHEAD}
use Rattle.io_model.specs.Arrivals.{ArrivesFrom, Desk, after_key_signal}
use Rattle.io_model.specs.Io.{terminal_at, with_terminal}
use Rattle.file_rules.specs.Files.{with_io}
use Rattle.machine_model.specs.Run.{Tick, desk_of}
use Rattle.machine_model.specs.State.{State}
use Rattle.run_laws.specs.Runs.{SameCounts}
use Rattle.run_laws.proofs.SomeEffects.{counts-set, some-terminal}

-- ---- keys arrive

-- the keys that are due, and those behind them
abbrev due_front : ℕ → List Key → List Key
due_front tick [] = []
due_front tick (key ∷ keys) = if nat_le key.tick tick then key ∷ due_front tick keys else []

abbrev due_rest : ℕ → List Key → List Key
due_rest tick [] = []
due_rest tick (key ∷ keys) = if nat_le key.tick tick then due_rest tick keys else key ∷ keys

record DueCut (tick : ℕ) (keys : List Key) : Type 0 where
  pub in_order : keys ≡ due_front tick keys ++ due_rest tick keys
  pub due : All (λ (key : Key). key.tick ≤ tick) (due_front tick keys)
  pub none : due_byte (due_rest tick keys) tick ≡ None

due-cut : (tick : ℕ) (keys : List Key) → DueCut tick keys
due-cut tick [] = record { in_order = refl; due = All-nil (λ (key : Key). key.tick ≤ tick); none = refl }
due-cut tick (key ∷ keys) = by_test (nat_le key.tick tick) refl (due-cut tick keys)
  where
    by_test : (test : Bool) → nat_le key.tick tick ≡ test → DueCut tick keys → DueCut tick (key ∷ keys)
    by_test true is rest = record {
      in_order =
          ap (λ (keys : List Key). key ∷ keys) rest.in_order ∙ (λ i. (if sym is i then key ∷ due_front tick keys else []) ++ (if sym is i then due_rest tick keys else key ∷ keys));
      due =
          subst (λ (test : Bool). All (λ (key : Key). key.tick ≤ tick) (if test then key ∷ due_front tick keys else
          [])) (sym is) (All-cons (λ (key : Key). key.tick ≤ tick) key (due_front tick keys)
          (leb-true key.tick tick is) rest.due);
      none =
          subst (λ (test : Bool). due_byte (if test then due_rest tick keys else key ∷ keys) tick ≡ None) (sym is) rest.none;
    }
    by_test false is rest = record {
      in_order = λ i. (if sym is i then key ∷ due_front tick keys else []) ++ (if sym is i then due_rest tick keys else key ∷ keys);
      due =
          subst (λ (test : Bool). All (λ (key : Key). key.tick ≤ tick) (if test then key ∷ due_front tick keys else [])) (sym is) (All-nil (λ (key : Key). key.tick ≤ tick));
      none =
          subst (λ (test : Bool). due_byte (if test then due_rest tick keys else key ∷ keys) tick ≡ None) (sym is) (ap (λ (test : Bool). if test then Some key.byte else None) is);
    }

-- a poll that does not fail
module _ (tick : ℕ) (old : Terminal) (before : TerminalState) where
  abbrev polled : Terminal
  polled =
      record old { ahead = take TYPE_AHEAD (old.ahead ++ typed_bytes (key_bytes (due_front tick before.keys))) }

  abbrev poll_driver : TerminalState
  poll_driver = record before {
    keys =
        due_rest tick before.keys;
    put = stream_with before.put (replicate (dropped_count old.ahead (key_bytes (due_front tick before.keys))) BELL);
  }

  abbrev poll_answer : Arrival
  poll_answer = record { signal = first_signal (key_bytes (due_front tick before.keys)); memory = true }

  some-poll : Arrives tick old polled before poll_driver poll_answer
  some-poll =
      let cut : DueCut tick before.keys = due-cut tick before.keys in
      record {
        taken = due_front tick before.keys;
        bells = dropped_count old.ahead (key_bytes (due_front tick before.keys));
        mute = 0;
        broken = 0;
        once = omega arith;
        in_order = cut.in_order;
        due = cut.due;
        kept = refl;
        signal = refl;
        put = refl;
        faults = record { rose = omega arith; never_falls = omega arith; stood = λ none. refl };
        every_bell = λ memory. omega arith;
        last_bell = λ memory. absurd (false≢true (sym memory));
        all_taken = λ memory whole. cut.none;
        unbroken = λ memory. absurd cc;
      }

record SomeArrivals (tick n count : ℕ) (old : Desk) : Type 0 where
  pub new : Desk
  pub arrive : ArrivesFrom tick n count old new
  pub counts : fault_counts new.terms ≡ fault_counts old.terms

some-arrivals : (tick n count : ℕ) (old : Desk) → n + count ≤ length old.terms → SomeArrivals tick n count old
some-arrivals tick n zero old few = record { new = old; arrive = refl; counts = refl }
some-arrivals tick n (suc count) old few =
    let it = some-terminal old.terms n (omega arith) in
    let t = terminal_at old.io n in
    let between : Desk = record {
      processes = after_key_signal old.processes (polled tick t it.0).user (poll_answer tick t it.0).signal;
      io = with_terminal old.io n (polled tick t it.0);
      terms = slice_set old.terms n (poll_driver tick t it.0);
    } in
    let long : length between.terms ≡ length old.terms = simp length-set in
    let rest : SomeArrivals tick (n + 1) count between = some-arrivals tick (n + 1) count between (omega (arith, long, few)) in
    record {
      new = rest.new;
      arrive = (
        between,
        record {
          answer = poll_answer tick t it.0;
          terminal = polled tick t it.0;
          memory = refl;
          device = (it.0, poll_driver tick t it.0, it.1, refl, some-poll tick t it.0);
          io = refl;
          signal = refl;
        },
        rest.arrive,
      );
      counts = rest.counts ∙ counts-set old.terms n it.0 (poll_driver tick t it.0) it.1 refl;
    }

-- a tick, in which no terminal fails
pub record SomeTick (s : State) : Type 0 where
  pub last : State
  pub tick : Tick s last
  pub counts : SameCounts s last

pub some-tick : (s : State) → SomeTick s
some-tick s =
    let it : SomeArrivals (s.processes.tick + 1) 0 (length s.terms) (desk_of s) = some-arrivals (s.processes.tick + 1) 0 (length s.terms) (desk_of s) (omega arith) in
    record {
      last = record s { processes = it.new.processes; files = with_io s.files it.new.io; terms = it.new.terms };
      tick = (it.new, it.arrive, refl);
      counts = it.counts;
    }
