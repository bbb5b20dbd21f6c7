-- What keys that arrive in a tick make of a terminal.
use Rattle.std.proofs.Common.{◌≡◌, ◌≢◌, ◌⊎◌, ℕ, zero, suc, ◌+◌, ◌-◌, ◌<◌, ◌≤◌, Some, List, [], ◌∷◌, ◌++◌, length, slice_get, slice_set, take, refl, sym, ap, ◌∙◌, subst, inl, inr, arith, append-nil}
use Rattle.std.proofs.lemmas.Bool.{cases_eq}
use Rattle.std.proofs.lemmas.List.{get_or-set_same, get_or-set_other, length-set}
use Rattle.std.proofs.lemmas.Option.{none-some, same_Some}
use Rattle.std.proofs.Math.Seq.{take-append-add}
use Rattle.os9_outer.specs.TerminalState.{TerminalState}
use Rattle.os9_outer.specs.declared.terminal.Key.{Key}
use Rattle.io_model.specs.Terminal.{Terminal, key_bytes, new_terminal, typed_bytes}
use Rattle.io_model.specs.declared.terminal.TheConstants.{TYPE_AHEAD}
use Rattle.io_model.specs.Arrivals.{ArrivesAt, ArrivesFrom, Desk}
use Rattle.io_model.specs.Io.{Io, terminal_at}
use Rattle.machine_model.specs.Console.{terminals_emptied}
use Rattle.stream_laws.specs.Keys.{LineStays}
use Rattle.stream_laws.proofs.KeyAttempts.{come_of}

take-none : {A : Type 0} (k : ℕ) → take k (let none : List A = [] in none) ≡ []
take-none zero = refl
take-none (suc k) = refl

-- the keys of another terminal stay to come
come-other : (terms : List TerminalState) (m n : ℕ) (new : TerminalState) → n ≢ m → come_of (slice_set terms m new) n ≡ come_of terms n
come-other [] m n new apart = refl
come-other (x ∷ terms) zero zero new apart = absurd (apart refl)
come-other (x ∷ terms) zero (suc n) new apart = refl
come-other (x ∷ terms) (suc m) zero new apart = refl
come-other (x ∷ terms) (suc m) (suc n) new apart = come-other terms m n new (λ same. apart (ap suc same))

-- those of this one
come-found : (terms : List TerminalState) (n : ℕ) (old : TerminalState) → slice_get terms n ≡ Some old → come_of terms n ≡ old.keys
come-found [] n old is = absurd (none-some old is)
come-found (x ∷ terms) zero old is = ap (λ (t : TerminalState). t.keys) (same_Some x old is)
come-found (x ∷ terms) (suc n) old is = come-found terms n old is

come-put : (terms : List TerminalState) (n : ℕ) (old new : TerminalState) → slice_get terms n ≡ Some old → come_of (slice_set terms n new) n ≡ new.keys
come-put [] n old new is = absurd (none-some old is)
come-put (x ∷ terms) zero old new is = refl
come-put (x ∷ terms) (suc n) old new is = come-put terms n old new is

-- the host takes bytes, and no key
pub come-emptied : (terms : List TerminalState) (n : ℕ) → come_of (terminals_emptied terms) n ≡ come_of terms n
come-emptied [] n = refl
come-emptied (x ∷ terms) zero = refl
come-emptied (x ∷ terms) (suc n) = come-emptied terms n

-- what fits of keys that arrive
fits : (ahead typed : List ℕ) → length ahead ≤ TYPE_AHEAD → take TYPE_AHEAD (ahead ++ typed) ≡ ahead ++ take (TYPE_AHEAD - length ahead) typed
fits ahead typed few =
    ap (λ (k : ℕ). take k (ahead ++ typed)) (room (length ahead) few) ∙ take-append-add ahead typed (TYPE_AHEAD - length ahead)
  where
    room : (k : ℕ) → k ≤ TYPE_AHEAD → TYPE_AHEAD ≡ k + (TYPE_AHEAD - k)
    room k few = omega arith

module _ (n tick : ℕ) where
  -- another terminal is polled
  record Apart (old new : Desk) : Type 0 where
    pub terminal : terminal_at new.io n ≡ terminal_at old.io n
    pub come : come_of new.terms n ≡ come_of old.terms n
    pub places : length new.io.terminals ≡ length old.io.terminals

  poll-places : (m : ℕ) (old new : Desk) → ArrivesAt tick m old new → length new.io.terminals ≡ length old.io.terminals
  poll-places m old new here =
      ap (λ (io : Io). length io.terminals) here.io ∙ length-set old.io.terminals m here.terminal

  poll-apart : (m : ℕ) (old new : Desk) → n ≢ m → ArrivesAt tick m old new → Apart old new
  poll-apart m old new apart here = record {
    terminal =
        ap (λ (io : Io). terminal_at io n) here.io ∙ get_or-set_other old.io.terminals m n here.terminal new_terminal apart;
    come =
        ap (λ (terms : List TerminalState). come_of terms n) here.device.3 ∙ come-other old.terms m n here.device.1 apart;
    places = poll-places m old new here;
  }

  later-apart : (m count : ℕ) (old new : Desk) → n < m → ArrivesFrom tick m count old new → Apart old new
  later-apart m zero old new less is = record {
    terminal = ap (λ (desk : Desk). terminal_at desk.io n) is;
    come = ap (λ (desk : Desk). come_of desk.terms n) is;
    places = ap (λ (desk : Desk). length desk.io.terminals) is;
  }
  later-apart m (suc count) old new less (between, here, later) =
      let first : Apart old between = poll-apart m old between (λ same. absurd (differs same)) here in
      let rest : Apart between new = later-apart (m + 1) count between new (omega arith) later in
      record {
        terminal = rest.terminal ∙ first.terminal;
        come = rest.come ∙ first.come;
        places = rest.places ∙ first.places;
      }
    where
      differs : n ≡ m → ⊥
      differs same = omega arith

  -- what arrives at this one
  pub record Polled (old new : Desk) : Type 0 where
    pub keys : List Key
    pub come : come_of old.terms n ≡ keys ++ come_of new.terms n
    pub line : LineStays (terminal_at old.io n) (terminal_at new.io n)
    pub ahead : (terminal_at new.io n).ahead ≡ (terminal_at old.io n).ahead ++ take (TYPE_AHEAD - length (terminal_at old.io n).ahead) (typed_bytes (key_bytes keys))
    pub places : length new.io.terminals ≡ length old.io.terminals

  poll-here : (old new : Desk) → n < length old.io.terminals → length (terminal_at old.io n).ahead ≤ TYPE_AHEAD → ArrivesAt tick n old new → Polled old new
  poll-here old new within few here =
      let it = here.device.4 in
      let at : terminal_at new.io n ≡ here.terminal = ap (λ (io : Io). terminal_at io n) here.io ∙ get_or-set_same old.io.terminals n here.terminal new_terminal within in
      record {
        keys = it.taken;
        come =
            come-found old.terms n here.device.0 here.device.2 ∙ it.in_order ∙ ap (λ (keys : List Key). it.taken ++
            keys) (sym (ap (λ (terms : List TerminalState). come_of terms n) here.device.3 ∙ come-put old.terms n
            here.device.0 here.device.1 here.device.2));
        line = record {
          line = ap (λ (t : Terminal). t.line) (at ∙ it.kept);
          reading = ap (λ (t : Terminal). t.reading) (at ∙ it.kept);
        };
        ahead =
            ap (λ (t : Terminal). t.ahead) (at ∙ it.kept) ∙ fits (terminal_at old.io n).ahead (typed_bytes (key_bytes it.taken)) few;
        places = poll-places n old new here;
      }

  pub arrivals-polled : (m count : ℕ) (old new : Desk) → n < length old.io.terminals → length (terminal_at old.io n).ahead ≤ TYPE_AHEAD → ArrivesFrom tick m count old new → Polled old new
  arrivals-polled m zero old new within few is = record {
    keys = [];
    come = ap (λ (desk : Desk). come_of desk.terms n) (sym is);
    line = record {
      line = ap (λ (desk : Desk). (terminal_at desk.io n).line) is;
      reading = ap (λ (desk : Desk). (terminal_at desk.io n).reading) is;
    };
    ahead =
        ap (λ (desk : Desk). (terminal_at desk.io n).ahead) is ∙ sym (append-nil (terminal_at old.io n).ahead) ∙ ap
        (λ (none : List ℕ). (terminal_at old.io n).ahead ++ none)
        (sym (take-none (TYPE_AHEAD - length (terminal_at old.io n).ahead)));
    places = ap (λ (desk : Desk). length desk.io.terminals) is;
  }
  arrivals-polled m (suc count) old new within few (between, here, later) =
      by_place (cases_eq n m) (λ within few. arrivals-polled (m + 1) count between new within few later)
    where
      by_place : (n ≡ m) ⊎ (n ≢ m) → (n < length between.io.terminals → length (terminal_at between.io n).ahead ≤ TYPE_AHEAD → Polled between new) → Polled old new
      by_place (inl same) others =
          let first : Polled old between = poll-here old between within few (subst (λ (m : ℕ). ArrivesAt tick m old between) (sym same) here) in
          let rest : Apart between new = later-apart (m + 1) count between new (omega (arith, same)) later in
          record {
            keys = first.keys;
            come = first.come ∙ ap (λ (keys : List Key). first.keys ++ keys) (sym rest.come);
            line = record {
              line = ap (λ (t : Terminal). t.line) rest.terminal ∙ first.line.line;
              reading = ap (λ (t : Terminal). t.reading) rest.terminal ∙ first.line.reading;
            };
            ahead = ap (λ (t : Terminal). t.ahead) rest.terminal ∙ first.ahead;
            places = rest.places ∙ first.places;
          }
      by_place (inr apart) others =
          let first : Apart old between = poll-apart m old between apart here in
          let same : (terminal_at between.io n).ahead ≡ (terminal_at old.io n).ahead = ap (λ (t : Terminal). t.ahead) first.terminal in
          let rest : Polled between new = others (subst (λ (k : ℕ). n < k) (sym first.places) within) (subst (λ (ahead : List ℕ). length ahead ≤ TYPE_AHEAD) (sym same) few) in
          record {
            keys = rest.keys;
            come = sym first.come ∙ rest.come;
            line = record {
              line = rest.line.line ∙ ap (λ (t : Terminal). t.line) first.terminal;
              reading = rest.line.reading ∙ ap (λ (t : Terminal). t.reading) first.terminal;
            };
            ahead =
                rest.ahead ∙ ap (λ (ahead : List ℕ). ahead ++ take (TYPE_AHEAD - length ahead) (typed_bytes (key_bytes rest.keys))) same;
            places = rest.places ∙ first.places;
          }
