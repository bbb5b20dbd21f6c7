-- The keys of terminals that arrive one after another.
use Rattle.std.proofs.Common.{◌≡◌, ◌∙◌, ◌+◌, ℕ, zero, suc, List, length, map, refl, sym, subst, arith}
use Rattle.std.proofs.lemmas.List.{length-map}
use Rattle.os9_outer.specs.TerminalState.{TerminalState}
use Rattle.io_model.specs.Arrivals.{ArrivesAt, ArrivesFrom, Desk}
use Rattle.io_model.specs.Io.{Io}
use Rattle.device_io.specs.Keys.{AllKeysArrive, KeysArriveAt, KeysBreak, KeysBreakAt, PollBreaks, desk}
use Rattle.proc_state.specs.declared.state.ProcState.{ProcState}
use Rattle.proc_model.specs.Processes.{Processes}
use Rattle.proc_state.specs.Tie.{RepresentsProcesses}

-- the keys of `count` terminals from this one on arrived
abbrev pub KeysArriveFrom : ProcState → Io → List TerminalState → ProcState → Io → List TerminalState → ℕ → ℕ → Type 0
KeysArriveFrom s io terms new now after n count =
    (m : Processes) → RepresentsProcesses s m →
    (next : Processes) × ArrivesFrom s.tick n count (desk m io terms) (desk next now after) × RepresentsProcesses new next

-- no terminal is left
pub arrive-none : (s : ProcState) (io : Io) (terms : List TerminalState) (n count : ℕ) → count ≡ 0 → KeysArriveFrom s io terms s io terms n count
arrive-none s io terms n count none = λ m tied. (
  m,
  subst (λ (k : ℕ). ArrivesFrom s.tick n k (desk m io terms) (desk m io terms)) (sym none) refl,
  tied,
)

-- those of one terminal more
arrives-more : (tick n count : ℕ) (old mid new : Desk) → ArrivesFrom tick n count old mid
    → ArrivesAt tick (n + count) mid new → ArrivesFrom tick n (suc count) old new
arrives-more tick n zero old mid new none last =
    let at : n + 0 ≡ n = omega arith in
    (new, subst (λ (desk : Desk). ArrivesAt tick n desk new) none (subst (λ (k : ℕ). ArrivesAt tick k mid new) at last), refl)
arrives-more tick n (suc count) old mid new first last =
    let at : n + suc count ≡ n + 1 + count = omega arith in (
      first.0,
      first.1,
      arrives-more tick (n + 1) count first.0 mid new first.2 (subst (λ (k : ℕ). ArrivesAt tick k mid new) at last),
    )

module _ (s between new : ProcState) (io now last : Io) (terms states after : List TerminalState) (n : ℕ)
    (same : between.tick ≡ s.tick) (first : KeysArriveFrom s io terms between now states 0 n) where
  -- those of the next terminal arrive too
  pub arrive-more : KeysArriveAt between now states new last after n → KeysArriveFrom s io terms new last after 0 (n + 1)
  arrive-more here = λ m tied.
      let so_far = first m tied in
      let one = here so_far.0 so_far.2 in
      let more : suc n ≡ n + 1 = omega arith in
      let at : n ≡ 0 + n = omega arith in (
        one.0,
        subst (λ (k : ℕ). ArrivesFrom s.tick 0 k (desk m io terms) (desk one.0 last after)) more
            (arrives-more s.tick 0 n (desk m io terms) (desk so_far.0 now states) (desk one.0 last after) so_far.1
            (subst (λ (k : ℕ). ArrivesAt s.tick k (desk so_far.0 now states) (desk one.0 last after)) at
            (subst (λ (tick : ℕ). ArrivesAt tick n (desk so_far.0 now states) (desk one.0 last after)) same one.2))),
        one.1,
      )

  -- or the poll of the next terminal breaks off
  pub break-more : KeysBreakAt between now states new last after n → KeysBreak s io terms new last after
  break-more here = λ m tied.
      let so_far = first m tied in
      let one = here so_far.0 so_far.2 in (
        n,
        desk so_far.0 now states,
        so_far.1,
        one.0,
        subst (λ (tick : ℕ). PollBreaks tick n (desk so_far.0 now states) last after) same one.1,
      )

-- all of them
pub arrive-all : {Driver : Type 0} (screen : Driver → TerminalState) (drivers : List Driver) (s new : ProcState)
    (io now : Io) (after : List TerminalState) (count : ℕ) → count ≡ length drivers → KeysArriveFrom s io
    (map screen drivers) new now after 0 count → AllKeysArrive s io (map screen drivers) new now after
arrive-all screen drivers s new io now after count all arrive = λ m tied.
    let done = arrive m tied in (
      done.0,
      subst (λ (k : ℕ). ArrivesFrom s.tick 0 k (desk m io (map screen drivers)) (desk done.0 now after)) (all ∙ sym (length-map drivers screen)) done.1,
      done.2,
    )
