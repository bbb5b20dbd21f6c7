-- A poll in which no key went into the type-ahead.
use Rattle.std.proofs.Common.{◌≡◌, ℕ, zero, suc, ◌||◌, Bool, true, false, Result, Ok, List, [], ◌∷◌, ◌++◌, length, take, refl, sym, ap, ◌∙◌, arith}
use Rattle.std.proofs.lemmas.Bool.{false≢true}
use Rattle.std.proofs.lemmas.List.{set-get_or}
use Rattle.os9_base.specs.declared.call.OutOfMemory.{OutOfMemory}
use Rattle.os9_outer.specs.TerminalState.{TerminalState, ChangesOneTerminal}
use Rattle.io_model.specs.Terminal.{Arrives, Terminal, key_bytes, new_terminal, typed_bytes}
use Rattle.io_model.specs.declared.terminal.Arrival.{Arrival}
use Rattle.io_model.specs.declared.terminal.TheConstants.{TYPE_AHEAD}
use Rattle.io_model.specs.Io.{Io, terminal_at, with_terminal}
use Rattle.proc_state.specs.declared.state.ProcState.{ProcState}

empty : (keys : List ℕ) → length keys ≡ 0 → keys ≡ []
empty [] none = refl
empty (key ∷ keys) none = absurd (omega (arith, none))

-- as many keys as before are the keys from before
ahead-same : (n : ℕ) (ahead more : List ℕ) → length (take n (ahead ++ more)) ≡ length ahead → take n (ahead ++ more) ≡ ahead
ahead-same n [] more same = empty (take n more) same
ahead-same zero (key ∷ ahead) more same = absurd (omega (arith, same))
ahead-same (suc n) (key ∷ ahead) more same =
    ap (λ (keys : List ℕ). key ∷ keys) (ahead-same n ahead more (omega (arith, same)))

-- input and output are as before then
pub quiet-io : (tick n : ℕ) (old new : Io) (terms after : List TerminalState) (answer : Arrival)
    → ChangesOneTerminal (λ before now. Arrives tick (terminal_at old n) (terminal_at new n) before now answer) n terms after
    → new ≡ with_terminal old n (terminal_at new n)
    → length (terminal_at new n).ahead ≡ length (terminal_at old n).ahead → new ≡ old
quiet-io tick n old new terms after answer device is same =
    let (before, now, there, put, arrives) = device in
    let was : Terminal = terminal_at old n in
    let more : List ℕ = typed_bytes (key_bytes arrives.taken) in
    let long : length (take TYPE_AHEAD (was.ahead ++ more)) ≡ length was.ahead = ap (λ (t : Terminal). length t.ahead) (sym arrives.kept) ∙ same in
    let kept : terminal_at new n ≡ was = arrives.kept ∙ ap (λ (ahead : List ℕ). record was { ahead = ahead }) (ahead-same TYPE_AHEAD was.ahead more long) in
    is ∙ ap (with_terminal old n) kept ∙ ap (λ (terminals : List Terminal). record old { terminals = terminals }) (set-get_or old.terminals n new_terminal)

abbrev pub answer : Bool → Result Bool OutOfMemory
answer changed = Ok changed

pub same-ok : (changed : Bool) → answer changed ≡ Ok false → changed ≡ false
same-ok changed is = cc

-- nothing changed at the terminals so far, nor at one more
pub either-quiet : (before here : Bool) (s between new : ProcState) (io now last : Io)
    → (before ≡ false → (between ≡ s) × (now ≡ io))
    → (answer here ≡ Ok false → (new ≡ between) × (last ≡ now)) → (before || here) ≡ false
    → (new ≡ s) × (last ≡ io)
either-quiet true here s between new io now last first one is = absurd (false≢true (sym is))
either-quiet false true s between new io now last first one is = absurd (false≢true (sym is))
either-quiet false false s between new io now last first one is =
    ((one refl).0 ∙ (first refl).0, (one refl).1 ∙ (first refl).1)
