use Rattle.std.proofs.Common.{◌≡◌, ◌∷◌, [], List, Some, None, ℕ, ap, arith, refl, sym, subst}
use Rattle.std.proofs.lemmas.List.{drop_all}
use Rattle.console_run.specs.Keyboard.{KeyboardState, TakesLines, keyboard_state}
use Rattle.console_run.specs.Shown.{shown_length}
use Rattle.console_run.specs.Turn.{console_state, rest_of}
use Rattle.console_run.proofs.AskLemmas.{asks-line, asks-none, loses-line, loses-none}
use Rattle.console_run.proofs.LineLemmas.{fails-to-give, takes-line}
use Rattle.console_run.proofs.PartLemmas.{rest-some}
use Rattle.console_run.proofs.asking.ask_line.Goals as goal

pub returns-then-console-len : goal.returns-then-console-len
returns-then-console-len g c =
    let console = c.args.console.now in
    (None, asks-none _ (console_state g.K.Keyboard console) (rest-some console.line.items console.place (omega (arith, c.if-console-len.true, c.len.ensures, console.line.ok.0))))

pub returns-in-Ok : goal.returns-in-Ok
returns-in-Ok g c =
    let console = c.args.console.now in
    let none : rest_of console ≡ [] = drop_all console.place console.line.items (omega (arith, c.if-console-len.false, c.len.ensures, console.line.ok.0)) in
    let out = g.H.Host.bytes_out c.args.host.now in
    let old = console_state g.K.Keyboard console in
    let new = console_state g.K.Keyboard c.take_line.new.console in
    let line : List ℕ = c.in-Ok-Some.line.items in
    let first = rw c.in-Ok-Some.field-0-is at c.in-Ok-Some.ensures.first in
    let taken = takes-line line (shown_length out) old.keyboard (keyboard_state g.K.Keyboard c.line.new.self) first
    c.in-Ok-Some.ensures.rest c.in-Ok-Some.ensures.shown (rw c.in-Ok-Some.field-0-is at c.in-Ok-Some.ensures.over) c.in-Ok-Some.ensures.none_failed in
    let same = ap (λ keyboard. keyboard_state g.K.Keyboard keyboard) c.take_line.ensures.keyboard_kept in (
      Some line,
      asks-line out line old new none c.in-Ok.ensures.rest
          (subst (λ (to : KeyboardState). TakesLines (line ∷ []) (shown_length out ∷ []) old.keyboard to) (sym same)
          taken) c.take_line.ensures.typed_kept,
    )

pub returns-in-Err-take_line : goal.returns-in-Err-take_line
returns-in-Err-take_line g c =
    let console = c.args.console.now in
    let none : rest_of console ≡ [] = drop_all console.place console.line.items (omega (arith, c.if-console-len.false, c.len.ensures, console.line.ok.0)) in
    let out = g.H.Host.bytes_out c.args.host.now in
    let old = console_state g.K.Keyboard console in
    let new = console_state g.K.Keyboard c.take_line.new.console in
    let line : List ℕ = c.in-Ok-Some.line.items in
    let first = rw c.in-Ok-Some.field-0-is at c.in-Ok-Some.ensures.first in
    let taken = takes-line line (shown_length out) old.keyboard (keyboard_state g.K.Keyboard c.line.new.self) first
    c.in-Ok-Some.ensures.rest c.in-Ok-Some.ensures.shown (rw c.in-Ok-Some.field-0-is at c.in-Ok-Some.ensures.over) c.in-Ok-Some.ensures.none_failed in
    let same = ap (λ keyboard. keyboard_state g.K.Keyboard keyboard) c.take_line.ensures.keyboard_kept in
    loses-line out line old new none (subst (λ (to : KeyboardState). TakesLines (line ∷ []) (shown_length out ∷ []) old.keyboard to) (sym same) taken) c.take_line.ensures.typed_kept

pub returns-in-Err : goal.returns-in-Err
returns-in-Err g c =
    let console = c.args.console.now in
    let none : rest_of console ≡ [] = drop_all console.place console.line.items (omega (arith, c.if-console-len.false, c.len.ensures, console.line.ok.0)) in
    loses-none _ (console_state g.K.Keyboard console) _ none
    (fails-to-give (keyboard_state g.K.Keyboard console.keyboard) (keyboard_state g.K.Keyboard c.line.new.self)
    c.in-Err.ensures.lines_kept c.in-Err.ensures.over_kept c.in-Err.ensures.asked_kept c.in-Err.ensures.failed) refl
