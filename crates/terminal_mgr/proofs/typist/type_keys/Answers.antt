use Rattle.std.proofs.Common.{◌≡◌, ◌∷◌, refl, sym, ap, ◌∙◌}
use Rattle.terminal_mgr.proofs.TypingLemmas.{none-typed, first-rest, typed-on, typed-all, room-left}
use Rattle.terminal_mgr.proofs.typist.type_keys.Goals as goal

pub loop-key-init : goal.loop-key-init
loop-key-init g c = record { sofar = none-typed _ _ _ _; room = c.requires.room; faults = refl; keys = refl }

pub returns-in-Some-end-clause-typed : goal.returns-in-Some-end-clause-typed
returns-in-Some-end-clause-typed g c =
    let effect = c.press-out.ensures.effect in
    let first : c.loop-key.ahead ≡ c.in-Some.key ∷ c.next.new.self = first-rest c.loop-key.ahead c.in-Some.key (cc) ∙ ap (λ keys. c.in-Some.key ∷ keys) (sym c.next.ensures.taken) in
    typed-all c.args.request c.args.line.now c.loop-key.line c.args.ahead.now c.loop-key.ahead c.next.new.self _ _ _
    c.in-Some.key c.press-out.new.line c.echo.result.now c.press-out.result.end c.loop-key.invariant.sofar first
    effect.line_is (c.echo.ensures ∙ effect.echo_is) effect.end_is c.in-Ok.ensures.all c.in-Some-end.end
    c.in-Some-end.is

pub loop-key-preserved : goal.loop-key-preserved
loop-key-preserved g c =
    let effect = c.press-out.ensures.effect in
    let first : c.loop-key.ahead ≡ c.in-Some.key ∷ c.next.new.self = first-rest c.loop-key.ahead c.in-Some.key (cc) ∙ ap (λ keys. c.in-Some.key ∷ keys) (sym c.next.ensures.taken) in
    record {
      sofar = typed-on c.args.request c.args.line.now c.loop-key.line c.args.ahead.now c.loop-key.ahead
          c.next.new.self _ _ _ c.in-Some.key c.press-out.new.line c.echo.result.now c.press-out.result.end
          c.loop-key.invariant.sofar first effect.line_is (c.echo.ensures ∙ effect.echo_is) effect.end_is
          c.in-Ok.ensures.all c.in-None.is;
      room = room-left _ _ _ c.press-out.ensures.room c.in-None.is;
      faults = c.in-Ok.ensures.faults_kept ∙ c.loop-key.invariant.faults;
      keys = c.in-Ok.ensures.keys_kept ∙ c.loop-key.invariant.keys;
    }
