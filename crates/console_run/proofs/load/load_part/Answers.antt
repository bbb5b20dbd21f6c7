use Rattle.std.proofs.Common.{◌∷◌, [], List, ap, refl, sym, ◌∙◌}
use Rattle.std.specs.Prelude.{Err, Ok, OnErr, Result}
use Rattle.os9_outer.specs.declared.terminal.Key.{Key}
use Rattle.device_table.specs.Seen.{terminal_states}
use Rattle.run_laws.specs.Session.{keys_loaded}
use Rattle.console_run.specs.declared.typed.Typed.{Typed}
use Rattle.console_run.specs.Kept.{IsKept}
use Rattle.console_run.proofs.KeyLemmas.{own-keys, part-kept}
use Rattle.console_run.proofs.load.load_part.Goals as goal

pub returns-clause-loaded : goal.returns-clause-loaded
returns-clause-loaded g c =
    let old : Typed = c.args.typed.now in
    let new : Typed = record old { parts = c.push.new.self } in
    let part = c.in_ok-part.ensures in
    let before = terminal_states (λ box. (g.dyn-2.0.entry box.vtable).1) c.args.devices.now.terms.items in
    record {
      kept = part-kept old new _ c.args.tick c.args.bytes.now c.in_ok-push.ensures.items part.tick part.bytes;
      slices = refl;
      terms =
          c.load_term.ensures.loaded
          ∙ ap (λ (keys : List Key). keys_loaded before (keys ∷ [])) (c.in_ok-keys.ensures ∙ sym (own-keys c.args.tick c.args.bytes.now));
    }

on-err : {Value Error : Type 0} (answer : Result Value Error) (fact : Type 0) → fact → OnErr answer fact
on-err (Ok value) fact holds = tt
on-err (Err error) fact holds = holds

pub returns-in_err-push-clause-typed_kept : goal.returns-in_err-push-clause-typed_kept
returns-in_err-push-clause-typed_kept g c =
    let old : Typed = c.args.typed.now in
    on-err c.from_residual-in_err-push.result (IsKept old (record old { parts = c.push.new.self })) (record { parts = c.in_err-push.ensures.items; slices = refl })
