use Rattle.std.proofs.Common.{◌≡◌, ℕ, List, subst, sym}
use Rattle.std.specs.Prelude.{Ok}
use Rattle.script_text.specs.Script.{keys_of}
use Rattle.script_text.specs.Slices.{slices_of}
use Rattle.console_run.specs.Typed.{kept_keys, kept_slices}
use Rattle.console_run.proofs.TextLemmas.{script-gives, slices-give}
use Rattle.os9_console.proofs.record.make_record.Goals as goal

pub returns : goal.returns
returns c =
    let typed = c.args.typed.now in
    record {
      keys =
          subst (λ (text : List ℕ). keys_of 4 text ≡ Ok (kept_keys typed)) (sym c.in_ok-script_of.ensures.text) (script-gives typed c.requires.keys c.in_ok-script_of.ensures.bytes);
      slices =
          subst (λ (text : List ℕ). slices_of text ≡ Ok (kept_slices typed)) (sym c.in_ok-slices_of.ensures) (slices-give typed c.requires.slices);
    }
