-- Each part is the next of the text.
use Rattle.std.proofs.Common.{ℕ, List, ◌++◌, length, refl, ap, ◌∙◌, rules, tests}
use Rattle.std.specs.List.{flat_map, slice_split}
use Rattle.std.proofs.lemmas.List.{length_push}
use Rattle.std.proofs.lemmas.Iterator.Consumers.{YieldsList-turn, YieldsList-end}
use Rattle.std.proofs.lemmas.Iterator.Splits.{YieldsList-from_slice_split}
use Rattle.proc_model.specs.UserBytes.{word_bytes}
use Rattle.asm_model.specs.Characters.{is_comma}
use Rattle.asm6809.specs.Bytes.{word_in}
use Rattle.asm6809.proofs.PushLemmas.{pushed-next, pushed-all}
use Rattle.asm6809.proofs.emit.push_words.Goals as goal

pub loop-part-preserved : goal.loop-part-preserved
loop-part-preserved c =
    let turn = YieldsList-turn (YieldsList-from_slice_split _ is_comma c.args.text.now (cc) (cc) (cc) (λ x b q k. search (rules, tests)))
    c.loop-part.yielded _ c.loop-part.yielded_by _ _ c.in-Some.part c.in-Some.is c.next.ensures.steps in
    let count = length_push c.loop-part.yielded c.in-Some.part in
    rw count (pushed-next (flat_map (λ (t : List ℕ). word_bytes (word_in c.args.place.labels.now c.args.place.offset t)))
    (λ (t : List ℕ). word_bytes (word_in c.args.place.labels.now c.args.place.offset t)) (λ part rest. refl)
    (slice_split is_comma c.args.text.now) (length c.loop-part.yielded) c.loop-part.code.items _ c.loop-part.invariant
    c.in-Some.part.now _ turn.0 turn.1 (c.in_ok-push_word.ensures ∙ ap (λ w. c.loop-part.code.items ++ word_bytes w) c.word_at.ensures))

pub returns : goal.returns
returns c =
    let end = YieldsList-end (YieldsList-from_slice_split _ is_comma c.args.text.now (cc) (cc) (cc) (λ x b q k. search (rules, tests)))
    c.loop-part.yielded _ c.loop-part.yielded_by _ _ c.in-None.is c.next.ensures.steps in
    pushed-all (flat_map (λ (t : List ℕ). word_bytes (word_in c.args.place.labels.now c.args.place.offset t)))
    (λ (t : List ℕ). word_bytes (word_in c.args.place.labels.now c.args.place.offset t)) (λ part rest. refl)
    (slice_split is_comma c.args.text.now) (length c.loop-part.yielded) c.loop-part.code.items _ c.loop-part.invariant refl end.1
