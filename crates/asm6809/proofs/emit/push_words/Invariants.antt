-- The parts so far are put, and those that are left follow.
use Rattle.std.proofs.Common.{◌≡◌, ℕ, List, ◌++◌, length, drop}
use Rattle.std.specs.List.{flat_map, slice_split}
use Rattle.proc_model.specs.UserBytes.{word_bytes}
use Rattle.asm_model.specs.Characters.{is_comma}
use Rattle.asm6809.specs.Bytes.{word_in}
use Rattle.asm6809.proofs.emit.push_words.Given as goal

abbrev pub invariant-loop-part : goal.invariant-loop-part
invariant-loop-part l =
    l.code.items ++ flat_map (λ (t : List ℕ). word_bytes (word_in l.place.labels.now l.place.offset t)) (drop (length l.yielded) (slice_split is_comma l.text))
    ≡ l.fn.code.items ++ flat_map (λ (t : List ℕ). word_bytes (word_in l.place.labels.now l.place.offset t)) (slice_split is_comma l.text)
