-- The parts so far are put, and those that are left follow.
use Rattle.std.proofs.Common.{◌≡◌, ◌++◌, map, length, drop}
use Rattle.std.specs.List.{slice_split}
use Rattle.asm_model.specs.Characters.{is_comma}
use Rattle.asm6809.specs.Bytes.{byte_in}
use Rattle.asm6809.proofs.emit.push_bytes.Given as goal

abbrev pub invariant-loop-part : goal.invariant-loop-part
invariant-loop-part l =
    l.code.items ++ map (byte_in l.place.labels.now l.place.offset) (drop (length l.yielded) (slice_split is_comma l.text))
    ≡ l.fn.code.items ++ map (byte_in l.place.labels.now l.place.offset) (slice_split is_comma l.text)
