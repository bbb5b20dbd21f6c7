use Rattle.std.proofs.Common.{◌≡◌, ◌++◌, All, take}
use Rattle.std.specs.List.{flat_map}
use Rattle.console_run.specs.Texts.{IsByte, byte_word}
use Rattle.console_run.proofs.texts.push_bytes.Given as goal

abbrev pub invariant-loop-byte : goal.invariant-loop-byte
invariant-loop-byte l =
    (l.text.items ≡ l.initial.text.items ++ flat_map byte_word (take l.byte-index l.bytes)) × All IsByte (take l.byte-index l.bytes)
