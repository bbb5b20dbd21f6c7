use Rattle.std.proofs.Common.{◌≡◌, ◌++◌, All, take}
use Rattle.std.specs.List.{flat_map}
use Rattle.console_run.specs.Texts.{HasTypedBytes, script_line}
use Rattle.console_run.proofs.texts.push_lines.Given as goal

abbrev pub invariant-loop-line : goal.invariant-loop-line
invariant-loop-line l =
    (l.text.items ≡ l.initial.text.items ++ flat_map script_line (take l.line-index l.lines)) × All HasTypedBytes (take l.line-index l.lines)
