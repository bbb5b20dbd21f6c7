-- What a line adds to the code of a module.
use Rattle.std.specs.Prelude.{ℕ, ◌+◌, Bool, true, Option, Some, None, List, [], if◌then◌else◌}
use Rattle.asm_model.specs.Statements.{LineRead, skipped, broken, stated}
use Rattle.asm_model.specs.Placement.{Reached, action_length}
use Rattle.asm6809.specs.Assembled.{placed_at, placed_bytes, is_filled}

abbrev pub line_filled : Reached → ℕ → LineRead → Bool
line_filled all offset skipped = true
line_filled all offset (broken name) = true
line_filled all offset (stated s) = is_filled all (placed_at offset s.action)

abbrev pub line_bytes : Reached → ℕ → LineRead → List ℕ
line_bytes all offset skipped = []
line_bytes all offset (broken name) = []
line_bytes all offset (stated s) = placed_bytes all (placed_at offset s.action)

-- the offset after a line
abbrev pub line_end : ℕ → LineRead → ℕ
line_end offset skipped = offset
line_end offset (broken name) = offset
line_end offset (stated s) = offset + action_length s.action

abbrev pub end_if_filled : Reached → ℕ → LineRead → Option ℕ
end_if_filled all offset l = if line_filled all offset l then Some (line_end offset l) else None
