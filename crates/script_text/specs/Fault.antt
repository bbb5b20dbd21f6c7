-- Refusals of texts.
use Rattle.std.specs.Prelude.{ℕ, ⊤, Result, Ok, Err}
use Rattle.script_text.specs.declared.fault.LineFault.{LineFault}
use Rattle.script_text.specs.declared.fault.LineFault.TheVariants.{Line, OutOfMemory}

-- the fact holds of the refused line, if there is one
abbrev pub OnRefusedLine : {T : Type 0} → Result T LineFault → (ℕ → Type 0) → Type 0
OnRefusedLine (Ok _) fact = ⊤
OnRefusedLine (Err (Line line)) fact = fact line
OnRefusedLine (Err OutOfMemory) fact = ⊤
