-- The tool that is used, and its answer (this project's own).
use Rattle.std.specs.Prelude.{◌≡◌, ℕ, List, [], Result, Ok, Err}
use Rattle.os9_base.specs.declared.registers.TimePacket.{TimePacket}
use Rattle.vol_tools.specs.Tool.{Tool, put, get, mkdir, remove, list}
use Rattle.vol_tools.specs.UsesInTurn.{Use}
use Rattle.vol_tools.specs.declared.fault.ToolFault.{ToolFault}
use Rattle.vol_tools.specs.declared.tool.ToolUse.{ToolUse}
use Rattle.vol_tools.specs.declared.tool.ToolUse.TheVariants.{Put, Get, Mkdir, Remove, List as Lines}

-- the tool
abbrev pub tool_of : ToolUse → Tool
tool_of (Put file) = put file.path.now file.bytes.now
tool_of (Get path) = get path.now
tool_of (Mkdir path) = mkdir path.now
tool_of (Remove path) = remove path.now
tool_of (Lines path) = list path.now

-- used at this time
abbrev pub at_time : TimePacket → ToolUse → Use
at_time now tool = record { tool = tool_of tool; now = now }

-- the same answer, with no bytes
abbrev pub AnswersNoBytes : {A B : Type 0} → (B → List ℕ) → Result A ToolFault → Result B ToolFault → Type 0
AnswersNoBytes bytes (Ok done) (Ok answer) = bytes answer ≡ []
AnswersNoBytes bytes (Err fault) (Err same) = same ≡ fault
AnswersNoBytes bytes done answer = ⊥
