-- How `debug` may end, and what it leaves (this project's own).
use Rattle.std.specs.Prelude.{◌≡◌, ℕ, ⊤, List, []}
use Rattle.boot_run.specs.World.{World}
use Rattle.os9_debug.specs.Counts.{TerminalRose}
use Rattle.boot_run.specs.Left.{IsSilent}
use Rattle.boot_run.specs.declared.status.End.{End}
use Rattle.boot_run.specs.declared.status.End.TheVariants.{Ended, CannotRead, CannotWrite, NoMemory, BadText, BadModule, NoFirst, TooLarge, TerminalFailed}
use Rattle.boot_run.specs.declared.status.Input.{Input}
use Rattle.boot_run.specs.declared.status.Input.TheVariants.{Script, Slices, Commands}

-- ---- how it may end

-- its words name three texts
abbrev pub IsDebugText : Input → Type 0
IsDebugText Script = ⊤
IsDebugText Slices = ⊤
IsDebugText Commands = ⊤
IsDebugText input = ⊥

-- it mounts and checks no image, and writes no file
abbrev pub DebugMayEnd : End → Type 0
DebugMayEnd Ended = ⊤
DebugMayEnd (CannotRead input) = ⊤
DebugMayEnd CannotWrite = ⊤
DebugMayEnd NoMemory = ⊤
DebugMayEnd (BadText input line) = IsDebugText input
DebugMayEnd (BadModule at error) = ⊤
DebugMayEnd NoFirst = ⊤
DebugMayEnd TooLarge = ⊤
DebugMayEnd (TerminalFailed n) = ⊤
DebugMayEnd end = ⊥

-- ---- what it leaves

-- the output and the devices: unchanged if no machine was started, or a terminal failed as the end says
abbrev pub DebugLeaves : World → World → End → Type 0
DebugLeaves before after Ended = ⊤
DebugLeaves before after CannotWrite = ⊤
DebugLeaves before after NoMemory = ⊤
DebugLeaves before after (TerminalFailed n) = TerminalRose n before.devices after.devices
DebugLeaves before after end = IsSilent before after

-- no file is changed
abbrev pub DebugLeavesFiles : World → World → End → Type 0
DebugLeavesFiles before after end = after.files ≡ before.files

-- and none is written
abbrev pub DebugWrites : End → List (List ℕ) → Type 0
DebugWrites end written = written ≡ []
