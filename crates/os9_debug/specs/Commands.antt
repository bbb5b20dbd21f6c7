-- The commands of a debugger, in the form of a text (this project's own).
use Rattle.std.specs.Prelude.{ℕ, ◌+◌, ◌-◌, ◌*◌, ◌^◌, min, true, Option, Some, None, option_map, option_and_then, Result, List, [], ◌∷◌, codes, if◌then◌else◌}
use Rattle.std.specs.Str.{bytes_eq}
use Rattle.text_values.specs.Number.{number_of, within}
use Rattle.script_text.specs.Lines.{line_words, is_edged, text_gives}
use Rattle.script_text.specs.Script.{byte_of}
use Rattle.os9_debug.specs.declared.command.Command.{Command}
use Rattle.os9_debug.specs.declared.command.Command.TheVariants.{To, Back, Regs, Mem, Dis}
use Rattle.os9_debug.specs.declared.command.Span.{Span}

-- the last distinguished position: no run has this number of events
abbrev pub last_position : ℕ
last_position = 2 ^ 64 - 1

-- a position: a number of any length
abbrev pub position_of : List ℕ → Option ℕ
position_of digits = option_map (λ number. min number last_position) (number_of digits)

-- a count: from 1 to 256
abbrev pub count_of : List ℕ → Option ℕ
count_of digits = within 1 256 (number_of digits)

-- an address: four hexadecimal digits of either case
abbrev pub address_of : List ℕ → Option ℕ
address_of (a ∷ b ∷ c ∷ d ∷ []) =
    option_and_then (λ high. option_map (λ low. 256 * high + low) (byte_of (c ∷ d ∷ []))) (byte_of (a ∷ b ∷ []))
address_of _ = None

-- an address and a count
abbrev pub span_of : List ℕ → List ℕ → Option Span
span_of address count =
    option_and_then (λ at. option_map (λ n. record { at = at; count = n }) (count_of count)) (address_of address)

-- the command that words spell: its name, and a number, or an address and a count
abbrev pub command_of : List (List ℕ) → Option Command
command_of (name ∷ []) = if bytes_eq name (codes "regs") then Some Regs else None
command_of (name ∷ number ∷ []) =
    if bytes_eq name (codes "to") then option_map To (position_of number)
    else (if bytes_eq name (codes "back") then option_map Back (count_of number) else None)
command_of (name ∷ address ∷ count ∷ []) =
    if bytes_eq name (codes "mem") then option_map Mem (span_of address count)
    else (if bytes_eq name (codes "dis") then option_map Dis (span_of address count) else None)
command_of _ = None

-- the command of a line that is not empty
abbrev pub line_command : List ℕ → Option Command
line_command line = if is_edged line then None else command_of (line_words line)

-- the commands of a line: none of an empty one
abbrev pub line_commands : List ℕ → Option (List Command)
line_commands [] = Some []
line_commands (byte ∷ bytes) = option_map (λ command. command ∷ []) (line_command (byte ∷ bytes))

-- the commands of a text, or its first refused line
abbrev pub commands_of : List ℕ → Result (List Command) ℕ
commands_of text = text_gives line_commands (λ commands. true) text
