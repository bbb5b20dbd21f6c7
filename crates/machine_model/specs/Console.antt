-- The bytes that the terminals were given.
use Rattle.std.specs.Prelude.{ℕ, unwrap_or, List, [], map, flat_map}
use Rattle.os9_outer.specs.Stream.{emptied}
use Rattle.os9_outer.specs.TerminalState.{TerminalState}

-- the bytes that a terminal was given
abbrev pub put_bytes : TerminalState → List ℕ
put_bytes terminal = unwrap_or terminal.put []

-- the bytes of TERM, T1, T2, T3
abbrev pub console_bytes : List TerminalState → List ℕ
console_bytes terminals = flat_map put_bytes terminals

-- the terminal without the bytes that it was given
abbrev pub without_bytes : TerminalState → TerminalState
without_bytes terminal = record terminal { put = emptied terminal.put }

-- the bytes are taken from every terminal
abbrev pub terminals_emptied : List TerminalState → List TerminalState
terminals_emptied terminals = map without_bytes terminals
