-- Terminals: keys with the tick at which each is due, and the bytes that were put.
use Rattle.std.specs.Prelude.{ℕ, nat_le, ⊤, Option, Some, None, Result, Ok, Err, List, [], ◌∷◌, if◌then◌else◌}
use Rattle.os9_outer.specs.declared.terminal.Key.{Key}
use Rattle.os9_outer.specs.declared.terminal.PutFault.{PutFault}
use Rattle.os9_outer.specs.declared.terminal.PutFault.TheVariants.{Fault, OutOfMemory}

-- the byte of the first key, if its tick is at most this one
abbrev pub due_byte : List Key → ℕ → Option ℕ
due_byte [] tick = None
due_byte (key ∷ keys) tick = if nat_le key.tick tick then Some key.byte else None

-- the keys without the first, if its tick is at most this one
abbrev pub keys_after : List Key → ℕ → List Key
keys_after [] tick = []
keys_after (key ∷ keys) tick = if nat_le key.tick tick then keys else key ∷ keys

-- the fact holds if the call returned `Fault`
abbrev pub OnFault : {T : Type 0} → Result T PutFault → Type 0 → Type 0
OnFault (Ok _) fact = ⊤
OnFault (Err Fault) fact = fact
OnFault (Err OutOfMemory) fact = ⊤

-- the fact holds if the call returned anything but `Fault`
abbrev pub UnlessFault : {T : Type 0} → Result T PutFault → Type 0 → Type 0
UnlessFault (Ok _) fact = fact
UnlessFault (Err Fault) fact = ⊤
UnlessFault (Err OutOfMemory) fact = fact
