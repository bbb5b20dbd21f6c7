-- Pipes (Level Two manual, "Pipes"; the size and the number of pipes are this project's own). They are a list by
-- number: place n has the bytes of pipe n, the oldest first, or nothing. Pipes have numbers from 1 to 16.
use Rattle.std.specs.Prelude.{◌≡◌, ℕ, ◌+◌, ◌-◌, ◌≤◌, ◌==◌, min, Bool, Option, Some, None, IsSome, is_none, option_map, unwrap_or, List, [], ◌∷◌, ◌++◌, length, take, drop, position, slice_index_or, slice_set, if◌then◌else◌}
use Rattle.std.specs.Option.{option_map_or}
use Rattle.io_model.specs.Line.{line_length}
use Rattle.io_model.specs.declared.pipe.PipeAns.{PipeAns}
use Rattle.io_model.specs.declared.pipe.PipeAns.TheVariants.{Done, Wait, End, NoReader}
use Rattle.io_model.specs.declared.pipe.TheConstants.{PIPE_BYTES}

-- the bytes of the pipe of this number, if there is one
abbrev pub pipe_of : List (Option (List ℕ)) → ℕ → Option (List ℕ)
pipe_of pipes number = slice_index_or pipes number None

-- there is a pipe of this number
abbrev pub IsPipe : List (Option (List ℕ)) → ℕ → Type 0
IsPipe pipes number = IsSome (pipe_of pipes number)

-- the bytes that a pipe holds
abbrev pub held_bytes : List (Option (List ℕ)) → ℕ → List ℕ
held_bytes pipes number = unwrap_or (pipe_of pipes number) []

-- the invariant of the list of pipes: 17 places, no pipe 0, and no pipe with more bytes than it may hold
pub record ArePipes (pipes : List (Option (List ℕ))) : Type 0 where
  pub places : length pipes ≡ 17
  pub from_one : pipe_of pipes 0 ≡ None
  pub within : (number : ℕ) → length (held_bytes pipes number) ≤ PIPE_BYTES

-- the pipes with these bytes in one of them
abbrev pub with_pipe : List (Option (List ℕ)) → ℕ → List ℕ → List (Option (List ℕ))
with_pipe pipes number bytes = slice_set pipes number (Some bytes)

-- the pipes without one
abbrev pub without_pipe : List (Option (List ℕ)) → ℕ → List (Option (List ℕ))
without_pipe pipes number = slice_set pipes number None

-- the least free number from 1 on
abbrev pub free_pipe : List (Option (List ℕ)) → Option ℕ
free_pipe pipes = option_map (λ k. k + 1) (position is_none (drop 1 pipes))

-- the pipes with a new empty one, if there is a number for it
abbrev pub pipes_after_begin : List (Option (List ℕ)) → List (Option (List ℕ))
pipes_after_begin pipes = option_map_or (λ number. with_pipe pipes number []) (free_pipe pipes) pipes

-- Attempts, by the bytes that the pipe holds and by whether the process is alone: no other process with the pipe's path
-- could end its wait.

-- an attempt that can move no byte waits, or has this answer if the process is alone
abbrev pub answer_unmoved : Bool → PipeAns → PipeAns
answer_unmoved alone answer = if alone then answer else Wait

-- an attempt of I$Read of at most `most` bytes: it moves the bytes that are there
abbrev pub read_answer : List ℕ → Bool → ℕ → PipeAns
read_answer held alone most = if length held == 0 then answer_unmoved alone End else Done (min most (length held))

-- an attempt of I$ReadLn of at most `most` bytes: it moves the first line, or the available part of it
abbrev pub read_line_answer : List ℕ → Bool → ℕ → PipeAns
read_line_answer held alone most =
    if length held == 0 then answer_unmoved alone End else Done (min most (line_length held))

-- the number of bytes for which the pipe has room
abbrev pub pipe_room : List ℕ → ℕ
pipe_room held = PIPE_BYTES - length held

-- an attempt of I$Write or I$WritLn of `count` bytes: it moves bytes as far as there is room
abbrev pub write_answer : List ℕ → Bool → ℕ → PipeAns
write_answer held alone count =
    if pipe_room held == 0 then answer_unmoved alone NoReader else Done (min count (pipe_room held))

-- the number of bytes that an attempt moved
abbrev pub moved_count : PipeAns → ℕ
moved_count (Done count) = count
moved_count Wait = 0
moved_count End = 0
moved_count NoReader = 0

-- the bytes that an attempt moved, of these
abbrev pub bytes_moved : PipeAns → List ℕ → List ℕ
bytes_moved answer bytes = take (moved_count answer) bytes

-- what a read leaves of the bytes that the pipe held
abbrev pub left_by : PipeAns → List ℕ → List ℕ
left_by answer held = drop (moved_count answer) held

-- what the pipe holds after a write of these bytes
abbrev pub added_to : PipeAns → List ℕ → List ℕ → List ℕ
added_to answer bytes held = held ++ bytes_moved answer bytes

-- the buffer after a read of what the pipe held: the moved bytes are at its start
abbrev pub buffer_after_read : PipeAns → List ℕ → List ℕ → List ℕ
buffer_after_read answer held buffer = bytes_moved answer held ++ drop (moved_count answer) buffer

-- The flow through a pipe.

-- bytes that a write moved into a pipe, or a read out of it
pub data Movement : Type 0 where
  In : List ℕ → Movement
  Out : List ℕ → Movement

-- the bytes that a movement put into the pipe
abbrev pub came_in : Movement → List ℕ
came_in (In bytes) = bytes
came_in (Out bytes) = []

-- the bytes that it took out of the pipe
abbrev pub went_out : Movement → List ℕ
went_out (In bytes) = []
went_out (Out bytes) = bytes

-- a movement changes the held bytes to these: bytes enter at the end, and leave at the front
abbrev pub Moves : Movement → List ℕ → List ℕ → Type 0
Moves (In bytes) held now = now ≡ held ++ bytes
Moves (Out bytes) held now = held ≡ bytes ++ now

-- these movements, one after another
abbrev pub Flows : List Movement → List ℕ → List ℕ → Type 0
Flows [] held now = now ≡ held
Flows (movement ∷ movements) held now = (between : List ℕ) × Moves movement held between × Flows movements between now
