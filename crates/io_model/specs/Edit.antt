-- Line editing (Level Two manual, SCF; the echo is this project's own).
use Rattle.std.specs.Prelude.{ℕ, ◌+◌, ◌-◌, ◌<◌, ◌≤◌, ◌==◌, ◌&&◌, ◌||◌, nat_lt, Bool, Option, Some, None, IfNone, List, [], ◌∷◌, ◌++◌, length, map, take, if◌then◌else◌}
use Rattle.std.specs.List.{flat_map}
use Rattle.io_model.specs.declared.keys.TheConstants.{BACKSPACE, DELETE_LINE, REPRINT, DUPLICATE, RETURN, END_OF_FILE, BELL, SPACE, LINE_FEED, DOT, DELETE}
use Rattle.io_model.specs.declared.edit.LineEnd.{LineEnd}
use Rattle.io_model.specs.declared.edit.LineEnd.TheVariants.{Line, EndOfFile}

-- a line that is being typed
pub record Editing : Type 0 where
  pub bytes : List ℕ  -- the line so far
  pub last : List ℕ  -- the last finished line, without its carriage return

-- what a key makes of a line
pub record Edited : Type 0 where
  pub line : Editing
  pub echo : List ℕ  -- the bytes that are put
  pub end : Option LineEnd

-- the line has room: for one more byte if typing goes on, else for its own bytes
pub record HasLineRoom (most : ℕ) (end : Option LineEnd) (line : Editing) : Type 0 where
  pub more : IfNone end (length line.bytes < most)
  pub within : length line.bytes ≤ most

-- the line with these bytes in place of its own
abbrev pub with_bytes : Editing → List ℕ → Editing
with_bytes line bytes = record line { bytes = bytes }

-- the empty line; the last finished one stays
abbrev pub cleared : Editing → Editing
cleared line = with_bytes line []

-- the line before anything is typed
abbrev pub no_line : Editing
no_line = record { bytes = []; last = [] }

-- the line is now this one, these bytes are put, and typing goes on
abbrev pub still_typing : Editing → List ℕ → Edited
still_typing line echo = record { line = line; echo = echo; end = None }

-- the line is now this one, these bytes are put, and it has ended
abbrev pub line_ended : Editing → List ℕ → Edited
line_ended line echo = record { line = line; echo = echo; end = Some Line }

-- a byte of a line as the screen shows it: a dot for a control character
abbrev pub screen_byte : ℕ → ℕ
screen_byte byte = if nat_lt byte SPACE || (byte == DELETE) then DOT else byte

-- the bytes that erase a line on the screen
abbrev pub rubouts : List ℕ → List ℕ
rubouts bytes = flat_map (λ byte. BACKSPACE ∷ SPACE ∷ BACKSPACE ∷ []) bytes

-- the key is not taken
abbrev pub refused_key : Editing → Edited
refused_key line = still_typing line (BELL ∷ [])

-- 08 erases the last byte; on an empty line it has no effect
abbrev pub backspaced : Editing → Edited
backspaced line =
    still_typing (with_bytes line (take (length line.bytes - 1) line.bytes))
    (rubouts (take 1 line.bytes))

-- 18 erases each byte
abbrev pub deleted : Editing → Edited
deleted line = still_typing (cleared line) (rubouts line.bytes)

-- 04 shows the line again
abbrev pub reprinted : Editing → Edited
reprinted line = still_typing line (RETURN ∷ LINE_FEED ∷ map screen_byte line.bytes)

-- the part of the last finished line for which there is room
abbrev pub last_that_fits : ℕ → Editing → List ℕ
last_that_fits most line = take (most - 1) line.last

-- 01 erases each byte and types the last finished line, as far as it fits
abbrev pub duplicated : ℕ → Editing → Edited
duplicated most line =
    still_typing (with_bytes line (last_that_fits most line))
    (rubouts line.bytes ++ map screen_byte (last_that_fits most line))

-- 0D ends the line, which is then the last finished one
abbrev pub returned : Editing → Edited
returned line =
    line_ended (record { bytes = line.bytes ++ RETURN ∷ []; last = line.bytes }) (RETURN ∷ LINE_FEED ∷ [])

-- the end of the file
abbrev pub file_ended : Editing → Edited
file_ended line = record { line = line; echo = []; end = Some EndOfFile }

-- the line is empty
abbrev pub is_empty_line : Editing → Bool
is_empty_line line = length line.bytes == 0

-- 1B is the end of the file on an empty line; otherwise it is not taken
abbrev pub escaped : Editing → Edited
escaped line = if is_empty_line line then file_ended line else refused_key line

-- any other key, if the line has room for it and a carriage return
abbrev pub typed_key : ℕ → Editing → ℕ → Edited
typed_key most line key =
    if nat_lt (length line.bytes) (most - 1)
    then still_typing (with_bytes line (line.bytes ++ key ∷ [])) (screen_byte key ∷ []) else refused_key line

-- a key of an I$ReadLn of at most `most` bytes
unfoldable pub edited : ℕ → Editing → ℕ → Edited
edited most line key =
    if key == BACKSPACE then backspaced line else (if key == DELETE_LINE then deleted line
    else (if key == REPRINT then reprinted line else (if key == DUPLICATE then duplicated most line
    else (if key == RETURN then returned line else (if key == END_OF_FILE then escaped line
    else typed_key most line key)))))

-- this byte is the last one of an I$Read of at most `most` bytes
abbrev pub is_last_byte : ℕ → Editing → ℕ → Bool
is_last_byte most line key = (key == RETURN) || (length line.bytes + 1 == most)

-- the byte is moved unchanged
abbrev pub moved : ℕ → Editing → ℕ → Edited
moved most line key =
    record {
      line = with_bytes line (line.bytes ++ key ∷ []);
      echo = key ∷ [];
      end = if is_last_byte most line key then Some Line else None;
    }

-- a key of an I$Read of at most `most` bytes
unfoldable pub copied : ℕ → Editing → ℕ → Edited
copied most line key =
    if (key == END_OF_FILE) && is_empty_line line then file_ended line else moved most line key

-- what a list of keys makes of a line, until it ends
pub record Typing : Type 0 where
  pub line : Editing
  pub echo : List ℕ
  pub end : Option LineEnd
  pub left : List ℕ  -- the keys after the one that ended it

-- an ended line with this echo, and no key left
abbrev pub line_done : Editing → List ℕ → Typing
line_done line echo = record { line = line; echo = echo; end = Some Line; left = [] }

-- what was typed, with an echo before its own
abbrev pub after_echo : List ℕ → Typing → Typing
after_echo echo typed = record typed { echo = echo ++ typed.echo }

-- what a key and the keys after it make of a line; `rest` is what the keys after it make of the line
abbrev pub after_key : Option LineEnd → Edited → List ℕ → Typing → Typing
after_key None key keys rest = after_echo key.echo rest
after_key (Some end) key keys rest = record { line = key.line; echo = key.echo; end = Some end; left = keys }

-- what a list of keys makes of a line; `step` is what one key makes of it
abbrev pub typing : (Editing → ℕ → Edited) → Editing → List ℕ → Typing
typing step line [] = record { line = line; echo = []; end = None; left = [] }
typing step line (key ∷ keys) =
    after_key (step line key).end (step line key) keys (typing step (step line key).line keys)

-- what was typed goes on with these keys; if the line has ended, they are left
abbrev pub goes_on : Option LineEnd → (Editing → ℕ → Edited) → Typing → List ℕ → Typing
goes_on None step typed keys = after_echo typed.echo (typing step typed.line keys)
goes_on (Some end) step typed keys = record typed { left = typed.left ++ keys }

-- what was typed, with these keys after it
abbrev pub after_typing : (Editing → ℕ → Edited) → Typing → List ℕ → Typing
after_typing step typed keys = goes_on typed.end step typed keys

-- what was typed, with no key left
abbrev pub used_up : Typing → Typing
used_up typed = record typed { left = [] }
