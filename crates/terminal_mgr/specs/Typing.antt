-- What the keys of the type-ahead make of the line of a read.
use Rattle.std.specs.Prelude.{◌≡◌, ℕ, ◌<◌, Option, None, MatchBool, List, [], ◌∷◌, ◌++◌, length, take, if◌then◌else◌}
use Rattle.os9_outer.specs.Stream.{stream_with}
use Rattle.os9_outer.specs.TerminalState.{TerminalState}
use Rattle.os9_outer.specs.declared.terminal.PutFault.{PutFault}
use Rattle.os9_outer.specs.declared.terminal.PutFault.TheVariants.{Fault, OutOfMemory}
use Rattle.io_model.specs.Edit.{Editing}
use Rattle.io_model.specs.Terminal.{Terminal, typed, last_effect, is_refused, BreaksOffEcho, Attempted, typed_attempt, LeavesDriver, stored_over}
use Rattle.io_model.specs.declared.edit.LineEnd.{LineEnd}
use Rattle.io_model.specs.declared.terminal.Progress.{Progress}
use Rattle.io_model.specs.declared.terminal.Progress.TheVariants.{NoMemory}
use Rattle.io_model.specs.declared.terminal.Progress.TheVariants as progress
use Rattle.io_model.specs.declared.terminal.Reading.{Reading}

-- the keys were typed until one ended the read, or all of them
pub record IsTyped (request : Reading) (end : Option LineEnd) (old new : Editing) (ahead left : List ℕ)
    (before now : Option (List ℕ)) : Type 0 where
  pub line : new ≡ (typed request old ahead).line
  pub ended : end ≡ (typed request old ahead).end
  pub left_is : left ≡ (typed request old ahead).left
  pub echo : now ≡ stream_with before (typed request old ahead).echo

-- the echo of a key was refused, and these keys are left
pub record TypingBreaksOff (request : Reading) (old new : Editing) (ahead left : List ℕ)
    (before now : Option (List ℕ)) : Type 0 where
  pub front : List ℕ  -- the keys before it
  pub key : ℕ
  pub count : ℕ  -- the number of bytes of its echo that are out
  pub keys : ahead ≡ front ++ key ∷ left
  pub unfinished : (typed request old front).end ≡ None
  pub part : count < length (last_effect request old front key).echo
  pub echo : now ≡ stream_with before
      ((typed request old front).echo ++ take count (last_effect request old front key).echo)
  pub line : new ≡ (last_effect request old front key).line

-- the answer of a call that had a byte refused
abbrev pub refusal_answer : PutFault → Progress
refusal_answer Fault = progress.Fault
refusal_answer OutOfMemory = NoMemory

-- a read that waits for no other read gave this answer, and filled the buffer in this way
pub record ReturnsProgress (request : Reading) (answer : Progress) (old new : Terminal) (before now : TerminalState)
    (buffer filled : List ℕ) : Type 0 where
  pub outcome : MatchBool (is_refused answer) (BreaksOffEcho request old new before now)
      (Attempted (typed_attempt request old) answer new before now)
  pub driver : LeavesDriver answer before now
  pub stored : filled ≡ stored_over (if is_refused answer then [] else (typed_attempt request old).stored) buffer
