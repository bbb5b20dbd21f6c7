-- The key that ends a file is the last one that a read uses, and finds it with no byte.
use Rattle.std.proofs.Common.{◌≡◌, ℕ, ◌==◌, ◌&&◌, Bool, true, false, Option, Some, None, List, [], ◌∷◌, ◌++◌, length, refl, sym, ap, ◌∙◌, arith}
use Rattle.std.specs.Prelude.{nat_lt, ◌-◌, if◌then◌else◌}
use Rattle.std.proofs.lemmas.Bool.{eqb-true}
use Rattle.io_model.specs.Edit.{Editing, Edited, Typing, after_echo, after_key, backspaced, copied, deleted, duplicated, edited, escaped, file_ended, is_empty_line, is_last_byte, moved, refused_key, reprinted, returned, still_typing, typed_key, typing, with_bytes, screen_byte}
use Rattle.io_model.specs.declared.edit.LineEnd.{LineEnd}
use Rattle.io_model.specs.declared.edit.LineEnd.TheVariants.{Line, EndOfFile}
use Rattle.io_model.specs.declared.keys.TheConstants.{BACKSPACE, DELETE_LINE, REPRINT, DUPLICATE, RETURN, END_OF_FILE}
use Rattle.io_model.specs.Terminal.{effect_by}
use Rattle.io_model.specs.declared.terminal.ReadKind.{ReadKind}
use Rattle.io_model.specs.declared.terminal.ReadKind.TheVariants.{Bytes, WholeLine}

-- ---- one key

-- the key ends the file, and finds the line empty
pub record IsEndKey (line : Editing) (key : ℕ) (it : Edited) : Type 0 where
  pub key_is : key ≡ END_OF_FILE
  pub empty : line.bytes ≡ []
  pub ends : it ≡ file_ended line

no-line : Some Line ≡ Some EndOfFile → ⊥
no-line is = cc

no-end : None ≡ Some EndOfFile → ⊥
no-end is = cc

no-bytes : (bytes : List ℕ) → (length bytes == 0) ≡ true → bytes ≡ []
no-bytes [] is = refl
no-bytes (byte ∷ bytes) is =
    let none : length (byte ∷ bytes) ≡ 0 = eqb-true (length (byte ∷ bytes)) 0 is in
    absurd (omega (arith, none))

copied-ends : (most : ℕ) (line : Editing) (key : ℕ) → (copied most line key).end ≡ Some EndOfFile → IsEndKey line key (copied most line key)
unfolding copied
copied-ends most line key = by_tests (key == END_OF_FILE) (is_empty_line line) refl refl
  where
    by_last : (last : Bool) → (if last then Some Line else None) ≡ Some EndOfFile → ⊥
    by_last true is = no-line is
    by_last false is = no-end is

    by_tests : (ends empty : Bool) → (key == END_OF_FILE) ≡ ends → is_empty_line line ≡ empty
        → (if ends && empty then file_ended line else moved most line key).end ≡ Some EndOfFile → IsEndKey line key
        (if ends && empty then file_ended line else moved most line key)
    by_tests true true key_is none over =
        record { key_is = eqb-true key END_OF_FILE key_is; empty = no-bytes line.bytes none; ends = refl }
    by_tests true false key_is none over = absurd (by_last (is_last_byte most line key) over)
    by_tests false empty key_is none over = absurd (by_last (is_last_byte most line key) over)

edited-ends : (most : ℕ) (line : Editing) (key : ℕ) → (edited most line key).end ≡ Some EndOfFile → IsEndKey line key (edited most line key)
unfolding edited
edited-ends most line key =
    by_tests (key == BACKSPACE) (key == DELETE_LINE) (key == REPRINT) (key == DUPLICATE) (key == RETURN) (key == END_OF_FILE) refl
  where
    by_empty : (empty : Bool) → is_empty_line line ≡ empty → key ≡ END_OF_FILE
        → (if empty then file_ended line else refused_key line).end ≡ Some EndOfFile → IsEndKey line key
        (if empty then file_ended line else refused_key line)
    by_empty true none key_is over = record { key_is = key_is; empty = no-bytes line.bytes none; ends = refl }
    by_empty false none key_is over = absurd (no-end over)

    by_room : (room : Bool) → (if room then still_typing (with_bytes line (line.bytes ++ key ∷ [])) (screen_byte key ∷ []) else refused_key line).end ≡ Some EndOfFile → ⊥
    by_room true over = no-end over
    by_room false over = no-end over

    by_tests : (back delete reprint again return ends : Bool) → (key == END_OF_FILE) ≡ ends
        → (if back then backspaced line else (if delete then deleted line else (if reprint then reprinted line else
        (if again then duplicated most line else (if return then returned line else (if ends then escaped line else
        typed_key most line key)))))).end ≡ Some EndOfFile → IsEndKey line key (if back then backspaced line else
        (if delete then deleted line else (if reprint then reprinted line else (if again then duplicated most line
        else (if return then returned line else (if ends then escaped line else typed_key most line key))))))
    by_tests true delete reprint again return ends is over = absurd (no-end over)
    by_tests false true reprint again return ends is over = absurd (no-end over)
    by_tests false false true again return ends is over = absurd (no-end over)
    by_tests false false false true return ends is over = absurd (no-end over)
    by_tests false false false false true ends is over = absurd (no-line over)
    by_tests false false false false false true is over =
        by_empty (is_empty_line line) refl (eqb-true key END_OF_FILE is) over
    by_tests false false false false false false is over =
        absurd (by_room (nat_lt (length line.bytes) (most - 1)) over)

-- a key of a read
pub effect-ends : (kind : ReadKind) (most : ℕ) (line : Editing) (key : ℕ) → (effect_by kind most line key).end ≡ Some EndOfFile → IsEndKey line key (effect_by kind most line key)
effect-ends Bytes most line key = copied-ends most line key
effect-ends WholeLine most line key = edited-ends most line key

-- ---- keys

-- what keys make of a line whose last one ends the file: what those before it make
abbrev pub up_to_end : Typing → List ℕ → Typing
up_to_end typed rest = record { line = typed.line; echo = typed.echo; end = Some EndOfFile; left = rest }

pub record EndsIn (step : Editing → ℕ → Edited) (line : Editing) (keys : List ℕ) : Type 0 where
  pub front : List ℕ
  pub rest : List ℕ
  pub keys_are : keys ≡ front ++ END_OF_FILE ∷ rest
  pub unfinished : (typing step line front).end ≡ None
  pub empty : (typing step line front).line.bytes ≡ []
  pub whole : typing step line keys ≡ up_to_end (typing step line front) rest

module _ (step : Editing → ℕ → Edited) (one : (line : Editing) (key : ℕ) → (step line key).end ≡ Some EndOfFile → IsEndKey line key (step line key)) where
  -- what is made of a key and those behind it, by how it ends
  by-end : (line : Editing) (key : ℕ) (keys : List ℕ) (end : Option LineEnd) → (step line key).end ≡ end
      → typing step line (key ∷ keys) ≡ after_key end (step line key) keys (typing step (step line key).line keys)
  by-end line key keys end is =
      ap (λ (o : Option LineEnd). after_key o (step line key) keys (typing step (step line key).line keys)) is

  at-once : (line : Editing) (key : ℕ) (keys : List ℕ) → (step line key).end ≡ Some EndOfFile → EndsIn step line (key ∷ keys)
  at-once line key keys ends =
      let it : IsEndKey line key (step line key) = one line key ends in
      let whole : typing step line (key ∷ keys) ≡ after_key (Some EndOfFile) (step line key) keys (typing step (step line key).line keys) = by-end line key keys (Some EndOfFile) ends in
      record {
        front = [];
        rest = keys;
        keys_are = ap (λ (key : ℕ). key ∷ keys) it.key_is;
        unfinished = refl;
        empty = it.empty;
        whole =
            whole ∙ ap (λ (made : Edited). let t : Typing = record { line = made.line; echo = made.echo; end = Some EndOfFile; left = keys } in t) it.ends;
      }

  later : (line : Editing) (key : ℕ) (keys : List ℕ) → (step line key).end ≡ None → EndsIn step (step line key).line keys → EndsIn step line (key ∷ keys)
  later line key keys none rest =
      let front : typing step line (key ∷ rest.front) ≡ after_echo (step line key).echo (typing step (step line key).line rest.front) = by-end line key rest.front None none in
      record {
        front = key ∷ rest.front;
        rest = rest.rest;
        keys_are = ap (λ (keys : List ℕ). key ∷ keys) rest.keys_are;
        unfinished = ap (λ (t : Typing). t.end) front ∙ rest.unfinished;
        empty = ap (λ (t : Typing). t.line.bytes) front ∙ rest.empty;
        whole =
            by-end line key keys None none ∙ ap (after_echo (step line key).echo) rest.whole ∙ sym (ap (λ (t : Typing). up_to_end t rest.rest) front);
      }

  pub ends-in : (line : Editing) (keys : List ℕ) → (typing step line keys).end ≡ Some EndOfFile → EndsIn step line keys
  ends-in line [] over = absurd (no-end over)
  ends-in line (key ∷ keys) over = by_key (step line key).end refl (ends-in (step line key).line keys)
    where
      by_key : (end : Option LineEnd) → (step line key).end ≡ end → ((typing step (step line key).line keys).end ≡
          Some EndOfFile → EndsIn step (step line key).line keys) → EndsIn step line (key ∷ keys)
      by_key None is rest =
          later line key keys is (rest (sym (ap (λ (t : Typing). t.end) (by-end line key keys None is)) ∙ over))
      by_key (Some EndOfFile) is rest = at-once line key keys is
      by_key (Some Line) is rest =
          absurd (no-line (sym (ap (λ (t : Typing). t.end) (by-end line key keys (Some Line) is)) ∙ over))
