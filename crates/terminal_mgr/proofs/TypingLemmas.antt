-- Keys that are typed one after another.
use Rattle.std.proofs.Common.{◌≡◌, ℕ, ◌<◌, Option, Some, None, List, [], ◌∷◌, ◌++◌, length, drop, slice_get, refl, sym, ap, subst, ◌∙◌, append_assoc, append-nil}
use Rattle.os9_outer.specs.Stream.{stream_with}
use Rattle.io_model.specs.Edit.{Editing, Edited, HasLineRoom, Typing, typing, after_key, after_echo, after_typing}
use Rattle.io_model.specs.declared.edit.LineEnd.{LineEnd}
use Rattle.io_model.specs.Terminal.{key_effect, typed}
use Rattle.io_model.specs.declared.terminal.Reading.{Reading}
use Rattle.io_model.proofs.EditLemmas.{typing-append}
use Rattle.terminal_mgr.specs.Typing.{IsTyped}

-- twice is at once
pub stream_with-twice : (stream : Option (List ℕ)) (first second : List ℕ) → stream_with (stream_with stream first) second ≡ stream_with stream (first ++ second)
stream_with-twice None first second = refl
stream_with-twice (Some bytes) first second = rw append_assoc refl

-- nothing leaves it
pub stream_with-nothing : (stream : Option (List ℕ)) → stream_with stream [] ≡ stream
stream_with-nothing None = refl
stream_with-nothing (Some bytes) = rw append-nil refl

-- the first element, and the others
pub first-rest : (xs : List ℕ) (x : ℕ) → slice_get xs 0 ≡ Some x → xs ≡ x ∷ drop 1 xs
first-rest [] x h = absurd cc
first-rest (y ∷ ys) x h = let same : y ≡ x = cc in ap (λ (z : ℕ). z ∷ ys) same

pub no-first : (xs : List ℕ) → slice_get xs 0 ≡ None → xs ≡ []
no-first [] h = refl
no-first (y ∷ ys) h = absurd cc

-- what keys make of a line that they do not end
abbrev pub unended : Editing → List ℕ → Typing
unended line echo = record { line = line; echo = echo; end = None; left = [] }

-- the keys before those that are left were typed, and none of them ended the read
pub record TypedSoFar (step : Editing → ℕ → Edited) (old now : Editing) (ahead left : List ℕ) (before put : Option (List ℕ)) : Type 0 where
  pub front : List ℕ
  pub echo : List ℕ
  pub keys : ahead ≡ front ++ left
  pub typed : typing step old front ≡ unended now echo
  pub out : put ≡ stream_with before echo

module _ (step : Editing → ℕ → Edited) (old : Editing) where
  -- one key after what was typed
  typing-key : (front : List ℕ) (now : Editing) (echo : List ℕ) (key : ℕ) (left : List ℕ) → typing step old front ≡
      unended now echo → typing step old (front ++ key ∷ left) ≡ after_echo echo (after_key (step now key).end
      (step now key) left (typing step (step now key).line left))
  typing-key front now echo key left h = typing-append step old front (key ∷ left) ∙ ap (λ (t : Typing). after_typing step t (key ∷ left)) h

  -- the same, by what the key does
  key-ends : (front : List ℕ) (now : Editing) (echo : List ℕ) (key : ℕ) (left : List ℕ) (end : LineEnd)
      → typing step old front ≡ unended now echo → (step now key).end ≡ Some end
      → typing step old (front ++ key ∷ left) ≡ record {
        line = (step now key).line;
        echo = echo ++
            (step now key).echo;
        end = Some end;
        left = left;
      }
  key-ends front now echo key left end h e =
      typing-key front now echo key left h ∙ ap (λ (o : Option LineEnd). after_echo echo (after_key o (step now key) left (typing step (step now key).line left))) e

  key-goes-on : (front : List ℕ) (now : Editing) (echo : List ℕ) (key : ℕ) → typing step old front ≡ unended now echo
      → (step now key).end ≡ None → typing step old (front ++ key ∷ []) ≡ unended (step now key).line
      (echo ++ (step now key).echo)
  key-goes-on front now echo key h e =
      typing-key front now echo key [] h ∙ ap (λ (o : Option LineEnd). after_echo echo (after_key o (step now key) []
      (typing step (step now key).line []))) e ∙ ap (λ (bytes : List ℕ). unended (step now key).line
      (echo ++ bytes)) (append-nil (step now key).echo)

-- nothing was typed
pub none-typed : (step : Editing → ℕ → Edited) (old : Editing) (ahead : List ℕ) (before : Option (List ℕ)) → TypedSoFar step old old ahead ahead before before
none-typed step old ahead before =
    record { front = []; echo = []; keys = refl; typed = refl; out = sym (stream_with-nothing before) }

-- one key more was typed
pub one-more : (step : Editing → ℕ → Edited) (old now : Editing) (ahead left : List ℕ) (key : ℕ)
    (before put new : Option (List ℕ)) → TypedSoFar step old now ahead (key ∷ left) before put → (step now key).end ≡
    None → new ≡ stream_with put (step now key).echo → TypedSoFar step old (step now key).line ahead left before new
one-more step old now ahead left key before put new sofar e out =
    record {
      front = sofar.front ++ key ∷ [];
      echo = sofar.echo ++ (step now key).echo;
      keys = sofar.keys ∙ sym (append_assoc sofar.front (key ∷ []) left);
      typed = key-goes-on step old sofar.front now sofar.echo key sofar.typed e;
      out = out ∙ ap (λ (stream : Option (List ℕ)). stream_with stream (step now key).echo) sofar.out ∙ stream_with-twice before sofar.echo (step now key).echo;
    }

-- the key at the front of those that are left is typed, and its echo is put
module _ (request : Reading) (old now : Editing) (ahead here left : List ℕ) (before put new : Option (List ℕ))
    (key : ℕ) (line : Editing) (echo : List ℕ) (end : Option LineEnd) (sofar : TypedSoFar (key_effect request) old now
    ahead here before put) (first : here ≡ key ∷ left) (line_is : line ≡ (key_effect request now key).line)
    (echo_is : echo ≡ (key_effect request now key).echo) (end_is : end ≡ (key_effect request now key).end)
    (out : new ≡ stream_with put echo) where
  at_key : TypedSoFar (key_effect request) old now ahead (key ∷ left) before put
  at_key = let P : List ℕ → Type 0 = λ keys. TypedSoFar (key_effect request) old now ahead keys before put in subst P first sofar

  -- it does not end the read
  pub typed-on : end ≡ None → TypedSoFar (key_effect request) old line ahead left before new
  typed-on unended =
      let P : Editing → Type 0 = λ it. TypedSoFar (key_effect request) old it ahead left before new in
      subst P (sym line_is) (one-more (key_effect request) old now ahead left key before put new at_key (sym end_is ∙ unended) (out ∙ ap (stream_with put) echo_is))

  -- it ends the read
  pub typed-all : (which : LineEnd) → end ≡ Some which → IsTyped request (Some which) old line ahead left before new
  typed-all which ended =
      let whole : typed request old ahead ≡ record {
        line = (key_effect request now key).line;
        echo = at_key.echo ++
            (key_effect request now key).echo;
        end = Some which;
        left = left;
      } = ap (typed request old) at_key.keys ∙
      key-ends (key_effect request) old at_key.front now at_key.echo key left which at_key.typed
      (sym end_is ∙ ended) in
      record {
        line = line_is ∙ sym (ap (λ (it : Typing). it.line) whole);
        ended = sym (ap (λ (it : Typing). it.end) whole);
        left_is = sym (ap (λ (it : Typing). it.left) whole);
        echo = out ∙ ap (stream_with put) echo_is ∙ ap (λ (stream : Option (List ℕ)). stream_with stream
            (key_effect request now key).echo) at_key.out ∙ stream_with-twice before at_key.echo
            (key_effect request now key).echo ∙ ap (stream_with before) (sym (ap (λ (it : Typing). it.echo) whole));
      }

-- a line that may still be typed has room for a byte
pub room-left : (most : ℕ) (end : Option LineEnd) (line : Editing) → HasLineRoom most end line → end ≡ None → length line.bytes < most
room-left most None line room unended = room.more
room-left most (Some end) line room unended = absurd cc
