-- Typing in two parts.
use Rattle.std.proofs.Common.{◌≡◌, ℕ, Option, Some, None, List, [], ◌∷◌, ◌++◌, refl, sym, ap, ◌∙◌, append_assoc}
use Rattle.io_model.specs.Edit.{Editing, Edited, Typing, typing, used_up, after_echo, after_key, goes_on, after_typing}
use Rattle.io_model.specs.declared.edit.LineEnd.{LineEnd}

-- an echo before what goes on
echo-goes_on : (end : Option LineEnd) (step : Editing → ℕ → Edited) (echo : List ℕ) (rest : Typing) (later : List ℕ)
    → after_echo echo (goes_on end step rest later) ≡ goes_on end step (after_echo echo rest) later
echo-goes_on None step echo rest later =
    let on = typing step rest.line later in
    let with_echo : List ℕ → Typing = λ bytes. record on { echo = bytes } in
    ap with_echo (rw append_assoc refl)
echo-goes_on (Some end) step echo rest later = refl

after_key-cut : (end : Option LineEnd) (step : Editing → ℕ → Edited) (key : Edited) (first later : List ℕ)
    (rest : Typing) → after_key end key (first ++ later) (after_typing step rest later) ≡ after_typing step
    (after_key end key first rest) later
after_key-cut None step key first later rest = echo-goes_on rest.end step key.echo rest later
after_key-cut (Some end) step key first later rest = refl

-- keys that come in two parts
pub typing-append : (step : Editing → ℕ → Edited) (line : Editing) (first later : List ℕ) → typing step line (first ++ later) ≡ after_typing step (typing step line first) later
typing-append step line [] later = refl
typing-append step line (key ∷ first) later =
    ap (after_key (step line key).end (step line key) (first ++ later)) (typing-append step (step line key).line first
    later) ∙ after_key-cut (step line key).end step (step line key) first later (typing step (step line key).line
    first)

-- a key that ends the read is the last one used
front-ends : (step : Editing → ℕ → Edited) (line : Editing) (key : ℕ) (keys : List ℕ) (end : LineEnd)
    → (step line key).end ≡ Some end → typing step line (key ∷ []) ≡ used_up (typing step line (key ∷ keys))
front-ends step line key keys end ends =
    let by : Option LineEnd → List ℕ → Typing → Typing = λ o left rest. after_key o (step line key) left rest in
    let one : typing step line (key ∷ []) ≡ by (Some end) [] (typing step (step line key).line []) = ap (λ (o : Option LineEnd). by o [] (typing step (step line key).line [])) ends in
    let all : typing step line (key ∷ keys) ≡ by (Some end) keys (typing step (step line key).line keys) = ap (λ (o : Option LineEnd). by o keys (typing step (step line key).line keys)) ends in
    one ∙ sym (ap used_up all)

-- a key that does not end it is used before those behind it
front-goes_on : (step : Editing → ℕ → Edited) (line : Editing) (key : ℕ) (keys used : List ℕ)
    → (step line key).end ≡ None
    → typing step (step line key).line used ≡ used_up (typing step (step line key).line keys)
    → typing step line (key ∷ used) ≡ used_up (typing step line (key ∷ keys))
front-goes_on step line key keys used none rest =
    let by : Option LineEnd → List ℕ → Typing → Typing = λ o left it. after_key o (step line key) left it in
    let one : typing step line (key ∷ used) ≡ after_echo (step line key).echo (typing step (step line key).line
    used) = ap (λ (o : Option LineEnd). by o used (typing step (step line key).line used)) none in
    let all : typing step line (key ∷ keys) ≡ after_echo (step line key).echo (typing step (step line key).line
    keys) = ap (λ (o : Option LineEnd). by o keys (typing step (step line key).line keys)) none in
    one ∙ ap (after_echo (step line key).echo) rest ∙ sym (ap used_up all)

left-ends : (step : Editing → ℕ → Edited) (line : Editing) (key : ℕ) (keys : List ℕ) (end : LineEnd)
    → (step line key).end ≡ Some end → keys ≡ (typing step line (key ∷ keys)).left
left-ends step line key keys end ends =
    sym (ap (λ (o : Option LineEnd). (after_key o (step line key) keys (typing step (step line key).line keys)).left) ends)

left-goes_on : (step : Editing → ℕ → Edited) (line : Editing) (key : ℕ) (keys : List ℕ)
    → (step line key).end ≡ None → (typing step (step line key).line keys).left ≡ (typing step line (key ∷ keys)).left
left-goes_on step line key keys none =
    sym (ap (λ (o : Option LineEnd). (after_key o (step line key) keys (typing step (step line key).line keys)).left) none)

-- the keys that a read uses are at the front
abbrev pub UsesFront : (Editing → ℕ → Edited) → Editing → List ℕ → Type 0
UsesFront step line keys =
    (used : List ℕ) × (keys ≡ used ++ (typing step line keys).left)
    × (typing step line used ≡ used_up (typing step line keys))

uses-by : (step : Editing → ℕ → Edited) (line : Editing) (key : ℕ) (keys : List ℕ) (end : Option LineEnd)
    → (step line key).end ≡ end → UsesFront step (step line key).line keys → UsesFront step line (key ∷ keys)
uses-by step line key keys None ends rest = (
  key ∷ rest.0,
  ap (λ (left : List ℕ). key ∷ left) (rest.1 ∙ ap (λ (left : List ℕ). rest.0 ++ left) (left-goes_on step line key keys ends)),
  front-goes_on step line key keys rest.0 ends rest.2,
)
uses-by step line key keys (Some end) ends rest = (
  key ∷ [],
  ap (λ (left : List ℕ). key ∷ left) (left-ends step line key keys end ends),
  front-ends step line key keys end ends,
)

pub uses-front : (step : Editing → ℕ → Edited) (line : Editing) (keys : List ℕ) → UsesFront step line keys
uses-front step line [] = ([], refl, refl)
uses-front step line (key ∷ keys) =
    uses-by step line key keys (step line key).end refl (uses-front step (step line key).line keys)

all-by : (step : Editing → ℕ → Edited) (line : Editing) (key : ℕ) (keys : List ℕ) (end : Option LineEnd)
    → (step line key).end ≡ end
    → ((typing step (step line key).line keys).end ≡ None → (typing step (step line key).line keys).left ≡ [])
    → (typing step line (key ∷ keys)).end ≡ None → (typing step line (key ∷ keys)).left ≡ []
all-by step line key keys None ends rest none =
    let same : (typing step line (key ∷ keys)).end ≡ (typing step (step line key).line keys).end = ap
    (λ (o : Option LineEnd). (after_key o (step line key) keys (typing step (step line key).line keys)).end) ends
    in
    sym (left-goes_on step line key keys ends) ∙ rest (sym same ∙ none)
all-by step line key keys (Some end) ends rest none =
    let same : (typing step line (key ∷ keys)).end ≡ Some end = ap (λ (o : Option LineEnd). (after_key o (step line key) keys (typing step (step line key).line keys)).end) ends in
    absurd cc

pub uses-all : (step : Editing → ℕ → Edited) (line : Editing) (keys : List ℕ)
    → (typing step line keys).end ≡ None → (typing step line keys).left ≡ []
uses-all step line [] none = refl
uses-all step line (key ∷ keys) none =
    all-by step line key keys (step line key).end refl (uses-all step (step line key).line keys) none
