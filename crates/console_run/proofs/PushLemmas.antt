-- What is appended to a text.
use Rattle.std.proofs.Common.{◌≡◌, ◌<◌, ℕ, ◌+◌, List, [], ◌∷◌, ◌++◌, All, length, take, get_or, sym, ap, ◌∙◌, subst, append_assoc, append-nil}
use Rattle.std.specs.Prelude.{codes, decimal}
use Rattle.std.specs.List.{flat_map}
use Rattle.std.proofs.lemmas.List.{take_more}
use Rattle.std.proofs.lemmas.List.Concat.{flat_map-append}
use Rattle.std.proofs.lemmas.List.Elements.{All-append, All-cons, All-nil}
use Rattle.console_run.specs.Texts.{byte_word, script_line}
use Rattle.console_run.specs.Typed.{part_bytes}
use Rattle.console_run.specs.declared.typed.TypedPart.{TypedPart}

pub word-behind : (text : List ℕ) (a b c : ℕ) → ((text ++ a ∷ []) ++ b ∷ []) ++ c ∷ [] ≡ text ++ a ∷ b ∷ c ∷ []
word-behind text a b c = ap (λ (front : List ℕ). front ++ c ∷ []) (append_assoc text (a ∷ []) (b ∷ [])) ∙ append_assoc text (a ∷ b ∷ []) (c ∷ [])

-- the parts of the line of a script
pub line-behind : (text : List ℕ) (line : TypedPart)
    → ((((text ++ decimal line.tick) ++ codes " TERM") ++ flat_map byte_word line.bytes.items) ++ byte_word line.last) ++ 10 ∷ [] ≡ text ++ script_line line
line-behind text line =
    let tick : List ℕ = decimal line.tick in
    let words : List ℕ = flat_map byte_word (part_bytes line) in
    ap (λ (front : List ℕ). front ++ 10 ∷ []) (append_assoc ((text ++ tick) ++ codes " TERM") (flat_map byte_word line.bytes.items) (byte_word line.last))
    ∙ ap (λ (keys : List ℕ). (((text ++ tick) ++ codes " TERM") ++ keys) ++ 10 ∷ []) (sym (flat_map-append byte_word line.bytes.items (line.last ∷ [])))
    ∙ ap (λ (front : List ℕ). (front ++ words) ++ 10 ∷ []) (append_assoc text tick (codes " TERM"))
    ∙ ap (λ (front : List ℕ). front ++ 10 ∷ []) (append_assoc text (tick ++ codes " TERM") words)
    ∙ append_assoc text ((tick ++ codes " TERM") ++ words) (10 ∷ [])

-- what the elements of a list give, with one more
module _ {X : Type 0} (give : X → List ℕ) (xs : List X) (place : ℕ) (d : X) (below : place < length xs) where
  pub gives-more : (text mid new : List ℕ) → mid ≡ text ++ flat_map give (take place xs) → new ≡ mid ++ give (get_or xs place d) → new ≡ text ++ flat_map give (take (place + 1) xs)
  gives-more text mid new so_far more =
      let here : List ℕ = give (get_or xs place d) in
      more
      ∙ ap (λ (front : List ℕ). front ++ here) so_far
      ∙ append_assoc text (flat_map give (take place xs)) here
      ∙ ap (λ (rest : List ℕ). text ++ (flat_map give (take place xs) ++ rest)) (sym (append-nil here))
      ∙ ap (λ (rest : List ℕ). text ++ rest) (sym (flat_map-append give (take place xs) (get_or xs place d ∷ [])))
      ∙ ap (λ (front : List X). text ++ flat_map give front) (sym (take_more xs place d below))

  pub all-more : (P : X → Type 0) → All P (take place xs) → P (get_or xs place d) → All P (take (place + 1) xs)
  all-more P all here =
      subst (All P) (sym (take_more xs place d below)) (All-append P (take place xs) (get_or xs place d ∷ []) all (All-cons P (get_or xs place d) [] here (All-nil P)))

-- the same of an element that is told by itself
module _ {X : Type 0} (give : X → List ℕ) (xs : List X) (place : ℕ) (x : X) (below : place < length xs) (is : x ≡ get_or xs place x) where
  pub gives-next : (text mid new : List ℕ) → mid ≡ text ++ flat_map give (take place xs) → new ≡ mid ++ give x → new ≡ text ++ flat_map give (take (place + 1) xs)
  gives-next text mid new so_far more = gives-more give xs place x below text mid new so_far (more ∙ ap (λ (here : X). mid ++ give here) is)

  pub all-next : (P : X → Type 0) → All P (take place xs) → P x → All P (take (place + 1) xs)
  all-next P all here = all-more give xs place x below P all (subst P is here)
