-- Indexed operands without a number are read as the postbyte that has them.
use Rattle.std.proofs.Common.{◌≡◌, ℕ, ◌+◌, ◌-◌, ◌<◌, ◌≤◌, ◌==◌, ◌&&◌, ◌||◌, Bool, true, false, Option, Some, None, ◌⊎◌, inl, inr, List, [], ◌∷◌, ◌++◌, map, refl, ap, sym, subst, ◌∙◌, arith}
use Rattle.std.specs.Prelude.{if◌then◌else◌}
use Rattle.std.specs.List.{find, range_with_len, slice_split, list_any}
use Rattle.std.specs.Char.{to_ascii_lowercase}
use Rattle.std.specs.Str.{bytes_eq, str_to_ascii_lowercase}
use Rattle.std.proofs.lemmas.Bool.{and_parts}
use Rattle.std.proofs.lemmas.Bool.Decides.{nat_tests}
use Rattle.std.proofs.lemmas.List.{map-append}
use Rattle.cpu_model.specs.declared.indexing.Indexing.{Indexing}
use Rattle.cpu_model.specs.Reading.{extent_of_form}
use Rattle.cpu_model.specs.Table.{postbyte, form_lines}
use Rattle.asm_model.specs.declared.operand.Mark.{Mark}
use Rattle.asm_model.specs.declared.operand.Mark.TheVariants as mark
use Rattle.asm_model.specs.Characters.{same_word, is_comma, is_hash, is_opening, is_less}
use Rattle.asm_model.specs.Print.{plain_index, in_brackets}
use Rattle.asm_model.specs.Operands.{is_bare, bare_post, is_bare_extent, mark_of}
use Rattle.asm_model.proofs.Commas.{split_comma}
use Rattle.asm_model.proofs.Finite.{on_range}
use Rattle.asm_lines.proofs.Joined.{one-part}
use Rattle.asm_lines.proofs.Lists.{found-passes, found-in, in-range}
use Rattle.asm_lines.proofs.Names.{bytes_same, lower-any}

abbrev text_of : Indexing → List ℕ
text_of meaning = in_brackets meaning.2 (plain_index meaning.0 meaning.1)

abbrev is_bare_form : Indexing → Bool
is_bare_form meaning = is_bare_extent (extent_of_form meaning.0)

-- the search for a text in lower case
abbrev is_bare_low : List ℕ → Option Indexing → Bool
is_bare_low low None = false
is_bare_low low (Some i) = is_bare_form i && bytes_eq (str_to_ascii_lowercase (text_of i)) low

abbrev bare_low : List ℕ → Option ℕ
bare_low low = find (λ post. is_bare_low low (postbyte post)) (range_with_len 128 128)

-- the postbyte of the text of this meaning, and the mark of that text
abbrev if_bare : {A : Type 0} → A → (Indexing → A) → Option Indexing → A
if_bare other f None = other
if_bare other f (Some i) = if is_bare_form i then f i else other

again : map (λ post. if_bare (Some post) (λ i. bare_low (str_to_ascii_lowercase (text_of i))) (postbyte post)) (range_with_len 128 128) ≡ map Some (range_with_len 128 128)
unfolding postbyte form_lines
again = refl

marks : map (λ post. if_bare mark.Indexed (λ i. mark_of (str_to_ascii_lowercase (text_of i))) (postbyte post)) (range_with_len 128 128) ≡ map (λ post. mark.Indexed) (range_with_len 128 128)
unfolding postbyte form_lines
marks = refl

-- the text before the comma of one without a number, in lower case: nothing or an accumulator, perhaps behind a bracket
abbrev pub is_bare_front : List ℕ → Bool
is_bare_front [] = true
is_bare_front (c ∷ []) = (c == 97) || ((c == 98) || (c == 100))
is_bare_front _ = false

abbrev pub without_opening : List ℕ → List ℕ
without_opening [] = []
without_opening (c ∷ text) = if is_opening c then text else c ∷ text

abbrev has_bare_parts : List (List ℕ) → Bool
has_bare_parts (front ∷ back ∷ []) = is_bare_front (without_opening front)
has_bare_parts _ = false

parts : map (λ post. if_bare true (λ i. has_bare_parts (slice_split is_comma (str_to_ascii_lowercase (text_of i)))) (postbyte post)) (range_with_len 128 128)
    ≡ map (λ post. true) (range_with_len 128 128)
unfolding postbyte form_lines
parts = refl

-- ---- marks in lower case

pub lower-mark : (k c : ℕ) → (k < 65) ⊎ (k ≡ 91) → (to_ascii_lowercase c == k) ≡ (c == k)
lower-mark k c (inl below) = grind (arith, nat_tests)
lower-mark k c (inr is) = grind (arith, nat_tests)

abbrev marked_as : Bool → Bool → Bool → Mark
marked_as hash index less =
    if hash then mark.Immediate else (if index then mark.Indexed else (if less then mark.Direct else mark.Address))

low-mark : (text : List ℕ) → mark_of (str_to_ascii_lowercase text) ≡ mark_of text
low-mark [] = refl
low-mark (c ∷ text) =
    ap (λ b. marked_as b (is_opening (to_ascii_lowercase c) || list_any is_comma (str_to_ascii_lowercase (c ∷ text))) (is_less (to_ascii_lowercase c))) (lower-mark 35 c (inl (omega arith)))
    ∙ ap (λ b. marked_as (is_hash c) (b || list_any is_comma (str_to_ascii_lowercase (c ∷ text))) (is_less (to_ascii_lowercase c))) (lower-mark 91 c (inr refl))
    ∙ ap (λ b. marked_as (is_hash c) (is_opening c || b) (is_less (to_ascii_lowercase c))) (lower-any 44 (omega arith) (c ∷ text))
    ∙ ap (λ b. marked_as (is_hash c) (is_opening c || list_any is_comma (c ∷ text)) b) (lower-mark 60 c (inl (omega arith)))

-- ---- a text of a postbyte

module _ (post : ℕ) (from : 128 ≤ post) (below : post < 256) (i : Indexing) (is : postbyte post ≡ Some i) (bare : is_bare_form i ≡ true)
    (text : List ℕ) (same : same_word (text_of i) text ≡ true) where
  lows : str_to_ascii_lowercase (text_of i) ≡ str_to_ascii_lowercase text
  lows = bytes_same _ _ same

  place : 128 + (post - 128) ≡ post
  place = omega arith

  agrees : {A : Type 0} (f g : ℕ → A) → map f (range_with_len 128 128) ≡ map g (range_with_len 128 128) → f post ≡ g post
  agrees f g e = let here = on_range f g 128 128 e (post - 128) (omega arith) in subst (λ (n : ℕ). f n ≡ g n) place here

  pick : {A : Type 0} (other : A) (f : Indexing → A) → if_bare other f (postbyte post) ≡ f i
  pick other f = ap (if_bare other f) is ∙ ap (λ (b : Bool). if b then f i else other) bare

  -- is read as it
  pub bare-read : bare_post text ≡ Some post
  bare-read =
      ap bare_low (sym lows) ∙ sym (pick (Some post) (λ i. bare_low (str_to_ascii_lowercase (text_of i))))
      ∙ agrees (λ post. if_bare (Some post) (λ i. bare_low (str_to_ascii_lowercase (text_of i))) (postbyte post)) Some again

  -- and has the mark of an indexed operand
  pub bare-mark : mark_of text ≡ mark.Indexed
  bare-mark =
      sym (low-mark text) ∙ ap mark_of (sym lows) ∙ sym (pick mark.Indexed (λ i. mark_of (str_to_ascii_lowercase (text_of i))))
      ∙ agrees (λ post. if_bare mark.Indexed (λ i. mark_of (str_to_ascii_lowercase (text_of i))) (postbyte post)) (λ post. mark.Indexed) marks

  -- and two parts
  bare-parts : has_bare_parts (slice_split is_comma (str_to_ascii_lowercase text)) ≡ true
  bare-parts =
      ap (λ low. has_bare_parts (slice_split is_comma low)) (sym lows) ∙ sym (pick true (λ i. has_bare_parts (slice_split is_comma (str_to_ascii_lowercase (text_of i)))))
      ∙ agrees (λ post. if_bare true (λ i. has_bare_parts (slice_split is_comma (str_to_ascii_lowercase (text_of i)))) (postbyte post)) (λ post. true) parts

-- ---- what is read as a postbyte

-- the text is that of this postbyte
pub record IsBare (text : List ℕ) (post : ℕ) : Type 0 where
  pub meaning : Indexing
  pub from : 128 ≤ post
  pub below : post < 256
  pub is : postbyte post ≡ Some meaning
  pub form : is_bare_form meaning ≡ true
  pub same : same_word (text_of meaning) text ≡ true

meant : (text : List ℕ) (post : ℕ) → 128 ≤ post → post < 256 → (m : Option Indexing) → postbyte post ≡ m → is_bare text m ≡ true → IsBare text post
meant text post from below None is passes = absurd (cc)
meant text post from below (Some i) is passes =
    let both = and_parts (is_bare_form i) (same_word (text_of i) text) passes in
    record { meaning = i; from = from; below = below; is = is; form = both.0; same = both.1 }

pub bare-back : (text : List ℕ) (post : ℕ) → bare_post text ≡ Some post → IsBare text post
bare-back text post is =
    let range = in-range post 128 128 (found-in (λ post. is_bare text (postbyte post)) post (range_with_len 128 128) is) in
    meant text post range.0 (omega (arith, range.1)) (postbyte post) refl (found-passes (λ post. is_bare text (postbyte post)) post (range_with_len 128 128) is)

bare-none : (text : List ℕ) → has_bare_parts (slice_split is_comma (str_to_ascii_lowercase text)) ≡ false → bare_post text ≡ None
bare-none text other = by-post (bare_post text) refl
  where
    by-post : (o : Option ℕ) → bare_post text ≡ o → bare_post text ≡ None
    by-post None is = is
    by-post (Some post) is =
        let b = bare-back text post is in
        let both : true ≡ false = sym (bare-parts post b.from b.below b.meaning b.is b.form text b.same) ∙ other in
        absurd (cc)

low-split : (front rest : List ℕ) → list_any is_comma front ≡ false →
    slice_split is_comma (str_to_ascii_lowercase (front ++ (44 ∷ rest))) ≡ str_to_ascii_lowercase front ∷ slice_split is_comma (str_to_ascii_lowercase rest)
low-split front rest free =
    ap (slice_split is_comma) (map-append to_ascii_lowercase front (44 ∷ rest))
    ∙ split_comma (str_to_ascii_lowercase front) (str_to_ascii_lowercase rest) (lower-any 44 (omega arith) front ∙ free)

other-parts : (front : List ℕ) (rest : List (List ℕ)) → is_bare_front (without_opening front) ≡ false → has_bare_parts (front ∷ rest) ≡ false
other-parts front [] other = refl
other-parts front (back ∷ []) other = other
other-parts front (back ∷ third ∷ rest) other = refl

-- a text is none with another front
pub front-none : (front rest : List ℕ) → list_any is_comma front ≡ false → is_bare_front (without_opening (str_to_ascii_lowercase front)) ≡ false → bare_post (front ++ (44 ∷ rest)) ≡ None
front-none front rest free other =
    bare-none (front ++ (44 ∷ rest))
    (ap has_bare_parts (low-split front rest free) ∙ other-parts (str_to_ascii_lowercase front) (slice_split is_comma (str_to_ascii_lowercase rest)) other)

-- and a text without a comma is none
pub comma-none : (text : List ℕ) → list_any is_comma text ≡ false → bare_post text ≡ None
comma-none text free =
    bare-none text (ap has_bare_parts (one-part (str_to_ascii_lowercase text) (lower-any 44 (omega arith) text ∙ free)))
