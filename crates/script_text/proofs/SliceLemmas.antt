-- The slices of a text, line after line.
use Rattle.std.proofs.Common.{◌≡◌, ◌≤◌, ◌<◌, ℕ, ◌+◌, ◌&&◌, Bool, true, false, nat_le, Option, Some, None, unwrap_or, option_map, Ok, Err, List, [], ◌∷◌, ◌++◌, All, length, sum, replicate, get_or, refl, sym, ap, ◌∙◌, arith, length-append, if◌then◌else◌}
use Rattle.std.specs.List.{flat_map, before_first}
use Rattle.std.specs.Option.{option_and_then}
use Rattle.std.proofs.lemmas.Bool.{and_parts, leb-true}
use Rattle.std.proofs.lemmas.List.Elements.{All-append, All-replicate}
use Rattle.std.proofs.lemmas.List.Sums.{sum_by-append}
use Rattle.text_values.specs.Number.{number_of, within}
use Rattle.script_text.specs.declared.slices.Total.{Total}
use Rattle.script_text.specs.Lines.{all_given, line_words, is_edged, text_lines}
use Rattle.script_text.specs.Slices.{word_slices, line_slices, are_few_slices, slice_number, times_of, from_asterisk, is_asterisk, slices_of, IsSlice, AreSlices}
use Rattle.script_text.specs.Totals.{total_with, total_within, IsWithinLimits}
use Rattle.script_text.proofs.TextLemmas.{all_given-Some, ReadSoFar, ReadSoFar-start, ReadSoFar-next, refused-unread, refused-passed, all_read}

-- the slices of the first lines, and their total
pub record SlicesSoFar (text : List ℕ) (place : ℕ) (slices : List ℕ) (total : Total) : Type 0 where
  pub so_far : ReadSoFar line_slices are_few_slices (text_lines text) place slices
  pub many : total.slices ≡ length slices
  pub long : total.instructions ≡ sum slices
  pub limits : IsWithinLimits total
  pub each : All IsSlice slices

-- ---- each slice of a text has a number of instructions from 1 to 1,000,000
range-at : (least most m n : ℕ) (test : Bool) → (nat_le least m && nat_le m most) ≡ test → (if test then Some m else None) ≡ Some n → (least ≤ n) × (n ≤ most)
range-at least most m n true is some =
    let same : m ≡ n = cc in
    let both = and_parts (nat_le least m) (nat_le m most) is in
    let above : least ≤ m = leb-true least m both.0 in
    let below : m ≤ most = leb-true m most both.1 in
    (omega arith, omega arith)
range-at least most m n false is some = absurd (cc)

pub range-as : (least most : ℕ) (number : Option ℕ) (n : ℕ) → within least most number ≡ Some n → (least ≤ n) × (n ≤ most)
range-as least most None n is = absurd (cc)
range-as least most (Some m) n is = range-at least most m n _ refl is

each-nil : All IsSlice []
each-nil k d below = absurd (omega arith)

each-repeated : (n : Option ℕ) (times : Option ℕ) → ((m : ℕ) → n ≡ Some m → IsSlice m) → All IsSlice (unwrap_or (option_and_then (λ m. option_map (λ k. replicate k m) times) n) [])
each-repeated None times range = each-nil
each-repeated (Some m) None range = each-nil
each-repeated (Some m) (Some k) range = All-replicate IsSlice k m (range m refl)

each-word : (word : List ℕ) → All IsSlice (unwrap_or (word_slices word) [])
each-word word =
    each-repeated (slice_number (before_first is_asterisk word)) (times_of (from_asterisk word))
    (λ m is. let range = range-as 1 1000000 (number_of (before_first is_asterisk word)) m is in record
    { least = range.0; most = range.1 })

each-words : (words : List (List ℕ)) → All IsSlice (flat_map (λ word. unwrap_or (word_slices word) []) words)
each-words [] = each-nil
each-words (word ∷ words) =
    All-append IsSlice (unwrap_or (word_slices word) []) (flat_map (λ w. unwrap_or (word_slices w) []) words) (each-word word) (each-words words)

-- ---- totals
within-none : (a b : ℕ) (test : Bool) → (nat_le a 1000000 && nat_le b 10000000) ≡ test → total_within a b ≡ None → test ≡ false
within-none a b true is none = absurd (let some : total_within a b ≡ Some (record { slices = a; instructions = b }) = simp is in cc)
within-none a b false is none = refl

within-some : (a b : ℕ) (next : Total) (test : Bool) → (nat_le a 1000000 && nat_le b 10000000) ≡ test → total_within a b ≡ Some next → test ≡ true
within-some a b next true is some = refl
within-some a b next false is some = absurd (let none : total_within a b ≡ None = simp is in cc)

within-fields : (a b : ℕ) (next : Total) (test : Bool) → (nat_le a 1000000 && nat_le b 10000000) ≡ test → total_within a b ≡ Some next → (next.slices ≡ a) × (next.instructions ≡ b)
within-fields a b next true is some =
    let at : total_within a b ≡ Some (record { slices = a; instructions = b }) = simp is in
    let same : next ≡ record { slices = a; instructions = b } = cc in
    (ap (λ t. t.slices) same, ap (λ t. t.instructions) same)
within-fields a b next false is some = absurd (let none : total_within a b ≡ None = simp is in cc)

-- nothing yet
pub SlicesSoFar-start : (text : List ℕ) → SlicesSoFar text 0 [] (record { slices = 0; instructions = 0 })
SlicesSoFar-start text = record {
  so_far = ReadSoFar-start line_slices are_few_slices (text_lines text);
  many = refl;
  long = refl;
  limits = record { few = omega arith; short = omega arith };
  each = each-nil;
}

-- all lines
pub SlicesSoFar-all : (text : List ℕ) (place : ℕ) (slices : List ℕ) (total : Total) → SlicesSoFar text place slices total → place ≡ length (text_lines text) → slices_of text ≡ Ok slices
SlicesSoFar-all text place slices total so_far all =
    all_read line_slices are_few_slices (text_lines text) place slices so_far.so_far (omega arith)

pub SlicesSoFar-limits : (text : List ℕ) (place : ℕ) (slices : List ℕ) (total : Total) → SlicesSoFar text place slices total → AreSlices slices
SlicesSoFar-limits text place slices total so_far = record {
  few = omega (arith, so_far.many, so_far.limits.few);
  each = so_far.each;
  total = omega (arith, so_far.long, so_far.limits.short);
}

module _ (text : List ℕ) (place : ℕ) (slices : List ℕ) (total : Total) (line : List ℕ)
    (so_far : SlicesSoFar text place slices total) (below : place < length (text_lines text))
    (is : line ≡ get_or (text_lines text) place line) where
  many-with : (added : List ℕ) → total.slices + length added ≡ length (slices ++ added)
  many-with added = omega (arith, length-append slices added, so_far.many)

  long-with : (added : List ℕ) → total.instructions + sum added ≡ sum (slices ++ added)
  long-with added = omega (arith, sum_by-append (λ (x : ℕ). x) slices added, so_far.long)

  refused-as : (read : Option (List ℕ)) → line_slices line ≡ read → None ≡ total_with total read → slices_of text ≡ Err (place + 1)
  refused-as None reads none =
      refused-unread line_slices are_few_slices (text_lines text) place slices line so_far.so_far below is reads
  refused-as (Some added) reads none =
      let passes : are_few_slices (slices ++ added) ≡ false = within-none (length (slices ++ added)) (sum (slices ++ added)) _ refl (rw (← many-with added, ← long-with added) (sym none)) in
      refused-passed line_slices are_few_slices (text_lines text) place slices added line so_far.so_far below is reads passes

  pub slices-refused : None ≡ total_with total (line_slices line) → slices_of text ≡ Err (place + 1)
  slices-refused none = refused-as (line_slices line) refl none

  next-as : (read : Option (List ℕ)) (next : Total) (now : List ℕ) → line_slices line ≡ read → Some next ≡ total_with
      total read → now ≡ slices ++ unwrap_or read [] → IsWithinLimits next → All IsSlice now
      → SlicesSoFar text (place + 1) now next
  next-as None next now reads some is_now limits each = absurd (cc)
  next-as (Some added) next now reads some is_now limits each =
      let within : total_within (length (slices ++ added)) (sum (slices ++ added)) ≡ Some next = rw (← many-with added, ← long-with added) (sym some) in
      let fields = within-fields (length (slices ++ added)) (sum (slices ++ added)) next _ refl within in
      let keeps : are_few_slices (slices ++ added) ≡ true = within-some (length (slices ++ added)) (sum (slices ++ added)) next _ refl within in
      record {
        so_far = rw is_now (ReadSoFar-next line_slices are_few_slices (text_lines text) place slices added line so_far.so_far below is reads keeps);
        many = fields.0 ∙ ap length (sym is_now);
        long = fields.1 ∙ ap sum (sym is_now);
        limits = limits;
        each = each;
      }

  given-as : (edged : Bool) (read : Option (List ℕ)) → is_edged line ≡ edged → line_slices line ≡ read
      → (next : Total) → Some next ≡ total_with total read → flat_map (λ word. unwrap_or (word_slices word) [])
      (line_words line) ≡ unwrap_or read []
  given-as edged None is_edge reads next some = absurd (cc)
  given-as true (Some added) is_edge reads next some = absurd (let none : line_slices line ≡ None = simp is_edge in cc)
  given-as false (Some added) is_edge reads next some =
      let all : all_given word_slices (line_words line) ≡ Some added = (let as_words : line_slices line ≡ all_given word_slices (line_words line) = simp is_edge in sym as_words ∙ reads) in
      all_given-Some word_slices (line_words line) added all

  -- a line that keeps the rules
  pub SlicesSoFar-next : (next : Total) (now : List ℕ) → Some next ≡ total_with total (line_slices line)
      → now ≡ slices ++ flat_map (λ word. unwrap_or (word_slices word) []) (line_words line) → IsWithinLimits next
      → SlicesSoFar text (place + 1) now next
  SlicesSoFar-next next now some is_now limits =
      let given = given-as (is_edged line) (line_slices line) refl refl next some in
      let each : All IsSlice now = rw is_now (All-append IsSlice slices (flat_map (λ word. unwrap_or (word_slices word) []) (line_words line)) so_far.each (each-words (line_words line))) in
      next-as (line_slices line) next now refl some (is_now ∙ ap (λ g. slices ++ g) given) limits each
