-- A text, line after line.
use Rattle.std.proofs.Common.{◌≡◌, ◌≤◌, ◌<◌, ℕ, ◌+◌, ◌||◌, not, Bool, true, false, Option, Some, None, is_none, unwrap_or, option_map, Result, Ok, Err, List, [], ◌∷◌, ◌++◌, length, take, get_or, refl, sym, ap, ◌∙◌, arith, zero-add, below_more}
use Rattle.std.specs.List.{position, position_or_len, flat_map, range_with_len}
use Rattle.std.specs.Option.{option_and_then, option_map_or}
use Rattle.std.proofs.lemmas.Bool.{lt-ltb, le-ltb}
use Rattle.std.proofs.lemmas.List.{take_more, take_all, flat_map_more, get_or_default}
use Rattle.std.proofs.lemmas.List.FromFn.{get_or-range_with_len, length-range_with_len}
use Rattle.std.proofs.lemmas.List.Sums.{position_or_len_is}
use Rattle.script_text.specs.Lines.{all_given, lines_give, is_broken, first_broken}

-- ---- places of a range
first_place : (test : ℕ → Bool) (n place : ℕ) → place ≤ n → ((k : ℕ) → k < place → test k ≡ false) → (place < n → test place ≡ true) → position_or_len test (range_with_len 0 n) ≡ place
first_place test n place within before here =
    position_or_len_is test (range_with_len 0 n) place 0 (rw (length-range_with_len 0 n) within)
    (λ k below. let at : get_or (range_with_len 0 n) k 0 ≡ k = get_or-range_with_len 0 n k 0 (omega arith) ∙ zero-add k in rw at (before k below))
    (λ long. let below : place < n = omega (arith, length-range_with_len 0 n) in let at : get_or (range_with_len 0 n)
    place 0 ≡ place = get_or-range_with_len 0 n place 0 below ∙ zero-add place in rw at (here below))

pub position-at : (test : ℕ → Bool) (n place : ℕ) → place < n → ((k : ℕ) → k < place → test k ≡ false) → test place ≡ true → position test (range_with_len 0 n) ≡ Some place
position-at test n place below before here =
    let at : position_or_len test (range_with_len 0 n) ≡ place = first_place test n place (omega arith) before (λ _. here) in
    rw (at, length-range_with_len 0 n, lt-ltb place n below) refl

pub position-none : (test : ℕ → Bool) (n : ℕ) → ((k : ℕ) → k < n → test k ≡ false) → position test (range_with_len 0 n) ≡ None
position-none test n before =
    let at : position_or_len test (range_with_len 0 n) ≡ n = first_place test n n (omega arith) before (λ bad. absurd (omega arith)) in
    rw (at, length-range_with_len 0 n, le-ltb n n (omega arith)) refl

-- ---- what words give
given-word : {A : Type 0} (first : Option (List A)) (others : Option (List A)) (then : List A) (given : List A)
    → ((g : List A) → others ≡ Some g → then ≡ g) → option_and_then (λ f. option_map (λ r. f ++ r) others) first ≡
    Some given → unwrap_or first [] ++ then ≡ given
given-word None others then given same is = absurd (cc)
given-word (Some first) None then given same is = absurd (cc)
given-word (Some first) (Some others) then given same is =
    let these : first ++ others ≡ given = cc in
    rw (same others refl) these

pub all_given-Some : {A : Type 0} (read : List ℕ → Option (List A)) (words : List (List ℕ)) (given : List A)
    → all_given read words ≡ Some given → flat_map (λ word. unwrap_or (read word) []) words ≡ given
all_given-Some read [] given is = let same : [] ≡ given = cc in same
all_given-Some read (word ∷ words) given is =
    given-word (read word) (all_given read words) _ given (all_given-Some read words) is

module _ {A : Type 0} (read : List ℕ → Option (List A)) (allowed : List A → Bool) (lines : List (List ℕ)) where
  -- none of the first lines breaks a rule, and this is what they give
  pub record ReadSoFar (place : ℕ) (given : List A) : Type 0 where
    pub kept : (k : ℕ) → k < place → is_broken read allowed lines k ≡ false
    pub items : given ≡ lines_give read (take place lines)

  abbrev pub outcome : Result (List A) ℕ
  outcome = option_map_or (λ place. Err (place + 1)) (first_broken read allowed lines) (Ok (lines_give read lines))

  give-next : (place : ℕ) (given : List A) (line : List ℕ) → ReadSoFar place given → place < length lines
      → line ≡ get_or lines place line → lines_give read (take (place + 1) lines) ≡ given ++ unwrap_or (read line) []
  give-next place given line so_far below is =
      let next : take (place + 1) lines ≡ take place lines ++ line ∷ [] = take_more lines place line below ∙ ap (λ l. take place lines ++ l ∷ []) (sym is) in
      ap (lines_give read) next
      ∙ sym (flat_map_more (λ l. unwrap_or (read l) []) [] (take place lines) line)
      ∙ ap (λ g. g ++ unwrap_or (read line) []) (sym so_far.items)

  -- nothing is read of nothing
  pub ReadSoFar-start : ReadSoFar 0 []
  ReadSoFar-start = record { kept = λ k below. absurd (omega arith); items = refl }

  here : (place : ℕ) (line : List ℕ) → place < length lines → line ≡ get_or lines place line → get_or lines place [] ≡ line
  here place line below is = sym (is ∙ get_or_default lines place line [] below)

  broken-as : (place : ℕ) (given : List A) (line : List ℕ) → ReadSoFar place given → place < length lines
      → line ≡ get_or lines place line → is_broken read allowed lines place ≡ (is_none (read line) || not
      (allowed (given ++ unwrap_or (read line) [])))
  broken-as place given line so_far below is = rw (here place line below is, give-next place given line so_far below is) refl

  -- a line that keeps the rules
  pub ReadSoFar-next : (place : ℕ) (given added : List A) (line : List ℕ) → ReadSoFar place given
      → place < length lines → line ≡ get_or lines place line → read line ≡ Some added → allowed (given ++ added) ≡
      true → ReadSoFar (place + 1) (given ++ added)
  ReadSoFar-next place given added line so_far below is reads keeps =
      let whole : is_broken read allowed lines place ≡ false = broken-as place given line so_far below is ∙ simp (reads, keeps) in
      record {
        kept = below_more (λ k. is_broken read allowed lines k ≡ false) place so_far.kept whole;
        items = sym (give-next place given line so_far below is ∙ ap (λ r. given ++ unwrap_or r []) reads);
      }

  refused : (place : ℕ) (given : List A) → ReadSoFar place given → place < length lines → is_broken read allowed lines place ≡ true → outcome ≡ Err (place + 1)
  refused place given so_far below broken =
      ap (λ o. option_map_or (λ p. Err (p + 1)) o (Ok (lines_give read lines))) (position-at (is_broken read allowed lines) (length lines) place below so_far.kept broken)

  -- a line that is refused by itself, and one that passes a limit
  pub refused-unread : (place : ℕ) (given : List A) (line : List ℕ) → ReadSoFar place given → place < length lines → line ≡ get_or lines place line → read line ≡ None → outcome ≡ Err (place + 1)
  refused-unread place given line so_far below is reads =
      refused place given so_far below (broken-as place given line so_far below is ∙ simp reads)

  pub refused-passed : (place : ℕ) (given added : List A) (line : List ℕ) → ReadSoFar place given
      → place < length lines → line ≡ get_or lines place line → read line ≡ Some added → allowed (given ++ added) ≡
      false → outcome ≡ Err (place + 1)
  refused-passed place given added line so_far below is reads passes =
      refused place given so_far below (broken-as place given line so_far below is ∙ simp (reads, passes))

  -- all lines
  pub all_read : (place : ℕ) (given : List A) → ReadSoFar place given → length lines ≤ place → outcome ≡ Ok given
  all_read place given so_far all =
      ap (λ o. option_map_or (λ p. Err (p + 1)) o (Ok (lines_give read lines))) (position-none (is_broken read allowed lines) (length lines) (λ k below. so_far.kept k (omega arith)))
      ∙ ap (λ ls. Ok (lines_give read ls)) (sym (take_all place lines all))
      ∙ ap Ok (sym so_far.items)
