-- The total of words, one after another.
use Rattle.std.proofs.Common.{◌≡◌, ◌≤◌, ◌<◌, ℕ, ◌+◌, ◌&&◌, true, nat_le, Option, Some, None, option_map, inl, inr, List, [], ◌∷◌, ◌++◌, length, sum, refl, sym, ap, subst, ◌∙◌, arith, add-zero, length-append, false, replicate, ◌*◌}
use Rattle.std.specs.Option.{option_and_then}
use Rattle.std.proofs.lemmas.Bool.{cases_lt, le-leb, lt-leb, and_right}
use Rattle.std.proofs.lemmas.List.{length-replicate}
use Rattle.std.proofs.lemmas.List.Folds.{sum_by-replicate}
use Rattle.std.proofs.lemmas.List.Sums.{sum_by-append}
use Rattle.script_text.specs.declared.slices.Total.{Total}
use Rattle.script_text.specs.Lines.{all_given, line_words, is_edged}
use Rattle.script_text.specs.Slices.{word_slices, line_slices}
use Rattle.script_text.specs.Totals.{total_with, total_within, IsWithinLimits}

-- numbers that keep the limits, and numbers that pass one
pub total_within-kept : (slices instructions : ℕ) → slices ≤ 1000000 → instructions ≤ 10000000 → total_within slices instructions ≡ Some (record { slices = slices; instructions = instructions })
total_within-kept slices instructions few short =
    simp (le-leb slices 1000000 few, le-leb instructions 10000000 short)

pub total_within-many : (slices instructions : ℕ) → 1000000 < slices → total_within slices instructions ≡ None
total_within-many slices instructions many = simp (lt-leb slices 1000000 many)

pub total_within-long : (slices instructions : ℕ) → 10000000 < instructions → total_within slices instructions ≡ None
total_within-long slices instructions long =
    let over : (nat_le slices 1000000 && nat_le instructions 10000000) ≡ false = and_right (nat_le slices 1000000) (nat_le instructions 10000000) (lt-leb instructions 10000000 long) in
    simp over

-- slices in two parts
total_with-append : (total : Total) (first rest : List ℕ) → option_and_then (λ next. total_with next (Some rest)) (total_with total (Some first)) ≡ total_with total (Some (first ++ rest))
total_with-append total first rest =
    let many : total.slices + length (first ++ rest) ≡ (total.slices + length first) + length rest = omega (arith, length-append first rest) in
    let long : total.instructions + sum (first ++ rest) ≡ (total.instructions + sum first) + sum rest = omega (arith, sum_by-append (λ (x : ℕ). x) first rest) in
    let After : Option Total → Option Total = λ o. option_and_then (λ next. total_with next (Some rest)) o in
    elim (cases_lt 1000000 (total.slices + length first)) [
      | inl over ↦
          ap After (total_within-many _ _ over)
          ∙ sym (total_within-many _ _ (let is : 1000000 < total.slices + length (first ++ rest) = omega arith in is))
      | inr few ↦
          elim (cases_lt 10000000 (total.instructions + sum first)) [
            | inl over ↦
                ap After (total_within-long _ _ over)
                ∙ sym (total_within-long _ _ (let is : 10000000 < total.instructions + sum (first ++ rest) = omega arith in is))
            | inr short ↦
                ap After (total_within-kept _ _ few short)
                ∙ sym (ap (λ n. total_within n ((total.instructions + sum first) + sum rest)) many)
                ∙ sym (ap (total_within (total.slices + length (first ++ rest))) long)
          ]
    ]

total_with-none : (total : Total) → IsWithinLimits total → total_with total (Some []) ≡ Some total
total_with-none total limits =
    rw (add-zero, add-zero) (total_within-kept total.slices total.instructions limits.few limits.short)

-- the total with the slices of these words, one word after another
abbrev pub total_by_words : Total → List (List ℕ) → Option Total
total_by_words total [] = Some total
total_by_words total (word ∷ words) =
    option_and_then (λ next. total_by_words next words) (total_with total (word_slices word))

total_within-limits : (slices instructions : ℕ) (next : Total) → total_within slices instructions ≡ Some next → IsWithinLimits next
total_within-limits slices instructions next is =
    elim (cases_lt 1000000 slices) [
      | inl over ↦ let none = total_within-many slices instructions over in absurd (cc)
      | inr few ↦
          elim (cases_lt 10000000 instructions) [
            | inl over ↦ let none = total_within-long slices instructions over in absurd (cc)
            | inr short ↦
                let kept = total_within-kept slices instructions few short in
                let same : record { slices = slices; instructions = instructions } ≡ next = cc in
                subst IsWithinLimits same (record { few = few; short = short })
          ]
    ]

same-and_then : (o : Option Total) (f g : Total → Option Total) → ((next : Total) → o ≡ Some next → f next ≡ g next) → option_and_then f o ≡ option_and_then g o
same-and_then None f g same = refl
same-and_then (Some next) f g same = same next refl

none-and_then : (o : Option Total) → option_and_then {U = Total} (λ next. None) o ≡ None
none-and_then None = refl
none-and_then (Some next) = refl

total_with-rest : (total : Total) (first : List ℕ) (rest : Option (List ℕ))
    → option_and_then (λ next. total_with next rest) (total_with total (Some first)) ≡ total_with total
    (option_map (λ r. first ++ r) rest)
total_with-rest total first None = none-and_then (total_with total (Some first))
total_with-rest total first (Some rest) = total_with-append total first rest

total_with-word : (total : Total) (given : Option (List ℕ)) (words : List (List ℕ))
    → ((next : Total) → IsWithinLimits next → total_by_words next words ≡ total_with next
    (all_given word_slices words)) → option_and_then (λ next. total_by_words next words) (total_with total given) ≡
    total_with total (option_and_then (λ first. option_map (λ rest. first ++ rest) (all_given word_slices words))
    given)
total_with-word total None words as_all = refl
total_with-word total (Some first) words as_all =
    same-and_then (total_with total (Some first)) (λ next. total_by_words next words)
    (λ next. total_with next (all_given word_slices words))
    (λ next is. as_all next (total_within-limits (total.slices + length first) (total.instructions + sum first)
    next is))
    ∙ total_with-rest total first (all_given word_slices words)

-- it is that with all of their slices at once
pub total_with-all : (total : Total) (words : List (List ℕ)) → IsWithinLimits total → total_by_words total words ≡ total_with total (all_given word_slices words)
total_with-all total [] limits = sym (total_with-none total limits)
total_with-all total (word ∷ words) limits =
    total_with-word total (word_slices word) words (λ next kept. total_with-all next words kept)

pub total_with-repeated : (total : Total) (times n instructions : ℕ) (given : Option (List ℕ))
    → Some (replicate times n) ≡ given → total.slices + times ≤ 1000000 → instructions ≡ total.instructions + n *
    times → instructions ≤ 10000000 → Some (record { slices = total.slices + times; instructions = instructions }) ≡
    total_with total given
total_with-repeated total times n instructions given is few sum_is short =
    let many : total.slices + length (replicate times n) ≡ total.slices + times = omega (arith, length-replicate times n) in
    let long : total.instructions + sum (replicate times n) ≡ instructions = grind (arith, sum_by-replicate (λ (x : ℕ). x) times n) in
    subst (λ g. Some (record { slices = total.slices + times; instructions = instructions }) ≡ total_with total g) is
    (rw (many, long) (sym (total_within-kept _ _ few short)))

abbrev all_words : Total → List ℕ → Option Total
all_words total line = total_with total (all_given word_slices (line_words line))

line_total : (total : Total) (line : List ℕ) → is_edged line ≡ false → total_with total (line_slices line) ≡ all_words total line
line_total total line inside = simp inside

-- the slices of a line are refused where those of a word are
pub line_total-refused : (start total : Total) (line : List ℕ) (left after : List (List ℕ)) (word : List ℕ)
    → is_edged line ≡ false → IsWithinLimits start → total_by_words total left ≡ total_by_words start
    (line_words line) → left ≡ word ∷ after → None ≡ total_with total (word_slices word) → None ≡ total_with start
    (line_slices line)
line_total-refused start total line left after word inside limits same is none =
    let last : None ≡ total_by_words total (word ∷ after) = ap (option_and_then (λ next. total_by_words next after)) none in
    last ∙ ap (total_by_words total) (sym is) ∙ same ∙ total_with-all start (line_words line) limits ∙ sym (line_total start line inside)

-- where no word is left, the total is that with the line's slices
pub line_total-taken : (start total : Total) (line : List ℕ) (left : List (List ℕ)) → is_edged line ≡ false
    → IsWithinLimits start → total_by_words total left ≡ total_by_words start (line_words line) → left ≡ []
    → Some total ≡ total_with start (line_slices line)
line_total-taken start total line left inside limits same is =
    ap (total_by_words total) (sym is) ∙ same ∙ total_with-all start (line_words line) limits ∙ sym (line_total start line inside)

pub line_total-edged : (total : Total) (line : List ℕ) → is_edged line ≡ true → None ≡ total_with total (line_slices line)
line_total-edged total line edged = simp edged
