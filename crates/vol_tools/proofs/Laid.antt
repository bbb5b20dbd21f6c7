-- Which sector of an image each part is.
use Rattle.std.proofs.Common.{◌≡◌, ℕ, ◌+◌, ◌*◌, ◌<◌, List, ◌++◌, length, take, drop, get_or, refl, sym, ap, ◌∙◌, arith, length-append}
use Rattle.std.proofs.lemmas.List.{take_at, get_or_append_left, get_or-append-add}
use Rattle.std.proofs.Math.Seq.{drop-append-add}
use Rattle.rbf_model.specs.Geometry.{sector}

-- a front of a list is dropped
pub dropped : (front rest : List ℕ) (n m : ℕ) → n ≡ length front + m → drop n (front ++ rest) ≡ drop m rest
dropped front rest n m is = ap (λ k. drop k (front ++ rest)) is ∙ drop-append-add front rest m

-- the sectors behind a part
pub behind : (part rest : List ℕ) (count n m : ℕ) → length part ≡ 256 * count → n ≡ count + m → sector (part ++ rest) n ≡ sector rest m
behind part rest count n m long is =
    let place : 256 * n ≡ length part + 256 * m = omega arith in
    ap (take 256) (dropped part rest (256 * n) (256 * m) place)

pub first : (part rest : List ℕ) → length part ≡ 256 → sector (part ++ rest) 0 ≡ part
first part rest long = take_at part rest 256 long

module _ (ident marks desc list zeros : List ℕ) (ms : ℕ) (ident-long : length ident ≡ 256) (marks-long : length marks ≡ 256 * ms) (desc-long : length desc ≡ 256) (list-long : length list ≡ 256) where
  abbrev pub laid : List ℕ
  laid = ident ++ (marks ++ (desc ++ (list ++ zeros)))

  pub sector-0 : sector laid 0 ≡ ident
  sector-0 = first ident (marks ++ (desc ++ (list ++ zeros))) ident-long

  pub sector-desc : sector laid (1 + ms) ≡ desc
  sector-desc =
      behind ident (marks ++ (desc ++ (list ++ zeros))) 1 (1 + ms) ms (omega arith) (omega arith)
      ∙ behind marks (desc ++ (list ++ zeros)) ms ms 0 marks-long (omega arith)
      ∙ first desc (list ++ zeros) desc-long

  pub sector-list : sector laid (1 + ms + 1) ≡ list
  sector-list =
      behind ident (marks ++ (desc ++ (list ++ zeros))) 1 (1 + ms + 1) (ms + 1) (omega arith) (omega arith)
      ∙ behind marks (desc ++ (list ++ zeros)) ms (ms + 1) 1 marks-long (omega arith)
      ∙ behind desc (list ++ zeros) 1 1 0 (omega arith) refl
      ∙ first list zeros list-long

  pub map-byte : (i : ℕ) → i < 256 * ms → get_or laid (256 + i) 0 ≡ get_or marks i 0
  map-byte i low =
      ap (λ n. get_or laid (n + i) 0) (sym ident-long)
      ∙ get_or-append-add ident (marks ++ (desc ++ (list ++ zeros))) i 0
      ∙ get_or_append_left marks (desc ++ (list ++ zeros)) 0 i (omega arith)

  -- what is behind the descriptor
  pub byte-behind : (i : ℕ) → get_or laid (256 * (2 + ms) + i) 0 ≡ get_or (list ++ zeros) i 0
  byte-behind i =
      let place : 256 * (2 + ms) + i ≡ length ident + (length marks + (length desc + i)) = omega arith in
      ap (λ n. get_or laid n 0) place
      ∙ get_or-append-add ident (marks ++ (desc ++ (list ++ zeros))) (length marks + (length desc + i)) 0
      ∙ get_or-append-add marks (desc ++ (list ++ zeros)) (length desc + i) 0
      ∙ get_or-append-add desc (list ++ zeros) i 0

  pub laid-long : length laid ≡ 256 * (ms + 3) + length zeros
  laid-long =
      let a = length-append ident (marks ++ (desc ++ (list ++ zeros))) in
      let b = length-append marks (desc ++ (list ++ zeros)) in
      let c = length-append desc (list ++ zeros) in
      let d = length-append list zeros in
      omega (arith, a, b, c, d, ident-long, marks-long, desc-long, list-long)
