-- Clusters that are noted as used.
use Rattle.std.proofs.Common.{◌≡◌, ℕ, zero, suc, ◌+◌, ◌-◌, ◌/◌, ◌<◌, ◌≤◌, ◌==◌, ◌||◌, Bool, true, false, List, [], ◌∷◌, ◌++◌, length, get_or, set, take, refl, sym, ap, ◌∙◌, subst, ⊎_elim, arith, eq-eqb, eqb-true}
use Rattle.std.specs.Prelude.{if◌then◌else◌}
use Rattle.std.specs.List.{range_with_len, list_any}
use Rattle.std.proofs.Math.Bool.{or_assoc}
use Rattle.std.proofs.lemmas.Bool.{cases_eq, cases_Bool, cond-true, cond-false, false_from_ne_true}
use Rattle.std.proofs.lemmas.List.{append-nil, take_more, get_or-set_same, get_or-set_other, length-set}
use Rattle.std.proofs.lemmas.List.Folds.{list_any-append}
use Rattle.std.proofs.lemmas.Grind.{flat_map-append}
use Rattle.rbf_model.specs.Disk.{disk_of}
use Rattle.rbf_model.specs.Fields.{segments_field}
use Rattle.rbf_model.specs.Geometry.{Geometry, map_sectors}
use Rattle.rbf_model.specs.Segments.{segment_sectors, sectors_of}
use Rattle.rbf_model.specs.File.{file_at}
use Rattle.rbf_model.specs.Space.{system_sectors, owned, has_cluster}
use Rattle.rbf_check.specs.Clusters.{NotesClusters, AreUsed}

-- one number more
pub range_more : (a n : ℕ) → range_with_len a (suc n) ≡ range_with_len a n ++ (a + n) ∷ []
range_more a zero = let same : a ≡ a + 0 = omega arith in ap (λ x. x ∷ []) same
range_more a (suc n) =
    let same : a + 1 + n ≡ a + suc n = omega arith in
    ap (λ xs. a ∷ xs) (range_more (a + 1) n ∙ ap (λ x. range_with_len (a + 1) n ++ x ∷ []) same)

or_nothing : (a : Bool) → a ≡ (a || false)
or_nothing true = refl
or_nothing false = refl

or_something : (a : Bool) → true ≡ (a || true)
or_something true = refl
or_something false = refl

-- the clusters of two lists, one after the other
pub notes_then : (k : ℕ) (xs ys : List ℕ) (old mid new : List Bool) → NotesClusters k xs old mid → NotesClusters k ys mid new → NotesClusters k (xs ++ ys) old new
notes_then k xs ys old mid new first next = record {
  size = next.size ∙ first.size;
  each = λ c.
      let p = λ (s : ℕ). s / k == c in
      next.each c ∙ ap (λ b. b || list_any p ys) (first.each c) ∙ or_assoc (get_or old c false) (list_any p xs) (list_any p ys) ∙ ap (λ b. get_or old c false || b) (sym (list_any-append p xs ys));
}

-- and those of one sector
pub notes_one : (k s : ℕ) (old : List Bool) → s / k < length old → NotesClusters k (s ∷ []) old (set old (s / k) true)
notes_one k s old low = record {
  size = length-set old (s / k) true;
  each = λ c. ⊎_elim
      (λ same. ap (λ d. get_or (set old (s / k) true) d false) same ∙ get_or-set_same old (s / k) true false low
      ∙ or_something (get_or old c false) ∙ ap (λ b. get_or old c false || (b || false)) (sym (eq-eqb (s / k) c (sym same))))
      (λ apart. get_or-set_other old (s / k) c true false apart ∙ or_nothing (get_or old c false)
      ∙ ap (λ b. get_or old c false || (b || false)) (sym (false_from_ne_true (s / k == c) (λ h. apart (sym (eqb-true (s / k) c h))))))
      (cases_eq c (s / k));
}

-- a sector more of a run
pub notes_more : (k first s : ℕ) (old mid : List Bool) → first ≤ s → s / k < length mid
    → NotesClusters k (range_with_len first (s - first)) old mid
    → NotesClusters k (range_with_len first (s + 1 - first)) old (set mid (s / k) true)
notes_more k first s old mid after low before =
    let count : suc (s - first) ≡ s + 1 - first = omega arith in
    let last : first + (s - first) ≡ s = omega arith in
    let P : List ℕ → Type 0 = λ xs. NotesClusters k xs old (set mid (s / k) true) in
    subst P (ap (λ x. range_with_len first (s - first) ++ x ∷ []) (sym last) ∙ sym (range_more first (s - first)) ∙ ap (range_with_len first) count)
    (notes_then k (range_with_len first (s - first)) (s ∷ []) old mid (set mid (s / k) true) before (notes_one k s mid low))

-- a run more of a segment list
pub notes_run : (k : ℕ) (segments : List (ℕ × ℕ)) (i : ℕ) (segment : ℕ × ℕ) (old mid new : List Bool) → i < length segments → get_or segments i (0, 0) ≡ segment
    → NotesClusters k (sectors_of (take i segments)) old mid → NotesClusters k (range_with_len segment.0 segment.1) mid new → NotesClusters k (sectors_of (take (i + 1) segments)) old new
notes_run k segments i segment old mid new low at before one =
    let front : take (i + 1) segments ≡ take i segments ++ segment ∷ [] = take_more segments i (0, 0) low ∙ ap (λ s. take i segments ++ s ∷ []) at in
    let P : List ℕ → Type 0 = λ xs. NotesClusters k xs old new in
    subst P (ap (λ xs. sectors_of (take i segments) ++ xs) (sym (append-nil (segment_sectors segment))) ∙ sym
    (flat_map-append segment_sectors (take i segments) (segment ∷ [])) ∙ ap sectors_of (sym front))
    (notes_then k (sectors_of (take i segments)) (range_with_len segment.0 segment.1) old mid new before one)

-- the sectors of an owner
pub notes_owner : (g : Geometry) (disk : ℕ → List ℕ) (n k count : ℕ) (segments : List (ℕ × ℕ)) (a b c d : List Bool)
    → k ≡ g.cluster → count ≡ (if n == g.root then 1 + map_sectors g else 0) → segments ≡ segments_field (disk n)
    → NotesClusters k (range_with_len 0 count) a b → NotesClusters k (range_with_len n 1) b c → NotesClusters k (sectors_of segments) c d
    → NotesClusters g.cluster (owned g n (file_at disk n)) a d
unfolding owned
notes_owner g disk n k count segments a b c d sized counted are system own others =
    let front : range_with_len 0 count ≡ (if n == g.root then system_sectors g else []) = ap (range_with_len 0) counted ∙ ⊎_elim
    (λ root. ap (range_with_len 0) (cond-true (n == g.root) (1 + map_sectors g) 0 root) ∙ sym (cond-true (n == g.root) (system_sectors g) [] root))
    (λ other. ap (range_with_len 0) (cond-false (n == g.root) (1 + map_sectors g) 0 other) ∙ sym (cond-false (n == g.root) (system_sectors g) [] other))
    (cases_Bool (n == g.root)) in
    let P : List ℕ → Type 0 = λ xs. NotesClusters k xs a d in
    let Q : ℕ → Type 0 = λ j. NotesClusters j ((if n == g.root then system_sectors g else []) ++ n ∷ sectors_of (segments_field (disk n))) a d in
    subst Q sized (subst P (ap (λ xs. xs ++ n ∷ sectors_of segments) front ∙ ap (λ s. (if n == g.root then system_sectors g else []) ++ n ∷ sectors_of s) are)
    (notes_then k (range_with_len 0 count) (n ∷ sectors_of segments) a b d system (notes_then k (n ∷ []) (sectors_of segments) b c d own others)))

-- an owner more
pub used_more : (g : Geometry) (disk : ℕ → List ℕ) (found : List ℕ) (i : ℕ) (old new : List Bool) → i < length found → AreUsed (disk_of g disk) (take i found) old
    → NotesClusters g.cluster (owned g (get_or found i 0) (file_at disk (get_or found i 0))) old new → AreUsed (disk_of g disk) (take (i + 1) found) new
unfolding has_cluster
used_more g disk found i old new low before notes =
    let n = get_or found i 0 in
    let front = take_more found i 0 low in
    record {
      size = notes.size ∙ before.size;
      each = λ c.
          let p = λ (m : ℕ). has_cluster g m (file_at disk m) c in
          notes.each c ∙ ap (λ b. b || has_cluster g n (file_at disk n) c) (before.each c) ∙ ap (λ b. list_any p (take i found) || b) (or_nothing (p n))
          ∙ sym (list_any-append p (take i found) (n ∷ [])) ∙ ap (list_any p) (sym front);
    }
