-- Descriptors that are named again.
use Rattle.std.proofs.Common.{◌≡◌, ◌⊎◌, ℕ, ◌+◌, ◌<◌, ◌≤◌, List, All, length, get_or, Option, Some, None, refl, sym, ap, ◌∙◌, subst, inl, inr, ⊎_elim, arith}
use Rattle.std.specs.Prelude.{Contains}
use Rattle.std.proofs.lemmas.Bool.{cases_lt, cases_eq}
use Rattle.std.proofs.lemmas.List.{get_or_default}
use Rattle.rbf_model.specs.Disk.{disk_of}
use Rattle.rbf_model.specs.Geometry.{Geometry, IsNumber, IsHeader}
use Rattle.rbf_model.specs.Tree.{Links}
use Rattle.rbf_model.specs.Faults.{Breaks}
use Rattle.rbf_model.specs.Search.{searchable_bytes}
use Rattle.rbf_model.specs.Faults.Breaks.{named_twice, named_root}
use Rattle.rbf_sector_rules.specs.declared.links.Link.{Link}
use Rattle.rbf_sector_rules.specs.Linked.{AreLinks}
use Rattle.rbf_sector_rules.specs.Least.{IsLeast, Before, IsLeastBreach}
use Rattle.rbf_sector_rules.specs.Given.{IsPlaceGiven}
use Rattle.rbf_check.specs.Named.{link_at, AreSame, IsFirstLink, AreFirsts, IsNamedAgain}
use Rattle.rbf_sector_rules.proofs.Cases.{named_of}
use Rattle.rbf_sector_rules.proofs.Leasts.{least_along}
use Rattle.rbf_sector_rules.proofs.Options.{some_same}

pub firsts_none : (links : List Link) (firsts : List (Option ℕ)) → ((s m : ℕ) → get_or firsts s None ≡ Some m → ⊥) → AreFirsts links firsts 0
firsts_none links firsts none = record {
  each = λ n j h. absurd (none n j h);
  there = λ j low. absurd (omega arith);
}

-- one link more
module _ (links : List Link) (old new : List (Option ℕ)) (k n : ℕ) (at : (link_at links k).descriptor ≡ n) (firsts : AreFirsts links old k) (given : IsPlaceGiven old new k n) where
  none_earlier : (i : ℕ) → i < k → (link_at links i).descriptor ≡ n → (m : ℕ) × (get_or old n None ≡ Some m)
  none_earlier i low same =
      let t = firsts.there i low in (t.0, sym (ap (λ d. get_or old d None) same) ∙ t.1)

  pub firsts_more : ((m : ℕ) → get_or old n None ≡ Some m → get_or new n None ≡ Some k → ⊥) → AreFirsts links new (k + 1)
  firsts_more apart = record {
    each = λ d j h. ⊎_elim
        (λ earlier. let f = firsts.each d j earlier in (omega (arith, f.0), f.1))
        (λ here. (
          omega (arith, here.0),
          record {
            names = ap (λ q. (link_at links q).descriptor) here.0 ∙ at ∙ sym here.1;
            none_before = λ i low same.
                let e = none_earlier i (omega (arith, here.0)) (same ∙ here.1) in
                apart e.0 e.1 (ap (λ q. get_or new q None) (sym here.1) ∙ h ∙ ap Some here.0);
          },
        ))
        (given.only d j h);
    there = λ j low. ⊎_elim
        (λ earlier. let t = firsts.there j earlier in (t.0, given.kept (link_at links j).descriptor t.0 t.1))
        (λ last.
        let same : j ≡ k = omega arith in
        let here : (link_at links j).descriptor ≡ n = ap (λ q. (link_at links q).descriptor) same ∙ at in
        (given.there.0, ap (λ d. get_or new d None) here ∙ given.there.1))
        (cases_lt j k);
  }

-- a link noted before is not the one that is noted now
pub not_again : (links : List Link) (old new : List (Option ℕ)) (k n : ℕ) → AreFirsts links old k → IsPlaceGiven old new k n → (m : ℕ) → get_or old n None ≡ Some m → get_or new n None ≡ Some k → ⊥
not_again links old new k n firsts given m h now =
    let low = (firsts.each n m h).0 in
    let kept = given.kept n m h in
    let same : m ≡ k = some_same m k (get_or new n None) kept now in
    absurd (omega arith)

first_unique : (links : List Link) (n i j : ℕ) → IsFirstLink links n i → IsFirstLink links n j → i ≡ j
first_unique links n i j one other =
    ⊎_elim
    (λ less. absurd (other.none_before i less one.names))
    (λ more. ⊎_elim (λ less. absurd (one.none_before j less other.names)) (λ same. omega arith) (cases_lt j i))
    (cases_lt i j)

-- the link is named again, or not
module _ (links : List Link) (root k j : ℕ) (low : j ≤ k) (first : IsFirstLink links (link_at links k).descriptor j) where
  pub again_is : ((link_at links k).descriptor ≡ root) ⊎ (AreSame (link_at links j) (link_at links k) → ⊥) → IsLeast (IsNamedAgain links root k) (Some (link_at links k).descriptor)
  again_is why = ((refl, ⊎_elim (λ r. inl r) (λ differ. inr (j, low, first, differ)) why), λ s h. omega (arith, h.0))

  pub again_not : ((link_at links k).descriptor ≡ root → ⊥) → AreSame (link_at links j) (link_at links k) → (s : ℕ) → IsNamedAgain links root k s → ⊥
  again_not other same s h =
      ⊎_elim
      (λ r. other r)
      (λ f.
      let unique : f.0 ≡ j = first_unique links (link_at links k).descriptor f.0 j f.2 first in
      let P : ℕ → Type 0 = λ q. AreSame (link_at links q) (link_at links k) in
      f.3 (subst P (sym unique) same))
      h.1

same_or_not : (a b : Link) → AreSame a b ⊎ (AreSame a b → ⊥)
same_or_not a b =
    ⊎_elim
    (λ d. ⊎_elim (λ e. inl (d, e)) (λ e. inr (λ s. e s.1)) (cases_eq a.entry b.entry))
    (λ d. inr (λ s. d s.0))
    (cases_eq a.directory b.directory)

-- the least of all
module _ (g : Geometry) (disk : ℕ → List ℕ) (header : IsHeader g) (links : List Link) (are : AreLinks (disk_of g disk)
    links) (firsts : List (Option ℕ)) (all : AreFirsts links firsts (length links)) where
  contains_at : (k : ℕ) → k < length links → Contains links (link_at links k)
  contains_at k low =
      (k, low, get_or_default links k (link_at links k) (record { directory = 0; entry = 0; descriptor = 0 }) low)

  link_of : (k : ℕ) → k < length links → Links g (searchable_bytes (disk_of g disk)) (link_at links k).directory
      (link_at links k).entry (link_at links k).descriptor × IsNumber g (link_at links k).descriptor
  link_of k low = are.each (link_at links k) (contains_at k low)

  breach : (n : ℕ) → Before (IsNamedAgain links g.root) (length links) n → Breaks (disk_of g disk) 9 n
  breach n h =
      let k = h.0 in
      let it = link_of k h.1 in
      let named = h.2 in
      let P : ℕ → Type 0 = λ m. Breaks (disk_of g disk) 9 m in
      subst P (sym named.0) (⊎_elim
      (λ root.
      let Q : ℕ → Type 0 = λ m. Links g (searchable_bytes (disk_of g disk)) (link_at links k).directory (link_at links k).entry m in
      subst P (sym root) (named_root (subst Q root it.0)))
      (λ again.
      let other = link_of again.0 (omega (arith, again.1, h.1)) in
      let Q : ℕ → Type 0 = λ m. Links g (searchable_bytes (disk_of g disk)) (link_at links again.0).directory (link_at links again.0).entry m in
      named_twice it.1 (subst Q again.2.names other.0) it.0 again.3)
      named.1)

  -- a place that an entry has in the list
  place_of_link : (d i n : ℕ) → Links g (searchable_bytes (disk_of g disk)) d i n → IsNumber g n
      → (k : ℕ) × (k < length links) × (link_at links k ≡ record { directory = d; entry = i; descriptor = n })
  place_of_link d i n link number =
      let c = are.all d i n link number in
      (c.0, c.1, get_or_default links c.0 (record { directory = 0; entry = 0; descriptor = 0 }) (record { directory = d; entry = i; descriptor = n }) c.1 ∙ c.2)

  again_at : (n q : ℕ) → q < length links → (link_at links q).descriptor ≡ n → (f : ℕ) → IsFirstLink links n f
      → (AreSame (link_at links f) (link_at links q) → ⊥) → Before (IsNamedAgain links g.root) (length links) n
  again_at n q low names f first apart =
      let early : f ≤ q = ⊎_elim (λ less. absurd (first.none_before q less names)) (λ more. more) (cases_lt q f) in
      let P : ℕ → Type 0 = λ d. IsFirstLink links d f in
      (q, low, (sym names, inr (f, early, subst P (sym names) first, apart)))

  -- of two entries that name a descriptor one is not the first
  again_of_two : (n k m : ℕ) → k < length links → m < length links → (link_at links k).descriptor ≡ n
      → (link_at links m).descriptor ≡ n → (AreSame (link_at links k) (link_at links m) → ⊥)
      → Before (IsNamedAgain links g.root) (length links) n
  again_of_two n k m k_low m_low k_names m_names differ =
      let there = all.there k k_low in
      let f = there.0 in
      let first : IsFirstLink links n f = (let P : ℕ → Type 0 = λ d. IsFirstLink links d f in subst P k_names (all.each (link_at links k).descriptor f there.1).1) in
      ⊎_elim
      (λ same. again_at n m m_low m_names f first (λ e. differ (sym same.0 ∙ e.0, sym same.1 ∙ e.1)))
      (λ apart. again_at n k k_low k_names f first apart)
      (same_or_not (link_at links f) (link_at links k))

  breach_back : (n : ℕ) → Breaks (disk_of g disk) 9 n → Before (IsNamedAgain links g.root) (length links) n
  breach_back n b =
      ⊎_elim
      (λ two.
      let d = two.0 in
      let e = two.1 in
      let i = two.2 in
      let j = two.3 in
      let one = place_of_link d i n two.5 two.4 in
      let other = place_of_link e j n two.6 two.4 in
      again_of_two n one.0 other.0 one.1 other.1 (ap (λ (l : Link). l.descriptor) one.2) (ap (λ (l : Link). l.descriptor) other.2)
      (λ same. two.7 (
        sym (ap (λ (l : Link). l.directory) one.2) ∙ same.0 ∙ ap (λ (l : Link). l.directory) other.2,
        sym (ap (λ (l : Link). l.entry) one.2) ∙ same.1 ∙ ap (λ (l : Link). l.entry) other.2,
      )))
      (λ root.
      let d = root.1.0 in
      let i = root.1.1 in
      let place = place_of_link d i g.root root.1.2 (record { after = header.root_after; below = header.root_below }) in
      let names : (link_at links place.0).descriptor ≡ g.root = ap (λ (l : Link). l.descriptor) place.2 in
      (place.0, place.1, (root.0 ∙ sym names, inl names)))
      (named_of g disk n b)

  pub least_again : (least : Option ℕ) → IsLeast (Before (IsNamedAgain links g.root) (length links)) least → IsLeastBreach (disk_of g disk) 9 least
  least_again least is = least_along (Before (IsNamedAgain links g.root) (length links)) (Breaks (disk_of g disk) 9) breach breach_back least is

-- what the note of link k leaves
module _ (links : List Link) (old new : List (Option ℕ)) (k first : ℕ) (firsts : AreFirsts links old k)
    (given : IsPlaceGiven old new k (link_at links k).descriptor) (noted : get_or new (link_at links k).descriptor None ≡
    Some first) where
  pub noted_more : AreFirsts links new (k + 1)
  noted_more =
      firsts_more links old new k (link_at links k).descriptor refl firsts given (not_again links old new k (link_at links k).descriptor firsts given)

  pub noted_first : (first ≤ k) × IsFirstLink links (link_at links k).descriptor first
  noted_first =
      let f = noted_more.each (link_at links k).descriptor first noted in
      (omega (arith, f.0), f.1)

-- the numbers of links are below the total
pub numbers_below : (g : Geometry) (disk : ℕ → List ℕ) (links : List Link) (size : ℕ) → AreLinks (disk_of g disk) links → size ≡ g.total → All (λ (l : Link). l.descriptor < size) links
numbers_below g disk links size are same = λ k d low.
    let l = get_or links k d in
    let number = (are.each l (k, low, get_or_default links k l d low)).1 in
    let below = number.below in
    omega arith
