-- Links that are listed.
use Rattle.std.proofs.Common.{◌≡◌, ◌⊎◌, ℕ, ◌+◌, ◌*◌, ◌<◌, ◌≤◌, List, [], ◌∷◌, ◌++◌, length, get_or, refl, sym, ap, ◌∙◌, subst, inl, inr, ⊎_elim, length-append, arith}
use Rattle.std.specs.Prelude.{Contains}
use Rattle.std.proofs.lemmas.Bool.{cases_lt}
use Rattle.std.proofs.lemmas.List.{get_or_append_left, get_or-append-add, get_or_default}
use Rattle.rbf_model.specs.Disk.{disk_of}
use Rattle.rbf_model.specs.Geometry.{Geometry, IsNumber}
use Rattle.rbf_model.specs.Segments.{has}
use Rattle.rbf_model.specs.Tree.{EntryNames, Links}
use Rattle.rbf_model.specs.Search.{IsListOfReached, IsReachedOn, searchable_bytes}
use Rattle.rbf_model.proofs.Bytes.{has_place, place_of}
use Rattle.rbf_sector_rules.specs.declared.links.Link.{Link}
use Rattle.rbf_sector_rules.specs.Linked.{AreAdded, AreLinks}

contains_left : (xs ys : List Link) (l : Link) → Contains xs l → Contains (xs ++ ys) l
contains_left xs ys l h = (h.0, omega (arith, h.1, length-append xs ys), get_or_append_left xs ys l h.0 h.1 ∙ h.2)

contains_last : (xs : List Link) (l : Link) → Contains (xs ++ l ∷ []) l
contains_last xs l =
    let last : List Link = l ∷ [] in
    (length xs + 0, omega (arith, length-append xs last), get_or-append-add xs last 0 l)

contains_cases : (xs : List Link) (x l : Link) → Contains (xs ++ x ∷ []) l → Contains xs l ⊎ (l ≡ x)
contains_cases xs x l h =
    let last : List Link = x ∷ [] in
    ⊎_elim
    (λ low. inl (h.0, low, sym (get_or_append_left xs last l h.0 low) ∙ h.2))
    (λ high.
    let at : h.0 ≡ length xs + 0 = omega (arith, h.1, length-append xs last) in
    inr (sym h.2 ∙ ap (λ k. get_or (xs ++ last) k l) at ∙ get_or-append-add xs last 0 l))
    (cases_lt h.0 (length xs))

no_third : (contents : List ℕ) (j n : ℕ) → j < 2 → EntryNames contents j n → ⊥
no_third contents j n low names = let after = names.after in absurd (omega arith)

pub added_none : (g : Geometry) (contents : List ℕ) (d : ℕ) (links : List Link) → AreAdded g contents d links links 2
added_none g contents d links = record {
  kept = λ l h. h;
  only = λ l h. inl h;
  there = λ j n low names number. absurd (no_third contents j n low names);
}

module _ (g : Geometry) (contents : List ℕ) (d : ℕ) (old mid : List Link) (i : ℕ) (added : AreAdded g contents d old mid i) where
  pub added_past : ((m : ℕ) → EntryNames contents i m → IsNumber g m → ⊥) → AreAdded g contents d old mid (i + 1)
  added_past nothing = record {
    kept = added.kept;
    only = added.only;
    there = λ j n low names number. ⊎_elim
        (λ earlier. added.there j n earlier names number)
        (λ last. let P : ℕ → Type 0 = λ k. EntryNames contents k n in absurd (nothing n (subst P (let here : j ≡ i = omega arith in here) names) number))
        (cases_lt j i);
  }

  pub added_more : (n : ℕ) (new : List Link) → EntryNames contents i n → IsNumber g n → new ≡ mid ++ record { directory = d; entry = i; descriptor = n } ∷ [] → AreAdded g contents d old new (i + 1)
  added_more n new names_n number_n is =
      let link : Link = record { directory = d; entry = i; descriptor = n } in
      let P : List Link → Type 0 = λ xs. AreAdded g contents d old xs (i + 1) in
      subst P (sym is) (record {
        kept = λ l h. contains_left mid (link ∷ []) l (added.kept l h);
        only = λ l h. ⊎_elim
            (λ before. added.only l before)
            (λ last.
            let Q : Link → Type 0 = λ k. (k.directory ≡ d) × EntryNames contents k.entry k.descriptor × IsNumber g k.descriptor in
            inr (subst Q (sym last) (refl, names_n, number_n)))
            (contains_cases mid link l h);
        there = λ j m low names number. ⊎_elim
            (λ earlier. contains_left mid (link ∷ []) (record { directory = d; entry = j; descriptor = m }) (added.there j m earlier names number))
            (λ last.
            let here : j ≡ i = omega arith in
            let N : ℕ → Type 0 = λ k. EntryNames contents k m in
            let at_i : EntryNames contents i m = subst N here names in
            let same : m ≡ n = sym at_i.descriptor ∙ names_n.descriptor in
            let Q : ℕ → Type 0 = λ k. Contains (mid ++ link ∷ []) (record { directory = d; entry = k; descriptor = m }) in
            let R : ℕ → Type 0 = λ k. Contains (mid ++ link ∷ []) (record { directory = d; entry = i; descriptor = k }) in
            subst Q (sym here) (subst R (sym same) (contains_last mid link)))
            (cases_lt j i);
      })

-- fewer entries
pub added_before : (g : Geometry) (contents : List ℕ) (d : ℕ) (old new : List Link) (i entries : ℕ) → entries ≤ i → AreAdded g contents d old new i → AreAdded g contents d old new entries
added_before g contents d old new i entries fewer added = record {
  kept = added.kept;
  only = added.only;
  there = λ j n low names number. added.there j n (omega arith) names number;
}

-- the links of the first so many descriptors
pub record AreLinksOf (g : Geometry) (disk : ℕ → List ℕ) (found : List ℕ) (links : List Link) (next : ℕ) : Type 0 where
  pub each : (l : Link) → Contains links l → Links g (searchable_bytes (disk_of g disk)) l.directory l.entry l.descriptor × IsNumber g l.descriptor
  pub all : (k j n : ℕ) → k < next → EntryNames (searchable_bytes (disk_of g disk) (get_or found k 0)) j n
      → IsNumber g n → Contains links (record { directory = get_or found k 0; entry = j; descriptor = n })

module _ (g : Geometry) (disk : ℕ → List ℕ) (found : List ℕ) (are : IsListOfReached (disk_of g disk) found) where
  pub links_none : (links : List Link) → links ≡ [] → AreLinksOf g disk found links 0
  links_none links empty = record {
    each = λ l h. let low : h.0 < 0 = omega (arith, h.1, ap length empty) in absurd (omega arith);
    all = λ k j n low names number. absurd (omega arith);
  }

  pub links_more : (old new : List Link) (next n entries : ℕ) → AreLinksOf g disk found old next → next < length found
      → n ≡ get_or found next 0 → 32 * entries ≡ length (searchable_bytes (disk_of g disk) n)
      → AreAdded g (searchable_bytes (disk_of g disk) n) n old new entries → AreLinksOf g disk found new (next + 1)
  links_more old new next n entries before low here counted added = record {
    each = λ l h. ⊎_elim
        (λ earlier. before.each l earlier)
        (λ more.
        let reached : IsReachedOn (disk_of g disk) n = (are n).0 (ap (has found) here ∙ has_place found next low) in
        let P : ℕ → Type 0 = λ d. Links g (searchable_bytes (disk_of g disk)) d l.entry l.descriptor in
        (subst P (sym more.0) (record { from = reached; names = more.1 }), more.2))
        (added.only l h);
    all = λ k j m below names number. ⊎_elim
        (λ earlier. added.kept (record { directory = get_or found k 0; entry = j; descriptor = m }) (before.all k j m earlier names number))
        (λ last.
        let at : k ≡ next = omega arith in
        let same : get_or found k 0 ≡ n = ap (λ q. get_or found q 0) at ∙ sym here in
        let P : ℕ → Type 0 = λ d. EntryNames (searchable_bytes (disk_of g disk) d) j m in
        let names_n : EntryNames (searchable_bytes (disk_of g disk) n) j m = subst P same names in
        let within = names_n.entry.within in
        let Q : ℕ → Type 0 = λ d. Contains new (record { directory = d; entry = j; descriptor = m }) in
        subst Q (sym same) (added.there j m (omega arith) names_n number))
        (cases_lt k next);
  }

  pub links_are : (links : List Link) (next : ℕ) → length found ≤ next → AreLinksOf g disk found links next → AreLinks (disk_of g disk) links
  links_are links next all of = record {
    each = of.each;
    all = λ d i n link number.
        let place = place_of found d ((are d).1 link.from) in
        let at : get_or found place.0 0 ≡ d = get_or_default found place.0 0 d place.1 ∙ place.2 in
        let P : ℕ → Type 0 = λ e. EntryNames (searchable_bytes (disk_of g disk) e) i n in
        let Q : ℕ → Type 0 = λ e. Contains links (record { directory = e; entry = i; descriptor = n }) in
        subst Q at (of.all place.0 i n (omega (arith, place.1)) (subst P (sym at) link.names) number);
  }
