-- Links that are entered in a table by the descriptors that they name.
use Rattle.std.proofs.Common.{◌≡◌, ◌≢◌, ℕ, ◌+◌, ◌<◌, List, [], ◌∷◌, ◌++◌, length, get_or, set, take, Option, Some, None, sym, ap, ◌∙◌, subst, ⊎_elim, arith}
use Rattle.std.specs.Prelude.{Contains}
use Rattle.std.proofs.lemmas.Bool.{cases_eq}
use Rattle.std.proofs.lemmas.List.{take_more, get_or-set_same, get_or-set_other, length-set}
use Rattle.std.proofs.lemmas.List.Elements.{Contains-append_left, Contains-append_cases, Contains-push}
use Rattle.rbf_sector_rules.specs.declared.links.Link.{Link}
use Rattle.rbf_check.specs.Places.{AreLinkPlaces}
use Rattle.rbf_sector_rules.proofs.Options.{none_some, some_same}

-- the one element of a list
only_one : (x l : Link) → Contains (x ∷ []) l → l ≡ x
only_one x l h =
    let first : h.0 ≡ 0 = omega (arith, h.1) in sym (ap (λ k. get_or (x ∷ []) k l) (sym first) ∙ h.2)

module _ (links : List Link) (total : ℕ) (places : List (Option Link)) (are : AreLinkPlaces links total places) (link : Link) (low : link.descriptor < total) where
  size : link.descriptor < length places
  size = let same = are.size in omega arith

  here : get_or (set places link.descriptor (Some link)) link.descriptor None ≡ Some link
  here = get_or-set_same places link.descriptor (Some link) None size

  beside : (n : ℕ) → n ≢ link.descriptor → get_or (set places link.descriptor (Some link)) n None ≡ get_or places n None
  beside n apart = get_or-set_other places link.descriptor n (Some link) None apart

  -- one link more
  pub places_push : AreLinkPlaces (links ++ link ∷ []) total (set places link.descriptor (Some link))
  places_push = record {
    size = length-set places link.descriptor (Some link) ∙ are.size;
    each = λ n l there. ⊎_elim
        (λ same.
        let is : link ≡ l = some_same link l (get_or (set places link.descriptor (Some link)) n None) (ap (λ k. get_or (set places link.descriptor (Some link)) k None) same ∙ here) there in
        let P : Link → Type 0 = λ k. Contains (links ++ link ∷ []) k × (k.descriptor ≡ n) in
        subst P is (Contains-push links link, sym same))
        (λ apart.
        let old = are.each n l (sym (beside n apart) ∙ there) in
        (Contains-append_left links (link ∷ []) l old.0, old.1))
        (cases_eq n link.descriptor);
    there = λ l h none. ⊎_elim
        (λ same. none_some link (get_or (set places link.descriptor (Some link)) l.descriptor None) none (ap (λ k. get_or (set places link.descriptor (Some link)) k None) same ∙ here))
        (λ apart. ⊎_elim
        (λ before. are.there l before (sym (beside l.descriptor apart) ∙ none))
        (λ last. apart (ap (λ (k : Link). k.descriptor) (only_one link l last)))
        (Contains-append_cases links (link ∷ []) l h))
        (cases_eq l.descriptor link.descriptor);
  }

pub places_more : (links : List Link) (total i : ℕ) (places : List (Option Link)) (d : Link) → AreLinkPlaces (take i links) total places → i < length links → (get_or links i d).descriptor < total
    → AreLinkPlaces (take (i + 1) links) total (set places (get_or links i d).descriptor (Some (get_or links i d)))
places_more links total i places d are low below =
    let P : List Link → Type 0 = λ xs. AreLinkPlaces xs total (set places (get_or links i d).descriptor (Some (get_or links i d))) in
    subst P (sym (take_more links i d low)) (places_push (take i links) total places are (get_or links i d) below)
