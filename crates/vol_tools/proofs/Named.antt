-- Parts that are names, one after the other.
use Rattle.std.proofs.Common.{◌≡◌, ℕ, ◌+◌, ◌<◌, ◌≤◌, Bool, true, false, Some, None, List, [], ◌∷◌, ◌++◌, length, take, map, get_or, sym, ap, ◌∙◌, Bor}
use Rattle.std.specs.List.{list_all}
use Rattle.std.proofs.lemmas.Bool.{cond-true, cond-false, and_from}
use Rattle.std.proofs.lemmas.List.{map-append, take_more, take_all}
use Rattle.std.proofs.lemmas.List.Folds.{list_all-map, list_all_more, list_all_at}
use Rattle.vol_tools.specs.Path.{is_name_text}
use Rattle.vol_tools.specs.Names.{IsNameOf, if_names}

abbrev pub texts : List (Bor (List ℕ)) → List (List ℕ)
texts parts = map (λ (part : Bor (List ℕ)). part.now) parts

abbrev named : Bor (List ℕ) → Bool
named part = is_name_text part.now

pub bad_part : (parts : List (Bor (List ℕ))) (i : ℕ) (d : Bor (List ℕ)) → i < length parts → is_name_text (get_or parts i d).now ≡ false → None ≡ if_names (texts parts)
bad_part parts i d low bad =
    sym (cond-false (list_all is_name_text (texts parts)) (Some (texts parts)) None (list_all-map is_name_text (λ (part : Bor (List ℕ)). part.now) parts ∙ list_all_at named parts i d low bad))

pub names_more : (parts : List (Bor (List ℕ))) (i : ℕ) (d : Bor (List ℕ)) (names : List (List ℕ)) (name : List ℕ)
    → i < length parts → names ≡ texts (take i parts) → IsNameOf (get_or parts i d).now name
    → names ++ name ∷ [] ≡ texts (take (i + 1) parts)
names_more parts i d names name low are is =
    ap (λ ns. ns ++ name ∷ []) are ∙ ap (λ n. texts (take i parts) ++ n ∷ []) is.is
    ∙ sym (map-append (λ (part : Bor (List ℕ)). part.now) (take i parts) (get_or parts i d ∷ []))
    ∙ sym (ap texts (take_more parts i d low))

pub named_more : (parts : List (Bor (List ℕ))) (i : ℕ) (d : Bor (List ℕ)) (name : List ℕ) → i < length parts
    → list_all is_name_text (texts (take i parts)) ≡ true → IsNameOf (get_or parts i d).now name
    → list_all is_name_text (texts (take (i + 1) parts)) ≡ true
named_more parts i d name low before is =
    list_all-map is_name_text (λ (part : Bor (List ℕ)). part.now) (take (i + 1) parts)
    ∙ list_all_more named parts i d low
    ∙ and_from (list_all named (take i parts)) (named (get_or parts i d)) (sym (list_all-map is_name_text (λ (part : Bor (List ℕ)). part.now) (take i parts)) ∙ before) is.named

pub all_named : (parts : List (Bor (List ℕ))) (i : ℕ) (names : List (List ℕ)) → length parts ≤ i → names ≡ texts (take i parts) → list_all is_name_text (texts (take i parts)) ≡ true
    → Some names ≡ if_names (texts parts)
all_named parts i names end are is =
    let all = take_all i parts end in
    ap Some (are ∙ ap texts all) ∙ sym (cond-true (list_all is_name_text (texts parts)) (Some (texts parts)) None (ap (λ ps. list_all is_name_text (texts ps)) (sym all) ∙ is))
