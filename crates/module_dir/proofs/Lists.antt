-- Tests and edits of a list and of the same list seen another way.
use Rattle.std.proofs.Common.{◌≡◌, ℕ, ◌+◌, ◌<◌, ◌||◌, ◌&&◌, cond, not, nat_eq, nat_lt, Bool, Option, Some, None, is_none, option_map, List, [], ◌∷◌, map, length, position, get_or, refl, sym, ap, ◌∙◌, arith}
use Rattle.std.specs.List.{list_any, prefix_len, position_or_len}
use Rattle.std.specs.Cmp.Lexicographic.{pointwise}
use Rattle.std.proofs.lemmas.List.{length-map, get_or-map, ext_get_or}
use Rattle.proc_model.specs.declared.group.BlockId.{BlockId}
use Rattle.proc_model.specs.ModuleList.{place_without_group, modules_without_group}
use Rattle.module_dir.specs.declared.entry.Entry.{Entry}
use Rattle.module_dir.specs.Entries.{seen, held_entries}

pub list_any-map : {A B : Type 0} (f : A → B) (p : B → Bool) (xs : List A) → list_any p (map f xs) ≡ list_any (λ x. p (f x)) xs
list_any-map f p [] = refl
list_any-map f p (x ∷ xs) = ap (λ (b : Bool). p (f x) || b) (list_any-map f p xs)

prefix_len-map : {A B : Type 0} (f : A → B) (p : B → Bool) (xs : List A) → prefix_len p (map f xs) ≡ prefix_len (λ x. p (f x)) xs
prefix_len-map f p [] = refl
prefix_len-map f p (x ∷ xs) = ap (λ (n : ℕ). cond (p (f x)) (1 + n) 0) (prefix_len-map f p xs)

pub position-map : {A B : Type 0} (f : A → B) (p : B → Bool) (xs : List A) → position p (map f xs) ≡ position (λ x. p (f x)) xs
position-map f p xs =
    ap (λ (n : ℕ). cond (nat_lt n (length (map f xs))) (Some n) None) (prefix_len-map f (λ y. not (p y)) xs)
    ∙ ap (λ (n : ℕ). cond (nat_lt (position_or_len (λ x. p (f x)) xs) n) (Some (position_or_len (λ x. p (f x)) xs)) None) (length-map xs f)

none_len-map : {A B : Type 0} (f : A → B) (xs : List (Option A)) → prefix_len (λ x. not (is_none x)) (map (option_map f) xs) ≡ prefix_len (λ x. not (is_none x)) xs
none_len-map f [] = refl
none_len-map f (None ∷ xs) = refl
none_len-map f (Some x ∷ xs) = ap (λ (n : ℕ). 1 + n) (none_len-map f xs)

pub position-is_none : {A B : Type 0} (f : A → B) (xs : List (Option A)) → position is_none (map (option_map f) xs) ≡ position is_none xs
position-is_none f xs =
    ap (λ (n : ℕ). cond (nat_lt n (length (map (option_map f) xs))) (Some n) None) (none_len-map f xs)
    ∙ ap (λ (n : ℕ). cond (nat_lt (position_or_len is_none xs) n) (Some (position_or_len is_none xs)) None) (length-map xs (option_map f))

pub pointwise-numbers : (xs ys : List BlockId) → pointwise (λ (a b : BlockId). nat_eq a.0 b.0) xs ys ≡ pointwise nat_eq (map (λ b. b.0) xs) (map (λ b. b.0) ys)
pointwise-numbers [] [] = refl
pointwise-numbers [] (y ∷ ys) = refl
pointwise-numbers (x ∷ xs) [] = refl
pointwise-numbers (x ∷ xs) (y ∷ ys) = ap (λ (b : Bool). nat_eq x.0 y.0 && b) (pointwise-numbers xs ys)

-- two lists of entries of which the one has at each place what is left of the other's
pub entries_outside : (group : List ℕ) (xs ys : List (Option Entry)) → length xs ≡ length ys
    → ((k : ℕ) → k < length ys → option_map seen (get_or xs k None) ≡ place_without_group group (option_map seen (get_or ys k None)))
    → held_entries xs ≡ modules_without_group (held_entries ys) group
entries_outside group xs ys same at =
    ext_get_or None (held_entries xs) (modules_without_group (held_entries ys) group)
    (omega (arith, length-map xs (option_map seen), length-map ys (option_map seen), length-map (held_entries ys) (place_without_group group)))
    (λ i h.
    let within : i < length xs = omega (arith, length-map xs (option_map seen)) in
    let inside : i < length ys = omega arith in
    let shown : i < length (held_entries ys) = omega (arith, length-map ys (option_map seen)) in
    get_or-map (option_map seen) xs i None None within
    ∙ at i inside
    ∙ ap (place_without_group group) (sym (get_or-map (option_map seen) ys i None None inside))
    ∙ sym (get_or-map (place_without_group group) (held_entries ys) i None None shown))
