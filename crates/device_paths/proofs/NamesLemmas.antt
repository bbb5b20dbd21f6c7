-- How the names of a path list end, read one after another.
use Rattle.std.proofs.Common.{◌≡◌, ◌∙◌, ◌+◌, ◌-◌, ◌<◌, ◌≤◌, ◌≢◌, inl, inr, ℕ, zero, suc, Bool, true, false, Option, Some, None, Result, Ok, Err, List, ◌∷◌, ◌==◌, not, length, refl, sym, ap, subst, arith, if◌then◌else◌}
use Rattle.std.proofs.lemmas.Bool.{cases_eq, ne_eqb}
use Rattle.std.specs.Bool.{⊤}
use Rattle.std.specs.List.{slice_get}
use Rattle.std.specs.Option.{option_map_or}
use Rattle.os9_base.specs.Cells.{Cells}
use Rattle.os9_base.specs.UserNames.{user_cell, name_at}
use Rattle.os9_base.specs.declared.name_fault.NameFault.{NameFault}
use Rattle.os9_base.specs.declared.name_fault.NameFault.TheVariants.{Unreadable}
use Rattle.io_model.specs.PathList.{Names, Behind, another, a_slash, nothing, unreadable, behind, behind_name, behind_slash, is_dots, is_marked, name_before, names_with, names_behind, names_at, names_from, device_list, relative_list, list_with, path_list}
use Rattle.guest_memory.specs.Tie.{IsMemorySame}
use Rattle.guest_memory.specs.declared.memory.Memory.{Memory}
use Rattle.device_paths.specs.declared.names.Step.{Step}
use Rattle.device_paths.specs.declared.names.Tail.{Tail}
use Rattle.device_paths.specs.Listed.{listed_of, listed_with, listed_by}
use Rattle.device_paths.specs.Tail.{last_is_dots, tail_of, tail_after, step_by}
use Rattle.device_paths.specs.declared.list.Listed.{Listed}

-- a slash stands behind a name that has no bit 7
pub behind-slash_at : (cells : Cells) (at n : ℕ) → 0 < n → is_marked (user_cell cells (at + (n - 1))) ≡ false
    → user_cell cells (at + n) ≡ Some 47 → behind cells (at + n) ≡ behind_slash (user_cell cells (at + (n + 1)))
behind-slash_at cells at n some unmarked slash =
    let before : at + n - 1 ≡ at + (n - 1) = omega arith in
    let after : at + n + 1 ≡ at + (n + 1) = omega arith in
    ap (λ (marked : Bool). if marked then nothing else behind_name cells (at + n) (user_cell cells (at + n))) (ap (λ (k : ℕ). is_marked (user_cell cells k)) before ∙ unmarked)
    ∙ ap (behind_name cells (at + n)) slash
    ∙ ap (λ (k : ℕ). behind_slash (user_cell cells k)) after

-- a list of names has one at least
abbrev pub HasName : Result Names NameFault → Type 0
HasName (Ok found) = 1 ≤ length found.names
HasName (Err fault) = ⊤

has-before : (name : List ℕ) (rest : Result Names NameFault) → HasName (name_before name rest)
has-before name (Ok rest) = omega arith
has-before name (Err fault) = tt

has-with : (rest : ℕ → Result Names NameFault) (name : List ℕ) (next : ℕ) (b : Behind) → HasName (names_with rest name next b)
has-with rest name next another = has-before name (rest (next + 1))
has-with rest name next a_slash = omega arith
has-with rest name next nothing = omega arith
has-with rest name next unreadable = tt

has-behind : (rest : ℕ → Result Names NameFault) (cells : Cells) (at : ℕ) (name : Result (List ℕ) NameFault) → HasName (names_behind rest cells at name)
has-behind rest cells at (Ok name) = has-with rest name (at + length name) (behind cells (at + length name))
has-behind rest cells at (Err fault) = tt

has-name : (cells : Cells) (at left : ℕ) → HasName (names_at cells at left)
has-name cells at zero = tt
has-name cells at (suc left) = has-behind (λ next. names_at cells next left) cells at (name_at cells at)

-- a name before others does not change the last one
last-before : (name : List ℕ) (names : List (List ℕ)) → 1 ≤ length names → last_is_dots (name ∷ names) ≡ last_is_dots names
last-before name names some =
    let at : length (name ∷ names) - 1 ≡ suc (length names - 1) = omega arith in
    ap (λ (k : ℕ). option_map_or is_dots (slice_get (name ∷ names) k) false) at

tail-before : (name : List ℕ) (rest : Result Names NameFault) → HasName rest → tail_of (name_before name rest) ≡ tail_of rest
tail-before name (Ok rest) some =
    ap (λ (dots : Bool). let tail : Result Tail NameFault = Ok (record { dots = dots; slash = rest.slash; next = rest.next }) in tail) (last-before name rest.names some)
tail-before name (Err fault) some = refl

-- names behind a slash end as those from there on
pub tail-another : (cells : Cells) (left next : ℕ) (name : List ℕ) (b : Behind) → b ≡ another
    → tail_of (names_with (λ at. names_at cells at left) name next b) ≡ tail_of (names_at cells (next + 1) left)
tail-another cells left next name b e =
    ap (λ (b : Behind). tail_of (names_with (λ at. names_at cells at left) name next b)) e ∙ tail-before name (names_at cells (next + 1) left) (has-name cells (next + 1) left)

-- the names from an address on end so
pub record NamesSoFar (cells : Cells) (end : Result Tail NameFault) (at : ℕ) : Type 0 where
  pub left : ℕ
  pub enough : 65536 ≤ left + at
  pub tail : tail_of (names_at cells at left) ≡ end

pub no-names_yet : (cells : Cells) (start left : ℕ) → 65536 ≤ left + start → NamesSoFar cells (tail_of (names_at cells start left)) start
no-names_yet cells start left enough = record { left = left; enough = enough; tail = refl }

-- what a name and those behind it are, of the same bytes
pub of-same : (now old : Cells) (at : ℕ) (result found : Result Step NameFault) → now ≡ old
    → ((left : ℕ) → tail_of (names_at now at (suc left)) ≡ tail_after (λ next. tail_of (names_at now next left))
    result) → result ≡ found → (left : ℕ) → tail_of (names_at old at (suc left)) ≡ tail_after
    (λ next. tail_of (names_at old next left)) found
of-same now old at result found same step is left =
    subst (λ (seen : Cells). tail_of (names_at seen at (suc left)) ≡ tail_after (λ next. tail_of (names_at seen next left)) result) same (step left)
    ∙ ap (tail_after (λ next. tail_of (names_at old next left))) is

next-by : (cells : Cells) (end : Result Tail NameFault) (at next left : ℕ) → 65536 ≤ left + at
    → tail_of (names_at cells at left) ≡ end → at < 65536 → ((left : ℕ) → tail_of (names_at cells at (suc left)) ≡
    tail_of (names_at cells next left)) → at < next → NamesSoFar cells end next
next-by cells end at next zero enough tail within step up = absurd (omega arith)
next-by cells end at next (suc left) enough tail within step up =
    record { left = left; enough = omega arith; tail = sym (step left) ∙ tail }

-- another name stands at a later address
pub next-name : (cells : Cells) (end : Result Tail NameFault) (at next : ℕ) → NamesSoFar cells end at → at < 65536
    → ((left : ℕ) → tail_of (names_at cells at (suc left)) ≡ tail_of (names_at cells next left)) → at < next
    → NamesSoFar cells end next
next-name cells end at next so within step up =
    next-by cells end at next so.left so.enough so.tail within step up

end-by : (cells : Cells) (end last : Result Tail NameFault) (at left : ℕ) → 65536 ≤ left + at
    → tail_of (names_at cells at left) ≡ end → at < 65536 → ((left : ℕ) → tail_of (names_at cells at (suc left)) ≡
    last) → last ≡ end
end-by cells end last at zero enough tail within step = absurd (omega arith)
end-by cells end last at (suc left) enough tail within step = sym (step left) ∙ tail

-- the names end here
pub names-end : (cells : Cells) (end last : Result Tail NameFault) (at : ℕ) → NamesSoFar cells end at → at < 65536 → ((left : ℕ) → tail_of (names_at cells at (suc left)) ≡ last) → last ≡ end
names-end cells end last at so within step = end-by cells end last at so.left so.enough so.tail within step

-- memory is the same as it was before another time when it was the same
pub same-still : (before between after : Memory) → IsMemorySame before between → IsMemorySame between after → IsMemorySame before after
same-still before between after first second = record {
  modules = second.modules ∙ first.modules;
  cells = λ process. second.cells process ∙ first.cells process;
  represents = λ m stands. second.represents m (first.represents m stands);
}

pub same-memory : (memory : Memory) → IsMemorySame memory memory
same-memory memory = record { modules = refl; cells = λ process. refl; represents = λ m stands. stands }

-- there is one name at least
some-names : (names : List (List ℕ)) → 1 ≤ length names → not (length names == 0) ≡ true
some-names names some = elim (cases_eq (length names) 0) [
  | inl same ↦ absurd (omega (arith, same))
  | inr differ ↦ ap not (ne_eqb (length names) 0 differ)
]

said-with : (device : Option (List ℕ)) (names : List (List ℕ)) (slash : Bool) (next : ℕ) → 1 ≤ length names
    → listed_of (Ok (record { device = device; names = names; slash = slash; next = next })) ≡ listed_with device
    (Ok (record { dots = last_is_dots names; slash = slash; next = next }))
said-with device names slash next some =
    ap (λ (there : Bool). let said : Result Listed NameFault = Ok
    (record { device = device; has_names = there; dots = last_is_dots names; slash = slash; next = next }) in
    said) (some-names names some)

-- what a list says that starts at a device
list-before : (name : List ℕ) (rest : Result Names NameFault) → HasName rest → listed_of (device_list (name_before name rest)) ≡ listed_with (Some name) (tail_of rest)
list-before name (Ok rest) some = said-with (Some name) rest.names rest.slash rest.next some
list-before name (Err fault) some = refl

listed-with : (rest : ℕ → Result Names NameFault) (name : List ℕ) (next : ℕ) (b : Behind) → HasName (rest (next + 1))
    → listed_of (device_list (names_with rest name next b)) ≡ listed_by name (λ at. tail_of (rest at))
    (step_by name next b)
listed-with rest name next another some = list-before name (rest (next + 1)) some
listed-with rest name next a_slash some = refl
listed-with rest name next nothing some = refl
listed-with rest name next unreadable some = refl

pub device-listed : (cells : Cells) (at left : ℕ) (name : List ℕ)
    → listed_of (device_list (names_behind (λ next. names_at cells next left) cells at (Ok name))) ≡ listed_by name
    (λ next. tail_of (names_at cells next left)) (step_by name (at + length name) (behind cells (at + length name)))
device-listed cells at left name =
    listed-with (λ next. names_at cells next left) name (at + length name) (behind cells (at + length name)) (has-name cells (at + length name + 1) left)

-- what a list says that starts at no device
relative-by : (found : Result Names NameFault) → HasName found → listed_of (relative_list found) ≡ listed_with None (tail_of found)
relative-by (Ok found) some = said-with None found.names found.slash found.next some
relative-by (Err fault) some = refl

pub relative-listed : (cells : Cells) (at left : ℕ) → listed_of (relative_list (names_at cells at left)) ≡ listed_with None (tail_of (names_at cells at left))
relative-listed cells at left = relative-by (names_at cells at left) (has-name cells at left)

-- the list whose first name is this, or breaks off
pub from-name : (cells : Cells) (at left : ℕ) (name : Result (List ℕ) NameFault) → name ≡ name_at cells at
    → listed_of (device_list (names_behind (λ next. names_at cells next left) cells at name)) ≡ listed_of
    (device_list (names_at cells at (suc left)))
from-name cells at left name is =
    ap (λ (name : Result (List ℕ) NameFault). listed_of (device_list (names_behind (λ next. names_at cells next left) cells at name))) is

-- no name stands past the last address
pub past-end : (cells : Cells) (at : ℕ) → at ≡ 65535 → Err Unreadable ≡ listed_of (device_list (names_at cells (at + 1) 65536))
past-end cells at last =
    let next : 65536 ≡ at + 1 = omega (arith, last) in
    ap (λ (k : ℕ). listed_of (device_list (names_at cells k 65536))) next

-- the list behind a slash
pub slash-list : (cells : Cells) (at : ℕ) → user_cell cells (at + 0) ≡ Some 47 → listed_of (device_list (names_from cells (at + 1))) ≡ listed_of (path_list cells at)
slash-list cells at e =
    let here : at ≡ at + 0 = omega arith in
    sym (ap (λ (byte : Option ℕ). listed_of (list_with cells at byte)) (ap (user_cell cells) here ∙ e))

-- the list without a slash before its first name
pub other-list : (cells : Cells) (at byte : ℕ) → user_cell cells (at + 0) ≡ Some byte → byte ≢ 47 → listed_of (relative_list (names_from cells at)) ≡ listed_of (path_list cells at)
other-list cells at byte e differ =
    let here : at ≡ at + 0 = omega arith in
    sym (ap (λ (byte : Option ℕ). listed_of (list_with cells at byte)) (ap (user_cell cells) here ∙ e)
    ∙ ap (λ (slash : Bool). listed_of (if slash then device_list (names_from cells (at + 1)) else relative_list (names_from cells at))) (ne_eqb byte 47 differ))
