-- The names of a path list, read one by one.
use Rattle.std.proofs.Common.{◌≡◌, ◌∙◌, ◌+◌, ◌<◌, ◌≤◌, inl, inr, ℕ, zero, suc, Bool, true, false, IfSome, MatchOption, Option, Some, None, Result, Ok, Err, List, [], ◌∷◌, ◌==◌, not, length, refl, sym, ap, subst, cond, arith, if◌then◌else◌}
use Rattle.std.proofs.lemmas.Bool.{cases_eq, cases_lt, cond-false, eqb-true, le-ltb, ne_eqb}
use Rattle.std.specs.Option.{option_map_or}
use Rattle.os9_base.specs.Cells.{Cells}
use Rattle.os9_base.specs.UserNames.{user_cell, name_at, name_in, run_bytes, run_with}
use Rattle.os9_base.specs.declared.name_fault.NameFault.{NameFault}
use Rattle.os9_base.specs.declared.name_fault.NameFault.TheVariants.{Unreadable, NoName}
use Rattle.io_model.specs.PathList.{Names, PathList, Behind, another, a_slash, nothing, unreadable, behind, name_before, names_with, names_behind, names_at, names_from, from_device, device_list, relative_list, list_with, path_list}
use Rattle.device_paths.specs.Standing.{IsFirstOf, IsFirstRead, NamesFrom, NamesStand, NextIsBehind, name_first, name_list, named_by, names_after, names_on}
use Rattle.device_paths.specs.Tail.{HasLaterName, step_by}
use Rattle.device_paths.specs.declared.named.Named.{Named}
use Rattle.device_paths.specs.declared.names.Step.{Step}
use Rattle.device_paths.specs.declared.names.Step.TheVariants.{Another, Last}

-- ---- one name

first-before : (name : List ℕ) (rest : Result Names NameFault) → name_list (name_before name rest) ≡ name_first name (name_list rest)
first-before name (Ok rest) = refl
first-before name (Err fault) = refl

-- the names that begin with one, by what stands behind it
pub names-by : (rest : ℕ → Result Names NameFault) (name : List ℕ) (next : ℕ) (b : Behind)
    → name_list (names_with rest name next b) ≡ names_after (λ at. name_list (rest at))
    (named_by name (step_by name next b))
names-by rest name next another = first-before name (rest (next + 1))
names-by rest name next a_slash = refl
names-by rest name next nothing = refl
names-by rest name next unreadable = refl

-- another one begins behind it
pub next-behind : (at : ℕ) (name : List ℕ) (step : Result Step NameFault) → HasLaterName at step → NextIsBehind at (named_by name step)
next-behind at name (Ok (Another next)) up = up
next-behind at name (Ok (Last tail)) up = tt
next-behind at name (Err fault) up = tt

-- ---- the first of some names

first-on : (cells : Cells) (names : List (List ℕ)) (left next : ℕ) (name : List ℕ) (rest : Result (List (List ℕ))
    NameFault) → name_list (names_at cells next left) ≡ rest → name_first name rest ≡ Ok names → IsFirstOf cells names
    (record { name = name; next = Some next })
first-on cells names left next name (Ok rest) is all = record {
  rest = rest;
  are = cc;
  stand = record { left = left; are = is };
}
first-on cells names left next name (Err fault) is all = cc

first-named : (cells : Cells) (names : List (List ℕ)) (left : ℕ) (name : List ℕ) (next : Option ℕ)
    → names_on (λ at. name_list (names_at cells at left)) name next ≡ Ok names → IsFirstOf cells names
    (record { name = name; next = next })
first-named cells names left name None all = record { rest = []; are = cc; stand = refl }
first-named cells names left name (Some next) all =
    first-on cells names left next name (name_list (names_at cells next left)) refl all

first-by : (cells : Cells) (names : List (List ℕ)) (left : ℕ) (result : Result Named NameFault)
    → names_after (λ at. name_list (names_at cells at left)) result ≡ Ok names → IsFirstRead cells names result
first-by cells names left (Ok named) all = first-named cells names left named.name named.next all
first-by cells names left (Err fault) all = cc

first-left : (cells : Cells) (at left : ℕ) (names : List (List ℕ)) (result : Result Named NameFault)
    → ((left : ℕ) → name_list (names_at cells at (suc left)) ≡ names_after
    (λ next. name_list (names_at cells next left)) result) → name_list (names_at cells at left) ≡ Ok names
    → IsFirstRead cells names result
first-left cells at zero names result reads are = cc
first-left cells at (suc left) names result reads are = first-by cells names left result (sym (reads left) ∙ are)

pub first-read : (cells : Cells) (at : ℕ) (names : List (List ℕ)) (result : Result Named NameFault)
    → ((left : ℕ) → name_list (names_at cells at (suc left)) ≡ names_after
    (λ next. name_list (names_at cells next left)) result) → NamesStand cells at names → IsFirstRead cells names
    result
first-read cells at names result reads stand = first-left cells at stand.left names result reads stand.are

-- ---- no name stands past FFFF

no-name_past : (cells : Cells) (at : ℕ) → 65536 ≤ at → name_at cells at ≡ Err Unreadable
no-name_past cells at past =
    ap (λ (byte : Option ℕ). let read : Result (List ℕ) NameFault = option_map_or name_in (run_with (λ next. run_bytes cells next 29) at byte) (Err Unreadable) in read)
    (cond-false {A = Option ℕ} _ (cells at) None (le-ltb at 65536 past))

stand-left : (cells : Cells) (at left : ℕ) (names : List (List ℕ)) → name_list (names_at cells at left) ≡ Ok names → at < 65536
stand-left cells at zero names are = cc
stand-left cells at (suc left) names are = elim (cases_lt at 65536) [
  | inl within ↦ within
  | inr past ↦
      let none : name_list (names_at cells at (suc left)) ≡ Err Unreadable =
      ap (λ (name : Result (List ℕ) NameFault). name_list (names_behind (λ next. names_at cells next left) cells at name)) (no-name_past cells at past)
      in cc
]

pub stand-within : (cells : Cells) (at : ℕ) (names : List (List ℕ)) → NamesStand cells at names → at < 65536
stand-within cells at names stand = stand-left cells at stand.left names stand.are

-- ---- the names behind a device

-- no names
pub no-names : (names : List (List ℕ)) → not (length names == 0) ≡ false → names ≡ []
no-names [] none = refl
no-names (name ∷ names) none = absurd (omega (arith, some))
  where
    some : length (name ∷ names) ≡ 0
    some = elim (cases_eq (length (name ∷ names)) 0) [
      | inl same ↦ same
      | inr differ ↦ let yes : not (length (name ∷ names) == 0) ≡ true = ap not (ne_eqb (length (name ∷ names)) 0 differ) in cc
    ]

behind-first : (cells : Cells) (left start : ℕ) (device name : List ℕ) (list : PathList)
    (rest : Result Names NameFault) → names_at cells (start + length name + 1) left ≡ rest
    → device_list (name_before name rest) ≡ Ok list → list.device ≡ Some device
    → NamesStand cells (start + length device + 1) list.names
behind-first cells left start device name list (Ok rest) is all there =
    let devices : Some name ≡ list.device = ap_device in
    let same : name ≡ device = cc in
    let names : rest.names ≡ list.names = cc in
    subst (λ (d : List ℕ). NamesStand cells (start + length d + 1) list.names) same
    (record { left = left; are = ap name_list is ∙ ap (λ (found : List (List ℕ)). let names : Result (List (List ℕ)) NameFault = Ok found in names) names })
  where
    ap_device : Some name ≡ list.device
    ap_device = cc
behind-first cells left start device name list (Err fault) is all there = cc

-- a device with no names behind it
no-more : (device : List ℕ) (slash : Bool) (next : ℕ) (list : PathList) (P : Type 0)
    → (let said : Result PathList NameFault = Ok (record {
      device = Some device;
      names = [];
      slash = slash;
      next =
          next;
    }) in said) ≡ Ok list → not (length list.names == 0) ≡ true → P
no-more device slash next list P all some =
    let names : [] ≡ list.names = cc in
    let none : not (length list.names == 0) ≡ false = ap (λ (names : List (List ℕ)). not (length names == 0)) (sym names) in
    cc

behind-named : (cells : Cells) (left start : ℕ) (device name : List ℕ) (list : PathList) (b : Behind)
    → device_list (names_with (λ next. names_at cells next left) name (start + length name) b) ≡ Ok list
    → list.device ≡ Some device → not (length list.names == 0) ≡ true → NamesStand cells (start + length device + 1)
    list.names
behind-named cells left start device name list another all there some = behind-first cells left start device name list (names_at cells (start + length name + 1) left) refl all there
behind-named cells left start device name list a_slash all there some = no-more name true (start + length name) list _ all some
behind-named cells left start device name list nothing all there some = no-more name false (start + length name) list _ all some
behind-named cells left start device name list unreadable all there some = cc

behind-device : (cells : Cells) (left start : ℕ) (device : List ℕ) (list : PathList)
    (name : Result (List ℕ) NameFault) → device_list (names_behind (λ next. names_at cells next left) cells start
    name) ≡ Ok list → list.device ≡ Some device → not (length list.names == 0) ≡ true
    → NamesStand cells (start + length device + 1) list.names
behind-device cells left start device list (Ok name) all there some = behind-named cells left start device name list (behind cells (start + length name)) all there some
behind-device cells left start device list (Err fault) all there some = cc

-- ---- the names of a list

relative-names : (cells : Cells) (at left : ℕ) (list : PathList) (found : Result Names NameFault) → names_at cells at left ≡ found → relative_list found ≡ Ok list → NamesStand cells at list.names
relative-names cells at left list (Ok found) is all =
    let names : found.names ≡ list.names = cc in
    record { left = left; are = ap name_list is ∙ ap (λ (names : List (List ℕ)). let said : Result (List (List ℕ)) NameFault = Ok names in said) names }
relative-names cells at left list (Err fault) is all = cc

relative-device : (found : Result Names NameFault) (list : PathList) → relative_list found ≡ Ok list → None ≡ list.device
relative-device (Ok found) list all = cc
relative-device (Err fault) list all = cc

from-device_device : (names : List (List ℕ)) (found : Names) (list : PathList) → from_device names found ≡ Ok list → list.device ≡ None → ⊥
from-device_device [] found list all none = cc
from-device_device (device ∷ names) found list all none = cc

device-device : (found : Result Names NameFault) (list : PathList) → device_list found ≡ Ok list → list.device ≡ None → ⊥
device-device (Ok found) list all none = from-device_device found.names found list all none
device-device (Err fault) list all none = cc

relative-by : (cells : Cells) (at : ℕ) (list : PathList) (slash : Bool)
    → (if slash then device_list (names_from cells (at + 1)) else relative_list (names_from cells at)) ≡ Ok list
    → list.device ≡ None → NamesStand cells at list.names
relative-by cells at list true all none = absurd (device-device (names_from cells (at + 1)) list all none)
relative-by cells at list false all none = relative-names cells at 65536 list (names_from cells at) refl all

relative-with : (cells : Cells) (at : ℕ) (list : PathList) (byte : Option ℕ) → list_with cells at byte ≡ Ok list → list.device ≡ None → NamesStand cells at list.names
relative-with cells at list None all none = cc
relative-with cells at list (Some byte) all none = relative-by cells at list (byte == 47) all none

-- without a device they stand where the list does
pub relative-stand : (cells : Cells) (at : ℕ) (list : PathList) → path_list cells at ≡ Ok list → list.device ≡ None → NamesStand cells at list.names
relative-stand cells at list all none = relative-with cells at list (user_cell cells at) all none

device-by : (cells : Cells) (at : ℕ) (list : PathList) (device : List ℕ) (slash : Bool)
    → (if slash then device_list (names_from cells (at + 1)) else relative_list (names_from cells at)) ≡ Ok list
    → list.device ≡ Some device → not (length list.names == 0) ≡ true → NamesStand cells (at + 1 + length device + 1)
    list.names
device-by cells at list device true all there some = behind-device cells 65535 (at + 1) device list (name_at cells (at + 1)) all there some
device-by cells at list device false all there some =
    let none : None ≡ list.device = relative-device (names_from cells at) list all in
    cc

device-with : (cells : Cells) (at : ℕ) (list : PathList) (device : List ℕ) (byte : Option ℕ) → list_with cells at byte
    ≡ Ok list → list.device ≡ Some device → not (length list.names == 0) ≡ true
    → NamesStand cells (at + 1 + length device + 1) list.names
device-with cells at list device None all there some = cc
device-with cells at list device (Some byte) all there some = device-by cells at list device (byte == 47) all there some

device-stand : (cells : Cells) (at : ℕ) (list : PathList) (device : List ℕ) → path_list cells at ≡ Ok list
    → list.device ≡ Some device → not (length list.names == 0) ≡ true → NamesStand cells (at + length device + 2)
    list.names
device-stand cells at list device all there some =
    let place : at + 1 + length device + 1 ≡ at + length device + 2 = omega arith in
    subst (λ (k : ℕ). NamesStand cells k list.names) place (device-with cells at list device (user_cell cells at) all there some)

-- behind a device they stand at this address
pub device-first : (cells : Cells) (at len : ℕ) (list : PathList) (device : List ℕ) (first : Option ℕ)
    → path_list cells at ≡ Ok list → list.device ≡ Some device → not (length list.names == 0) ≡ true
    → len ≡ length device → MatchOption first (65536 ≤ at + len + 2) (λ first. first ≡ at + len + 2)
    → NamesFrom cells first list.names
device-first cells at len list device None all there some is past =
    let within : at + length device + 2 < 65536 = stand-within cells (at + length device + 2) list.names (device-stand cells at list device all there some) in
    absurd (omega (arith, past, is, within))
device-first cells at len list device (Some first) all there some is place =
    let here : at + length device + 2 ≡ first = omega (arith, place, is) in
    subst (λ (k : ℕ). NamesStand cells k list.names) here (device-stand cells at list device all there some)

-- one name stands there at least
some-first : (name : List ℕ) (names : List (List ℕ)) (rest : Result (List (List ℕ)) NameFault) → name_first name rest ≡ Ok names → 1 ≤ length names
some-first name names (Ok rest) is =
    let all : name ∷ rest ≡ names = cc in
    subst (λ (names : List (List ℕ)). 1 ≤ length names) all (omega arith)
some-first name names (Err fault) is = cc

some-with : (rest : ℕ → Result Names NameFault) (name : List ℕ) (names : List (List ℕ)) (next : ℕ) (b : Behind) → name_list (names_with rest name next b) ≡ Ok names → 1 ≤ length names
some-with rest name names next another is = some-first name names (name_list (rest (next + 1))) (sym (first-before name (rest (next + 1))) ∙ is)
some-with rest name names next a_slash is = some-first name names (Ok []) is
some-with rest name names next nothing is = some-first name names (Ok []) is
some-with rest name names next unreadable is = cc

some-behind : (rest : ℕ → Result Names NameFault) (cells : Cells) (at : ℕ) (names : List (List ℕ))
    (name : Result (List ℕ) NameFault) → name_list (names_behind rest cells at name) ≡ Ok names → 1 ≤ length names
some-behind rest cells at names (Ok name) is = some-with rest name names (at + length name) (behind cells (at + length name)) is
some-behind rest cells at names (Err fault) is = cc

some-left : (cells : Cells) (at left : ℕ) (names : List (List ℕ)) → name_list (names_at cells at left) ≡ Ok names → 1 ≤ length names
some-left cells at zero names is = cc
some-left cells at (suc left) names is = some-behind (λ next. names_at cells next left) cells at names (name_at cells at) is

pub some-stand : (cells : Cells) (at : ℕ) (names : List (List ℕ)) → NamesStand cells at names → 1 ≤ length names
some-stand cells at names stand = some-left cells at stand.left names stand.are
