-- Where a byte or a name is missing that a call reads.
use Rattle.std.proofs.Common.{◌≡◌, ◌≢◌, ◌⊎◌, ℕ, zero, suc, ◌+◌, ◌-◌, ◌<◌, ◌≤◌, ◌==◌, ◌&&◌, Bool, true, false, Option, Some, None, Result, Ok, Err, List, [], ◌∷◌, length, refl, sym, ap, ◌∙◌, subst, inl, inr, arith}
use Rattle.std.specs.Prelude.{nat_le, nat_lt, option_map, if◌then◌else◌}
use Rattle.std.specs.Option.{option_map_or}
use Rattle.std.proofs.lemmas.Bool.{cases_eq, cases_lt, eqb-false, eqb-true, false≢true, le-leb, le-ltb, ltb-false, true≢false}
use Rattle.std.proofs.lemmas.Option.{none-some, same_Some}
use Rattle.os9_base.specs.UserLines.{line_at, line_with}
use Rattle.os9_base.specs.Cells.{Cells}
use Rattle.os9_base.specs.Name.{is_name_character, low_bits, name_run}
use Rattle.os9_base.specs.UserNames.{goes_on, name_at, name_in, run_bytes, run_with, user_cell}
use Rattle.os9_base.specs.declared.name_fault.NameFault.{NameFault}
use Rattle.os9_base.specs.declared.name_fault.NameFault.TheVariants.{Unreadable, NoName}
use Rattle.proc_model.specs.Program.{slash}
use Rattle.proc_model.specs.UserBytes.{byte_before, user_bytes}
use Rattle.io_model.specs.declared.keys.TheConstants.{RETURN}
use Rattle.io_model.specs.declared.pending.PendingCall.{PendingCall}
use Rattle.io_model.specs.Io.{Io, pending_at}
use Rattle.io_model.specs.PathList.{Behind, Names, another, a_slash, nothing, unreadable, behind_name, behind_slash, behind, device_list, from_device, is_marked, list_with, name_before, names_at, names_behind, names_from, names_with, path_list, relative_list}
use Rattle.io_model.specs.Step.{Caller}
use Rattle.io_model.specs.Write.{line_bytes}
use Rattle.call_laws.specs.Causes.{HasGap, IsOfList, ListBreaksOff, NamesNothing, asked_by}

-- ---- a list up to an address

-- each byte from one address on, up to another, is one of a list with others behind it
abbrev Runs : Cells → ℕ → ℕ → Type 0
Runs cells from to = (k : ℕ) → from ≤ k → k < to → IsOfList (user_cell cells k)

runs-none : (cells : Cells) (from : ℕ) → Runs cells from from
runs-none cells from k up down = absurd (omega (arith, up, down))

runs-then : (cells : Cells) (from mid to : ℕ) → Runs cells from mid → Runs cells mid to → Runs cells from to
runs-then cells from mid to one two k up down =
    elim (cases_lt k mid) [
      | inl before ↦ one k up before
      | inr behind ↦ two k behind down
    ]

runs-one : (cells : Cells) (at byte : ℕ) → user_cell cells at ≡ Some byte → (goes_on byte ≡ true) ⊎ (byte ≡ slash) → Runs cells at (at + 1)
runs-one cells at byte is of_list k up down =
    let same : at ≡ k = omega (arith, up, down) in
    subst (λ (k : ℕ). IsOfList (user_cell cells k)) same (subst IsOfList (sym is) of_list)

-- what is wrong at an address
abbrev Wrong : NameFault → Cells → ℕ → Type 0
Wrong Unreadable cells at = user_cell cells at ≡ None
Wrong NoName cells at = name_at cells at ≡ Err NoName

-- a list goes on from one address up to another, where this is wrong
record Breaks (fault : NameFault) (cells : Cells) (from : ℕ) : Type 0 where
  at : ℕ
  behind : from ≤ at
  runs : Runs cells from at
  wrong : Wrong fault cells at
  starts : (at ≡ from) ⊎ (fault ≡ NoName → user_cell cells (at - 1) ≡ Some slash)

breaks-here : (fault : NameFault) (cells : Cells) (at : ℕ) → Wrong fault cells at → Breaks fault cells at
breaks-here fault cells at wrong =
    record { at = at; behind = omega arith; runs = runs-none cells at; wrong = wrong; starts = inl refl }

-- one that stands behind a slash
starts-then : (fault : NameFault) (cells : Cells) (from mid at : ℕ) → (fault ≡ NoName → user_cell cells (mid - 1) ≡
    Some slash) → (at ≡ mid) ⊎ (fault ≡ NoName → user_cell cells (at - 1) ≡ Some slash)
    → (at ≡ from) ⊎ (fault ≡ NoName → user_cell cells (at - 1) ≡ Some slash)
starts-then fault cells from mid at slashed (inl same) =
    inr (λ no. ap (λ (k : ℕ). user_cell cells (k - 1)) same ∙ slashed no)
starts-then fault cells from mid at slashed (inr before) = inr before

slash-before : (cells : Cells) (at byte : ℕ) → user_cell cells at ≡ Some byte → (byte == slash) ≡ true → user_cell cells (at + 1 - 1) ≡ Some slash
slash-before cells at byte there is_slash =
    let same : at + 1 - 1 ≡ at = omega arith in
    ap (user_cell cells) same ∙ there ∙ ap Some (eqb-true byte slash is_slash)

unreadable-name : Unreadable ≡ NoName → ⊥
unreadable-name is = cc

breaks-then : (fault : NameFault) (cells : Cells) (from mid : ℕ) → from ≤ mid → Runs cells from mid
    → (fault ≡ NoName → user_cell cells (mid - 1) ≡ Some slash) → Breaks fault cells mid → Breaks fault cells from
breaks-then fault cells from mid up runs slashed it =
    let behind : mid ≤ it.at = it.behind in
    record {
      at = it.at;
      behind = omega (arith, up, behind);
      runs = runs-then cells from mid it.at runs it.runs;
      wrong = it.wrong;
      starts = starts-then fault cells from mid it.at slashed it.starts;
    }

-- ---- names

mapped-none : {A B : Type 0} (f : A → B) (place : Option A) → option_map f place ≡ None → place ≡ None
mapped-none f None is = refl
mapped-none f (Some a) is = absurd (none-some (f a) (sym is))

mapped-some : {A B : Type 0} (f : A → B) (place : Option A) (b : B) → option_map f place ≡ Some b → (a : A) × (place ≡ Some a) × (f a ≡ b)
mapped-some f None b is = absurd (none-some b is)
mapped-some f (Some a) b is = (a, refl, same_Some (f a) b is)

-- a run that cannot be read
run-breaks : (cells : Cells) (at most : ℕ) → run_bytes cells at most ≡ None → Breaks Unreadable cells at
run-breaks cells at zero none = absurd (none-some [] (sym none))
run-breaks cells at (suc most) none = by_byte (user_cell cells at) refl (run-breaks cells (at + 1) most) none
  where
    by_on : (byte : ℕ) → user_cell cells at ≡ Some byte → (on : Bool) → goes_on byte ≡ on
        → (run_bytes cells (at + 1) most ≡ None → Breaks Unreadable cells (at + 1))
        → (if on then option_map (λ (run : List ℕ). byte ∷ run) (run_bytes cells (at + 1) most) else Some (byte ∷ []))
        ≡ None → Breaks Unreadable cells at
    by_on byte is true on further none =
        breaks-then Unreadable cells at (at + 1) (omega arith) (runs-one cells at byte is (inl on)) (λ no. absurd (unreadable-name no))
        (further (mapped-none (λ (run : List ℕ). byte ∷ run) (run_bytes cells (at + 1) most) none))
    by_on byte is false on further none = absurd (none-some (byte ∷ []) (sym none))

    by_byte : (byte : Option ℕ) → user_cell cells at ≡ byte → (run_bytes cells (at + 1) most ≡ None
        → Breaks Unreadable cells (at + 1)) → run_with (λ next. run_bytes cells next most) at byte ≡ None
        → Breaks Unreadable cells at
    by_byte None is further none = breaks-here Unreadable cells at is
    by_byte (Some byte) is further none = by_on byte is (goes_on byte) refl further none

marked-byte : (byte : ℕ) → nat_lt byte 128 ≡ false → nat_le 128 byte ≡ true
marked-byte byte high = le-leb 128 byte (ltb-false byte 128 high)

-- the characters of a name that has no bit 7
name-runs : (cells : Cells) (at most : ℕ) (bytes : List ℕ) → run_bytes cells at most ≡ Some bytes
    → is_marked (user_cell cells (at + length (name_run bytes) - 1)) ≡ false
    → Runs cells at (at + length (name_run bytes))
name-runs cells at zero bytes is unmarked =
    subst (λ (bytes : List ℕ). Runs cells at (at + length (name_run bytes))) (same_Some [] bytes is) (λ k up down. absurd (omega (arith, up, down)))
name-runs cells at (suc most) bytes is unmarked =
    by_byte (user_cell cells at) refl (name-runs cells (at + 1) most) is
  where
    -- the last byte of the run
    by_last : (byte : ℕ) → user_cell cells at ≡ Some byte → (char low : Bool) → is_name_character (low_bits byte) ≡
        char → nat_lt byte 128 ≡ low → (char && low) ≡ false
        → is_marked (user_cell cells (at + length (if char then low_bits byte ∷ (if low then [] else []) else []) -
        1)) ≡ false → Runs cells at (at + length (if char then low_bits byte ∷ (if low then [] else []) else []))
    by_last byte there false low char_is low_is over unmarked = λ k up down. absurd (omega (arith, up, down))
    by_last byte there true true char_is low_is over unmarked = absurd (true≢false over)
    by_last byte there true false char_is low_is over unmarked =
        let same : at + 1 - 1 ≡ at = omega arith in
        absurd (false≢true (sym unmarked ∙ ap (λ (k : ℕ). is_marked (user_cell cells k)) same ∙ ap is_marked there ∙ marked-byte byte low_is))

    -- one with others behind it
    by_more : (byte : ℕ) → user_cell cells at ≡ Some byte → goes_on byte ≡ true
        → ((rest : List ℕ) → run_bytes cells (at + 1) most ≡ Some rest
        → is_marked (user_cell cells (at + 1 + length (name_run rest) - 1)) ≡ false → Runs cells (at + 1)
        (at + 1 + length (name_run rest))) → (rest : List ℕ) → run_bytes cells (at + 1) most ≡ Some rest
        → is_marked (user_cell cells (at + suc (length (name_run rest)) - 1)) ≡ false
        → Runs cells at (at + suc (length (name_run rest)))
    by_more byte there on further rest rest_is unmarked =
        let last : at + suc (length (name_run rest)) - 1 ≡ at + 1 + length (name_run rest) - 1 = omega arith in
        let end : at + 1 + length (name_run rest) ≡ at + suc (length (name_run rest)) = omega arith in
        subst (Runs cells at) end (runs-then cells at (at + 1) (at + 1 + length (name_run rest))
        (runs-one cells at byte there (inl on))
        (further rest rest_is (ap (λ (k : ℕ). is_marked (user_cell cells k)) (sym last) ∙ unmarked)))

    by_chars : (byte : ℕ) (rest : List ℕ) (char low : Bool) → (char && low) ≡ true → length (if char then low_bits byte ∷ (if low then name_run rest else []) else []) ≡ suc (length (name_run rest))
    by_chars byte rest true true on = refl
    by_chars byte rest true false on = absurd (false≢true on)
    by_chars byte rest false low on = absurd (false≢true on)

    by_on : (byte : ℕ) → user_cell cells at ≡ Some byte → (on : Bool) → goes_on byte ≡ on
        → ((rest : List ℕ) → run_bytes cells (at + 1) most ≡ Some rest
        → is_marked (user_cell cells (at + 1 + length (name_run rest) - 1)) ≡ false → Runs cells (at + 1)
        (at + 1 + length (name_run rest))) → (if on then option_map (λ (run : List ℕ). byte ∷ run)
        (run_bytes cells (at + 1) most) else Some (byte ∷ [])) ≡ Some bytes
        → Runs cells at (at + length (name_run bytes))
    by_on byte there true on further is =
        let it = mapped-some (λ (run : List ℕ). byte ∷ run) (run_bytes cells (at + 1) most) bytes is in
        let long : length (name_run bytes) ≡ suc (length (name_run it.0)) = ap (λ (bytes : List ℕ). length
        (name_run bytes)) (sym it.2) ∙ by_chars byte it.0 (is_name_character (low_bits byte)) (nat_lt byte 128) on
        in
        subst (λ (n : ℕ). Runs cells at (at + n)) (sym long) (by_more byte there on further it.0 it.1 (ap (λ (n : ℕ). is_marked (user_cell cells (at + n - 1))) (sym long) ∙ unmarked))
    by_on byte there false on further is =
        let same : byte ∷ [] ≡ bytes = same_Some (byte ∷ []) bytes is in
        subst (λ (bytes : List ℕ). Runs cells at (at + length (name_run bytes))) same
        (by_last byte there (is_name_character (low_bits byte)) (nat_lt byte 128) refl refl on
        (subst (λ (bytes : List ℕ). is_marked (user_cell cells (at + length (name_run bytes) - 1)) ≡ false)
        (sym same) unmarked))

    by_byte : (byte : Option ℕ) → user_cell cells at ≡ byte → ((rest : List ℕ) → run_bytes cells (at + 1) most ≡ Some
        rest → is_marked (user_cell cells (at + 1 + length (name_run rest) - 1)) ≡ false → Runs cells (at + 1)
        (at + 1 + length (name_run rest))) → run_with (λ next. run_bytes cells next most) at byte ≡ Some bytes
        → Runs cells at (at + length (name_run bytes))
    by_byte None there further is = absurd (none-some bytes is)
    by_byte (Some byte) there further is = by_on byte there (goes_on byte) refl further is

-- how a name is read
record Reads (cells : Cells) (at : ℕ) (name : List ℕ) : Type 0 where
  bytes : List ℕ
  bytes_are : run_bytes cells at 30 ≡ Some bytes
  name_is : name_run bytes ≡ name

ok-err : {A : Type 0} (a : A) (fault : NameFault) → ◌≡◌ {A = Result A NameFault} (Ok a) (Err fault) → ⊥
ok-err a fault is = cc

abbrev fault_in : {A : Type 0} → Result A NameFault → NameFault
fault_in (Ok a) = NoName
fault_in (Err fault) = fault

abbrev name_or : Result (List ℕ) NameFault → List ℕ
name_or (Ok name) = name
name_or (Err fault) = []

reads-name : (cells : Cells) (at : ℕ) (name : List ℕ) → name_at cells at ≡ Ok name → Reads cells at name
reads-name cells at name is = by_bytes (run_bytes cells at 30) refl is
  where
    by_length : (bytes : List ℕ) (fits : Bool) → option_map_or Ok (if fits then Some (name_run bytes) else None) (Err NoName) ≡ Ok name → name_run bytes ≡ name
    by_length bytes true is = ap name_or is
    by_length bytes false is = absurd (ok-err name NoName (sym is))

    by_bytes : (bytes : Option (List ℕ)) → run_bytes cells at 30 ≡ bytes → option_map_or name_in bytes (Err Unreadable) ≡ Ok name → Reads cells at name
    by_bytes None there is = absurd (ok-err name Unreadable (sym is))
    by_bytes (Some bytes) there is =
        record { bytes = bytes; bytes_are = there; name_is = by_length bytes (nat_le 1 (length (name_run bytes)) && nat_le (length (name_run bytes)) 29) is }

-- a name that breaks off, or is none
name-breaks : (cells : Cells) (at : ℕ) (fault : NameFault) → name_at cells at ≡ Err fault → Breaks fault cells at
name-breaks cells at NoName is = breaks-here NoName cells at is
name-breaks cells at Unreadable is = by_bytes (run_bytes cells at 30) refl is
  where
    no-unreadable : NoName ≡ Unreadable → ⊥
    no-unreadable same = cc

    by_length : (bytes : List ℕ) (fits : Bool) → option_map_or Ok (if fits then Some (name_run bytes) else None) (Err NoName) ≡ Err Unreadable → ⊥
    by_length bytes true is = ok-err (name_run bytes) Unreadable is
    by_length bytes false is = no-unreadable (ap fault_in is)

    by_bytes : (bytes : Option (List ℕ)) → run_bytes cells at 30 ≡ bytes → option_map_or name_in bytes (Err Unreadable) ≡ Err Unreadable → Breaks Unreadable cells at
    by_bytes None none is = run-breaks cells at 30 none
    by_bytes (Some bytes) there is =
        absurd (by_length bytes (nat_le 1 (length (name_run bytes)) && nat_le (length (name_run bytes)) 29) is)

-- ---- names with slashes between them

before-err : (name : List ℕ) (rest : Result Names NameFault) (fault : NameFault) → name_before name rest ≡ Err fault → rest ≡ Err fault
before-err name (Ok found) fault is = absurd (ok-err _ fault is)
before-err name (Err other) fault is = is

no-cell : (cells : Cells) (at : ℕ) → 65536 ≤ at → user_cell cells at ≡ None
no-cell cells at past = ap (λ (low : Bool). if low then cells at else None) (le-ltb at 65536 past)

-- behind a name that has no bit 7
module _ (fault : NameFault) (cells : Cells) (at left : ℕ) (name : List ℕ) (read : Reads cells at name) (next : ℕ)
    (next_is : at + length name ≡ next) (unmarked : is_marked (user_cell cells (next - 1)) ≡ false)
    (further : names_at cells (next + 1) left ≡ Err fault → Breaks fault cells (next + 1)) where
  up : at ≤ next
  up = omega (arith, next_is)

  to-next : at + length (name_run read.bytes) ≡ next
  to-next = ap (λ (name : List ℕ). at + length name) read.name_is ∙ next_is

  runs-name : Runs cells at next
  runs-name =
      subst (Runs cells at) to-next (name-runs cells at 30 read.bytes read.bytes_are (ap (λ (k : ℕ). is_marked (user_cell cells (k - 1))) to-next ∙ unmarked))

  runs-slash : (byte : ℕ) → user_cell cells next ≡ Some byte → (byte == slash) ≡ true → Runs cells at (next + 1)
  runs-slash byte there is_slash =
      runs-then cells at next (next + 1) runs-name (runs-one cells next byte there (inr (eqb-true byte slash is_slash)))

  abbrev With : Behind → Type 0
  With behind = names_with (λ next. names_at cells next left) name next behind ≡ Err fault

  by-after : (byte : ℕ) → user_cell cells next ≡ Some byte → (byte == slash) ≡ true → (char : Bool) → With (if char then another else a_slash) → Breaks fault cells at
  by-after byte there is_slash true is =
      breaks-then fault cells at (next + 1) (omega (arith, up)) (runs-slash byte there is_slash) (λ no. slash-before cells next byte there is_slash)
      (further (before-err name (names_at cells (next + 1) left) fault is))
  by-after byte there is_slash false is = absurd (ok-err _ fault is)

  by-slash : (byte : ℕ) → user_cell cells next ≡ Some byte → (is_slash : Bool) → (byte == slash) ≡ is_slash
      → (after : Option ℕ) → user_cell cells (next + 1) ≡ after → With (if is_slash then behind_slash after else
      nothing) → Breaks fault cells at
  by-slash byte there true is_slash None none is =
      breaks-then fault cells at (next + 1) (omega (arith, up)) (runs-slash byte there is_slash) (λ no. slash-before cells next byte there is_slash)
      (subst (λ (fault : NameFault). Breaks fault cells (next + 1)) (ap fault_in is) (breaks-here Unreadable cells (next + 1) none))
  by-slash byte there true is_slash (Some after) after_is is =
      by-after byte there is_slash (is_name_character (low_bits after)) is
  by-slash byte there false is_slash after after_is is = absurd (ok-err _ fault is)

  by-next : (byte : Option ℕ) → user_cell cells next ≡ byte → With (behind_name cells next byte) → Breaks fault cells at
  by-next None none is =
      breaks-then fault cells at next up runs-name (λ no. absurd (unreadable-name (ap fault_in is ∙ no)))
      (subst (λ (fault : NameFault). Breaks fault cells next) (ap fault_in is) (breaks-here Unreadable cells next none))
  by-next (Some byte) there is = by-slash byte there (byte == slash) refl (user_cell cells (next + 1)) refl is

by-marked : (fault : NameFault) (cells : Cells) (at left : ℕ) (name : List ℕ) → Reads cells at name → (next : ℕ)
    → at + length name ≡ next → (names_at cells (next + 1) left ≡ Err fault → Breaks fault cells (next + 1))
    → (marked : Bool) → is_marked (user_cell cells (next - 1)) ≡ marked
    → names_with (λ next. names_at cells next left) name next (if marked then nothing else behind_name cells next
    (user_cell cells next)) ≡ Err fault → Breaks fault cells at
by-marked fault cells at left name read next next_is further true marked is = absurd (ok-err _ fault is)
by-marked fault cells at left name read next next_is further false unmarked is =
    by-next fault cells at left name read next next_is unmarked further (user_cell cells next) refl is

by-name : (fault : NameFault) (cells : Cells) (at left : ℕ) → ((next : ℕ) → at ≤ next → names_at cells (next + 1) left
    ≡ Err fault → Breaks fault cells (next + 1)) → (name : Result (List ℕ) NameFault) → name_at cells at ≡ name
    → names_behind (λ next. names_at cells next left) cells at name ≡ Err fault → Breaks fault cells at
by-name fault cells at left further (Ok name) there is =
    by-marked fault cells at left name (reads-name cells at name there) (at + length name) refl (further (at + length name) (omega arith)) (is_marked (user_cell cells (at + length name - 1))) refl is
by-name fault cells at left further (Err other) there is = name-breaks cells at fault (there ∙ ap Err (ap fault_in is))

names-break : (fault : NameFault) (cells : Cells) (at left : ℕ) → 65536 ≤ at + left → names_at cells at left ≡ Err fault → Breaks fault cells at
names-break fault cells at zero past is =
    subst (λ (fault : NameFault). Breaks fault cells at) (ap fault_in is) (breaks-here Unreadable cells at (no-cell cells at (omega (arith, past))))
names-break fault cells at (suc left) past is =
    by-name fault cells at left (λ next up. names-break fault cells (next + 1) left (omega (arith, past, up))) (name_at cells at) refl is

-- ---- a path list

-- some name is read
abbrev HasName : Result Names NameFault → Type 0
HasName (Ok found) = 1 ≤ length found.names
HasName (Err fault) = Unit {0}

has-before : (name : List ℕ) (rest : Result Names NameFault) → HasName (name_before name rest)
has-before name (Ok rest) = omega arith
has-before name (Err fault) = tt

has-with : (rest : ℕ → Result Names NameFault) (name : List ℕ) (next : ℕ) (b : Behind) → HasName (names_with rest name next b)
has-with rest name next another = has-before name (rest (next + 1))
has-with rest name next a_slash = omega arith
has-with rest name next nothing = omega arith
has-with rest name next unreadable = tt

has-behind : (rest : ℕ → Result Names NameFault) (cells : Cells) (at : ℕ) (name : Result (List ℕ) NameFault) → HasName (names_behind rest cells at name)
has-behind rest cells at (Ok name) = has-with rest name (at + length name) (behind cells (at + length name))
has-behind rest cells at (Err fault) = tt

has-name : (cells : Cells) (at left : ℕ) → HasName (names_at cells at left)
has-name cells at zero = tt
has-name cells at (suc left) = has-behind (λ next. names_at cells next left) cells at (name_at cells at)

device-err : (names : Result Names NameFault) (fault : NameFault) → HasName names → device_list names ≡ Err fault → names ≡ Err fault
device-err (Ok found) fault has is = by_names found.names has is
  where
    by_names : (names : List (List ℕ)) → 1 ≤ length names → from_device names found ≡ Err fault → Ok found ≡ Err fault
    by_names [] has is = absurd (omega (arith, has))
    by_names (device ∷ names) has is = absurd (ok-err _ fault is)
device-err (Err other) fault has is = ap Err (ap fault_in is)

relative-err : (names : Result Names NameFault) (fault : NameFault) → relative_list names ≡ Err fault → names ≡ Err fault
relative-err (Ok found) fault is = absurd (ok-err _ fault is)
relative-err (Err other) fault is = ap Err (ap fault_in is)

-- and it does not start at a slash
abbrev ListBreaks : NameFault → Cells → ℕ → Type 0
ListBreaks fault cells at = (it : Breaks fault cells at) × (it.at ≡ at → user_cell cells at ≡ Some slash → ⊥)

list-breaks : (fault : NameFault) (cells : Cells) (at : ℕ) → path_list cells at ≡ Err fault → ListBreaks fault cells at
list-breaks fault cells at is = by_byte (user_cell cells at) refl is
  where
    by_slash : (byte : ℕ) → user_cell cells at ≡ Some byte → (is_slash : Bool) → (byte == slash) ≡ is_slash
        → (if is_slash then device_list (names_from cells (at + 1)) else relative_list (names_from cells at)) ≡ Err
        fault → ListBreaks fault cells at
    by_slash byte there true is_slash is =
        let inner : Breaks fault cells (at + 1) = names-break fault cells (at + 1) 65536 (omega arith) (device-err (names_from cells (at + 1)) fault (has-name cells (at + 1) 65536) is) in
        let behind : at + 1 ≤ inner.at = inner.behind in
        let it : Breaks fault cells at = record {
          at = inner.at;
          behind = omega (arith, behind);
          runs = runs-then cells at (at + 1) inner.at (runs-one cells at byte there (inr (eqb-true byte slash is_slash))) inner.runs;
          wrong = inner.wrong;
          starts = starts-then fault cells at (at + 1) inner.at (λ no. slash-before cells at byte there is_slash) inner.starts;
        } in
        (it, λ same slashed. omega (arith, behind, same))
    by_slash byte there false is_slash is = (
      names-break fault cells at 65536 (omega arith) (relative-err (names_from cells at) fault is),
      λ same slashed. eqb-false byte slash is_slash (same_Some byte slash (sym there ∙ slashed)),
    )

    by_byte : (byte : Option ℕ) → user_cell cells at ≡ byte → list_with cells at byte ≡ Err fault → ListBreaks fault cells at
    by_byte None none is = (
      subst (λ (fault : NameFault). Breaks fault cells at) (ap fault_in is) (breaks-here Unreadable cells at none),
      λ same slashed. none-some slash (sym none ∙ slashed),
    )
    by_byte (Some byte) there is = by_slash byte there (byte == slash) refl is

name-place : (cells : Cells) (from at : ℕ) → from ≤ at → (at ≡ from → user_cell cells from ≡ Some slash → ⊥)
    → (at ≡ from) ⊎ (NoName ≡ NoName → user_cell cells (at - 1) ≡ Some slash)
    → (at ≡ from) × (user_cell cells at ≢ Some slash) ⊎ (from < at) × (user_cell cells (at - 1) ≡ Some slash)
name-place cells from at behind first starts = by_place (cases_eq at from) starts
  where
    by_place : (at ≡ from) ⊎ (at ≢ from) → (at ≡ from) ⊎ (NoName ≡ NoName → user_cell cells (at - 1) ≡ Some slash)
        → (at ≡ from) × (user_cell cells at ≢ Some slash) ⊎ (from < at) × (user_cell cells (at - 1) ≡ Some slash)
    by_place (inl same) starts = inl (same, λ slashed. first same (ap (user_cell cells) (sym same) ∙ slashed))
    by_place (inr apart) (inl same) = absurd (apart same)
    by_place (inr apart) (inr before) = inr (omega (arith, behind, apart), before refl)

pub list-breaks-off : (caller : Caller) → path_list caller.cells caller.regs.x ≡ Err Unreadable → ListBreaksOff caller
list-breaks-off caller is =
    let it : Breaks Unreadable caller.cells caller.regs.x = (list-breaks Unreadable caller.cells caller.regs.x is).0 in
    record { at = it.at; front = record { behind = it.behind; bytes = it.runs }; missing = it.wrong; list = is }

pub names-nothing : (caller : Caller) → path_list caller.cells caller.regs.x ≡ Err NoName → NamesNothing caller
names-nothing caller is =
    let found : ListBreaks NoName caller.cells caller.regs.x = list-breaks NoName caller.cells caller.regs.x is in
    let it : Breaks NoName caller.cells caller.regs.x = found.0 in
    record {
      at = it.at;
      front = record { behind = it.behind; bytes = it.runs };
      place = name-place caller.cells caller.regs.x it.at it.behind found.1 it.starts;
      no_name = it.wrong;
      list = is;
    }

-- ---- bytes

gap-then : (cells : Cells) (at count : ℕ) → HasGap cells (at + 1) count → HasGap cells at (suc count)
gap-then cells at count it =
    let behind : at + 1 ≤ it.at = it.behind in
    let within : it.at < at + 1 + count = it.within in
    record { at = it.at; behind = omega (arith, behind); within = omega (arith, within); missing = it.missing }

gap-here : (cells : Cells) (at count : ℕ) → user_cell cells at ≡ None → HasGap cells at (suc count)
gap-here cells at count none =
    record { at = at; behind = omega arith; within = omega arith; missing = none }

pub bytes-gap : (cells : Cells) (at count : ℕ) → user_bytes cells at count ≡ None → HasGap cells at count
bytes-gap cells at zero none = absurd (none-some [] (sym none))
bytes-gap cells at (suc count) none = by_byte (user_cell cells at) refl (bytes-gap cells (at + 1) count) none
  where
    by_byte : (byte : Option ℕ) → user_cell cells at ≡ byte → (user_bytes cells (at + 1) count ≡ None
        → HasGap cells (at + 1) count) → byte_before byte (user_bytes cells (at + 1) count) ≡ None
        → HasGap cells at (suc count)
    by_byte None there further none = gap-here cells at count there
    by_byte (Some byte) there further none =
        gap-then cells at count (further (mapped-none (λ (rest : List ℕ). byte ∷ rest) (user_bytes cells (at + 1) count) none))

line-gap : (cells : Cells) (at most : ℕ) → line_at cells at most ≡ None → HasGap cells at most
line-gap cells at zero none = absurd (none-some [] (sym none))
line-gap cells at (suc most) none = by_byte (user_cell cells at) refl (line-gap cells (at + 1) most) none
  where
    by_return : (byte : ℕ) (return : Bool) → (line_at cells (at + 1) most ≡ None → HasGap cells (at + 1) most)
        → (if return then Some (byte ∷ []) else option_map (λ (line : List ℕ). byte ∷ line)
        (line_at cells (at + 1) most)) ≡ None → HasGap cells at (suc most)
    by_return byte true further none = absurd (none-some (byte ∷ []) (sym none))
    by_return byte false further none =
        gap-then cells at most (further (mapped-none (λ (line : List ℕ). byte ∷ line) (line_at cells (at + 1) most) none))

    by_byte : (byte : Option ℕ) → user_cell cells at ≡ byte → (line_at cells (at + 1) most ≡ None
        → HasGap cells (at + 1) most) → line_with (λ next. line_at cells next most) at byte ≡ None
        → HasGap cells at (suc most)
    by_byte None there further none = gap-here cells at most there
    by_byte (Some byte) there further none = by_return byte (byte == RETURN) further none

pub sent-gap : (caller : Caller) (io : Io) → line_bytes caller (pending_at io caller.process.0) ≡ None → HasGap caller.cells caller.regs.x (asked_by caller io)
sent-gap caller io none = by_kept (pending_at io caller.process.0) none
  where
    by_kept : (place : Option PendingCall) → line_bytes caller place ≡ None → HasGap caller.cells caller.regs.x (option_map_or (λ (pending : PendingCall). pending.count) place caller.regs.y)
    by_kept None none = line-gap caller.cells caller.regs.x caller.regs.y none
    by_kept (Some pending) none = bytes-gap caller.cells caller.regs.x pending.count none
