-- The names of a path list, one after another.
use Rattle.std.specs.Prelude.{◌≡◌, ℕ, ◌<◌, ⊤, IfSome, Option, Some, None, Result, Ok, Err, List, [], ◌∷◌}
use Rattle.os9_base.specs.Cells.{Cells}
use Rattle.os9_base.specs.declared.name_fault.NameFault.{NameFault}
use Rattle.io_model.specs.PathList.{Names, names_at}
use Rattle.device_paths.specs.declared.named.Named.{Named}
use Rattle.device_paths.specs.declared.names.Step.{Step}
use Rattle.device_paths.specs.declared.names.Step.TheVariants.{Another, Last}

-- the names alone
abbrev pub name_list : Result Names NameFault → Result (List (List ℕ)) NameFault
name_list (Ok found) = Ok found.names
name_list (Err fault) = Err fault

-- these names are in memory, one after another, from an address on
pub record NamesStand (cells : Cells) (at : ℕ) (names : List (List ℕ)) : Type 0 where
  pub left : ℕ
  pub are : name_list (names_at cells at left) ≡ Ok names

-- the first of these names is at this address; if it is None, there are no names
abbrev pub NamesFrom : Cells → Option ℕ → List (List ℕ) → Type 0
NamesFrom cells None names = names ≡ []
NamesFrom cells (Some at) names = NamesStand cells at names

-- a name, and others after it
abbrev pub name_first : List ℕ → Result (List (List ℕ)) NameFault → Result (List (List ℕ)) NameFault
name_first name (Ok rest) = Ok (name ∷ rest)
name_first name (Err fault) = Err fault

-- a name, and the address of the next one, if one follows: `rest` are the names from an address on
abbrev pub names_on : (ℕ → Result (List (List ℕ)) NameFault) → List ℕ → Option ℕ
    → Result (List (List ℕ)) NameFault
names_on rest name None = Ok (name ∷ [])
names_on rest name (Some next) = name_first name (rest next)

abbrev pub names_after : (ℕ → Result (List (List ℕ)) NameFault) → Result Named NameFault
    → Result (List (List ℕ)) NameFault
names_after rest (Ok named) = names_on rest named.name named.next
names_after rest (Err fault) = Err fault

-- the next name, if one follows, begins after this address
abbrev pub NextIsBehind : ℕ → Result Named NameFault → Type 0
NextIsBehind at (Ok named) = IfSome named.next (λ next. (at < next) × (next < 65536))
NextIsBehind at (Err fault) = ⊤

-- it is the first of these names, and the others are at the address that it gives
pub record IsFirstOf (cells : Cells) (names : List (List ℕ)) (named : Named) : Type 0 where
  pub rest : List (List ℕ)
  pub are : names ≡ named.name ∷ rest
  pub stand : NamesFrom cells named.next rest

-- the first of these names was read
abbrev pub IsFirstRead : Cells → List (List ℕ) → Result Named NameFault → Type 0
IsFirstRead cells names (Ok named) = IsFirstOf cells names named
IsFirstRead cells names (Err fault) = ⊥

-- a name, by what follows it
abbrev pub named_by : List ℕ → Result Step NameFault → Result Named NameFault
named_by name (Ok (Another next)) = Ok (record { name = name; next = Some next })
named_by name (Ok (Last tail)) = Ok (record { name = name; next = None })
named_by name (Err fault) = Err fault
