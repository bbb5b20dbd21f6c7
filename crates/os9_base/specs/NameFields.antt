-- The fields of a `Name`.
use Rattle.std.specs.Prelude.{◌≡◌, ℕ, ◌≤◌, List, take, length}
use Rattle.std.proofs.Common.{sym, ap, ◌∙◌, arith, length-take}
use Rattle.os9_base.specs.Name.{IsName, padded_name}
use Rattle.os9_base.specs.declared.name.Name.TheInside.{Inside}

-- the name is at the front of its field, and zeros fill the rest
pub record IsNameField (field : Inside) : Type 0 where
  pub holds_name : IsName (take field.len field.characters)
  pub in_field : field.len ≤ length field.characters
  pub zeros_after : field.characters ≡ padded_name (take field.len field.characters)

-- the field of a name
abbrev pub name_field : List ℕ → Inside
name_field name = record { characters = padded_name name; len = length name }

-- the name in a field determines the field
pub name_field-view : (field : Inside) → IsNameField field → name_field (take field.len field.characters) ≡ field
name_field-view field h =
    let e : length (take field.len field.characters)
    ≡ field.len = omega (arith, length-take field.len field.characters, h.in_field) in
    let by : List ℕ → ℕ → Inside = λ characters len. record { characters = characters; len = len } in
    ap (λ characters. by characters (length (take field.len field.characters))) (sym h.zeros_after)
    ∙ ap (by field.characters) e
