-- A module of a name, the fields of its header and its code.
use Rattle.std.proofs.Common.{◌≡◌, ◌<◌, ℕ, ◌+◌, ◌&&◌, Bool, true, false, Option, Some, None, List, length, refl, ap, sym, subst, ◌∙◌}
use Rattle.std.specs.Prelude.{option_map, nat_le, if◌then◌else◌}
use Rattle.std.proofs.lemmas.Option.{cond_some}
use Rattle.os9_base.specs.declared.limits.TheConstants.{MOST_GROUP_BYTES}
use Rattle.module_format.specs.declared.maker.Header.{Header}
use Rattle.module_format.specs.GuestModule.{made_module, code_offset, guest_size, is_program_kind}
use Rattle.asm_model.specs.Statements.{ModuleFields, is_module_name}
use Rattle.asm_model.specs.Placement.{Reached}
use Rattle.asm6809.specs.Assembled.{kind_of, header_with, entry_below, module_with}

-- a module begins before its end
pub begins-within : (name : List ℕ) (kind : ℕ) (code : List ℕ) (end entry : ℕ) →
    Some end ≡ (if nat_le (guest_size name kind code) MOST_GROUP_BYTES then Some (code_offset name kind + length code) else None) →
    (if is_program_kind kind then entry else 0) < end → (if is_program_kind kind then entry else 0) < code_offset name kind + length code
begins-within name kind code end entry room less =
    let parts = cond_some (nat_le (guest_size name kind code) MOST_GROUP_BYTES) (code_offset name kind + length code) end (sym room) in
    subst (λ n. (if is_program_kind kind then entry else 0) < n) (sym parts.1) less

none-false : {A : Type 0} (b : Bool) (x : A) → None ≡ (if b then Some x else None) → b ≡ false
none-false true x is = absurd (cc)
none-false false x is = refl

not-both : (a b : Bool) → b ≡ false → (a && b) ≡ false
not-both true b is = is
not-both false b is = refl

module _ (all : Reached) (m : ModuleFields) (code : List ℕ) where
  abbrev tests : Bool
  tests = is_module_name m.name && nat_le (guest_size m.name (kind_of m) code) MOST_GROUP_BYTES

  abbrev made : Bool → Option ℕ → Option (List ℕ)
  made b entry = if b then option_map (λ entry. made_module m.name (header_with all m entry) code) entry else None

  abbrev entry_there : Option ℕ
  entry_there = entry_below all (kind_of m) (code_offset m.name (kind_of m) + length code)

  unmade : tests ≡ false → None ≡ module_with all m code
  unmade is = sym (ap (λ b. made b entry_there) is)

  pub no-name : None ≡ (if is_module_name m.name then Some m.name else None) → None ≡ module_with all m code
  no-name is =
      unmade (ap (λ b. b && nat_le (guest_size m.name (kind_of m) code) MOST_GROUP_BYTES) (none-false (is_module_name m.name) m.name is))

  module _ (name : List ℕ) (kind : ℕ) (named : Some name ≡ (if is_module_name m.name then Some m.name else None)) (kind_is : kind ≡ kind_of m) where
    named_parts : (is_module_name m.name ≡ true) × (m.name ≡ name)
    named_parts = cond_some (is_module_name m.name) m.name name (sym named)

    size_is : guest_size name kind code ≡ guest_size m.name (kind_of m) code
    size_is = ap (λ n. guest_size n kind code) (sym named_parts.1) ∙ ap (λ k. guest_size m.name k code) kind_is

    pub no-room : None ≡ (if nat_le (guest_size name kind code) MOST_GROUP_BYTES then Some (code_offset name kind + length code) else None) → None ≡ module_with all m code
    no-room is =
        let long : nat_le (guest_size name kind code) MOST_GROUP_BYTES ≡ false = none-false _ _ is in
        unmade (not-both (is_module_name m.name) _ (ap (λ n. nat_le n MOST_GROUP_BYTES) (sym size_is) ∙ long))

    module _ (end : ℕ) (room : Some end ≡ (if nat_le (guest_size name kind code) MOST_GROUP_BYTES then Some (code_offset name kind + length code) else None)) where
      room_parts : (nat_le (guest_size name kind code) MOST_GROUP_BYTES ≡ true) × (code_offset name kind + length code ≡ end)
      room_parts = cond_some (nat_le (guest_size name kind code) MOST_GROUP_BYTES) (code_offset name kind + length code) end (sym room)

      entry_is : entry_below all kind end ≡ entry_there
      entry_is =
          ap (entry_below all kind) (sym room_parts.1) ∙ ap (λ n. entry_below all kind (code_offset n kind + length code)) (sym named_parts.1)
          ∙ ap (λ k. entry_below all k (code_offset m.name k + length code)) kind_is

      tested : tests ≡ true
      tested =
          ap (λ b. b && nat_le (guest_size m.name (kind_of m) code) MOST_GROUP_BYTES) named_parts.0
          ∙ ap (λ n. nat_le n MOST_GROUP_BYTES) (sym size_is) ∙ room_parts.0

      module_is : (found : Option ℕ) → found ≡ entry_below all kind end → made true found ≡ module_with all m code
      module_is found is = ap (made true) (is ∙ entry_is) ∙ sym (ap (λ b. made b entry_there) tested)

      pub no-entry : None ≡ entry_below all kind end → None ≡ module_with all m code
      no-entry is = module_is None is

      module _ (entry : ℕ) (enters : Some entry ≡ entry_below all kind end) where
        pub is-made : (bytes : List ℕ) (head : Header) → bytes ≡ made_module name head code → head ≡ header_with all m entry → Some bytes ≡ module_with all m code
        is-made bytes head is head_is =
            ap Some (is ∙ ap (λ n. made_module n head code) (sym named_parts.1) ∙ ap (λ h. made_module m.name h code) head_is)
            ∙ module_is (Some entry) enters
