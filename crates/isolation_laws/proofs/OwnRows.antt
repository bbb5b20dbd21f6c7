-- The data areas of two processes are their own.
use Rattle.std.proofs.Common.{◌≡◌, ◌≢◌, ◌⊎◌, ℕ, zero, suc, Some, None, List, [], ◌∷◌, replicate, get_or, slice_get, refl, sym, ◌∙◌, subst, inl, inr, arith}
use Rattle.std.specs.Prelude.{slice_set}
use Rattle.std.proofs.lemmas.Bool.{cases_lt, cases_eq}
use Rattle.std.proofs.lemmas.List.{get_or-set_other, get_or-replicate, get_or_past, length-replicate}
use Rattle.std.proofs.lemmas.Option.{none-some}
use Rattle.os9_base.specs.declared.registers.Regs.{Regs}
use Rattle.proc_model.specs.Memory.{map_at}
use Rattle.proc_model.specs.ModuleList.{module_entry_at}
use Rattle.proc_model.specs.Slots.{Slots, NamesBlock, no_slots, with_low}
use Rattle.proc_model.specs.Rows.{two_processes}
use Rattle.isolation_laws.specs.Own.{IsOwn}
use Rattle.call_laws.specs.Objects.{IsOfModule}
use Rattle.call_laws.specs.Others.{HasRecord}
use Rattle.call_laws.proofs.Lists.{has-none}
use Rattle.call_laws.proofs.MemoryKept.{names-low}

pub no-entry : (n number : ℕ) → module_entry_at (replicate n None) number ≡ None
no-entry zero number = refl
no-entry (suc n) zero = refl
no-entry (suc n) (suc number) = no-entry n number

-- a map of one block names no other one
one-block : (block other : ℕ) → other ≢ block → NamesBlock (with_low no_slots (block ∷ [])) other → ⊥
one-block block other differ names = by_place (names-low no_slots (block ∷ []) other names)
  where
    by_place : ((k : ℕ) × (slice_get (block ∷ []) k ≡ Some other)) ⊎ NamesBlock {Block = ℕ} no_slots other → ⊥
    by_place (inl (zero, is)) = differ cc
    by_place (inl (suc k, is)) = none-some other is
    by_place (inr nothing) = has-none 8 other nothing

module _ (bytes : List ℕ) (first second : Regs) where
  -- processes but these name nothing
  others-none : (q object : ℕ) → q ≢ 2 → q ≢ 3 → NamesBlock (map_at (two_processes bytes first second).memory q) object → ⊥
  others-none q object not_two not_three names =
      let nothing : get_or (replicate 33 (let none : Slots ℕ = no_slots in none)) q no_slots ≡ no_slots = elim (cases_lt q 33) [
        | inl within ↦ get_or-replicate 33 q no_slots no_slots within
        | inr past ↦ get_or_past (replicate 33 no_slots) q no_slots (rw length-replicate past)
      ] in
      let there : map_at (two_processes bytes first second).memory q ≡ no_slots = get_or-set_other
      (slice_set (replicate 33 no_slots) 2 (with_low no_slots (0 ∷ []))) 3 q (with_low no_slots (1 ∷ [])) no_slots
      not_three ∙ get_or-set_other (replicate 33 no_slots) 2 q (with_low no_slots (0 ∷ [])) no_slots not_two ∙
      nothing in
      has-none 8 object (subst (λ slots. NamesBlock slots object) there names)

  none-there : (object : ℕ) → IsOfModule (two_processes bytes first second).memory object → ⊥
  none-there object grouped = none-some grouped.entry (sym (no-entry 64 grouped.number) ∙ grouped.is)

  pub first-own : IsOwn (two_processes bytes first second) 2 0
  first-own = record {
    appeared = omega arith;
    named = (0, refl);
    alone = alone;
    in_no_module = none-there 0;
  }
    where
      alone : (q : ℕ) → q ≢ 2 → HasRecord (two_processes bytes first second) q → NamesBlock (map_at (two_processes bytes first second).memory q) 0 → ⊥
      alone q differ has names =
          elim (cases_eq q 3) [
            | inl same ↦ one-block 1 0 (omega arith) (subst (λ q. NamesBlock (map_at (two_processes bytes first second).memory q) 0) same names)
            | inr other ↦ others-none q 0 differ other names
          ]

  pub second-own : IsOwn (two_processes bytes first second) 3 1
  second-own = record {
    appeared = omega arith;
    named = (0, refl);
    alone = alone;
    in_no_module = none-there 1;
  }
    where
      alone : (q : ℕ) → q ≢ 3 → HasRecord (two_processes bytes first second) q → NamesBlock (map_at (two_processes bytes first second).memory q) 1 → ⊥
      alone q differ has names =
          elim (cases_eq q 2) [
            | inl same ↦ one-block 0 1 (omega arith) (subst (λ q. NamesBlock (map_at (two_processes bytes first second).memory q) 1) same names)
            | inr other ↦ others-none q 1 other differ names
          ]
