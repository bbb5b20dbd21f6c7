-- Where the next module of a file begins.
use Rattle.std.proofs.Common.{◌≡◌, ◌≢◌, ℕ, ◌+◌, ◌-◌, ◌<◌, ◌≤◌, ◌==◌, Bool, not, Option, Some, None, if◌then◌else◌, List, length, drop, get_or, All, sym, ap, ◌∙◌, arith, length-drop, take, take_all}
use Rattle.std.specs.List.{position_or_len}
use Rattle.std.proofs.lemmas.List.{get_or-drop}
use Rattle.std.proofs.lemmas.List.Elements.{All-from_get_or, All-get_or}
use Rattle.std.proofs.lemmas.List.Sums.{position_or_len_is}
use Rattle.std.proofs.lemmas.Bool.{eq-eqb, ne_eqb}
use Rattle.std.specs.Option.{option_map_or}
use Rattle.proc_model.specs.Module.{next_place, step_at, step_from, module_fault, info_at}
use Rattle.proc_model.specs.declared.module.ModuleFault.{ModuleFault}
use Rattle.proc_model.specs.declared.module.ModuleInfo.{ModuleInfo}
use Rattle.proc_model.specs.declared.module.ModuleStep.TheVariants.{Module, End, Fault}

-- a place before which only zeros stand, and at which none does
pub next_place_is : (bytes : List ℕ) (from at : ℕ) → from ≤ at → at ≤ length bytes
    → ((k : ℕ) → from ≤ k → k < at → get_or bytes k 0 ≡ 0) → (at < length bytes → get_or bytes at 0 ≢ 0) → at ≡ next_place bytes from
next_place_is bytes from at after within zeros other =
    let behind : from + (at - from) ≡ at = omega arith in
    let e : position_or_len (λ (byte : ℕ). not (byte == 0)) (drop from bytes) ≡ at - from =
    position_or_len_is (λ (byte : ℕ). not (byte == 0)) (drop from bytes) (at - from) 0 (simp length-drop (omega arith))
    (λ k h. simp get_or-drop (ap not (eq-eqb (get_or bytes (from + k) 0) 0 (zeros (from + k) (omega arith) (omega arith)))))
    (λ h.
    let inside : at < length bytes = omega (arith, simp length-drop at h) in
    simp get_or-drop (ap (λ (k : ℕ). not (get_or bytes k 0 == 0)) behind ∙ ap not (ne_eqb (get_or bytes at 0) 0 (other inside))))
    in omega (arith, e)

-- only zeros are left
pub all_zeros : (bytes : List ℕ) (from : ℕ) → ((k : ℕ) → from ≤ k → k < length bytes → get_or bytes k 0 ≡ 0) → All (λ byte. byte ≡ 0) (drop from bytes)
all_zeros bytes from zeros =
    All-from_get_or (λ (byte : ℕ). byte ≡ 0) (drop from bytes) 0
    (λ i h. simp get_or-drop (zeros (from + i) (omega arith) (omega (arith, simp length-drop at h))))

-- another byte is left
pub not_all_zeros : (bytes : List ℕ) (from at : ℕ) → from ≤ at → at < length bytes → get_or bytes at 0 ≢ 0 → All (λ byte. byte ≡ 0) (drop from bytes) → ⊥
not_all_zeros bytes from at after within other all =
    let behind : from + (at - from) ≡ at = omega arith in
    other (sym (ap (λ (k : ℕ). get_or bytes k 0) behind) ∙ sym (get_or-drop from bytes (at - from) 0) ∙ All-get_or
    (λ (byte : ℕ). byte ≡ 0) (drop from bytes) (at - from) 0 (simp length-drop (omega arith)) all)

-- what stands at a place before the end
before_end : (file : List ℕ) (from at : ℕ) → at ≡ next_place file from → at < length file
    → step_from file from ≡ option_map_or (λ fault. Fault at fault) (module_fault (drop at file)) (Module (info_at at (drop at file)))
before_end file from at place within =
    ap (step_at file) (sym place)
    ∙ ap (λ (b : Bool). if b then End else option_map_or (λ fault. Fault at fault) (module_fault (drop at file)) (Module (info_at at (drop at file))))
    (ne_eqb at (length file) (λ e. omega arith))

-- a module is next
pub module_next : (file : List ℕ) (from at : ℕ) (info : ModuleInfo) → at ≡ next_place file from → at < length file
    → None ≡ module_fault (drop at file) → info ≡ info_at 0 (drop at file) → Module (record info { at = at }) ≡ step_from file from
module_next file from at info place within kept fields =
    ap (λ (i : ModuleInfo). Module (record i { at = at })) fields
    ∙ ap (λ (f : Option ModuleFault). option_map_or (λ fault. Fault at fault) f (Module (info_at at (drop at file)))) kept
    ∙ sym (before_end file from at place within)

-- what is next is refused
pub fault_next : (file : List ℕ) (from at : ℕ) (fault : ModuleFault) → at ≡ next_place file from → at < length file
    → Some fault ≡ module_fault (drop at file) → Fault at fault ≡ step_from file from
fault_next file from at fault place within broken =
    ap (λ (f : Option ModuleFault). option_map_or (λ fault. Fault at fault) f (Module (info_at at (drop at file)))) broken
    ∙ sym (before_end file from at place within)

-- the bytes from a place on
pub rest_is : (file : List ℕ) (at : ℕ) → take (length file - at) (drop at file) ≡ drop at file
rest_is file at = take_all (length file - at) (drop at file) (omega (arith, length-drop at file))
