-- A path that is read, and what it gives.
use Rattle.std.proofs.Common.{◌≡◌, ℕ, Bool, true, false, Option, Some, None, List, refl, sym, ap, ◌∙◌, ⊎_elim}
use Rattle.std.proofs.lemmas.Bool.{cond-true, cond-false, cases_Bool}
use Rattle.os9_base.specs.declared.errors.TheConstants.{E_BPNAM}
use Rattle.rbf_model.specs.Volume.{DiskVolume}
use Rattle.rbf_change.specs.Names.{is_dots}
use Rattle.vol_tools.specs.Names.{place, if_proper}
use Rattle.vol_tools.specs.declared.place.Place.{Place}
use Rattle.vol_tools.specs.Numbers.{making_number, on_arrival, way_end, entering_number}
use Rattle.vol_tools.specs.Path.{Place as ToolPlace, place_of}
use Rattle.vol_tools.specs.Making.{IsNewPlaceOf}

no_some : {A : Type 0} {x : A} → ◌≡◌ {A = Option A} None (Some x) → ⊥
no_some h = cc

same_place : {x y : ToolPlace} → ◌≡◌ {A = Option ToolPlace} (Some x) (Some y) → x ≡ y
same_place h = cc

-- no place of a new file: error 215
unplaced : (v : DiskVolume) (size : ℕ) (o : Option ToolPlace) → if_proper o ≡ None → making_number v size o ≡ Some E_BPNAM
unplaced v size None h = refl
unplaced v size (Some at) h =
    ⊎_elim
    (λ dots. cond-true (is_dots at.name) (Some E_BPNAM) (on_arrival (way_end v at.way) (λ d. entering_number v at.name size (v.files d))) dots)
    (λ proper. absurd (no_some (sym h ∙ cond-false (is_dots at.name) None (Some at) proper)))
    (cases_Bool (is_dots at.name))

pub no_new_place : (v : DiskVolume) (size : ℕ) (path : List ℕ) → if_proper (place_of path) ≡ None → making_number v size (place_of path) ≡ Some E_BPNAM
no_new_place v size path h = unplaced v size (place_of path) h

placed : (o : Option ToolPlace) (at : ToolPlace) → if_proper o ≡ Some at → (o ≡ Some at) × (is_dots at.name ≡ false)
placed None at h = absurd (no_some h)
placed (Some here) at h =
    ⊎_elim
    (λ dots. absurd (no_some (sym (cond-true (is_dots here.name) None (Some here) dots) ∙ h)))
    (λ proper.
    let same : here ≡ at = same_place (sym (cond-false (is_dots here.name) None (Some here) proper) ∙ h) in
    (ap Some same, ap (λ (p : ToolPlace). is_dots p.name) (sym same) ∙ proper))
    (cases_Bool (is_dots here.name))

pub new_place_is : (path : List ℕ) (at : Place) → if_proper (place_of path) ≡ Some (place at) → IsNewPlaceOf path at
new_place_is path at h = let p = placed (place_of path) (place at) h in record { is = p.0; proper = p.1 }
