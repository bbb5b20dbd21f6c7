-- Descriptors whose fields are written over.
use Rattle.std.proofs.Common.{◌≡◌, ℕ, ◌+◌, ◌≤◌, zero, suc, List, ◌∷◌, length, refl, sym, subst, ap, ap₂, ◌∙◌, Option, inr, arith, slice_index}
use Rattle.std.specs.Prelude.{map, take_while}
use Rattle.std.specs.List.{range_with_len}
use Rattle.os9_outer.specs.Drive.{sector_at}
use Rattle.rbf_model.specs.Fields.{segment_field, segments_field, has_sectors, size_field}
use Rattle.rbf_model.specs.File.{DiskFile, file_from}
use Rattle.rbf_model.specs.Geometry.{sector}
use Rattle.rbf_access.proofs.Reading.{size_of}
use Rattle.rbf_sector.specs.Parts.{KeepsBeside}
use Rattle.rbf_sector.proofs.Pairs.{pair_kept}
use Rattle.rbf_write.specs.Changed.{HasFields}
use Rattle.rbf_write.specs.Files.{HasDataFile, IsDescriptorLoaded}
use Rattle.rbf_write.specs.declared.loaded.Loaded.{Loaded}

-- segment lists of descriptors that agree from 16 on
map_same : {X : Type 0} (f h : ℕ → X) (a n : ℕ) → ((i : ℕ) → f i ≡ h i) → map f (range_with_len a n) ≡ map h (range_with_len a n)
map_same f h a zero same = refl
map_same f h a (suc n) same = ap₂ (λ x xs. x ∷ xs) (same a) (map_same f h (a + 1) n same)

pub list_stays : (old new : List ℕ) → length old ≡ 256 → length new ≡ 256 → ((i : ℕ) → 16 ≤ i → slice_index new i ≡ slice_index old i) → segments_field new ≡ segments_field old
unfolding segments_field
list_stays old new whole all same =
    let beside : KeepsBeside old new 0 16 = record { same_length = all ∙ sym whole; before = λ i low. absurd (omega arith); behind = λ i past. same i (omega arith) } in
    ap (take_while has_sectors) (map_same (segment_field new) (segment_field old) 0 48 (λ i. pair_kept old new 0 16 i beside (inr (omega arith))))

-- a file that has been read has the fields of its descriptor
pub loaded_fields : (media : Option (List ℕ)) (n : ℕ) (loaded : Loaded) → HasDataFile media n → IsDescriptorLoaded media n loaded → HasFields loaded.file loaded.descriptor
loaded_fields media n loaded has is =
    let said = is.says has.content has.file has.on has.is in
    let there : loaded.descriptor ≡ sector has.on.image n = is.bytes_are ∙ ap (λ m. sector_at m n) has.on.is in
    let shown : file_from (sector has.on.image) loaded.descriptor ≡ has.file =
    ap (file_from (sector has.on.image)) there ∙ sym (has.on.vol.sound.shows.shown n has.file has.is) in
    record {
      attributes_are = ap (λ (f : DiskFile). f.attributes) shown ∙ sym said.attributes_are;
      owner_is = ap (λ (f : DiskFile). f.owner) shown ∙ sym said.owner_is;
      modified_is = ap (λ (f : DiskFile). f.modified) shown ∙ sym said.modified_is;
      links_are = ap (λ (f : DiskFile). f.links) shown ∙ sym said.links_are;
      size_is = size_of media n loaded.descriptor (size_field loaded.descriptor) is.bytes_are refl has.content has.file has.on has.is ∙ sym said.size_is;
      created_is = ap (λ (f : DiskFile). f.created) shown ∙ sym said.created_is;
    }

-- the media and the number of a file that has been read are those from before
pub data_still : (before now : Option (List ℕ)) (n m : ℕ) → now ≡ before → m ≡ n → HasDataFile before n → HasDataFile now m
data_still before now n m same number has =
    subst (λ i. HasDataFile now i) (sym number) (subst (λ media. HasDataFile media n) (sym same) has)

pub loaded_number : (media : Option (List ℕ)) (n : ℕ) (loaded : Loaded) → IsDescriptorLoaded media n loaded → IsDescriptorLoaded media loaded.number loaded
loaded_number media n loaded is = subst (λ i. IsDescriptorLoaded media i loaded) (sym is.number_is) is
