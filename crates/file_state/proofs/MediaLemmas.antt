-- Lists of drives and their media, when one drive of them was read or changed.
use Rattle.std.proofs.Common.{◌≡◌, ℕ, zero, suc, ◌∙◌, Option, None, option_map, List, [], ◌∷◌, length, get_or, set, slice_get, refl, ap, sym}
use Rattle.std.specs.Option.{unwrap_or}
use Rattle.std.proofs.lemmas.List.{map-set, set-get_or}
use Rattle.std.proofs.lemmas.Option.{unwrap_or-slice_get}
use Rattle.os9_outer.specs.Drive.{sector_at}
use Rattle.guest_memory.proofs.Objects.{slice_get-set_other}
use Rattle.file_drives.proofs.DriveLemmas.{media-there}
use Rattle.file_drives.specs.Drives.{ChangesOneDrive, DriveView, KeepsIdent, ReadsDrive, media_at, media_of, unused_drive}
use Rattle.file_state.specs.Reached.{OthersStay}

-- ---- the others

pub others-one : (change : DriveView → DriveView → Type 0) (n : ℕ) (before after : List DriveView) → ChangesOneDrive change n before after → OthersStay n before after
others-one change n before after (old, new, is, after_is, changed) m apart =
    ap (λ views. slice_get views m) after_is ∙ slice_get-set_other before n m new apart

pub others-none : (n : ℕ) (views : List DriveView) → OthersStay n views views
others-none n views m apart = refl

pub others-then : (n : ℕ) (before mid after : List DriveView) → OthersStay n before mid → OthersStay n mid after → OthersStay n before after
others-then n before mid after was is m apart = is m apart ∙ was m apart

-- ---- the media

-- as the list of all media has it
media-in_list : (views : List DriveView) (n : ℕ) → get_or (media_of views) n None ≡ media_at views n
media-in_list [] n = refl
media-in_list (view ∷ views) zero = refl
media-in_list (view ∷ views) (suc n) = media-in_list views n

pub media-same : (before after : List DriveView) (n : ℕ) → media_of after ≡ media_of before → media_at after n ≡ media_at before n
media-same before after n same =
    sym (media-in_list after n) ∙ ap (λ media. get_or media n None) same ∙ media-in_list before n

-- of a drive that is as it was
pub media-of_same : (before after : List DriveView) (n : ℕ) → slice_get after n ≡ slice_get before n → media_at after n ≡ media_at before n
media-of_same before after n same =
    ap (λ (view : DriveView). view.media)
    (sym (unwrap_or-slice_get after n unused_drive) ∙ ap (λ view. unwrap_or view unused_drive) same ∙ unwrap_or-slice_get before n unused_drive)

-- a read keeps all media
pub media-read : (fault : Option ℕ) (most n : ℕ) (before after : List DriveView) → ReadsDrive fault most n before after → media_of after ≡ media_of before
media-read fault most n before after (old, new, is, after_is, reads) =
    let media : DriveView → Option (List ℕ) = λ view. view.media in
    ap media_of after_is
    ∙ map-set media before n new
    ∙ ap (λ m. set (media_of before) n m) (reads.media_kept ∙ sym (media-in_list before n ∙ media-there before n old is))
    ∙ set-get_or (media_of before) n None

pub ident-same : (before after : Option (List ℕ)) → after ≡ before → KeepsIdent before after
ident-same before after same = record {
  as_long = ap (option_map length) same;
  first = ap (λ media. sector_at media 0) same;
}
