-- Drives that are given images, one after another, and give them up again.
use Rattle.std.proofs.Common.{◌≡◌, ◌⊎◌, ◌<◌, ◌≤◌, ◌+◌, ℕ, zero, suc, Option, Some, None, option_map, List, [], ◌∷◌, ◌++◌, length, map, take, drop, get_or, set, slice_get, slice_set, refl, sym, ap, subst, ◌∙◌, All, append-nil, get_or-drop, inl, inr, length-take, arith}
use Rattle.std.specs.Prelude.{IfSome}
use Rattle.std.proofs.lemmas.List.{drop_all, get_or-append_right, length-map, take_all}
use Rattle.std.proofs.lemmas.List.Edits.{map_over_more}
use Rattle.std.proofs.lemmas.List.Elements.{All-cons, All-head, All-tail}
use Rattle.std.proofs.lemmas.Option.{get_or_from_slice_get, none-some, same_Some, slice_get-map, slice_get_read, slice_get_within}
use Rattle.rbf_access.specs.Drive.{DriveCounts}
use Rattle.os9_outer.specs.declared.drive.DriveFault.{DriveFault}
use Rattle.file_drives.specs.Drives.{ChangesOneDrive, DriveView, drive_state, drive_states, media_at, media_of, unused_drive}
use Rattle.boot_run.specs.DriveChanges.{IsEjected, IsInserted}
use Rattle.boot_run.specs.Drives.{IsEmptyDrive, TakesImages, holding, with_media, without_media}

-- what is seen of a driver in the list
pub seen-at : {Driver : Type 0} (view : Driver → DriveView) (drivers : List Driver) (n : ℕ) (driver : Driver)
    → n < length drivers → driver ≡ get_or drivers n driver → slice_get (map view drivers) n ≡ Some (view driver)
seen-at view drivers n driver inside here =
    slice_get-map view drivers n ∙ ap (option_map view) (slice_get_read drivers (length drivers) n driver refl inside here)

-- the counts of a driver that kept each
same-counts : (old new : DriveCounts) → new.faults ≡ old.faults → new.last ≡ old.last → new.calls ≡ old.calls → new ≡ old
same-counts old new faults last calls =
    let by : ℕ → Option DriveFault → ℕ → DriveCounts = λ faults last calls. record { faults = faults; last = last; calls = calls } in
    ap (λ f. by f new.last new.calls) faults ∙ ap (λ l. by old.faults l new.calls) last ∙ ap (λ c. by old.faults old.last c) calls

-- what a drive's driver was given, the drive was given
pub Inserts-in : (image : List ℕ) (old new : DriveView) → new.media ≡ Some image → new.counts.faults ≡
    old.counts.faults → new.counts.last ≡ old.counts.last → new.counts.calls ≡ old.counts.calls → IsInserted image old
    new
Inserts-in image old new media faults last calls =
    let by : Option (List ℕ) → DriveCounts → DriveView = λ media counts. record { media = media; counts = counts } in
    ap (λ m. by m new.counts) media ∙ ap (by (Some image)) (same-counts old.counts new.counts faults last calls)

-- and what it gave up, the drive gave up
pub Ejects-from : (bytes : List ℕ) (old new : DriveView) → IfSome old.media (λ image. bytes ≡ image)
    → new.media ≡ None → new.counts.faults ≡ old.counts.faults → new.counts.last ≡ old.counts.last
    → new.counts.calls ≡ old.counts.calls → IsEjected bytes old new
Ejects-from bytes old new handed none faults last calls =
    let by : Option (List ℕ) → DriveCounts → DriveView = λ media counts. record { media = media; counts = counts } in
    record {
      handed_over = handed;
      none_left = ap (λ m. by m new.counts) none ∙ ap (by None) (same-counts old.counts new.counts faults last calls);
    }

-- ---- images that are put in

empty-at : (drives : List DriveView) (n : ℕ) (drive : DriveView) → All IsEmptyDrive drives → slice_get drives n ≡ Some drive → IsEmptyDrive drive
empty-at [] n drive empty is = absurd (none-some drive is)
empty-at (first ∷ drives) zero drive empty is = subst IsEmptyDrive (same_Some first drive is) (All-head IsEmptyDrive first drives empty)
empty-at (first ∷ drives) (suc n) drive empty is = empty-at drives n drive (All-tail IsEmptyDrive first drives empty) is

-- the next drive is still empty
pub next-empty : (n : ℕ) (images : List (List ℕ)) (drives : List DriveView) (drive : DriveView)
    → All IsEmptyDrive drives → slice_get (holding (take n images) drives) n ≡ Some drive → IsEmptyDrive drive
next-empty zero images drives drive empty is = empty-at drives 0 drive empty is
next-empty (suc n) [] drives drive empty is = empty-at drives (suc n) drive empty is
next-empty (suc n) (image ∷ images) [] drive empty is = absurd (none-some drive is)
next-empty (suc n) (image ∷ images) (first ∷ drives) drive empty is =
    next-empty n images drives drive (All-tail IsEmptyDrive first drives empty) is

set-next : (n : ℕ) (images : List (List ℕ)) (drives : List DriveView) (image : List ℕ) (old : DriveView)
    → slice_get images n ≡ Some image → slice_get (holding (take n images) drives) n ≡ Some old
    → slice_set (holding (take n images) drives) n (with_media image old) ≡ holding (take (suc n) images) drives
set-next n [] drives image old here is = absurd (none-some image here)
set-next zero (first ∷ images) [] image old here is = absurd (none-some old is)
set-next zero (first ∷ images) (drive ∷ drives) image old here is =
    rw (same_Some first image here, same_Some drive old is) refl
set-next (suc n) (first ∷ images) [] image old here is = absurd (none-some old is)
set-next (suc n) (first ∷ images) (drive ∷ drives) image old here is =
    ap (λ rest. with_media first drive ∷ rest) (set-next n images drives image old here is)

-- one drive more holds its image
pub holds-more : (n : ℕ) (images : List (List ℕ)) (image : List ℕ) (before now next : List DriveView)
    → slice_get images n ≡ Some image → now ≡ holding (take n images) before → ChangesOneDrive (IsInserted image) n
    now next → next ≡ holding (take (suc n) images) before
holds-more n images image before now next here so_far (old, new, is, set, inserted) =
    set ∙ ap (λ drive. slice_set now n drive) inserted ∙ ap (λ drives. slice_set drives n (with_media image old)) so_far
    ∙ set-next n images before image old here (ap (λ drives. slice_get drives n) (sym so_far) ∙ is)

-- the images from a place on
first-behind : (n : ℕ) (xs : List (List ℕ)) → slice_get xs n ≡ slice_get (drop n xs) 0
first-behind zero xs = refl
first-behind (suc n) [] = refl
first-behind (suc n) (x ∷ xs) = first-behind n xs

-- what stands there stands in each list that has the same from there on
pub still-there : (n : ℕ) (xs ys : List (List ℕ)) (x : List ℕ) → drop n xs ≡ drop n ys → slice_get xs n ≡ Some x → slice_get ys n ≡ Some x
still-there n xs ys x same here =
    first-behind n ys ∙ ap (λ zs. slice_get zs 0) (sym same) ∙ sym (first-behind n xs) ∙ here

behind-next : (n : ℕ) (xs : List (List ℕ)) → drop (suc n) xs ≡ drop 1 (drop n xs)
behind-next zero xs = refl
behind-next (suc n) [] = refl
behind-next (suc n) (x ∷ xs) = behind-next n xs

behind-set : (n : ℕ) (xs : List (List ℕ)) (x : List ℕ) → drop (suc n) (slice_set xs n x) ≡ drop (suc n) xs
behind-set n [] x = refl
behind-set zero (y ∷ xs) x = refl
behind-set (suc n) (y ∷ xs) x = behind-set n xs x

pub behind-more : (n : ℕ) (xs ys : List (List ℕ)) (x : List ℕ) → drop n xs ≡ drop n ys → drop (suc n) (slice_set xs n x) ≡ drop (suc n) ys
behind-more n xs ys x same =
    behind-set n xs x ∙ behind-next n xs ∙ ap (drop 1) same ∙ sym (behind-next n ys)

-- ---- images that are taken out

-- the drives of which the first so many gave up their images
abbrev pub given_up : ℕ → List DriveView → List DriveView
given_up n before = map without_media (take n before) ++ drop n before

-- the images before this place are those that were in the drives
abbrev pub AreTaken : ℕ → List (List ℕ) → List DriveView → Type 0
AreTaken n images before =
    (k : ℕ) (image media : List ℕ) → k < n → slice_get images k ≡ Some image → media_at before k ≡ Some media → image ≡ media

-- one drive more gave up its image, which has its place
pub record GivesUp (n : ℕ) (images : List (List ℕ)) (bytes : List ℕ) (before next : List DriveView) : Type 0 where
  pub left : next ≡ given_up (n + 1) before
  pub taken : AreTaken (n + 1) (slice_set images n bytes) before

handed-as : (bytes image media : List ℕ) (held : Option (List ℕ)) → IfSome held (λ image. bytes ≡ image) → held ≡ Some media → image ≡ bytes → image ≡ media
handed-as bytes image media None handed is same = absurd (none-some media is)
handed-as bytes image media (Some held) handed is same = same ∙ handed ∙ same_Some held media is

-- what stands where one image was set
set-there : (n k : ℕ) (images : List (List ℕ)) (bytes image : List ℕ) → slice_get (slice_set images n bytes) k ≡ Some
    image → k < suc n → ((k < n) × (slice_get images k ≡ Some image)) ⊎ ((k ≡ n) × (image ≡ bytes))
set-there n k [] bytes image is low = absurd (none-some image is)
set-there zero zero (one ∷ images) bytes image is low = inr (refl, sym (same_Some bytes image is))
set-there zero (suc k) (one ∷ images) bytes image is low = absurd (omega (arith, low))
set-there (suc n) zero (one ∷ images) bytes image is low = inl (omega arith, is)
set-there (suc n) (suc k) (one ∷ images) bytes image is low = by (set-there n k images bytes image is (omega (arith, low)))
  where
    by : ((k < n) × (slice_get images k ≡ Some image)) ⊎ ((k ≡ n) × (image ≡ bytes)) → ((suc k < suc n) × (slice_get images k ≡ Some image)) ⊎ ((suc k ≡ suc n) × (image ≡ bytes))
    by (inl (below, there)) = inl (omega (arith, below), there)
    by (inr (here, same)) = inr (ap suc here, same)

pub gives-up : (n : ℕ) (images : List (List ℕ)) (bytes : List ℕ) (before now next : List DriveView)
    → n < length before → now ≡ given_up n before → AreTaken n images before → ChangesOneDrive (IsEjected bytes) n now
    next → GivesUp n images bytes before next
gives-up n images bytes before now next within so_far taken (old, new, is, set_so, ejected) =
    let here : old ≡ get_or now n old = sym (get_or_from_slice_get now n old old is) in
    let size : length (map without_media (take n before)) ≡ n = simp (length-map, length-take) (omega arith) in
    let there : (d : DriveView) → get_or now n d ≡ get_or before n d = λ d. rw so_far
    (get_or-append_right (map without_media (take n before)) (drop n before) n n d size (omega arith) ∙ rw
    get_or-drop (ap (λ k. get_or before k d) (omega arith))) in
    let media : (media : List ℕ) → media_at before n ≡ Some media → old.media ≡ Some media = λ media at. ap
    (λ (view : DriveView). view.media) (sym (get_or_from_slice_get now n old unused_drive is) ∙ there
    unused_drive) ∙ at in
    record {
      left = set_so ∙ ap (λ drive. slice_set now n drive) ejected.none_left ∙ map_over_more without_media before now n old within so_far here;
      taken = λ k image held low at in_drive. by k image held at in_drive (set-there n k images bytes image at (omega (arith, low))) media;
    }
  where
    by : (k : ℕ) (image held : List ℕ) → slice_get (slice_set images n bytes) k ≡ Some image → media_at before k ≡
        Some held → ((k < n) × (slice_get images k ≡ Some image)) ⊎ ((k ≡ n) × (image ≡ bytes))
        → ((media : List ℕ) → media_at before n ≡ Some media → old.media ≡ Some media) → image ≡ held
    by k image held at in_drive (inl (below, there)) media = taken k image held below there in_drive
    by k image held at in_drive (inr (same, is_bytes)) media =
        handed-as bytes image held old.media ejected.handed_over (media held (subst (λ k. media_at before k ≡ Some held) same in_drive)) is_bytes

-- all of them
pub taken-all : (n : ℕ) (images : List (List ℕ)) (before now : List DriveView) → n ≡ length before
    → length images ≤ length before → now ≡ given_up n before → AreTaken n images before → TakesImages images before
    now
taken-all n images before now all enough left taken = record {
  each = λ k image media at in_drive. taken k image media (omega (arith, slice_get_within images k image at)) at in_drive;
  left =
      left ∙ ap (λ n. given_up n before) all
      ∙ ap (λ rest. map without_media (take (length before) before) ++ rest) (drop_all (length before) before (omega arith))
      ∙ append-nil (map without_media (take (length before) before))
      ∙ ap (map without_media) (take_all (length before) before (omega arith));
}

-- ---- drives of which all gave up their images

-- their states are as before
pub counts-without : (drives : List DriveView) → drive_states (map without_media drives) ≡ drive_states drives
counts-without [] = refl
counts-without (drive ∷ drives) = ap (λ rest. drive_state drive ∷ rest) (counts-without drives)

pub counts-holding : (images : List (List ℕ)) (drives : List DriveView) → drive_states (holding images drives) ≡ drive_states drives
counts-holding [] drives = refl
counts-holding (image ∷ images) [] = refl
counts-holding (image ∷ images) (drive ∷ drives) = ap (λ rest. drive_state drive ∷ rest) (counts-holding images drives)

pub length-holding : (images : List (List ℕ)) (drives : List DriveView) → length (holding images drives) ≡ length drives
length-holding [] drives = refl
length-holding (image ∷ images) [] = refl
length-holding (image ∷ images) (drive ∷ drives) = ap suc (length-holding images drives)

-- none has an image
pub empty-without : (drives : List DriveView) → All IsEmptyDrive (map without_media drives)
empty-without [] = λ k d below. absurd (omega (arith, below))
empty-without (drive ∷ drives) = All-cons IsEmptyDrive (without_media drive) (map without_media drives) refl (empty-without drives)

-- where none had one, they are as they were
without-empty : (drives : List DriveView) → All IsEmptyDrive drives → map without_media drives ≡ drives
without-empty [] empty = refl
without-empty (drive ∷ drives) empty =
    ap (λ media. record drive { media = media } ∷ map without_media drives) (sym (All-head IsEmptyDrive drive drives empty))
    ∙ ap (λ rest. drive ∷ rest) (without-empty drives (All-tail IsEmptyDrive drive drives empty))

pub given-back : (images : List (List ℕ)) (drives : List DriveView) → All IsEmptyDrive drives → map without_media (holding images drives) ≡ drives
given-back [] drives empty = without-empty drives empty
given-back (image ∷ images) [] empty = refl
given-back (image ∷ images) (drive ∷ drives) empty =
    ap (λ media. record drive { media = media } ∷ map without_media (holding images drives)) (sym (All-head IsEmptyDrive drive drives empty))
    ∙ ap (λ rest. drive ∷ rest) (given-back images drives (All-tail IsEmptyDrive drive drives empty))

-- and the media are the same, whatever was in them
pub media-without : (before after : List DriveView) → All IsEmptyDrive before → length after ≡ length before → media_of (map without_media after) ≡ media_of before
media-without [] [] empty count = refl
media-without [] (now ∷ after) empty count = absurd (omega (arith, count))
media-without (was ∷ before) [] empty count = absurd (omega (arith, count))
media-without (was ∷ before) (now ∷ after) empty count =
    ap (λ media. media ∷ media_of (map without_media after)) (sym (All-head IsEmptyDrive was before empty))
    ∙ ap (λ rest. was.media ∷ rest) (media-without before after (All-tail IsEmptyDrive was before empty) (omega (arith, count)))

-- ---- images in drives

-- the image of each number is in the drive of that number
pub holding-at : (images : List (List ℕ)) (drives : List DriveView) → length images ≤ length drives
    → (n : ℕ) (image : List ℕ) → slice_get images n ≡ Some image → media_at (holding images drives) n ≡ Some image
holding-at [] drives enough n image at = absurd (none-some image at)
holding-at (first ∷ images) [] enough n image at = absurd (omega (arith, enough))
holding-at (first ∷ images) (drive ∷ drives) enough zero image at = at
holding-at (first ∷ images) (drive ∷ drives) enough (suc n) image at = holding-at images drives (omega (arith, enough)) n image at

-- and it is in that drive of the list
pub holding-view : (images : List (List ℕ)) (drives : List DriveView) → length images ≤ length drives
    → (n : ℕ) (image : List ℕ) → slice_get images n ≡ Some image → (view : DriveView) ×
    (slice_get (holding images drives) n ≡ Some view) × (view.media ≡ Some image)
holding-view [] drives enough n image at = absurd (none-some image at)
holding-view (first ∷ images) [] enough n image at = absurd (omega (arith, enough))
holding-view (first ∷ images) (drive ∷ drives) enough zero image at = (with_media first drive, refl, at)
holding-view (first ∷ images) (drive ∷ drives) enough (suc n) image at = holding-view images drives (omega (arith, enough)) n image at
