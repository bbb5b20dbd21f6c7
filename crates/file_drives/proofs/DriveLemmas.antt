-- A driver in the list is replaced: of the drives that the lists tell, exactly that one changed. And what the calls on
-- files tell of that.
use Rattle.std.proofs.Common.{◌≡◌, ◌≢◌, ℕ, ◌<◌, ◌≤◌, ◌∙◌, Option, Some, None, option_map, List, map, length, get_or, set, slice_get, slice_set, refl, ap, sym, subst}
use Rattle.std.proofs.lemmas.List.{map-set, length-set, length-map, get_or-map, get_or-set_same, get_or-set_other, set-get_or}
use Rattle.std.proofs.lemmas.Option.{slice_get-map, slice_get_read, slice_get_within, get_or_from_slice_get}
use Rattle.std.specs.declared.alloc.Global.{Global}
use Rattle.std.specs.declared.dyn_box.DynBox.{DynBox}
use Rattle.os9_base.specs.Count.{Rose}
use Rattle.os9_outer.specs.Drive.{drive_error}
use Rattle.file_rules.specs.Files.{KeepsDriveFaults, OneFailed, drive_at, new_drive}
use Rattle.rbf_access.specs.Drive.{MovesCounts}
use Rattle.file_drives.specs.Drives.{DriveView, ChangesOneDrive, OneDriveMoves, drive_state, drive_states, media_at, media_of, unused_drive}

-- a box with another driver
abbrev pub with_driver : {Table : Type 0} {Driver : Table → Type 0} → DynBox Table Global Driver
    → (table : Table) × Driver table → DynBox Table Global Driver
with_driver box driver = record { ptr = box.ptr; vtable = driver.0; alloc = box.alloc; value = driver.1 }

-- the box with the driver that it has lent is the one of the list
pub lent-is : {Table : Type 0} {Driver : Table → Type 0} (boxes : List (DynBox Table Global Driver)) (n : ℕ)
    {box : DynBox Table Global Driver} {lent : (table : Table) × Driver table} → box ≡ get_or boxes n box
    → lent ≡ (box.vtable, box.value) → with_driver box lent ≡ get_or boxes n (with_driver box lent)
lent-is boxes n {box} {lent} box_is lent_is = subst (λ b. b ≡ get_or boxes n b) (sym (ap (λ d. with_driver box d) lent_is)) box_is

-- what the lists tell of a driver
pub drive-here : {Driver : Type 0} (view : Driver → DriveView) (drivers : List Driver) (n : ℕ) (driver : Driver)
    → n < length drivers → driver ≡ get_or drivers n driver → slice_get (map view drivers) n ≡ Some (view driver)
drive-here view drivers n driver inside here =
    slice_get-map view drivers n ∙ ap (option_map view) (slice_get_read drivers (length drivers) n driver refl inside here)

pub changes-one : {Driver : Type 0} (view : Driver → DriveView) (change : DriveView → DriveView → Type 0)
    (drivers : List Driver) (n : ℕ) (old new : Driver) → n < length drivers → old ≡ get_or drivers n old
    → change (view old) (view new) → ChangesOneDrive change n (map view drivers) (map view (slice_set drivers n new))
changes-one view change drivers n old new inside here changed = (
  view old,
  view new,
  drive-here view drivers n old inside here,
  map-set view drivers n new,
  changed,
)

-- the media of all stay where that of the one stayed
pub media-kept : {Driver : Type 0} (view : Driver → DriveView) (drivers : List Driver) (n : ℕ) (old new : Driver)
    → n < length drivers → old ≡ get_or drivers n old → (view new).media ≡ (view old).media
    → media_of (map view (slice_set drivers n new)) ≡ media_of (map view drivers)
media-kept view drivers n old new inside here same =
    let media : DriveView → Option (List ℕ) = λ w. w.media in
    let within : n < length (map view drivers) = subst (λ k. n < k) (sym (length-map drivers view)) inside in
    let before : get_or (media_of (map view drivers)) n None ≡ (view old).media =
    get_or-map media (map view drivers) n (view old) None within ∙ ap media (get_or-map view drivers n old (view old) inside ∙ ap view (sym here)) in
    ap media_of (map-set view drivers n new)
    ∙ map-set media (map view drivers) n (view new)
    ∙ ap (λ m. set (media_of (map view drivers)) n m) (same ∙ sym before)
    ∙ set-get_or (media_of (map view drivers)) n None

-- the media of a drive of the list
pub media-there : (views : List DriveView) (n : ℕ) (view : DriveView) → slice_get views n ≡ Some view → media_at views n ≡ view.media
media-there views n view is = ap (λ (w : DriveView). w.media) (get_or_from_slice_get views n view unused_drive is)

-- a weaker change
pub changes-weaker : (change other : DriveView → DriveView → Type 0) (n : ℕ) (before after : List DriveView)
    → ((old new : DriveView) → change old new → other old new) → ChangesOneDrive change n before after
    → ChangesOneDrive other n before after
changes-weaker change other n before after weaker (old, new, is, after_is, changed) = (old, new, is, after_is, weaker old new changed)

-- ---- faults

-- the state of a drive of the list
state-at : (views : List DriveView) (n : ℕ) (view : DriveView) → slice_get views n ≡ Some view → drive_at (drive_states views) n ≡ drive_state view
state-at views n view is =
    get_or-map drive_state views n view new_drive (slice_get_within views n view is) ∙ ap drive_state (get_or_from_slice_get views n view view is)

-- and after it changed
state-set : (views : List DriveView) (n : ℕ) (new : DriveView) → n < length views → drive_at (drive_states (slice_set views n new)) n ≡ drive_state new
state-set views n new inside =
    ap (λ states. drive_at states n) (map-set drive_state views n new)
    ∙ get_or-set_same (drive_states views) n (drive_state new) new_drive (subst (λ m. n < m) (sym (length-map views drive_state)) inside)

state-other : (views : List DriveView) (n other : ℕ) (new : DriveView) → other ≢ n → drive_at (drive_states (slice_set views n new)) other ≡ drive_at (drive_states views) other
state-other views n other new apart =
    ap (λ states. drive_at states other) (map-set drive_state views n new) ∙ get_or-set_other (drive_states views) n other (drive_state new) new_drive apart

-- the state of a drive goes by its count of faults and its last fault
same-state : (old new : DriveView) → new.counts.faults ≡ old.counts.faults → new.counts.last ≡ old.counts.last → drive_state new ≡ drive_state old
same-state old new faults last = λ i. record { faults = faults i; last = last i }

-- no fault: no drive has changed its state
pub none-failed : (most n : ℕ) (before after : List DriveView) → OneDriveMoves None most n before after → KeepsDriveFaults (drive_states before) (drive_states after)
none-failed most n before after (old, new, is, after_is, moved) =
    ap drive_states after_is
    ∙ map-set drive_state before n new
    ∙ ap (λ state. set (drive_states before) n state) (same-state old new moved.kept moved.last_kept ∙ sym (state-at before n old is))
    ∙ set-get_or (drive_states before) n new_drive

-- a fault: this drive failed, and no other one
pub one-failed : (number most n : ℕ) (before after : List DriveView) → OneDriveMoves (Some number) most n before after → OneFailed n number (drive_states before) (drive_states after)
one-failed number most n before after (old, new, is, after_is, moved) =
    let inside : n < length before = slice_get_within before n old is in
    subst (λ views. OneFailed n number (drive_states before) (drive_states views)) (sym after_is) (one-set number most n before old new is inside moved)
  where
    one-set : (number most n : ℕ) (before : List DriveView) (old new : DriveView) → slice_get before n ≡ Some old
        → n < length before → MovesCounts (Some number) most old.counts new.counts → OneFailed n number
        (drive_states before) (drive_states (slice_set before n new))
    one-set number most n before old new is inside moved =
        let was : drive_at (drive_states before) n ≡ drive_state old = state-at before n old is in
        let now : drive_at (drive_states (slice_set before n new)) n ≡ drive_state new = state-set before n new inside in
        record {
          rose = subst (λ d. Rose d.faults (drive_at (drive_states (slice_set before n new)) n).faults) (sym was) (subst (λ d. Rose old.counts.faults d.faults) (sym now) moved.rose);
          never_falls = subst (λ d. d.faults ≤ (drive_at (drive_states (slice_set before n new)) n).faults) (sym was) (subst (λ d. old.counts.faults ≤ d.faults) (sym now) moved.never_falls);
          last = subst (λ d. option_map drive_error d.last ≡ Some number) (sym now) moved.number;
          others = λ other apart. state-other before n other new apart;
          as_many = length-map (slice_set before n new) drive_state ∙ length-set before n new ∙ sym (length-map before drive_state);
        }
