-- Devices for any words.
use Rattle.std.proofs.Common.{◌≡◌, ◌≤◌, ℕ, Option, Some, None, List, [], ◌∷◌, ◌++◌, length, All, refl, arith}
use Rattle.std.proofs.lemmas.List.Elements.{All-cons, All-head, All-tail}
use Rattle.std.proofs.lemmas.List.{length-map}
use Rattle.std.specs.declared.alloc.Global.{Global}
use Rattle.std.specs.declared.dyn_box.DynBox.{DynBox}
use Rattle.os9_outer.specs.declared.drive.BlockDriver.{Ghosts}
use Rattle.file_drives.specs.Drives.{DriveView, boxed_seen, drive_views}
use Rattle.boot_run.specs.Loaded.{AreUnloaded}
use Rattle.os9_words.specs.declared.command.Command.{Command}
use Rattle.os9_words.specs.declared.command.Command.TheVariants.{Run, Boot, Check, Stress, Vol, Asm, Debug}
use Rattle.os9_words.specs.Command.{command_of, most_images}
use Rattle.os9_words.proofs.CommandLemmas.{is-complete}
use Rattle.boot_run.specs.Drives.{HaveRoom, IsEmptyDrive}
use Rattle.boot_run.specs.Ready.{DevicesAreFree}
use Rattle.os9_kernel.specs.Outside.{Outside}
use Rattle.os9_boot.specs.Devices.{drives_for}

-- no command needs more drives than a boot may have images
few-drives : (words : List (List ℕ)) → drives_for words ≤ most_images
few-drives words = by (command_of words) refl
  where
    by : (found : Option Command) → command_of words ≡ found → drives_for words ≤ most_images
    by None is = rw is (omega arith)
    by (Some (Run run)) is = rw is (omega arith)
    by (Some (Boot boot)) is = rw is (is-complete words (Boot boot) is).files.few
    by (Some (Check image)) is = rw is (omega arith)
    by (Some (Stress seed)) is = rw is (omega arith)
    by (Some (Vol vol)) is = rw is (omega arith)
    by (Some (Asm asm)) is = rw is (omega arith)
    by (Some (Debug debug)) is = rw is (omega arith)

-- as many drives as a command can name images are enough
pub has-drives : (words : List (List ℕ)) (drives : List DriveView) → HaveRoom most_images drives → HaveRoom (drives_for words) drives
has-drives words drives room = record {
  enough = omega (arith, few-drives words, room.enough);
  few = room.few;
  empty = room.empty;
}

-- and devices with so many are free for any words
pub free-for : (words : List (List ℕ)) (devices : Outside) → AreUnloaded devices.terms → HaveRoom most_images devices.drives → DevicesAreFree (drives_for words) devices
free-for words devices unloaded room = record {
  terminals = unloaded;
  room = has-drives words devices.drives room;
}

-- one drive more
pub empty-more : {Table : Type 0} {Driver : Table → Type 0} (members : (drive : DynBox Table Global Driver) → Ghosts (Driver drive.vtable))
    (drives : List (DynBox Table Global Driver)) (drive : DynBox Table Global Driver)
    → IsEmptyDrive (boxed_seen members drive) → All IsEmptyDrive (drive_views members drives)
    → All IsEmptyDrive (drive_views members (drives ++ drive ∷ []))
empty-more members [] drive is empty = All-cons IsEmptyDrive (boxed_seen members drive) [] is empty
empty-more members (first ∷ drives) drive is empty =
    All-cons IsEmptyDrive (boxed_seen members first) (drive_views members (drives ++ drive ∷ []))
    (All-head IsEmptyDrive (boxed_seen members first) (drive_views members drives) empty)
    (empty-more members drives drive is (All-tail IsEmptyDrive (boxed_seen members first)
    (drive_views members drives) empty))

-- four drives without images
pub four-drives : {Table : Type 0} {Driver : Table → Type 0} (members : (drive : DynBox Table Global Driver) → Ghosts (Driver drive.vtable))
    (drives : List (DynBox Table Global Driver)) → length drives ≡ 4 → All IsEmptyDrive (drive_views members drives)
    → HaveRoom 4 (drive_views members drives)
four-drives members drives count empty = record {
  enough = rw length-map (omega (arith, count));
  few = rw length-map (omega (arith, count));
  empty = empty;
}
