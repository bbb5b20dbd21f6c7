-- What each verb makes.
use Rattle.std.proofs.Common.{◌≡◌, ◌≢◌, ℕ, Some, Result, Ok, Err, List, [], length, refl, sym, subst, ap, ◌∙◌}
use Rattle.rbf_model.specs.Geometry.{Geometry, geometry}
use Rattle.rbf_model.specs.Volume.{lost_clusters}
use Rattle.vol_tools.specs.Tool.{Tool, freed_line, repaired}
use Rattle.file_drives.specs.Drives.{DriveView}
use Rattle.boot_run.specs.BootFile.{IsVolume}
use Rattle.boot_run.specs.Drives.{HaveRoom}
use Rattle.vol_tools.specs.Image.{IsDiskSize}
use Rattle.vol_tools.specs.Repair.{IsRepaired}
use Rattle.vol_tools.specs.declared.image.Repaired.{Repaired}
use Rattle.os9_words.specs.Vol.{IsVol}
use Rattle.os9_words.specs.declared.vol_words.Verb.{Verb}
use Rattle.os9_words.specs.declared.vol_words.Verb.TheVariants.{Format, Put, Get, Mkdir, Delete, Dir, Repair}
use Rattle.os9_words.specs.declared.vol_words.VolWords.{VolWords}
use Rattle.boot_run.specs.declared.status.End.{End}
use Rattle.boot_run.specs.declared.status.End.TheVariants.{NoMemory, BadImage, DriveFailed, Refused}
use Rattle.boot_run.specs.declared.status.Input.TheVariants.{Image}
use Rattle.os9_boot.specs.VolLeft.{MountsImage, ReadsInput}
use Rattle.os9_boot.specs.VolSteps.{DrivesAfter, FormatsDisk, IsMended, MakesOf, RefusesImage, RepairsImage, UsesImage}
use Rattle.os9_boot.specs.Vol.{ChangesBits, MakesBy, RefusesBy, path_of, tool_of}
use Rattle.os9_boot.proofs.RepairLemmas.{repaired-tail}
use Rattle.os9_boot.specs.declared.made.Made.{Made}

-- the sizes of `format`
pub disk-size : (vol : VolWords) → IsVol vol → vol.verb ≡ Format → IsDiskSize vol.sectors vol.cluster
disk-size vol words format =
    let sizes = words.disk format in
    record { least = sizes.least; most = sizes.most; clusters = sizes.cluster }

-- ---- the drives

-- nothing was done with them
pub done-still : (made : Made) (drives : List DriveView) → HaveRoom 1 drives → DrivesAfter (Ok made) drives drives
done-still made drives room = record { fails = refl; media_kept = refl; empty = record { as_many = refl; empty = room.empty } }

pub refused-still : (image : List ℕ) (end : End) (drives : List DriveView) → HaveRoom 1 drives → RefusesImage image end → DrivesAfter {A = Made} (Err end) drives drives
refused-still image (BadImage number fault) drives room refused = record { fails = refl; media_kept = refl; empty = record { as_many = refl; empty = room.empty } }
refused-still image NoMemory drives room refused = record { fails = refl; media_kept = refl; empty = record { as_many = refl; empty = room.empty } }
refused-still image end drives room refused = absurd refused

pub formatted-still : (vol : VolWords) (result : Result Made End) (drives : List DriveView) → HaveRoom 1 drives → FormatsDisk vol result → DrivesAfter result drives drives
formatted-still vol (Ok made) drives room is = done-still made drives room
formatted-still vol (Err NoMemory) drives room is = refused-still [] NoMemory drives room tt
formatted-still vol (Err end) drives room is = absurd is

pub repaired-still : (image : List ℕ) (result : Result Made End) (drives : List DriveView) → HaveRoom 1 drives → RepairsImage image result → DrivesAfter result drives drives
repaired-still image (Ok made) drives room is = done-still made drives room
repaired-still image (Err (BadImage number fault)) drives room is = refused-still image (BadImage number fault) drives room is
repaired-still image (Err NoMemory) drives room is = refused-still image NoMemory drives room tt
repaired-still image (Err end) drives room is = absurd is

-- ---- what is made

-- a verb that is not `format` reads the image
reads-image : (verb : Verb) (number : ℕ) → verb ≢ Format → number ≡ 0 → ReadsInput verb (Image number)
reads-image Format number no_disk is = absurd (no_disk refl)
reads-image Put number no_disk is = is
reads-image Get number no_disk is = is
reads-image Mkdir number no_disk is = is
reads-image Delete number no_disk is = is
reads-image Dir number no_disk is = is
reads-image Repair number no_disk is = is

-- and has a tool for a mounted volume if it is not `repair` either
mounts-image : (verb : Verb) → verb ≢ Format → verb ≢ Repair → MountsImage verb
mounts-image Format no_disk no_repair = absurd (no_disk refl)
mounts-image Put no_disk no_repair = tt
mounts-image Get no_disk no_repair = tt
mounts-image Mkdir no_disk no_repair = tt
mounts-image Delete no_disk no_repair = tt
mounts-image Dir no_disk no_repair = tt
mounts-image Repair no_disk no_repair = absurd (no_repair refl)

any-bits : (verb : Verb) (old image : List ℕ) → verb ≢ Repair → ChangesBits verb old image
any-bits Format old image no_repair = tt
any-bits Put old image no_repair = tt
any-bits Get old image no_repair = tt
any-bits Mkdir old image no_repair = tt
any-bits Delete old image no_repair = tt
any-bits Dir old image no_repair = tt
any-bits Repair old image no_repair = absurd (no_repair refl)

-- the image was refused
pub refused-of : (vol : VolWords) (image bytes : List ℕ) (end : End) → vol.verb ≢ Format → RefusesImage image end → MakesOf vol image bytes (Err end)
refused-of vol image bytes (BadImage number fault) no_disk refused =
    record { reads = reads-image vol.verb number no_disk refused.0; is = refused.1 }
refused-of vol image bytes NoMemory no_disk refused = tt
refused-of vol image bytes end no_disk refused = absurd refused

-- a tool was used
module _ (vol : VolWords) (image bytes : List ℕ) (no_disk : vol.verb ≢ Format) (no_repair : vol.verb ≢ Repair) (volume : IsVolume image) where
  pub uses-of : (tool : Tool) → tool_of vol.verb (path_of vol) bytes ≡ Some tool → (result : Result Made End) → UsesImage tool vol image result → MakesOf vol image bytes result
  uses-of tool is (Ok made) used =
      subst (λ tool. MakesBy tool vol image made.answer.items made.image.items) (sym is) (record { used = used; bits = any-bits vol.verb image made.image.items no_repair })
  uses-of tool is (Err (Refused number)) used = record {
    mounts = mounts-image vol.verb no_disk no_repair;
    refuses = subst (λ tool. RefusesBy tool vol image number) (sym is) used;
  }
  uses-of tool is (Err (DriveFailed drive number)) used =
      record { may = record { first = used; mounts = mounts-image vol.verb no_disk no_repair }; volume = volume }
  uses-of tool is (Err NoMemory) used = tt
  uses-of tool is (Err end) used = absurd used

-- the lost clusters were freed
pub repaired-of : (vol : VolWords) (image bytes : List ℕ) → vol.verb ≡ Repair → (result : Result Made End) → RepairsImage image result → MakesOf vol image bytes result
repaired-of vol image bytes verb (Ok made) is =
    subst (λ tool. MakesBy tool vol image made.answer.items made.image.items)
    (sym (ap (λ verb. tool_of verb (path_of vol) bytes) verb))
    (record {
      used = is.used vol;
      bits = subst (λ verb. ChangesBits verb image made.image.items) (sym verb)
          is.bits;
    })
repaired-of vol image bytes verb (Err (BadImage number fault)) is =
    record { reads = subst (λ verb. ReadsInput verb (Image number)) (sym verb) is.0; is = is.1 }
repaired-of vol image bytes verb (Err NoMemory) is = tt
repaired-of vol image bytes verb (Err end) is = absurd is

pub freed-used : (old : List ℕ) (outcome : Repaired) (answer : List ℕ) → IsRepaired old outcome → answer ≡ freed_line outcome.freed → IsMended old answer outcome.image.items
freed-used old outcome answer it line =
    let shape = ap geometry it.was.sound.shows.ident in
    record {
      used = λ vol. record {
        before = it.volume;
        was = it.was;
        after = repaired it.volume;
        is = it.is;
        gives = (refl, line ∙ ap freed_line (it.freed ∙ ap (λ (g : Geometry). length (lost_clusters g it.volume)) (sym shape)));
        tail = repaired-tail old outcome.image.items it.volume it.was it.bits;
        others = tt;
      };
      bits = record { volume = it.volume; was = it.was; bits = it.bits };
    }
