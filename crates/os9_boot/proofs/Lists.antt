-- A repair and a new disk in a list of tools.
use Rattle.std.proofs.Common.{◌≡◌, ℕ, Option, Some, List, [], ◌∷◌, refl, subst}
use Rattle.os9_base.specs.declared.registers.TimePacket.{TimePacket}
use Rattle.rbf_model.specs.Volume.{DiskVolume, Vol}
use Rattle.rbf_access.specs.Mounted.{RepresentsVolume}
use Rattle.rbf_walk.proofs.Stepping.{same_content}
use Rattle.vol_tools.specs.Blank.{blank_volume}
use Rattle.vol_tools.specs.Tool.{freed_line, repair, repaired}
use Rattle.vol_tools.specs.UsesInTurn.{Use, GivesInTurn, none, next}
use Rattle.vol_tools.specs.Repair.{IsRepaired}
use Rattle.vol_tools.specs.declared.image.Repaired.{Repaired}
use Rattle.vol_tools.specs.InTurn.{LeavesInTurn}
use Rattle.os9_boot.specs.NewDisk.{LeavesNew, NewDisk}

on_image : (image : List ℕ) (v : DiskVolume) → Vol image v → RepresentsVolume (Some image) v
on_image image v vol = record { image = image; is = refl; vol = vol }

pub one_repair : (old : List ℕ) (outcome : Repaired) (now : TimePacket) → IsRepaired old outcome
    → LeavesInTurn (record { tool = repair; now = now } ∷ []) (Some old) (Some outcome.image.items) (freed_line outcome.freed ∷ [])
one_repair old outcome now is =
    record {
      before = is.volume;
      was = on_image old is.volume is.was;
      after = repaired is.volume;
      is = on_image outcome.image.items (repaired is.volume) is.is;
      gives = next (is.gives now) none;
    }

pub from_new : (disk : NewDisk) (image : List ℕ) (uses : List Use) (new : Option (List ℕ)) (answers : List (List ℕ)) → Vol image (blank_volume disk.sectors disk.cluster disk.made)
    → LeavesInTurn uses (Some image) new answers → LeavesNew disk uses new answers
from_new disk image uses new answers vol leaves =
    let blank : DiskVolume = blank_volume disk.sectors disk.cluster disk.made in
    let same : leaves.before ≡ blank = same_content (Some image) leaves.before blank leaves.was (on_image image blank vol) in
    record { after = leaves.after; is = leaves.is; gives = subst (λ v. GivesInTurn uses v leaves.after answers) same leaves.gives }
