-- Checks of images whose bytes were read.
use Rattle.std.proofs.Common.{◌≡◌, ℕ, Option, Some, None, List, refl, subst, inr, ap}
use Rattle.std.specs.Prelude.{IfSome}
use Rattle.os9_outer.specs.Host.{HostFiles, file_contents}
use Rattle.os9_outer.specs.Stream.{GainsPrefix, stream_with}
use Rattle.rbf_model.specs.Faults.{IsFault}
use Rattle.rbf_model.specs.Geometry.{image_geometry}
use Rattle.rbf_check.specs.declared.faults.CheckFault.{CheckFault}
use Rattle.rbf_check.specs.declared.tree.Tree.{Tree}
use Rattle.rbf_check.specs.Tree.{IsTreeOf}
use Rattle.os9_words.specs.declared.command.Command.TheVariants.{Check as CheckCommand}
use Rattle.boot_run.specs.World.{World}
use Rattle.boot_run.specs.declared.status.End.{End}
use Rattle.boot_run.specs.declared.status.End.TheVariants.{Ended, CannotWrite, NoMemory, BadImage}
use Rattle.os9_boot.specs.Check.{CheckComesTo, PrintFails, PrintsAs, PrintsLine, counts_of, tree_line}
use Rattle.os9_boot.specs.Commands.{CommandCall}
use Rattle.os9_boot.specs.BootLeft.{CheckMayEnd, CommandLeavesDevices}
use Rattle.os9_boot.specs.Host.{CommandFailsAsReported}
use Rattle.os9_boot.proofs.BootCallLemmas.{kept-counts, still-silent, unchanged}

module _ (before after : World) (image bytes : List ℕ) (read : IfSome before.files (λ files. bytes ≡ file_contents files image)) where
  -- what holds of the bytes holds of the file
  of-image : (fact : List ℕ → Type 0) → fact bytes → IfSome before.files (λ files. fact (file_contents files image))
  of-image fact holds = by before.files read
    where
      by : (told : Option HostFiles) → IfSome told (λ files. bytes ≡ file_contents files image) → IfSome told (λ files. fact (file_contents files image))
      by None is = tt
      by (Some files) is = subst fact is holds

  -- the image has a fault
  pub image-faulted : (fault : CheckFault) → IsFault bytes fault.rule fault.lsn → after ≡ before → CommandCall (CheckCommand image) before after (BadImage 0 fault)
  image-faulted fault is same =
      unchanged (CheckCommand image) before after (BadImage 0 fault) same refl
      (record { out = still-silent before after same; devices = ap (λ (w : World). w.devices) same })
      (kept-counts before after same) (of-image (λ bytes. CheckComesTo bytes before after (BadImage 0 fault)) is)

  module _ (tree : Tree) (is : IsTreeOf bytes tree) where
    counts : tree_line tree ≡ counts_of (image_geometry bytes) is.volume
    counts = rw (is.counts.files, is.counts.directories, is.tells.free, is.tells.lost) refl

    comes-of : (end : End) → PrintsAs (tree_line tree) before after end → CheckComesTo bytes before after end
    comes-of Ended printed = (is.volume, is.represents, subst (λ line. after.out ≡ stream_with before.out line) counts printed)
    comes-of CannotWrite printed = (is.volume, is.represents, subst (λ line. GainsPrefix before.out line after.out) counts printed)
    comes-of NoMemory printed = inr (is.volume, is.represents, subst (λ line. GainsPrefix before.out line after.out) counts printed)
    comes-of end printed = absurd printed

    may : (end : End) → PrintsAs (tree_line tree) before after end → CheckMayEnd end
    may Ended printed = tt
    may CannotWrite printed = tt
    may NoMemory printed = tt
    may end printed = absurd printed

    leaves : (end : End) → PrintsAs (tree_line tree) before after end → CommandLeavesDevices 0 before after end
    leaves Ended printed = tt
    leaves CannotWrite printed = tt
    leaves NoMemory printed = tt
    leaves end printed = absurd printed

    told : (end : End) → PrintsAs (tree_line tree) before after end → PrintFails end before after → CommandFailsAsReported (CheckCommand image) end before after
    told Ended printed fails = fails
    told CannotWrite printed fails = fails
    told NoMemory printed fails = fails
    told end printed fails = absurd printed

    -- the counts of its tree were printed
    pub counts-printed : (end : End) → PrintsLine (tree_line tree) before after end → CommandCall (CheckCommand image) before after end
    counts-printed end call = record {
      comes = of-image (λ bytes. CheckComesTo bytes before after end) (comes-of end call.printed);
      may = may end call.printed;
      devices = record { out = leaves end call.printed; devices = call.devices };
      host = told end call.printed call.host;
      files = call.files;
    }

pub printed-after : (line : List ℕ) (before between after : World) (end : End) → between ≡ before → PrintsLine line between after end → PrintsLine line before after end
printed-after line before between after end same call = subst (λ world. PrintsLine line world after end) same call
