-- The volume of a sound image is mounted before a tool is used.
use Rattle.std.proofs.Common.{◌≡◌, ℕ, Option, List, Result, Err, refl, sym, subst}
use Rattle.rbf_access.specs.Mounted.{HoldsVolume, IsSoundMedia, RepresentsVolume}
use Rattle.vol_tools.specs.Refusals.{unchanged}
use Rattle.vol_tools.specs.UsesInTurn.{Use}
use Rattle.vol_tools.specs.Answers.{OnVolumeBefore}
use Rattle.vol_tools.specs.declared.fault.ToolFault.{ToolFault}
use Rattle.vol_tools.specs.declared.fault.ToolFault.TheVariants.{Device}

-- a sound image holds a volume
pub holds : (media : Option (List ℕ)) → IsSoundMedia media → HoldsVolume media
holds media (v, on) = record {
  image = on.image;
  is = on.is;
  header = on.vol.header;
  map = on.vol.sound.shape.map;
}

module _ {A : Type 0} (use_ : Use) (bytes : A → List ℕ) (old mid : Option (List ℕ)) (same : mid ≡ old) where
  -- the tool was used on what was mounted
  pub used : (new : Option (List ℕ)) (answer : Result A ToolFault) → OnVolumeBefore use_ bytes mid new answer → OnVolumeBefore use_ bytes old new answer
  used new answer answers = subst (λ media. OnVolumeBefore use_ bytes media new answer) same answers

  -- a fault of the drive came first
  pub not-mounted : (n : ℕ) → OnVolumeBefore {A = A} use_ bytes old mid (Err (Device n))
  not-mounted n v on = record { volume = v; on = subst (λ media. RepresentsVolume media v) (sym same) on; may = unchanged refl }
