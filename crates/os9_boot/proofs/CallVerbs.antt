-- What a verb that was done has left in the file of its image.
use Rattle.std.proofs.Common.{◌≡◌, ◌≢◌, ℕ, Option, Some, None, List, [], ◌∷◌, unwrap_or, refl, sym, subst, ap}
use Rattle.os9_outer.specs.Host.{HostFiles, file_contents}
use Rattle.os9_words.specs.declared.vol_words.Verb.{Verb}
use Rattle.os9_words.specs.declared.vol_words.Verb.TheVariants.{Format, Put, Get, Mkdir, Delete, Dir, Repair}
use Rattle.os9_words.specs.declared.vol_words.VolWords.{VolWords}
use Rattle.rbf_model.specs.Volume.{DiskVolume, Vol}
use Rattle.rbf_access.specs.Mounted.{RepresentsVolume}
use Rattle.vol_tools.specs.Blank.{blank_volume}
use Rattle.vol_tools.specs.Tool.{IsFileRead, Tool, put, get, mkdir, remove, list, repair}
use Rattle.vol_tools.specs.UsesInTurn.{Use, none, next}
use Rattle.vol_tools.specs.InTurn.{LeavesInTurn}
use Rattle.boot_run.specs.Images.{WritesAll}
use Rattle.os9_boot.specs.Vol.{IsToolUsed, MakesBy, file_of, outputs_of, printed_of, tool_of, written_of}
use Rattle.os9_boot.specs.Turns.{AreLinesOf, AreBytesOfFile}
use Rattle.os9_boot.proofs.CallFiles.{holds-written, keeps-other}

pub on-image : (image : List ℕ) (v : DiskVolume) → Vol image v → RepresentsVolume (Some image) v
on-image image v vol = record { image = image; is = refl; vol = vol }

abbrev pub use-at : Tool → VolWords → Use
use-at tool vol = record { tool = tool; now = vol.start }

pub used-leaves : (tool : Tool) (vol : VolWords) (old answer image : List ℕ) → IsToolUsed tool vol old answer image
    → LeavesInTurn (use-at tool vol ∷ []) (Some old) (Some image) (answer ∷ [])
used-leaves tool vol old answer image used = record {
  before = used.before;
  was = on-image old used.before used.was;
  after = used.after;
  is = on-image image used.after used.is;
  gives = next used.gives none;
}

-- a tool that changes no volume leaves the old image too
keeps-image : (tool : Tool) (vol : VolWords) (old answer image : List ℕ) (used : IsToolUsed tool vol old answer image)
    → used.after ≡ used.before → LeavesInTurn (use-at tool vol ∷ []) (Some old) (Some old) (answer ∷ [])
keeps-image tool vol old answer image used same = record {
  before = used.before;
  was = on-image old used.before used.was;
  after = used.after;
  is = on-image old used.after (subst (λ v. Vol old v) (sym same) used.was);
  gives = next used.gives none;
}

-- the file of the image then: what the tool gives with this answer, or with some; or a new disk
abbrev pub LeavesBy : Tool → VolWords → (answer old new : List ℕ) → Type 0
LeavesBy tool vol answer old new = LeavesInTurn (use-at tool vol ∷ []) (Some old) (Some new) (answer ∷ [])

abbrev pub Leaves : Option Tool → VolWords → (old new : List ℕ) → Type 0
Leaves None vol old new = Vol new (blank_volume vol.sectors vol.cluster vol.start)
Leaves (Some tool) vol old new =
    (answer : List ℕ) × LeavesBy tool vol answer old new

module _ (vol : VolWords) (files now : HostFiles) (answer image : List ℕ) where
  abbrev old : List ℕ
  old = file_contents files vol.image

  abbrev new : List ℕ
  new = file_contents now vol.image

  -- the image was written
  written : (tool : Tool) → IsToolUsed tool vol old answer image → WritesAll (vol.image ∷ []) (image ∷ []) files now
      → Leaves (Some tool) vol old new
  written tool used writes =
      (answer, subst (LeavesBy tool vol answer old) (sym (holds-written files now vol.image image writes)) (used-leaves tool vol old answer image used))

  -- it was not
  unwritten : (tool : Tool) (used : IsToolUsed tool vol old answer image) → used.after ≡ used.before → new ≡ old
      → Leaves (Some tool) vol old new
  unwritten tool used same kept =
      (answer, subst (LeavesBy tool vol answer old) (sym kept) (keeps-image tool vol old answer image used same))

  pub verb-leaves : (verb : Verb) (path bytes : List ℕ) → (verb ≡ Get → file_of vol ≢ vol.image)
      → MakesBy (tool_of verb path bytes) vol old answer image
      → WritesAll (outputs_of verb vol) (written_of verb answer image) files now
      → Leaves (tool_of verb path bytes) vol old new
  verb-leaves Format path bytes apart made writes =
      subst (λ held. Vol held (blank_volume vol.sectors vol.cluster vol.start)) (sym (holds-written files now vol.image image writes)) made.is
  verb-leaves Put path bytes apart made writes = written (put path bytes) made.used writes
  verb-leaves Get path bytes apart made writes =
      unwritten (get path) made.used made.used.gives.1 (keeps-other files now vol.image (file_of vol) answer (apart refl) writes)
  verb-leaves Mkdir path bytes apart made writes = written (mkdir path) made.used writes
  verb-leaves Delete path bytes apart made writes = written (remove path) made.used writes
  verb-leaves Dir path bytes apart made writes =
      unwritten (list path) made.used made.used.gives.1 (ap (λ held. unwrap_or held []) (writes vol.image))
  verb-leaves Repair path bytes apart made writes = written repair made.used writes

  -- `get` has written what it read
  pub got : (verb : Verb) (path bytes : List ℕ) → verb ≡ Get → MakesBy (tool_of verb path bytes) vol old answer image
      → WritesAll (outputs_of verb vol) (written_of verb answer image) files now
      → AreBytesOfFile old path (file_contents now (file_of vol))
  got Get path bytes is made writes =
      let held : file_contents now (file_of vol) ≡ answer = holds-written files now (file_of vol) answer writes in
      record {
        volume = made.used.before;
        was = made.used.was;
        read = subst (λ bytes. IsFileRead made.used.before path bytes) (sym held) made.used.gives.0;
      }
  got verb path bytes is made writes = absurd (cc is)

  -- and `dir` has answered the lines, which are printed
  pub listed : (verb : Verb) (path bytes : List ℕ) → verb ≡ Dir → MakesBy (tool_of verb path bytes) vol old answer image
      → AreLinesOf old path (printed_of verb answer)
  listed Dir path bytes is made = record { volume = made.used.before; was = made.used.was; listed = made.used.gives.0 }
  listed verb path bytes is made = absurd (cc is)
