-- What the repair of an image gives.
use Rattle.std.proofs.Common.{◌≡◌, ℕ, List, length, refl, ap, sym, ◌∙◌, subst}
use Rattle.rbf_model.specs.Geometry.{geometry}
use Rattle.rbf_model.specs.Volume.{lost_clusters}
use Rattle.vol_tools.specs.Tool.{freed_line}
use Rattle.rbf_check.specs.Lost.{IsLostOf}
use Rattle.vol_tools.specs.Clearing.{ClearsBits, ClearsLostClusters}
use Rattle.vol_tools.specs.Repair.{IsRepaired}
use Rattle.vol_tools.specs.declared.image.Repaired.{Repaired}

pub repaired_of : (old seen lost passed : List ℕ) (outcome : Repaired) → seen ≡ old → IsLostOf seen lost
    → passed ≡ lost → ClearsLostClusters old passed outcome.image.items → outcome.freed ≡ length lost → IsRepaired old outcome
repaired_of old seen lost passed outcome same is also cleared many =
    let l = subst (λ i. IsLostOf i lost) same is in
    let shape = ap geometry l.represents.sound.shows.ident in
    let c = subst (λ xs. ClearsLostClusters old xs outcome.image.items) also cleared in
    record {
      volume = l.volume;
      was = l.represents;
      is = c.gives l.volume l.represents;
      freed = many ∙ ap length l.are;
      gives = λ now. (refl, ap freed_line (many ∙ ap length l.are ∙ ap (λ g. length (lost_clusters g l.volume)) (sym shape)));
      bits = subst (ClearsBits old outcome.image.items) l.are c.bits;
    }
