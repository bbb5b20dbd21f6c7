-- A new file that is on the disk, and comes into the volume.
use Rattle.std.proofs.Common.{◌≡◌, ◌≢◌, ℕ, ◌/◌, ◌==◌, Bool, true, [], ◌++◌, Option, Some, None, refl, sym, ap, subst, inl, eq-eqb, ne_eqb}
use Rattle.std.proofs.lemmas.Bool.{both_ways, or_left, cond-false}
use Rattle.std.proofs.lemmas.Option.{same_Some}
use Rattle.rbf_model.specs.Geometry.{Geometry, LieWithin}
use Rattle.rbf_model.specs.Segments.{has, sectors_of, AreDistinct}
use Rattle.rbf_model.specs.File.{DiskFile}
use Rattle.rbf_model.specs.Space.{system_sectors, own_sectors, owned, owns, has_cluster, IsMapped}
use Rattle.rbf_model.specs.Writes.{put_file, lost_after}
use Rattle.rbf_model.proofs.Space.{cluster_from_owns}
use Rattle.rbf_model.proofs.Change.{mapped_after}
use Rattle.rbf_model.proofs.Owners.{owns_own}

-- what a file other than the root's owns
pub owned_other : (g : Geometry) (n : ℕ) (file : DiskFile) → n ≢ g.root → owned g n file ≡ own_sectors n file
unfolding owned
owned_other g n file other = ap (λ xs. xs ++ own_sectors n file) (cond-false (n == g.root) (system_sectors g) [] (ne_eqb n g.root other))

module _ (g : Geometry) (marked : ℕ → Bool) (files : ℕ → Option DiskFile) (lost : ℕ → Bool) (mapped : IsMapped g marked files lost) (n : ℕ) (file : DiskFile)
    (clusters : (c : ℕ) → has_cluster g n file c ≡ true → lost c ≡ true) where
  -- no file has one of its sectors
  pub ready_apart : (m : ℕ) (other : DiskFile) (s : ℕ) → files m ≡ Some other → owns g m other s ≡ true → has (own_sectors n file) s ≡ true → ⊥
  ready_apart m other s is owned_too own =
      both_ways (has_cluster g m other (s / g.cluster))
      (((mapped.lost_are (s / g.cluster)).0 (clusters (s / g.cluster) (cluster_from_owns g n file s (owns_own g n file s own)))).unused m other is)
      (cluster_from_owns g m other s owned_too)

  -- so it is not in the volume
  pub ready_absent : files n ≡ None
  ready_absent = at (files n) refl
    where
      first : (one : DiskFile) → has (own_sectors n one) n ≡ true
      first one = or_left (n == n) (has (sectors_of one.segments) n) (eq-eqb n n refl)

      at : (o : Option DiskFile) → files n ≡ o → files n ≡ None
      at None h = h
      at (Some other) h = absurd (ready_apart n other n h (owns_own g n other n (first other)) (first file))

  -- and when it comes its clusters are lost no more
  pub mapped_comes : LieWithin g file.segments → AreDistinct (own_sectors n file) → n ≢ g.root → IsMapped g marked (put_file files n (Some file)) (lost_after g files lost n (Some file))
  mapped_comes within distinct other =
      mapped_after g marked files lost mapped n (Some file)
      (λ f h. subst (λ x. LieWithin g x.segments) (same_Some file f h) within)
      (λ f h. subst (λ x. AreDistinct (owned g n x)) (same_Some file f h) (subst AreDistinct (sym (owned_other g n file other)) distinct))
      (λ c h. inl (clusters c h))
