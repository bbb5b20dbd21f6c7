-- Why a creation is refused, and why it is not.
use Rattle.std.proofs.Common.{◌≡◌, ℕ, ◌+◌, ◌*◌, ◌<◌, ◌≤◌, Bool, true, false, not, ◌==◌, ◌&&◌, nat_lt, List, Option, Some, None, is_some, length, sym, ap, ◌∙◌, subst, ⊎_elim, arith, eq-eqb, eqb-true, lt-ltb}
use Rattle.std.specs.Prelude.{if◌then◌else◌}
use Rattle.std.proofs.lemmas.Bool.{and_parts, and_from, le-ltb, cond-true, cond-false, false_from_ne_true, both_ways, cases_eq}
use Rattle.os9_base.specs.declared.registers.TimePacket.{TimePacket}
use Rattle.rbf_model.specs.File.{DiskFile}
use Rattle.rbf_model.specs.Geometry.{Geometry, image_geometry}
use Rattle.rbf_model.specs.Volume.{DiskVolume}
use Rattle.rbf_model.specs.Walk.{look_up}
use Rattle.rbf_model.proofs.Owners.{cluster_positive}
use Rattle.rbf_change.specs.Calls.{cluster_size, free_total}
use Rattle.rbf_change.specs.Growth.{clusters_needed}
use Rattle.rbf_change.specs.Names.{is_dots, may_change}
use Rattle.rbf_change.specs.NewFiles.{NewEntryRefusal, no_cluster, too_many_runs, entry_clusters, file_clusters, first_segments}
use Rattle.rbf_change.proofs.LawfulWrites.{shape-image}
use Rattle.rbf_access.specs.Mounted.{RepresentsVolume}
use Rattle.rbf_walk.specs.Search.{IsAbsentName}
use Rattle.rbf_entries.specs.Entering.{refusal_of}
use Rattle.rbf_entries.specs.Rooms.{place_clusters, HasClusterRoom, HasNoSegment}
use Rattle.rbf_entries.specs.Creating.{request}
use Rattle.rbf_entries.proofs.NewOnes.{one_cluster}

module _ (media : Option (List ℕ)) (v : DiskVolume) (on : RepresentsVolume media v) (d : ℕ) (name : List ℕ) (attr user : ℕ)
    (execute : Bool) (now : TimePacket) (dir : DiskFile) (place : ℕ) (proper : is_dots name ≡ false)
    (allowed : may_change dir user execute ≡ true) (absent : IsAbsentName dir.contents name place) where
  abbrev k : ℕ
  k = cluster_size v

  positive : 1 ≤ k
  positive = subst (λ (s : Geometry). 1 ≤ s.cluster) (sym (shape-image on.image v on.vol)) (cluster_positive (image_geometry on.image).cluster on.vol.sound.shape.header.clusters)

  abbrev total : ℕ
  total = file_clusters k 0 + entry_clusters k dir

  its_clusters : entry_clusters k dir ≡ place_clusters v dir place
  its_clusters = ap (λ p. clusters_needed k dir.segments (32 * (p + 1))) (sym absent.free_is)

  total_is : total ≡ 1 + place_clusters v dir place
  total_is = let one = one_cluster k (first_segments k 0) positive in let same = its_clusters in omega arith

  abbrev last : Option NewEntryRefusal
  last = if nat_lt 0 (entry_clusters k dir) && (length dir.segments == 48) then Some too_many_runs else None

  reaches : refusal_of v dir (request d name attr user execute now) ≡ (if nat_lt (free_total v) total then Some no_cluster else last)
  reaches =
      cond-false (is_dots name) _ _ proper
      ∙ cond-false (not (may_change dir user execute)) _ _ (ap not allowed)
      ∙ cond-false (is_some (look_up dir.contents name)) _ _ (ap is_some absent.names_none)

  pub is_full : free_total v < 1 + place_clusters v dir place → refusal_of v dir (request d name attr user execute now) ≡ Some no_cluster
  is_full low = reaches ∙ cond-true (nat_lt (free_total v) total) (Some no_cluster) last (lt-ltb (free_total v) total (let same = total_is in omega arith))

  not_full : 1 + place_clusters v dir place ≤ free_total v → refusal_of v dir (request d name attr user execute now) ≡ last
  not_full enough = reaches ∙ cond-false (nat_lt (free_total v) total) (Some no_cluster) last (le-ltb (free_total v) total (let same = total_is in omega arith))

  pub is_too_long : HasNoSegment v dir place 1 → refusal_of v dir (request d name attr user execute now) ≡ Some too_many_runs
  is_too_long h =
      let needs = h.needs in
      not_full h.enough
      ∙ cond-true (nat_lt 0 (entry_clusters k dir) && (length dir.segments == 48)) (Some too_many_runs) None
      (and_from (nat_lt 0 (entry_clusters k dir)) (length dir.segments == 48) (lt-ltb 0 (entry_clusters k dir) (let same = its_clusters in omega arith)) (eq-eqb (length dir.segments) 48 h.full))

  pub is_allowed : HasClusterRoom v dir place 1 → refusal_of v dir (request d name attr user execute now) ≡ None
  is_allowed h =
      not_full h.enough
      ∙ cond-false (nat_lt 0 (entry_clusters k dir) && (length dir.segments == 48)) (Some too_many_runs) None
      (false_from_ne_true (nat_lt 0 (entry_clusters k dir) && (length dir.segments == 48)) (λ both.
      let parts = and_parts (nat_lt 0 (entry_clusters k dir)) (length dir.segments == 48) both in
      let full : length dir.segments ≡ 48 = eqb-true (length dir.segments) 48 parts.1 in
      ⊎_elim
      (λ none. both_ways (nat_lt 0 (entry_clusters k dir)) (le-ltb 0 (entry_clusters k dir) (let same = its_clusters in omega arith)) parts.0)
      (λ some. let few = h.few (omega arith) in absurd (omega arith))
      (cases_eq (place_clusters v dir place) 0)))

-- a file without contents needs the cluster of its descriptor
pub needs_one : (media : Option (List ℕ)) (v : DiskVolume) → RepresentsVolume media v → file_clusters (cluster_size v) 0 ≡ 1
needs_one media v on =
    let some : 1 ≤ cluster_size v =
    subst (λ (s : Geometry). 1 ≤ s.cluster) (sym (shape-image on.image v on.vol))
    (cluster_positive (image_geometry on.image).cluster on.vol.sound.shape.header.clusters) in
    let none = one_cluster (cluster_size v) (first_segments (cluster_size v) 0) some in
    omega arith
