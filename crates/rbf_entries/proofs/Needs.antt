-- Room for a new file and its entry.
use Rattle.std.proofs.Common.{◌≡◌, ℕ, zero, suc, ◌+◌, ◌-◌, ◌*◌, ◌/◌, ◌<◌, ◌≤◌, List, [], ◌∷◌, length, refl, sym, ap, ap₂, ◌∙◌, arith}
use Rattle.std.specs.Int.{div_ceil}
use Rattle.std.proofs.Math.Nat.{mul-le-mul_left}
use Rattle.std.proofs.lemmas.Grind.{div_ceil_times}
use Rattle.std.proofs.lemmas.Nat.{div-mul-add}
use Rattle.rbf_model.specs.File.{DiskFile}
use Rattle.rbf_model.specs.Segments.{sectors_of}
use Rattle.rbf_model.specs.Volume.{DiskVolume, Vol}
use Rattle.rbf_model.specs.Writes.{put_at}
use Rattle.rbf_change.specs.Agrees.{Agrees}
use Rattle.rbf_change.specs.Calls.{cluster_size}
use Rattle.rbf_change.specs.Contents.{sector_count, extended, written}
use Rattle.rbf_change.specs.Growth.{clusters_needed}
use Rattle.rbf_sector.specs.declared.fd.Fd.{Fd}
use Rattle.rbf_access.specs.declared.volume.Volume.{Volume}
use Rattle.rbf_access.specs.Mounted.{mounted_part}
use Rattle.rbf_access.specs.Reading.{IsFdOf}
use Rattle.rbf_alloc.proofs.Growing.{k_is}
use Rattle.rbf_write.proofs.Contents.{length-laid}
use Rattle.rbf_write.proofs.Laid.{needed_is, no_clusters}
use Rattle.rbf_entries.specs.Rooms.{place_clusters}

ceil_is : (t k : ℕ) → 0 < k → (t + (k - 1)) / k ≡ div_ceil t k
ceil_is t k positive =
    let q = div_ceil t k in
    let bounds = div_ceil_times t k positive in
    let low : t ≤ q * k = bounds.0 in
    let high : q * k < t + k = bounds.1 in
    let split : q * k + (t + (k - 1) - q * k) ≡ t + (k - 1) = omega arith in
    ap (λ x. x / k) (sym split) ∙ div-mul-add q k (t + (k - 1) - q * k) (omega arith)

pub count_is : (k : ℕ) (segments : List (ℕ × ℕ)) (place had missing divisor count : ℕ) → 1 ≤ k → had ≡ length (sectors_of segments)
    → missing ≡ place / 8 + 1 - had → divisor ≡ k → count ≡ div_ceil missing divisor → count ≡ clusters_needed k segments (32 * (place + 1))
count_is k segments place had missing divisor count some is missing_is divided counted =
    let whole : place / 8 + 1 ≡ sector_count (32 * (place + 1)) = omega arith in
    let left : missing ≡ sector_count (32 * (place + 1)) - length (sectors_of segments) = missing_is ∙ ap₂ (λ a b. a - b) whole is in
    counted ∙ ap₂ div_ceil left divided ∙ sym (ceil_is (sector_count (32 * (place + 1)) - length (sectors_of segments)) k some)

-- no more clusters than sectors
pub ceil_few : (t k : ℕ) → 1 ≤ k → div_ceil t k ≤ t
ceil_few t k some = fewer (div_ceil t k) (div_ceil_times t k some).1
  where
    fewer : (q : ℕ) → q * k < t + k → q ≤ t
    fewer zero less = omega arith
    fewer (suc p) less =
        let more : p * 1 ≤ p * k = mul-le-mul_left p some in
        let split : suc p * k ≡ p * k + k = omega arith in
        omega arith

-- what the directory needs
pub needs_is : (volume : Volume) (image : List ℕ) (on : DiskVolume) (file : DiskFile) (fd : Fd) (place more : ℕ) → Agrees (mounted_part volume) image → Vol image on → IsFdOf file fd
    → more ≡ clusters_needed volume.ident.cluster fd.segs (32 * (place + 1)) → more ≡ place_clusters on file place
needs_is volume image on file fd place more agrees vol says is =
    is ∙ ap (λ k. clusters_needed k fd.segs (32 * (place + 1))) (k_is volume image on vol agrees) ∙ ap (λ xs. clusters_needed (cluster_size on) xs (32 * (place + 1))) says.segments_are

written_is : (contents bytes : List ℕ) (at : ℕ) → 1 ≤ length bytes → written contents at bytes ≡ put_at (extended contents at) at bytes
written_is contents [] at some = absurd (omega arith)
written_is contents (b ∷ bytes) at some = refl

-- to have an entry written is to have its place
pub needs_entry : (v : DiskVolume) (dir : DiskFile) (place : ℕ) (entry : List ℕ) → length entry ≡ 32 → length dir.contents ≤ 256 * length (sectors_of dir.segments)
    → clusters_needed (cluster_size v) dir.segments (length (written dir.contents (32 * place) entry)) ≡ place_clusters v dir place
needs_entry v dir place entry whole fits =
    ap (λ c. clusters_needed (cluster_size v) dir.segments (length c)) (written_is dir.contents entry (32 * place) (omega arith))
    ∙ ap (clusters_needed (cluster_size v) dir.segments) (length-laid dir.contents entry (32 * place))
    ∙ needed_is (cluster_size v) (length dir.contents) (32 * place + length entry) dir.segments fits
    ∙ ap (clusters_needed (cluster_size v) dir.segments) (let s : 32 * place + length entry ≡ 32 * (place + 1) = omega arith in s)

-- a place that a directory has needs no cluster
pub needs_none : (v : DiskVolume) (dir : DiskFile) (place : ℕ) → 1 ≤ cluster_size v
    → length dir.contents ≤ 256 * length (sectors_of dir.segments) → 32 * (place + 1) ≤ length dir.contents
    → place_clusters v dir place ≡ 0
needs_none v dir place some fits within =
    no_clusters (cluster_size v) (sector_count (32 * (place + 1)) - length (sectors_of dir.segments)) some (omega arith)
