-- Where no rule is broken there is no breach of one.
use Rattle.std.proofs.Common.{◌≡◌, ℕ, true, List, sym, ◌∙◌}
use Rattle.std.proofs.lemmas.Bool.{both_ways}
use Rattle.std.proofs.lemmas.List.Elements.{All-contains}
use Rattle.std.proofs.lemmas.Option.{slice_get_within, get_or_from_slice_get}
use Rattle.rbf_model.specs.Disk.{disk_of}
use Rattle.rbf_model.specs.Fields.{segments_field}
use Rattle.rbf_model.specs.File.{file_at}
use Rattle.rbf_model.specs.Space.{owned}
use Rattle.rbf_model.specs.Geometry.{Geometry, is_within}
use Rattle.rbf_model.specs.Faults.{Breaks, bad_number, bad_segment, bad_map, unmarked, used_twice, shared, no_room, no_root, bad_size, no_dots, bad_name, same_name, named_twice, named_root}
use Rattle.rbf_model.specs.Keeps.{Keeps}

pub no_breach : (g : Geometry) (disk : ℕ → List ℕ) → Keeps (disk_of g disk) → {rule lsn : ℕ} → Breaks (disk_of g disk) rule lsn → ⊥
no_breach g disk keeps (bad_number {d = d} {i = i} r entry wrong) = wrong (keeps.numbers d i r entry)
no_breach g disk keeps (bad_segment {n = n} {segment = segment} r has out) =
    both_ways (is_within g segment) out (All-contains (λ s. is_within g s ≡ true) (segments_field (disk n)) segment (keeps.segments n r) has)
no_breach g disk keeps (bad_map wrong) = wrong keeps.map
no_breach g disk keeps (unmarked {n = n} {s = s} r owned free) = both_ways _ free (keeps.marks n s r owned)
no_breach g disk keeps (used_twice {n = n} {i = i} {j = j} {s = s} r before one other) =
    let used = owned g n (file_at disk n) in
    keeps.once n r i j s before (slice_get_within used j s other) (get_or_from_slice_get used i s s one ∙ sym (get_or_from_slice_get used j s s other))
no_breach g disk keeps (shared {n = n} {m = m} c r q differ one other at) = differ (keeps.apart n m c r q one other)
no_breach g disk keeps (no_room {n = n} r wrong) = both_ways _ wrong (keeps.room n r)
no_breach g disk keeps (no_root wrong) = both_ways _ wrong keeps.root
no_breach g disk keeps (bad_size {n = n} r is_dir wrong) = both_ways _ wrong (keeps.sizes n r is_dir)
no_breach g disk keeps (no_dots {n = n} r is_dir wrong) = wrong (keeps.dots n r is_dir)
no_breach g disk keeps (bad_name {d = d} r wrong) = wrong (keeps.names d r)
no_breach g disk keeps (same_name {d = d} r wrong) = wrong (keeps.different d r)
no_breach g disk keeps (named_twice {d = d} {e = e} {i = i} {j = j} {n = n} number one other wrong) = wrong (keeps.named_once d e i j n one other)
no_breach g disk keeps (named_root {d = d} {i = i} link) = keeps.root_free d i link
