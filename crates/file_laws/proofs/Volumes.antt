-- What each change leaves of the files of a volume, where it is done and where a fault of the drive has ended it: they
-- are there still, each a directory or none as it was, but for one that is deleted.
use Rattle.std.proofs.Common.{◌≡◌, ◌≢◌, ℕ, ◌+◌, ◌*◌, ◌/◌, ◌%◌, ◌<◌, ◌≤◌, ◌==◌, not, Bool, true, false, if◌then◌else◌, Option, Some, None, List, refl, sym, ap, ◌∙◌, subst, inl, inr, ◌⊎◌, arith}
use Rattle.std.specs.List.{range_with_len}
use Rattle.std.proofs.Math.Nat.{mul-div_cancel}
use Rattle.std.specs.Int.{bit_at}
use Rattle.std.proofs.lemmas.Bool.{both_ways, cases_eq, eq-eqb, eqb-true, leb-true, not-true, or_left}
use Rattle.std.proofs.lemmas.Option.{same_Some}
use Rattle.os9_base.specs.declared.registers.TimePacket.{TimePacket}
use Rattle.rbf_model.specs.File.{DiskFile, is_directory}
use Rattle.rbf_model.specs.Geometry.{Geometry}
use Rattle.rbf_model.specs.Segments.{has, sectors_of}
use Rattle.rbf_model.specs.Space.{has_cluster, is_whole}
use Rattle.rbf_model.specs.Volume.{DiskVolume, in_file, is_free}
use Rattle.rbf_model.proofs.Free.{in_file_at}
use Rattle.rbf_model.proofs.Lists.{all_at, three_parts}
use Rattle.rbf_model.proofs.Owners.{owns_own}
use Rattle.rbf_model.proofs.Segments.{has_range}
use Rattle.rbf_model.proofs.Space.{cluster_from_owns}
use Rattle.rbf_change.specs.Calls.{shape, cluster_size, is_free_in, replaced, changed_attributes, Changes, SizesFile, stays, lengthens, cuts}
use Rattle.rbf_change.specs.Faults.{MayLose, WriteEnds, SizeEnds, NewFileEnds, DeletionEnds, before, longer, cut, taken, gone}
use Rattle.rbf_change.specs.NewFiles.{Plan, IsNewFile, EntersNewFile, Deletes}
use Rattle.file_laws.proofs.Kept.{IsStill, Still, AllStill}

-- ---- one file is another

-- the other files are there
pub other-still : (v : DiskVolume) (n : ℕ) (file : Option DiskFile) (m : ℕ) → m ≢ n → Still v (replaced v n file) m
other-still v n file m apart was is = by_number (m == n) refl
  where
    by_number : (same : Bool) → (m == n) ≡ same → IsStill (replaced v n file) m was
    by_number true same = absurd (apart (eqb-true m n same))
    by_number false same = record {
      file = was;
      there = ap (λ (b : Bool). if b then file else v.files m) same ∙ is;
      kind = refl;
    }

-- and so is the one that is another, which is of the same kind
pub replaced-still : (v : DiskVolume) (n : ℕ) (old new : DiskFile) → v.files n ≡ Some old → is_directory new ≡ is_directory old → AllStill v (replaced v n (Some new))
replaced-still v n old new there kind = record { ident = refl; files = λ m was is. by_number m was is (m == n) refl }
  where
    by_number : (m : ℕ) (was : DiskFile) → v.files m ≡ Some was → (same : Bool) → (m == n) ≡ same → IsStill (replaced v n (Some new)) m was
    by_number m was is true same =
        let old_is : old ≡ was = same_Some old was (sym there ∙ sym (ap v.files (eqb-true m n same)) ∙ is) in record {
          file = new;
          there = ap (λ (b : Bool). if b then Some new else v.files m) same;
          kind = kind ∙ ap (λ (file : DiskFile). is_directory file) old_is;
        }
    by_number m was is false same = record {
      file = was;
      there = ap (λ (b : Bool). if b then Some new else v.files m) same ∙ is;
      kind = refl;
    }

pub still-then : (u v w : DiskVolume) (n : ℕ) → Still u v n → Still v w n → Still u w n
still-then u v w n first second was is =
    let one = first was is in
    let two = second one.file one.there in
    record { file = two.file; there = two.there; kind = two.kind ∙ one.kind }

pub all-then : (u v w : DiskVolume) → AllStill u v → AllStill v w → AllStill u w
all-then u v w first second = record {
  ident = second.ident ∙ first.ident;
  files = λ n. still-then u v w n (first.files n) (second.files n);
}

pub all-same : (v w : DiskVolume) → w ≡ v → AllStill v w
all-same v w same = record {
  ident = ap (λ (u : DiskVolume). u.ident) same;
  files = λ n was is. record { file = was; there = ap (λ (u : DiskVolume). u.files n) same ∙ is; kind = refl };
}

-- no cluster is a file
pub lose-still : (v w : DiskVolume) (clusters : ℕ → Bool) → MayLose v w clusters → AllStill v w
lose-still v w clusters lose = record {
  ident = ap (λ (u : DiskVolume). u.ident) lose.same;
  files = λ n was is. record { file = was; there = ap (λ (u : DiskVolume). u.files n) lose.same ∙ is; kind = refl };
}

-- ---- changes of one file

pub changes-still : (change : DiskFile → DiskFile → Type 0) → ((old new : DiskFile) → change old new
    → is_directory new ≡ is_directory old) → (v w : DiskVolume) (n : ℕ) → Changes change v w n → AllStill v w
changes-still change kind v w n it =
    subst (AllStill v) (sym it.volume) (replaced-still v n it.old it.new it.is (kind it.old it.new it.changed))

pub size-kind : (k : ℕ) (free : ℕ → Bool) (n size : ℕ) (now : TimePacket) (old new : DiskFile) → SizesFile k free n size now old new → is_directory new ≡ is_directory old
size-kind k free n size now old _ (stays same) = refl
size-kind k free n size now old new (lengthens less it) = ap (λ (file : DiskFile). is_directory file) it.file
size-kind k free n size now old _ (cuts more) = refl

pub attributes-kind : (old attributes : ℕ) → (bit_at (changed_attributes old attributes) 7 == 1) ≡ (bit_at old 7 == 1)
attributes-kind old attributes =
    let high : (128 * (old / 128) + attributes % 128) / 128 ≡ old / 128 = omega arith in
    ap (λ (q : ℕ). q % 2 == 1) high

pub write-still : (v w : DiskVolume) (n at : ℕ) (bytes : List ℕ) → WriteEnds v w n at bytes → AllStill v w
write-still v w n at bytes it = all-then v _ w (replaced-still v n it.old _ it.is refl) (lose-still _ w (has it.taken) it.volume)

pub size-still : (image : List ℕ) (v w : DiskVolume) (n size : ℕ) (now : TimePacket) → SizeEnds image v w n size now → AllStill v w
size-still image v w n size now (before same) = all-same v w same
size-still image v w n size now (longer it) = lose-still v w (has it.taken) it.volume
size-still image v w n size now (cut it) =
    all-then v (replaced v n (Some it.new)) w (replaced-still v n it.old it.new it.is (ap (λ (file : DiskFile). is_directory file) it.cut)) (lose-still (replaced v n (Some it.new)) w _ it.volume)

-- ---- new files

-- a free cluster is no file's
pub unused : (g : Geometry) (v : DiskVolume) (c n : ℕ) (file : DiskFile) → is_free g v c ≡ true → n < g.total → v.files n ≡ Some file → has_cluster g n file c ≡ false
unfolding is_free
unused g v c n file free below is =
    let parts = three_parts (is_whole g c) (not (v.lost c)) _ free in
    let all = all_at (λ m. not (in_file g m (v.files m) c)) (range_with_len 0 g.total) n parts.2 (has_range 0 g.total n (omega arith) (omega arith)) in
    sym (in_file_at g n (v.files n) file c is) ∙ not-true (in_file g n (v.files n) c) all

pub free-whole : (g : Geometry) (v : DiskVolume) (c : ℕ) → is_free g v c ≡ true → is_whole g c ≡ true
unfolding is_free
free-whole g v c free = (three_parts (is_whole g c) (not (v.lost c)) _ free).0

-- a file has the cluster of its descriptor
own-cluster : (g : Geometry) (n : ℕ) (file : DiskFile) → has_cluster g n file (n / g.cluster) ≡ true
own-cluster g n file =
    cluster_from_owns g n file n (owns_own g n file n (or_left (n == n) (has (sectors_of file.segments) n) (eq-eqb n n refl)))

-- so a new file takes the number of none
pub fresh : (v : DiskVolume) (n : ℕ) (plan : Plan) (file : DiskFile) → 0 < cluster_size v → IsNewFile (cluster_size v) (is_free_in v) n plan file → (old : DiskFile) → v.files n ≡ Some old → ⊥
fresh v n plan file some new old is =
    let end : (new.cluster + 1) * cluster_size v ≤ (shape v).total = leb-true ((new.cluster + 1) * cluster_size v) (shape v).total (free-whole (shape v) v new.cluster new.taken) in
    let below : n < (shape v).total = below_total new.cluster (cluster_size v) n (shape v).total new.first some end in
    let at : n / cluster_size v ≡ new.cluster = cluster_of new.cluster (cluster_size v) n new.first some in
    both_ways (has_cluster (shape v) n old new.cluster) (unused (shape v) v new.cluster n old new.taken below is)
    (subst (λ (c : ℕ). has_cluster (shape v) n old c ≡ true) at (own-cluster (shape v) n old))
  where
    below_total : (c k n total : ℕ) → n ≡ c * k → 0 < k → (c + 1) * k ≤ total → n < total
    below_total c k n total is some end = omega arith

    cluster_of : (c k n : ℕ) → n ≡ c * k → 0 < k → n / k ≡ c
    cluster_of c k n is some = ap (λ (x : ℕ). x / k) is ∙ mul-div_cancel c some

-- the files of a volume into which a new one was put
pub entered-still : (v w : DiskVolume) (d n : ℕ) (name : List ℕ) (plan : Plan) → 0 < cluster_size v → EntersNewFile v w d n name plan → AllStill v w
entered-still v w d n name plan some it = subst (AllStill v) (sym it.volume) (record { ident = refl; files = λ m. by_number m (cases_eq m n) })
  where
    by_number : (m : ℕ) → (m ≡ n) ⊎ (m ≡ n → ⊥) → Still v (replaced (replaced v d (Some it.both.new)) n (Some it.both.file)) m
    by_number m (inl same) was is = absurd (fresh v n plan it.both.file some it.both.made was (sym (ap v.files same) ∙ is))
    by_number m (inr apart) was is =
        still-then v (replaced v d (Some it.both.new)) (replaced (replaced v d (Some it.both.new)) n (Some it.both.file)) m
        ((replaced-still v d it.both.old it.both.new it.both.is (ap (λ (file : DiskFile). is_directory file) it.both.entry.file)).files m)
        (other-still (replaced v d (Some it.both.new)) n (Some it.both.file) m apart) was is

pub new-file-still : (v w : DiskVolume) (d : ℕ) (name : List ℕ) (plan : ℕ → Plan) → NewFileEnds v w d name plan → AllStill v w
new-file-still v w d name plan (before same) = all-same v w same
new-file-still v w d name plan (taken it) = lose-still v w _ it.volume

-- the new file is there
pub entered-there : (v w : DiskVolume) (d n : ℕ) (name : List ℕ) (plan : Plan) → (it : EntersNewFile v w d n name plan) → w.files n ≡ Some it.both.file
entered-there v w d n name plan it =
    ap (λ (u : DiskVolume). u.files n) it.volume ∙ ap (λ (b : Bool). if b then Some it.both.file else (replaced v d (Some it.both.new)).files n) (eq-eqb n n refl)

-- ---- files that go

-- the files of a volume are all there still but for one
pub record OthersStill (v w : DiskVolume) (n : ℕ) : Type 0 where
  pub ident : w.ident ≡ v.ident
  pub files : (m : ℕ) → m ≢ n → Still v w m

pub deleted-still : (v w : DiskVolume) (d n : ℕ) (name : List ℕ) → Deletes v w d n name → OthersStill v w n
deleted-still v w d n name it =
    subst (λ (w : DiskVolume). OthersStill v w n) (sym it.drops.volume) (record {
      ident = refl;
      files =
          λ m apart. still-then v _ _ m ((replaced-still v d it.drops.old _ it.drops.is refl).files m) (other-still _ n None m apart);
    })

pub deletion-still : (image : List ℕ) (v w : DiskVolume) (d n : ℕ) (name : List ℕ) → DeletionEnds image v w d n name → OthersStill v w n
deletion-still image v w d n name (before same) =
    let all = all-same v w same in record { ident = all.ident; files = λ m apart. all.files m }
deletion-still image v w d n name (gone {u = u} it there lose unfinished) =
    let first = deleted-still v u d n name it in
    let second = lose-still u w _ lose in
    record { ident = second.ident ∙ first.ident; files = λ m apart. still-then v u w m (first.files m apart) (second.files m) }
