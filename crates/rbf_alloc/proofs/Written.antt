-- Marks that are written to the media one after the other.
use Rattle.std.proofs.Common.{◌≡◌, ◌≢◌, ℕ, ◌+◌, ◌*◌, ◌/◌, ◌<◌, ◌≤◌, min, Bool, true, false, not, ◌==◌, ◌&&◌, eq-eqb, Option, None, List, [], ◌∷◌, ◌++◌, set, slice_index_or, refl, sym, ap, ◌∙◌, subst, ⊎_elim, arith, eqb-true, if◌then◌else◌}
use Rattle.std.proofs.lemmas.Bool.{or_cases, and_parts, and_from, not-true, both_ways, cases_Bool, false≢true}
use Rattle.std.proofs.lemmas.List.{set-get_or, get_or-set_other}
use Rattle.std.proofs.lemmas.List.FromFn.{map-range_with_len_more}
use Rattle.rbf_model.specs.Segments.{has}
use Rattle.rbf_model.specs.Volume.{DiskVolume}
use Rattle.rbf_change.specs.Agrees.{MountedPart}
use Rattle.sector_cache.specs.declared.sector.Sector.{Sector}
use Rattle.rbf_access.specs.Cached.{IsCacheOf}
use Rattle.rbf_access.specs.Drive.{DriveCounts, MovesCounts}
use Rattle.rbf_access.proofs.Counting.{no_calls, counts_then, counts_most, counts_within}
use Rattle.rbf_access.proofs.MapMarks.{below_one}
use Rattle.rbf_alloc.specs.Gained.{is_written, cluster_at, clusters_from}
use Rattle.rbf_alloc.specs.Marked.{IsMarkedOn, IsMarking, AllWritten, AreWanted, unwritten}
use Rattle.rbf_alloc.proofs.Clear.{has_more}

-- how many calls write the mark of a cluster
abbrev pub cost : List Bool → ℕ → ℕ
cost written c = if is_written written c then 0 else 1

abbrev is_left : (ℕ → Bool) → List Bool → ℕ → Bool
is_left wanted written p = wanted p && not (slice_index_or written p false)

is_written_left : (wanted : ℕ → Bool) (written : List Bool) (q : ℕ) → slice_index_or written q false ≡ true → is_left wanted written q ≡ false
is_written_left wanted written q there = ap (λ t. wanted q && not t) there ∙ and_none (wanted q)
  where
    and_none : (t : Bool) → (t && false) ≡ false
    and_none true = refl
    and_none false = refl

still_left : (wanted : ℕ → Bool) (written : List Bool) (q : ℕ) → wanted q ≡ true → slice_index_or written q false ≡ false → is_left wanted written q ≡ true
still_left wanted written q is not_there = and_from (wanted q) (not (slice_index_or written q false)) is (ap not not_there)

-- one that is written is left no more
left_after : (wanted : ℕ → Bool) (n : ℕ) (written now_written : List Bool) (c : ℕ) → c / 2048 < n
    → wanted (c / 2048) ≡ true → is_written now_written c ≡ true → now_written ≡ set written (c / 2048) true
    → cost written c + unwritten wanted now_written n ≤ unwritten wanted written n
left_after wanted n written now_written c low is there news = ⊎_elim
    (λ was.
    let q = c / 2048 in
    let same : set written q true ≡ written = ap (λ b. set written q b) (sym was) ∙ set-get_or written q false in
    let free : cost written c ≡ 0 = ap (λ t. if t then 0 else 1) was in
    let equal : unwritten wanted now_written n ≡ unwritten wanted written n = ap (λ w. unwritten wanted w n) (news ∙ same) in
    omega arith)
    (λ fresh.
    let one : cost written c ≡ 1 = ap (λ t. if t then 0 else 1) fresh in
    let fewer =
    below_one (is_left wanted now_written) (is_left wanted written) (c / 2048) n low
    (is_written_left wanted now_written (c / 2048) there) (still_left wanted written (c / 2048) is fresh)
    (kept fresh) in
    omega arith)
    (cases_Bool (is_written written c))
  where
    kept : is_written written c ≡ false → (p : ℕ) → is_left wanted now_written p ≡ true → is_left wanted written p ≡ true
    kept fresh p h =
        let parts = and_parts (wanted p) (not (slice_index_or now_written p false)) h in
        let not_now : slice_index_or now_written p false ≡ false = not-true (slice_index_or now_written p false) parts.1 in
        ⊎_elim
        (λ here. let at : p ≡ c / 2048 = eqb-true p (c / 2048) here in absurd (both_ways (slice_index_or now_written p false) not_now (ap (λ i. slice_index_or now_written i false) at ∙ there)))
        (λ apart.
        let differ : p ≢ c / 2048 = λ at. both_ways (p == c / 2048) apart (eq-eqb p (c / 2048) at) in
        let same : slice_index_or now_written p false ≡ slice_index_or written p false = ap (λ w. slice_index_or w p false) news ∙ get_or-set_other written (c / 2048) p true false differ in
        still_left wanted written p parts.0 (sym same ∙ not_now))
        (cases_Bool (p == c / 2048))

-- what has its mark to be written is left
left_before : (wanted : ℕ → Bool) (n : ℕ) (written : List Bool) (c : ℕ) → c / 2048 < n → wanted (c / 2048) ≡ true → cost written c ≤ unwritten wanted written n
left_before wanted n written c low is = ⊎_elim
    (λ was. let free : cost written c ≡ 0 = ap (λ t. if t then 0 else 1) was in omega arith)
    (λ fresh.
    let one : cost written c ≡ 1 = ap (λ t. if t then 0 else 1) fresh in
    let some = below_one (λ p. false) (is_left wanted written) (c / 2048) n low refl (still_left wanted written (c / 2048) is fresh) (λ p h. absurd (false≢true h)) in
    omega arith)
    (cases_Bool (is_written written c))

cost_most : (written : List Bool) (c : ℕ) → cost written c ≤ 1
cost_most written c = least (is_written written c)
  where
    least : (t : Bool) → (if t then 0 else 1) ≤ 1
    least true = omega arith
    least false = omega arith

-- those of the places before this one have been written
pub record IsMarkedSoFar (k : ℕ) (segments : List (ℕ × ℕ)) (first i : ℕ) (kept kept_now : MountedPart)
    (media now : Option (List ℕ)) (written written_now : List Bool) (held : List Sector) (before after : DriveCounts) : Type
    0 where
  pub on : (v : DiskVolume) (old : List ℕ) → IsMarkedOn v old media kept written → IsMarkedOn v old now kept written_now
  pub all : AllWritten (clusters_from k segments first i) written_now
  pub same : kept_now ≡ kept
  pub cached : IsCacheOf now held
  pub moved : MovesCounts None i before after
  pub left : (wanted : ℕ → Bool) (n : ℕ) → AreWanted k segments first i wanted n → after.calls + unwritten wanted written_now n ≤ before.calls + unwritten wanted written n

pub none_marked : (k : ℕ) (segments : List (ℕ × ℕ)) (first : ℕ) (kept : MountedPart) (media : Option (List ℕ)) (written : List Bool) (held : List Sector) (before : DriveCounts) → IsCacheOf media held
    → IsMarkedSoFar k segments first 0 kept kept media media written written held before before
none_marked k segments first kept media written held before cached = record {
  on = λ v old is. is;
  all = λ c h. absurd (both_ways false refl h);
  same = refl;
  cached = cached;
  moved = no_calls before;
  left = λ wanted n are. omega arith;
}

module _ (k : ℕ) (segments : List (ℕ × ℕ)) (first i : ℕ) (kept mid_kept : MountedPart) (media mid : Option (List ℕ))
    (written mid_written : List Bool) (mid_held : List Sector) (before half : DriveCounts)
    (far : IsMarkedSoFar k segments first i kept mid_kept media mid written mid_written mid_held before half) where
  pub still_marking : IsMarking kept media written → IsMarking mid_kept mid mid_written
  still_marking marking = subst (λ kv. IsMarking kv mid mid_written) (sym far.same) (record { volume = marking.volume; old = marking.old; on = far.on marking.volume marking.old marking.on })

  on_then : (now : Option (List ℕ)) (now_written : List Bool) → ((v : DiskVolume) (old : List ℕ) → IsMarkedOn v old mid mid_kept mid_written → IsMarkedOn v old now mid_kept now_written)
      → (v : DiskVolume) (old : List ℕ) → IsMarkedOn v old media kept written → IsMarkedOn v old now kept now_written
  on_then now now_written next v old on =
      subst (λ kv. IsMarkedOn v old now kv now_written) far.same (next v old (subst (λ kv. IsMarkedOn v old mid kv mid_written) (sym far.same) (far.on v old on)))

  pub on_at_fault : (now : Option (List ℕ)) (now_written : List Bool) → ((v : DiskVolume) (old : List ℕ) → IsMarkedOn v old mid mid_kept mid_written → IsMarkedOn v old now mid_kept now_written)
      → (v : DiskVolume) (old : List ℕ) → IsMarkedOn v old media kept written → IsMarkedOn v old now kept now_written
  on_at_fault = on_then

  pub marked_more : (c : ℕ) (now_kept : MountedPart) (now : Option (List ℕ)) (now_written : List Bool) (held : List Sector) (after : DriveCounts)
      → ((v : DiskVolume) (old : List ℕ) → IsMarkedOn v old mid mid_kept mid_written → IsMarkedOn v old now mid_kept now_written)
      → is_written now_written c ≡ true → now_written ≡ set mid_written (c / 2048) true
      → c ≡ cluster_at k segments (first + i * k) → now_kept ≡ mid_kept → IsCacheOf now held → MovesCounts None (cost mid_written c) half after
      → IsMarkedSoFar k segments first (i + 1) kept now_kept media now written now_written held before after
  marked_more c now_kept now now_written held after next there news is same cached counts = record {
    on = on_then now now_written next;
    all = λ d h.
        let more : clusters_from k segments first (i + 1) ≡ clusters_from k segments first i ++ c ∷ [] =
        map-range_with_len_more (λ j. cluster_at k segments (first + j * k)) 0 i i (omega arith) ∙ ap (λ x. clusters_from k segments first i ++ x ∷ []) (sym is) in
        ⊎_elim
        (λ was. still d (far.all d was))
        (λ here. subst (λ e. is_written now_written e ≡ true) (eqb-true c d here) there)
        (or_cases (has (clusters_from k segments first i) d) (c == d) (sym (ap (λ xs. has xs d) more ∙ has_more (clusters_from k segments first i) c d) ∙ h));
    same = same ∙ far.same;
    cached = cached;
    moved =
        counts_most None (i + cost mid_written c) (i + 1) before after
        (let most = cost_most mid_written c in omega arith)
        (counts_then None i (cost mid_written c) before half after far.moved counts);
    left = λ wanted n are.
        let his = are i (omega arith) in
        let earlier = far.left wanted n (λ j low. are j (omega arith)) in
        let calls = counts.calls_made in
        let here : c / 2048 < n = subst (λ d. d / 2048 < n) (sym is) his.0 in
        let fewer = left_after wanted n mid_written now_written c here (subst (λ d. wanted (d / 2048) ≡ true) (sym is) his.1) there news in
        omega arith;
  }
    where
      still : (d : ℕ) → is_written mid_written d ≡ true → is_written now_written d ≡ true
      still d was = ⊎_elim
          (λ at. subst (λ q. slice_index_or now_written q false ≡ true) (sym (eqb-true (d / 2048) (c / 2048) at)) there)
          (λ apart.
          let differ : d / 2048 ≢ c / 2048 = λ at. both_ways (d / 2048 == c / 2048) apart (eq-eqb (d / 2048) (c / 2048) at) in
          ap (λ w. slice_index_or w (d / 2048) false) news ∙ get_or-set_other mid_written (c / 2048) (d / 2048) true false differ ∙ was)
          (cases_Bool (d / 2048 == c / 2048))

  -- a fault comes at the next one
  pub calls_at_fault : (f : Option ℕ) (c count : ℕ) (after : DriveCounts) → i < count → c ≡ cluster_at k segments (first + i * k) → MovesCounts f (cost mid_written c) half after
      → (wanted : ℕ → Bool) (n : ℕ) → AreWanted k segments first count wanted n → MovesCounts f (min count (unwritten wanted written n)) before after
  calls_at_fault f c count after low is counts wanted n are =
      let his = are i low in
      let earlier = far.left wanted n (λ j under. are j (omega arith)) in
      let here : c / 2048 < n = subst (λ d. d / 2048 < n) (sym is) his.0 in
      let some = left_before wanted n mid_written c here (subst (λ d. wanted (d / 2048) ≡ true) (sym is) his.1) in
      let most = cost_most mid_written c in
      let all = counts_then f i (cost mid_written c) before half after far.moved counts in
      let calls = counts.calls_made in
      let made = far.moved.calls_made in
      counts_within f (i + cost mid_written c) (min count (unwritten wanted written n)) before after (omega arith) all

  -- all have been written
  pub calls_of_all : (count : ℕ) → i ≡ count → (wanted : ℕ → Bool) (n : ℕ) → AreWanted k segments first count wanted n → MovesCounts None (min count (unwritten wanted written n)) before half
  calls_of_all count end wanted n are =
      let made = far.moved.calls_made in
      let all = far.left wanted n (λ j under. are j (omega arith)) in
      counts_within None i (min count (unwritten wanted written n)) before half (omega arith) far.moved
