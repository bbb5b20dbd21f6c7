-- The space of a volume of which one file comes, changes or goes.
use Rattle.std.proofs.Common.{◌≡◌, ◌≢◌, ◌⊎◌, ℕ, Bool, true, false, ◌==◌, cond, [], ◌∷◌, ◌++◌, ◌/◌, Option, Some, None, refl, sym, ap, ◌∙◌, subst, inl, inr, ⊎_elim, eqb-true, eq-eqb}
use mathlib.Core.Path.{fun_ext}
use Rattle.std.proofs.lemmas.Bool.{cond-true, cond-false, cases_Bool, both_ways, false≢true, false_from_ne_true, eqb-false, cases_eq}
use Rattle.std.proofs.lemmas.Option.{same_Some}
use Rattle.std.specs.Prelude.{if◌then◌else◌}
use Rattle.std.specs.List.{list_any}
use Rattle.rbf_model.specs.Geometry.{LieWithin, Geometry}
use Rattle.rbf_model.specs.Segments.{AreDistinct, sectors_of}
use Rattle.rbf_model.specs.File.{DiskFile}
use Rattle.rbf_model.specs.Space.{is_whole, system_sectors, owned, has_cluster, Unused, IsLost, IsMapped}
use Rattle.rbf_model.specs.Volume.{in_file}
use Rattle.rbf_model.specs.Writes.{put_file, lost_after}
use Rattle.rbf_model.proofs.Free.{in_file_at, not_in_file}

-- the file in the place that was changed, and those beside it
pub put_file_here : (files : ℕ → Option DiskFile) (n : ℕ) (file : Option DiskFile) → put_file files n file n ≡ file
put_file_here files n file = cond-true (n == n) file (files n) (eq-eqb n n refl)

pub put_file_beside : (files : ℕ → Option DiskFile) (n : ℕ) (file : Option DiskFile) (m : ℕ) → m ≢ n → put_file files n file m ≡ files m
put_file_beside files n file m differ = cond-false (m == n) file (files m) (false_from_ne_true (m == n) (λ h. differ (eqb-true m n h)))

-- a file is the one that was put, or one of the others
pub put_file_cases : (files : ℕ → Option DiskFile) (n : ℕ) (file : Option DiskFile) (m : ℕ) (one : DiskFile) → put_file files n file m ≡ Some one
    → ((m ≡ n) × (file ≡ Some one)) ⊎ ((m ≢ n) × (files m ≡ Some one))
put_file_cases files n file m one h =
    ⊎_elim
    (λ same. inl (eqb-true m n same, sym (cond-true (m == n) file (files m) same) ∙ h))
    (λ differ. inr (eqb-false m n differ, sym (cond-false (m == n) file (files m) differ) ∙ h))
    (cases_Bool (m == n))

-- a cluster of a file that is there
pub in_file_some : (g : Geometry) (n : ℕ) (o : Option DiskFile) (c : ℕ) → in_file g n o c ≡ true → (file : DiskFile) × (o ≡ Some file) × (has_cluster g n file c ≡ true)
in_file_some g n None c h = absurd (false≢true h)
in_file_some g n (Some file) c h = (file, refl, h)

module _ (g : Geometry) (marked : ℕ → Bool) (files : ℕ → Option DiskFile) (lost : ℕ → Bool) (mapped : IsMapped g marked files lost) (n : ℕ) (new : Option DiskFile)
    (within : (file : DiskFile) → new ≡ Some file → LieWithin g file.segments) (distinct : (file : DiskFile) → new ≡ Some file → AreDistinct (owned g n file))
    (taken : (c : ℕ) → in_file g n new c ≡ true → (lost c ≡ true) ⊎ (in_file g n (files n) c ≡ true)) where
  -- no other file has a cluster of the new one
  apart_new : (m : ℕ) (other : DiskFile) (c : ℕ) → m ≢ n → files m ≡ Some other → has_cluster g m other c ≡ true → in_file g n new c ≡ true → ⊥
  apart_new m other c differ is used here =
      ⊎_elim
      (λ free. both_ways _ (((mapped.lost_are c).0 free).unused m other is) used)
      (λ old. let w = in_file_some g n (files n) c old in differ (mapped.apart m n other w.0 c is w.1 used w.2))
      (taken c here)

  marks_new : (c : ℕ) → in_file g n new c ≡ true → marked c ≡ true
  marks_new c here =
      ⊎_elim
      (λ free. ((mapped.lost_are c).0 free).marked_in)
      (λ old. let w = in_file_some g n (files n) c old in mapped.marks n w.0 c w.1 w.2)
      (taken c here)

  lost_from : (c : ℕ) → lost_after g files lost n new c ≡ true → IsLost g marked (put_file files n new) c
  lost_from c h =
      ⊎_elim
      (λ used. absurd (false≢true (sym (cond-true (in_file g n new c) _ _ used) ∙ h)))
      (λ unused. by_old unused (sym (cond-false (in_file g n new c) false (cond (in_file g n (files n) c) (is_whole g c) (lost c)) unused) ∙ h))
      (cases_Bool (in_file g n new c))
    where
      unused_in : (old : (m : ℕ) (other : DiskFile) → m ≢ n → files m ≡ Some other → has_cluster g m other c ≡ false) → in_file g n new c ≡ false → Unused g (put_file files n new) c
      unused_in old none m file is =
          ⊎_elim
          (λ here. subst (λ k. has_cluster g k file c ≡ false) (sym here.0) (sym (in_file_at g n new file c here.1) ∙ none))
          (λ there. old m file there.0 there.1)
          (put_file_cases files n new m file is)

      by_old : in_file g n new c ≡ false → cond (in_file g n (files n) c) (is_whole g c) (lost c) ≡ true → IsLost g marked (put_file files n new) c
      by_old none k =
          ⊎_elim
          (λ given.
          let w = in_file_some g n (files n) c given in
          record {
            whole = sym (cond-true (in_file g n (files n) c) (is_whole g c) (lost c) given) ∙ k;
            marked_in = mapped.marks n w.0 c w.1 w.2;
            unused = unused_in
                (λ m other differ is. false_from_ne_true (has_cluster g m other c) (λ used. differ (mapped.apart m n other w.0 c is w.1 used w.2))) none;
          })
          (λ kept.
          let was = (mapped.lost_are c).0 (sym (cond-false (in_file g n (files n) c) (is_whole g c) (lost c) kept) ∙ k) in
          record { whole = was.whole; marked_in = was.marked_in; unused = unused_in (λ m other differ is. was.unused m other is) none })
          (cases_Bool (in_file g n (files n) c))

  lost_to : (c : ℕ) → IsLost g marked (put_file files n new) c → lost_after g files lost n new c ≡ true
  lost_to c is =
      cond-false (in_file g n new c) false (cond (in_file g n (files n) c) (is_whole g c) (lost c)) none
      ∙ ⊎_elim
      (λ given. cond-true (in_file g n (files n) c) (is_whole g c) (lost c) given ∙ is.whole)
      (λ kept. cond-false (in_file g n (files n) c) (is_whole g c) (lost c) kept ∙ (mapped.lost_are c).1 (record { whole = is.whole; marked_in = is.marked_in; unused = unused_before kept }))
      (cases_Bool (in_file g n (files n) c))
    where
      none : in_file g n new c ≡ false
      none = not_in_file g n new c (λ file h. is.unused n file (put_file_here files n new ∙ h))

      unused_before : in_file g n (files n) c ≡ false → Unused g files c
      unused_before kept m file h =
          ⊎_elim
          (λ same. subst (λ k. has_cluster g k file c ≡ false) (sym same) (sym (in_file_at g n (files n) file c (ap files (sym same) ∙ h)) ∙ kept))
          (λ differ. is.unused m file (put_file_beside files n new m differ ∙ h))
          (cases_eq m n)

  -- the space of the files with the new one
  pub mapped_after : IsMapped g marked (put_file files n new) (lost_after g files lost n new)
  mapped_after = record {
    within = λ m file is.
        ⊎_elim (λ here. within file here.1) (λ there. mapped.within m file there.1) (put_file_cases files n new m file is);
    marks = λ m file c is used.
        ⊎_elim
        (λ here. marks_new c (in_file_at g n new file c here.1 ∙ subst (λ k. has_cluster g k file c ≡ true) here.0 used))
        (λ there. mapped.marks m file c there.1 used)
        (put_file_cases files n new m file is);
    once = λ m file is.
        ⊎_elim (λ here. subst (λ k. AreDistinct (owned g k file)) (sym here.0) (distinct file here.1)) (λ there. mapped.once m file there.1)
        (put_file_cases files n new m file is);
    apart = λ m k one other c is at used taken_too.
        ⊎_elim
        (λ here. ⊎_elim
        (λ here2. here.0 ∙ sym here2.0)
        (λ there2. absurd (apart_new k other c there2.0 there2.1 taken_too (in_file_at g n new one c here.1 ∙ subst (λ x. has_cluster g x one c ≡ true) here.0 used)))
        (put_file_cases files n new k other at))
        (λ there. ⊎_elim
        (λ here2. absurd (apart_new m one c there.0 there.1 used (in_file_at g n new other c here2.1 ∙ subst (λ x. has_cluster g x other c ≡ true) here2.0 taken_too)))
        (λ there2. mapped.apart m k one other c there.1 there2.1 used taken_too)
        (put_file_cases files n new k other at))
        (put_file_cases files n new m one is);
    lost_are = λ c. (lost_from c, lost_to c);
  }

-- a file's sectors and clusters are those of its segments
pub owned_is : (g : Geometry) (n : ℕ) (one other : DiskFile) → one.segments ≡ other.segments → owned g n one ≡ owned g n other
unfolding owned
owned_is g n one other same = ap (λ segments. (if n == g.root then system_sectors g else []) ++ n ∷ sectors_of segments) same

pub has_cluster_is : (g : Geometry) (n : ℕ) (one other : DiskFile) (c : ℕ) → one.segments ≡ other.segments → has_cluster g n one c ≡ has_cluster g n other c
unfolding has_cluster
has_cluster_is g n one other c same = ap (list_any (λ t. t / g.cluster == c)) (owned_is g n one other same)

-- a file that keeps its segments keeps its space
pub mapped_same : (g : Geometry) (marked : ℕ → Bool) (files : ℕ → Option DiskFile) (lost : ℕ → Bool) → IsMapped g marked files lost → (n : ℕ) (old new : DiskFile)
    → files n ≡ Some old → new.segments ≡ old.segments → IsMapped g marked (put_file files n (Some new)) lost
mapped_same g marked files lost mapped n old new is same =
    subst (λ l. IsMapped g marked (put_file files n (Some new)) l) (fun_ext stays)
    (mapped_after g marked files lost mapped n (Some new)
    (λ file h. subst (λ f. LieWithin g f.segments) (same_Some new file h) (subst (LieWithin g) (sym same) (mapped.within n old is)))
    (λ file h. subst (λ f. AreDistinct (owned g n f)) (same_Some new file h) (subst AreDistinct (sym (owned_is g n new old same)) (mapped.once n old is)))
    (λ c h. inr (in_file_at g n (files n) old c is ∙ sym (has_cluster_is g n new old c same) ∙ h)))
  where
    stays : (c : ℕ) → lost_after g files lost n (Some new) c ≡ lost c
    stays c =
        ⊎_elim
        (λ used. cond-true (has_cluster g n new c) _ _ used
        ∙ sym (false_from_ne_true (lost c) (λ l. both_ways _ (((mapped.lost_are c).0 l).unused n old is) (sym (has_cluster_is g n new old c same) ∙ used))))
        (λ unused. cond-false (has_cluster g n new c) false (cond (in_file g n (files n) c) (is_whole g c) (lost c)) unused
        ∙ cond-false (in_file g n (files n) c) (is_whole g c) (lost c) (in_file_at g n (files n) old c is ∙ sym (has_cluster_is g n new old c same) ∙ unused))
        (cases_Bool (has_cluster g n new c))
