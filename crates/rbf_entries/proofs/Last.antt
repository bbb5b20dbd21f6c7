-- A new file whose entry goes behind the last one of its directory, whatever is planned.
use Rattle.std.proofs.Common.{◌≡◌, ◌≢◌, ◌==◌, ◌&&◌, ◌||◌, ℕ, zero, suc, ◌+◌, ◌*◌, ◌/◌, ◌<◌, ◌≤◌, Bool, true, false, not, cond, Option, Some, None, List, [], ◌∷◌, length, refl, sym, ap, ◌∙◌, subst, ⊎_elim, eqb-true, eq-eqb, arith}
use Rattle.std.specs.Prelude.{count_by, if◌then◌else◌}
use Rattle.std.specs.List.{range_with_len}
use mathlib.Core.Path.{fun_ext}
use Rattle.std.proofs.lemmas.Bool.{both_ways, or_left, false_from_ne_true, cases_Bool}
use Rattle.std.proofs.lemmas.List.Sums.{sum_by-cons}
use Rattle.std.proofs.lemmas.Option.{none-some}
use Rattle.rbf_model.specs.File.{DiskFile}
use Rattle.rbf_model.specs.Geometry.{Geometry, image_geometry, sector}
use Rattle.rbf_model.specs.Segments.{has, sectors_of}
use Rattle.rbf_model.specs.Space.{has_cluster, is_whole, Unused}
use Rattle.rbf_model.specs.Volume.{DiskVolume, in_file, is_free}
use Rattle.rbf_model.specs.Writes.{put_file, with_file, with_lost}
use Rattle.rbf_model.proofs.Change.{put_file_beside}
use Rattle.rbf_model.proofs.Free.{free_parts}
use Rattle.rbf_model.proofs.Owners.{owns_own}
use Rattle.rbf_model.proofs.Space.{cluster_from_owns}
use Rattle.rbf_change.specs.Calls.{shape, cluster_size, is_free_in, replaced, WritesFile}
use Rattle.rbf_change.specs.Names.{new_entry, entry_place}
use Rattle.rbf_change.specs.NewFiles.{Plan, IsFileEntered, IsNewFile, free_without}
use Rattle.rbf_change.proofs.LawfulWrites.{shape-image}
use Rattle.rbf_access.specs.Mounted.{RepresentsVolume}

-- Numbers of a range that a test passes.

count_one : (p : ℕ → Bool) (x : ℕ) (xs : List ℕ) → count_by p (x ∷ xs) ≡ cond {A = ℕ} (p x) 1 0 + count_by p xs
count_one p x xs = sum_by-cons (λ y. cond {A = ℕ} (p y) 1 0) x xs

-- those that a second test passes too are as many as that one passes
split_bits : (a b : Bool) → cond {A = ℕ} a 1 0 ≤ cond {A = ℕ} (a && not b) 1 0 + cond {A = ℕ} b 1 0
split_bits true true = omega arith
split_bits true false = omega arith
split_bits false true = omega arith
split_bits false false = omega arith

pub split_count : (p q : ℕ → Bool) (xs : List ℕ) → count_by p xs ≤ count_by (λ x. p x && not (q x)) xs + count_by q xs
split_count p q [] = omega arith
split_count p q (x ∷ xs) =
    let one = split_bits (p x) (q x) in
    let rest = split_count p q xs in
    let all = count_one p x xs in
    let both = count_one (λ y. p y && not (q y)) x xs in
    let other = count_one q x xs in
    omega arith

more_bits : (a b : Bool) → (a ≡ true → b ≡ true) → cond {A = ℕ} a 1 0 ≤ cond {A = ℕ} b 1 0
more_bits true b each = subst (λ t. 1 ≤ cond {A = ℕ} t 1 0) (sym (each refl)) (omega arith)
more_bits false b each = omega arith

pub more_count : (p q : ℕ → Bool) → ((x : ℕ) → p x ≡ true → q x ≡ true) → (xs : List ℕ) → count_by p xs ≤ count_by q xs
more_count p q each [] = omega arith
more_count p q each (x ∷ xs) =
    let one = more_bits (p x) (q x) (each x) in
    let rest = more_count p q each xs in
    let all = count_one p x xs in
    let other = count_one q x xs in
    omega arith

either_bits : (a b : Bool) → cond {A = ℕ} (a || b) 1 0 ≤ cond {A = ℕ} a 1 0 + cond {A = ℕ} b 1 0
either_bits true b = omega arith
either_bits false true = omega arith
either_bits false false = omega arith

either_count : (p q : ℕ → Bool) (xs : List ℕ) → count_by (λ x. p x || q x) xs ≤ count_by p xs + count_by q xs
either_count p q [] = omega arith
either_count p q (x ∷ xs) =
    let one = either_bits (p x) (q x) in
    let rest = either_count p q xs in
    let all = count_one p x xs in
    let both = count_one (λ y. p y || q y) x xs in
    let other = count_one q x xs in
    omega arith

none_before : (y a m : ℕ) → y < a → count_by (λ x. y == x) (range_with_len a m) ≡ 0
none_before y a zero low = refl
none_before y a (suc m) low =
    let other : (y == a) ≡ false = false_from_ne_true (y == a) (λ h. let e : y ≡ a = eqb-true y a h in absurd (omega arith)) in
    let here : cond {A = ℕ} (y == a) 1 0 ≡ 0 = ap (λ t. cond {A = ℕ} t 1 0) other in
    let rest = none_before y (a + 1) m (omega arith) in
    let all = count_one (λ x. y == x) a (range_with_len (a + 1) m) in
    omega arith

once : (y a m : ℕ) → count_by (λ x. y == x) (range_with_len a m) ≤ 1
once y a zero = omega arith
once y a (suc m) = ⊎_elim
    (λ same.
    let e : y ≡ a = eqb-true y a same in
    let here : cond {A = ℕ} (y == a) 1 0 ≡ 1 = ap (λ t. cond {A = ℕ} t 1 0) same in
    let rest = none_before y (a + 1) m (omega arith) in
    let all = count_one (λ x. y == x) a (range_with_len (a + 1) m) in
    omega arith)
    (λ other.
    let here : cond {A = ℕ} (y == a) 1 0 ≡ 0 = ap (λ t. cond {A = ℕ} t 1 0) other in
    let rest = once y (a + 1) m in
    let all = count_one (λ x. y == x) a (range_with_len (a + 1) m) in
    omega arith)
    (cases_Bool (y == a))

none_pass : (xs : List ℕ) → count_by (λ x. false) xs ≡ 0
none_pass [] = refl
none_pass (x ∷ xs) = none_pass xs

pub listed_count : (ys : List ℕ) (a m : ℕ) → count_by (has ys) (range_with_len a m) ≤ length ys
listed_count [] a m = let none = none_pass (range_with_len a m) in omega arith
listed_count (y ∷ ys) a m =
    let both = either_count (λ x. y == x) (has ys) (range_with_len a m) in
    let one = once y a m in
    let rest = listed_count ys a m in
    omega arith

-- a new file that is on the media: its clusters are lost
module _ (media : Option (List ℕ)) (v : DiskVolume) (on : RepresentsVolume media v) (n : ℕ) (plan : Plan) (file : DiskFile) (new : IsNewFile (cluster_size v) (is_free_in v) n plan file)
    (fresh : (c : ℕ) → has_cluster (shape v) n file c ≡ true → is_free_in v c ≡ true) where
  abbrev left : DiskVolume
  left = with_lost v (λ c. v.lost c || has_cluster (shape v) n file c)

  pub free_left : (c : ℕ) → is_free_in left c ≡ free_without (shape v) (is_free_in v) n file c
  unfolding is_free
  free_left c = pick (is_whole (shape v) c) (v.lost c) _ (has_cluster (shape v) n file c)
    where
      pick : (w l a h : Bool) → (w && not (l || h) && a) ≡ ((w && not l && a) && not h)
      pick false l a h = refl
      pick true true a h = refl
      pick true false true true = refl
      pick true false true false = refl
      pick true false false true = refl
      pick true false false false = refl

  abbrev g : Geometry
  g = image_geometry on.image

  volume_shape : shape v ≡ g
  volume_shape = shape-image on.image v on.vol

  free_facts : (c : ℕ) → is_free_in v c ≡ true → (v.lost c ≡ false) × Unused (shape v) v.files c
  free_facts c h =
      let parts = free_parts g (sector on.image) v on.vol.sound c (subst (λ x. is_free x v c ≡ true) volume_shape h) in
      (parts.1, subst (λ x. Unused x v.files c) (sym volume_shape) parts.2)

  own_free : is_free_in v (n / cluster_size v) ≡ true
  own_free = fresh (n / cluster_size v) (cluster_from_owns (shape v) n file n (owns_own (shape v) n file n (or_left (n == n) (has (sectors_of file.segments) n) (eq-eqb n n refl))))

  none_from : (o : Option DiskFile) → ((f : DiskFile) → o ≡ Some f → ⊥) → o ≡ None
  none_from None h = refl
  none_from (Some f) h = absurd (h f refl)

  no_file : v.files n ≡ None
  no_file = none_from (v.files n) (λ f is.
      both_ways (has_cluster (shape v) n f (n / cluster_size v)) ((free_facts (n / cluster_size v) own_free).1 n f is)
      (cluster_from_owns (shape v) n f n (owns_own (shape v) n f n (or_left (n == n) (has (sectors_of f.segments) n) (eq-eqb n n refl)))))

  module _ (d : ℕ) (dir : DiskFile) (dir_is : v.files d ≡ Some dir) where
    pub apart : n ≢ d
    apart same = none-some dir (sym no_file ∙ ap v.files same ∙ dir_is)

    -- with the directory that names it the file is in the volume, and its clusters are lost no more
    pub joined : (new_dir : DiskFile) → with_file (shape v) (replaced left d (Some new_dir)) n (Some file) ≡ replaced (replaced v d (Some new_dir)) n (Some file)
    joined new_dir = ap (λ lost. record { ident = v.ident; files = put_file (put_file v.files d (Some new_dir)) n (Some file); lost = lost; rest = v.rest }) (fun_ext lost_same)
      where
        pick : (h t whole_one l : Bool) → t ≡ false → (h ≡ true → l ≡ false) → (if h then false else (if t then whole_one else (l || h))) ≡ l
        pick true t whole_one l e none = sym (none refl)
        pick false true whole_one l e none = absurd (cc e)
        pick false false whole_one true e none = refl
        pick false false whole_one false e none = refl

        lost_same : (c : ℕ) → (with_file (shape v) (replaced left d (Some new_dir)) n (Some file)).lost c ≡ v.lost c
        lost_same c = pick (has_cluster (shape v) n file c) (in_file (shape v) n (put_file v.files d (Some new_dir) n) c) (is_whole (shape v) c) (v.lost c)
            (ap (λ o. in_file (shape v) n o c) (put_file_beside v.files d (Some new_dir) n apart ∙ no_file))
            (λ h. (free_facts c (fresh c h)).0)

    -- what the directory gains, it may gain in the volume that was before
    abbrev pub entered : (name : List ℕ) (new_dir : DiskFile)
        → WritesFile (cluster_size v) (is_free_in left) (32 * entry_place dir.contents) (new_entry name n) plan.made dir new_dir
        → IsFileEntered v d n name plan
    entered name new_dir wrote = record {
      old = dir;
      new = new_dir;
      file = file;
      is = dir_is;
      made = new;
      entry = subst (λ f. WritesFile (cluster_size v) f (32 * entry_place dir.contents) (new_entry name n) plan.made dir new_dir) (fun_ext free_left) wrote;
    }
