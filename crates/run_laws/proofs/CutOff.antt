-- A disk that is cut off.
use Rattle.std.proofs.Common.{◌≡◌, ℕ, zero, suc, ◌==◌, ◌||◌, Bool, true, false, List, [], ◌∷◌, ◌++◌, length, take, Some, None, Option, refl, sym, ap, ◌∙◌}
use Rattle.std.proofs.lemmas.Bool.{false≢true}
use Rattle.rbf_model.specs.File.{DiskFile}
use Rattle.rbf_model.specs.Volume.{DiskVolume, Vol}
use Rattle.rbf_model.specs.Geometry.{sector}
use Rattle.rbf_model.specs.Writes.{put_sector, put_file}
use Rattle.rbf_change.specs.Lawful.{IsLawful, takes, frees, unseen, overwrites, redescribes, enters, appends, leaves}
use Rattle.rbf_change.proofs.LawfulWrites.{lawful_step}
use Rattle.run_laws.specs.Stops.{DiskWrite, after_writes, changes_file, AreLawfulWrites, none, next, changes_in, IsCutOff}

neither_left : (a b : Bool) → (a || b) ≡ false → a ≡ false
neither_left true b is = absurd (false≢true (sym is))
neither_left false b is = refl

neither_right : (a b : Bool) → (a || b) ≡ false → b ≡ false
neither_right true b is = absurd (false≢true (sym is))
neither_right false b is = is

put_beside : (files : ℕ → Option DiskFile) (n m : ℕ) (file : Option DiskFile) → (m == n) ≡ false → put_file files n file m ≡ files m
put_beside files n m file ne = rw ne refl

-- a lawful write leaves each file that it does not change
pub left_alone : (disk : ℕ → List ℕ) (v : DiskVolume) (s : ℕ) (bytes : List ℕ) (w : DiskVolume) (law : IsLawful disk v s bytes w) (m : ℕ) → changes_file law m ≡ false → w.files m ≡ v.files m
left_alone disk v s bytes _ (takes law) m not = refl
left_alone disk v s bytes _ (frees law) m not = refl
left_alone disk v s bytes _ (unseen law) m not = refl
left_alone disk v s bytes _ (overwrites {n = n} law) m not = put_beside v.files n m _ not
left_alone disk v s bytes _ (redescribes law) m not = put_beside v.files s m _ not
left_alone disk v s bytes _ (enters {d = d} {n = n} law) m not =
    put_beside (put_file v.files d _) n m _ (neither_right (m == d) (m == n) not) ∙ put_beside v.files d m _ (neither_left (m == d) (m == n) not)
left_alone disk v s bytes _ (appends {n = n} law) m not =
    put_beside (put_file v.files s _) n m _ (neither_right (m == s) (m == n) not) ∙ put_beside v.files s m _ (neither_left (m == s) (m == n) not)
left_alone disk v s bytes _ (leaves {d = d} {n = n} law) m not =
    put_beside (put_file v.files d _) n m _ (neither_right (m == d) (m == n) not) ∙ put_beside v.files d m _ (neither_left (m == d) (m == n) not)

pub cut_off : (image : List ℕ) (v w : DiskVolume) (writes : List DiskWrite) → Vol image v → (lawful : AreLawfulWrites image v writes w) (k : ℕ) → IsCutOff image v writes (changes_in lawful) k
cut_off image v w writes vol lawful zero = record { volume = v; represents = vol; others = λ m not. refl }
cut_off image v _ [] vol none (suc k) = record { volume = v; represents = vol; others = λ m not. refl }
cut_off image v w (write ∷ writes) vol (next {u = u} whole law later) (suc k) =
    let now = lawful_step image v write.lsn write.bytes u vol whole law in
    let rest = cut_off (put_sector image write.lsn write.bytes) u w writes now later k in
    record {
      volume = rest.volume;
      represents = rest.represents;
      others = λ m not.
          rest.others m (neither_right (changes_file law m) (changes_in later m) not)
          ∙ left_alone (sector image) v write.lsn write.bytes u law m (neither_left (changes_file law m) (changes_in later m) not);
    }

pub all_written : (image : List ℕ) (v w : DiskVolume) (writes : List DiskWrite) → Vol image v → AreLawfulWrites image v writes w → Vol (after_writes image writes) w
all_written image v _ [] vol none = vol
all_written image v w (write ∷ writes) vol (next {u = u} whole law later) =
    all_written (put_sector image write.lsn write.bytes) u w writes (lawful_step image v write.lsn write.bytes u vol whole law) later

pub one_after_another : (image : List ℕ) (v u w : DiskVolume) (first second : List DiskWrite) → AreLawfulWrites image v first u
    → AreLawfulWrites (after_writes image first) u second w → AreLawfulWrites image v (first ++ second) w
one_after_another image v _ w [] second none later = later
one_after_another image v u w (write ∷ writes) second (next {u = mid} whole law earlier) later =
    next whole law (one_after_another (put_sector image write.lsn write.bytes) mid u w writes second earlier later)
