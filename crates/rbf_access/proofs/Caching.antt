-- What a cache holds of the media of a drive.
use Rattle.std.proofs.Common.{◌≡◌, ◌≢◌, ℕ, ◌+◌, ◌*◌, ◌/◌, ◌<◌, ◌≤◌, min, Option, Some, None, IsSome, List, [], length, take, false, eq-eqb, refl, ap, sym, subst, ◌∙◌, arith, ⊎_elim, suc, take-take}
use Rattle.os9_outer.specs.Drive.{sector_count, sector_at, with_sector}
use Rattle.rbf_model.specs.Geometry.{sector}
use Rattle.rbf_model.proofs.Bytes.{put_here, put_beside}
use Rattle.std.proofs.lemmas.Bool.{false≢true}
use Rattle.rbf_model.proofs.Lifted.{sector_put}
use Rattle.sector_cache.specs.declared.sector.Sector.{Sector}
use Rattle.sector_cache.specs.Held.{held_bytes, put_first, without}
use Rattle.sector_cache.proofs.Callers.{held_after, held_after_put, held_less, held_first, held_of_first, still_held, first_still}
use Rattle.rbf_access.specs.Cached.{IsCacheOf, IsHeldSector, IsSectorUsed}

-- nothing is held yet
pub none_cached : (media : Option (List ℕ)) (held : List Sector) → held ≡ [] → IsCacheOf media held
none_cached media held none = record { sectors = λ lsn bytes is. let found = rw none at is in cc }

-- another media with the same bytes
pub cached_still : (media now : Option (List ℕ)) (held : List Sector) → now ≡ media → IsCacheOf media held → IsCacheOf now held
cached_still media now held same cached = subst (λ m. IsCacheOf m held) (sym same) cached

-- a sector of the media has been put at the front
pub cached_read : (media now : Option (List ℕ)) (held news : List Sector) (n lsn : ℕ) (bytes : List ℕ) → now ≡ media → news ≡ take n (put_first held 0 lsn bytes)
    → bytes ≡ sector_at media lsn → IsCacheOf media held → IsCacheOf now news
cached_read media now held news n lsn bytes same is read cached =
    cached_still media now news same
    (record {
      sectors = λ m found there. ⊎_elim
          (λ here. here.1 ∙ read ∙ ap (sector_at media) (sym here.0))
          (λ before. cached.sectors m found before.1)
          (held_after 0 lsn held bytes n m found (subst (λ h. held_bytes h 0 m ≡ Some found) is there));
    })

-- what is held of a sector that is held
pub bytes_held : (held : Option (List ℕ)) → IsSome held → (bytes : List ℕ) × (held ≡ Some bytes)
bytes_held None is = cc
bytes_held (Some bytes) is = (bytes, refl)

-- a sector that has been used is held
pub held_used : (lsn : ℕ) (held news : List Sector) → IsSectorUsed lsn held news → IsHeldSector news lsn
held_used lsn held news used = held_of_first 0 lsn 1 news used.first

-- what is held of a sector is the media's
pub held_is : (media now : Option (List ℕ)) (held : List Sector) (lsn : ℕ) (bytes : List ℕ) → now ≡ media → IsCacheOf now held → held_bytes held 0 lsn ≡ Some bytes → bytes ≡ sector_at media lsn
held_is media now held lsn bytes same cached is = cached.sectors lsn bytes is ∙ ap (λ m. sector_at m lsn) same

-- a sector has been used
pub cached_used : (media now : Option (List ℕ)) (held news : List Sector) (lsn : ℕ) (bytes : List ℕ) → now ≡ media → news ≡ put_first held 0 lsn bytes
    → held_bytes held 0 lsn ≡ Some bytes → IsCacheOf media held → IsCacheOf now news
cached_used media now held news lsn bytes same is was cached =
    cached_still media now news same
    (record {
      sectors = λ m found there. ⊎_elim
          (λ here. here.1 ∙ cached.sectors lsn bytes was ∙ ap (sector_at media) (sym here.0))
          (λ before. cached.sectors m found before.1)
          (held_after_put 0 lsn held bytes m found (subst (λ h. held_bytes h 0 m ≡ Some found) is there));
    })

here_written : (media : Option (List ℕ)) (lsn : ℕ) (bytes : List ℕ) → length bytes ≡ 256 → lsn < sector_count media → sector_at (with_sector media lsn bytes) lsn ≡ bytes
here_written None lsn bytes whole low = absurd (omega arith)
here_written (Some image) lsn bytes whole low =
    let counted : lsn < min (length image / 256) 4294967295 = low in
    let fits : 256 * (lsn + 1) ≤ length image = omega arith in
    ap (λ d. d lsn) (sector_put image lsn bytes whole fits) ∙ put_here (sector image) lsn bytes

beside_written : (media : Option (List ℕ)) (lsn m : ℕ) (bytes : List ℕ) → length bytes ≡ 256 → lsn < sector_count media → m ≢ lsn → sector_at (with_sector media lsn bytes) m ≡ sector_at media m
beside_written None lsn m bytes whole low differ = absurd (omega arith)
beside_written (Some image) lsn m bytes whole low differ =
    let counted : lsn < min (length image / 256) 4294967295 = low in
    let fits : 256 * (lsn + 1) ≤ length image = omega arith in
    ap (λ d. d m) (sector_put image lsn bytes whole fits) ∙ put_beside (sector image) lsn bytes m differ

-- a sector of the media has been written
pub cached_written : (media now : Option (List ℕ)) (held news : List Sector) (n lsn : ℕ) (bytes : List ℕ) → now ≡ with_sector media lsn bytes → length bytes ≡ 256
    → lsn < sector_count media → news ≡ take n (put_first held 0 lsn bytes) → IsCacheOf media held → IsCacheOf now news
cached_written media now held news n lsn bytes same whole low is cached =
    subst (λ m. IsCacheOf m news) (sym same)
    (record {
      sectors = λ m found there. ⊎_elim
          (λ here. here.1 ∙ sym (ap (sector_at (with_sector media lsn bytes)) here.0 ∙ here_written media lsn bytes whole low))
          (λ before. cached.sectors m found before.1 ∙ sym (beside_written media lsn m bytes whole low (λ e. false≢true (sym before.0 ∙ eq-eqb m lsn e))))
          (held_after 0 lsn held bytes n m found (subst (λ h. held_bytes h 0 m ≡ Some found) is there));
    })

-- a sector is held no more
pub cached_less : (media now : Option (List ℕ)) (held news : List Sector) (lsn : ℕ) → now ≡ media → news ≡ without held 0 lsn → IsCacheOf media held → IsCacheOf now news
cached_less media now held news lsn same is cached =
    cached_still media now news same
    (record { sectors = λ m found there. cached.sectors m found (held_less 0 lsn held m found (subst (λ h. held_bytes h 0 m ≡ Some found) is there)) })

-- the sector that is put at the front is used, and what was held is held still
pub used_put : (lsn : ℕ) (held news : List Sector) (bytes : List ℕ) → news ≡ put_first held 0 lsn bytes → IsSectorUsed lsn held news
used_put lsn held news bytes is =
    subst (IsSectorUsed lsn held) (sym is)
    (record {
      first = subst IsSome (sym (held_first 0 lsn held bytes 0)) refl;
      others = λ n m few there.
          let next : n + 1 ≡ suc n = omega arith in
          subst (λ k. IsHeldSector (take k (put_first held 0 lsn bytes)) m) (sym next) (first_still 0 lsn m n held bytes there);
    })

pub still_put : (lsn : ℕ) (held news : List Sector) (bytes : List ℕ) → news ≡ put_first held 0 lsn bytes → (m : ℕ) → IsHeldSector held m → IsHeldSector news m
still_put lsn held news bytes is m there = subst (λ h. IsHeldSector h m) (sym is) (still_held 0 lsn held bytes m there)

-- the same where only 256 are kept
pub used_kept : (lsn : ℕ) (held news : List Sector) (bytes : List ℕ) → news ≡ take 256 (put_first held 0 lsn bytes) → IsSectorUsed lsn held news
used_kept lsn held news bytes is =
    subst (IsSectorUsed lsn held) (sym is)
    (record {
      first = subst (λ h. IsHeldSector h lsn) (sym (take-take 1 256 (put_first held 0 lsn bytes) (omega arith))) (subst IsSome (sym (held_first 0 lsn held bytes 0)) refl);
      others = λ n m few there.
          let next : n + 1 ≡ suc n = omega arith in
          subst (λ h. IsHeldSector h m) (sym (take-take (n + 1) 256 (put_first held 0 lsn bytes) (omega arith)))
          (subst (λ k. IsHeldSector (take k (put_first held 0 lsn bytes)) m) (sym next) (first_still 0 lsn m n held bytes there));
    })
