-- How long a file may be.
use Rattle.std.proofs.Common.{◌≡◌, ◌≢◌, ◌∙◌, ℕ, suc, ◌+◌, ◌^◌, ◌<◌, ◌≤◌, ◌==◌, eqb, Bool, true, false, Option, Some, List, [], ◌∷◌, ◌++◌, length, get_or, refl, sym, ap, arith, ne_eqb, eq-eqb, eqb-true, length-append, ◌||◌}
use Rattle.std.specs.Prelude.{if◌then◌else◌}
use Rattle.std.specs.List.{AllByRecursion, IsDistinct, list_any}
use Rattle.std.proofs.lemmas.Bool.{or_left, or_right}
use Rattle.std.proofs.lemmas.List.{get_or-append_right}
use Rattle.std.proofs.lemmas.Map.Steps.{length-le_from_distinct_below}
use Rattle.rbf_access.proofs.ReadFile.{room_for}
use Rattle.rbf_access.specs.Mounted.{RepresentsVolume}
use Rattle.rbf_change.specs.Contents.{written}
use Rattle.rbf_model.proofs.Segments.{sectors_within}
use Rattle.rbf_model.specs.File.{DiskFile}
use Rattle.rbf_model.specs.Geometry.{Geometry, image_geometry}
use Rattle.rbf_model.specs.Segments.{AreDistinct, has, sectors_of}
use Rattle.rbf_model.specs.Space.{owned, system_sectors}
use Rattle.rbf_model.specs.Volume.{DiskVolume}
use Rattle.rbf_write.proofs.Contents.{length-laid}

-- ---- numbers that stand once

behind : (front xs : List ℕ) → AreDistinct (front ++ xs) → AreDistinct xs
behind front xs all i j d before within =
    λ same. all (length front + i) (length front + j) d (omega arith) (omega (arith, length-append front xs)) (place i ∙ same ∙ sym (place j))
  where
    place : (k : ℕ) → get_or (front ++ xs) (length front + k) d ≡ get_or xs k d
    place k = get_or-append_right front xs (length front) (length front + k) d refl (omega arith) ∙ ap (λ n. get_or xs n d) (omega arith)

apart : (x : ℕ) (xs : List ℕ) → ((k d : ℕ) → k < length xs → x ≢ get_or xs k d) → AllByRecursion (λ y. eqb x y ≡ false) xs
apart x [] other = tt
apart x (y ∷ xs) other = (ne_eqb x y (other 0 0 (omega arith)), apart x xs (λ k d within. other (suc k) d (omega arith)))

distinct : (xs : List ℕ) → AreDistinct xs → IsDistinct eqb xs
unfolding IsDistinct
distinct [] all = tt
distinct (x ∷ xs) all = (apart x xs (λ k d within. all 0 (suc k) d (omega arith) (omega arith)), distinct xs (behind (x ∷ []) xs all))

turned : (q : ℕ) (xs : List ℕ) → list_any (eqb q) xs ≡ true → has xs q ≡ true
turned q [] h = h
turned q (x ∷ xs) h = by (eqb q x) (turned q xs) refl h
  where
    by : (t : Bool) → (list_any (eqb q) xs ≡ true → has xs q ≡ true) → eqb q x ≡ t → (t || list_any (eqb q) xs) ≡ true → has (x ∷ xs) q ≡ true
    by true later is there = or_left (x == q) (has xs q) (eq-eqb x q (sym (eqb-true q x is)))
    by false later is there = or_right (x == q) (has xs q) (later there)

-- ---- sizes

-- how many sectors a file has at most
few : (g : Geometry) (n : ℕ) (file : DiskFile) → AreDistinct (owned g n file) → ((s : ℕ) → has (sectors_of file.segments) s ≡ true → s < g.total) → length (sectors_of file.segments) ≤ g.total
unfolding owned
few g n file once within =
    let sectors = sectors_of file.segments in
    let own = behind (if n == g.root then system_sectors g else []) (n ∷ sectors) once in
    length-le_from_distinct_below sectors g.total (distinct sectors (behind (n ∷ []) sectors own)) (λ q there. within q (turned q sectors there))

-- no file has more bytes than 32 bits count
pub size-low : (media : Option (List ℕ)) (v : DiskVolume) (n : ℕ) (file : DiskFile) → RepresentsVolume media v → v.files n ≡ Some file → length file.contents < 2 ^ 32
size-low media v n file on is =
    let g = image_geometry on.image in
    let room = room_for media v on n file is in
    let total = few g n file (on.vol.sound.mapped.once n file is) (λ s there. (sectors_within g file.segments (on.vol.sound.mapped.within n file is) s there).1) in
    let most = on.vol.header.header.most in
    omega (arith, room, total, most)

-- bytes that were written end before the end of the file
pub end-within : (contents bytes : List ℕ) (at : ℕ) → 0 < length bytes → at + length bytes ≤ length (written contents at bytes)
end-within contents [] at some = absurd (omega arith)
end-within contents (byte ∷ bytes) at some = omega (arith, length-laid contents (byte ∷ bytes) at)
