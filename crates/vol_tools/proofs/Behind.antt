-- Zeros behind the entries of the root.
use Rattle.std.proofs.Common.{◌≡◌, ℕ, ◌+◌, ◌-◌, ◌<◌, ◌≤◌, List, ◌++◌, length, get_or, replicate, sym, ap, ◌∙◌, arith, ⊎_elim, length-append}
use Rattle.std.proofs.lemmas.Bool.{cases_lt}
use Rattle.std.proofs.lemmas.List.{get_or_append_left, get_or-append-add, length-replicate}
use Rattle.rbf_change.specs.Contents.{extended}
use Rattle.vol_tools.proofs.Descriptor.{zeros_read}

-- what is behind a list is read from its length on
read_behind : (front rest : List ℕ) (n i : ℕ) → length front ≡ n → n ≤ i → get_or (front ++ rest) i 0 ≡ get_or rest (i - n) 0
read_behind front rest n i long past =
    let place : i ≡ length front + (i - n) = omega arith in
    ap (λ m. get_or (front ++ rest) m 0) place ∙ get_or-append-add front rest (i - n) 0

-- the rest of the sector of some entries
sector_end : (entries : List ℕ) (i : ℕ) → length entries ≡ 64 → 64 ≤ i → get_or (extended entries 256) i 0 ≡ 0
sector_end entries i long past =
    read_behind entries (replicate (256 - length entries) 0) 64 i long past ∙ zeros_read (256 - length entries) (i - 64)

-- and the zeros behind it
pub entries_end : (entries zeros : List ℕ) → length entries ≡ 64 → ((i : ℕ) → get_or zeros i 0 ≡ 0)
    → (i : ℕ) → 64 ≤ i → get_or (extended entries 256 ++ zeros) i 0 ≡ 0
entries_end entries zeros long none i past =
    let whole : length (extended entries 256) ≡ 256 =
    length-append entries (replicate (256 - length entries) 0) ∙ omega (arith, length-replicate {A = ℕ} (256 - length entries) 0) in
    ⊎_elim
    (λ low. get_or_append_left (extended entries 256) zeros 0 i (omega arith) ∙ sector_end entries i long past)
    (λ high. read_behind (extended entries 256) zeros 256 i whole high ∙ none (i - 256))
    (cases_lt i 256)
