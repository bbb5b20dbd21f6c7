-- The code of the programs, and how long it is.
use Rattle.std.proofs.Common.{◌≡◌, ℕ, ◌+◌, ◌*◌, ◌≤◌, List, [], ◌∷◌, ◌++◌, length, refl, ap, ◌∙◌, arith, append_assoc, length-append}
use Rattle.std.proofs.Math.Nat.{mul-le-mul_left}
use Rattle.std.proofs.lemmas.List.FromFn.{length-map-range_with_len}
use Rattle.guest_mods.specs.declared.load.Load.{Load}
use Rattle.guest_mods.specs.declared.programs.TheConstants.{WORKER}
use Rattle.guest_mods.specs.Random.{random, drawn_by}
use Rattle.guest_mods.specs.Stress.{IsLoad, record_lengths, sysgo_code, worker_code}

pub length-sysgo_code : (workers : ℕ) → length (sysgo_code workers) ≡ 59
unfolding sysgo_code
length-sysgo_code workers = refl

length-record_lengths : (load : Load) → length (record_lengths load) ≡ load.workers * load.records
length-record_lengths load = length-map-range_with_len (λ i. drawn_by 32 (random load.seed i)) 1 (load.workers * load.records)

pub length-worker_code : (load : Load) → length (worker_code load) ≡ 184 + load.workers * load.records
unfolding worker_code
length-worker_code load = length-append WORKER (load.passes ∷ load.records ∷ record_lengths load) ∙ omega (arith, length-record_lengths load)

pub few-lengths : (load : Load) → IsLoad load → load.workers * load.records ≤ 800
few-lengths load is =
    let most : load.workers * load.records ≤ load.workers * 200 = mul-le-mul_left load.workers is.few_records in
    let few = is.few_workers in
    omega arith

-- the parts of Worker's code, put one behind the other
pub worker_code-put : (load : Load) (table numbers whole code : List ℕ) → table ≡ WORKER → numbers ≡ table ++
    load.passes ∷ load.records ∷ [] → whole ≡ numbers ++ record_lengths load → code ≡ whole → code ≡ worker_code load
unfolding worker_code
worker_code-put load table numbers whole code one two three four =
    four ∙ three ∙ ap (λ l. l ++ record_lengths load) (two ∙ ap (λ l. l ++ load.passes ∷ load.records ∷ []) one)
    ∙ append_assoc WORKER (load.passes ∷ load.records ∷ []) (record_lengths load)
