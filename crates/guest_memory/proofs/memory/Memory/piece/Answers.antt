use Rattle.std.proofs.Common.{◌≡◌, ℕ, ◌+◌, ◌-◌, ◌/◌, ◌%◌, min, Some, List, length, take, drop, ap, sym, ◌∙◌, subst, arith}
use Rattle.std.proofs.lemmas.List.{take_rest, take_min}
use Rattle.block_pool.specs.Blocks.{block_bytes}
use Rattle.proc_model.specs.Slots.{block_at}
use Rattle.guest_memory.specs.Pieces.{IsPiece}
use Rattle.guest_memory.specs.Tie.{cells_of}
use Rattle.guest_memory.proofs.Ranges.{piece-seen}
use Rattle.guest_memory.proofs.Seen.{seen-live}
use Rattle.guest_memory.proofs.memory.Memory.piece.Goals as goal

pub bytes-requires : goal.bytes-requires
bytes-requires c =
    seen-live c.args.self.now c.args.p.0 c.requires.process c.index.result.now c.index.ensures c.in_ok-address.address c.in_ok-id.id
    (ap (block_at c.index.result.now) (sym c.slot_of.ensures) ∙ sym c.in_ok-id.ensures.place)

pub returns-clause-some : goal.returns-clause-some
returns-clause-some c =
    let memory = c.args.self.now in
    let p = c.args.p.0 in
    let address = c.in_ok-address.address in
    let most = c.args.most in
    let id = c.in_ok-id.id in
    let old = c.index.result.now in
    let block = c.bytes.result.now in
    let rest : List ℕ = drop (address % 8192) block in
    let place : block_at old (address / 8192) ≡ Some id = ap (block_at old) (sym c.slot_of.ensures) ∙ sym c.in_ok-id.ensures.place in
    let is : address ≡ c.args.at + c.args.offset = omega (arith, c.in_ok-address.ensures) in
    let rest_is : take (length block - address % 8192) rest ≡ rest = take_rest block (address % 8192) in
    let swapped : min (length rest) most ≡ min most (length rest) = omega arith in
    let count : c.min.result ≡ min most (length rest) = c.min.ensures ∙ ap (λ (l : List ℕ). min (length l) most) rest_is ∙ swapped in
    let bytes : take c.min.result (take (length block - address % 8192) rest) ≡ take most (drop (address % 8192) (block_bytes memory.pool id.0)) =
    (λ i. take (count i) (rest_is i)) ∙ take_min most rest ∙ ap (λ (l : List ℕ). take most (drop (address % 8192) l)) c.bytes.ensures.bytes in
    subst (λ (n : ℕ). IsPiece (cells_of memory p) n most (take c.min.result (take (length block - address % 8192) rest))) is
    (piece-seen memory p c.requires.process old c.index.ensures address most id _ place (omega arith) c.requires.some bytes)
