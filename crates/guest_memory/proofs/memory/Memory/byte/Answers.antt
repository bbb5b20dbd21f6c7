use Rattle.std.proofs.Common.{◌≡◌, ℕ, ◌+◌, ◌%◌, Some, Option, List, get_or, ap, sym, ◌∙◌, arith}
use Rattle.os9_base.specs.UserNames.{user_cell}
use Rattle.guest_memory.specs.Tie.{cells_of}
use Rattle.guest_memory.proofs.Seen.{cells_of-seen, seen-live, seen-byte}
use Rattle.guest_memory.proofs.memory.Memory.byte.Goals as goal

pub bytes-bytes-requires : goal.bytes-bytes-requires
bytes-bytes-requires c =
    seen-live c.args.self.now c.args.p.0 c.requires c.index.result.now c.index.ensures c.in_ok-address.address c.in_ok-id.id (sym c.in_ok-id.ensures.place)

pub returns-clause-byte : goal.returns-clause-byte
returns-clause-byte c =
    let memory = c.args.self.now in
    let address = c.in_ok-address.address in
    let is : address ≡ c.args.at + c.args.offset = omega (arith, c.in_ok-address.ensures) in
    ap (λ (bytes : List ℕ). Some (get_or bytes (address % 8192) 0)) c.bytes-bytes.ensures.bytes
    ∙ sym (seen-byte memory c.args.p.0 c.requires c.index.result.now c.index.ensures address c.in_ok-id.id (sym c.in_ok-id.ensures.place) (omega arith))
    ∙ ap (user_cell (cells_of memory c.args.p.0)) is

pub returns-clause-tied : goal.returns-clause-tied
returns-clause-tied c =
    λ m tied.
    returns-clause-byte c
    ∙ ap (λ (cells : ℕ → Option ℕ). user_cell cells (c.args.at + c.args.offset)) (cells_of-seen c.args.self.now c.args.p.0 c.requires m tied)
