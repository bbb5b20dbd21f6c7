use Rattle.std.proofs.Common.{◌≡◌, ◌+◌, ◌-◌, ◌/◌, ◌≤◌, ◌<◌, arith}
use Rattle.guest_memory.proofs.Ranges.{fits-of_slots, slots-of_fits}
use Rattle.guest_memory.proofs.memory.Memory.is_named.Goals as goal

pub returns-then-from-le65536 : goal.returns-then-from-le65536
returns-then-from-le65536 c =
    let memory = c.args.self.now in
    let p = c.args.p.0 in
    let at = c.args.at in
    let len = c.args.len in
    let some : 0 < len = omega (arith, c.if-len-eq0.false) in
    let whole : at + len ≤ 65536 = omega (arith, c.if-from-le65536.true, c.from.ensures, c.from-else-len-eq0.ensures) in
    let first : c.slot_of.result ≡ at / 8192 = c.slot_of.ensures in
    let last : c.slot_of-then-from-le65536.result ≡ (at + (len - 1)) / 8192 = c.slot_of-then-from-le65536.ensures in (
      λ named. fits-of_slots memory p c.requires c.index.result.now c.index.ensures at len some whole
          (λ slot low high. c.are_slots_named.ensures.0 named slot (omega (arith, first)) (omega (arith, last))),
      λ fits. c.are_slots_named.ensures.1 (λ slot low high. slots-of_fits memory p c.requires c.index.result.now c.index.ensures at len some fits slot (omega (arith, first)) (omega (arith, last))),
    )
