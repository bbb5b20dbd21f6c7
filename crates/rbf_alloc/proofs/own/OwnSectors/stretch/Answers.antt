use Rattle.std.proofs.Common.{◌≡◌, ◌+◌, ◌*◌, ◌/◌, max, min, ap, ap₂, ◌∙◌}
use Rattle.rbf_alloc.proofs.OwnParts.{stretch_there}
use Rattle.rbf_alloc.proofs.own.OwnSectors.stretch.Goals as goal

pub returns : goal.returns
returns c x =
    let segment = c.segment-from.result in
    let first : c.max.result ≡ max (segment.0 / c.args.k) (2048 * c.args.place) = c.max.ensures ∙ ap₂ (λ k p. max (segment.0 / k) (2048 * p)) c.from-k.ensures c.from-low.ensures in
    let end : c.min.result + 1 ≡ min (segment.1 / c.args.k) (2048 * c.args.place + 2047) + 1 =
    ap (λ m. m + 1) (c.min.ensures ∙ ap₂ (λ k p. min (segment.1 / k) (2048 * p + 2047)) c.from-k.ensures c.from-low.ensures) in
    stretch_there c.args.self.now c.args.i c.args.k c.args.place segment.0 segment.1 c.max.result (c.min.result + 1) c.segment-from.ensures.there c.segment-from.ensures.order first end x
