use Rattle.std.proofs.Common.{◌≡◌, ◌+◌, ◌-◌, slice_index, ap, ◌∙◌, arith}
use Rattle.os9_base.specs.Name.{lower}
use Rattle.rbf_model.specs.Fields.{directory_entry}
use Rattle.rbf_walk.proofs.Endings.{unmarked_differs, last_agrees}
use Rattle.rbf_walk.proofs.sector.ends_alike.Goals as goal

pub returns-then-byte-lt128 : goal.returns-then-byte-lt128
returns-then-byte-lt128 c name end =
    let entry = directory_entry c.args.sector.now c.args.i in
    let place : c.args.end.at ≡ c.args.end.at + 1 - 1 = omega arith in
    unmarked_differs name entry (c.args.end.at + 1) c.byte_at-byte.result end.place end.is_name (c.byte_at-byte.ensures ∙ ap (λ k. slice_index entry k) place) c.if-byte-lt128.true

pub returns : goal.returns
returns c name end =
    let entry = directory_entry c.args.sector.now c.args.i in
    let place : c.args.end.at ≡ c.args.end.at + 1 - 1 = omega arith in
    last_agrees name entry (c.args.end.at + 1) c.byte_at-byte.result end.place end.is_name (c.byte_at-byte.ensures ∙ ap (λ k. slice_index entry k) place) c.args.end.last
    (end.character ∙ ap (λ k. lower (slice_index name k)) place)
