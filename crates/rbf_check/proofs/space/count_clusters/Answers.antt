use Rattle.std.proofs.Common.{◌≡◌, ◌∙◌, ℕ, ◌&&◌, not, ap, sym, length, arith}
use Rattle.std.specs.Prelude.{filter}
use Rattle.std.specs.List.{range_with_len}
use Rattle.rbf_model.specs.Geometry.{sector}
use Rattle.rbf_model.specs.Space.{is_whole, is_marked}
use Rattle.rbf_sector.specs.Ident.{geometry_of}
use Rattle.rbf_check.specs.VolumeNodes.{volume_from}
use Rattle.rbf_check.proofs.Counted.{counted, count_fits}
use Rattle.rbf_check.proofs.Surveys.{free_clusters_is, clusters_are}
use Rattle.rbf_check.proofs.space.count_clusters.Goals as goal

pub overflow_add-space : goal.overflow_add-space
overflow_add-space c =
    let p = λ (m : ℕ). is_whole (geometry_of c.args.survey.now.image.ident) m && not (is_marked (sector c.args.survey.now.image.bytes.now) m) in
    count_fits p c.loop-c.c c.div_ceil-clusters.result c.loop-c.space.free c.from-in-loop-c.result c.is_free.result c.loop-c.invariant.0 c.from-in-loop-c.ensures c.loop-c-test.true (omega arith)

pub overflow_add-space-in-loop-c : goal.overflow_add-space-in-loop-c
overflow_add-space-in-loop-c c =
    let q = (volume_from c.args.survey.now).lost in
    count_fits q c.loop-c.c c.div_ceil-clusters.result c.loop-c.space.lost c.from-in-loop-c-2.result c.is_lost.result c.loop-c.invariant.1 c.from-in-loop-c-2.ensures c.loop-c-test.true (omega arith)

pub loop-c-preserved : goal.loop-c-preserved
loop-c-preserved c =
    let p = λ (m : ℕ). is_whole (geometry_of c.args.survey.now.image.ident) m && not (is_marked (sector c.args.survey.now.image.bytes.now) m) in
    let q = (volume_from c.args.survey.now).lost in (
      counted p c.loop-c.c c.loop-c.space.free c.from-in-loop-c.result c.is_free.result c.loop-c.invariant.0 c.is_free.ensures c.from-in-loop-c.ensures,
      counted q c.loop-c.c c.loop-c.space.lost c.from-in-loop-c-2.result c.is_lost.result c.loop-c.invariant.1 c.is_lost.ensures c.from-in-loop-c-2.ensures,
    )

pub returns-clause-free : goal.returns-clause-free
returns-clause-free c =
    let p = λ (m : ℕ). is_whole (geometry_of c.args.survey.now.image.ident) m && not (is_marked (sector c.args.survey.now.image.bytes.now) m) in
    let end : c.loop-c.c ≡ c.div_ceil-clusters.result = omega arith in
    let all = end ∙ clusters_are c.args.survey.now c.requires.survey c.div_ceil-clusters.result c.from.result (omega arith) c.div_ceil-clusters.ensures in
    c.loop-c.invariant.0 ∙ ap (λ n. length (filter p (range_with_len 0 n))) all ∙ ap length (sym (free_clusters_is c.args.survey.now c.requires.survey))

pub returns-clause-lost : goal.returns-clause-lost
returns-clause-lost c =
    let q = (volume_from c.args.survey.now).lost in
    let end : c.loop-c.c ≡ c.div_ceil-clusters.result = omega arith in
    let all = end ∙ clusters_are c.args.survey.now c.requires.survey c.div_ceil-clusters.result c.from.result (omega arith) c.div_ceil-clusters.ensures in
    c.loop-c.invariant.1 ∙ ap (λ n. length (filter q (range_with_len 0 n))) all
