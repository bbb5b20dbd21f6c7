-- The parts make the image, which represents the volume.
use Rattle.std.proofs.Common.{◌*◌, ◌-◌, ℕ, List, ◌++◌, ap, ◌∙◌, arith}
use Rattle.vol_tools.proofs.Whole.{put-together}
use Rattle.vol_tools.proofs.blank.format.Goals as goal

pub returns-clause-volume : goal.returns-clause-volume
returns-clause-volume c =
    let d = c.root_descriptor.ensures in
    let is = put-together c.args.sectors c.args.cluster c.args.now c.requires c.root_descriptor.result _ _ _ _ _ _
    c.blank_root-root.result c.used_clusters.result (256 * (c.blank_root-root.result - 1)) (256 * c.args.sectors)
    c.extend_from_slice-2.new.self.len
    d.whole
    (record { attributes = d.attributes; owner = d.owner; modified = d.modified; links = d.links; size = d.size; created = d.created; segments = d.segments })
    c.blank_root-root.ensures c.used_clusters.ensures (omega arith) (omega arith)
    c.new-image.ensures.items c.in_ok-push_ident.ensures c.in_ok-push_map.ensures
    c.in_ok-extend_from_slice.ensures.items (c.in_ok-extend_from_slice-2.ensures.items ∙ ap
    (λ (x : List ℕ). c.extend_from_slice.new.self.items ++ x) c.root_entries.ensures) (omega arith)
    c.in_ok-resize.ensures.items
    d.rest in
    is.represents_it

pub returns-clause-clean : goal.returns-clause-clean
returns-clause-clean c =
    let d = c.root_descriptor.ensures in
    let is = put-together c.args.sectors c.args.cluster c.args.now c.requires c.root_descriptor.result _ _ _ _ _ _
    c.blank_root-root.result c.used_clusters.result (256 * (c.blank_root-root.result - 1)) (256 * c.args.sectors)
    c.extend_from_slice-2.new.self.len
    d.whole
    (record { attributes = d.attributes; owner = d.owner; modified = d.modified; links = d.links; size = d.size; created = d.created; segments = d.segments })
    c.blank_root-root.ensures c.used_clusters.ensures (omega arith) (omega arith)
    c.new-image.ensures.items c.in_ok-push_ident.ensures c.in_ok-push_map.ensures
    c.in_ok-extend_from_slice.ensures.items (c.in_ok-extend_from_slice-2.ensures.items ∙ ap
    (λ (x : List ℕ). c.extend_from_slice.new.self.items ++ x) c.root_entries.ensures) (omega arith)
    c.in_ok-resize.ensures.items
    d.rest in
    is.is_clean
