use Rattle.std.proofs.Common.{◌≡◌, ℕ, List, All, ◌++◌, ◌∷◌, [], sym, ap, ◌∙◌, subst, arith}
use Rattle.std.proofs.lemmas.List.Elements.{All-nil, All-append, All-push}
use Rattle.std.specs.Prelude.{if◌then◌else◌, ◌==◌}
use Rattle.rbf_model.specs.Geometry.{sector}
use Rattle.rbf_model.specs.Segments.{sectors_of}
use Rattle.rbf_model.specs.Space.{system_sectors}
use Rattle.rbf_sector.specs.Ident.{geometry_of}
use Rattle.rbf_segs.specs.Segments.{IsSegment}
use Rattle.rbf_sector_rules.proofs.Headers.{header_of}
use Rattle.rbf_sector_rules.proofs.Listed.{front_of_root, front_of_other, listed_is, one_segment}
use Rattle.rbf_sector_rules.proofs.owners.list_segments.Goals as goal
use Rattle.rbf_sector_rules.proofs.owners.list_segments.Goals.{then-file-image+in_ok-push, else-file-image}

pub returns-clause-sectors : goal.returns-clause-sectors
returns-clause-sectors c =
    let g = geometry_of c.args.image.now.ident in
    let disk = sector c.args.image.now.bytes.now in
    let n = c.args.file.now.number in
    let front = c.if-file-image.segments.items in
    let system : sectors_of front ≡ (if n == g.root then system_sectors g else []) = elim c.if-file-image.branch [
      | then-file-image+in_ok-push w ↦ front_of_root g n front w.system_sectors.result w.if-file-image.true
          w.system_sectors.ensures.count (ap (λ v. v.items) w.segments-is ∙ w.in_ok-push.ensures.items ∙ ap
          (λ segments. segments ++ (0, w.system_sectors.result) ∷ []) c.clear.ensures.items)
      | else-file-image w ↦ front_of_other g n front w.if-file-image.false (ap (λ v. v.items) w.segments-is ∙ c.clear.ensures.items)
    ] in
    listed_is g n front disk c.push_segments.new.segments.items c.args.file.now.fd.segs system
    (c.in_ok-push_segments.ensures.list ∙ ap (λ segments. segments ++ c.args.file.now.fd.segs)
    c.in_ok-push-2.ensures.items) c.requires.fd.segs

pub returns-clause-segments : goal.returns-clause-segments
returns-clause-segments c =
    let n = c.args.file.now.number in
    let front = c.if-file-image.segments.items in
    let P : List (ℕ × ℕ) → Type 0 = λ segments. All IsSegment segments in
    let first : P front = elim c.if-file-image.branch [
      | then-file-image+in_ok-push w ↦ subst P
          (sym (ap (λ v. v.items) w.segments-is ∙ w.in_ok-push.ensures.items ∙ ap (λ segments. segments ++ (0, w.system_sectors.result) ∷ []) c.clear.ensures.items))
          (one_segment 0 w.system_sectors.result (omega arith) (omega (arith, w.system_sectors.ensures.count)) (omega (arith, w.system_sectors.ensures.few)))
      | else-file-image w ↦ subst P (sym (ap (λ v. v.items) w.segments-is ∙ c.clear.ensures.items)) (All-nil IsSegment)
    ] in
    let own : IsSegment (n, 1) = record { lsn = omega (arith, c.requires.number, (header_of c.args.image.now).most); some = omega arith; count = omega arith } in
    subst P (sym (c.in_ok-push_segments.ensures.list ∙ ap (λ segments. segments ++ c.args.file.now.fd.segs) c.in_ok-push-2.ensures.items))
    (All-append IsSegment (front ++ (n, 1) ∷ []) c.args.file.now.fd.segs (All-push IsSegment front (n, 1) first own) c.in_ok-push_segments.ensures.each)
