use Rattle.std.proofs.Common.{◌≤◌, ◌∙◌, length, take, ap}
use Rattle.rbf_model.specs.Segments.{sectors_of, shortened_segments}
use Rattle.rbf_segs.proofs.Runs.{sectors_of-shortened}
use Rattle.rbf_segs.proofs.Places.{cut_short}
use Rattle.rbf_segs.proofs.segs.Segs.cut.Goals as goal

pub invariant_of-self : goal.invariant_of-self
invariant_of-self c =
    let within : c.args.sectors ≤ length (sectors_of (take c.self.inside.len c.self.inside.places)) = rw c.self.view_is c.requires in
    (cut_short c.self.inside c.self.invariant c.args.sectors _ _ within c.shorten.ensures.places c.shorten.ensures.runs).kept

pub returns-clause-sectors : goal.returns-clause-sectors
returns-clause-sectors c =
    let within : c.args.sectors ≤ length (sectors_of (take c.self.inside.len c.self.inside.places)) = rw c.self.view_is c.requires in
    let held = cut_short c.self.inside c.self.invariant c.args.sectors _ _ within c.shorten.ensures.places c.shorten.ensures.runs in
    ap sectors_of held.list ∙ sectors_of-shortened c.args.sectors (take c.self.inside.len c.self.inside.places) ∙ ap (λ segments. take c.args.sectors (sectors_of segments)) c.self.view_is

pub returns-clause-segments : goal.returns-clause-segments
returns-clause-segments c =
    let within : c.args.sectors ≤ length (sectors_of (take c.self.inside.len c.self.inside.places)) = rw c.self.view_is c.requires in
    let held = cut_short c.self.inside c.self.invariant c.args.sectors _ _ within c.shorten.ensures.places c.shorten.ensures.runs in
    held.list ∙ ap (shortened_segments c.args.sectors) c.self.view_is
