use Rattle.std.proofs.Common.{◌≡◌, ℕ, ◌+◌, List, Vec, Global, subst, sym, refl, arith}
use Rattle.rbf_model.specs.Geometry.{sector}
use Rattle.rbf_model.specs.File.{file_at}
use Rattle.rbf_check.specs.declared.tree.Node.{Node}
use Rattle.rbf_check.specs.VolumeNodes.{AreNodesBelow}
use Rattle.rbf_check.proofs.Surveys.{header_is, segments_fit}
use Rattle.rbf_check.proofs.Told.{links_below, file_reached, nodes_past, nodes_more, nodes_few, node_tells}
use Rattle.rbf_check.proofs.nodes.read_nodes.Goals as goal
use Rattle.rbf_check.proofs.nodes.read_nodes.Goals.{in-Some+in_ok-read_node+in_ok-push, in_default}

pub list_places-requires : goal.list_places-requires
list_places-requires c =
    links_below c.args.survey.now c.requires c.deref.result.now c.deref.ensures.value

pub read_node-requires-clause-segments : goal.read_node-requires-clause-segments
read_node-requires-clause-segments c =
    let image = c.args.survey.now.image.bytes.now in
    let survey = c.args.survey.now in
    let n = c.loop-n.n in
    segments_fit survey c.requires n (file_reached survey c.requires n (file_at (sector image) n) c.in-Some.ensures.file)

pub loop-n-preserved : goal.loop-n-preserved
loop-n-preserved c =
    let image = c.args.survey.now.image.bytes.now in
    let survey = c.args.survey.now in
    let n = c.loop-n.n in
    let P : Vec Node Global → Type 0 = λ v. AreNodesBelow survey v.items (n + 1) in
    elim c.match-place_of.branch [
      | in-Some+in_ok-read_node+in_ok-push w ↦
          let node = w.in_ok-read_node in
          let tells = node_tells survey n w.in-Some.place.parent w.in-Some.place.name node.field-0
          w.in-Some.ensures.file w.in-Some.ensures.place node.ensures.number node.ensures.parent node.ensures.name
          node.ensures.tells in
          subst P (sym w.nodes-is) (nodes_more survey c.loop-n.nodes.items n c.loop-n.invariant node.field-0 w.push.new.self.items w.in_ok-push.ensures.items node.ensures.number tells)
      | in_default w ↦
          subst P (sym w.nodes-is) (nodes_past survey c.loop-n.nodes.items n c.loop-n.invariant (w.in_default.ensures.none refl))
    ]

pub of-requires : goal.of-requires
of-requires c =
    let header = header_is c.args.survey.now c.requires in
    let most = header.most in
    let few = nodes_few c.args.survey.now c.loop-n.nodes.items c.loop-n.n c.loop-n.invariant in
    omega arith

pub returns : goal.returns
returns c =
    let P : List Node → Type 0 = λ nodes. AreNodesBelow c.args.survey.now nodes c.args.survey.now.image.ident.total in
    let Q : ℕ → Type 0 = λ n. AreNodesBelow c.args.survey.now c.loop-n.nodes.items n in
    let end : c.loop-n.n ≡ c.args.survey.now.image.ident.total = omega arith in
    subst P (sym c.of.ensures) (subst Q end c.loop-n.invariant)
