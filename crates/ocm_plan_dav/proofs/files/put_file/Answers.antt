use Rattle.std.proofs.Common.{◌≡◌, ℕ, List, true, ◌∙◌, sym, ap}
use Rattle.ocm_entry.specs.declared.rows.Node.{Node}
use Rattle.ocm_entry.specs.declared.rows.Place.{Place}
use Rattle.ocm_entry.specs.declared.rows.Standing.TheVariants.{File}
use Rattle.ocm_rules.specs.Answers.{is_collection, put_done}
use Rattle.ocm_rules.specs.Files.{limit_of, parent_of}
use Rattle.ocm_rules.specs.State.{view_in}
use Rattle.ocm_plan_dav.proofs.Rows.{put-made}
use Rattle.ocm_plan_dav.proofs.Methods.{puts}
use Rattle.ocm_plan_dav.proofs.files.put_file.Goals as goal

pub returns : goal.returns
returns c =
    let st = c.args.tables.now.state in
    let v = view_in st in
    let place = c.args.place in
    let here = v.stands place in
    let node_of = λ (body : List ℕ). let n : Node = record { place = place; standing = File body } in n in
    let is : c.in_ok-node.node ≡ node_of c.args.body.now = c.in_ok-node.ensures ∙ ap node_of c.in_ok-body.ensures in
    let inside : is_collection (v.stands (parent_of place)) ≡ true = ap (λ (p : Place). is_collection (v.stands p)) (sym c.requires.parent) ∙ c.requires.inside in
    λ path. puts st place path c.args.body.now here c.put_done.result c.in_ok-node.node c.silent.result
    (c.put_done.ensures ∙ ap put_done c.standing_at-standing.ensures)
    (put-made here (v.stands (parent_of place)) (limit_of st.nodes (node_of c.args.body.now)) c.requires.here inside c.requires.within)
    is (ap (limit_of st.nodes) is ∙ c.requires.within) c.silent.ensures.plans
