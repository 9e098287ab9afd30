use Rattle.std.proofs.Common.{◌≡◌, List, ◌∙◌, ap}
use Rattle.ocm_entry.specs.declared.rows.Node.{Node}
use Rattle.ocm_rules.specs.Answers.{put_done}
use Rattle.ocm_plan_dav.proofs.CarryPlans.{carries, carry_of}
use Rattle.ocm_plan_dav.proofs.carries.carry.Goals as goal

pub returns : goal.returns
returns c =
    let st = c.args.tables.now.state in
    let from = c.args.from.now in
    let to = c.args.to.now in
    let is : c.in_ok-planned.planned ≡ carry_of st.nodes from to c.args.moving = c.in_ok-planned.ensures ∙ ap (λ (nodes : List Node). carry_of nodes from to c.args.moving) c.files.ensures in
    λ overwrite free. carries st from to c.args.moving overwrite c.put_done.result c.in_ok-planned.planned c.silent.result
    c.requires.below c.requires.apart c.requires.inside free c.requires.within (c.put_done.ensures ∙ ap put_done c.standing_at-standing.ensures) is c.silent.ensures.plans
