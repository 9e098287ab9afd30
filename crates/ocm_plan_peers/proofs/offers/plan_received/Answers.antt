use Rattle.std.proofs.Common.{refl, sym, ap, ◌∙◌, not, None}
use Rattle.ocm_entry.specs.declared.replies.Reply.TheVariants as replies
use Rattle.ocm_rules.specs.State.{view_in}
use Rattle.ocm_plan_peers.proofs.Offered.{few-records, limit-reply, received-makes}
use Rattle.ocm_plan_peers.proofs.offers.plan_received.Goals as goal

pub returns : goal.returns
returns c =
    let st = c.args.tables.now.state in
    let offer = c.args.offer.now in
    c.silent.ensures.plans _ (ap replies.Recipient c.in_ok-user.ensures ∙ sym (c.requires.reply ∙ limit-reply (view_in st) offer None c.requires.new c.requires.free)) (ap not c.requires.new) refl
    (received-makes st offer c.in_ok-received.received (replies.Recipient c.in_ok-user.user) c.in_ok-received.ensures) (few-records st offer.with.user c.requires.free) refl
