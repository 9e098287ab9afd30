use Rattle.std.proofs.Common.{sym, ap, ◌∙◌, not}
use Rattle.ocm_entry.specs.declared.replies.Reply.TheVariants as replies
use Rattle.ocm_rules.specs.State.{view_in}
use Rattle.ocm_plan_peers.proofs.Offered.{known-reply}
use Rattle.ocm_plan_peers.proofs.offers.plan_known.Goals as goal

pub returns : goal.returns
returns c = c.only.ensures.plans _ (ap replies.Recipient c.in_ok-user.ensures ∙ sym (c.requires.reply ∙ known-reply (view_in c.args.tables.now.state) c.args.offer.now c.requires.known)) (ap not c.requires.known)
