use Rattle.std.proofs.Common.{◌≡◌, ℕ, ◌+◌, Some, option_copied, refl, sym, ap, ◌∙◌}
use Rattle.ocm_entry.specs.declared.replies.Reply.TheVariants.{Child}
use Rattle.ocm_entry.specs.declared.rows.Share.{Share}
use Rattle.ocm_rules.specs.Numbers.{at_number}
use Rattle.ocm_rules.specs.State.{view_in}
use Rattle.ocm_tables.specs.declared.changes.TableChange.TheVariants as changes
use Rattle.ocm_tables.specs.Changes.{changed}
use Rattle.ocm_plan_peers.proofs.Children.{child-fits, child-makes, grows}
use Rattle.ocm_plan_peers.proofs.requests.plan_child.Goals as goal

pub returns : goal.returns
returns g c = λ id mark fresh is_named drawn grants answered.
    let st = c.args.tables.now.state in
    let v = view_in st in
    let above = c.unwrap-above.result.now in
    let there : at_number v.shares c.args.parent ≡ Some above = sym c.share.ensures.share ∙ ap option_copied c.unwrap-above.ensures in
    let short = rw c.unwrap-above.ensures at c.share.ensures.short in
    let made = c.in_ok-share.ensures in
    c.new.ensures.plans _ (ap (λ (n : ℕ). Child (n + 1)) c.share_count-id.ensures ∙ sym answered) (grows st c.share_count-id.result c.share_count-id.ensures) refl
    (ap (λ (s : Share). changed st (changes.AddShare s) c.in_ok-share-2.sent) c.in_ok-share-2.ensures.share
    ∙ child-makes st id mark c.args.with.now c.args.sender_id.now c.args.asked fresh (Child (c.share_count-id.result + 1)) c.args.parent above c.owner_of-owner.result.now c.args.granted.now c.args.secret c.in_ok-share.share c.in_ok-share-2.sent is_named there c.owner_of-owner.ensures grants drawn made c.in_ok-share-2.ensures.sent)
    (rw c.in_ok-share-2.ensures.share (child-fits st c.args.parent above c.owner_of-owner.result.now c.args.granted.now c.args.with.now c.args.sender_id.now c.args.asked c.args.secret c.in_ok-share.share c.requires.few c.requires.secret c.requires.parent c.owner_of-owner.ensures short made)) refl

pub owner_of-owner-requires : goal.owner_of-owner-requires
owner_of-owner-requires g c = rw c.unwrap-above.ensures at c.share.ensures.owner
