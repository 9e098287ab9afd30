use Rattle.std.proofs.Common.{◌≡◌, ◌∙◌, ℕ, length, sym, refl, subst, arith}
use Rattle.ocm_pump.specs.Exchanges.{Counts}
use Rattle.ocm_pump.proofs.Additions.{counts_none, counts_more}
use Rattle.ocm_server_rounds.specs.Rounds.{hold}
use Rattle.ocm_server_rounds.proofs.Rounding.{leads_nothing, leads_on, leads_off, leads_all, not_spent_whole, not_whole}
use Rattle.ocm_server_rounds.proofs.rounds.deliver_all.Goals as goal

pub loop-message-init : goal.loop-message-init
loop-message-init g c = record {
  own = c.requires.own;
  below = c.requires.below;
  never_falls = omega arith;
  kind = refl;
  asked = counts_none (g.N.Post.asked c.args.post.now);
  leads = leads_nothing c.args.messages.now (hold c.args.pass.now (g.N.Post.exchanges c.args.post.now)) 0 refl;
}

pub loop-message-preserved : goal.loop-message-preserved
loop-message-preserved g c = record {
  own = c.try_message-trial.ensures.own;
  below = c.try_message-trial.ensures.below (not_spent_whole c.try_message-trial.result.end (sym c.is_whole.ensures ∙ c.if-not-is_whole.false));
  never_falls = let low = c.loop-message.invariant.never_falls in let more = c.try_message-trial.ensures.never_falls in omega (arith, low, more);
  kind = c.try_message-trial.ensures.kind ∙ c.loop-message.invariant.kind;
  asked = counts_more (g.N.Post.asked c.args.post.now) (g.N.Post.asked c.loop-message.post) (g.N.Post.asked c.try_message-trial.new.post) c.loop-message.message-index 1 c.loop-message.invariant.asked c.try_message-trial.ensures.asked;
  leads = leads_on c.args.messages.now c.message-item.result c.loop-message.message-index (hold c.args.pass.now (g.N.Post.exchanges c.args.post.now)) (hold c.loop-message.pass (g.N.Post.exchanges c.loop-message.post)) (hold c.try_message-trial.new.pass (g.N.Post.exchanges c.try_message-trial.new.post)) c.loop-message.answered c.count_if-answered.result c.try_message-trial.result.settled c.try_message-trial.result.end
      (omega arith) c.message-item.is c.loop-message.invariant.leads c.try_message-trial.ensures.tried (sym c.is_whole.ensures ∙ c.if-not-is_whole.false) c.count_if-answered.ensures;
}

pub returns-then-not-is_whole-clause-delivered : goal.returns-then-not-is_whole-clause-delivered
returns-then-not-is_whole-clause-delivered g c =
    leads_off c.args.messages.now c.message-item.result c.loop-message.message-index (hold c.args.pass.now (g.N.Post.exchanges c.args.post.now)) (hold c.loop-message.pass (g.N.Post.exchanges c.loop-message.post)) (hold c.try_message-trial.new.pass (g.N.Post.exchanges c.try_message-trial.new.post)) c.loop-message.answered c.count_if-answered.result c.try_message-trial.result.settled c.try_message-trial.result.end
    (omega arith) c.message-item.is c.loop-message.invariant.leads c.try_message-trial.ensures.tried (sym c.is_whole.ensures ∙ c.if-not-is_whole.true) c.count_if-answered.ensures

pub returns-then-not-is_whole-clause-asked : goal.returns-then-not-is_whole-clause-asked
returns-then-not-is_whole-clause-asked g c = λ whole. absurd (not_whole c.try_message-trial.result.end (sym c.is_whole.ensures ∙ c.if-not-is_whole.true) whole)

pub returns-clause-asked : goal.returns-clause-asked
returns-clause-asked g c = λ _.
    let all : c.loop-message.message-index ≡ length c.args.messages.now = omega arith in
    subst (λ (n : ℕ). Counts (g.N.Post.asked c.args.post.now) (g.N.Post.asked c.loop-message.post) n) all c.loop-message.invariant.asked

pub returns-clause-delivered : goal.returns-clause-delivered
returns-clause-delivered g c =
    leads_all c.args.messages.now c.loop-message.message-index (hold c.args.pass.now (g.N.Post.exchanges c.args.post.now)) (hold c.loop-message.pass (g.N.Post.exchanges c.loop-message.post)) c.loop-message.answered (omega arith) c.loop-message.invariant.leads
