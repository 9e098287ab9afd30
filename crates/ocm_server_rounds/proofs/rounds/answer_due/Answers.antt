use Rattle.std.proofs.Common.{◌∙◌, sym}
use Rattle.ocm_server_rounds.specs.Rounds.{hold}
use Rattle.ocm_server_rounds.proofs.Rounding.{answers_none, answers_due}
use Rattle.ocm_server_rounds.proofs.rounds.answer_due.Goals as goal

pub returns-then-is_no_memory-clause-answers : goal.returns-then-is_no_memory-clause-answers
returns-then-is_no_memory-clause-answers g c =
    answers_none c.args.reply.now (hold c.args.pass.now (g.N.Post.exchanges c.args.post.now)) (sym c.is_no_memory.ensures ∙ c.if-is_no_memory.true)

pub returns-clause-answers : goal.returns-clause-answers
returns-clause-answers g c =
    answers_due c.args.reply.now c.messages_of-messages.result.now (hold c.args.pass.now (g.N.Post.exchanges c.args.post.now)) (hold c.deliver_all-passed.new.pass (g.N.Post.exchanges c.deliver_all-passed.new.post)) _ _ _
    (sym c.is_no_memory.ensures ∙ c.if-is_no_memory.false) c.messages_of-messages.ensures c.count_of.ensures c.deliver_all-passed.ensures.delivered
