use Rattle.ocm_server_rounds.proofs.Rounding.{rounded_answers, rounded_refused}
use Rattle.ocm_server_rounds.proofs.rounds.pump_round.Goals as goal

pub returns-in-Ok-clause-round : goal.returns-in-Ok-clause-round
returns-in-Ok-clause-round g c =
    rounded_answers c.in-Ok.reply c.args.pass.now c.ask_node.new.pass c.answer_due.new.pass (g.N.Post.exchanges c.args.post.now) (g.N.Post.exchanges c.answer_due.new.post) c.answer_due.result c.in-Ok.ensures.ok c.answer_due.ensures.answers

pub returns-in-Err-clause-round : goal.returns-in-Err-clause-round
returns-in-Err-clause-round g c = rounded_refused c.args.pass.now c.ask_node.new.pass (g.N.Post.exchanges c.args.post.now) c.in-Err.ensures.err
