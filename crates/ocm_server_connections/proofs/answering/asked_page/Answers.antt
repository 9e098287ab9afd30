use Rattle.ocm_server_connections.proofs.Replying.{answers_reply, answers_spent, not_spent}
use Rattle.ocm_server_connections.proofs.answering.asked_page.Goals as goal

pub returns-in-Err-clause-answers : goal.returns-in-Err-clause-answers
returns-in-Err-clause-answers g c = answers_spent c.args.pass.now c.reply_to.new.pass c.args.ask c.args.shape.now c.args.clock c.in-Err.field-0 c.in-Err.ensures.replied

pub returns-in-Ok-clause-answers : goal.returns-in-Ok-clause-answers
returns-in-Ok-clause-answers g c =
    answers_reply c.args.pass.now c.reply_to.new.pass c.args.ask c.args.shape.now c.args.clock c.in-Ok.reply c.page_for.result c.in-Ok.ensures.replied c.page_for.ensures.ok c.page_for.ensures.err

pub returns-in-Ok-clause-spent : goal.returns-in-Ok-clause-spent
returns-in-Ok-clause-spent g c = not_spent c.page_for.result _ c.page_for.ensures.err
