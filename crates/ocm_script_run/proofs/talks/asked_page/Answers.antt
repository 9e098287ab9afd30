use Rattle.ocm_script_run.proofs.Talking.{answering-reply}
use Rattle.ocm_script_run.proofs.talks.asked_page.Goals as goal

pub returns-clause-answers : goal.returns-clause-answers
returns-clause-answers g c = λ server is.
    answering-reply g.N.ScriptServer.stands c.args.ask c.args.shape.now server c.reply_to-reply.new.node c.reply_to-reply.result c.page_for-page.result (c.reply_to-reply.ensures.replied server is)
    c.page_for-page.ensures.ok c.page_for-page.ensures.err
