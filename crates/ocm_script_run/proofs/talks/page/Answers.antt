use Rattle.std.proofs.Common.{sym, ◌∙◌, subst}
use Rattle.ocm_dav.specs.Routes.{wanted_of}
use Rattle.ocm_dav.specs.declared.wants.Wanted.{Wanted}
use Rattle.ocm_script_run.specs.Running.{Answering}
use Rattle.ocm_script_run.proofs.Talking.{answering-nothing, answering-once}
use Rattle.ocm_script_run.proofs.talks.page.Goals as goal

pub returns-in-Ok-Page-clause-answers : goal.returns-in-Ok-Page-clause-answers
returns-in-Ok-Page-clause-answers g c = λ server is.
    answering-once g.N.ScriptServer.stands (wanted_of c.args.config.now c.args.message.now c.args.fresh) c.in-Ok-Page.page server c.args.node.now
    (sym c.in-Ok-Page.field-0-is ∙ c.in-Ok-Page.ensures.wanted) is

pub returns-in-Ok-Ask-clause-answers : goal.returns-in-Ok-Ask-clause-answers
returns-in-Ok-Ask-clause-answers g c = λ server is.
    subst (λ (w : Wanted). Answering g.N.ScriptServer.stands w server c.asked_page.new.node c.asked_page.result)
    (sym c.in-Ok-Ask.field-0-is ∙ c.in-Ok-Ask.ensures.wanted) (c.asked_page.ensures.answers server is)

pub returns-in-Err-clause-answers : goal.returns-in-Err-clause-answers
returns-in-Err-clause-answers g c = λ server is.
    answering-nothing g.N.ScriptServer.stands (wanted_of c.args.config.now c.args.message.now c.args.fresh) server c.args.node.now is
