use Rattle.std.proofs.Common.{sym, ◌∙◌}
use Rattle.ocm_dav.specs.Routes.{wanted_of}
use Rattle.ocm_dav.specs.declared.wants.Wanted.TheVariants as wants
use Rattle.ocm_server_connections.proofs.Responses.{responds_page, responds_none, responds_as}
use Rattle.ocm_server_connections.proofs.responding.respond.Goals as goal

pub returns-in-Ok-Page : goal.returns-in-Ok-Page
returns-in-Ok-Page g c =
    responds_page g.T.Object.terms g.T.Object.stands g.T.Object.legal (wanted_of c.args.config.now c.args.message.now c.args.fresh) c.in-Ok-Page.page c.args.object.now (sym c.in-Ok-Page.field-0-is ∙ c.in-Ok-Page.ensures.wanted)

pub returns-in-Ok-Ask : goal.returns-in-Ok-Ask
returns-in-Ok-Ask g c =
    responds_as g.T.Object.terms g.T.Object.stands g.T.Object.legal (wanted_of c.args.config.now c.args.message.now c.args.fresh) (wants.Ask c.in-Ok-Ask.ask c.in-Ok-Ask.shape) c.args.object.now c.respond_to.new.object c.respond_to.result
    (sym c.in-Ok-Ask.field-0-is ∙ c.in-Ok-Ask.ensures.wanted) c.respond_to.ensures

pub returns-in-Err : goal.returns-in-Err
returns-in-Err g c = responds_none g.T.Object.terms g.T.Object.stands g.T.Object.legal (wanted_of c.args.config.now c.args.message.now c.args.fresh) c.args.object.now c.in-Err.failure
