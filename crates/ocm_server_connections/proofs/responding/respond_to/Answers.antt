use Rattle.ocm_dav.specs.Sound.{is_requested}
use Rattle.ocm_server_connections.proofs.Paging.{act_page, or_left}
use Rattle.ocm_server_connections.proofs.Responses.{responds_reply}
use Rattle.ocm_server_connections.proofs.responding.respond_to.Goals as goal

pub returns : goal.returns
returns g c =
    responds_reply g.T.Object.terms g.T.Object.stands g.T.Object.legal c.args.ask c.args.shape.now c.act-reply.result c.args.object.now c.act-reply.new.self c.page_of.result
    (record { terms = c.act-reply.ensures.terms; moves = c.act-reply.ensures.stands; lawful = c.act-reply.ensures.legal }) c.page_of.ensures

pub page_of-requires-clause-reply : goal.page_of-requires-clause-reply
page_of-requires-clause-reply g c =
    let s = c.requires.stands in
    act_page g.T.Object.legal g.met.T.Object.fits c.args.ask c.act-reply.result (g.T.Object.terms c.args.object.now) s.0 s.1 (or_left (is_requested c.args.ask) _ c.requires.requested) (c.act-reply.ensures.legal s.0 s.1 s.2 s.3)
