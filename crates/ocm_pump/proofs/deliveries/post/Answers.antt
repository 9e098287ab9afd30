use Rattle.std.proofs.lemmas.Result.{err_from_is_err_and}
use Rattle.ocm_pump.proofs.Runs.{unposted, answered}
use Rattle.ocm_pump.proofs.deliveries.post.Goals as goal

pub returns-in_err-request-clause-exact : goal.returns-in_err-request-clause-exact
returns-in_err-request-clause-exact g c =
    let p = err_from_is_err_and c.from_residual.result c.from_residual.ensures.1 in
    rw (p.1, p.2) (unposted (g.N.Dial.exchanges c.args.dial.now) c.args.site.now c.args.letter.now)

pub returns-clause-exact : goal.returns-clause-exact
returns-clause-exact g c =
    answered (g.N.Dial.exchanges c.args.dial.now) (g.N.Dial.exchanges c.send-sent.new.dial) c.args.site.now c.args.letter.now c.in_ok-request.request c.send-sent.result c.answer_in.result c.in_ok-request.ensures c.send-sent.ensures.exact c.answer_in.ensures
