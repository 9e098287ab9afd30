use Rattle.ocm_serve_store.proofs.following.acted.Goals as goal

pub returns : goal.returns
returns g c = record {
  terms = c.act.ensures.terms;
  stands = λ k h it. c.act.ensures.stands k h it.stands it.legal;
  legal = λ k h it. c.act.ensures.legal k h it.stands it.legal;
  cause = c.act.ensures.cause;
  no_cause = c.act.ensures.no_cause;
  any_moment = c.act.ensures.any_moment;
  idle = c.act.ensures.idle;
  made = c.act.ensures.made;
  not_made = c.act.ensures.not_made;
  fewer = c.act.ensures.fewer;
  passes = c.act.ensures.passes;
  journal = c.act.ensures.journal;
}
