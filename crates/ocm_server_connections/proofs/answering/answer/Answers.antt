use Rattle.std.proofs.Common.{sym, refl, ◌∙◌, inl, inr}
use Rattle.ocm_dav.specs.Routes.{wanted_of}
use Rattle.ocm_dav.specs.declared.wants.Wanted.TheVariants as wants
use Rattle.ocm_server_connections.proofs.Replying.{answers_as, answers_once, answers_nothing}
use Rattle.ocm_turn.proofs.MoveLemmas.{moved_same}
use Rattle.ocm_server_connections.proofs.answering.answer.Goals as goal

pub returns-in-Ok-Page-clause-answers : goal.returns-in-Ok-Page-clause-answers
returns-in-Ok-Page-clause-answers g c =
    answers_once c.args.pass.now c.args.clock (wanted_of c.args.config.now c.args.message.now c.args.fresh) c.in-Ok-Page.page (sym c.in-Ok-Page.field-0-is ∙ c.in-Ok-Page.ensures.wanted)

pub returns-in-Ok-Ask-clause-answers : goal.returns-in-Ok-Ask-clause-answers
returns-in-Ok-Ask-clause-answers g c =
    answers_as c.args.pass.now c.asked_page.new.pass c.args.clock (wanted_of c.args.config.now c.args.message.now c.args.fresh) (wants.Ask c.in-Ok-Ask.ask c.in-Ok-Ask.shape) c.asked_page.result
    (sym c.in-Ok-Ask.field-0-is ∙ c.in-Ok-Ask.ensures.wanted) c.asked_page.ensures.answers

pub returns-in-Err-clause-answers : goal.returns-in-Err-clause-answers
returns-in-Err-clause-answers g c = answers_nothing c.args.pass.now c.args.clock (wanted_of c.args.config.now c.args.message.now c.args.fresh)

pub returns-in-Ok-Page-clause-unspent : goal.returns-in-Ok-Page-clause-unspent
returns-in-Ok-Page-clause-unspent g c = λ calls moved some. inl (moved_same c.args.pass.now calls moved, refl)

pub returns-in-Ok-Ask-clause-unspent : goal.returns-in-Ok-Ask-clause-unspent
returns-in-Ok-Ask-clause-unspent g c = λ calls moved some. inr (c.asked_page.ensures.below some)

pub returns-in-Err-clause-unspent : goal.returns-in-Err-clause-unspent
returns-in-Err-clause-unspent g c = λ calls moved some. inl (moved_same c.args.pass.now calls moved, refl)
