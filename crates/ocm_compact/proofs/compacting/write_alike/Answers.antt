use Rattle.std.proofs.Common.{◌≡◌, ap, ◌∙◌, subst, Ok, Some}
use Rattle.ocm_law_alike.specs.Alike.{AnswersAlike}
use Rattle.ocm_law_sessions.specs.Readings.{opened}
use Rattle.ocm_compact.proofs.compacting.write_alike.Goals as goal

pub returns-clause-made : goal.returns-clause-made
returns-clause-made c = λ k h.
    (let comes = c.comes_to_alike.ensures (c.in_ok-alike.was ∙ ap (λ b. Ok b) c.if-not-alike.false) k h in
    record {
      records = c.args.texts.now;
      is_image = c.in_ok-made.ensures;
      least = comes.least;
      opens = subst (λ l. opened l 2 c.args.texts.now ≡ Some comes.least) c.requires.host comes.opens;
      alike = subst (λ l. AnswersAlike l k comes.least) c.requires.host comes.alike;
    })
