use Rattle.std.proofs.Common.{true, false, sym, ap, ◌∙◌, Ok}
use Rattle.ocm_compact.proofs.Going.{takes-ask}
use Rattle.ocm_history_records.proofs.Asking.{spelled-proper}
use Rattle.ocm_compact.proofs.replays.Replay.take.Goals as goal

pub take-requires : goal.take-requires
take-requires c = spelled-proper c.args.ask.now c.requires

pub returns-then-not-taken-clause-goes_on : goal.returns-then-not-taken-clause-goes_on
returns-then-not-taken-clause-goes_on c =
    takes-ask c.args.self.now _ c.args.ask.now false c.take.ensures.home (λ g after. sym c.if-not-taken.true ∙ c.in_ok-taken.ensures.taken g after) (λ yes. absurd (cc))

pub returns-clause-goes_on : goal.returns-clause-goes_on
returns-clause-goes_on c =
    takes-ask c.args.self.now _ c.args.ask.now true c.take.ensures.home (λ g after. sym c.if-not-taken.false ∙ c.in_ok-taken.ensures.taken g after)
    (λ yes. record {
      clock = c.moment-clock.result;
      small = c.moment-clock.type_inv;
      at = c.moment-clock.ensures.history;
      lists = λ g after. c.take.ensures.goes_on g after (c.in_ok-taken.was ∙ ap (λ b. Ok b) c.if-not-taken.false);
      texts = c.in_ok-note.ensures.texts;
      fits = c.in_ok-note.ensures.fits;
    })
