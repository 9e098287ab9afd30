use Rattle.ocm_davmore.proofs.RangePlaces.{first_selected}
use Rattle.ocm_davmore.proofs.ranges.Span.within.Goals as goal

pub returns-in-First-clause-unsatisfiable : goal.returns-in-First-clause-unsatisfiable
returns-in-First-clause-unsatisfiable c =
    (λ none. absurd cc, λ none. absurd (none c.in-First.first c.if-first-size.true (first_selected c.args.self.now c.in-First.first c.in-First.last c.args.size c.in-First.is c.requires.span)))
