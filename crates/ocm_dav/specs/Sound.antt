-- What holds of all that is wanted.
use Rattle.std.specs.Prelude.{Bool, true, false, IfSome, IsTrue}
use Rattle.ocm_davmore.specs.Ranges.{is_span}
use Rattle.ocm_entry.specs.Proper.{is_proper}
use Rattle.ocm_entry.specs.declared.asks.Ask as asked
use Rattle.ocm_entry.specs.declared.asks.Ask.TheVariants as asks
use Rattle.ocm_dav.specs.declared.wants.Wanted.{Wanted}
use Rattle.ocm_dav.specs.declared.wants.Wanted.TheVariants.{Ask, Page}

-- what is asked is proper
abbrev pub AsksProperly : Wanted → Type 0
AsksProperly (Ask ask shape) = IsTrue (is_proper ask)
AsksProperly (Page page) = Unit {0}

-- the range of a reply's page has a written form
abbrev pub HasSpan : Wanted → Type 0
HasSpan (Ask ask shape) = IfSome shape.range (λ span. IsTrue (is_span span))
HasSpan (Page page) = Unit {0}

-- whether an ask is one that requests spell: none of the steps that a server takes by itself
abbrev pub is_requested : asked.Ask → Bool
is_requested asks.Due = false
is_requested (asks.Settle number status id) = false
is_requested (asks.Tick clock) = false
is_requested _ = true

-- what is asked is such an ask
abbrev pub AsksOutside : Wanted → Type 0
AsksOutside (Ask ask shape) = IsTrue (is_requested ask)
AsksOutside (Page page) = Unit {0}
