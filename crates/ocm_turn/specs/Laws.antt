-- Laws of calls in a history, and of calls that were joined.
use Rattle.std.specs.Prelude.{◌≡◌, ◌≢◌, ◌+◌, List, [], ◌∷◌, length, ⊤}
use Rattle.ocm_entry.specs.declared.entries.Entry.{Entry}
use Rattle.ocm_turn.specs.declared.view.Call.{Call}
use Rattle.ocm_turn.specs.Calls.{entries, Each, StandIn, InOrder, Disjoint, merged}

-- each call has a place of its own
abbrev pub EachAlone : List Call → Type 0
EachAlone [] = ⊤
EachAlone (c ∷ before) = Each (λ b. c.place ≢ b.place) before × EachAlone before

-- calls in order have each a place of their own
abbrev pub OrderedAreAlone : Type 0
OrderedAreAlone = (calls : List Call) → InOrder calls → EachAlone calls

-- where joined calls stand in a history, both lists of them do
abbrev pub JoinedStand : Type 0
JoinedStand = (history : List Entry) (calls others : List Call) → StandIn history (merged calls others) → StandIn history calls × StandIn history others

-- where joined calls have each a place of their own, so have both lists of them, and no place stands in both
abbrev pub JoinedAreAlone : Type 0
JoinedAreAlone = (calls others : List Call) → EachAlone (merged calls others) → EachAlone calls × EachAlone others × Disjoint calls others

-- joined calls are as many as both lists of them
abbrev pub JoinedAreCounted : Type 0
JoinedAreCounted = (calls others : List Call) → length (merged calls others) ≡ length calls + length others

-- calls that stand in a history, in order, and are as many as its entries, are the whole of it
abbrev pub AllCallsAreTheHistory : Type 0
AllCallsAreTheHistory = (history : List Entry) (calls : List Call) → StandIn history calls → InOrder calls → length calls ≡ length history → entries calls ≡ history
