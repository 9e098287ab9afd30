-- What each kind of step does to the seat's own view, and what it tells.
use Rattle.std.specs.Prelude.{◌≡◌, ◌≢◌, ℕ, ◌+◌, ◌-◌, ◌<◌, ◌≤◌, nat_lt, if◌then◌else◌, List, [], ◌∷◌, length, true, false, Option, Some, None, max}
use Rattle.atomic_table.specs.Table.{Me, Step, rest}
use Rattle.ocm_entry.specs.declared.entries.Entry.{Entry}
use Rattle.ocm_turn.specs.declared.behind.Behind.{Behind}
use Rattle.ocm_turn.specs.declared.view.View.{View}
use Rattle.ocm_turn.specs.declared.view.Stage.TheVariants.{Named}
use Rattle.ocm_turn.specs.Calls.{IsOlderPart, StandIn, InOrder, call, merged, longer, shorter, moments_of_longer, moments_of_shorter}
use Rattle.ocm_turn.specs.Passes.{all_parts}
use Rattle.ocm_turn.specs.Rule.{StandsBehind}

-- the mark that is awaited behind the end of a call, by the seat's own and by what was awaited: none where it is the own one
abbrev pub left_awaited : {M : Type 0} → Option M → Option M → Option M
left_awaited (Some own) awaited = None
left_awaited None awaited = awaited

module _ {G M : Type 0} where
  -- the base is named
  abbrev pub named : View G M → List Entry → View G M
  named v base = record v { stage = Named; base = base; met_base = base }

  -- a ticket was drawn
  abbrev pub ticketed : View G M → ℕ → View G M
  ticketed v n = record v { ticket = Some n }

  -- the turn has come, at this history, with this mark awaited
  abbrev pub turned_to : View G M → List Entry → List ℕ → Option M → View G M
  turned_to v history moments awaited = record v { found = history; found_moments = moments; lent = awaited; turn = true }

  -- the turn was passed on with this mark in hand, and no call was ended
  abbrev pub passed : View G M → Option M → View G M
  passed v mark = record v { ticket = None; turn = false; held = mark }

  -- the turn was passed on, since the limit was reached
  abbrev pub refused : View G M → View G M
  refused v = record v { ticket = None; turn = false; held = None; drawn = length v.found }

  -- a view without what changes from turn to turn while a call goes on
  abbrev pub settled : View G M → View G M
  settled v = record v { ticket = None; turn = false; held = None; found = []; found_moments = []; lent = None }

  -- a call that found the limit reached, at this history with this mark awaited
  abbrev pub spent_at : View G M → List Entry → List ℕ → Option M → View G M
  spent_at v history moments awaited = refused (turned_to v history moments awaited)

  -- a call was finished with this entry, at this moment
  abbrev pub finished : View G M → Entry → ℕ → View G M
  finished v e at = record v { seen = e ∷ v.found; moments = at ∷ v.found_moments; mine = call (length v.found) e ∷ v.mine; ticket = None; turn = false; held = None; drawn = length v.found }

  -- a whole call, whose last turn came at this history with this mark awaited
  abbrev pub called : View G M → List Entry → List ℕ → Option M → Entry → ℕ → View G M
  called v history moments awaited e at = finished (turned_to v history moments awaited) e at

  -- one call was made, with this entry, below the limit, and its last turn came at a history that is no older than what was seen
  abbrev pub HasCalled : ℕ → View G M → View G M → Entry → Type 0
  HasCalled limit v w e = (history : List Entry) × (moments : List ℕ) × (awaited : Option M) × (at : ℕ) × (w ≡ called v history moments awaited e at)
      × IsOlderPart v.seen history × IsOlderPart v.moments moments × (v.drawn ≤ length history) × (length history < limit)

  -- what was seen is legal under the view's terms
  abbrev pub IsLegal : (G → List Entry → List Entry → Type 0) → View G M → Type 0
  IsLegal legal v = (terms : G) × (v.terms ≡ Some terms) × legal terms v.base v.seen

  -- one part was given away
  abbrev pub parted : View G M → View G M
  parted v = record v { parts = v.parts - 1 }

  -- a new seat beside this one: it has seen the same and made no call, and has one of its parts, where it had more than one
  abbrev pub beside : View G M → View G M
  beside v = record v { mine = []; ticket = None; turn = false; held = None; parts = if nat_lt 1 v.parts then 1 else 0 }

  -- both seats in one
  abbrev pub joined : View G M → View G M → View G M
  joined v w = record v { seen = longer v.seen w.seen; moments = moments_of_longer v.seen w.seen v.moments w.moments; heard = shorter v.seen w.seen; heard_moments = moments_of_shorter v.seen w.seen v.moments w.moments; mine = merged v.mine w.mine; met_base = w.base; met_terms = w.terms; drawn = max v.drawn w.drawn; parts = v.parts + w.parts }

  -- what the rule says of a view by itself
  pub record Sound (v : View G M) : Type 0 where
    pub heard : IsOlderPart v.heard v.seen
    pub heard_noted : IsOlderPart v.heard_moments v.moments
    pub paired : length v.moments ≡ length v.seen
    pub mine : StandIn v.seen v.mine
    pub order : InOrder v.mine
    pub met : (v.met_base ≡ v.base) × (v.met_terms ≡ v.terms)

-- a value stands for a base and a history, and came to be by this history with these moments behind its entries
abbrev pub StandsAt : {T : Type 0} → (T → List Entry → List Entry → Type 0) → (T → List Entry → List Entry → List ℕ → Type 0) → T → List Entry → List Entry → List ℕ → Type 0
StandsAt stands came x base history moments = stands x base history × came x base history moments

-- a seat holds the value, which has the terms of the seat's view and stands for its base and this history with these moments, which are legal, has answered as many calls, and waits for this mark
abbrev pub HasInHand : {T G M : Type 0} → (T → G) → (T → List Entry → List Entry → List ℕ → Type 0) → (G → List Entry → List Entry → Type 0) → (T → Option M) → Me (Option (Behind T)) (View G M) → List Entry → List ℕ → Option M → Type 0
HasInHand {T} terms_of stands legal awaited_of m history moments awaited = (behind : Behind T) × (m.1 ≡ (0, Some behind) ∷ []) × (m.0.terms ≡ Some (terms_of behind.value))
    × StandsBehind terms_of stands awaited_of (terms_of behind.value) m.0.base history moments awaited behind × legal (terms_of behind.value) m.0.base history

module _ {B G M : Type 0} where
  -- the base is named, at a load of word 0: one of which this is known
  abbrev pub names : (List Entry → Type 0) → Step (Option B) → Me (Option B) (View G M) → ℕ → Me (Option B) (View G M) → Type 0
  names known st m r m' = (base : List Entry) × (m' ≡ (named m.0 base, m.1)) × known base

  -- a try to draw a ticket, by an exchange of word 0
  abbrev pub draws : Step (Option B) → Me (Option B) (View G M) → ℕ → Me (Option B) (View G M) → Type 0
  draws st m r m' = (m'.1 ≡ m.1) × (r ≡ st.first → m'.0 ≡ ticketed m.0 r) × (r ≢ st.first → m'.0 ≡ m.0)

  -- a ring of a bell changes nothing else
  abbrev pub rings : Step (Option B) → Me (Option B) (View G M) → ℕ → Me (Option B) (View G M) → Type 0
  rings st m r m' = m' ≡ m

  -- a turn that ends and begins no call, by an add to word 1, gives the slot home
  abbrev pub passes : Step (Option B) → Me (Option B) (View G M) → ℕ → Me (Option B) (View G M) → Type 0
  passes st m r m' = (m'.1 ≡ rest m.1) × (m'.0 ≡ passed m.0 None)

  -- a turn that found the limit reached, by an add to word 1, gives the slot home
  abbrev pub refuses : Step (Option B) → Me (Option B) (View G M) → ℕ → Me (Option B) (View G M) → Type 0
  refuses st m r m' = (m'.1 ≡ rest m.1) × (m'.0 ≡ refused m.0)

  -- a finish, by an add to word 1, gives the slot home
  abbrev pub finishes : Entry → ℕ → Step (Option B) → Me (Option B) (View G M) → ℕ → Me (Option B) (View G M) → Type 0
  finishes e at st m r m' = (m'.1 ≡ rest m.1) × (m'.0 ≡ finished m.0 e at) × Sound m'.0 × (length m'.0.mine ≤ length m'.0.seen)

  -- a look at what the rule says of the view changes nothing
  abbrev pub checks : Step (Option B) → Me (Option B) (View G M) → ℕ → Me (Option B) (View G M) → Type 0
  checks st m r m' = (m' ≡ m) × Sound m'.0 × (length m'.0.mine ≤ m.0.limit)

-- a turn that begins a call, by an add to word 1, gives the slot home, with the mark in hand for which the value waits
abbrev pub sets_apart : {T G M : Type 0} → (T → Option M) → Step (Option (Behind T)) → Me (Option (Behind T)) (View G M) → ℕ → Me (Option (Behind T)) (View G M) → Type 0
sets_apart {T} awaited_of st m r m' = (m'.1 ≡ rest m.1) × ((behind : Behind T) → m.1 ≡ (0, Some behind) ∷ [] → m'.0 ≡ passed m.0 (awaited_of behind.value))

-- The turn came: the seat has the slot, and has found the history with the mark that is awaited. What it holds of an own call is what the value waits for. A seat that has all parts has made as many calls as are done.
abbrev pub TurnCame : {T G M : Type 0} → (T → G) → (T → List Entry → List Entry → List ℕ → Type 0) → (G → List Entry → List Entry → Type 0) → (T → Option M) → ℕ → Me (Option (Behind T)) (View G M) → Me (Option (Behind T)) (View G M) → Type 0
TurnCame {T} {G} {M} terms_of stands legal awaited_of limit m m' = (m'.0 ≡ turned_to m.0 m'.0.found m'.0.found_moments m'.0.lent)
    × HasInHand terms_of stands legal awaited_of m' m'.0.found m'.0.found_moments m'.0.lent
    × IsOlderPart m.0.seen m'.0.found × IsOlderPart m.0.moments m'.0.found_moments × (length m'.0.found_moments ≡ length m'.0.found)
    × StandIn m'.0.found m.0.mine × InOrder m.0.mine
    × (m.0.drawn ≤ length m'.0.found) × (length m'.0.found ≤ limit) × (m'.0.lent ≢ None → length m'.0.found < limit)
    × ((mark : M) → m.0.held ≡ Some mark → m'.0.lent ≡ Some mark) × (m.0.parts ≡ all_parts → length m.0.mine ≡ length m'.0.found)

-- a look at word 1 whose turn has come takes the slot, and any other changes nothing
abbrev pub looks : {T G M : Type 0} → (T → G) → (T → List Entry → List Entry → List ℕ → Type 0) → (G → List Entry → List Entry → Type 0) → (T → Option M) → ℕ → Step (Option (Behind T)) → Me (Option (Behind T)) (View G M) → ℕ → Me (Option (Behind T)) (View G M) → Type 0
looks terms_of stands legal awaited_of limit st m r m' =
    (m.0.ticket ≡ Some r → TurnCame terms_of stands legal awaited_of limit m m')
    × (m.0.ticket ≢ Some r → m' ≡ m)
