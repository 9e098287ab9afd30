-- The rule that the turnstile's table keeps between any two steps.
-- Word 0 is the next ticket, word 1 the number of turns that are over, and slot 0 holds the value or nothing. On the words after these callers sleep, and wait for the end of another's work: the rule says nothing of them. A seat's number is its place among the views.
-- A turn ends a call or doesn't: it may begin a call that has work to do, or find that another has. While that work is awaited, one view has its mark, and the history grows by the calls of others.
use Rattle.std.specs.Prelude.{◌≡◌, ◌≢◌, ℕ, ◌+◌, ◌^◌, ◌<◌, ◌≤◌, List, [], ◌∷◌, length, true, false, Option, Some, None, ◌⊎◌}
use mathlib.Core.Option as home
use lib.ListN.{get_elem?}
use Rattle.atomic_table.specs.Table.{State}
use Rattle.ocm_entry.specs.declared.entries.Entry.{Entry}
use Rattle.ocm_turn.specs.declared.behind.Behind.{Behind}
use Rattle.ocm_turn.specs.declared.view.View.{View}
use Rattle.ocm_turn.specs.declared.view.Stage.TheVariants.{New, Named, Spent}
use Rattle.ocm_turn.specs.Calls.{IsOlderPart, StandIn, InOrder, Disjoint}
use Rattle.ocm_turn.specs.Passes.{all_parts}

-- the view of the first seat, before its base is named
abbrev pub newcomer : {G M : Type 0} → ℕ → G → View G M
newcomer limit terms = record { stage = New; limit = limit; terms = Some terms; base = []; seen = []; moments = []; heard = []; heard_moments = []; mine = []; met_base = []; met_terms = Some terms; ticket = None; turn = false; found = []; found_moments = []; lent = None; held = None; drawn = 0; parts = all_parts }

-- the view of a seat that was joined to another
abbrev pub spent_view : {G M : Type 0} → View G M
spent_view = record { stage = Spent; limit = 0; terms = None; base = []; seen = []; moments = []; heard = []; heard_moments = []; mine = []; met_base = []; met_terms = None; ticket = None; turn = false; found = []; found_moments = []; lent = None; held = None; drawn = 0; parts = 0 }

-- no ticket in hand, and no call that was begun
abbrev pub IsIdle : {G M : Type 0} → View G M → Type 0
IsIdle v = (v.ticket ≡ None) × (v.turn ≡ false) × (v.stage ≡ Named) × (v.held ≡ None)

-- a view agrees with the limit, the terms, the base, the history with its moments, the mark that is awaited, the turns that are over and the next ticket
pub record Fits {G M : Type 0} (limit : ℕ) (terms : G) (base history : List Entry) (moments : List ℕ) (awaited : Option M) (over next : ℕ) (v : View G M) : Type 0 where
  pub stage : v.stage ≢ New
  pub limit_is : v.stage ≡ Named → v.limit ≡ limit
  pub base_is : v.stage ≡ Named → v.base ≡ base
  pub terms_are : v.stage ≡ Named → v.terms ≡ Some terms
  pub met : (v.met_base ≡ v.base) × (v.met_terms ≡ v.terms)
  pub seen : IsOlderPart v.seen history
  pub noted : IsOlderPart v.moments moments
  pub paired : length v.moments ≡ length v.seen
  pub heard : IsOlderPart v.heard v.seen
  pub heard_noted : IsOlderPart v.heard_moments v.moments
  pub mine : StandIn v.seen v.mine
  pub order : InOrder v.mine
  pub drawn : v.drawn ≤ length history
  pub ticket : (t : ℕ) → v.ticket ≡ Some t → (over ≤ t) × (t < next)
  pub turn : v.turn ≡ true → (v.ticket ≡ Some over) × (v.found ≡ history) × (v.found_moments ≡ moments) × (v.lent ≡ awaited)
  pub spent : v.stage ≢ Named → v.mine ≡ []

module _ {G M : Type 0} (views : List (View G M)) where
  -- the view of the seat j is v
  abbrev pub Sees : ℕ → View G M → Type 0
  Sees j v = get_elem? views j ≡ home.some v

  -- a fact of every view
  abbrev pub EachView : (View G M → Type 0) → Type 0
  EachView P = (j : ℕ) (v : View G M) → Sees j v → P v

  -- a fact of some view
  abbrev pub SomeView : (View G M → Type 0) → Type 0
  SomeView P = (j : ℕ) × (v : View G M) × Sees j v × P v

  -- the view of the seat j has this mark, and no other view has one
  abbrev pub HasAlone : M → ℕ → View G M → Type 0
  HasAlone mark j v = (v.held ≡ Some mark) × ((i : ℕ) (w : View G M) → i ≢ j → Sees i w → w.held ≡ None)

-- the mark that is awaited is in the hand of one view, and where none is, no view has one
abbrev pub IsHeld : {G M : Type 0} → Option M → List (View G M) → Type 0
IsHeld None views = EachView views (λ v. v.held ≡ None)
IsHeld (Some mark) views = (j : ℕ) × (v : View _ _) × Sees views j v × HasAlone views mark j v

-- no ticket is in the hand of two views
abbrev pub OneHand : {G M : Type 0} → List (View G M) → Type 0
OneHand {G} {M} views = (i j : ℕ) (v w : View G M) (t : ℕ) → Sees views i v → Sees views j w → v.ticket ≡ Some t → w.ticket ≡ Some t → i ≡ j

-- no place has the calls of two views
abbrev pub AllApart : {G M : Type 0} → List (View G M) → Type 0
AllApart {G} {M} views = (i j : ℕ) (v w : View G M) → i ≢ j → Sees views i v → Sees views j w → Disjoint v.mine w.mine

-- a number of each view, added up
abbrev pub total : {G M : Type 0} → (View G M → ℕ) → List (View G M) → ℕ
total f [] = 0
total f (v ∷ views) = f v + total f views

-- how many calls a view has of its own
abbrev pub calls_of : {G M : Type 0} → View G M → ℕ
calls_of v = length v.mine

abbrev pub parts_of : {G M : Type 0} → View G M → ℕ
parts_of v = v.parts

-- a seat that can make calls has a part
abbrev pub HasPart : {G M : Type 0} → View G M → Type 0
HasPart v = v.stage ≡ Named → 0 < v.parts

-- The calls of all views are this many, and no more parts are out than there are; where none is lost, each seat that can make calls has one.
pub record Tally {G M : Type 0} (calls : ℕ) (views : List (View G M)) : Type 0 where
  pub counted : total calls_of views ≡ calls
  pub most : total parts_of views ≤ all_parts
  pub held : total parts_of views ≡ all_parts → EachView views HasPart

-- what stands behind the turnstile has these terms, stands for the base and the history with its moments, has answered as many calls, and waits for this mark
pub record StandsBehind {T G M : Type 0} (terms_of : T → G) (stands : T → List Entry → List Entry → List ℕ → Type 0) (awaited_of : T → Option M) (terms : G) (base history : List Entry) (moments : List ℕ) (awaited : Option M) (behind : Behind T) : Type 0 where
  pub terms_are : terms_of behind.value ≡ terms
  pub stands_for : stands behind.value base history moments
  pub calls : behind.calls ≡ length history
  pub awaits : awaited_of behind.value ≡ awaited

module _ {T G M : Type 0} (terms_of : T → G) (stands : T → List Entry → List Entry → List ℕ → Type 0) (legal : G → List Entry → List Entry → Type 0) (awaited_of : T → Option M) (limit : ℕ) (terms : G) where
  -- the base, the one history with its moments, the mark that is awaited, the turns that are over, and the next ticket
  pub record Rule (base history : List Entry) (moments : List ℕ) (awaited : Option M) (over next : ℕ) (homes : List (home.Option (Option (Behind T)))) (views : List (View G M)) : Type 0 where
    pub order : over ≤ next
    -- words are below this
    pub tickets : next < 2 ^ 64
    pub paired : length moments ≡ length history
    pub bounded : length history ≤ limit
    -- there is a place left for the call that is awaited
    pub room : awaited ≢ None → length history < limit
    pub lawful : legal terms base history
    pub each : EachView views (Fits limit terms base history moments awaited over next)
    pub waiting : (t : ℕ) → over ≤ t → t < next → SomeView views (λ v. v.ticket ≡ Some t)
    pub one_hand : OneHand views
    pub apart : AllApart views
    pub told : SomeView views (λ v. (v.stage ≡ Named) × (v.seen ≡ history))
    pub held : IsHeld awaited views
    pub at_home : ((behind : Behind T) × (homes ≡ home.some (Some behind) ∷ []) × StandsBehind terms_of stands awaited_of terms base history moments awaited behind × EachView views (λ v. v.turn ≡ false))
        ⊎ ((homes ≡ home.none ∷ []) × SomeView views (λ v. v.turn ≡ true))

  -- the rule in full
  pub record Kept (s : State (Option (Behind T)) (View G M)) : Type 0 where
    pub base : List Entry
    pub history : List Entry
    pub moments : List ℕ
    pub awaited : Option M
    pub over : ℕ
    pub next : ℕ
    pub rest : List ℕ
    pub words : s.words ≡ next ∷ over ∷ rest
    pub rule : Rule base history moments awaited over next s.homes s.views
    pub tally : Tally (length history) s.views

  -- the table just opened, before the base is named
  pub record Opened (value : T) (s : State (Option (Behind T)) (View G M)) : Type 0 where
    pub rest : List ℕ
    pub words : s.words ≡ 0 ∷ 0 ∷ rest
    pub homes : s.homes ≡ home.some (Some record { value = value; calls = 0 }) ∷ []
    pub views : s.views ≡ newcomer limit terms ∷ []

-- the fact that the table keeps, where it was made with this limit and value
abbrev pub Holds : {T G M : Type 0} → (T → G) → (T → List Entry → List Entry → List ℕ → Type 0) → (G → List Entry → List Entry → Type 0) → (T → Option M) → ℕ → T → State (Option (Behind T)) (View G M) → Type 0
Holds terms_of stands legal awaited_of limit value s = Opened terms_of stands legal awaited_of limit (terms_of value) value s ⊎ Kept terms_of stands legal awaited_of limit (terms_of value) s
