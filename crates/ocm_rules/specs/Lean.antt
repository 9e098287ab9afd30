use Rattle.std.specs.Prelude.{ℕ, ◌+◌, List, [], ◌∷◌, ◌++◌, length, map, filter, count_by, nat_eq, Bool, true, false, not, ◌&&◌, if◌then◌else◌, Option, Some, None}
use Rattle.ocm_entry.specs.declared.asks.Ask.{Ask}
use Rattle.ocm_entry.specs.declared.asks.Ask.TheVariants.{Dav, Tick}
use Rattle.ocm_entry.specs.declared.asks.Method.TheVariants.{Put}
use Rattle.ocm_entry.specs.Ticks.{is_tick}
use Rattle.ocm_entry.specs.declared.entries.Entry.{Entry}
use Rattle.ocm_entry.specs.declared.rows.Place.{Place}
use Rattle.ocm_rules.specs.Files.{Act, Placed, Gone, Carried, act_after, same_place, is_at_or_above, moved}
use Rattle.ocm_rules.specs.History.{kept}

-- the number of the kept entries that are no tick
abbrev pub count : List ℕ → List Entry → ℕ
count host g = count_by (λ (e : Entry). not (is_tick e.ask)) (kept host g)

-- ---- which bytes still stand

-- the place where a node was put
abbrev pub placed_at : Option Act → List Place
placed_at (Some (Placed there standing)) = there ∷ []
placed_at _ = []

-- whether bytes stay at a place at a copy or move
abbrev pub stays_at : Place → Place → Bool → Place → Bool
stays_at from to moving place = not (is_at_or_above to place) && not (moving && is_at_or_above from place)

-- where bytes stand after this was done, which stood at these places before
abbrev pub places_after : Option Act → List Place → List Place
places_after None places = places
places_after (Some (Placed there standing)) places = filter (λ place. not (same_place there place)) places
places_after (Some (Gone there)) places = filter (λ place. not (is_at_or_above there place)) places
places_after (Some (Carried from to moving)) places = filter (stays_at from to moving) places ++ map (moved from to) (filter (is_at_or_above from) places)

-- where the bytes stand that the kept entry of this number put, followed through every copy and move; the oldest entry has the number 1
abbrev pub places_of : List ℕ → List Entry → ℕ → List Place
places_of host [] k = []
places_of host (e ∷ before) k =
    if nat_eq k (length before + 1) then placed_at (act_after host before e.ask) else places_after (act_after host before e.ask) (places_of host before k)

-- whether bytes stand at some place
abbrev pub are_somewhere : List Place → Bool
are_somewhere [] = false
are_somewhere (place ∷ places) = true

-- whether what the kept entry of this number put still stands somewhere
abbrev pub still_stands : List ℕ → List Entry → ℕ → Bool
still_stands host g k = are_somewhere (places_of host g k)

-- ---- what has to be written down

-- an ask without its body, where it is a PUT
abbrev pub without_body : Ask → Ask
without_body (Dav secret Put path body) = Dav secret Put path []
without_body ask = ask

-- an entry, without its body where that no longer stands
abbrev pub emptied_unless : Bool → Entry → Entry
emptied_unless stands e = record { ask = if stands then e.ask else without_body e.ask; reply = e.reply }

-- these first entries of a list of kept ones, each without its body where that no longer stands after the whole list
abbrev pub emptied_among : List ℕ → List Entry → List Entry → List Entry
emptied_among host g [] = []
emptied_among host g (e ∷ before) = emptied_unless (still_stands host g (length before + 1)) e ∷ emptied_among host g before

-- an entry before others, unless it is a tick that another followed at once
abbrev pub unless_passed : Bool → Entry → List Entry → List Entry
unless_passed tick_follows e before = if tick_follows && is_tick e.ask then before else e ∷ before

-- the entries without each tick that another followed at once, where a tick follows the first or not
abbrev pub without_passed_ticks : Bool → List Entry → List Entry
without_passed_ticks tick_follows [] = []
without_passed_ticks tick_follows (e ∷ before) = unless_passed tick_follows e (without_passed_ticks (is_tick e.ask) before)

-- of a list of kept entries, what later replies can depend on
abbrev pub leaned : List ℕ → List Entry → List Entry
leaned host g = without_passed_ticks false (emptied_among host g g)

-- of a history, what later replies can depend on
abbrev pub lean : List ℕ → List Entry → List Entry
lean host g = leaned host (kept host g)
