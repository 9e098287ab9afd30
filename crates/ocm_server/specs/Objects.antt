-- An object served by workers, from its first call to its last.
use Rattle.std.specs.Prelude.{◌≡◌, ℕ, ◌+◌, ◌<◌, ◌≤◌, List, [], ◌∷◌, length, slice_index_or, Option, Some, None, ⊤}
use Rattle.std.specs.List.{AllByRecursion}
use Rattle.rand_chacha.specs.ChaCha.{ChaCha, key_of}
use Rattle.ocm_entry.specs.declared.entries.Entry.{Entry}
use Rattle.ocm_turn.specs.declared.view.Call.{Call}
use Rattle.ocm_turn.specs.Calls.{IsOlderPart, StandIn, InOrder, Disjoint, entries, merged}
use Rattle.ocm_turn.specs.Passes.{Gate, Known, BelongsTo}
use Rattle.ocm_dav.specs.declared.configs.Config.{Config}
use Rattle.ocm_server_connections.specs.Sides.{Sides}
use Rattle.ocm_server.specs.Visits.{Work, Worked}

-- a pass that was split off: it has seen what the other has seen, with the moments, and made no call, and has one of its parts
abbrev pub beginner : {Terms : Type 0} → Known Terms → Known Terms
beginner pass = record { turnstile = pass.turnstile; base = pass.base; terms = pass.terms; seen = pass.seen; moments = pass.moments; mine = []; drawn = pass.drawn; parts = 1 }

-- the stream of drawn values of the worker at a place
abbrev pub draw_at : List ℕ → ℕ → ChaCha
draw_at key place = record { key = key_of key; stream = place; word_pos = 0 }

-- the calls of a pass, where there is one
abbrev pub mine_of : {Terms : Type 0} → Option (Known Terms) → List Call
mine_of (Some pass) = pass.mine
mine_of None = []

-- the greatest number of calls that a pass found when one of its own ended or was refused, where there is a pass
abbrev pub drawn_of : {Terms : Type 0} → Option (Known Terms) → ℕ
drawn_of (Some pass) = pass.drawn
drawn_of None = 0

-- the parts of a pass, where there is one
abbrev pub parts_of : {Terms : Type 0} → Option (Known Terms) → ℕ
parts_of (Some pass) = pass.parts
parts_of None = 0

-- a history, and the moments behind its entries, the newest first
pub record Past : Type 0 where
  pub history : List Entry
  pub moments : List ℕ

-- what a pass knows of the past
abbrev pub past_of : {Terms : Type 0} → Known Terms → Past
past_of pass = record { history = pass.seen; moments = pass.moments }

-- a past is an older part of another
pub record IsOlder (older whole : Past) : Type 0 where
  pub history : IsOlderPart older.history whole.history
  pub moments : IsOlderPart older.moments whole.moments

-- what a pass knows of the past, where there is one, is an older part of it
abbrev pub Knows : {Terms : Type 0} → Option (Known Terms) → Past → Type 0
Knows (Some pass) past = IsOlder (past_of pass) past
Knows None past = ⊤

-- calls joined with those of others, one after another
abbrev pub gathered : List Call → List (List Call) → List Call
gathered calls [] = calls
gathered calls (others ∷ more) = gathered (merged calls others) more

-- no place has calls of two of them
abbrev pub AllApart : List (List Call) → Type 0
AllApart [] = ⊤
AllApart (calls ∷ others) = AllByRecursion (Disjoint calls) others × AllApart others

-- how many calls there are in all
abbrev pub number_of : List (List Call) → ℕ
number_of [] = 0
number_of (calls ∷ others) = length calls + number_of others

-- the calls of each stand in the history, in the order in which they were made, each call at a place of its own, and there are so many in all
pub record Shares (history : List Entry) (all : List (List Call)) (own : ℕ) : Type 0 where
  pub stand : AllByRecursion (StandIn history) all
  pub order : AllByRecursion InOrder all
  pub apart : AllApart all
  pub counted : own ≡ number_of all

-- a worker before it begins: with its stream of drawn values, and a pass that was split off
abbrev pub begun : {C Terms : Type 0} → Work C Terms → ChaCha → Known Terms → Work C Terms
begun w draw pass = record w { draw = draw; pass = Some (beginner pass) }

-- one worker: it began with its stream of drawn values and a pass that knows no call, and served its door; these are its calls, and its pass is gone.
-- What its pass knew at last is an older part of the past. No number of calls that it found is above that of all: it was refused a call only where so many were made as the turnstile allows.
pub record Shift {C Terms : Type 0} (sides : C → Sides) (config : Config) (gate : Gate) (first : Known Terms) (draw : ChaCha) (old new : Work C Terms) (calls : List Call) (past : Past) : Type 0 where
  pub last : Known Terms
  pub worked : Worked sides config gate (begun old draw first) (record new { pass = Some last })
  pub calls_are : calls ≡ last.mine
  pub knows : IsOlder (past_of last) past
  pub within : last.drawn ≤ length past.history
  pub no_pass : new.pass ≡ None

-- each of these workers did its shift, with these calls; `as_work` tells what is known of a worker, before it and after
abbrev pub EachShift : {C Terms W : Type 0} (sides : C → Sides) (config : Config) (draw_key : List ℕ) (old new : List W) (as_work : W → Work C Terms) → Gate → Known Terms → Past → List (List Call) → Type 0
EachShift {C} {Terms} {W} sides config draw_key old new as_work gate first past all =
    (length all ≡ length old) × ((i : ℕ) (d : W) → i < length old →
    Shift sides config gate first (draw_at draw_key i) (as_work (slice_index_or old i d)) (as_work (slice_index_or new i d)) (slice_index_or all i []) past)

-- the first pass of a turnstile of this limit, over a value of these terms
pub record Begins {Terms : Type 0} (limit : ℕ) (terms : Terms) (gate : Gate) (first : Known Terms) : Type 0 where
  pub limit_is : gate.limit ≡ limit
  pub own : BelongsTo gate first
  pub terms_are : first.terms ≡ terms
  pub unseen : first.seen ≡ []
  pub unnoted : first.moments ≡ []
  pub uncalled : first.mine ≡ []
  pub undrawn : first.drawn ≡ 0

-- A value was served: the turnstile and its first pass, the one history with the moment behind each of its entries, and the calls of each worker, which are the whole of it: nobody else made a call.
-- What is known of each worker is told apart, by the history with its moments and the calls of each.
pub record Service {T Terms : Type 0} (terms_of : T → Terms) (stands : T → List Entry → List Entry → Type 0) (came : T → List Entry → List Entry → List ℕ → Type 0) (legal : Terms → List Entry → List Entry → Type 0) (gate : Gate) (first : Known Terms) (left : T) (calls own : ℕ) (IsEach : Past → List (List Call) → Type 0) : Type 0 where
  pub history : List Entry
  pub moments : List ℕ
  pub all : List (List Call)
  pub each : IsEach (record { history = history; moments = moments }) all
  pub shares : Shares history all own
  pub stands_for : stands left first.base history
  pub came_by : came left first.base history moments
  pub paired : length moments ≡ length history
  pub lawful : legal first.terms first.base history
  pub same_terms : terms_of left ≡ first.terms
  pub counted : calls ≡ length history
  pub all_own : own ≡ calls
  pub whole : entries (gathered [] all) ≡ history
