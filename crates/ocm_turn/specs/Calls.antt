-- Histories and calls of one's own in them, as the contracts of passes see them. All lists have the newest first.
use Rattle.std.specs.Prelude.{◌≡◌, ◌≢◌, ℕ, ◌<◌, List, [], ◌∷◌, ◌++◌, length, map, nat_eq, nat_lt, Option, Some, None, if◌then◌else◌, ⊤}
use Rattle.ocm_entry.specs.declared.asks.Ask.{Ask}
use Rattle.ocm_entry.specs.declared.replies.Reply.{Reply}
use Rattle.ocm_entry.specs.declared.entries.Entry.{Entry}
use Rattle.ocm_turn.specs.declared.view.Call.{Call}

-- an ask with its reply
abbrev pub entry : Ask → Reply → Entry
entry ask reply = record { ask = ask; reply = reply }

-- the first list is what is left of the second when some of its newest entries are taken away
abbrev pub IsOlderPart : {A : Type 0} → List A → List A → Type 0
IsOlderPart {A} older whole = (newer : List A) × (whole ≡ newer ++ older)

-- the entry at a place: the number of the entries before it
abbrev pub entry_at : List Entry → ℕ → Option Entry
entry_at [] place = None
entry_at (e ∷ before) place = if nat_eq place (length before) then Some e else entry_at before place

-- the call that has this place in the history
abbrev pub call : ℕ → Entry → Call
call place e = record { place = place; entry = e }

-- calls without their places
abbrev pub entries : List Call → List Entry
entries = map (λ c. c.entry)

-- a fact of each call
abbrev pub Each : (Call → Type 0) → List Call → Type 0
Each P [] = ⊤
Each P (c ∷ before) = P c × Each P before

-- each call stands in the history at its place
abbrev pub StandIn : List Entry → List Call → Type 0
StandIn history calls = Each (λ c. entry_at history c.place ≡ Some c.entry) calls

-- each call has a greater place than those before it: they stand in order, each at a place of its own
abbrev pub InOrder : List Call → Type 0
InOrder [] = ⊤
InOrder (c ∷ before) = Each (λ b. b.place < c.place) before × InOrder before

-- no place stands in both
abbrev pub Disjoint : List Call → List Call → Type 0
Disjoint calls others = Each (λ c. Each (λ d. c.place ≢ d.place) others) calls

-- the call at its place among others that stand in order
abbrev pub placed : Call → List Call → List Call
placed c [] = c ∷ []
placed c (b ∷ before) = if nat_lt b.place c.place then c ∷ b ∷ before else b ∷ placed c before

-- both lists of calls, in the order of their places
abbrev pub merged : List Call → List Call → List Call
merged [] others = others
merged (c ∷ before) others = placed c (merged before others)

-- the longer of two lists
abbrev pub longer : List Entry → List Entry → List Entry
longer a b = if nat_lt (length a) (length b) then b else a

-- the shorter of two lists
abbrev pub shorter : List Entry → List Entry → List Entry
shorter a b = if nat_lt (length a) (length b) then a else b

-- of the moments behind the entries of two lists those that belong to the longer list
abbrev pub moments_of_longer : List Entry → List Entry → List ℕ → List ℕ → List ℕ
moments_of_longer a b of_a of_b = if nat_lt (length a) (length b) then of_b else of_a

-- and those that belong to the shorter
abbrev pub moments_of_shorter : List Entry → List Entry → List ℕ → List ℕ → List ℕ
moments_of_shorter a b of_a of_b = if nat_lt (length a) (length b) then of_a else of_b
