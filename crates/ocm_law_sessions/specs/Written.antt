-- Which records are written for a history.
use Rattle.std.specs.Prelude.{◌≡◌, ℕ, ◌+◌, ◌==◌, List, [], ◌∷◌, ◌++◌, length, Bool, false, ◌&&◌, if◌then◌else◌, ⊤}
use Rattle.ocm_entry.specs.declared.asks.Ask.{Ask}
use Rattle.ocm_entry.specs.declared.entries.Entry.{Entry}
use Rattle.ocm_entry_bytes.specs.Spells.{eight_bytes, spelling, Fits, AreBytes}
use Rattle.ocm_entry.specs.Ticks.{is_tick}
use Rattle.ocm_rules.specs.Shares.{moment}

-- a moment in eight bytes, and behind it the spelling of an ask that is no tick
abbrev pub stamp : ℕ → Ask → List ℕ
stamp clock ask = if is_tick ask then eight_bytes clock else eight_bytes clock ++ spelling ask

-- The record of an entry that changes something after these kept entries: in form 1 the spelling of its ask, in form 2
-- the moment at it and, where it is no tick, the spelling of its ask.
unfoldable pub record_of : ℕ → List Entry → Entry → List ℕ
record_of form k e = if form == 1 then spelling e.ask else stamp (moment (e ∷ k)) e.ask

-- the records in form 2 of those of these kept entries that are no tick, the oldest first
abbrev pub ask_records : List Entry → List (List ℕ)
ask_records [] = []
ask_records (e ∷ before) = if is_tick e.ask then ask_records before else ask_records before ++ record_of 2 before e ∷ []

-- The records in form 2 of a list of kept entries, the oldest first: for each that is no tick the moment at it and its
-- spelling, and for a tick that is the newest its moment. The other ticks show in the moments of what follows them.
abbrev pub records_of : List Entry → List (List ℕ)
records_of [] = []
records_of (e ∷ before) = ask_records before ++ record_of 2 before e ∷ []

-- How many bytes of an area the records of those take that are no tick: for each 13, which are the gate byte, four bytes
-- of length and eight of the moment, and its spelling.
abbrev pub asks_size : List Entry → ℕ
asks_size [] = 0
asks_size (e ∷ before) = if is_tick e.ask then asks_size before else asks_size before + (13 + length (spelling e.ask))

-- Each ask of these kept entries has a spelling, and its fields are values of their types. So of each the spelling is
-- read back, and its record has at most 2,097,152 bytes.
abbrev pub IsSpelled : List Entry → Type 0
IsSpelled [] = ⊤
IsSpelled (e ∷ before) = Fits e.ask × IsSpelled before

-- whether the newest entry is a tick
abbrev pub ends_with_tick : List Entry → Bool
ends_with_tick [] = false
ends_with_tick (e ∷ before) = is_tick e.ask

-- no tick directly follows a tick
abbrev pub TicksApart : List Entry → Type 0
TicksApart [] = ⊤
TicksApart (e ∷ before) = ((is_tick e.ask && ends_with_tick before) ≡ false) × TicksApart before

-- each of these records is made of bytes
abbrev pub AreAllBytes : List (List ℕ) → Type 0
AreAllBytes [] = ⊤
AreAllBytes (r ∷ rs) = AreBytes r × AreAllBytes rs
