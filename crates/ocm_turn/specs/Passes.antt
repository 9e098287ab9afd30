-- What contracts see of a turnstile and of a pass.
use Rattle.std.specs.Prelude.{◌≡◌, ℕ, ◌^◌, List, Option, Some, None, true, is_some}
use Rattle.std.proofs.lemmas.Bool.{false≢true}
use Rattle.atomic_table.specs.Seated.{TableId}
use Rattle.ocm_entry.specs.declared.entries.Entry.{Entry}
use Rattle.ocm_turn.specs.declared.view.Call.{Call}

-- a turnstile: which one it is, and how many calls it takes
pub record Gate : Type 0 where
  pub id : TableId
  pub limit : ℕ

-- How many parts a turnstile has. Its first pass has all of them, and each pass that is split off another takes one.
abbrev pub all_parts : ℕ
all_parts = 2 ^ 64

-- a pass: its turnstile, the base and the terms of the value behind it, the history up to the pass's last call with the moment behind each of its entries, its own calls, the greatest number of calls that were over when a turn of it was used, and its parts
pub record Known (Terms : Type 0) : Type 0 where
  pub turnstile : TableId
  pub base : List Entry
  pub terms : Terms
  pub seen : List Entry
  pub moments : List ℕ
  pub mine : List Call
  pub drawn : ℕ
  pub parts : ℕ

-- a pass belongs to the turnstile that made it
abbrev pub BelongsTo : {Terms : Type 0} → Gate → Known Terms → Type 0
BelongsTo gate pass = pass.turnstile ≡ gate.id

-- the base and the terms of a pass never change
pub record SameGround {Terms : Type 0} (old new : Known Terms) : Type 0 where
  pub turnstile : new.turnstile ≡ old.turnstile
  pub base : new.base ≡ old.base
  pub terms : new.terms ≡ old.terms

-- the value of an option that has one
abbrev pub the_some : {A : Type 0} → (o : Option A) → is_some o ≡ true → A
the_some None none = absurd (false≢true none)
the_some (Some a) some = a
