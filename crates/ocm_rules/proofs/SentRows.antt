use Rattle.std.proofs.Common.{◌≡◌, ℕ, ◌+◌, ◌≤◌, List, [], ◌∷◌, ◌++◌, length, map, false, ◌||◌, refl, sym, ap, ◌∙◌, arith}
use Rattle.std.specs.Prelude.{Option, Some, None, is_some}
use Rattle.std.specs.Option.{option_or}
use Rattle.ocm_entry.specs.declared.entries.Entry.{Entry}
use Rattle.ocm_rules.specs.declared.rows.Message.{Message}
use Rattle.ocm_rules.specs.declared.rows.SentRow.{SentRow}
use Rattle.ocm_rules.specs.Numbers.{at_number}
use Rattle.ocm_rules.specs.Settlements.{Settlement, settled_by, settlement, is_settled}
use Rattle.ocm_rules.specs.Messages.{sends, out, view_of}
use Rattle.ocm_rules.specs.History.{IsAnswered}
use Rattle.ocm_rules.specs.State.{map_numbered, sent_row_after, new_sent_row}
use Rattle.ocm_rules.proofs.Numbering.{map_numbered-append, map_numbered-twice, map_numbered-alike, map_numbered-plain, at_number-beyond, at_number-before}
use Rattle.ocm_rules.proofs.Naming.{unnamed_message}
use Rattle.ocm_rules.proofs.Away.{changed-answered}

-- what is read of a message, as a row
abbrev pub sent_row : List Entry → ℕ → Message → SentRow
sent_row g m message = record { message = message; settled = is_settled g m }

-- what is read of all messages, as rows
abbrev pub sent_rows : List ℕ → List Entry → List SentRow
sent_rows host g = map_numbered (sent_row g) 1 (out host g)

-- a message that is not there is not settled
pub unsettled : (host : List ℕ) (g : List Entry) → IsAnswered host g → (m : ℕ) → at_number (out host g) m ≡ None → settlement g m ≡ None
unsettled host [] h m none = refl
unsettled host (e ∷ before) h m none =
    let fresh = at_number-before (out host before) (sends (view_of host before) e.ask) m none in
    let older = unsettled host before h.2 m fresh in
    let this = unnamed_message (view_of host before) e.ask (changed-answered host before e h.0 h.1) m fresh in
    rw (this, older) refl

is_some-or : {X : Type 0} (o p : Option X) → is_some (option_or o p) ≡ (is_some o || is_some p)
is_some-or None p = refl
is_some-or (Some x) p = refl

sent_row-step : (e : Entry) (before : List Entry) (m : ℕ) (message : Message) → sent_row (e ∷ before) m message ≡ sent_row_after e.ask m (sent_row before m message)
sent_row-step e before m message = rw (is_some-or (settled_by m e.ask) (settlement before m)) refl

unsettled_row : (g : List Entry) (m : ℕ) (message : Message) → settlement g m ≡ None → sent_row g m message ≡ new_sent_row message
unsettled_row g m message h = rw h refl

-- the rows of the messages, one kept entry on
pub sent_rows-step : (host : List ℕ) (e : Entry) (before : List Entry) → IsAnswered host (e ∷ before)
    → sent_rows host (e ∷ before) ≡ map_numbered (sent_row_after e.ask) 1 (sent_rows host before) ++ map new_sent_row (sends (view_of host before) e.ask)
sent_rows-step host e before h =
    let messages = out host before in
    let new = sends (view_of host before) e.ask in
    let fresh : (m : ℕ) (message : Message) → 1 + length messages ≤ m → sent_row (e ∷ before) m message ≡ new_sent_row message =
    λ m message low.
    let beyond = at_number-beyond messages m (omega (arith, low)) in
    unsettled_row (e ∷ before) m message (rw (unnamed_message (view_of host before) e.ask (changed-answered host before e h.0 h.1) m beyond, unsettled host before h.2 m beyond) refl) in
    map_numbered-append (sent_row (e ∷ before)) 1 messages new
    ∙ ap (λ rows. rows ++ map_numbered (sent_row (e ∷ before)) (1 + length messages) new)
    (map_numbered-alike (sent_row (e ∷ before)) (λ m message. sent_row_after e.ask m (sent_row before m message)) 1 messages (sent_row-step e before)
    ∙ sym (map_numbered-twice (sent_row_after e.ask) (sent_row before) 1 messages))
    ∙ ap (λ rows. map_numbered (sent_row_after e.ask) 1 (sent_rows host before) ++ rows) (map_numbered-plain (sent_row (e ∷ before)) new_sent_row (1 + length messages) new fresh)

-- a message that is not settled has no settlement
pub settled-none : (g : List Entry) (m : ℕ) → is_settled g m ≡ false → settlement g m ≡ None
settled-none g m h = by_case (settlement g m) h
  where
    by_case : (o : Option Settlement) → is_some o ≡ false → o ≡ None
    by_case None k = refl
    by_case (Some s) k = absurd (cc)
