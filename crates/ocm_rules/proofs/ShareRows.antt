use Rattle.std.proofs.Common.{◌≡◌, ℕ, ◌+◌, List, [], ◌∷◌, length, false, refl, sym, ap, ◌∙◌, arith}
use Rattle.std.specs.Prelude.{Option, Some, None, unwrap_or, option_map}
use Rattle.std.specs.Option.{option_or}
use Rattle.ocm_types.specs.declared.rights.Rights.{Rights}
use Rattle.ocm_entry.specs.declared.entries.Entry.{Entry}
use Rattle.ocm_entry.specs.declared.rows.Share.{Share}
use Rattle.ocm_rules.specs.declared.rows.ShareRow.{ShareRow}
use Rattle.ocm_rules.specs.Numbers.{added, at_number, latest}
use Rattle.ocm_rules.specs.Users.{users}
use Rattle.ocm_rules.specs.Shares.{made, is_closed, until, limit_by, share_by, effective_among, perms_among}
use Rattle.ocm_rules.specs.Messages.{view_of}
use Rattle.ocm_rules.specs.History.{IsAnswered}
use Rattle.ocm_rules.specs.State.{map_numbered, share_row_after, new_share_row}
use Rattle.ocm_rules.proofs.Numbering.{map_numbered-added, map_numbered-twice, map_numbered-alike, at_number-beyond, at_number-before-added}
use Rattle.ocm_rules.proofs.Naming.{unnamed_share}
use Rattle.ocm_rules.proofs.Away.{changed-answered}

-- the last limit of a share among kept entries
abbrev pub last_limit : List Entry → ℕ → Option Rights
last_limit g i = latest (λ (e : Entry). limit_by i e.ask) g

-- what is read of a share, as a row
abbrev pub share_row : List Entry → ℕ → Share → ShareRow
share_row g i share = record { share = share; perms = unwrap_or (last_limit g i) share.granted; closed = is_closed g i; end = until g i }

-- what is read of all shares, as rows
abbrev pub share_rows : List ℕ → List Entry → List ShareRow
share_rows host g = map_numbered (share_row g) 1 (made host g)

-- nothing was done to a share that is not there
pub untouched : (host : List ℕ) (g : List Entry) → IsAnswered host g → (i : ℕ) → at_number (made host g) i ≡ None
    → (last_limit g i ≡ None) × (is_closed g i ≡ false) × (until g i ≡ None)
untouched host [] h i none = (refl, refl, refl)
untouched host (e ∷ before) h i none =
    let fresh = at_number-before-added (made host before) _ i none in
    let older = untouched host before h.2 i fresh in
    let this = unnamed_share (view_of host before) e.ask (changed-answered host before e h.0 h.1) i fresh in
    (rw (this.0, older.0) refl, rw (this.1, older.1) refl, rw (this.2, older.2) refl)

unwrap_or-or : {X : Type 0} (o p : Option X) (d : X) → unwrap_or (option_or o p) d ≡ unwrap_or o (unwrap_or p d)
unwrap_or-or None p d = refl
unwrap_or-or (Some x) p d = refl

-- the row of a share, one entry on
share_row-step : (e : Entry) (before : List Entry) (i : ℕ) (share : Share) → share_row (e ∷ before) i share ≡ share_row_after e.ask i (share_row before i share)
share_row-step e before i share = rw (unwrap_or-or (limit_by i e.ask) (last_limit before i) share.granted) refl

-- the row of a share to which nothing was done
fresh_row : (g : List Entry) (i : ℕ) (share : Share) → last_limit g i ≡ None → is_closed g i ≡ false → until g i ≡ None → share_row g i share ≡ new_share_row share
fresh_row g i share a b c = rw (a, b, c) refl

-- the rows of the shares, one kept entry on
pub share_rows-step : (host : List ℕ) (e : Entry) (before : List Entry) → IsAnswered host (e ∷ before)
    → share_rows host (e ∷ before) ≡ added (map_numbered (share_row_after e.ask) 1 (share_rows host before))
    (option_map new_share_row (share_by host (users before) (made host before) (effective_among (made host before) (perms_among (made host before) before)) e.ask))
share_rows-step host e before h =
    let ms = made host before in
    let new = share_by host (users before) ms (effective_among ms (perms_among ms before)) e.ask in
    let beyond : at_number ms (length ms + 1) ≡ None = at_number-beyond ms (length ms + 1) (omega arith) in
    let older = untouched host before h.2 (length ms + 1) beyond in
    let this = unnamed_share (view_of host before) e.ask (changed-answered host before e h.0 h.1) (length ms + 1) beyond in
    let fresh : (share : Share) → share_row (e ∷ before) (length ms + 1) share ≡ new_share_row share =
    λ share. fresh_row (e ∷ before) (length ms + 1) share (rw (this.0, older.0) refl) (rw (this.1, older.1) refl) (rw (this.2, older.2) refl) in
    map_numbered-added (share_row (e ∷ before)) ms new
    ∙ ap (λ rows. added rows (option_map (share_row (e ∷ before) (length ms + 1)) new))
    (map_numbered-alike (share_row (e ∷ before)) (λ i share. share_row_after e.ask i (share_row before i share)) 1 ms (share_row-step e before)
    ∙ sym (map_numbered-twice (share_row_after e.ask) (share_row before) 1 ms))
    ∙ ap (λ f. added (map_numbered (share_row_after e.ask) 1 (share_rows host before)) (option_map f new)) (λ i share. fresh share i)
