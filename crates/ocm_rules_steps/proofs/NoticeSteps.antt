use Rattle.std.proofs.Common.{◌≡◌, ℕ, ◌+◌, List, [], ◌∷◌, ◌++◌, map, length, Bool, true, false, not, ◌&&◌, Option, Some, None, refl, ap, ◌∙◌, if◌then◌else◌, option_map, option_and_then, option_to_list}
use Rattle.std.specs.Option.{option_map_or}
use Rattle.ocm_types.specs.declared.addresses.Address.{Address}
use Rattle.ocm_types.specs.declared.letters.Notice.TheVariants as notices
use Rattle.ocm_types.specs.declared.phases.Phase.TheVariants.{Removed}
use Rattle.ocm_types.specs.declared.rights.Rights.{Rights}
use Rattle.ocm_entry.specs.declared.asks.Ask.{Ask}
use Rattle.ocm_entry.specs.declared.asks.Ask.TheVariants.{Notice}
use Rattle.ocm_entry.specs.declared.replies.Reply.{Reply}
use Rattle.ocm_entry.specs.declared.rows.Share.{Share}
use Rattle.ocm_rules.specs.declared.rows.Message.{Message}
use Rattle.ocm_rules.specs.declared.rows.ReceivedRow.{ReceivedRow}
use Rattle.ocm_rules.specs.declared.rows.ShareRow.{ShareRow}
use Rattle.ocm_rules.specs.declared.rows.Told.{Told}
use Rattle.ocm_rules.specs.Numbers.{added, at_number}
use Rattle.ocm_rules.specs.Shares.{child_share, named}
use Rattle.ocm_rules.specs.Offers.{is_given_up, is_of, later}
use Rattle.ocm_rules.specs.Views.{cut_by, effective_in}
use Rattle.ocm_rules.specs.Messages.{at_end, offered, without}
use Rattle.ocm_rules.specs.State.{State, changed_at, map_numbered, new_sent_row, new_share_row, received_row_after, step, view_in}
use Rattle.ocm_rules.proofs.Steps.{other-shares, other-records, other-requests, other-messages, decline-step, undo_notice-step}
use Rattle.ocm_rules_steps.proofs.Rows.{step-rows, step-added, none-sent}
use Rattle.ocm_rules_steps.proofs.CommandSteps.{share-added}

-- the end of a share that is named by this number, and the messages at it
ended : (st : State) (shares : List ShareRow) (messages : ℕ → List Message) (number : Option ℕ) (id : ℕ) → number ≡ Some id
    → (let r : State = record st { shares = shares; sent = st.sent ++ map new_sent_row (option_map_or messages number []) } in let s : State = record st { shares = shares; sent = st.sent ++ map new_sent_row (messages id) } in r ≡ s)
ended st shares messages number id e = ap (λ (o : Option ℕ). let r : State = record st { shares = shares; sent = st.sent ++ map new_sent_row (option_map_or messages o []) } in r) e

pub declined-step : (st : State) (text secret fresh : List ℕ) (reply : Reply) (id : ℕ) → named text ≡ Some id
    → (let r : State = record st { shares = changed_at id (λ (row : ShareRow). record row { closed = true }) st.shares; sent = st.sent ++ map new_sent_row (at_end (view_in st) (without id (cut_by (view_in st) id))) } in
    step st (Notice (notices.Declined text secret) fresh) reply ≡ r)
declined-step st text secret fresh reply id is_named =
    let ask : Ask = Notice (notices.Declined text secret) fresh in
    let v = view_in st in
    let shares : List ShareRow = changed_at id (λ (row : ShareRow). record row { closed = true }) st.shares in
    step-rows st ask reply shares st.received st.requests st.sent
    (decline-step text secret fresh id st.shares is_named) (other-records v.messages ask st.received refl) (other-requests v.messages ask st.requests refl) (other-messages ask st.sent refl)
    ∙ ended st shares (λ i. at_end v (without i (cut_by v i))) (named text) id is_named

pub undone-step : (st : State) (text secret fresh : List ℕ) (reply : Reply) (id : ℕ) → named text ≡ Some id
    → (let r : State = record st { shares = changed_at id (λ (row : ShareRow). record row { closed = true }) st.shares; sent = st.sent ++ map new_sent_row (at_end (view_in st) (cut_by (view_in st) id)) } in
    step st (Notice (notices.ReshareUndo text secret) fresh) reply ≡ r)
undone-step st text secret fresh reply id is_named =
    let ask : Ask = Notice (notices.ReshareUndo text secret) fresh in
    let v = view_in st in
    let shares : List ShareRow = changed_at id (λ (row : ShareRow). record row { closed = true }) st.shares in
    step-rows st ask reply shares st.received st.requests st.sent
    (undo_notice-step text secret fresh id st.shares is_named) (other-records v.messages ask st.received refl) (other-requests v.messages ask st.requests refl) (other-messages ask st.sent refl)
    ∙ ended st shares (λ i. at_end v (cut_by v i)) (named text) id is_named

pub child-step : (st : State) (text secret : List ℕ) (with : Address) (sender_id : List ℕ) (asked : Option Rights) (fresh : List ℕ) (reply : Reply) (parent : ℕ) (above : Share)
    → named text ≡ Some parent → at_number (view_in st).shares parent ≡ Some above
    → (let share = child_share parent above (effective_in (view_in st) parent) with sender_id asked fresh in
    let r : State = record st { shares = st.shares ++ new_share_row share ∷ []; sent = st.sent ++ new_sent_row (offered (view_in st) (length st.shares + 1) share) ∷ [] } in
    step st (Notice (notices.ReshareRequest text secret with sender_id asked) fresh) reply ≡ r)
child-step st text secret with sender_id asked fresh reply parent above is_named there =
    let v = view_in st in
    let lists : Option Share → State = λ o. record st { shares = added st.shares (option_map new_share_row o); sent = st.sent ++ map new_sent_row (option_to_list (option_map (offered v (length v.shares + 1)) o)) } in
    let below_row : ℕ → Option Share → Option Share = λ n o. option_map (λ (row : Share). child_share n row (effective_in v n) with sender_id asked fresh) o in
    let made : Option ℕ → Option Share = λ o. option_and_then (λ n. below_row n (at_number v.shares n)) o in
    step-added st (Notice (notices.ReshareRequest text secret with sender_id asked) fresh) reply refl refl refl refl
    ∙ (ap (λ o. lists (made o)) is_named ∙ (ap (λ o. lists (below_row parent o)) there ∙ share-added st (child_share parent above (effective_in v parent) with sender_id asked fresh)))

-- each item changed in the same way, whatever its number
map_numbered-map : {X Y : Type 0} (f : ℕ → X → Y) (g : X → Y) (n : ℕ) (xs : List X) → ((j : ℕ) (x : X) → f j x ≡ g x) → map_numbered f n xs ≡ map g xs
map_numbered-map f g n [] h = refl
map_numbered-map f g n (x ∷ xs) h = let first = h n x in let rest = map_numbered-map f g (n + 1) xs h in rw (first, rest) refl

removed_row : (row : ReceivedRow) (b : Bool) → (let r : ReceivedRow = record { offer = row.offer; phase = if b then Removed else row.phase; told = row.told } in r) ≡ (if b then record row { phase = Removed } else row)
removed_row row true = refl
removed_row row false = refl

pub unshared-step : (st : State) (id secret fresh : List ℕ) (reply : Reply)
    → (let r : State = record st { received = map (λ (row : ReceivedRow). if is_of id secret row.offer && not (is_given_up row.phase) then record row { phase = Removed } else row) st.received } in
    step st (Notice (notices.Unshared id secret) fresh) reply ≡ r)
unshared-step st id secret fresh reply =
    let ask : Ask = Notice (notices.Unshared id secret) fresh in
    let v = view_in st in
    let after : State = record st { received = map (λ (row : ReceivedRow). if is_of id secret row.offer && not (is_given_up row.phase) then record row { phase = Removed } else row) st.received } in
    let rows : map_numbered (received_row_after v.messages ask) 1 st.received ≡ after.received = map_numbered-map _ _ 1 st.received (λ j row. removed_row row (is_of id secret row.offer && not (is_given_up row.phase))) in
    step-rows st ask reply st.shares after.received st.requests st.sent
    (other-shares ask st.shares refl) rows (other-requests v.messages ask st.requests refl) (other-messages ask st.sent refl)
    ∙ none-sent after

told_row : (row : ReceivedRow) (b : Bool) (new : Told) → (let r : ReceivedRow = record { offer = row.offer; phase = row.phase; told = option_map_or (λ told. later told row.told) (if b then Some new else None) row.told } in r) ≡ (if b then record row { told = later new row.told } else row)
told_row row true new = refl
told_row row false new = refl

pub changed-step : (st : State) (id secret : List ℕ) (serial : ℕ) (perms : Rights) (fresh : List ℕ) (reply : Reply)
    → (let new : Told = record { serial = serial; perms = perms } in
    let r : State = record st { received = map (λ (row : ReceivedRow). if is_of id secret row.offer then record row { told = later new row.told } else row) st.received } in
    step st (Notice (notices.Changed id secret serial perms) fresh) reply ≡ r)
changed-step st id secret serial perms fresh reply =
    let ask : Ask = Notice (notices.Changed id secret serial perms) fresh in
    let v = view_in st in
    let new : Told = record { serial = serial; perms = perms } in
    let after : State = record st { received = map (λ (row : ReceivedRow). if is_of id secret row.offer then record row { told = later new row.told } else row) st.received } in
    let rows : map_numbered (received_row_after v.messages ask) 1 st.received ≡ after.received = map_numbered-map _ _ 1 st.received (λ j row. told_row row (is_of id secret row.offer) new) in
    step-rows st ask reply st.shares after.received st.requests st.sent
    (other-shares ask st.shares refl) rows (other-requests v.messages ask st.requests refl) (other-messages ask st.sent refl)
    ∙ none-sent after
