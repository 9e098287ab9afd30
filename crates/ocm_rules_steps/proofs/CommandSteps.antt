use Rattle.std.proofs.Common.{◌≡◌, ℕ, ◌+◌, List, [], ◌∷◌, ◌++◌, map, length, true, Option, Some, refl, ap, ◌∙◌, option_map, option_to_list}
use Rattle.std.proofs.lemmas.List.{length-map}
use Rattle.ocm_types.specs.declared.addresses.Address.{Address}
use Rattle.ocm_types.specs.declared.letters.Offer.{Offer}
use Rattle.ocm_types.specs.declared.phases.Phase.TheVariants.{Accepting, Declined}
use Rattle.ocm_types.specs.declared.phases.RequestPhase.TheVariants.{Undone}
use Rattle.ocm_types.specs.declared.rights.Rights.{Rights}
use Rattle.ocm_path.specs.Paths.{Segments}
use Rattle.ocm_entry.specs.declared.asks.Ask.{Ask}
use Rattle.ocm_entry.specs.declared.asks.Ask.TheVariants.{Local}
use Rattle.ocm_entry.specs.declared.asks.Cmd.TheVariants as commands
use Rattle.ocm_entry.specs.declared.replies.Reply.{Reply}
use Rattle.ocm_entry.specs.declared.rows.Share.{Share}
use Rattle.ocm_entry.specs.declared.rows.Request.{Request}
use Rattle.ocm_rules.specs.declared.rows.Message.{Message}
use Rattle.ocm_rules.specs.declared.rows.ReceivedRow.{ReceivedRow}
use Rattle.ocm_rules.specs.declared.rows.ShareRow.{ShareRow}
use Rattle.ocm_rules.specs.Numbers.{added, at_number}
use Rattle.ocm_rules.specs.Users.{user_of_key}
use Rattle.ocm_rules.specs.Shares.{own_share}
use Rattle.ocm_rules.specs.Requests.{Reshare}
use Rattle.ocm_rules.specs.Views.{cut_by}
use Rattle.ocm_rules.specs.Messages.{acceptance, at_end, at_limit, offered, refusal, reshare_request, undo}
use Rattle.ocm_rules.specs.State.{State, asked_in, changed_at, new_request_row, new_sent_row, new_share_row, step, view_in}
use Rattle.ocm_rules.proofs.Steps.{other-shares, other-records, other-requests, other-messages, limit-step, expire-step, unshare-step, accept-step, decline_record-step, undo-step}
use Rattle.ocm_rules_steps.proofs.Rows.{step-rows, step-added, none-sent}

-- a new share behind the others, and its offer behind the messages
pub share-added : (st : State) (share : Share)
    → (let r : State = record st { shares = st.shares ++ new_share_row share ∷ []; sent = st.sent ++ new_sent_row (offered (view_in st) (length (view_in st).shares + 1) share) ∷ [] } in
    let s : State = record st { shares = st.shares ++ new_share_row share ∷ []; sent = st.sent ++ new_sent_row (offered (view_in st) (length st.shares + 1) share) ∷ [] } in r ≡ s)
share-added st share =
    ap (λ n. let r : State = record st { shares = st.shares ++ new_share_row share ∷ []; sent = st.sent ++ new_sent_row (offered (view_in st) (n + 1) share) ∷ [] } in r) (length-map st.shares (λ (row : ShareRow). row.share))

pub share-step : (st : State) (key : List ℕ) (path : Segments) (with : Address) (perms : Rights) (fresh : List ℕ) (reply : Reply) (owner : ℕ) → user_of_key st.users key ≡ Some owner
    → (let share = own_share st.host st.users owner path with perms fresh in
    let r : State = record st { shares = st.shares ++ new_share_row share ∷ []; sent = st.sent ++ new_sent_row (offered (view_in st) (length st.shares + 1) share) ∷ [] } in
    step st (Local key (commands.Share path with perms fresh)) reply ≡ r)
share-step st key path with perms fresh reply owner user =
    let v = view_in st in
    let lists : Option Share → State = λ o. record st { shares = added st.shares (option_map new_share_row o); sent = st.sent ++ map new_sent_row (option_to_list (option_map (offered v (length v.shares + 1)) o)) } in
    let made : Option ℕ → Option Share = λ o. option_map (λ n. own_share st.host st.users n path with perms fresh) o in
    step-added st (Local key (commands.Share path with perms fresh)) reply refl refl refl refl
    ∙ (ap (λ o. lists (made o)) user ∙ share-added st (own_share st.host st.users owner path with perms fresh))

pub unshare_command-step : (st : State) (key : List ℕ) (id : ℕ) (reply : Reply)
    → (let r : State = record st { shares = changed_at id (λ (row : ShareRow). record row { closed = true }) st.shares; sent = st.sent ++ map new_sent_row (at_end (view_in st) (cut_by (view_in st) id)) } in
    step st (Local key (commands.Unshare id)) reply ≡ r)
unshare_command-step st key id reply =
    let ask : Ask = Local key (commands.Unshare id) in
    step-rows st ask reply (changed_at id (λ (row : ShareRow). record row { closed = true }) st.shares) st.received st.requests st.sent
    (unshare-step key id st.shares) (other-records (view_in st).messages ask st.received refl) (other-requests (view_in st).messages ask st.requests refl) (other-messages ask st.sent refl)

pub limit_command-step : (st : State) (key : List ℕ) (id : ℕ) (perms : Rights) (reply : Reply)
    → (let r : State = record st { shares = changed_at id (λ (row : ShareRow). record row { perms = perms }) st.shares; limits = st.limits + 1; sent = st.sent ++ map new_sent_row (at_limit (view_in st) id perms) } in
    step st (Local key (commands.Limit id perms)) reply ≡ r)
limit_command-step st key id perms reply =
    let ask : Ask = Local key (commands.Limit id perms) in
    step-rows st ask reply (changed_at id (λ (row : ShareRow). record row { perms = perms }) st.shares) st.received st.requests st.sent
    (limit-step key id perms st.shares) (other-records (view_in st).messages ask st.received refl) (other-requests (view_in st).messages ask st.requests refl) (other-messages ask st.sent refl)

pub expire_command-step : (st : State) (key : List ℕ) (id until : ℕ) (reply : Reply)
    → (let r : State = record st { shares = changed_at id (λ (row : ShareRow). record row { end = Some until }) st.shares } in step st (Local key (commands.Expire id until)) reply ≡ r)
expire_command-step st key id until reply =
    let ask : Ask = Local key (commands.Expire id until) in
    let after : State = record st { shares = changed_at id (λ (row : ShareRow). record row { end = Some until }) st.shares } in
    step-rows st ask reply after.shares st.received st.requests st.sent
    (expire-step key id until st.shares) (other-records (view_in st).messages ask st.received refl) (other-requests (view_in st).messages ask st.requests refl) (other-messages ask st.sent refl)
    ∙ none-sent after

pub accept_command-step : (st : State) (key : List ℕ) (number : ℕ) (reply : Reply) (offer : Offer) → at_number (view_in st).offers number ≡ Some offer
    → (let r : State = record st { received = changed_at number (λ (row : ReceivedRow). record row { phase = Accepting }) st.received; sent = st.sent ++ new_sent_row (acceptance number offer) ∷ [] } in
    step st (Local key (commands.Accept number)) reply ≡ r)
accept_command-step st key number reply offer there =
    let ask : Ask = Local key (commands.Accept number) in
    let received : List ReceivedRow = changed_at number (λ (row : ReceivedRow). record row { phase = Accepting }) st.received in
    step-rows st ask reply st.shares received st.requests st.sent
    (other-shares ask st.shares refl) (accept-step (view_in st).messages key number st.received) (other-requests (view_in st).messages ask st.requests refl) (other-messages ask st.sent refl)
    ∙ ap (λ (o : Option Offer). let r : State = record st { received = received; sent = st.sent ++ map new_sent_row (option_to_list (option_map (acceptance number) o)) } in r) there

pub decline_command-step : (st : State) (key : List ℕ) (number : ℕ) (reply : Reply) (offer : Offer) → at_number (view_in st).offers number ≡ Some offer
    → (let r : State = record st { received = changed_at number (λ (row : ReceivedRow). record row { phase = Declined }) st.received; sent = st.sent ++ new_sent_row (refusal number offer) ∷ [] } in
    step st (Local key (commands.Decline number)) reply ≡ r)
decline_command-step st key number reply offer there =
    let ask : Ask = Local key (commands.Decline number) in
    let received : List ReceivedRow = changed_at number (λ (row : ReceivedRow). record row { phase = Declined }) st.received in
    step-rows st ask reply st.shares received st.requests st.sent
    (other-shares ask st.shares refl) (decline_record-step (view_in st).messages key number st.received) (other-requests (view_in st).messages ask st.requests refl) (other-messages ask st.sent refl)
    ∙ ap (λ (o : Option Offer). let r : State = record st { received = received; sent = st.sent ++ map new_sent_row (option_to_list (option_map (refusal number) o)) } in r) there

pub reshare_command-step : (st : State) (key : List ℕ) (number : ℕ) (with : Address) (perms : Option Rights) (reply : Reply) (offer : Offer) → at_number (view_in st).offers number ≡ Some offer
    → (let request : Reshare = record { received = number; with = with; perms = perms } in
    let r : State = record st { requests = st.requests ++ new_request_row request ∷ []; sent = st.sent ++ new_sent_row (reshare_request (length st.requests + 1) with perms offer) ∷ [] } in
    step st (Local key (commands.Reshare number with perms)) reply ≡ r)
reshare_command-step st key number with perms reply offer there =
    let ask : Ask = Local key (commands.Reshare number with perms) in
    let request : Reshare = record { received = number; with = with; perms = perms } in
    let lists : ℕ → Option Offer → State = λ n o. record st { requests = st.requests ++ new_request_row request ∷ []; sent = st.sent ++ map new_sent_row (option_to_list (option_map (reshare_request (n + 1) with perms) o)) } in
    step-added st ask reply refl refl refl refl
    ∙ (ap (λ o. lists (length (view_in st).requests) o) there ∙ ap (λ n. lists n (Some offer)) (length-map st.requests asked_in))

pub undo_command-step : (st : State) (key : List ℕ) (request : ℕ) (reply : Reply) (message : Message) → undo (view_in st) request ≡ Some message
    → (let r : State = record st { requests = changed_at request (λ (row : Request). record row { state = Undone }) st.requests; sent = st.sent ++ new_sent_row message ∷ [] } in
    step st (Local key (commands.Undo request)) reply ≡ r)
undo_command-step st key request reply message there =
    let ask : Ask = Local key (commands.Undo request) in
    let requests : List Request = changed_at request (λ (row : Request). record row { state = Undone }) st.requests in
    step-rows st ask reply st.shares st.received requests st.sent
    (other-shares ask st.shares refl) (other-records (view_in st).messages ask st.received refl) (undo-step (view_in st).messages key request st.requests) (other-messages ask st.sent refl)
    ∙ ap (λ (o : Option Message). let r : State = record st { requests = requests; sent = st.sent ++ map new_sent_row (option_to_list o) } in r) there
