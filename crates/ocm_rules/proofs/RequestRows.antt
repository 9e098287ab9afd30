use Rattle.std.proofs.Common.{◌≡◌, ℕ, zero, suc, ◌+◌, List, [], ◌∷◌, ◌++◌, length, Bool, true, false, ◌&&◌, ◌||◌, refl, sym, ap, subst, ◌∙◌, arith, eqb-true, eq-eqb}
use Rattle.std.specs.Prelude.{Option, Some, None, nat_eq, if◌then◌else◌, option_map}
use Rattle.std.specs.List.{list_any}
use Rattle.std.proofs.lemmas.List.Folds.{list_any-append}
use Rattle.ocm_types.specs.declared.letters.Offer.{Offer}
use Rattle.ocm_types.specs.declared.addresses.Address.{Address}
use Rattle.ocm_types.specs.declared.rights.Rights.{Rights}
use Rattle.ocm_types.specs.declared.phases.RequestPhase.TheVariants as states
use Rattle.ocm_entry.specs.declared.asks.Ask.{Ask}
use Rattle.ocm_entry.specs.declared.asks.Ask.TheVariants as asks
use Rattle.ocm_entry.specs.declared.asks.Cmd.TheVariants as commands
use Rattle.ocm_entry.specs.declared.entries.Entry.{Entry}
use Rattle.ocm_entry.specs.declared.rows.Request.{Request}
use Rattle.ocm_rules.specs.declared.rows.Message.{Message}
use Rattle.ocm_rules.specs.Numbers.{added, at_number}
use Rattle.ocm_rules.specs.Users.{user_of_key}
use Rattle.ocm_rules.specs.Settlements.{Settlement, settlement, settled_by}
use Rattle.ocm_rules.specs.Requests.{Reshare, requests, request_by, undoes, is_undone, answered_state, settled_state}
use Rattle.ocm_rules.specs.Views.{View}
use Rattle.ocm_rules.specs.Messages.{sends, out, view_of, reshare_request}
use Rattle.ocm_rules.specs.Answers.{reply_in}
use Rattle.ocm_rules.specs.History.{changes_in, IsAnswered}
use Rattle.ocm_rules.specs.State.{map_numbered, is_asked, state_after, request_row_after, new_request_row}
use Rattle.ocm_rules.proofs.Lists.{not_both}
use Rattle.ocm_rules.proofs.Numbering.{map_numbered-added, map_numbered-twice, at_number-beyond, at_number-before-added, not_none}
use Rattle.ocm_rules.proofs.Searches.{or-false, number_of-absent, number_of-next, number_of-more, Unique, unique-more, unique-next, map_numbered-there, at_number-within}
use Rattle.ocm_rules.proofs.Naming.{unnamed_request, unnamed_message, unsettled_before, reshare-nothing}
use Rattle.ocm_rules.proofs.Away.{changed-answered}
use Rattle.ocm_rules.proofs.Letters.{asks_for_request, makes_request, no_request}
use Rattle.ocm_rules.proofs.Outcomes.{outcome_of, is_kind, settled_outcome, kind-first, outcome-step}
use Rattle.ocm_rules.proofs.SentRows.{unsettled, settled-none}

-- ---- requests that are not there

pub untouched_request : (host : List ℕ) (g : List Entry) → IsAnswered host g → (r : ℕ) → at_number (requests g) r ≡ None → is_undone g r ≡ false
untouched_request host [] h r none = refl
untouched_request host (e ∷ before) h r none =
    let fresh = at_number-before-added (requests before) (request_by e.ask) r none in
    let older = untouched_request host before h.2 r fresh in
    let this = unnamed_request (view_of host before) e.ask (changed-answered host before e h.0 h.1) r fresh in
    rw (this, older) refl

-- ---- the message of a request

same_self : (n : ℕ) → nat_eq n n ≡ true
same_self n = eq-eqb n n refl

-- an entry that makes a request sends it alone
requesting-entry : (v : View) (ask : Ask) (r : ℕ) → changes_in v ask (reply_in v ask) ≡ true → makes_request v r ask ≡ true
    → (length v.requests + 1 ≡ r) × ((to : Address) × (asked : Option Rights) × (offer : Offer) × (sends v ask ≡ reshare_request r to asked offer ∷ []))
requesting-entry v (asks.Local key (commands.Reshare number with perms)) r h k =
    let e : length v.requests + 1 ≡ r = eqb-true (length v.requests + 1) r k in
    (e, by_offer (at_number v.offers number) refl e)
  where
    by_offer : (o : Option Offer) → at_number v.offers number ≡ o → length v.requests + 1 ≡ r
        → (to : Address) × (asked : Option Rights) × (offer : Offer) × (sends v (asks.Local key (commands.Reshare number with perms)) ≡ reshare_request r to asked offer ∷ [])
    by_offer None g e = absurd (not_both _ h (reshare-nothing v key number with perms (user_of_key v.users key) g))
    by_offer (Some offer) g e = (with, perms, offer, rw g (ap (λ j. reshare_request j with perms offer ∷ []) e))
requesting-entry v (asks.Local key (commands.Accept number)) r h k = absurd (cc)
requesting-entry v (asks.Local key (commands.Share path with perms fresh)) r h k = absurd (cc)
requesting-entry v (asks.Local key (commands.Unshare id)) r h k = absurd (cc)
requesting-entry v (asks.Local key (commands.Limit id perms)) r h k = absurd (cc)
requesting-entry v (asks.Local key (commands.Decline number)) r h k = absurd (cc)
requesting-entry v (asks.Local key (commands.Undo request)) r h k = absurd (cc)
requesting-entry v (asks.Local key commands.List) r h k = absurd (cc)
requesting-entry v (asks.Local key (commands.Expire id until)) r h k = absurd (cc)
requesting-entry v (asks.AddUser name fresh) r h k = absurd (cc)
requesting-entry v (asks.Offer offer) r h k = absurd (cc)
requesting-entry v (asks.Notice notice fresh) r h k = absurd (cc)
requesting-entry v (asks.Dav secret method path body) r h k = absurd (cc)
requesting-entry v asks.Due r h k = absurd (cc)
requesting-entry v (asks.Settle number status id) r h k = absurd (cc)
requesting-entry v (asks.Tick clock) r h k = absurd (cc)
requesting-entry v (asks.Carry secret from to moving overwrite) r h k = absurd (cc)

-- the number of requests after an ask
made-there : (xs : List Reshare) (x : Reshare) → at_number (xs ++ x ∷ []) (length xs + 1) ≡ Some x
made-there xs x = rw (number_next (length xs)) (at_next xs x)
  where
    number_next : (n : ℕ) → n + 1 ≡ suc n
    number_next n = omega arith

    at_next : (xs : List Reshare) (x : Reshare) → at_number (xs ++ x ∷ []) (suc (length xs)) ≡ Some x
    at_next [] x = refl
    at_next (y ∷ ys) x = at_next ys x

nothing_there : {X : Type 0} (j : ℕ) (x : X) → at_number [] j ≡ Some x → ⊥
nothing_there zero x h = cc
nothing_there (suc j) x h = cc

-- a request that an entry makes is there afterwards
making-there : (host : List ℕ) (before : List Entry) (e : Entry) (r : ℕ) → changes_in (view_of host before) e.ask (reply_in (view_of host before) e.ask) ≡ true
    → makes_request (view_of host before) r e.ask ≡ true → at_number (requests (e ∷ before)) r ≡ None → ⊥
making-there host before e r changed k none = by_ask e.ask k none
  where
    by_ask : (ask : Ask) → makes_request (view_of host before) r ask ≡ true → at_number (added (requests before) (request_by ask)) r ≡ None → ⊥
    by_ask (asks.Local key (commands.Reshare number with perms)) k none =
        let same : length (requests before) + 1 ≡ r = eqb-true (length (requests before) + 1) r k in
        let there = made-there (requests before) (record { received = number; with = with; perms = perms }) in
        not_none (at_number (added (requests before) (request_by (asks.Local key (commands.Reshare number with perms)))) r) _ (subst (λ j. at_number (added (requests before) (request_by (asks.Local key (commands.Reshare number with perms)))) j ≡ Some (record { received = number; with = with; perms = perms })) same there) none
    by_ask (asks.Local key (commands.Accept number)) k none = cc
    by_ask _ k none = cc

-- a request is there exactly where its message was sent, and that is the only one
pub requested-sent : (host : List ℕ) (g : List Entry) → IsAnswered host g → (r : ℕ) → (at_number (requests g) r ≡ None → list_any (asks_for_request r) (out host g) ≡ false) × Unique (asks_for_request r) (out host g)
requested-sent host [] h r = (λ none. refl, λ j x e k. absurd (nothing_there j x e))
requested-sent host (e ∷ before) h r = by_test (requested-sent host before h.2 r) (makes_request (view_of host before) r e.ask) refl
  where
    by_test : (at_number (requests before) r ≡ None → list_any (asks_for_request r) (out host before) ≡ false) × Unique (asks_for_request r) (out host before)
        → (b : Bool) → makes_request (view_of host before) r e.ask ≡ b
        → (at_number (requests (e ∷ before)) r ≡ None → list_any (asks_for_request r) (out host before ++ sends (view_of host before) e.ask) ≡ false)
        × Unique (asks_for_request r) (out host before ++ sends (view_of host before) e.ask)
    by_test older true k =
        let entry = requesting-entry (view_of host before) e.ask r (changed-answered host before e h.0 h.1) k in
        let beyond : at_number (requests before) r ≡ None = at_number-beyond (requests before) r (let at_end = entry.0 in omega (arith, at_end)) in (
          λ none. absurd (making-there host before e r (changed-answered host before e h.0 h.1) k none),
          rw entry.1.3 (unique-next (asks_for_request r) (out host before) (reshare_request r entry.1.0 entry.1.1 entry.1.2) (older.0 beyond) (same_self r)),
        )
    by_test older false k =
        let none_sent = no_request (view_of host before) e.ask r k in (
          λ none. rw (list_any-append (asks_for_request r) (out host before) (sends (view_of host before) e.ask), none_sent) (or-false _ ∙ older.0 (at_number-before-added (requests before) (request_by e.ask) r none)),
          unique-more (asks_for_request r) (out host before) (sends (view_of host before) e.ask) older.1 none_sent,
        )

-- ---- the state of a request, one entry on

answered-request : (u : Bool) (status : ℕ) (id : Option (List ℕ))
    → (if u then states.Undone else answered_state status id) ≡ (if is_asked (if u then states.Undone else states.Asked) then answered_state status id else (if u then states.Undone else states.Asked))
answered-request true status id = refl
answered-request false status id = refl

state_step : (messages : List Message) (ask : Ask) (r : ℕ) (u : Bool) (o p : Option Settlement)
    → p ≡ settled_outcome (asks_for_request r) messages ask o
    → ((number status : ℕ) (id : Option (List ℕ)) → ask ≡ asks.Settle number status id → is_kind (asks_for_request r) messages number ≡ true → o ≡ None)
    → (if undoes r ask || u then states.Undone else settled_state p) ≡ state_after messages ask r (if u then states.Undone else settled_state o)
state_step messages (asks.Local key (commands.Undo request)) r u o p same at_settle = rw same (by_test (nat_eq request r))
  where
    by_test : (b : Bool) → (if b || u then states.Undone else settled_state o) ≡ (if b then states.Undone else (if u then states.Undone else settled_state o))
    by_test true = refl
    by_test false = refl
state_step messages (asks.Settle number status id) r u o p same at_settle = rw same (by_test (is_kind (asks_for_request r) messages number) refl)
  where
    by_test : (b : Bool) → is_kind (asks_for_request r) messages number ≡ b
        → (if u then states.Undone else settled_state (if b then Some (record { status = status; id = id }) else o))
        ≡ (if b && is_asked (if u then states.Undone else settled_state o) then answered_state status id else (if u then states.Undone else settled_state o))
    by_test true h = rw (at_settle number status id refl h) (answered-request u status id)
    by_test false h = refl
state_step messages _ r u o p same at_settle = rw same refl

-- ---- the rows

-- what is read of a request, as a row
abbrev pub request_row : List ℕ → List Entry → ℕ → Reshare → Request
request_row host g r request = record {
  received = request.received;
  with = request.with;
  perms = request.perms;
  state = if is_undone g r then states.Undone else settled_state (outcome_of (asks_for_request r) g (out host g));
}

abbrev pub request_rows : List ℕ → List Entry → List Request
request_rows host g = map_numbered (request_row host g) 1 (requests g)

-- an entry makes no request that is there already
not_made : (v : View) (ask : Ask) (r : ℕ) (request : Reshare) → at_number v.requests r ≡ Some request → makes_request v r ask ≡ false
not_made v ask r request there = by_test (makes_request v r ask) refl
  where
    past_end : length v.requests + 1 ≡ r → ⊥
    past_end e = let within = at_number-within v.requests r request there in omega (arith, e, within)

    by_ask : (ask : Ask) → makes_request v r ask ≡ true → ⊥
    by_ask (asks.Local key (commands.Reshare number with perms)) k = past_end (eqb-true (length v.requests + 1) r k)
    by_ask (asks.Local key (commands.Accept number)) k = cc
    by_ask _ k = cc

    by_test : (b : Bool) → makes_request v r ask ≡ b → b ≡ false
    by_test true k = absurd (by_ask ask k)
    by_test false k = refl

-- where an answer came to the message of a request, none had come before
at_answer : (host : List ℕ) (e : Entry) (before : List Entry) → IsAnswered host (e ∷ before) → (r number status : ℕ) (id : Option (List ℕ))
    → e.ask ≡ asks.Settle number status id → is_kind (asks_for_request r) (out host before) number ≡ true → outcome_of (asks_for_request r) before (out host before) ≡ None
at_answer host e before h r number status id is k =
    let first = kind-first (asks_for_request r) (out host before) number (requested-sent host before h.2 r).1 k in
    let changed = subst (λ ask. changes_in (view_of host before) ask (reply_in (view_of host before) ask) ≡ true) is (changed-answered host before e h.0 h.1) in
    rw first (settled-none before number (unsettled_before (view_of host before) number status id changed))

-- the row of a request that is there, one entry on
request_row-step : (host : List ℕ) (e : Entry) (before : List Entry) → IsAnswered host (e ∷ before) → (r : ℕ) (request : Reshare) → at_number (requests before) r ≡ Some request
    → request_row host (e ∷ before) r request ≡ request_row_after (out host before) e.ask r (request_row host before r request)
request_row-step host e before h r request there =
    let none_sent = no_request (view_of host before) e.ask r (not_made (view_of host before) e.ask r request there) in
    let same = outcome-step (asks_for_request r) e.ask e.reply before (out host before) (sends (view_of host before) e.ask) (requested-sent host before h.2 r).1 none_sent in
    rw (state_step (out host before) e.ask r (is_undone before r) (outcome_of (asks_for_request r) before (out host before)) (outcome_of (asks_for_request r) (e ∷ before) (out host (e ∷ before))) same (at_answer host e before h r)) refl

-- the message of a request that is new is not settled
fresh_outcome : (host : List ℕ) (e : Entry) (before : List Entry) → IsAnswered host (e ∷ before) → outcome_of (asks_for_request (length (requests before) + 1)) (e ∷ before) (out host (e ∷ before)) ≡ None
fresh_outcome host e before h = by_test (makes_request (view_of host before) (length (requests before) + 1) e.ask) refl
  where
    beyond : at_number (requests before) (length (requests before) + 1) ≡ None
    beyond = at_number-beyond (requests before) (length (requests before) + 1) (omega arith)

    absent : list_any (asks_for_request (length (requests before) + 1)) (out host before) ≡ false
    absent = (requested-sent host before h.2 (length (requests before) + 1)).0 beyond

    next_beyond : at_number (out host before) (length (out host before) + 1) ≡ None
    next_beyond = at_number-beyond (out host before) (length (out host before) + 1) (omega arith)

    by_test : (b : Bool) → makes_request (view_of host before) (length (requests before) + 1) e.ask ≡ b
        → outcome_of (asks_for_request (length (requests before) + 1)) (e ∷ before) (out host (e ∷ before)) ≡ None
    by_test true k =
        let r = length (requests before) + 1 in
        let changed = changed-answered host before e h.0 h.1 in
        let entry = requesting-entry (view_of host before) e.ask r changed k in
        let message = reshare_request r entry.1.0 entry.1.1 entry.1.2 in
        let this : settled_by (length (out host before) + 1) e.ask ≡ None = unnamed_message (view_of host before) e.ask changed (length (out host before) + 1) next_beyond in
        let older : settlement before (length (out host before) + 1) ≡ None = unsettled host before h.2 (length (out host before) + 1) next_beyond in
        rw (entry.1.3, number_of-next (asks_for_request r) (out host before) message absent (same_self r), this, older) refl
    by_test false k =
        let r = length (requests before) + 1 in
        let none_sent = no_request (view_of host before) e.ask r k in
        rw (number_of-more (asks_for_request r) (out host before) (sends (view_of host before) e.ask) none_sent, number_of-absent (asks_for_request r) (out host before) absent) refl

-- the row of a request that is new
fresh_request : (host : List ℕ) (e : Entry) (before : List Entry) → IsAnswered host (e ∷ before) → (request : Reshare) → request_row host (e ∷ before) (length (requests before) + 1) request ≡ new_request_row request
fresh_request host e before h request =
    let r = length (requests before) + 1 in
    let beyond : at_number (requests before) r ≡ None = at_number-beyond (requests before) r (omega arith) in
    let this = unnamed_request (view_of host before) e.ask (changed-answered host before e h.0 h.1) r beyond in
    row_of r (rw (this, untouched_request host before h.2 r beyond) refl) (fresh_outcome host e before h)
  where
    row_of : (r : ℕ) → is_undone (e ∷ before) r ≡ false → outcome_of (asks_for_request r) (e ∷ before) (out host (e ∷ before)) ≡ None → request_row host (e ∷ before) r request ≡ new_request_row request
    row_of r a b = rw (a, b) refl

-- the rows of the requests, one kept entry on
pub request_rows-step : (host : List ℕ) (e : Entry) (before : List Entry) → IsAnswered host (e ∷ before)
    → request_rows host (e ∷ before) ≡ added (map_numbered (request_row_after (out host before) e.ask) 1 (request_rows host before)) (option_map new_request_row (request_by e.ask))
request_rows-step host e before h =
    let rs = requests before in
    map_numbered-added (request_row host (e ∷ before)) rs (request_by e.ask)
    ∙ ap (λ rows. added rows (option_map (request_row host (e ∷ before) (length rs + 1)) (request_by e.ask)))
    (map_numbered-there (request_row host (e ∷ before)) (λ r request. request_row_after (out host before) e.ask r (request_row host before r request)) rs (request_row-step host e before h)
    ∙ sym (map_numbered-twice (request_row_after (out host before) e.ask) (request_row host before) 1 rs))
    ∙ ap (λ f. added (map_numbered (request_row_after (out host before) e.ask) 1 (request_rows host before)) (option_map f (request_by e.ask))) (λ i request. fresh_request host e before h request i)
