use Rattle.std.proofs.Common.{◌≡◌, ℕ, List, [], ◌∷◌, map, Bool, true, false, refl, sym, ap, ◌∙◌}
use Rattle.std.specs.Prelude.{Option, Some, None, unwrap_or, if◌then◌else◌, option_map}
use Rattle.std.specs.List.{list_any}
use Rattle.std.specs.Option.{option_or, option_map_or}
use Rattle.ocm_types.specs.declared.phases.Phase.TheVariants as phases
use Rattle.ocm_types.specs.declared.phases.RequestPhase.TheVariants as states
use Rattle.ocm_entry.specs.declared.asks.Ask.{Ask}
use Rattle.ocm_entry.specs.declared.entries.Entry.{Entry}
use Rattle.ocm_entry.specs.declared.rows.Request.{Request}
use Rattle.ocm_entry.specs.declared.rows.Place.{Place}
use Rattle.ocm_rules.specs.declared.rows.ShareRow.{ShareRow}
use Rattle.ocm_rules.specs.declared.rows.ReceivedRow.{ReceivedRow}
use Rattle.ocm_rules.specs.declared.rows.SentRow.{SentRow}
use Rattle.ocm_rules.specs.Numbers.{added, at_number, latest}
use Rattle.ocm_rules.specs.Users.{users, user_by}
use Rattle.ocm_rules.specs.Shares.{no_rights, clock_of, moment, goes_on, made, perms_among}
use Rattle.ocm_rules.specs.Files.{at, nodes, with_roots}
use Rattle.ocm_rules.specs.Settlements.{is_settled}
use Rattle.ocm_rules.specs.Offers.{offers, phase_among, told}
use Rattle.ocm_rules.specs.Requests.{requests, state_among}
use Rattle.ocm_rules.specs.Views.{is_limit, limits}
use Rattle.ocm_rules.specs.Messages.{out, view_of}
use Rattle.ocm_rules.specs.History.{kept, changes_in, answer_kept, IsAnswered}
use Rattle.ocm_rules.specs.Answers.{reply_in}
use Rattle.ocm_rules.specs.State.{State, map_numbered, row_goes_on, node_at, asked_in, view_in, step_by, step, state_of, after}
use Rattle.ocm_rules.proofs.Numbering.{map-map_numbered, at_number-map_numbered}
use Rattle.ocm_rules.proofs.Lists.{count_by-cons}
use Rattle.ocm_rules.proofs.Searches.{number_of-absent}
use Rattle.ocm_rules.proofs.Nodes.{left_at-nodes}
use Rattle.ocm_rules.proofs.Letters.{accepts_record, asks_for_request}
use Rattle.ocm_rules.proofs.ShareRows.{share_row, share_rows, untouched, share_rows-step}
use Rattle.ocm_rules.proofs.SentRows.{sent_row, sent_rows, unsettled, sent_rows-step}
use Rattle.ocm_rules.proofs.ReceivedRows.{received_row, received_rows, untouched_record, accepted-sent, received_rows-step}
use Rattle.ocm_rules.proofs.RequestRows.{request_row, request_rows, untouched_request, requested-sent, request_rows-step}

-- what is read of a list of kept entries, as lists of rows
abbrev pub state_read : List ℕ → List Entry → State
state_read host g = record {
  host = host;
  moment = moment g;
  users = users g;
  shares = share_rows host g;
  limits = limits g;
  nodes = nodes host g;
  received = received_rows host g;
  requests = request_rows host g;
  sent = sent_rows host g;
}

-- ---- what is looked up in the rows is what is read

-- a look-up in rows: of one that is there, and of one that is not
by_row : {X Y Z : Type 0} (f : ℕ → X → Y) (xs : List X) (look : Y → Z) (other : Z) (read : ℕ → Z)
    → ((i : ℕ) (x : X) → at_number xs i ≡ Some x → read i ≡ look (f i x)) → ((i : ℕ) → at_number xs i ≡ None → read i ≡ other)
    → (i : ℕ) → read i ≡ option_map_or look (at_number (map_numbered f 1 xs) i) other
by_row f xs look other read there absent i = rw (at_number-map_numbered f xs i) (by_case (at_number xs i) refl)
  where
    by_case : (o : Option _) → at_number xs i ≡ o → read i ≡ option_map_or look (option_map (f i) o) other
    by_case None e = absent i e
    by_case (Some x) e = there i x e

goes_on-rows : (host : List ℕ) (g : List Entry) → IsAnswered host g → (i : ℕ) → goes_on g i ≡ option_map_or (row_goes_on (moment g)) (at_number (share_rows host g) i) true
goes_on-rows host g h = by_row (share_row g) (made host g) (row_goes_on (moment g)) true (goes_on g) (λ i share e. refl)
    (λ i e. let none = untouched host g h i e in rw (none.1, none.2) refl)

perms-rows : (host : List ℕ) (g : List Entry) → IsAnswered host g → (i : ℕ) → perms_among (made host g) g i ≡ option_map_or (λ (row : ShareRow). row.perms) (at_number (share_rows host g) i) no_rights
perms-rows host g h = by_row (share_row g) (made host g) (λ (row : ShareRow). row.perms) no_rights (perms_among (made host g) g) (λ i share e. rw e refl)
    (λ i e. let none = untouched host g h i e in rw (none.0, e) refl)

phase-rows : (host : List ℕ) (g : List Entry) → IsAnswered host g → (n : ℕ) → phase_among (out host g) g n ≡ option_map_or (λ (row : ReceivedRow). row.phase) (at_number (received_rows host g) n) phases.Pending
phase-rows host g h = by_row (received_row host g) (offers g) (λ (row : ReceivedRow). row.phase) phases.Pending (phase_among (out host g) g) (λ n offer e. rw e refl)
    (λ n e.
    let none = untouched_record host g h n e in
    let absent : list_any (accepts_record n) (out host g) ≡ false = sym (accepted-sent host g h n).0 ∙ none.1 in
    rw (none.0, none.1, number_of-absent (accepts_record n) (out host g) absent, e) refl)

told-rows : (host : List ℕ) (g : List Entry) (n : ℕ) → told g n ≡ option_map_or (λ (row : ReceivedRow). row.told) (at_number (received_rows host g) n) (record { serial = 0; perms = no_rights })
told-rows host g = by_row (received_row host g) (offers g) (λ (row : ReceivedRow). row.told) (record { serial = 0; perms = no_rights }) (told g) (λ n offer e. rw e refl) (λ n e. rw e refl)

state-rows : (host : List ℕ) (g : List Entry) → IsAnswered host g → (r : ℕ) → state_among (out host g) g r ≡ option_map_or (λ (row : Request). row.state) (at_number (request_rows host g) r) states.Asked
state-rows host g h = by_row (request_row host g) (requests g) (λ (row : Request). row.state) states.Asked (state_among (out host g) g) (λ r request e. refl)
    (λ r e. rw (untouched_request host g h r e, number_of-absent (asks_for_request r) (out host g) ((requested-sent host g h r).0 e)) refl)

settled-rows : (host : List ℕ) (g : List Entry) → IsAnswered host g → (m : ℕ) → is_settled g m ≡ option_map_or (λ (row : SentRow). row.settled) (at_number (sent_rows host g) m) false
settled-rows host g h = by_row (sent_row g) (out host g) (λ (row : SentRow). row.settled) false (is_settled g) (λ m message e. refl)
    (λ m e. rw (unsettled host g h m e) refl)

pub stands-rows : (host : List ℕ) (g : List Entry) (place : Place) → at host g place ≡ with_roots (node_at (nodes host g)) place
stands-rows host g place = rw (left_at-nodes host g place) refl

shares-rows : (host : List ℕ) (g : List Entry) → made host g ≡ map (λ (row : ShareRow). row.share) (share_rows host g)
shares-rows host g = sym (map-map_numbered (λ (row : ShareRow). row.share) (share_row g) 1 (made host g) (λ j x. refl))

offers-rows : (host : List ℕ) (g : List Entry) → offers g ≡ map (λ (row : ReceivedRow). row.offer) (received_rows host g)
offers-rows host g = sym (map-map_numbered (λ (row : ReceivedRow). row.offer) (received_row host g) 1 (offers g) (λ j x. refl))

requests-rows : (host : List ℕ) (g : List Entry) → requests g ≡ map asked_in (request_rows host g)
requests-rows host g = sym (map-map_numbered asked_in (request_row host g) 1 (requests g) (λ j x. refl))

messages-rows : (host : List ℕ) (g : List Entry) → out host g ≡ map (λ (row : SentRow). row.message) (sent_rows host g)
messages-rows host g = sym (map-map_numbered (λ (row : SentRow). row.message) (sent_row g) 1 (out host g) (λ j x. refl))

-- all that is read of kept entries is looked up in their rows
pub view_read : (host : List ℕ) (g : List Entry) → IsAnswered host g → view_of host g ≡ view_in (state_read host g)
view_read host g h = λ i. record {
  host = host;
  moment = moment g;
  users = users g;
  shares = shares-rows host g i;
  goes_on = λ j. goes_on-rows host g h j i;
  perms = λ j. perms-rows host g h j i;
  limits = limits g;
  stands = λ place. stands-rows host g place i;
  nodes = nodes host g;
  offers = offers-rows host g i;
  phase = λ j. phase-rows host g h j i;
  told = λ j. told-rows host g j i;
  requests = requests-rows host g i;
  state = λ j. state-rows host g h j i;
  messages = messages-rows host g i;
  is_settled = λ j. settled-rows host g h j i;
}

-- ---- one entry on

moment-step : (o p : Option ℕ) → unwrap_or (option_or o p) 0 ≡ unwrap_or o (unwrap_or p 0)
moment-step None p = refl
moment-step (Some clock) p = refl

-- what is read of kept entries, one entry on
pub state_read-step : (host : List ℕ) (e : Entry) (before : List Entry) → IsAnswered host (e ∷ before)
    → state_read host (e ∷ before) ≡ step_by (view_of host before) (state_read host before) e.ask e.reply
state_read-step host e before h = λ i. record {
  host = host;
  moment = moment-step (clock_of e.ask) (latest (λ (x : Entry). clock_of x.ask) before) i;
  users = added (users before) (user_by e.ask e.reply);
  shares = share_rows-step host e before h i;
  limits = count_by-cons (λ (x : Entry). is_limit x.ask) e before i;
  nodes = nodes host (e ∷ before);
  received = received_rows-step host e before h i;
  requests = request_rows-step host e before h i;
  sent = sent_rows-step host e before h i;
}

-- the lists of a host are what is read of the kept entries
pub state_of-read : (host : List ℕ) (g : List Entry) → IsAnswered host g → state_of host g ≡ state_read host g
state_of-read host [] h = refl
state_of-read host (e ∷ before) h =
    ap (λ st. step st e.ask e.reply) (state_of-read host before h.2)
    ∙ ap (λ v. step_by v (state_read host before) e.ask e.reply) (sym (view_read host before h.2))
    ∙ sym (state_read-step host e before h)

-- all that is read of kept entries is looked up in the lists
pub view_of-state : (host : List ℕ) (g : List Entry) → IsAnswered host g → view_of host g ≡ view_in (state_of host g)
view_of-state host g h = view_read host g h ∙ ap view_in (sym (state_of-read host g h))

-- the reply, by the lists
pub answer-state : (host : List ℕ) (g : List Entry) (ask : Ask) → IsAnswered host g → answer_kept host g ask ≡ reply_in (view_in (state_of host g)) ask
answer-state host g ask h = ap (λ v. reply_in v ask) (view_of-state host g h)

-- the lists after one more entry of a history
pub state_of-kept : (host : List ℕ) (g : List Entry) (e : Entry) → IsAnswered host (kept host g) → state_of host (kept host (e ∷ g)) ≡ after (state_of host (kept host g)) e.ask e.reply
state_of-kept host g e h =
    ap (λ b. state_of host (if b then e ∷ kept host g else kept host g)) (ap (λ v. changes_in v e.ask e.reply) (view_of-state host (kept host g) h))
    ∙ one_more (changes_in (view_in (state_of host (kept host g))) e.ask e.reply)
  where
    one_more : (b : Bool) → state_of host (if b then e ∷ kept host g else kept host g) ≡ (if b then step (state_of host (kept host g)) e.ask e.reply else state_of host (kept host g))
    one_more true = refl
    one_more false = refl
