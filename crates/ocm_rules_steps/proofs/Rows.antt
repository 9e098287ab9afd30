use Rattle.std.proofs.Common.{◌≡◌, ◌+◌, List, [], ◌++◌, map, false, refl, ap, append-nil}
use Rattle.std.specs.Prelude.{unwrap_or, option_map, if◌then◌else◌}
use Rattle.ocm_entry.specs.declared.asks.Ask.{Ask}
use Rattle.ocm_entry.specs.declared.replies.Reply.{Reply}
use Rattle.ocm_entry.specs.declared.rows.Request.{Request}
use Rattle.ocm_rules.specs.declared.rows.ShareRow.{ShareRow}
use Rattle.ocm_rules.specs.declared.rows.ReceivedRow.{ReceivedRow}
use Rattle.ocm_rules.specs.declared.rows.SentRow.{SentRow}
use Rattle.ocm_rules.specs.Numbers.{added}
use Rattle.ocm_rules.specs.Users.{user_by}
use Rattle.ocm_rules.specs.Shares.{clock_of, share_by}
use Rattle.ocm_rules.specs.Holders.{root_among}
use Rattle.ocm_rules.specs.Files.{act_by, nodes_after}
use Rattle.ocm_rules.specs.Offers.{offer_by}
use Rattle.ocm_rules.specs.Requests.{request_by}
use Rattle.ocm_rules.specs.Views.{View, is_limit, effective_in}
use Rattle.ocm_rules.specs.Messages.{sends}
use Rattle.ocm_rules.specs.State.{State, map_numbered, share_row_after, received_row_after, request_row_after, sent_row_after, new_share_row, new_received_row, new_request_row, new_sent_row, view_in, step, touches_shares, touches_records, touches_requests, touches_messages}
use Rattle.ocm_rules.proofs.Steps.{other-shares, other-records, other-requests, other-messages}

-- the lists after a kept entry, where the rows that were there became these
abbrev pub lists_with : View → State → Ask → Reply → List ShareRow → List ReceivedRow → List Request → List SentRow → State
lists_with v st ask reply shares received requests sent = record {
  host = st.host;
  moment = unwrap_or (clock_of ask) st.moment;
  users = added st.users (user_by ask reply);
  shares = added shares (option_map new_share_row (share_by v.host v.users v.shares (effective_in v) ask));
  limits = if is_limit ask then st.limits + 1 else st.limits;
  nodes = nodes_after (act_by (root_among v.users v.shares) ask) st.nodes;
  received = added received (option_map new_received_row (offer_by ask));
  requests = added requests (option_map new_request_row (request_by ask));
  sent = sent ++ map new_sent_row (sends v ask);
}

-- a step, by what becomes of the rows that were there
pub step-rows : (st : State) (ask : Ask) (reply : Reply) (shares : List ShareRow) (received : List ReceivedRow) (requests : List Request) (sent : List SentRow)
    → map_numbered (share_row_after ask) 1 st.shares ≡ shares
    → map_numbered (received_row_after (view_in st).messages ask) 1 st.received ≡ received
    → map_numbered (request_row_after (view_in st).messages ask) 1 st.requests ≡ requests
    → map_numbered (sent_row_after ask) 1 st.sent ≡ sent
    → step st ask reply ≡ lists_with (view_in st) st ask reply shares received requests sent
step-rows st ask reply shares received requests sent a b c d = rw (a, b, c, d) refl

-- a step of an ask that leaves the rows that were there as they are
pub step-added : (st : State) (ask : Ask) (reply : Reply) → touches_shares ask ≡ false → touches_records ask ≡ false → touches_requests ask ≡ false → touches_messages ask ≡ false
    → step st ask reply ≡ lists_with (view_in st) st ask reply st.shares st.received st.requests st.sent
step-added st ask reply a b c d =
    step-rows st ask reply st.shares st.received st.requests st.sent (other-shares ask st.shares a) (other-records (view_in st).messages ask st.received b) (other-requests (view_in st).messages ask st.requests c) (other-messages ask st.sent d)

-- nothing sent
pub none-sent : (st : State) → (let r : State = record st { sent = st.sent ++ [] } in r) ≡ st
none-sent st = ap (λ (sent : List SentRow). let r : State = record st { sent = sent } in r) (append-nil st.sent)
