-- A server sends no more messages than are counted for its shares, received offers, requests and told changes, and so they have numbers.
use Rattle.std.proofs.Common.{◌≡◌, ℕ, ◌+◌, ◌≤◌, List, [], ◌∷◌, length, Bool, true, false, arith}
use Rattle.std.specs.Prelude.{if◌then◌else◌}
use Rattle.std.proofs.lemmas.List.{length-append}
use Rattle.ocm_entry.specs.declared.entries.Entry.{Entry}
use Rattle.ocm_rules.specs.Shares.{is_live, made}
use Rattle.ocm_rules.specs.Offers.{offers}
use Rattle.ocm_rules.specs.Requests.{requests}
use Rattle.ocm_rules.specs.Views.{View}
use Rattle.ocm_rules.specs.Messages.{change_count, out, phase, sends, state, view_of}
use Rattle.ocm_rules.specs.History.{IsAnswered, IsLegal, kept}
use Rattle.ocm_rules.proofs.Kept.{kept-answered}
use Rattle.ocm_law_counts.specs.Counts.{about_records, about_requests, about_shares, counted_messages, record_messages, request_messages, share_messages}
use Rattle.ocm_law_counts.proofs.Rows.{total-twice}
use Rattle.ocm_law_counts.proofs.Sending.{change_sends, record_sends, request_sends, sends-parted}
use Rattle.ocm_law_counts.proofs.Shares.{share_sends, shares-step}
use Rattle.ocm_law_counts.proofs.Records.{record-most, records-step}
use Rattle.ocm_law_counts.proofs.Requests.{request-most, requests-step}
use Rattle.ocm_law_counts.proofs.Limits.{change_count-step, changes-few, made-few, offers-few, requests-few}

-- what is counted in four parts grows by what is sent in four parts
four-parts : (sent shares records requests changes more : ℕ) (a b c d : ℕ) → sent ≤ shares + records + requests + changes → more ≡ a + b + c + d
    → (shares_after records_after requests_after changes_after : ℕ) → shares + a ≤ shares_after → records + b ≤ records_after → requests + c ≤ requests_after → changes_after ≡ changes + d
    → sent + more ≤ shares_after + records_after + requests_after + changes_after
four-parts sent shares records requests changes more a b c d within parted shares_after records_after requests_after changes_after h i j k = omega arith

-- kept entries send no more messages than are counted for what is kept
pub sent-within : (host : List ℕ) (g : List Entry) → IsAnswered host g → length (out host g) ≤ counted_messages host g
sent-within host [] answered = omega arith
sent-within host (e ∷ before) answered =
    let v : View = view_of host before in
    rw (length-append (out host before) (sends v e.ask))
    (four-parts (length (out host before)) (about_shares host before) (about_records host before) (about_requests host before) (change_count (out host before)) (length (sends v e.ask))
    (length (share_sends v e.ask)) (length (record_sends v e.ask)) (length (request_sends v e.ask)) (length (change_sends v e.ask))
    (sent-within host before answered.2) (sends-parted v e.ask)
    (about_shares host (e ∷ before)) (about_records host (e ∷ before)) (about_requests host (e ∷ before)) (change_count (out host (e ∷ before)))
    (shares-step host e before answered) (records-step host e before answered) (requests-step host e before answered) (change_count-step host e before))

share-most : (b : Bool) → (if b then 1 else 2) ≤ 2
share-most true = omega arith
share-most false = omega arith

small-sum : (shares records requests a b c d : ℕ) → a ≤ shares + shares → b ≤ records + records → c ≤ requests + requests → shares ≤ 65536 → records ≤ 65536 → requests ≤ 65536 → d ≤ 655360 → a + b + c + d ≤ 1048576
small-sum shares records requests a b c d h i j k l m n = omega arith

-- and that is at most 1,048,576
most-few : (host : List ℕ) (g : List Entry) → IsAnswered host g → counted_messages host g ≤ 1048576
most-few host g answered =
    small-sum (length (made host g)) (length (offers g)) (length (requests g)) (about_shares host g) (about_records host g) (about_requests host g) (change_count (out host g))
    (total-twice (share_messages host g) (λ i. share-most (is_live host g i)) (made host g))
    (total-twice (λ n. record_messages (phase host g n)) (λ n. record-most (phase host g n)) (offers g))
    (total-twice (λ r. request_messages (state host g r)) (λ r. request-most (state host g r)) (requests g))
    (made-few host g answered) (offers-few host g answered) (requests-few host g answered) (changes-few host g answered)

pub messages-counted : (host : List ℕ) (g : List Entry) → IsLegal host g → length (out host (kept host g)) ≤ counted_messages host (kept host g)
messages-counted host g legal = sent-within host (kept host g) (kept-answered host g legal)

-- messages have numbers up to 1,048,576
pub messages-have-numbers : (host : List ℕ) (g : List Entry) → IsLegal host g → length (out host (kept host g)) ≤ 1048576
messages-have-numbers host g legal =
    let counted = messages-counted host g legal in
    let few = most-few host (kept host g) (kept-answered host g legal) in
    omega arith
