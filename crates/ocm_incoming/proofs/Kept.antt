use Rattle.std.proofs.Common.{◌≡◌, ℕ, ◌+◌, ◌-◌, ◌<◌, ◌≤◌, List, [], ◌∷◌, ◌++◌, length, map, get_or, Bool, true, false, cond, not, refl, sym, ap, ◌∙◌, arith}
use Rattle.std.specs.Prelude.{nat_eq, unwrap_or, IsSome}
use Rattle.std.proofs.lemmas.List.{map-append, length-map, length-append, get_or_append_left}
use Rattle.ocm_types.specs.declared.letters.Offer.{Offer}
use Rattle.ocm_types.specs.declared.phases.Phase.{Phase}
use Rattle.ocm_types.specs.declared.phases.Phase.TheVariants.{Pending}
use Rattle.ocm_types.specs.declared.phases.RequestPhase.{RequestPhase}
use Rattle.ocm_entry.specs.declared.rows.Request.{Request}
use Rattle.ocm_rules.specs.Numbers.{same_text, at_number}
use Rattle.ocm_rules.specs.Offers.{is_pending, is_given_up}
use Rattle.ocm_rules.specs.State.{map_numbered, changed_at}
use Rattle.ocm_rules.proofs.Numbering.{length-map_numbered}
use Rattle.ocm_incoming.specs.declared.rows.Record.{Record}
use Rattle.ocm_incoming.specs.declared.tallies.Tag.{Tag}
use Rattle.ocm_incoming.specs.Groups.{recounted, IsNumberOf}
use Rattle.ocm_incoming.specs.Keys.{mark_of, same_mark}
use Rattle.ocm_incoming.specs.Lists.{users_of, marks_of, first_for, first_with, phased, stated}
use Rattle.ocm_incoming.specs.Index.{user_of, sign_of, user_groups, mark_groups, pending_tags, held_tags, asker_of, AreThere, IsInbox}
use Rattle.ocm_incoming.proofs.Changing.{number-within}
use Rattle.ocm_incoming.proofs.Firsts.{text-Decides, mark-Decides}
use Rattle.ocm_incoming.proofs.Labelling.{labelled-push, labelled-changed, labelled-unchanged, map-unchanged}

-- ---- requests that are about one of so many records

there-more : (n m : ℕ) (qs : List Request) → n ≤ m → AreThere n qs → AreThere m qs
there-more n m [] h t = tt
there-more n m (q ∷ qs) h t = (record { from_one = t.0.from_one; within = omega (arith, h, t.0.within) }, there-more n m qs h t.1)

there-push : (n : ℕ) (qs : List Request) (q : Request) → AreThere n qs → IsNumberOf n q.received → AreThere n (qs ++ q ∷ [])
there-push n [] q t one = (one, tt)
there-push n (p ∷ qs) q t one = (t.0, there-push n qs q t.1 one)

there-changed : (n r k : ℕ) (state : RequestPhase) (qs : List Request) → AreThere n qs → AreThere n (map_numbered (λ j q. cond (nat_eq r j) (stated state q) q) k qs)
there-changed n r k state [] t = tt
there-changed n r k state (q ∷ qs) t = (step (nat_eq r k) t.0, there-changed n r (k + 1) state qs t.1)
  where
    step : (b : Bool) → IsNumberOf n q.received → IsNumberOf n (cond b (stated state q) q).received
    step true one = one
    step false one = one

-- the groups of the requests, with one record more
askers-more : (users : List ℕ) (more : ℕ) (qs : List Request) → AreThere (length users) qs → map (asker_of (users ++ more ∷ [])) qs ≡ map (asker_of users) qs
askers-more users more [] t = refl
askers-more users more (q ∷ qs) t =
    let place : q.received - 1 < length users = omega (arith, t.0.from_one, t.0.within) in
    let one = get_or_append_left users (more ∷ []) 0 (q.received - 1) place in
    let rest = askers-more users more qs t.1 in
    rw (one, rest) refl

-- ---- how many groups there are

pub user_groups-length : (rows : List Record) → length (user_groups rows) ≡ length rows
user_groups-length rows = length-map rows _

pub mark_groups-length : (rows : List Record) → length (mark_groups rows) ≡ length rows
mark_groups-length rows = length-map rows _

pub pending_tags-length : (rows : List Record) → length (pending_tags rows) ≡ length rows
pending_tags-length rows = length-map rows _

pub held_tags-length : (rows : List Record) → length (held_tags rows) ≡ length rows
held_tags-length rows = length-map rows _

-- ---- one record more

pub received-IsInbox : (rows : List Record) (requests : List Request) (users marks askers : List ℕ) (pending held : List Tag) (offer : Offer) (number user mark : ℕ) → IsInbox rows requests users marks askers pending held → length rows < 65536 → number ≡ length rows + 1 → user ≡ unwrap_or (first_for (users_of rows) offer.with.user) number → mark ≡ unwrap_or (first_with (marks_of rows) (mark_of offer)) number
    → IsInbox (rows ++ record { offer = offer; phase = Pending } ∷ []) requests (users ++ user ∷ []) (marks ++ mark ∷ []) askers (pending ++ record { group = user; counts = true } ∷ []) (held ++ record { group = mark; counts = true } ∷ [])
received-IsInbox rows requests users marks askers pending held offer number user mark inbox few n u m =
    let row : Record = record { offer = offer; phase = Pending } in
    let long = length-append rows (row ∷ []) in
    let so_many : length users ≡ length rows = ap length inbox.by_user ∙ user_groups-length rows in
    record {
      few = omega (arith, long);
      few_requests = inbox.few_requests;
      there = there-more (length rows) (length (rows ++ row ∷ [])) requests (omega (arith, long)) inbox.there;
      by_user = rw inbox.by_user (labelled-push same_text text-Decides user_of (λ k r. k) rows row number user n u);
      by_mark = rw inbox.by_mark (labelled-push same_mark mark-Decides sign_of (λ k r. k) rows row number mark n m);
      by_asker = inbox.by_asker ∙ sym (askers-more users user requests (rw so_many inbox.there));
      undecided = rw inbox.undecided (labelled-push same_text text-Decides user_of (λ k (r : Record). record { group = k; counts = is_pending r.phase }) rows row number user n u);
      still_held = rw inbox.still_held (labelled-push same_mark mark-Decides sign_of (λ k (r : Record). record { group = k; counts = not (is_given_up r.phase) }) rows row number mark n m);
    }

-- ---- one request more

pub asked-IsInbox : (rows : List Record) (requests : List Request) (users marks askers : List ℕ) (pending held : List Tag) (q : Request) (group : ℕ) → IsInbox rows requests users marks askers pending held → length requests < 65536 → IsSome (at_number rows q.received) → group ≡ get_or users (q.received - 1) 0
    → IsInbox rows (requests ++ q ∷ []) users marks (askers ++ group ∷ []) pending held
asked-IsInbox rows requests users marks askers pending held q group inbox few there g =
    let within = number-within rows q.received there in
    record {
      few = inbox.few;
      few_requests = omega (arith, length-append requests (q ∷ []));
      there = there-push (length rows) requests q inbox.there (record { from_one = omega (arith, within); within = omega (arith, within) });
      by_user = inbox.by_user;
      by_mark = inbox.by_mark;
      by_asker = rw (inbox.by_asker, g) (sym (map-append (asker_of users) requests (q ∷ [])));
      undecided = inbox.undecided;
      still_held = inbox.still_held;
    }

-- ---- a record and a request changed

pub phased-IsInbox : (rows : List Record) (requests : List Request) (users marks askers : List ℕ) (pending held : List Tag) (n : ℕ) (phase : Phase) → IsInbox rows requests users marks askers pending held
    → IsInbox (changed_at n (phased phase) rows) requests users marks askers (changed_at n (recounted (is_pending phase)) pending) (changed_at n (recounted (not (is_given_up phase))) held)
phased-IsInbox rows requests users marks askers pending held n phase inbox =
    let long = length-map_numbered (λ j r. cond (nat_eq n j) (phased phase r) r) 1 rows in
    record {
      few = rw long inbox.few;
      few_requests = inbox.few_requests;
      there = rw long inbox.there;
      by_user = inbox.by_user ∙ sym (labelled-unchanged same_text user_of (λ k r. k) (phased phase) n rows (λ r. refl) (λ k r. refl));
      by_mark = inbox.by_mark ∙ sym (labelled-unchanged same_mark sign_of (λ k r. k) (phased phase) n rows (λ r. refl) (λ k r. refl));
      by_asker = inbox.by_asker;
      undecided = rw inbox.undecided (sym (labelled-changed same_text user_of (λ k (r : Record). record { group = k; counts = is_pending r.phase }) (phased phase) (recounted (is_pending phase)) n rows (λ r. refl) (λ k r. refl)));
      still_held = rw inbox.still_held (sym (labelled-changed same_mark sign_of (λ k (r : Record). record { group = k; counts = not (is_given_up r.phase) }) (phased phase) (recounted (not (is_given_up phase))) n rows (λ r. refl) (λ k r. refl)));
    }

pub stated-IsInbox : (rows : List Record) (requests : List Request) (users marks askers : List ℕ) (pending held : List Tag) (r : ℕ) (state : RequestPhase) → IsInbox rows requests users marks askers pending held → IsInbox rows (changed_at r (stated state) requests) users marks askers pending held
stated-IsInbox rows requests users marks askers pending held r state inbox =
    let long = length-map_numbered (λ j q. cond (nat_eq r j) (stated state q) q) 1 requests in
    record {
      few = inbox.few;
      few_requests = rw long inbox.few_requests;
      there = there-changed (length rows) r 1 state requests inbox.there;
      by_user = inbox.by_user;
      by_mark = inbox.by_mark;
      by_asker = inbox.by_asker ∙ sym (map-unchanged (asker_of users) (stated state) r requests (λ q. refl));
      undecided = inbox.undecided;
      still_held = inbox.still_held;
    }
