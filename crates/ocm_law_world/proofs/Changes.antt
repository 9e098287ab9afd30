-- What a server tells of changed permissions is what its shares permit.
use Rattle.std.proofs.Common.{◌≡◌, ℕ, zero, suc, ◌+◌, ◌<◌, ◌≤◌, ◌^◌, List, [], ◌∷◌, ◌++◌, length, Bool, true, false, not, refl, sym, ap, ◌∙◌, arith}
use Rattle.std.specs.Prelude.{Option, Some, None, ◌⊎◌, if◌then◌else◌, is_some, nat_lt, decimal, option_map, option_and_then, option_to_list}
use Rattle.std.specs.List.{cons_option}
use Rattle.std.specs.Option.{option_map_or}
use Rattle.std.proofs.lemmas.Bool.{le-ltb, ltb-false}
use Rattle.std.proofs.lemmas.List.{length-append}
use mathlib.Core.Logic.{inl, inr}
use Rattle.ocm_texts.proofs.DecimalLaws.{printed}
use Rattle.ocm_texts.specs.Hex.{hex}
use Rattle.ocm_types.specs.declared.addresses.Address.{Address}
use Rattle.ocm_types.specs.declared.letters.Notice.TheVariants as notices
use Rattle.ocm_types.specs.declared.letters.Offer.{Offer}
use Rattle.ocm_types.specs.declared.phases.Which.TheVariants as limits_are
use Rattle.ocm_types.specs.declared.rights.Rights.{Rights}
use Rattle.ocm_entry.specs.declared.asks.Ask.{Ask}
use Rattle.ocm_entry.specs.declared.asks.Ask.TheVariants as asks
use Rattle.ocm_entry.specs.declared.asks.Cmd.TheVariants as commands
use Rattle.ocm_entry.specs.declared.entries.Entry.{Entry}
use Rattle.ocm_entry.specs.declared.refusals.AddressField.TheVariants as fields
use Rattle.ocm_entry.specs.declared.refusals.Why.TheVariants.{Collision, NotFound, NotPermitted, OwnHost, SenderIdReused, ShareClosed}
use Rattle.ocm_entry.specs.declared.replies.Reply.{Reply}
use Rattle.ocm_entry.specs.declared.replies.Reply.TheVariants as replies
use Rattle.ocm_entry.specs.declared.rows.Share.{Share}
use Rattle.ocm_entry.specs.declared.rows.Standing.{Standing}
use Rattle.ocm_rules.specs.declared.rows.Message.{Message}
use Rattle.ocm_rules.specs.Numbers.{added, at_number, same_text}
use Rattle.ocm_rules.specs.Users.{user_of_key}
use Rattle.ocm_rules.specs.Shares.{effective, effective_among, is_used, made, named, perms_among, share_by}
use Rattle.ocm_rules.specs.Requests.{Reshare, child_of}
use Rattle.ocm_rules.specs.Views.{View, cut_by, effective_in, effective_with, is_limit, is_live_in, limits, told_by_limit}
use Rattle.ocm_rules.specs.Messages.{acceptance, changed, is_change, offered, out, refusal, reshare_request, sends, to_guests, undo_of, unshared, view_of, without}
use Rattle.ocm_rules.specs.Answers.{child_for, first_reply, limited, local_reply, may_share, reply_in, refused, repeated_reply, request_reply, share_with}
use Rattle.ocm_rules.specs.History.{IsAnswered, changes_in}
use Rattle.ocm_rules.proofs.Away.{changed-answered}
use Rattle.ocm_rules.proofs.Endings.{limit-leaves}
use Rattle.ocm_rules.proofs.Lists.{count_by-cons, not_both, number_of-within}
use Rattle.ocm_rules.proofs.Searches.{some-same}
use Rattle.ocm_law_grants.proofs.Permissions.{at_number-length}
use Rattle.ocm_law_world.proofs.Owners.{at_number-added}
use Rattle.ocm_law_world.proofs.Accepting.{at_number-either, at_number-only, made-of}

-- ---- how many shares there can be

-- a share that is made by a command has room
share-room : (v : View) (key : List ℕ) (path : List (List ℕ)) (with : Address) (perms : Rights) (fresh : List ℕ) (own full used : Bool) (standing : Option Standing) (count : ℕ)
    → changes_in v (asks.Local key (commands.Share path with perms fresh)) (if own then refused (OwnHost fields.ShareWith) else (if not (is_some standing) then refused NotFound else (if full then limited limits_are.Shares else (if used then refused Collision else replies.Number count)))) ≡ true → full ≡ false
share-room v key path with perms fresh true full used standing count h = absurd (cc)
share-room v key path with perms fresh false full used None count h = absurd (cc)
share-room v key path with perms fresh false true used (Some standing) count h = absurd (cc)
share-room v key path with perms fresh false false used (Some standing) count h = refl

-- so has one that is made for a request
request-room : (f : Reply → Bool) (a b c full : Bool) (x : Reply) → f (refused ShareClosed) ≡ false → f (refused NotPermitted) ≡ false → f (refused (OwnHost fields.ShareWith)) ≡ false → f (limited limits_are.Shares) ≡ false
    → f (if a then refused ShareClosed else (if b then refused NotPermitted else (if c then refused (OwnHost fields.ShareWith) else (if full then limited limits_are.Shares else x)))) ≡ true → full ≡ false
request-room f true b c full x p q r s h = absurd (not_both _ h p)
request-room f false true c full x p q r s h = absurd (not_both _ h q)
request-room f false false true full x p q r s h = absurd (not_both _ h r)
request-room f false false false true x p q r s h = absurd (not_both _ h s)
request-room f false false false false x p q r s h = refl

-- a repeated request changes nothing
repeated-same : (v : View) (id secret sender_id fresh : List ℕ) (with : Address) (asked : Option Rights) (n : ℕ) (child : Option Share)
    → n ≤ length v.shares → changes_in v (asks.Notice (notices.ReshareRequest id secret with sender_id asked) fresh) (repeated_reply n child with asked) ≡ false
repeated-same v id secret sender_id fresh with asked n None within = refl
repeated-same v id secret sender_id fresh with asked n (Some child) within = by_test _
  where
    by_test : (b : Bool) → changes_in v (asks.Notice (notices.ReshareRequest id secret with sender_id asked) fresh) (if b then replies.Child n else refused SenderIdReused) ≡ false
    by_test true = le-ltb (length v.shares) n within
    by_test false = refl

asked-room : (v : View) (id secret sender_id fresh drawn : List ℕ) (with : Address) (asked : Option Rights) (parent : ℕ) (repeated : Option ℕ)
    → ((n : ℕ) → repeated ≡ Some n → n ≤ length v.shares)
    → changes_in v (asks.Notice (notices.ReshareRequest id secret with sender_id asked) fresh) (option_map_or (λ n. repeated_reply n (at_number v.shares n) with asked) repeated (first_reply v parent with asked drawn)) ≡ true
    → nat_lt 65536 (length v.shares + 1) ≡ false
asked-room v id secret sender_id fresh drawn with asked parent None within h =
    request-room (changes_in v (asks.Notice (notices.ReshareRequest id secret with sender_id asked) fresh)) (not (is_live_in v parent)) (not (may_share (effective_in v parent) asked)) (same_text with.host v.host) (nat_lt 65536 (length v.shares + 1))
    (if is_used v.users v.shares drawn then refused Collision else replies.Child (length v.shares + 1)) refl refl refl refl h
asked-room v id secret sender_id fresh drawn with asked parent (Some n) within h =
    absurd (not_both _ h (repeated-same v id secret sender_id fresh with asked n (at_number v.shares n) (within n refl)))

found-room : (v : View) (id secret sender_id fresh drawn : List ℕ) (with : Address) (asked : Option Rights) (found : Option (ℕ × Share))
    → changes_in v (asks.Notice (notices.ReshareRequest id secret with sender_id asked) fresh) (request_reply v found with sender_id asked drawn) ≡ true
    → nat_lt 65536 (length v.shares + 1) ≡ false
found-room v id secret sender_id fresh drawn with asked None h = absurd (cc)
found-room v id secret sender_id fresh drawn with asked (Some (parent, share)) h =
    asked-room v id secret sender_id fresh drawn with asked parent (child_for v parent sender_id) (λ n e. number_of-within _ v.shares n e) h

owned-room : (v : View) (key : List ℕ) (path : List (List ℕ)) (with : Address) (perms : Rights) (fresh : List ℕ) (user : Option ℕ)
    → changes_in v (asks.Local key (commands.Share path with perms fresh)) (local_reply v user (commands.Share path with perms fresh)) ≡ true → nat_lt 65536 (length v.shares + 1) ≡ false
owned-room v key path with perms fresh None h = absurd (cc)
owned-room v key path with perms fresh (Some user) h =
    share-room v key path with perms fresh (same_text with.host v.host) (nat_lt 65536 (length v.shares + 1)) (is_used v.users v.shares (hex fresh)) (v.stands (record { user = user; path = path })) (length v.shares + 1) h

within-room : (xs : List Share) (o : Option Share) → length xs ≤ 65536 → (nat_lt 65536 (length xs + 1) ≡ false) ⊎ (o ≡ None) → length (added xs o) ≤ 65536
within-room xs None low h = low
within-room xs (Some x) low (inl room) = let l = length-append xs (x ∷ []) in let le = ltb-false 65536 (length xs + 1) room in omega arith
within-room xs (Some x) low (inr none) = absurd (cc)

new-room : (v : View) (rights : ℕ → Rights) (ask : Ask) → changes_in v ask (reply_in v ask) ≡ true → (nat_lt 65536 (length v.shares + 1) ≡ false) ⊎ (share_by v.host v.users v.shares rights ask ≡ None)
new-room v rights (asks.Local key (commands.Share path with perms fresh)) h = inl (owned-room v key path with perms fresh (user_of_key v.users key) h)
new-room v rights (asks.Notice (notices.ReshareRequest id secret with sender_id asked) fresh) h = inl (found-room v id secret sender_id fresh (hex fresh) with asked (share_with v id secret) h)
new-room v rights _ h = inr refl

-- there are at most 65,536 shares
made-few : (host : List ℕ) (g : List Entry) → IsAnswered host g → length (made host g) ≤ 65536
made-few host [] answered = omega arith
made-few host (e ∷ before) answered =
    within-room (made host before) _ (made-few host before answered.2)
    (new-room (view_of host before) (effective_among (made host before) (perms_among (made host before) before)) e.ask (changed-answered host before e answered.0 answered.1))

-- so the id of each is read as its number
pub id-names : (host : List ℕ) (g : List Entry) (i : ℕ) (share : Share) → IsAnswered host g → at_number (made host g) i ≡ Some share → named (decimal i) ≡ Some i
id-names host g i share answered is =
    let few = made-few host g answered in
    let within = at_number-length (made host g) i share is in
    let fits : i < 2 ^ 64 = omega arith in
    (printed (decimal i) i).1 (fits, refl)

-- ---- which messages tell changed permissions

-- a message to one of the guests
guest-of : (ms : List Share) (f : ℕ → Share → Message) (ids : List ℕ) (j : ℕ) (m : Message) → at_number (to_guests ms f ids) j ≡ Some m → (id : ℕ) × (share : Share) × (at_number ms id ≡ Some share) × (m ≡ f id share)
guest-of ms f [] zero m is = absurd (cc)
guest-of ms f [] (suc j) m is = absurd (cc)
guest-of ms f (id ∷ ids) j m is = by_share (λ k e. guest-of ms f ids k m e) (at_number ms id) refl j is
  where
    Goal : Type 0
    Goal = (id : ℕ) × (share : Share) × (at_number ms id ≡ Some share) × (m ≡ f id share)

    by_share : ((k : ℕ) → at_number (to_guests ms f ids) k ≡ Some m → Goal) → (o : Option Share) → at_number ms id ≡ o → (k : ℕ) → at_number (cons_option (option_map (f id) o) (to_guests ms f ids)) k ≡ Some m → Goal
    by_share again None e k h = again k h
    by_share again (Some share) e zero h = absurd (cc)
    by_share again (Some share) e (suc zero) h = (id, share, e, sym (some-same (f id share) m h))
    by_share again (Some share) e (suc (suc k)) h = again (suc k) h

not_so : (m other : Message) → m ≡ other → is_change other.letter ≡ false → is_change m.letter ≡ true → ⊥
not_so m other same none h = not_both (is_change m.letter) h (ap (λ (k : Message). is_change k.letter) same ∙ none)

-- none of one that may be there, and none to guests
none-one : {X : Type 0} (f : X → Message) (o : Option X) (j : ℕ) (m : Message) → ((x : X) → is_change (f x).letter ≡ false) → at_number (option_to_list (option_map f o)) j ≡ Some m → is_change m.letter ≡ true → ⊥
none-one f o j m none is h = let one = made-of f o m (at_number-only _ j m is) in not_so m (f one.0) one.2 (none one.0) h

none-end : (ms : List Share) (ids : List ℕ) (j : ℕ) (m : Message) → at_number (to_guests ms unshared ids) j ≡ Some m → is_change m.letter ≡ true → ⊥
none-end ms ids j m is h = let one = guest-of ms unshared ids j m is in not_so m (unshared one.0 one.1) one.3 refl h

nothing-at : (j : ℕ) (m : Message) → at_number [] j ≡ Some m → ⊥
nothing-at zero m h = cc
nothing-at (suc j) m h = cc

none-named : (ms : List Share) (ids : ℕ → List ℕ) (number : Option ℕ) (j : ℕ) (m : Message) → at_number (option_map_or (λ i. to_guests ms unshared (ids i)) number []) j ≡ Some m → is_change m.letter ≡ true → ⊥
none-named ms ids None j m is h = nothing-at j m is
none-named ms ids (Some i) j m is h = none-end ms (ids i) j m is h

none-undo : (v : View) (r : ℕ) (request : Option Reshare) (j : ℕ) (m : Message)
    → at_number (option_to_list (option_and_then (λ (request : Reshare). option_and_then (λ offer. option_map (undo_of r offer) (child_of (v.state r))) (at_number v.offers request.received)) request)) j ≡ Some m → is_change m.letter ≡ true → ⊥
none-undo v r None j m is h = nothing-at j m is
none-undo v r (Some request) j m is h = by_offer (at_number v.offers request.received) is
  where
    by_offer : (o : Option Offer) → at_number (option_to_list (option_and_then (λ offer. option_map (undo_of r offer) (child_of (v.state r))) o)) j ≡ Some m → ⊥
    by_offer None k = nothing-at j m k
    by_offer (Some offer) k = none-one (undo_of r offer) (child_of (v.state r)) j m (λ child. refl) k h

-- the limit that a message tells of
abbrev pub TellsLimit : View → Ask → Message → Type 0
TellsLimit v ask m = (key : List ℕ) × (limited : ℕ) × (perms : Rights) × (id : ℕ) × (share : Share)
    × (ask ≡ asks.Local key (commands.Limit limited perms)) × (at_number v.shares id ≡ Some share) × (m ≡ changed (v.limits + 1) (effective_with v limited perms id) id share)

change-sent : (v : View) (ask : Ask) (j : ℕ) (m : Message) → at_number (sends v ask) j ≡ Some m → is_change m.letter ≡ true → TellsLimit v ask m
change-sent v (asks.Local key (commands.Limit limited perms)) j m is h =
    let one = guest-of v.shares (λ id. changed (v.limits + 1) (effective_with v limited perms id) id) (told_by_limit v limited perms) j m is in
    (key, limited, perms, one.0, one.1, refl, one.2, one.3)
change-sent v (asks.Local key (commands.Share path with perms fresh)) j m is h =
    absurd (none-one (offered v (length v.shares + 1)) (share_by v.host v.users v.shares (effective_in v) (asks.Local key (commands.Share path with perms fresh))) j m (λ share. refl) is h)
change-sent v (asks.Local key (commands.Unshare id)) j m is h = absurd (none-end v.shares (cut_by v id) j m is h)
change-sent v (asks.Local key (commands.Accept number)) j m is h = absurd (none-one (acceptance number) (at_number v.offers number) j m (λ offer. refl) is h)
change-sent v (asks.Local key (commands.Decline number)) j m is h = absurd (none-one (refusal number) (at_number v.offers number) j m (λ offer. refl) is h)
change-sent v (asks.Local key (commands.Reshare number with perms)) j m is h = absurd (none-one (reshare_request (length v.requests + 1) with perms) (at_number v.offers number) j m (λ offer. refl) is h)
change-sent v (asks.Local key (commands.Undo request)) j m is h = absurd (none-undo v request (at_number v.requests request) j m is h)
change-sent v (asks.Notice (notices.Declined id secret) fresh) j m is h = absurd (none-named v.shares (λ i. without i (cut_by v i)) (named id) j m is h)
change-sent v (asks.Notice (notices.ReshareRequest id secret with sender_id asked) fresh) j m is h =
    absurd (none-one (offered v (length v.shares + 1)) (share_by v.host v.users v.shares (effective_in v) (asks.Notice (notices.ReshareRequest id secret with sender_id asked) fresh)) j m (λ share. refl) is h)
change-sent v (asks.Notice (notices.ReshareUndo id secret) fresh) j m is h = absurd (none-named v.shares (λ i. cut_by v i) (named id) j m is h)
change-sent v _ j m is h = absurd (nothing-at j m is)

-- ---- what they tell

-- a share that is made is there after all later entries
pub made-later : (host : List ℕ) (later g : List Entry) (id : ℕ) (share : Share) → at_number (made host g) id ≡ Some share → at_number (made host (later ++ g)) id ≡ Some share
made-later host [] g id share is = is
made-later host (e ∷ later) g id share is = at_number-added (made host (later ++ g)) _ id share (made-later host later g id share is)

-- of these kept entries one is the limit of this number, after which the share of this number permits this
pub record Limited (host : List ℕ) (g : List Entry) (m : Message) : Type 0 where
  pub id : ℕ
  pub share : Share
  pub later : List Entry
  pub limit : Entry
  pub before : List Entry
  pub made : at_number (made host (limit ∷ before)) id ≡ Some share
  pub stands : g ≡ later ++ limit ∷ before
  pub is_limit : is_limit limit.ask ≡ true
  pub message : m ≡ changed (limits (limit ∷ before)) (effective host (limit ∷ before) id) id share

limited-older : (host : List ℕ) (e : Entry) (before : List Entry) (m : Message) → Limited host before m → Limited host (e ∷ before) m
limited-older host e before m l = record {
  id = l.id;
  share = l.share;
  later = e ∷ l.later;
  limit = l.limit;
  before = l.before;
  made = l.made;
  stands = ap (λ rest. e ∷ rest) l.stands;
  is_limit = l.is_limit;
  message = l.message;
}

limited-now : (host : List ℕ) (e : Entry) (before : List Entry) (m : Message) → TellsLimit (view_of host before) e.ask m → Limited host (e ∷ before) m
limited-now host e before m (key, which, perms, id, share, is, there, same) = record {
  id = id;
  share = share;
  later = [];
  limit = e;
  before = before;
  made = at_number-added (made host before) _ id share there;
  stands = refl;
  is_limit = ap is_limit is;
  message = same ∙ sym (ap (λ p. changed (limits before + 1) p id share) rights) ∙ sym (ap (λ n. changed n (effective host (e ∷ before) id) id share) counted);
}
  where
    counted : limits (e ∷ before) ≡ limits before + 1
    counted = count_by-cons (λ (x : Entry). is_limit x.ask) e before ∙ ap (λ b. if b then limits before + 1 else limits before) (ap is_limit is)

    rights : effective host (e ∷ before) id ≡ effective_with (view_of host before) which perms id
    rights =
        ap (λ (a : Ask). effective host (record { ask = a; reply = e.reply } ∷ before) id) is
        ∙ sym (limit-leaves host before key which perms e.reply id)

-- a message that tells changed permissions tells what a share permits after a limit
pub changes-limited : (host : List ℕ) (g : List Entry) (number : ℕ) (m : Message) → at_number (out host g) number ≡ Some m → is_change m.letter ≡ true → Limited host g m
changes-limited host [] zero m is h = absurd (cc)
changes-limited host [] (suc number) m is h = absurd (cc)
changes-limited host (e ∷ before) number m is h = by_place (λ f. changes-limited host before number m f h) (at_number-either (out host before) (sends (view_of host before) e.ask) number m is)
  where
    by_place : (at_number (out host before) number ≡ Some m → Limited host before m) → (at_number (out host before) number ≡ Some m) ⊎ ((j : ℕ) × (at_number (sends (view_of host before) e.ask) j ≡ Some m)) → Limited host (e ∷ before) m
    by_place again (inl f) = limited-older host e before m (again f)
    by_place again (inr (j, f)) = limited-now host e before m (change-sent (view_of host before) e.ask j m f h)
