use Rattle.std.proofs.Common.{◌≡◌, ℕ, ◌+◌, ◌<◌, ◌≤◌, List, [], ◌∷◌, ◌++◌, length, map, Bool, true, false, refl, sym, ap, ◌∙◌, subst, arith, append_assoc}
use Rattle.std.specs.Prelude.{Option, Some, None, nat_lt, ◌&&◌, ◌||◌, not, if◌then◌else◌, option_map, option_and_then, is_some}
use Rattle.std.specs.List.{list_any}
use Rattle.std.specs.Option.{option_map_or}
use Rattle.std.specs.Cmp.Lexicographic.{nat_list_eq_equiv}
use Rattle.std.proofs.lemmas.Bool.{ltb-true}
use Rattle.std.proofs.lemmas.List.{append-nil, map-append}
use Rattle.ocm_texts.specs.Hex.{hex}
use Rattle.ocm_types.specs.declared.letters.Notice.TheVariants as notices
use Rattle.ocm_types.specs.declared.rights.Rights.{Rights}
use Rattle.ocm_types.specs.declared.addresses.Address.{Address}
use Rattle.ocm_entry.specs.declared.asks.Ask.{Ask}
use Rattle.ocm_entry.specs.declared.asks.Ask.TheVariants as asks
use Rattle.ocm_entry.specs.declared.asks.Cmd.{Cmd}
use Rattle.ocm_entry.specs.declared.asks.Cmd.TheVariants as commands
use Rattle.ocm_entry.specs.declared.refusals.Why.TheVariants.{NotFound, UserExists, Collision, OwnHost, ShareClosed, NotPermitted, SenderIdReused}
use Rattle.ocm_entry.specs.declared.refusals.AddressField.TheVariants as fields
use Rattle.ocm_types.specs.declared.phases.Which.TheVariants as limits
use Rattle.ocm_path.specs.Paths.{Segments}
use Rattle.ocm_entry.specs.declared.replies.Reply.{Reply}
use Rattle.ocm_entry.specs.declared.replies.Reply.TheVariants as replies
use Rattle.ocm_entry.specs.declared.entries.Entry.{Entry}
use Rattle.ocm_entry.specs.declared.rows.Share.{Share}
use Rattle.ocm_entry.specs.declared.rows.User.{User}
use Rattle.ocm_rules.specs.Equal.{same_address, same_asked}
use Rattle.ocm_rules.specs.Numbers.{added, same_text, number_of, number_from, at_number}
use Rattle.ocm_rules.specs.Users.{users, user_of_key, is_taken}
use Rattle.ocm_rules.specs.Shares.{made, used, used_among, is_used, effective_among, perms_among, named, own_share, child_share}
use Rattle.ocm_rules.specs.Views.{View, effective_in, is_live_in}
use Rattle.ocm_rules.specs.Messages.{view_of}
use Rattle.ocm_rules.specs.Answers.{refused, limited, local_reply, request_reply, repeated_reply, first_reply, child_for, is_for_request, share_with, may_share}
use Rattle.ocm_rules.specs.History.{changes_in, notice_changes, answer_kept, IsAnswered}
use Rattle.ocm_law_grants.specs.Grants.{are_different}
use Rattle.ocm_law_grants.proofs.Links.{both_true}

-- comparing texts the other way round
same_text-turned : (a b : List ℕ) → same_text a b ≡ same_text b a
same_text-turned a b = nat_list_eq_equiv.symm a b

-- a text that is none of these differs from each
none_same : (y : List ℕ) (xs : List (List ℕ)) → list_any (λ s. same_text s y) xs ≡ list_any (same_text y) xs
none_same y [] = refl
none_same y (x ∷ xs) = rw (same_text-turned x y, none_same y xs) refl

-- a test finds nothing in a list with one more that it does not find
none_behind : (p : List ℕ → Bool) (y : List ℕ) (xs ys : List (List ℕ)) → list_any p (xs ++ ys) ≡ false → p y ≡ false → list_any p (xs ++ y ∷ ys) ≡ false
none_behind p y [] ys h k = rw (k, h) refl
none_behind p y (x ∷ xs) ys h k =
    let r = neither_of (p x) (list_any p (xs ++ ys)) h in
    rw (r.0, none_behind p y xs ys r.1 k) refl
  where
    neither_of : (a b : Bool) → (a || b) ≡ false → (a ≡ false) × (b ≡ false)
    neither_of true b h' = absurd (cc)
    neither_of false b h' = (refl, h')

-- texts that differ go on differing with one more, wherever it comes, that is none of them
pub different-with : (y : List ℕ) (xs ys : List (List ℕ)) → are_different (xs ++ ys) ≡ true → list_any (λ s. same_text s y) (xs ++ ys) ≡ false → are_different (xs ++ y ∷ ys) ≡ true
different-with y [] ys h k = rw (sym (none_same y ys) ∙ k, h) refl
different-with y (x ∷ xs) ys h k =
    let r = both_true (not (list_any (same_text x) (xs ++ ys))) (are_different (xs ++ ys)) h in
    let none = neither_of (same_text x y) (list_any (λ s. same_text s y) (xs ++ ys)) k in
    rw (none_behind (same_text x) y xs ys (not_yes _ r.0) none.0, different-with y xs ys r.1 none.1) refl
  where
    neither_of : (a b : Bool) → (a || b) ≡ false → (a ≡ false) × (b ≡ false)
    neither_of true b h' = absurd (cc)
    neither_of false b h' = (refl, h')

    not_yes : (b : Bool) → not b ≡ true → b ≡ false
    not_yes true h' = absurd (cc)
    not_yes false h' = refl

-- ---- one more user, one more share

-- a new user's key, where it is used nowhere
user-more : (us : List User) (u : User) (ms : List Share) → are_different (used_among us ms) ≡ true → is_used us ms u.key ≡ false → are_different (used_among (us ++ u ∷ []) ms) ≡ true
user-more us u ms h k =
    let keys = map (λ (x : User). x.key) us in
    let secrets = map (λ (m : Share). m.secret) ms in
    let same : used_among (us ++ u ∷ []) ms ≡ keys ++ u.key ∷ secrets = ap (λ l. l ++ secrets) (map-append (λ (x : User). x.key) us (u ∷ [])) ∙ append_assoc keys (u.key ∷ []) secrets in
    ap are_different same ∙ different-with u.key keys secrets h k

-- a new share's secret, where it is used nowhere
share-more : (us : List User) (ms : List Share) (m : Share) → are_different (used_among us ms) ≡ true → is_used us ms m.secret ≡ false → are_different (used_among us (ms ++ m ∷ [])) ≡ true
share-more us ms m h k =
    let keys = map (λ (x : User). x.key) us in
    let secrets = map (λ (x : Share). x.secret) ms in
    let same : used_among us (ms ++ m ∷ []) ≡ (keys ++ secrets) ++ m.secret ∷ [] = ap (λ l. keys ++ l) (map-append (λ (x : Share). x.secret) ms (m ∷ [])) ∙ sym (append_assoc keys secrets (m.secret ∷ [])) in
    let all : keys ++ secrets ≡ (keys ++ secrets) ++ [] = sym (append-nil (keys ++ secrets)) in
    let P : List (List ℕ) → Type 0 = λ l. are_different l ≡ true in
    let Q : List (List ℕ) → Type 0 = λ l. list_any (λ s. same_text s m.secret) l ≡ false in
    ap are_different same ∙ different-with m.secret (keys ++ secrets) [] (subst P all h) (subst Q all k)

-- ---- what was drawn is used nowhere

-- a user that was added has the drawn key, which was used nowhere
user-fresh : (v : View) (name fresh key : List ℕ) (taken full used : Bool) (reply : Reply) → reply ≡ (if taken then refused UserExists else (if full then limited limits.Users else (if used then refused Collision else replies.Key key))) → changes_in v (asks.AddUser name fresh) reply ≡ true → (reply ≡ replies.Key key) × (used ≡ false)
user-fresh v name fresh key true full used reply is h =
    let P : Reply → Type 0 = λ r. changes_in v (asks.AddUser name fresh) r ≡ true in
    let never = subst P is h in absurd (cc)
user-fresh v name fresh key false true used reply is h =
    let P : Reply → Type 0 = λ r. changes_in v (asks.AddUser name fresh) r ≡ true in
    let never = subst P is h in absurd (cc)
user-fresh v name fresh key false false true reply is h =
    let P : Reply → Type 0 = λ r. changes_in v (asks.AddUser name fresh) r ≡ true in
    let never = subst P is h in absurd (cc)
user-fresh v name fresh key false false false reply is h = (is, refl)

-- a share that its owner made has a secret that was used nowhere
own-fresh : (v : View) (key : List ℕ) (cmd : Cmd) (own_host there full used : Bool) (n : ℕ) (reply : Reply) → reply ≡ (if own_host then refused (OwnHost fields.ShareWith) else (if not there then refused NotFound else (if full then limited limits.Shares else (if used then refused Collision else replies.Number n)))) → changes_in v (asks.Local key cmd) reply ≡ true → used ≡ false
own-fresh v key cmd true there full used n reply is h =
    let P : Reply → Type 0 = λ r. changes_in v (asks.Local key cmd) r ≡ true in
    let never = subst P is h in absurd (cc)
own-fresh v key cmd false false full used n reply is h =
    let P : Reply → Type 0 = λ r. changes_in v (asks.Local key cmd) r ≡ true in
    let never = subst P is h in absurd (cc)
own-fresh v key cmd false true true used n reply is h =
    let P : Reply → Type 0 = λ r. changes_in v (asks.Local key cmd) r ≡ true in
    let never = subst P is h in absurd (cc)
own-fresh v key cmd false true false true n reply is h =
    let P : Reply → Type 0 = λ r. changes_in v (asks.Local key cmd) r ≡ true in
    let never = subst P is h in absurd (cc)
own-fresh v key cmd false true false false n reply is h = refl

-- the same of the command
share-fresh : (v : View) (key : List ℕ) (user : Option ℕ) (path : Segments) (with : Address) (perms : Rights) (fresh : List ℕ) (reply : Reply) → reply ≡ local_reply v user (commands.Share path with perms fresh) → changes_in v (asks.Local key (commands.Share path with perms fresh)) reply ≡ true → is_used v.users v.shares (hex fresh) ≡ false
share-fresh v key None path with perms fresh reply is h =
    let P : Reply → Type 0 = λ r. changes_in v (asks.Local key (commands.Share path with perms fresh)) r ≡ true in
    let never = subst P is h in absurd (cc)
share-fresh v key (Some user) path with perms fresh reply is h =
    own-fresh v key (commands.Share path with perms fresh) (same_text with.host v.host) (is_some (v.stands (record { user = user; path = path }))) (nat_lt 65536 (length v.shares + 1)) (is_used v.users v.shares (hex fresh)) (length v.shares + 1) reply is h

-- the first that passes is one of the list's
number_from-within : {X : Type 0} (p : X → Bool) (k : ℕ) (xs : List X) (n : ℕ) → number_from p k xs ≡ Some n → (k ≤ n) × (n < k + length xs)
number_from-within p k [] n h = absurd (cc)
number_from-within p k (x ∷ xs) n h = cases (p x) h (λ g. number_from-within p (k + 1) xs n g)
  where
    cases : (b : Bool) → (if b then Some k else number_from p (k + 1) xs) ≡ Some n → (number_from p (k + 1) xs ≡ Some n → (k + 1 ≤ n) × (n < k + 1 + length xs)) → (k ≤ n) × (n < k + length (x ∷ xs))
    cases true g again = let same : k ≡ n = cc in (omega arith, omega arith)
    cases false g again = let r = again g in let a = r.0 in let b = r.1 in (omega arith, omega arith)

pub number_of-within : {X : Type 0} (p : X → Bool) (xs : List X) (n : ℕ) → number_of p xs ≡ Some n → (1 ≤ n) × (n ≤ length xs)
number_of-within p xs n h = let r = number_from-within p 1 xs n h in let a = r.0 in let b = r.1 in (omega arith, omega arith)

-- ---- a request that made a share

-- whether a request that was answered so made a share
abbrev MadeShare : View → List ℕ → List ℕ → Address → List ℕ → Option Rights → Reply → Type 0
MadeShare v id secret with sender_id asked reply = notice_changes v (notices.ReshareRequest id secret with sender_id asked) reply ≡ true

-- a request that is made for the first time was permitted, and its secret was used nowhere
first-fresh : (v : View) (id secret : List ℕ) (with : Address) (sender_id : List ℕ) (asked : Option Rights) (live may own_host full used : Bool) (n : ℕ) (reply : Reply) → reply ≡ (if not live then refused ShareClosed else (if not may then refused NotPermitted else (if own_host then refused (OwnHost fields.ShareWith) else (if full then limited limits.Shares else (if used then refused Collision else replies.Child n))))) → MadeShare v id secret with sender_id asked reply → (may ≡ true) × (used ≡ false)
first-fresh v id secret with sender_id asked false may own_host full used n reply is h =
    let never = subst (MadeShare v id secret with sender_id asked) is h in absurd (cc)
first-fresh v id secret with sender_id asked true false own_host full used n reply is h =
    let never = subst (MadeShare v id secret with sender_id asked) is h in absurd (cc)
first-fresh v id secret with sender_id asked true true true full used n reply is h =
    let never = subst (MadeShare v id secret with sender_id asked) is h in absurd (cc)
first-fresh v id secret with sender_id asked true true false true used n reply is h =
    let never = subst (MadeShare v id secret with sender_id asked) is h in absurd (cc)
first-fresh v id secret with sender_id asked true true false false true n reply is h =
    let never = subst (MadeShare v id secret with sender_id asked) is h in absurd (cc)
first-fresh v id secret with sender_id asked true true false false false n reply is h = (refl, refl)

-- a request that was made before makes no share
repeated-makes_none : (v : View) (id secret : List ℕ) (with : Address) (sender_id : List ℕ) (asked : Option Rights) (n : ℕ) (child : Option Share) (reply : Reply) → n ≤ length v.shares → reply ≡ repeated_reply n child with asked → MadeShare v id secret with sender_id asked reply → ⊥
repeated-makes_none v id secret with sender_id asked n None reply le is h =
    let never = subst (MadeShare v id secret with sender_id asked) is h in cc
repeated-makes_none v id secret with sender_id asked n (Some child) reply le is h = cases (same_address child.with with && same_asked child.asked asked) is
  where
    cases : (b : Bool) → reply ≡ (if b then replies.Child n else refused SenderIdReused) → ⊥
    cases true e =
        let more : nat_lt (length v.shares) n ≡ true = subst (MadeShare v id secret with sender_id asked) e h in
        let lt = ltb-true (length v.shares) n more in
        omega arith
    cases false e = let never = subst (MadeShare v id secret with sender_id asked) e h in cc

-- what was found is this share
abbrev pub Finds : Option (ℕ × Share) → ℕ → Share → Type 0
Finds found i share = found ≡ Some (i, share)

-- a request that made a share names one that is there, was permitted by its rights, and has a secret that was used nowhere
pub request-fresh : (v : View) (id secret : List ℕ) (with : Address) (sender_id : List ℕ) (asked : Option Rights) (drawn : List ℕ) (found : Option (ℕ × Share)) (reply : Reply) → reply ≡ request_reply v found with sender_id asked drawn → MadeShare v id secret with sender_id asked reply → (i : ℕ) × (share : Share) × Finds found i share × (may_share (effective_in v i) asked ≡ true) × (is_used v.users v.shares drawn ≡ false)
request-fresh v id secret with sender_id asked drawn None reply is h =
    let never = subst (MadeShare v id secret with sender_id asked) is h in absurd (cc)
request-fresh v id secret with sender_id asked drawn (Some (i, share)) reply is h = cases (child_for v i sender_id) refl is
  where
    cases : (o : Option ℕ) → child_for v i sender_id ≡ o → reply ≡ option_map_or (λ n. repeated_reply n (at_number v.shares n) with asked) o (first_reply v i with asked drawn) → (j : ℕ) × (other : Share) × Finds (Some (i, share)) j other × (may_share (effective_in v j) asked ≡ true) × (is_used v.users v.shares drawn ≡ false)
    cases None e f =
        let r = first-fresh v id secret with sender_id asked (is_live_in v i) (may_share (effective_in v i) asked) (same_text with.host v.host) (nat_lt 65536 (length v.shares + 1)) (is_used v.users v.shares drawn) (length v.shares + 1) reply f h in
        (i, share, refl, r.0, r.1)
    cases (Some n) e f = absurd (repeated-makes_none v id secret with sender_id asked n (at_number v.shares n) reply (number_of-within (is_for_request i sender_id) v.shares n e).1 f h)

-- ---- all that was used differs

-- shares stay with different secrets where an entry makes none, or one of a secret used nowhere
shares-differ : (us : List User) (ms : List Share) (o : Option Share) (drawn : List ℕ) → ((m : Share) → o ≡ Some m → m.secret ≡ drawn) → is_used us ms drawn ≡ false → are_different (used_among us ms) ≡ true → are_different (used_among us (added ms o)) ≡ true
shares-differ us ms None drawn of k h = h
shares-differ us ms (Some m) drawn of k h = share-more us ms m h (rw (of m refl) k)

-- the secret of an owner's own share is what was drawn
own-drawn : (host : List ℕ) (us : List User) (user : Option ℕ) (path : Segments) (with : Address) (perms : Rights) (fresh : List ℕ) (m : Share) → option_map (λ owner. own_share host us owner path with perms fresh) user ≡ Some m → m.secret ≡ hex fresh
own-drawn host us None path with perms fresh m e = absurd (cc)
own-drawn host us (Some user) path with perms fresh m e = let same : own_share host us user path with perms fresh ≡ m = cc in ap (λ (x : Share). x.secret) (sym same)

-- the secret of a child is what was drawn
child-drawn : (ms : List Share) (rights : ℕ → Rights) (number : Option ℕ) (with : Address) (sender_id : List ℕ) (asked : Option Rights) (fresh : List ℕ) (m : Share) → option_and_then (λ n. option_map (λ (parent : Share). child_share n parent (rights n) with sender_id asked fresh) (at_number ms n)) number ≡ Some m → m.secret ≡ hex fresh
child-drawn ms rights None with sender_id asked fresh m e = absurd (cc)
child-drawn ms rights (Some n) with sender_id asked fresh m e = cases (at_number ms n) e
  where
    cases : (o : Option Share) → option_map (λ (parent : Share). child_share n parent (rights n) with sender_id asked fresh) o ≡ Some m → m.secret ≡ hex fresh
    cases None f = absurd (cc)
    cases (Some parent) f = let same : child_share n parent (rights n) with sender_id asked fresh ≡ m = cc in ap (λ (x : Share). x.secret) (sym same)

-- after a kept entry all that was used differs, where it did before
used-step : (host : List ℕ) (before : List Entry) (ask : Ask) (reply : Reply) → reply ≡ answer_kept host before ask → changes_in (view_of host before) ask reply ≡ true → are_different (used host before) ≡ true → are_different (used host (record { ask = ask; reply = reply } ∷ before)) ≡ true
used-step host before (asks.AddUser name fresh) reply is ch h =
    let v = view_of host before in
    let r = user-fresh v name fresh (hex fresh) (is_taken v.users name) (nat_lt 4096 (length v.users + 1)) (is_used v.users v.shares (hex fresh)) reply is ch in
    let P : Reply → Type 0 = λ x. are_different (used host (record { ask = asks.AddUser name fresh; reply = x } ∷ before)) ≡ true in
    subst P (sym r.0) (user-more (users before) (record { name = name; key = hex fresh }) (made host before) h r.1)
used-step host before (asks.Local key (commands.Share path with perms fresh)) reply is ch h =
    let v = view_of host before in
    let none = share-fresh v key (user_of_key v.users key) path with perms fresh reply is ch in
    shares-differ (users before) (made host before) (option_map (λ owner. own_share host (users before) owner path with perms fresh) (user_of_key (users before) key)) (hex fresh) (λ m e. own-drawn host (users before) (user_of_key (users before) key) path with perms fresh m e) none h
used-step host before (asks.Local key (commands.Unshare id)) reply is ch h = h
used-step host before (asks.Local key (commands.Limit id perms)) reply is ch h = h
used-step host before (asks.Local key (commands.Accept number)) reply is ch h = h
used-step host before (asks.Local key (commands.Decline number)) reply is ch h = h
used-step host before (asks.Local key (commands.Reshare number with perms)) reply is ch h = h
used-step host before (asks.Local key (commands.Undo request)) reply is ch h = h
used-step host before (asks.Local key commands.List) reply is ch h = h
used-step host before (asks.Local key (commands.Expire id end)) reply is ch h = h
used-step host before (asks.Offer offer) reply is ch h = h
used-step host before (asks.Notice (notices.Accepted id secret owner with perms) fresh) reply is ch h = h
used-step host before (asks.Notice (notices.Declined id secret) fresh) reply is ch h = h
used-step host before (asks.Notice (notices.Unshared id secret) fresh) reply is ch h = h
used-step host before (asks.Notice (notices.ReshareUndo id secret) fresh) reply is ch h = h
used-step host before (asks.Notice (notices.Changed id secret serial perms) fresh) reply is ch h = h
used-step host before (asks.Notice (notices.ReshareRequest id secret with sender_id asked) fresh) reply is ch h =
    let v = view_of host before in
    let r = request-fresh v id secret with sender_id asked (hex fresh) (share_with v id secret) reply is ch in
    let none = r.4 in
    let rights = effective_among (made host before) (perms_among (made host before) before) in
    shares-differ (users before) (made host before) (option_and_then (λ n. option_map (λ (parent : Share). child_share n parent (rights n) with sender_id asked fresh) (at_number (made host before) n)) (named id)) (hex fresh) (λ m e. child-drawn (made host before) rights (named id) with sender_id asked fresh m e) none h
used-step host before (asks.Dav secret method path body) reply is ch h = h
used-step host before asks.Due reply is ch h = h
used-step host before (asks.Settle number status id) reply is ch h = h
used-step host before (asks.Carry secret from to moving overwrite) reply is ch h = h
used-step host before (asks.Tick clock) reply is ch h = h

-- all keys and secrets differ
pub used-different : (host : List ℕ) (g : List Entry) → IsAnswered host g → are_different (used host g) ≡ true
used-different host [] answered = refl
used-different host (e ∷ before) answered = used-step host before e.ask e.reply answered.0 answered.1 (used-different host before answered.2)
