use Rattle.std.proofs.Common.{◌≡◌, ℕ, suc, ◌+◌, ◌<◌, ◌≤◌, List, [], ◌∷◌, ◌++◌, length, Bool, true, false, refl, sym, ap, ◌∙◌, subst, arith}
use Rattle.std.specs.Prelude.{Option, Some, None, nat_lt, ◌&&◌, not, if◌then◌else◌, is_some, option_map, option_and_then, slice_get}
use Rattle.std.specs.Option.{option_map_or}
use Rattle.std.proofs.lemmas.Bool.{eq-eqb, eqb-true, le-ltb, lt-ltb}
use mathlib.Core.Logic.{◌⊎◌, inl, inr}
use Rattle.ocm_texts.specs.Hex.{hex}
use Rattle.ocm_types.specs.declared.addresses.Address.{Address}
use Rattle.ocm_types.specs.declared.letters.Notice.TheVariants as notices
use Rattle.ocm_types.specs.declared.phases.Which.TheVariants as limits
use Rattle.ocm_types.specs.declared.rights.Rights.{Rights}
use Rattle.ocm_entry.specs.declared.asks.Ask.{Ask}
use Rattle.ocm_entry.specs.declared.asks.Ask.TheVariants as asks
use Rattle.ocm_entry.specs.declared.replies.Reply.{Reply}
use Rattle.ocm_entry.specs.declared.replies.Reply.TheVariants as replies
use Rattle.ocm_entry.specs.declared.refusals.Why.TheVariants.{ShareClosed, NotPermitted, OwnHost, Collision, SenderIdReused}
use Rattle.ocm_entry.specs.declared.refusals.AddressField.TheVariants as fields
use Rattle.ocm_entry.specs.declared.entries.Entry.{Entry}
use Rattle.ocm_entry.specs.declared.rows.Share.{Share}
use Rattle.ocm_rules.specs.Numbers.{same_text, added, at_number, number_of, number_from}
use Rattle.ocm_rules.specs.Equal.{same_address, same_asked}
use Rattle.ocm_rules.specs.Shares.{named, made, child_share, is_used, has_secret}
use Rattle.ocm_rules.specs.Views.{View, is_live_in, effective_in}
use Rattle.ocm_rules.specs.Messages.{view_of}
use Rattle.ocm_rules.specs.Answers.{refused, limited, share_with, numbered_share, is_for_request, child_for, repeated_reply, first_reply, request_reply, may_share}
use Rattle.ocm_rules.specs.History.{kept, changes, changes_in, answer, answer_kept, IsLegal}
use Rattle.ocm_law_repeats.specs.Repeats.{is_repeat, same_ask, was_taken, would_change, is_child, was_answered}
use Rattle.ocm_law_repeats.proofs.Tests.{not_both}
use Rattle.ocm_law_repeats.proofs.Same.{same_ask-notice, text-same, address-same, asked-same}
use Rattle.ocm_law_repeats.proofs.Once.{once, since}
use Rattle.ocm_law_grants.proofs.Links.{at_number-behind, within-at_number}
use Rattle.ocm_law_repeats.proofs.Closed.{new_share}

-- ---- the first that passes

-- the first that passes stays the first when one comes behind
number_from-behind : {X : Type 0} (p : X → Bool) (n : ℕ) (xs : List X) (x : X) (m : ℕ) → number_from p n xs ≡ Some m → number_from p n (xs ++ x ∷ []) ≡ Some m
number_from-behind p n [] x m h = absurd (cc)
number_from-behind p n (y ∷ ys) x m h = by_test (p y) h (number_from-behind p (n + 1) ys x m)
  where
    by_test : (b : Bool) → (if b then Some n else number_from p (n + 1) ys) ≡ Some m → (number_from p (n + 1) ys ≡ Some m → number_from p (n + 1) (ys ++ x ∷ []) ≡ Some m) → (if b then Some n else number_from p (n + 1) (ys ++ x ∷ [])) ≡ Some m
    by_test true h again = h
    by_test false h again = again h

-- one that comes behind and passes is the first, where none passed before
number_from-new : {X : Type 0} (p : X → Bool) (n : ℕ) (xs : List X) (x : X) → p x ≡ true → number_from p n xs ≡ None → number_from p n (xs ++ x ∷ []) ≡ Some (n + length xs)
number_from-new p n [] x passes h = rw passes (ap Some (omega arith))
number_from-new p n (y ∷ ys) x passes h = by_test (p y) h (number_from-new p (n + 1) ys x passes)
  where
    by_test : (b : Bool) → (if b then Some n else number_from p (n + 1) ys) ≡ None → (number_from p (n + 1) ys ≡ None → number_from p (n + 1) (ys ++ x ∷ []) ≡ Some (n + 1 + length ys)) → (if b then Some n else number_from p (n + 1) (ys ++ x ∷ [])) ≡ Some (n + length (y ∷ ys))
    by_test true h again = absurd (cc)
    by_test false h again = let e : n + 1 + length ys ≡ n + length (y ∷ ys) = omega arith in again h ∙ ap Some e

some-injective : (x y : ℕ) → Some x ≡ Some y → x ≡ y
some-injective x y h = cc

number_from-below : {X : Type 0} (p : X → Bool) (k : ℕ) (xs : List X) (n : ℕ) → number_from p k xs ≡ Some n → n < k + length xs
number_from-below p k [] n h = absurd (cc)
number_from-below p k (x ∷ xs) n h = by_test (number_from-below p (k + 1) xs n) (p x) h
  where
    by_test : (number_from p (k + 1) xs ≡ Some n → n < k + 1 + length xs) → (b : Bool) → (if b then Some k else number_from p (k + 1) xs) ≡ Some n → n < k + length (x ∷ xs)
    by_test further true g = let e = some-injective k n g in omega arith
    by_test further false g = let below = further g in omega arith

slice_get-newest : {X : Type 0} (xs : List X) (x : X) → slice_get (xs ++ x ∷ []) (length xs) ≡ Some x
slice_get-newest [] x = refl
slice_get-newest (y ∷ ys) x = slice_get-newest ys x

-- the newest has the number of all
at_number-newest : {X : Type 0} (xs : List X) (x : X) → at_number (xs ++ x ∷ []) (length xs + 1) ≡ Some x
at_number-newest xs x =
    let next : suc (length xs) ≡ length xs + 1 = omega arith in
    subst (λ n. at_number (xs ++ x ∷ []) n ≡ Some x) next (slice_get-newest xs x)

-- ---- the child of a request

-- a share is named with its secret, and a child of it was made for a request with this `senderId`, this guest and these permissions
abbrev pub IsMade : List Share → List ℕ → List ℕ → Address → List ℕ → Option Rights → ℕ → Type 0
IsMade ms id secret with sender_id asked n =
    (parent : ℕ) × (share : Share) × (child : Share)
    × (named id ≡ Some parent) × (at_number ms parent ≡ Some share) × (has_secret secret share ≡ true)
    × (number_of (is_for_request parent sender_id) ms ≡ Some n) × (at_number ms n ≡ Some child)
    × ((same_address child.with with && same_asked child.asked asked) ≡ true)

made-behind : {X : Type 0} (xs : List X) (x y : X) (i : ℕ) → at_number xs i ≡ Some y → at_number (xs ++ x ∷ []) i ≡ Some y
made-behind xs x y i h =
    let P : Option _ → Type 0 = λ o. is_some o ≡ true in
    let within = within-at_number xs i (subst P (sym h) refl) in
    at_number-behind xs x i within.1 ∙ h

child-stays : (ms : List Share) (new : Option Share) (id secret : List ℕ) (with : Address) (sender_id : List ℕ) (asked : Option Rights) (n : ℕ) → IsMade ms id secret with sender_id asked n → IsMade (added ms new) id secret with sender_id asked n
child-stays ms None id secret with sender_id asked n h = h
child-stays ms (Some m) id secret with sender_id asked n h =
    (h.0, h.1, h.2, h.3, made-behind ms m h.1 h.0 h.4, h.5, number_from-behind (is_for_request h.0 sender_id) 1 ms m n h.6, made-behind ms m h.2 n h.7, h.8)

-- ---- what a request brings about that was taken

-- the share that an id names with its secret, from the search for it
share_with-named : (v : View) (id secret : List ℕ) (parent : ℕ) (share : Share) → share_with v id secret ≡ Some (parent, share) → (named id ≡ Some parent) × (at_number v.shares parent ≡ Some share) × (has_secret secret share ≡ true)
share_with-named v id secret parent share h = by_name (named id) refl h
  where
    Goal : Type 0
    Goal = (named id ≡ Some parent) × (at_number v.shares parent ≡ Some share) × (has_secret secret share ≡ true)

    by_secret : (i : ℕ) (m : Share) → named id ≡ Some i → at_number v.shares i ≡ Some m → (b : Bool) → has_secret secret m ≡ b → (if◌then◌else◌ {A = Option (ℕ × Share)} b (Some (i, m)) None) ≡ Some (parent, share) → Goal
    by_secret i m is there true has h =
        let pair : (i, m) ≡ (parent, share) = cc in
        let e : i ≡ parent = ap (λ (q : ℕ × Share). q.0) pair in
        let f : m ≡ share = ap (λ (q : ℕ × Share). q.1) pair in
        let P : ℕ → Share → Type 0 = λ j s. (named id ≡ Some j) × (at_number v.shares j ≡ Some s) × (has_secret secret s ≡ true) in
        subst (λ s. P parent s) f (subst (λ j. P j m) e (is, there, has))
    by_secret i m is there false has h = absurd (cc)

    by_share : (i : ℕ) → named id ≡ Some i → (o : Option Share) → at_number v.shares i ≡ o → option_and_then (λ (found : ℕ × Share). if has_secret secret found.1 then Some found else None) (option_map (λ share. (i, share)) o) ≡ Some (parent, share) → Goal
    by_share i is None there h = absurd (cc)
    by_share i is (Some m) there h = by_secret i m is there (has_secret secret m) refl h

    by_name : (o : Option ℕ) → named id ≡ o → option_and_then (λ (found : ℕ × Share). if has_secret secret found.1 then Some found else None) (option_and_then (numbered_share v) o) ≡ Some (parent, share) → Goal
    by_name None is h = absurd (cc)
    by_name (Some i) is h = by_share i is (at_number v.shares i) refl h

-- and the other way
named-share_with : (v : View) (id secret : List ℕ) (parent : ℕ) (share : Share) → named id ≡ Some parent → at_number v.shares parent ≡ Some share → has_secret secret share ≡ true → share_with v id secret ≡ Some (parent, share)
named-share_with v id secret parent share is there has = rw (is, there, has) refl

-- a request that is taken for the first time makes the next share
first_reply-taken : (v : View) (parent : ℕ) (with : Address) (asked : Option Rights) (drawn : List ℕ) → was_taken (first_reply v parent with asked drawn) ≡ true → first_reply v parent with asked drawn ≡ replies.Child (length v.shares + 1)
first_reply-taken v parent with asked drawn h = by_tests (not (is_live_in v parent)) (not (may_share (effective_in v parent) asked)) (same_text with.host v.host) (nat_lt 65536 (length v.shares + 1)) (is_used v.users v.shares drawn) h
  where
    reply : Bool → Bool → Bool → Bool → Bool → Reply
    reply a b c d e = if a then refused ShareClosed else (if b then refused NotPermitted else (if c then refused (OwnHost fields.ShareWith) else (if d then limited limits.Shares else (if e then refused Collision else replies.Child (length v.shares + 1)))))

    by_tests : (a b c d e : Bool) → was_taken (reply a b c d e) ≡ true → reply a b c d e ≡ replies.Child (length v.shares + 1)
    by_tests true b c d e h = absurd (cc)
    by_tests false true c d e h = absurd (cc)
    by_tests false false true d e h = absurd (cc)
    by_tests false false false true e h = absurd (cc)
    by_tests false false false false true h = absurd (cc)
    by_tests false false false false false h = refl

-- a request that is taken once more was made with this guest and these permissions
repeated_reply-taken : (n : ℕ) (child : Option Share) (with : Address) (asked : Option Rights) → was_taken (repeated_reply n child with asked) ≡ true → (m : Share) × (child ≡ Some m) × ((same_address m.with with && same_asked m.asked asked) ≡ true) × (repeated_reply n child with asked ≡ replies.Child n)
repeated_reply-taken n None with asked h = absurd (cc)
repeated_reply-taken n (Some m) with asked h = by_test (same_address m.with with && same_asked m.asked asked) refl h
  where
    by_test : (b : Bool) → (same_address m.with with && same_asked m.asked asked) ≡ b → was_taken (if b then replies.Child n else refused SenderIdReused) ≡ true
        → (s : Share) × (Some m ≡ Some s) × ((same_address s.with with && same_asked s.asked asked) ≡ true) × ((if b then replies.Child n else refused SenderIdReused) ≡ replies.Child n)
    by_test true is h = (m, refl, is, refl)
    by_test false is h = absurd (cc)

-- the request
abbrev request : List ℕ → List ℕ → Address → List ℕ → Option Rights → List ℕ → Ask
request id secret with sender_id asked fresh = asks.Notice (notices.ReshareRequest id secret with sender_id asked) fresh

-- a request whose child was made is answered by that child
made-reply : (v : View) (id secret : List ℕ) (with : Address) (sender_id : List ℕ) (asked : Option Rights) (drawn : List ℕ) (n : ℕ) → IsMade v.shares id secret with sender_id asked n → request_reply v (share_with v id secret) with sender_id asked drawn ≡ replies.Child n
made-reply v id secret with sender_id asked drawn n h =
    rw (named-share_with v id secret h.0 h.1 h.3 h.4 h.5, h.6, h.7, h.8) refl

made-answer : (host : List ℕ) (k : List Entry) (id secret : List ℕ) (with : Address) (sender_id : List ℕ) (asked : Option Rights) (fresh : List ℕ) (n : ℕ) → IsMade (made host k) id secret with sender_id asked n → answer_kept host k (request id secret with sender_id asked fresh) ≡ replies.Child n
made-answer host k id secret with sender_id asked fresh n h = made-reply (view_of host k) id secret with sender_id asked (hex fresh) n h

made-within : (ms : List Share) (id secret : List ℕ) (with : Address) (sender_id : List ℕ) (asked : Option Rights) (n : ℕ) → IsMade ms id secret with sender_id asked n → n ≤ length ms
made-within ms id secret with sender_id asked n h =
    let below = number_from-below (is_for_request h.0 sender_id) 1 ms n h.6 in
    omega arith

-- the child that is made
new_child : (host : List ℕ) (k : List Entry) (id secret : List ℕ) (with : Address) (sender_id : List ℕ) (asked : Option Rights) (fresh : List ℕ) (parent : ℕ) (share : Share) → named id ≡ Some parent → at_number (made host k) parent ≡ Some share → has_secret secret share ≡ true → number_of (is_for_request parent sender_id) (made host k) ≡ None
    → IsMade (added (made host k) (new_share host k (request id secret with sender_id asked fresh))) id secret with sender_id asked (length (made host k) + 1)
new_child host k id secret with sender_id asked fresh parent share is there has none =
    let ms = made host k in
    let child : Share = child_share parent share (effective_in (view_of host k) parent) with sender_id asked fresh in
    let new : new_share host k (request id secret with sender_id asked fresh) ≡ Some child = rw (is, there) refl in
    let fits : is_for_request parent sender_id child ≡ true = rw (eq-eqb parent parent refl, text-same sender_id) refl in
    let equal : (same_address child.with with && same_asked child.asked asked) ≡ true = rw (address-same with, asked-same asked) refl in
    let first : number_of (is_for_request parent sender_id) (ms ++ child ∷ []) ≡ Some (length ms + 1) = number_from-new (is_for_request parent sender_id) 1 ms child fits none ∙ ap Some (omega arith) in
    let P : Option Share → Type 0 = λ o. IsMade (added ms o) id secret with sender_id asked (length ms + 1) in
    subst P (sym new) (parent, share, child, is, made-behind ms child share parent there, has, first, at_number-newest ms child, equal)

-- a request that is taken has made its child, or makes it
request_reply-taken : (host : List ℕ) (k : List Entry) (id secret : List ℕ) (with : Address) (sender_id : List ℕ) (asked : Option Rights) (fresh : List ℕ) → (o : Option (ℕ × Share)) → share_with (view_of host k) id secret ≡ o → was_taken (request_reply (view_of host k) o with sender_id asked (hex fresh)) ≡ true
    → (n : ℕ) × (request_reply (view_of host k) o with sender_id asked (hex fresh) ≡ replies.Child n) × (IsMade (made host k) id secret with sender_id asked n ⊎ ((n ≡ length (made host k) + 1) × IsMade (added (made host k) (new_share host k (request id secret with sender_id asked fresh))) id secret with sender_id asked n))
request_reply-taken host k id secret with sender_id asked fresh None is taken = absurd (cc)
request_reply-taken host k id secret with sender_id asked fresh (Some (parent, share)) is taken = by_child (child_for v parent sender_id) refl taken
  where
    v : View
    v = view_of host k

    drawn : List ℕ
    drawn = hex fresh

    reply : Option ℕ → Reply
    reply o = option_map_or (λ n. repeated_reply n (at_number v.shares n) with asked) o (first_reply v parent with asked drawn)

    found : (named id ≡ Some parent) × (at_number v.shares parent ≡ Some share) × (has_secret secret share ≡ true)
    found = share_with-named v id secret parent share is

    by_child : (o : Option ℕ) → child_for v parent sender_id ≡ o → was_taken (reply o) ≡ true
        → (n : ℕ) × (reply o ≡ replies.Child n) × (IsMade (made host k) id secret with sender_id asked n ⊎ ((n ≡ length (made host k) + 1) × IsMade (added (made host k) (new_share host k (request id secret with sender_id asked fresh))) id secret with sender_id asked n))
    by_child (Some n) first h =
        let r = repeated_reply-taken n (at_number v.shares n) with asked h in
        (n, r.3, inl (parent, share, r.0, found.0, found.1, found.2, first, r.1, r.2))
    by_child None none h =
        (length (made host k) + 1, first_reply-taken v parent with asked drawn h, inr (refl, new_child host k id secret with sender_id asked fresh parent share found.0 found.1 found.2 none))

-- ---- each request that is repeated

-- the child was made that a reply names
abbrev IsMadeAs : List ℕ → List ℕ → List ℕ → Address → List ℕ → Option Rights → Reply → List Entry → Type 0
IsMadeAs host id secret with sender_id asked reply k = (n : ℕ) × (reply ≡ replies.Child n) × IsMade (made host k) id secret with sender_id asked n

made-begins : (host : List ℕ) (k : List Entry) (id secret : List ℕ) (with : Address) (sender_id : List ℕ) (asked : Option Rights) (fresh : List ℕ) (reply : Reply) → was_taken reply ≡ true → reply ≡ answer_kept host k (request id secret with sender_id asked fresh) → (b : Bool) → changes_in (view_of host k) (request id secret with sender_id asked fresh) reply ≡ b
    → IsMadeAs host id secret with sender_id asked reply (if b then record { ask = request id secret with sender_id asked fresh; reply = reply } ∷ k else k)
made-begins host k id secret with sender_id asked fresh reply taken given b changed =
    let P : Reply → Type 0 = λ r. was_taken r ≡ true in
    let r = request_reply-taken host k id secret with sender_id asked fresh (share_with (view_of host k) id secret) refl (subst P given taken) in
    by_age r.0 (given ∙ r.1) r.2 b changed
  where
    ms : List Share
    ms = made host k

    more : List Share
    more = added ms (new_share host k (request id secret with sender_id asked fresh))

    entry : Entry
    entry = record { ask = request id secret with sender_id asked fresh; reply = reply }

    by_age : (n : ℕ) → reply ≡ replies.Child n → IsMade ms id secret with sender_id asked n ⊎ ((n ≡ length ms + 1) × IsMade more id secret with sender_id asked n)
        → (b : Bool) → changes_in (view_of host k) (request id secret with sender_id asked fresh) reply ≡ b → IsMadeAs host id secret with sender_id asked reply (if b then entry ∷ k else k)
    by_age n is (inl old) true h = (n, is, child-stays ms (new_share host k (request id secret with sender_id asked fresh)) id secret with sender_id asked n old)
    by_age n is (inl old) false h = (n, is, old)
    by_age n is (inr new) true h = (n, is, new.1)
    by_age n is (inr new) false h =
        let Q : Reply → Type 0 = λ r. changes_in (view_of host k) (request id secret with sender_id asked fresh) r ≡ false in
        let same : nat_lt (length ms) n ≡ false = subst Q is h in
        let e = new.0 in
        absurd (not_both (nat_lt (length ms) n) (lt-ltb (length ms) n (omega arith)) same)

-- the same of an equal request, with other drawn bytes
made-after : (host : List ℕ) (id secret : List ℕ) (with : Address) (sender_id : List ℕ) (asked : Option Rights) (fresh : List ℕ) (e : Entry) (k : List Entry) → same_ask e.ask (request id secret with sender_id asked fresh) ≡ true → was_taken e.reply ≡ true → e.reply ≡ answer_kept host k e.ask → (b : Bool) → changes host k e ≡ b
    → IsMadeAs host id secret with sender_id asked e.reply (if b then e ∷ k else k)
made-after host id secret with sender_id asked fresh e k same taken given b changed =
    let r = same_ask-notice e.ask (notices.ReshareRequest id secret with sender_id asked) fresh same in
    let P : Ask → Type 0 = λ a. IsMadeAs host id secret with sender_id asked e.reply (if b then record { ask = a; reply = e.reply } ∷ k else k) in
    let G : Ask → Type 0 = λ a. e.reply ≡ answer_kept host k a in
    let H : Ask → Type 0 = λ a. changes_in (view_of host k) a e.reply ≡ b in
    subst P (sym r.1) (made-begins host k id secret with sender_id asked r.0 e.reply taken (subst G r.1 given) b (subst H r.1 changed))

child-taken : (n : ℕ) (reply : Reply) → is_child n reply ≡ true → was_taken reply ≡ true
child-taken n (replies.Child m) h = refl
child-taken n _ h = absurd (cc)

-- a reply names one child
one-child : (n m : ℕ) (reply : Reply) → is_child n reply ≡ true → reply ≡ replies.Child m → m ≡ n
one-child n m reply named is =
    let P : Reply → Type 0 = λ r. is_child n r ≡ true in
    eqb-true m n (subst P is named)

-- some child was made
abbrev IsSome : List ℕ → List ℕ → List ℕ → Address → List ℕ → Option Rights → List Entry → Type 0
IsSome host id secret with sender_id asked k = (n : ℕ) × IsMade (made host k) id secret with sender_id asked n

stays-made : (host : List ℕ) (id secret : List ℕ) (with : Address) (sender_id : List ℕ) (asked : Option Rights) (n : ℕ) (e : Entry) (k : List Entry) → IsMade (made host k) id secret with sender_id asked n → IsMade (made host (e ∷ k)) id secret with sender_id asked n
stays-made host id secret with sender_id asked n e k h = child-stays (made host k) (new_share host k e.ask) id secret with sender_id asked n h

pub request-once : (host : List ℕ) (g : List Entry) (id secret : List ℕ) (with : Address) (sender_id : List ℕ) (asked : Option Rights) (fresh : List ℕ) → IsLegal host g → is_repeat g (request id secret with sender_id asked fresh) ≡ true → would_change host g (request id secret with sender_id asked fresh) ≡ false
request-once host g id secret with sender_id asked fresh legal repeated =
    let h = once host (request id secret with sender_id asked fresh) (IsSome host id secret with sender_id asked) begins (λ e k given changed old. (old.0, stays-made host id secret with sender_id asked old.0 e k old.1)) g legal repeated in
    let P : Reply → Type 0 = λ r. changes_in (view_of host (kept host g)) (request id secret with sender_id asked fresh) r ≡ false in
    let within = made-within (made host (kept host g)) id secret with sender_id asked h.0 h.1 in
    subst P (sym (made-answer host (kept host g) id secret with sender_id asked fresh h.0 h.1)) (le-ltb (length (made host (kept host g))) h.0 within)
  where
    begins : (e : Entry) (k : List Entry) → same_ask e.ask (request id secret with sender_id asked fresh) ≡ true → was_taken e.reply ≡ true → e.reply ≡ answer_kept host k e.ask → (b : Bool) → changes host k e ≡ b → IsSome host id secret with sender_id asked (if b then e ∷ k else k)
    begins e k same taken given b changed =
        let r = made-after host id secret with sender_id asked fresh e k same taken given b changed in
        (r.0, r.2)

-- the same child
pub same-child : (host : List ℕ) (g : List Entry) (id secret : List ℕ) (with : Address) (sender_id : List ℕ) (asked : Option Rights) (fresh : List ℕ) (n : ℕ) → IsLegal host g → was_answered (is_child n) g (request id secret with sender_id asked fresh) ≡ true → answer host g (request id secret with sender_id asked fresh) ≡ replies.Child n
same-child host g id secret with sender_id asked fresh n legal repeated =
    let begins = λ (e : Entry) (k : List Entry) (same : same_ask e.ask (request id secret with sender_id asked fresh) ≡ true) (named : is_child n e.reply ≡ true) (given : e.reply ≡ answer_kept host k e.ask) (b : Bool) (changed : changes host k e ≡ b). let r = made-after host id secret with sender_id asked fresh e k same (child-taken n e.reply named) given b changed in subst (λ (m : ℕ). IsMade (made host (if b then e ∷ k else k)) id secret with sender_id asked m) (one-child n r.0 e.reply named r.1) r.2 in
    let h = since host (request id secret with sender_id asked fresh) (is_child n) (λ k. IsMade (made host k) id secret with sender_id asked n) (child-taken n) begins (λ e k given changed old. stays-made host id secret with sender_id asked n e k old) g legal repeated in
    made-answer host (kept host g) id secret with sender_id asked fresh n h
