-- Messages about shares, those of changed permissions aside, are at most those that are counted for the shares: one for each live share, two for each that is live no more.
use Rattle.std.proofs.Common.{◌≡◌, ℕ, zero, suc, ◌+◌, ◌<◌, ◌≤◌, List, [], ◌∷◌, ◌++◌, length, Bool, true, false, ◌&&◌, not, refl, ap, subst, cond, arith}
use Rattle.std.specs.Prelude.{Option, Some, None, filter, filter_map, nat_eq, if◌then◌else◌, option_map, option_to_list}
use Rattle.std.specs.List.{range_with_len, cons_option}
use Rattle.std.specs.Option.{option_map_or}
use Rattle.std.proofs.lemmas.List.{length-append}
use Rattle.std.proofs.lemmas.List.Sums.{length-filter, count_by-le-length}
use Rattle.ocm_types.specs.declared.letters.Notice.TheVariants as notices
use Rattle.ocm_entry.specs.declared.asks.Ask.{Ask}
use Rattle.ocm_entry.specs.declared.asks.Ask.TheVariants as asks
use Rattle.ocm_entry.specs.declared.asks.Cmd.TheVariants as commands
use Rattle.ocm_entry.specs.declared.replies.Reply.{Reply}
use Rattle.ocm_entry.specs.declared.entries.Entry.{Entry}
use Rattle.ocm_entry.specs.declared.rows.Share.{Share}
use Rattle.ocm_rules.specs.declared.rows.Message.{Message}
use Rattle.ocm_rules.specs.Numbers.{added, at_number, numbers}
use Rattle.ocm_rules.specs.Users.{users}
use Rattle.ocm_rules.specs.Shares.{named, goes_on, is_live_among, perms_among, effective_among, share_by, made, is_live}
use Rattle.ocm_rules.specs.Views.{View, is_live_in, is_live_without, cut_by}
use Rattle.ocm_rules.specs.Messages.{unshared, at_end, offered, without, offer_made, at_named, view_of}
use Rattle.ocm_rules.specs.History.{IsAnswered}
use Rattle.ocm_rules.proofs.Endings.{unshare-leaves, decline-leaves, undo-leaves}
use Rattle.ocm_law_grants.proofs.Links.{is_live_among-added, is_live_among-weaker}
use Rattle.ocm_law_grants.proofs.Ends.{goes_on-step}
use Rattle.ocm_law_counts.specs.Counts.{total, share_messages, about_shares}

-- the messages that an entry sends about shares, those of changed permissions aside
abbrev pub share_sends : View → Ask → List Message
share_sends v (asks.Local key (commands.Share path with perms fresh)) = offer_made v (asks.Local key (commands.Share path with perms fresh))
share_sends v (asks.Local key (commands.Unshare id)) = at_end v (cut_by v id)
share_sends v (asks.Notice (notices.Declined id secret) fresh) = at_named id (λ i. at_end v (without i (cut_by v i)))
share_sends v (asks.Notice (notices.ReshareRequest id secret with sender_id asked) fresh) = offer_made v (asks.Notice (notices.ReshareRequest id secret with sender_id asked) fresh)
share_sends v (asks.Notice (notices.ReshareUndo id secret) fresh) = at_named id (λ i. at_end v (cut_by v i))
share_sends v _ = []

-- ---- sums over numbers

-- a sum that is greater at each number that passes, and nowhere less, is greater by as many
total-filter : (c d : ℕ → ℕ) (p : ℕ → Bool) (a n : ℕ) → ((i : ℕ) → i < a + n → c i + (if p i then 1 else 0) ≤ d i)
    → total c (range_with_len a n) + length (filter p (range_with_len a n)) ≤ total d (range_with_len a n)
total-filter c d p a zero h = omega arith
total-filter c d p a (suc n) h = by_test (p a) (h a (omega arith)) (total-filter c d p (a + 1) n (λ i low. h i (omega (arith, low))))
  where
    rest : List ℕ
    rest = range_with_len (a + 1) n

    by_test : (b : Bool) → c a + (if b then 1 else 0) ≤ d a → total c rest + length (filter p rest) ≤ total d rest
        → c a + total c rest + length (cond b (a ∷ filter p rest) (filter p rest)) ≤ d a + total d rest
    by_test true here later = omega arith
    by_test false here later = omega arith

-- a sum of positive numbers is greater with one more
total-more : (c : ℕ → ℕ) → ((i : ℕ) → 1 ≤ c i) → (a n : ℕ) → total c (range_with_len a n) + 1 ≤ total c (range_with_len a (suc n))
total-more c one a zero = let here = one a in omega arith
total-more c one a (suc n) = let later = total-more c one (a + 1) n in omega arith

total-added : {X : Type 0} (c : ℕ → ℕ) → ((i : ℕ) → 1 ≤ c i) → (xs : List X) (o : Option X)
    → total c (numbers xs) + length (option_to_list o) ≤ total c (numbers (added xs o))
total-added c one xs None = omega arith
total-added c one xs (Some x) =
    let long : suc (length xs) ≡ length (xs ++ x ∷ []) = omega (arith, length-append xs (x ∷ [])) in
    subst (λ n. total c (numbers xs) + 1 ≤ total c (range_with_len 1 n)) long (total-more c one 1 (length xs))

-- ---- what is counted for shares

-- a share that is there is live after a kept entry only where it was live before
live-before : (host : List ℕ) (e : Entry) (before : List Entry) → IsAnswered host (e ∷ before) → (i : ℕ) → i ≤ length (made host before)
    → is_live host (e ∷ before) i ≡ true → is_live host before i ≡ true
live-before host e before answered i there live =
    let same : is_live_among (made host before) (goes_on (e ∷ before)) i ≡ true = subst (λ b. b ≡ true) (is_live_among-added (made host before) _ (goes_on (e ∷ before)) i there) live in
    is_live_among-weaker (made host before) (goes_on before) (goes_on (e ∷ before)) (λ j h. goes_on-step host before e.ask e.reply j answered.0 answered.1 h) i same

-- whether a share is live that is so no more by this entry
abbrev ends : List ℕ → Entry → List Entry → ℕ → Bool
ends host e before i = is_live host before i && not (is_live host (e ∷ before) i)

-- what is counted for a share is one more where it ends, and never less
rises : (live now : Bool) → (now ≡ true → live ≡ true) → (if live then 1 else 2) + (if live && not now then 1 else 0) ≤ (if now then 1 else 2)
rises true true h = omega arith
rises true false h = omega arith
rises false true h = absurd (let bad = h refl in cc)
rises false false h = omega arith

positive : (live : Bool) → 1 ≤ (if live then 1 else 2)
positive true = omega arith
positive false = omega arith

-- the share that an ask makes after these kept entries
abbrev new_share : List ℕ → List Entry → Ask → Option Share
new_share host before ask = share_by host (users before) (made host before) (effective_among (made host before) (perms_among (made host before) before)) ask

three-sum : (a b c k m n : ℕ) → a + m ≤ b → b + n ≤ c → k ≤ m + n → a + k ≤ c
three-sum a b c k m n h g l = omega arith

-- what is counted for shares is more by one for each share that ends and for each that is made
counts-rise : (host : List ℕ) (e : Entry) (before : List Entry) (k : ℕ) → IsAnswered host (e ∷ before)
    → k ≤ length (filter (ends host e before) (numbers (made host before))) + length (option_to_list (new_share host before e.ask))
    → about_shares host before + k ≤ about_shares host (e ∷ before)
counts-rise host e before k answered h =
    three-sum _ (total (share_messages host (e ∷ before)) (numbers (made host before))) _ k _ _
    (total-filter (share_messages host before) (share_messages host (e ∷ before)) (ends host e before) 1 (length (made host before))
    (λ i low. rises (is_live host before i) (is_live host (e ∷ before) i) (live-before host e before answered i (omega (arith, low)))))
    (total-added (share_messages host (e ∷ before)) (λ i. positive (is_live host (e ∷ before) i)) (made host before) (new_share host before e.ask))
    h

-- ---- what is sent

-- a function that may give nothing gives no more values than there are items
pub length-filter_map : {X Y : Type 0} (h : X → Option Y) (xs : List X) → length (filter_map h xs) ≤ length xs
length-filter_map h [] = omega arith
length-filter_map {Y} h (x ∷ xs) = by_case (h x) (length-filter_map h xs)
  where
    by_case : (o : Option Y) → length (filter_map h xs) ≤ length xs → length (cons_option o (filter_map h xs)) ≤ suc (length xs)
    by_case None later = omega arith
    by_case (Some y) later = omega arith

-- the guests of shares that end by it are told at most once each
told-ends : (v : View) (closed : ℕ) (now : ℕ → Bool) (ids : List ℕ) → ((i : ℕ) → is_live_without v closed i ≡ now i) → length ids ≤ length (cut_by v closed)
    → length (at_end v ids) ≤ length (filter (λ i. is_live_in v i && not (now i)) (numbers v.shares))
told-ends v closed now ids same few =
    let told = length-filter_map (λ id. option_map (unshared id) (at_number v.shares id)) ids in
    let cut : length (cut_by v closed) ≡ length (filter (λ i. is_live_in v i && not (now i)) (numbers v.shares)) =
    ap (λ (left : ℕ → Bool). length (filter (λ i. is_live_in v i && not (left i)) (numbers v.shares))) (λ j i. same i j) in
    omega arith

without-fewer : (i : ℕ) (ids : List ℕ) → length (without i ids) ≤ length ids
without-fewer i ids = omega (arith, length-filter (λ j. not (nat_eq i j)) ids, count_by-le-length (λ j. not (nat_eq i j)) ids)

-- one offer is sent where a share is made
one-offer : (message : Share → Message) (o : Option Share) → length (option_to_list (option_map message o)) ≡ length (option_to_list o)
one-offer message None = refl
one-offer message (Some share) = refl

-- what is sent at a number that an id names, if it names one
sent-named : (messages : ℕ → List Message) (number : Option ℕ) (k : ℕ) → ((i : ℕ) → number ≡ Some i → length (messages i) ≤ k) → length (option_map_or messages number []) ≤ k
sent-named messages None k h = omega arith
sent-named messages (Some i) k h = h i refl

-- an entry sends at most a message for each share that ends and for each that is made
sent-within : (host : List ℕ) (before : List Entry) (ask : Ask) (reply : Reply)
    → length (share_sends (view_of host before) ask) ≤ length (filter (ends host (record { ask = ask; reply = reply }) before) (numbers (made host before))) + length (option_to_list (new_share host before ask))
sent-within host before (asks.Local key (commands.Share path with perms fresh)) reply =
    let ask : Ask = asks.Local key (commands.Share path with perms fresh) in
    let offers = one-offer (offered (view_of host before) (length (made host before) + 1)) (new_share host before ask) in
    omega arith
sent-within host before (asks.Notice (notices.ReshareRequest id secret with sender_id asked) fresh) reply =
    let ask : Ask = asks.Notice (notices.ReshareRequest id secret with sender_id asked) fresh in
    let offers = one-offer (offered (view_of host before) (length (made host before) + 1)) (new_share host before ask) in
    omega arith
sent-within host before (asks.Local key (commands.Unshare id)) reply =
    let v : View = view_of host before in
    let told = told-ends v id _ (cut_by v id) (unshare-leaves host before key id reply) (omega arith) in
    omega arith
sent-within host before (asks.Notice (notices.Declined id secret) fresh) reply =
    let v : View = view_of host before in
    sent-named (λ i. at_end v (without i (cut_by v i))) (named id) _
    (λ i names. let told = told-ends v i _ (without i (cut_by v i)) (decline-leaves host before id secret fresh i reply names) (without-fewer i (cut_by v i)) in omega arith)
sent-within host before (asks.Notice (notices.ReshareUndo id secret) fresh) reply =
    let v : View = view_of host before in
    sent-named (λ i. at_end v (cut_by v i)) (named id) _
    (λ i names. let told = told-ends v i _ (cut_by v i) (undo-leaves host before id secret fresh i reply names) (omega arith) in omega arith)
sent-within host before _ reply = omega arith

-- what is counted for shares is more by what an entry sends about them
pub shares-step : (host : List ℕ) (e : Entry) (before : List Entry) → IsAnswered host (e ∷ before)
    → about_shares host before + length (share_sends (view_of host before) e.ask) ≤ about_shares host (e ∷ before)
shares-step host e before answered = counts-rise host e before _ answered (sent-within host before e.ask e.reply)
