use Rattle.std.proofs.Common.{◌≡◌, ℕ, zero, suc, ◌+◌, ◌<◌, ◌≤◌, List, [], ◌∷◌, ◌++◌, length, Bool, true, false, refl, sym, ap, ◌∙◌, subst, arith}
use Rattle.std.specs.Prelude.{Option, Some, None, nat_eq, nat_lt, if◌then◌else◌, option_map, option_and_then, reverse}
use Rattle.std.specs.Option.{option_map_or}
use Rattle.std.proofs.lemmas.Bool.{eq-eqb, eqb-false, ltb-true, ltb-false}
use Rattle.std.proofs.lemmas.List.{length-append, length-reverse, reverse-append}
use Rattle.ocm_texts.specs.Hex.{hex}
use Rattle.ocm_types.specs.declared.addresses.Address.{Address}
use Rattle.ocm_types.specs.declared.rights.Rights.{Rights}
use Rattle.ocm_types.specs.declared.letters.Notice.TheVariants as notices
use Rattle.ocm_types.specs.Rights.{is_within}
use Rattle.ocm_entry.specs.declared.asks.Ask.{Ask}
use Rattle.ocm_entry.specs.declared.asks.Ask.TheVariants as asks
use Rattle.ocm_entry.specs.declared.asks.Cmd.TheVariants as commands
use Rattle.ocm_entry.specs.declared.replies.Reply.{Reply}
use Rattle.ocm_entry.specs.declared.entries.Entry.{Entry}
use Rattle.ocm_entry.specs.declared.rows.Share.{Share}
use Rattle.ocm_entry.specs.declared.rows.User.{User}
use Rattle.ocm_rules.specs.Numbers.{added, at_number}
use Rattle.ocm_rules.specs.Users.{users, user_of_key}
use Rattle.ocm_rules.specs.Shares.{made, share_by, own_share, child_share, perms, perms_among, effective, effective_among, permitted, links, links_among, named, has_secret}
use Rattle.ocm_rules.specs.Views.{View}
use Rattle.ocm_rules.specs.Messages.{view_of}
use Rattle.ocm_rules.specs.Answers.{may_share, share_with, numbered_share}
use Rattle.ocm_rules.specs.History.{IsAnswered}
use Rattle.ocm_law_grants.specs.Grants.{IsBelow}
use Rattle.ocm_law_grants.proofs.Links.{both_true, at_number-behind, links-behind}
use Rattle.ocm_law_grants.proofs.Secrets.{Finds, request-fresh}
use Rattle.ocm_law_grants.proofs.Permissions.{Kept, perms-within, within-first, within-second, within-further, at_number-last, at_number-length}

-- ---- a share is the first of its links

links_among-head : (xs : List Share) (i : ℕ) → 1 ≤ i → i ≤ length xs → (rest : List ℕ) × (links_among xs i ≡ i ∷ rest)
links_among-head [] i low high = absurd (omega arith)
links_among-head (x ∷ older) i low high = cases (nat_eq i (length older + 1)) refl (λ k. links_among-head older i low k)
  where
    cases : (b : Bool) → nat_eq i (length older + 1) ≡ b → (i ≤ length older → (rest : List ℕ) × (links_among older i ≡ i ∷ rest)) → (rest : List ℕ) × ((if b then i ∷ option_map_or (links_among older) x.parent [] else links_among older i) ≡ i ∷ rest)
    cases true e again = (option_map_or (links_among older) x.parent [], refl)
    cases false e again = let other = eqb-false i (length older + 1) e in again (omega arith)

at_number-low : {X : Type 0} (xs : List X) (i : ℕ) (x : X) → at_number xs i ≡ Some x → 1 ≤ i
at_number-low xs zero x h = absurd (cc)
at_number-low xs (suc k) x h = omega arith

links-head : (ms : List Share) (i : ℕ) (m : Share) → at_number ms i ≡ Some m → (rest : List ℕ) × (links ms i ≡ i ∷ rest)
links-head ms i m is =
    let l = length-reverse ms in
    let high = at_number-length ms i m is in
    links_among-head (reverse ms) i (at_number-low ms i m is) (omega arith)

-- what a share lets its guest do is within what was granted
pub effective-granted : (host : List ℕ) (g : List Entry) (i : ℕ) (m : Share) → IsAnswered host g → at_number (made host g) i ≡ Some m → is_within (effective host g i) m.granted ≡ true
effective-granted host g i m answered is =
    let ms = made host g in
    let h = links-head ms i m is in
    let own = perms host g in
    let first : is_within (effective host g i) (own i) ≡ true = rw h.1 (within-first (own i) (permitted own h.0)) in
    let P : Option Share → Type 0 = λ o. is_within (own i) (option_map_or (λ (share : Share). share.granted) o (record { read = false; write = false; share = false })) ≡ true in
    let granted : is_within (own i) m.granted ≡ true = subst P is (perms-within host g i answered) in
    within-further (effective host g i) (own i) m.granted first granted

-- ---- a share below another

-- a share of this number lies below its parent, if it has one
abbrev pub ChainedAt : List Share → ℕ → Share → Type 0
ChainedAt ms i m = (p : ℕ) → m.parent ≡ Some p → (q : Share) × (at_number ms p ≡ Some q) × (p < i) × IsBelow m q × (links ms i ≡ i ∷ links ms p)

-- one share more leaves it so
chained-behind : (ms : List Share) (new : Share) (i : ℕ) (m : Share) → i ≤ length ms → ChainedAt ms i m → ChainedAt (ms ++ new ∷ []) i m
chained-behind ms new i m le chained = λ p e.
    let r = chained p e in
    let lt = r.2 in
    (r.0, at_number-behind ms new p (omega arith) ∙ r.1, r.2, r.3, links-behind ms new i le ∙ r.4 ∙ ap (λ l. i ∷ l) (sym (links-behind ms new p (omega arith))))

-- the new share's links are itself and those of its parent
links-new : (ms : List Share) (new : Share) (p : ℕ) → new.parent ≡ Some p → p ≤ length ms → links (ms ++ new ∷ []) (length ms + 1) ≡ (length ms + 1) ∷ links (ms ++ new ∷ []) p
links-new ms new p e le =
    let turned : reverse (ms ++ new ∷ []) ≡ new ∷ reverse ms = reverse-append ms (new ∷ []) in
    let l : length (reverse ms) ≡ length ms = length-reverse ms in
    let here : nat_eq (length ms + 1) (length (reverse ms) + 1) ≡ true = eq-eqb (length ms + 1) (length (reverse ms) + 1) (omega arith) in
    let first : links_among (new ∷ reverse ms) (length ms + 1) ≡ (length ms + 1) ∷ option_map_or (links_among (reverse ms)) new.parent [] = rw here refl in
    let above : option_map_or (links_among (reverse ms)) new.parent [] ≡ links ms p = ap (λ o. option_map_or (links_among (reverse ms)) o []) e in
    ap (λ xs. links_among xs (length ms + 1)) turned ∙ first ∙ ap (λ ls. (length ms + 1) ∷ ls) (above ∙ sym (links-behind ms new p le))

-- where a new share lies below one of these, it is chained
chained-new : (ms : List Share) (new : Share) → ((p : ℕ) → new.parent ≡ Some p → (q : Share) × (at_number ms p ≡ Some q) × IsBelow new q) → ChainedAt (ms ++ new ∷ []) (length ms + 1) new
chained-new ms new below = λ p e.
    let r = below p e in
    let le = at_number-length ms p r.0 r.1 in
    (r.0, at_number-behind ms new p le ∙ r.1, omega arith, r.2, links-new ms new p e le)

-- all shares are chained
abbrev pub Chained : List Share → Type 0
Chained ms = (i : ℕ) (m : Share) → at_number ms i ≡ Some m → ChainedAt ms i m

chained-more : (ms : List Share) (new : Share) → Chained ms → ((p : ℕ) → new.parent ≡ Some p → (q : Share) × (at_number ms p ≡ Some q) × IsBelow new q) → Chained (ms ++ new ∷ [])
chained-more ms new chained below = λ i m is. cases i m is (nat_lt (length ms) i) refl
  where
    cases : (i : ℕ) (m : Share) → at_number (ms ++ new ∷ []) i ≡ Some m → (b : Bool) → nat_lt (length ms) i ≡ b → ChainedAt (ms ++ new ∷ []) i m
    cases i m is false e =
        let le = ltb-false (length ms) i e in
        chained-behind ms new i m le (chained i m (sym (at_number-behind ms new i le) ∙ is))
    cases i m is true e =
        let lt = ltb-true (length ms) i e in
        let high = at_number-length (ms ++ new ∷ []) i m is in
        let l = length-append ms (new ∷ []) in
        let last : i ≡ length ms + 1 = omega arith in
        let P : ℕ → Type 0 = λ j. at_number (ms ++ new ∷ []) j ≡ Some m in
        let found : Some new ≡ Some m = sym (at_number-last ms new) ∙ subst P last is in
        let same : new ≡ m = cc in
        let Q : ℕ → Share → Type 0 = λ j x. ChainedAt (ms ++ new ∷ []) j x in
        subst (λ j. Q j m) (sym last) (subst (Q (length ms + 1)) same (chained-new ms new below))

chained-added : (ms : List Share) (o : Option Share) → Chained ms → ((new : Share) → o ≡ Some new → (p : ℕ) → new.parent ≡ Some p → (q : Share) × (at_number ms p ≡ Some q) × IsBelow new q) → Chained (added ms o)
chained-added ms None chained below = chained
chained-added ms (Some new) chained below = chained-more ms new chained (below new refl)

-- ---- where a child comes from

-- the share that was found is the one that the id names
found-named : (v : View) (id secret : List ℕ) (i : ℕ) (share : Share) → Finds (share_with v id secret) i share → named id ≡ Some i
found-named v id secret i share found = by_name (named id) found
  where
    by_secret : (n : ℕ) (o : Option Share) → option_and_then (λ (found : ℕ × Share). if has_secret secret found.1 then Some found else None) (option_map (λ (s : Share). (n, s)) o) ≡ Some (i, share) → n ≡ i
    by_secret n None e = absurd (cc)
    by_secret n (Some s) e = pick (has_secret secret s) e
      where
        pair : ℕ → Share → ℕ × Share
        pair a b = (a, b)

        pick : (b : Bool) → (if b then Some (pair n s) else None) ≡ Some (pair i share) → n ≡ i
        pick true f = let same : pair n s ≡ pair i share = cc in ap (λ (x : ℕ × Share). x.0) same
        pick false f = absurd (cc)

    by_name : (o : Option ℕ) → option_and_then (λ (found : ℕ × Share). if has_secret secret found.1 then Some found else None) (option_and_then (numbered_share v) o) ≡ Some (i, share) → o ≡ Some i
    by_name None e = absurd (cc)
    by_name (Some n) e = ap (λ x. Some x) (by_secret n (at_number v.shares n) e)

-- a child lies below its parent, where what was asked for is within the parent's rights, and these are within what the parent was granted
child-below : (number : ℕ) (parent : Share) (rights : Rights) (with : Address) (sender_id : List ℕ) (asked : Option Rights) (fresh : List ℕ) → may_share rights asked ≡ true → is_within rights parent.granted ≡ true → IsBelow (child_share number parent rights with sender_id asked fresh) parent
child-below number parent rights with sender_id None fresh may within = (refl, refl, refl, within)
child-below number parent rights with sender_id (Some perms) fresh may within =
    (refl, refl, refl, within-further perms rights parent.granted (both_true rights.share (is_within perms rights) may).1 within)

-- a child that a request makes lies below the share that the request names
request-below : (host : List ℕ) (before : List Entry) (id secret : List ℕ) (with : Address) (sender_id : List ℕ) (asked : Option Rights) (fresh : List ℕ) (reply : Reply) → IsAnswered host before → Kept host before (asks.Notice (notices.ReshareRequest id secret with sender_id asked) fresh) reply → (new : Share) → share_by host (users before) (made host before) (effective_among (made host before) (perms_among (made host before) before)) (asks.Notice (notices.ReshareRequest id secret with sender_id asked) fresh) ≡ Some new → (p : ℕ) → new.parent ≡ Some p → (q : Share) × (at_number (made host before) p ≡ Some q) × IsBelow new q
request-below host before id secret with sender_id asked fresh reply answered kept new makes p parent =
    let r = request-fresh (view_of host before) id secret with sender_id asked (hex fresh) (share_with (view_of host before) id secret) reply kept.0 kept.1 in
    let names : named id ≡ Some r.0 = found-named (view_of host before) id secret r.0 r.1 r.2 in
    by_row r.0 r.3 (at_number (made host before) r.0) refl (subst Made names makes)
  where
    Made : Option ℕ → Type 0
    Made o = option_and_then (λ n. option_map (λ (x : Share). child_share n x (effective host before n) with sender_id asked fresh) (at_number (made host before) n)) o ≡ Some new

    by_row : (i : ℕ) → may_share (effective host before i) asked ≡ true → (row : Option Share) → at_number (made host before) i ≡ row → option_map (λ (x : Share). child_share i x (effective host before i) with sender_id asked fresh) (at_number (made host before) i) ≡ Some new → (q : Share) × (at_number (made host before) p ≡ Some q) × IsBelow new q
    by_row i may None is e =
        let P : Option Share → Type 0 = λ o. option_map (λ (x : Share). child_share i x (effective host before i) with sender_id asked fresh) o ≡ Some new in
        let never = subst P is e in absurd (cc)
    by_row i may (Some q) is e =
        let P : Option Share → Type 0 = λ o. option_map (λ (x : Share). child_share i x (effective host before i) with sender_id asked fresh) o ≡ Some new in
        let child : Share = child_share i q (effective host before i) with sender_id asked fresh in
        let made_so : Some child ≡ Some new = subst P is e in
        let same : child ≡ new = cc in
        let number : Some i ≡ Some p = ap (λ (x : Share). x.parent) same ∙ parent in
        let number_same : i ≡ p = cc in
        let Q : ℕ → Type 0 = λ n. at_number (made host before) n ≡ Some q in
        let R : Share → Type 0 = λ x. IsBelow x q in
        (q, subst Q number_same is, subst R same (child-below i q (effective host before i) with sender_id asked fresh may (effective-granted host before i q answered is)))

-- an owner's own share has no parent
own-alone : (host : List ℕ) (us : List User) (user : Option ℕ) (path : _) (with : Address) (perms : Rights) (fresh : List ℕ) (new : Share) → option_map (λ owner. own_share host us owner path with perms fresh) user ≡ Some new → (p : ℕ) → new.parent ≡ Some p → ⊥
own-alone host us None path with perms fresh new e p f = cc
own-alone host us (Some user) path with perms fresh new e p f =
    let same : own_share host us user path with perms fresh ≡ new = cc in
    let none : None ≡ Some p = ap (λ (x : Share). x.parent) same ∙ f in
    cc

chained-step : (host : List ℕ) (before : List Entry) (ask : Ask) (reply : Reply) → IsAnswered host before → Kept host before ask reply → Chained (made host before) → Chained (made host (record { ask = ask; reply = reply } ∷ before))
chained-step host before (asks.AddUser name fresh) reply answered kept chained = chained
chained-step host before (asks.Local key (commands.Share path with perms fresh)) reply answered kept chained =
    chained-added (made host before) (option_map (λ owner. own_share host (users before) owner path with perms fresh) (user_of_key (users before) key)) chained (λ new e p f. absurd (own-alone host (users before) (user_of_key (users before) key) path with perms fresh new e p f))
chained-step host before (asks.Local key (commands.Unshare id)) reply answered kept chained = chained
chained-step host before (asks.Local key (commands.Limit id perms)) reply answered kept chained = chained
chained-step host before (asks.Local key (commands.Accept number)) reply answered kept chained = chained
chained-step host before (asks.Local key (commands.Decline number)) reply answered kept chained = chained
chained-step host before (asks.Local key (commands.Reshare number with perms)) reply answered kept chained = chained
chained-step host before (asks.Local key (commands.Undo request)) reply answered kept chained = chained
chained-step host before (asks.Local key commands.List) reply answered kept chained = chained
chained-step host before (asks.Local key (commands.Expire id end)) reply answered kept chained = chained
chained-step host before (asks.Offer offer) reply answered kept chained = chained
chained-step host before (asks.Notice (notices.Accepted id secret owner with perms) fresh) reply answered kept chained = chained
chained-step host before (asks.Notice (notices.Declined id secret) fresh) reply answered kept chained = chained
chained-step host before (asks.Notice (notices.Unshared id secret) fresh) reply answered kept chained = chained
chained-step host before (asks.Notice (notices.ReshareUndo id secret) fresh) reply answered kept chained = chained
chained-step host before (asks.Notice (notices.Changed id secret serial perms) fresh) reply answered kept chained = chained
chained-step host before (asks.Notice (notices.ReshareRequest id secret with sender_id asked) fresh) reply answered kept chained =
    chained-added (made host before) (share_by host (users before) (made host before) (effective_among (made host before) (perms_among (made host before) before)) (asks.Notice (notices.ReshareRequest id secret with sender_id asked) fresh)) chained (λ new e p f. request-below host before id secret with sender_id asked fresh reply answered kept new e p f)
chained-step host before (asks.Dav secret method path body) reply answered kept chained = chained
chained-step host before asks.Due reply answered kept chained = chained
chained-step host before (asks.Settle number status id) reply answered kept chained = chained
chained-step host before (asks.Tick clock) reply answered kept chained = chained
chained-step host before (asks.Carry secret from to moving overwrite) reply answered kept chained = chained

-- each share lies below its parent
pub chained-all : (host : List ℕ) (g : List Entry) → IsAnswered host g → Chained (made host g)
chained-all host [] answered = λ i m is. let low = at_number-low [] i m is in let high = at_number-length [] i m is in absurd (omega arith)
chained-all host (e ∷ before) answered = chained-step host before e.ask e.reply answered.2 (answered.0, answered.1) (chained-all host before answered.2)

-- what a share lets its guest do is within what its parent does
pub effective-below : (host : List ℕ) (g : List Entry) (i p : ℕ) (m : Share) → IsAnswered host g → at_number (made host g) i ≡ Some m → m.parent ≡ Some p → is_within (effective host g i) (effective host g p) ≡ true
effective-below host g i p m answered is parent =
    let r = chained-all host g answered i m is p parent in
    let own = perms host g in
    rw r.4 (within-second (own i) (permitted own (links (made host g) p)))
