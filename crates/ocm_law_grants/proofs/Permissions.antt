use Rattle.std.proofs.Common.{◌≡◌, ℕ, zero, suc, ◌+◌, ◌<◌, ◌≤◌, List, [], ◌∷◌, ◌++◌, length, Bool, true, false, refl, sym, subst, arith, le_trans}
use Rattle.std.specs.Prelude.{Option, Some, None, nat_eq, nat_lt, ◌&&◌, ◌||◌, not, if◌then◌else◌, option_and_then, unwrap_or}
use Rattle.std.specs.List.{slice_get}
use Rattle.std.specs.Option.{option_map_or, option_or}
use Rattle.std.proofs.lemmas.Bool.{eqb-true, ltb-true, ltb-false}
use Rattle.std.proofs.lemmas.Option.{slice_get_within}
use Rattle.ocm_types.specs.declared.rights.Rights.{Rights}
use Rattle.ocm_types.specs.Rights.{both, is_within}
use Rattle.ocm_entry.specs.declared.asks.Ask.{Ask}
use Rattle.ocm_entry.specs.declared.asks.Ask.TheVariants as asks
use Rattle.ocm_entry.specs.declared.asks.Cmd.TheVariants as commands
use Rattle.ocm_entry.specs.declared.replies.Reply.{Reply}
use Rattle.ocm_entry.specs.declared.replies.Reply.TheVariants as replies
use Rattle.ocm_entry.specs.declared.refusals.Why.TheVariants.{NotPermitted}
use Rattle.ocm_types.specs.declared.phases.Which.TheVariants as limits
use Rattle.ocm_entry.specs.declared.entries.Entry.{Entry}
use Rattle.ocm_entry.specs.declared.rows.Share.{Share}
use Rattle.ocm_rules.specs.Numbers.{added, at_number, latest}
use Rattle.ocm_rules.specs.Users.{users, user_of_key}
use Rattle.ocm_rules.specs.Shares.{made, share_by, limit_by, granted_to, no_rights, perms, perms_among, effective_among}
use Rattle.ocm_rules.specs.Views.{View, is_live_in, share_of_owner, told_by_limit}
use Rattle.ocm_rules.specs.Messages.{view_of}
use Rattle.ocm_rules.specs.Answers.{refused, limited, limit_reply, local_reply, is_full_of_changes}
use Rattle.ocm_rules.specs.History.{changes_in, answer_kept, IsAnswered}
use Rattle.ocm_law_grants.proofs.Links.{both_true, at_number-behind}
use Rattle.ocm_law_grants.proofs.Revoked.{length-added}

-- ---- rights within rights

implied : (a b c : Bool) → (not a || b) ≡ true → (not b || c) ≡ true → (not a || c) ≡ true
implied false b c h k = refl
implied true false c h k = absurd (cc)
implied true true c h k = k

implies_itself : (a : Bool) → (not a || a) ≡ true
implies_itself true = refl
implies_itself false = refl

both_first : (a b : Bool) → (not (a && b) || a) ≡ true
both_first true true = refl
both_first true false = refl
both_first false b = refl

both_second : (a b : Bool) → (not (a && b) || b) ≡ true
both_second true true = refl
both_second true false = refl
both_second false b = refl

-- rights are within themselves
pub within-itself : (a : Rights) → is_within a a ≡ true
within-itself a = rw (implies_itself a.read, implies_itself a.write, implies_itself a.share) refl

-- what is among both is among the first, and among the second
pub within-first : (a b : Rights) → is_within (both a b) a ≡ true
within-first a b = rw (both_first a.read b.read, both_first a.write b.write, both_first a.share b.share) refl

pub within-second : (a b : Rights) → is_within (both a b) b ≡ true
within-second a b = rw (both_second a.read b.read, both_second a.write b.write, both_second a.share b.share) refl

-- rights within rights within others are within the others
pub within-further : (a b c : Rights) → is_within a b ≡ true → is_within b c ≡ true → is_within a c ≡ true
within-further a b c h k =
    let h1 = both_true ((not a.read || b.read) && (not a.write || b.write)) (not a.share || b.share) h in
    let h2 = both_true (not a.read || b.read) (not a.write || b.write) h1.0 in
    let k1 = both_true ((not b.read || c.read) && (not b.write || c.write)) (not b.share || c.share) k in
    let k2 = both_true (not b.read || c.read) (not b.write || c.write) k1.0 in
    rw (implied a.read b.read c.read h2.0 k2.0, implied a.write b.write c.write h2.1 k2.1, implied a.share b.share c.share h1.1 k1.1) refl

-- ---- limits

-- whether an ask that was answered so was kept
abbrev pub Kept : List ℕ → List Entry → Ask → Reply → Type 0
Kept host before ask reply = (reply ≡ answer_kept host before ask) × (changes_in (view_of host before) ask reply ≡ true)

-- a limit that was taken is of a share that is there, within what was granted
limited-owned : (v : View) (key : List ℕ) (id : ℕ) (limit : Rights) (owned : Option Share) (live full within : Bool) (reply : Reply) → ((share : Share) → owned ≡ Some share → is_within limit share.granted ≡ within) → reply ≡ limit_reply owned live limit full → changes_in v (asks.Local key (commands.Limit id limit)) reply ≡ true → (share : Share) × (owned ≡ Some share) × (is_within limit share.granted ≡ true)
limited-owned v key id limit None live full within reply of is h =
    let P : Reply → Type 0 = λ r. changes_in v (asks.Local key (commands.Limit id limit)) r ≡ true in
    let never = subst P is h in absurd (cc)
limited-owned v key id limit (Some share) false full within reply of is h =
    let P : Reply → Type 0 = λ r. changes_in v (asks.Local key (commands.Limit id limit)) r ≡ true in
    let never = subst P is h in absurd (cc)
limited-owned v key id limit (Some share) true full true reply of is h = (share, refl, of share refl)
limited-owned v key id limit (Some share) true full false reply of is h =
    let P : Reply → Type 0 = λ r. changes_in v (asks.Local key (commands.Limit id limit)) r ≡ true in
    let Q : Bool → Type 0 = λ b. reply ≡ (if not b then refused NotPermitted else (if full then limited limits.Changes else replies.Done)) in
    let never = subst P (subst Q (of share refl) is) h in absurd (cc)

-- a share of this owner is there
owned-there : (v : View) (user id : ℕ) (share : Share) → share_of_owner v user id ≡ Some share → at_number v.shares id ≡ Some share
owned-there v user id share e = cases (at_number v.shares id) e
  where
    cases : (o : Option Share) → option_and_then (λ (s : Share). if nat_eq s.owner user then Some s else None) o ≡ Some share → o ≡ Some share
    cases None f = absurd (cc)
    cases (Some s) f = pick (nat_eq s.owner user) f
      where
        pick : (b : Bool) → (if b then Some s else None) ≡ Some share → Some s ≡ Some share
        pick true g = g
        pick false g = absurd (cc)

-- a limit that was kept is of a share that is there, within what was granted
pub limit-kept : (host : List ℕ) (before : List Entry) (key : List ℕ) (id : ℕ) (limit : Rights) (reply : Reply) → Kept host before (asks.Local key (commands.Limit id limit)) reply → (share : Share) × (at_number (made host before) id ≡ Some share) × (is_within limit share.granted ≡ true)
limit-kept host before key id limit reply kept = cases (user_of_key (users before) key) kept.0
  where
    cases : (user : Option ℕ) → reply ≡ local_reply (view_of host before) user (commands.Limit id limit) → (share : Share) × (at_number (made host before) id ≡ Some share) × (is_within limit share.granted ≡ true)
    cases None is =
        let P : Reply → Type 0 = λ r. changes_in (view_of host before) (asks.Local key (commands.Limit id limit)) r ≡ true in
        let never = subst P is kept.1 in absurd (cc)
    cases (Some user) is =
        let v = view_of host before in
        let owned = share_of_owner v user id in
        let within = option_map_or (λ (s : Share). is_within limit s.granted) owned true in
        let r = limited-owned v key id limit owned (is_live_in v id) (is_full_of_changes v (length (told_by_limit v id limit))) within reply (λ share e. rw e refl) is kept.1 in
        (r.0, owned-there v user id r.0 r.1, r.2)

-- ---- permissions

-- the shares after an entry
abbrev pub made_more : List ℕ → List Entry → Ask → Option Share
made_more host before ask = share_by host (users before) (made host before) (effective_among (made host before) (perms_among (made host before) before)) ask

-- where a share was limited, it is there
abbrev LimitedThere : List ℕ → List Entry → ℕ → Type 0
LimitedThere host g i = (p : Rights) → latest (λ (e : Entry). limit_by i e.ask) g ≡ Some p → i ≤ length (made host g)

-- an entry that does not limit this share
limited-else : (host : List ℕ) (before : List Entry) (ask : Ask) (reply : Reply) (i : ℕ) → limit_by i ask ≡ None → LimitedThere host before i → LimitedThere host (record { ask = ask; reply = reply } ∷ before) i
limited-else host before ask reply i none there p h =
    let P : Option Rights → Type 0 = λ o. option_or o (latest (λ (e : Entry). limit_by i e.ask) before) ≡ Some p in
    le_trans (there p (subst P none h)) (length-added (made host before) (made_more host before ask))

-- where something stands at a number, it is at most the length
pub at_number-length : {X : Type 0} (xs : List X) (i : ℕ) (x : X) → at_number xs i ≡ Some x → i ≤ length xs
at_number-length xs zero x h = omega arith
at_number-length xs (suc k) x h = let lt = slice_get_within xs k x h in omega arith

limited-step : (host : List ℕ) (before : List Entry) (ask : Ask) (reply : Reply) (i : ℕ) → Kept host before ask reply → LimitedThere host before i → LimitedThere host (record { ask = ask; reply = reply } ∷ before) i
limited-step host before (asks.AddUser name fresh) reply i kept there = limited-else host before (asks.AddUser name fresh) reply i refl there
limited-step host before (asks.Local key (commands.Share path with perms fresh)) reply i kept there = limited-else host before (asks.Local key (commands.Share path with perms fresh)) reply i refl there
limited-step host before (asks.Local key (commands.Unshare id)) reply i kept there = limited-else host before (asks.Local key (commands.Unshare id)) reply i refl there
limited-step host before (asks.Local key (commands.Limit id limit)) reply i kept there = cases (nat_eq id i) refl
  where
    cases : (b : Bool) → nat_eq id i ≡ b → LimitedThere host (record { ask = asks.Local key (commands.Limit id limit); reply = reply } ∷ before) i
    cases true e = λ p h.
        let r = limit-kept host before key id limit reply kept in
        let P : ℕ → Type 0 = λ j. j ≤ length (made host before) in
        subst P (eqb-true id i e) (at_number-length (made host before) id r.0 r.1)
    cases false e = limited-else host before (asks.Local key (commands.Limit id limit)) reply i (rw e refl) there
limited-step host before (asks.Local key (commands.Accept number)) reply i kept there = limited-else host before (asks.Local key (commands.Accept number)) reply i refl there
limited-step host before (asks.Local key (commands.Decline number)) reply i kept there = limited-else host before (asks.Local key (commands.Decline number)) reply i refl there
limited-step host before (asks.Local key (commands.Reshare number with perms)) reply i kept there = limited-else host before (asks.Local key (commands.Reshare number with perms)) reply i refl there
limited-step host before (asks.Local key (commands.Undo request)) reply i kept there = limited-else host before (asks.Local key (commands.Undo request)) reply i refl there
limited-step host before (asks.Local key commands.List) reply i kept there = limited-else host before (asks.Local key commands.List) reply i refl there
limited-step host before (asks.Local key (commands.Expire id end)) reply i kept there = limited-else host before (asks.Local key (commands.Expire id end)) reply i refl there
limited-step host before (asks.Offer offer) reply i kept there = limited-else host before (asks.Offer offer) reply i refl there
limited-step host before (asks.Notice notice fresh) reply i kept there = limited-else host before (asks.Notice notice fresh) reply i refl there
limited-step host before (asks.Dav secret method path body) reply i kept there = limited-else host before (asks.Dav secret method path body) reply i refl there
limited-step host before asks.Due reply i kept there = limited-else host before asks.Due reply i refl there
limited-step host before (asks.Settle number status id) reply i kept there = limited-else host before (asks.Settle number status id) reply i refl there
limited-step host before (asks.Tick clock) reply i kept there = limited-else host before (asks.Tick clock) reply i refl there
limited-step host before (asks.Carry secret from to moving overwrite) reply i kept there = limited-else host before (asks.Carry secret from to moving overwrite) reply i refl there

limited-there : (host : List ℕ) (g : List Entry) (i : ℕ) → IsAnswered host g → LimitedThere host g i
limited-there host [] i answered = λ p h. absurd (cc)
limited-there host (e ∷ before) i answered = limited-step host before e.ask e.reply i (answered.0, answered.1) (limited-there host before i answered.2)

-- the permissions of a share are within what was granted
abbrev PermsWithin : List ℕ → List Entry → ℕ → Type 0
PermsWithin host g i = is_within (perms host g i) (granted_to (made host g) i) ≡ true

-- what stands behind a list
slice_get-last : {X : Type 0} (xs : List X) (x : X) → slice_get (xs ++ x ∷ []) (length xs) ≡ Some x
slice_get-last [] x = refl
slice_get-last (y ∷ ys) x = slice_get-last ys x

pub at_number-last : {X : Type 0} (xs : List X) (x : X) → at_number (xs ++ x ∷ []) (length xs + 1) ≡ Some x
at_number-last xs x = let next : length xs + 1 ≡ suc (length xs) = omega arith in rw next (slice_get-last xs x)

-- an entry that does not limit this share
perms-else : (host : List ℕ) (before : List Entry) (ask : Ask) (reply : Reply) (i : ℕ) → IsAnswered host before → limit_by i ask ≡ None → PermsWithin host before i → PermsWithin host (record { ask = ask; reply = reply } ∷ before) i
perms-else host before ask reply i answered none within = cases (made_more host before ask)
  where
    ms : List Share
    ms = made host before

    last : Option Rights
    last = latest (λ (e : Entry). limit_by i e.ask) before

    Goal : List Share → Option Rights → Type 0
    Goal shares o = is_within (unwrap_or (option_or o last) (granted_to shares i)) (granted_to shares i) ≡ true

    past : (m : Share) → length ms < i → (o : Option Rights) → last ≡ o → Goal (ms ++ m ∷ []) None
    past m lt None e = rw e (within-itself (granted_to (ms ++ m ∷ []) i))
    past m lt (Some p) e = let le = limited-there host before i answered p e in absurd (omega arith)

    more : (m : Share) → Goal (ms ++ m ∷ []) None
    more m = near (nat_lt (length ms) i) refl
      where
        near : (b : Bool) → nat_lt (length ms) i ≡ b → Goal (ms ++ m ∷ []) None
        near true e = past m (ltb-true (length ms) i e) last refl
        near false e =
            let P : Option Share → Type 0 = λ o. is_within (unwrap_or last (option_map_or (λ (share : Share). share.granted) o no_rights)) (option_map_or (λ (share : Share). share.granted) o no_rights) ≡ true in
            subst P (sym (at_number-behind ms m i (ltb-false (length ms) i e))) within

    cases : (o : Option Share) → Goal (added ms o) (limit_by i ask)
    cases None = subst (Goal ms) (sym none) within
    cases (Some m) = subst (Goal (ms ++ m ∷ [])) (sym none) (more m)

perms-step : (host : List ℕ) (before : List Entry) (ask : Ask) (reply : Reply) (i : ℕ) → IsAnswered host before → Kept host before ask reply → PermsWithin host before i → PermsWithin host (record { ask = ask; reply = reply } ∷ before) i
perms-step host before (asks.AddUser name fresh) reply i answered kept within = perms-else host before (asks.AddUser name fresh) reply i answered refl within
perms-step host before (asks.Local key (commands.Share path with perms fresh)) reply i answered kept within = perms-else host before (asks.Local key (commands.Share path with perms fresh)) reply i answered refl within
perms-step host before (asks.Local key (commands.Unshare id)) reply i answered kept within = perms-else host before (asks.Local key (commands.Unshare id)) reply i answered refl within
perms-step host before (asks.Local key (commands.Limit id limit)) reply i answered kept within = cases (nat_eq id i) refl
  where
    cases : (b : Bool) → nat_eq id i ≡ b → PermsWithin host (record { ask = asks.Local key (commands.Limit id limit); reply = reply } ∷ before) i
    cases true e =
        let r = limit-kept host before key id limit reply kept in
        let same : at_number (made host before) i ≡ Some r.0 = rw (sym (eqb-true id i e)) r.1 in
        rw (e, same) r.2
    cases false e = perms-else host before (asks.Local key (commands.Limit id limit)) reply i answered (rw e refl) within
perms-step host before (asks.Local key (commands.Accept number)) reply i answered kept within = perms-else host before (asks.Local key (commands.Accept number)) reply i answered refl within
perms-step host before (asks.Local key (commands.Decline number)) reply i answered kept within = perms-else host before (asks.Local key (commands.Decline number)) reply i answered refl within
perms-step host before (asks.Local key (commands.Reshare number with perms)) reply i answered kept within = perms-else host before (asks.Local key (commands.Reshare number with perms)) reply i answered refl within
perms-step host before (asks.Local key (commands.Undo request)) reply i answered kept within = perms-else host before (asks.Local key (commands.Undo request)) reply i answered refl within
perms-step host before (asks.Local key commands.List) reply i answered kept within = perms-else host before (asks.Local key commands.List) reply i answered refl within
perms-step host before (asks.Local key (commands.Expire id end)) reply i answered kept within = perms-else host before (asks.Local key (commands.Expire id end)) reply i answered refl within
perms-step host before (asks.Offer offer) reply i answered kept within = perms-else host before (asks.Offer offer) reply i answered refl within
perms-step host before (asks.Notice notice fresh) reply i answered kept within = perms-else host before (asks.Notice notice fresh) reply i answered refl within
perms-step host before (asks.Dav secret method path body) reply i answered kept within = perms-else host before (asks.Dav secret method path body) reply i answered refl within
perms-step host before asks.Due reply i answered kept within = perms-else host before asks.Due reply i answered refl within
perms-step host before (asks.Settle number status id) reply i answered kept within = perms-else host before (asks.Settle number status id) reply i answered refl within
perms-step host before (asks.Tick clock) reply i answered kept within = perms-else host before (asks.Tick clock) reply i answered refl within
perms-step host before (asks.Carry secret from to moving overwrite) reply i answered kept within = perms-else host before (asks.Carry secret from to moving overwrite) reply i answered refl within

-- the permissions of each share are within what was granted
pub perms-within : (host : List ℕ) (g : List Entry) (i : ℕ) → IsAnswered host g → PermsWithin host g i
perms-within host [] i answered = within-itself (granted_to [] i)
perms-within host (e ∷ before) i answered = perms-step host before e.ask e.reply i answered.2 (answered.0, answered.1) (perms-within host before i answered.2)
