-- Who holds a secret, and what is granted to that holder.
use Rattle.std.proofs.Common.{◌≡◌, ℕ, zero, suc, ◌+◌, List, [], ◌∷◌, map, Bool, true, false, refl, sym, ap, ◌∙◌, subst, arith, add-zero}
use Rattle.std.specs.Prelude.{Option, Some, None, ◌||◌, not, if◌then◌else◌}
use Rattle.std.specs.List.{list_any, slice_get}
use Rattle.std.specs.Cmp.Lexicographic.{bytes_decides, nat_list_eq_equiv}
use Rattle.std.proofs.lemmas.List.Folds.{list_any-append}
use Rattle.ocm_types.specs.Rights.{all_rights}
use Rattle.ocm_entry.specs.declared.entries.Entry.{Entry}
use Rattle.ocm_entry.specs.declared.rows.Grant.{Grant}
use Rattle.ocm_entry.specs.declared.rows.Share.{Share}
use Rattle.ocm_entry.specs.declared.rows.User.{User}
use Rattle.ocm_rules.specs.Numbers.{same_text, number_from, at_number}
use Rattle.ocm_rules.specs.Users.{users, has_key, user_of_key}
use Rattle.ocm_rules.specs.Shares.{effective, has_secret, is_live, made, share_of_secret, used_among}
use Rattle.ocm_rules.specs.Holders.{Account, Guest, Nobody, grant_of, holder_among}
use Rattle.ocm_rules.specs.Views.{grant_in}
use Rattle.ocm_rules.specs.Messages.{view_of}
use Rattle.ocm_rules.specs.History.{IsAnswered}
use Rattle.ocm_rules.proofs.Searches.{number_of-found}
use Rattle.ocm_law_grants.specs.Grants.{are_different}
use Rattle.ocm_law_grants.proofs.Links.{both_true}
use Rattle.ocm_law_grants.proofs.Holding.{held-by_guest}
use Rattle.ocm_law_grants.proofs.Secrets.{used-different}
use Rattle.ocm_law_served.specs.Served.{IsKeyOf, root_of_guest, root_of_user}

neither_of : (a b : Bool) → (a || b) ≡ false → (a ≡ false) × (b ≡ false)
neither_of true b h = absurd (cc)
neither_of false b h = (refl, h)

not_yes : (b : Bool) → not b ≡ true → b ≡ false
not_yes true h = absurd (cc)
not_yes false h = refl

-- what no key passes, this one does not pass
none_one : (p : List ℕ → Bool) (us : List User) (k : ℕ) (u : User) → list_any p (map (λ (x : User). x.key) us) ≡ false → slice_get us k ≡ Some u → p u.key ≡ false
none_one p [] k u h is = absurd (cc)
none_one p (x ∷ us) zero u h is =
    let same : x ≡ u = cc in
    rw (sym same) (neither_of (p x.key) (list_any p (map (λ (y : User). y.key) us)) h).0
none_one p (x ∷ us) (suc k) u h is = none_one p us k u (neither_of (p x.key) (list_any p (map (λ (y : User). y.key) us)) h).1 is

-- of different keys, a user's own is found at its place
key-there : (us : List User) (ms : List Share) (n k : ℕ) (u : User) → are_different (used_among us ms) ≡ true → slice_get us k ≡ Some u → number_from (has_key u.key) n us ≡ Some (n + k)
key-there [] ms n k u h is = absurd (cc)
key-there (x ∷ us) ms n zero u h is =
    let same : x ≡ u = cc in
    let itself : same_text x.key u.key ≡ true = rw same (nat_list_eq_equiv.refl u.key) in
    rw (itself, add-zero n) refl
key-there (x ∷ us) ms n (suc k) u h is =
    let r = both_true (not (list_any (same_text x.key) (used_among us ms))) (are_different (used_among us ms)) h in
    let none : (list_any (same_text x.key) (map (λ (y : User). y.key) us) || list_any (same_text x.key) (map (λ (y : Share). y.secret) ms)) ≡ false = sym (list_any-append (same_text x.key) (map (λ (y : User). y.key) us) (map (λ (y : Share). y.secret) ms)) ∙ not_yes _ r.0 in
    let other : same_text x.key u.key ≡ false = none_one (same_text x.key) us k u (neither_of _ _ none).0 is in
    let later : number_from (has_key u.key) (n + 1) us ≡ Some (n + 1 + k) = key-there us ms (n + 1) k u r.1 is in
    let sum : n + 1 + k ≡ n + suc k = omega arith in
    rw other (later ∙ ap (λ j. Some j) sum)

-- a user's key is held by that user alone
held-by_user : (us : List User) (ms : List Share) (i : ℕ) (u : User) → are_different (used_among us ms) ≡ true → at_number us i ≡ Some u → holder_among us ms u.key ≡ Account i
held-by_user us ms zero u h is = absurd (cc)
held-by_user us ms (suc k) u h is =
    let sum : 1 + k ≡ suc k = omega arith in
    let found : user_of_key us u.key ≡ Some (suc k) = key-there us ms 1 k u h is ∙ ap (λ j. Some j) sum in
    rw found refl

-- ---- what is granted

-- the grant of a user
abbrev pub user_grant : ℕ → Grant
user_grant user = record { root = root_of_user user; rights = all_rights }

-- the grant of the guest of a live share
abbrev pub guest_grant : List ℕ → List Entry → ℕ → Share → Grant
guest_grant host g i m = record { root = root_of_guest m; rights = effective host g i }

pub granted-by_key : (host : List ℕ) (g : List Entry) (secret : List ℕ) (user : ℕ) → IsAnswered host g → IsKeyOf g secret user → grant_in (view_of host g) secret ≡ Some (user_grant user)
granted-by_key host g secret user answered key =
    let held : holder_among (users g) (made host g) key.0.key ≡ Account user = held-by_user (users g) (made host g) user key.0 (used-different host g answered) key.1 in
    let P : List ℕ → Type 0 = λ s. holder_among (users g) (made host g) s ≡ Account user in
    ap (grant_of (is_live host g) (effective host g)) (subst P key.2 held)

pub granted-by_share : (host : List ℕ) (g : List Entry) (secret : List ℕ) (i : ℕ) (m : Share) → IsAnswered host g → at_number (made host g) i ≡ Some m → m.secret ≡ secret → grant_in (view_of host g) secret ≡ (if is_live host g i then Some (guest_grant host g i m) else None)
granted-by_share host g secret i m answered is same =
    let held : holder_among (users g) (made host g) m.secret ≡ Guest i m = held-by_guest (users g) (made host g) i m (used-different host g answered) is in
    let P : List ℕ → Type 0 = λ s. holder_among (users g) (made host g) s ≡ Guest i m in
    ap (grant_of (is_live host g) (effective host g)) (subst P same held)

-- ---- whose a secret is

-- a user's key, a share's secret, or neither
pub data Whose (host : List ℕ) (g : List Entry) (secret : List ℕ) : Type 0 where
  OfUser : (user : ℕ) → IsKeyOf g secret user → Whose host g secret
  OfShare : (i : ℕ) (m : Share) → at_number (made host g) i ≡ Some m → m.secret ≡ secret → Whose host g secret
  OfNobody : grant_in (view_of host g) secret ≡ None → Whose host g secret

pub whose : (host : List ℕ) (g : List Entry) (secret : List ℕ) → Whose host g secret
whose host g secret = by_user (user_of_key (users g) secret) refl (share_of_secret (made host g) secret) refl
  where
    by_user : (o : Option ℕ) → user_of_key (users g) secret ≡ o → (p : Option ℕ) → share_of_secret (made host g) secret ≡ p → Whose host g secret
    by_user (Some user) e p f =
        let found = number_of-found (has_key secret) (users g) user e in
        OfUser user (found.0, found.1, (bytes_decides found.0.key secret).0 found.2)
    by_user None e (Some i) f =
        let found = number_of-found (has_secret secret) (made host g) i f in
        OfShare i found.0 found.1 ((bytes_decides found.0.secret secret).0 found.2)
    by_user None e None f =
        let held : holder_among (users g) (made host g) secret ≡ Nobody = rw (e, f) refl in
        OfNobody (ap (grant_of (is_live host g) (effective host g)) held)
