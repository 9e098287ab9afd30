use Rattle.std.proofs.Common.{◌≡◌, ℕ, zero, suc, ◌+◌, List, [], ◌∷◌, ◌++◌, map, Bool, true, false, refl, sym, ap, ◌∙◌, arith, add-zero}
use Rattle.std.specs.Prelude.{Option, Some, None, ◌||◌, not, if◌then◌else◌}
use Rattle.std.specs.List.{list_any, slice_get}
use Rattle.std.specs.Cmp.Lexicographic.{nat_list_eq_equiv}
use Rattle.std.proofs.lemmas.List.Folds.{list_any-append}
use Rattle.ocm_entry.specs.declared.entries.Entry.{Entry}
use Rattle.ocm_entry.specs.declared.rows.Share.{Share}
use Rattle.ocm_entry.specs.declared.rows.User.{User}
use Rattle.ocm_rules.specs.Numbers.{added, same_text, number_from, at_number}
use Rattle.ocm_rules.specs.Users.{users, has_key}
use Rattle.ocm_rules.specs.Shares.{made, used_among, has_secret, share_of_secret, is_live}
use Rattle.ocm_rules.specs.Holders.{Guest, holder_among}
use Rattle.ocm_rules.specs.Views.{grant_in}
use Rattle.ocm_rules.specs.Messages.{view_of}
use Rattle.ocm_rules.specs.History.{changes, kept, IsLegal, IsAnswered}
use Rattle.ocm_rules.proofs.Kept.{kept-answered}
use Rattle.ocm_law_grants.specs.Grants.{are_different}
use Rattle.ocm_law_grants.proofs.Links.{both_true, at_number-behind}
use Rattle.ocm_law_grants.proofs.Permissions.{at_number-length, made_more}
use Rattle.ocm_law_grants.proofs.Revoked.{ended-stays}
use Rattle.ocm_law_grants.proofs.Secrets.{used-different}

neither_of : (a b : Bool) → (a || b) ≡ false → (a ≡ false) × (b ≡ false)
neither_of true b h = absurd (cc)
neither_of false b h = (refl, h)

not_yes : (b : Bool) → not b ≡ true → b ≡ false
not_yes true h = absurd (cc)
not_yes false h = refl

-- what no secret passes, this one does not pass
none_one : (p : List ℕ → Bool) (ms : List Share) (k : ℕ) (m : Share) → list_any p (map (λ (x : Share). x.secret) ms) ≡ false → slice_get ms k ≡ Some m → p m.secret ≡ false
none_one p [] k m h is = absurd (cc)
none_one p (x ∷ ms) zero m h is =
    let same : x ≡ m = cc in
    rw (sym same) (neither_of (p x.secret) (list_any p (map (λ (y : Share). y.secret) ms)) h).0
none_one p (x ∷ ms) (suc k) m h is = none_one p ms k m (neither_of (p x.secret) (list_any p (map (λ (y : Share). y.secret) ms)) h).1 is

-- of different secrets, a share's own is found at its place
found-there : (ms : List Share) (n k : ℕ) (m : Share) → are_different (map (λ (x : Share). x.secret) ms) ≡ true → slice_get ms k ≡ Some m → number_from (has_secret m.secret) n ms ≡ Some (n + k)
found-there [] n k m h is = absurd (cc)
found-there (x ∷ ms) n zero m h is =
    let same : x ≡ m = cc in
    let itself : same_text x.secret m.secret ≡ true = rw same (nat_list_eq_equiv.refl m.secret) in
    rw (itself, add-zero n) refl
found-there (x ∷ ms) n (suc k) m h is =
    let r = both_true (not (list_any (same_text x.secret) (map (λ (y : Share). y.secret) ms))) (are_different (map (λ (y : Share). y.secret) ms)) h in
    let other : same_text x.secret m.secret ≡ false = none_one (same_text x.secret) ms k m (not_yes _ r.0) is in
    let later : number_from (has_secret m.secret) (n + 1) ms ≡ Some (n + 1 + k) = found-there ms (n + 1) k m r.1 is in
    let sum : n + 1 + k ≡ n + suc k = omega arith in
    rw other (later ∙ ap (λ j. Some j) sum)

-- the secrets alone differ too
secrets-different : (us : List User) (ms : List Share) → are_different (used_among us ms) ≡ true → are_different (map (λ (x : Share). x.secret) ms) ≡ true
secrets-different [] ms h = h
secrets-different (u ∷ us) ms h = secrets-different us ms (both_true (not (list_any (same_text u.key) (used_among us ms))) (are_different (used_among us ms)) h).1

-- no user has a share's secret as key
no_key : (us : List User) (ms : List Share) (n k : ℕ) (m : Share) → are_different (used_among us ms) ≡ true → slice_get ms k ≡ Some m → number_from (has_key m.secret) n us ≡ None
no_key [] ms n k m h is = refl
no_key (u ∷ us) ms n k m h is =
    let r = both_true (not (list_any (same_text u.key) (used_among us ms))) (are_different (used_among us ms)) h in
    let none : (list_any (same_text u.key) (map (λ (x : User). x.key) us) || list_any (same_text u.key) (map (λ (x : Share). x.secret) ms)) ≡ false = sym (list_any-append (same_text u.key) (map (λ (x : User). x.key) us) (map (λ (x : Share). x.secret) ms)) ∙ not_yes _ r.0 in
    let other : same_text u.key m.secret ≡ false = none_one (same_text u.key) ms k m (neither_of _ _ none).1 is in
    rw other (no_key us ms (n + 1) k m r.1 is)

-- a share's secret is held by its guest alone
pub held-by_guest : (us : List User) (ms : List Share) (i : ℕ) (m : Share) → are_different (used_among us ms) ≡ true → at_number ms i ≡ Some m → holder_among us ms m.secret ≡ Guest i m
held-by_guest us ms zero m h is = absurd (cc)
held-by_guest us ms (suc k) m h is =
    let found : share_of_secret ms m.secret ≡ Some (1 + k) = found-there ms 1 k m (secrets-different us ms h) is in
    let sum : 1 + k ≡ suc k = omega arith in
    let same : share_of_secret ms m.secret ≡ Some (suc k) = found ∙ ap (λ j. Some j) sum in
    rw (no_key us ms 1 k m h is, same, is) refl

-- a share that is not live grants nothing
pub nothing-granted : (host : List ℕ) (g : List Entry) (i : ℕ) (m : Share) → IsAnswered host g → at_number (made host g) i ≡ Some m → is_live host g i ≡ false → grant_in (view_of host g) m.secret ≡ None
nothing-granted host g i m answered is ended =
    rw (held-by_guest (users g) (made host g) i m (used-different host g answered) is, ended) refl

-- a share keeps its number and its row
pub made-kept : (host : List ℕ) (later g : List Entry) (i : ℕ) (m : Share) → at_number (made host (kept host g)) i ≡ Some m → at_number (made host (kept host (later ++ g))) i ≡ Some m
made-kept host [] g i m is = is
made-kept host (e ∷ later) g i m is = cases (made-kept host later g i m is) (changes host (kept host (later ++ g)) e)
  where
    more : (ms : List Share) (o : Option Share) → at_number ms i ≡ Some m → at_number (added ms o) i ≡ Some m
    more ms None h = h
    more ms (Some new) h = at_number-behind ms new i (at_number-length ms i m h) ∙ h

    cases : at_number (made host (kept host (later ++ g))) i ≡ Some m → (b : Bool) → at_number (made host (if b then e ∷ kept host (later ++ g) else kept host (later ++ g))) i ≡ Some m
    cases older true = more (made host (kept host (later ++ g))) (made_more host (kept host (later ++ g)) e.ask) older
    cases older false = older

-- a share that was not live grants nothing later
pub nothing-granted_later : (host : List ℕ) (later g : List Entry) (i : ℕ) (m : Share) → IsLegal host (later ++ g) → at_number (made host (kept host g)) i ≡ Some m → is_live host (kept host g) i ≡ false → grant_in (view_of host (kept host (later ++ g))) m.secret ≡ None
nothing-granted_later host later g i m legal is ended =
    nothing-granted host (kept host (later ++ g)) i m (kept-answered host (later ++ g) legal) (made-kept host later g i m is) (ended-stays host later g i legal (at_number-length (made host (kept host g)) i m is) ended)
