use Rattle.std.proofs.Common.{◌≡◌, ℕ, zero, suc, ◌≤◌, List, [], ◌∷◌, ◌++◌, length, Bool, true, false, cond, Option, Some, None, refl, sym, ap, subst, ◌∙◌, arith, Bor, option_copied}
use Rattle.std.specs.Prelude.{map, reverse, ◌||◌, ◌^◌, ◌-◌, min, nat_lt, is_some, IfSome, IsTrue}
use Rattle.std.specs.List.{list_any}
use Rattle.std.proofs.lemmas.Bool.Decides.{nat_tests}
use Rattle.std.proofs.lemmas.List.{reverse-append}
use Rattle.std.proofs.lemmas.List.Folds.{list_any-append}
use Rattle.ocm_entry.specs.Proper.{is_short}
use Rattle.ocm_entry.specs.declared.entries.Entry.{Entry}
use Rattle.ocm_entry.specs.declared.rows.User.{User}
use Rattle.ocm_entry.specs.declared.rows.Share.{Share}
use Rattle.ocm_rules.specs.History.{changes, kept}
use Rattle.ocm_rules.specs.Numbers.{same_text, added, at_number}
use Rattle.ocm_rules.specs.Shares.{is_used}
use Rattle.ocm_rules_reference.specs.Histories.{ArePlain, AreShort, is_plain}

any_of-texts : {X : Type 0} (text : X → List ℕ) (s : List ℕ) (xs : List X) → list_any (λ t. same_text t s) (map text xs) ≡ list_any (λ x. same_text (text x) s) xs
any_of-texts text s [] = refl
any_of-texts text s (x ∷ xs) = ap (λ any. same_text (text x) s || any) (any_of-texts text s xs)

-- a secret is used where a user or a share has it
pub used_by_either : (users : List User) (shares : List Share) (secret : List ℕ) → is_used users shares secret ≡ (list_any (λ (u : User). same_text u.key secret) users || list_any (λ (m : Share). same_text m.secret secret) shares)
used_by_either users shares secret =
    let keys = any_of-texts (λ (u : User). u.key) secret users in
    let secrets = any_of-texts (λ (m : Share). m.secret) secret shares in
    list_any-append (λ s. same_text s secret) (map (λ (u : User). u.key) users) (map (λ (m : Share). m.secret) shares) ∙ rw (keys, secrets) refl

AreShort-push : (shares : List Share) (share : Share) → AreShort shares → IsTrue (is_short share.root) → AreShort (shares ++ share ∷ [])
AreShort-push [] share own one = (one, tt)
AreShort-push (first ∷ shares) share own one = (own.0, AreShort-push shares share own.1 one)

-- shares with one more that has a short root
pub short_added : (shares : List Share) (share : Option Share) → AreShort shares → IfSome share (λ s. IsTrue (is_short s.root)) → AreShort (added shares share)
short_added shares None all one = all
short_added shares (Some share) all one = AreShort-push shares share all one

short_get : (shares : List Share) (i : ℕ) → AreShort shares → IfSome (at_number shares (suc i)) (λ share. IsTrue (is_short share.root))
short_get [] i own = tt
short_get (share ∷ shares) zero own = own.0
short_get (share ∷ shares) (suc i) own = short_get shares i own.1

-- the root of the share of a number is short
pub short_found : (shares : List Share) (i : ℕ) → AreShort shares → IfSome (at_number shares i) (λ share. IsTrue (is_short share.root))
short_found shares zero own = tt
short_found shares (suc i) own = short_get shares i own

-- the newest stands first where a list is turned round
pub newest_first : {X : Type 0} (older : List X) (x : X) → reverse (older ++ x ∷ []) ≡ x ∷ reverse older
newest_first older x = reverse-append older (x ∷ [])

plain-step : (b : Bool) (e : Entry) (entries : List Entry) → IsTrue (is_plain e.ask) → ArePlain entries → ArePlain (cond b (e ∷ entries) entries)
plain-step true e entries one all = (one, all)
plain-step false e entries one all = all

-- what is kept of plain entries is plain
pub kept_are_plain : (host : List ℕ) (g : List Entry) → ArePlain g → ArePlain (kept host g)
kept_are_plain host [] all = tt
kept_are_plain host (e ∷ before) all = plain-step (changes host (kept host before) e) e (kept host before) all.0 (kept_are_plain host before all.1)

few-step : (b : Bool) (e : Entry) (entries : List Entry) (n : ℕ) → length entries ≤ n → length (cond b (e ∷ entries) entries) ≤ suc n
few-step true e entries n h = omega arith
few-step false e entries n h = omega arith

-- no more is kept than there is
pub kept_are_few : (host : List ℕ) (g : List Entry) → length (kept host g) ≤ length g
kept_are_few host [] = omega arith
kept_are_few host (e ∷ before) = few-step (changes host (kept host before) e) e (kept host before) (length before) (kept_are_few host before)

-- a sum that stops at the largest number passes the limit where the sum itself does
pub over_all_files : (t : ℕ) → nat_lt 268435456 (min t (2 ^ 64 - 1)) ≡ nat_lt 268435456 t
over_all_files t = grind (arith, nat_tests)

-- what holds of what is found holds of it where it is lent
pub each_lent : (P : Share → Type 0) (lent : Option (Bor Share)) (found : Option Share) → option_copied lent ≡ found → IfSome found P → IfSome lent (λ share. P share.now)
each_lent P None found e h = tt
each_lent P (Some share) found e h = let Q : Option Share → Type 0 = λ o. IfSome o P in subst Q (sym e) h

-- what is lent is there where what it is lent of is
pub there_lent : {X : Type 0} (o : Option (Bor X)) → is_some o ≡ is_some (option_copied o)
there_lent None = refl
there_lent (Some x) = refl
