-- The numbers that lead from a share up to its owner are its links.
use Rattle.std.proofs.Common.{◌≡◌, ℕ, zero, suc, ◌+◌, ◌<◌, ◌≤◌, List, [], ◌∷◌, ◌++◌, length, Bool, true, false, refl, sym, ap, ◌∙◌, subst, arith}
use Rattle.std.specs.Prelude.{Option, Some, None, nat_eq, nat_le, not, ◌&&◌, ◌||◌, if◌then◌else◌, is_some, reverse}
use Rattle.std.specs.List.{list_all, AllByRecursion}
use Rattle.std.specs.Option.{option_map_or}
use Rattle.std.proofs.lemmas.Bool.{eqb-true, eqb-false, leb-false, lt-leb}
use Rattle.std.proofs.lemmas.List.{length-append, length-reverse, reverse-append, reverse-reverse}
use Rattle.ocm_types.specs.declared.rights.Rights.{Rights}
use Rattle.ocm_types.specs.Rights.{all_rights, both}
use Rattle.ocm_entry.specs.declared.asks.Method.TheVariants as methods
use Rattle.ocm_entry.specs.declared.entries.Entry.{Entry}
use Rattle.ocm_entry.specs.declared.rows.Share.{Share}
use Rattle.ocm_rules.specs.Numbers.{at_number}
use Rattle.ocm_rules.specs.Shares.{effective, goes_on, is_closed, is_live, is_over, links, links_among, made, moment, permitted, perms, until}
use Rattle.ocm_rules.specs.History.{IsAnswered}
use Rattle.ocm_law_grants.proofs.Links.{both_true, at_number-behind, within-at_number}
use Rattle.ocm_law_grants.proofs.Permissions.{at_number-last, at_number-length}
use Rattle.ocm_law_grants.proofs.Chains.{Chained, chained-all}
use Rattle.ocm_law_served.specs.Requests.{FileRequest, Dav, Carry, suffices}
use Rattle.ocm_law_served.specs.Links.{IsOpen, IsOpenChain, LeadsUp, all_grant}

-- a number at which a share stands is not 0
at_number-low : (ms : List Share) (i : ℕ) (m : Share) → at_number ms i ≡ Some m → 1 ≤ i
at_number-low ms i m is = (within-at_number ms i (ap is_some is)).0

-- ---- a share without a parent has no other link

-- the same, where this is the list with the newest first
alone-among : (xs : List Share) (i : ℕ) (m : Share) → at_number (reverse xs) i ≡ Some m → m.parent ≡ None → links_among xs i ≡ i ∷ []
alone-among [] i m is none =
    let high = at_number-length [] i m is in
    let low = at_number-low [] i m is in
    absurd (omega arith)
alone-among (x ∷ older) i m is none = by_test (nat_eq i (length older + 1)) refl (alone-among older i m)
  where
    turned : at_number (reverse older ++ x ∷ []) i ≡ Some m
    turned = let P : List Share → Type 0 = λ xs. at_number xs i ≡ Some m in subst P (reverse-append (x ∷ []) older) is

    by_test : (b : Bool) → nat_eq i (length older + 1) ≡ b → (at_number (reverse older) i ≡ Some m → m.parent ≡ None → links_among older i ≡ i ∷ [])
        → (if b then i ∷ option_map_or (links_among older) x.parent [] else links_among older i) ≡ i ∷ []
    by_test true e again =
        let l = length-reverse older in
        let n = eqb-true i (length older + 1) e in
        let last : i ≡ length (reverse older) + 1 = omega arith in
        let P : ℕ → Type 0 = λ j. at_number (reverse older ++ x ∷ []) j ≡ Some m in
        let found : Some x ≡ Some m = sym (at_number-last (reverse older) x) ∙ subst P last turned in
        let same : x ≡ m = cc in
        let none_here : x.parent ≡ None = ap (λ (s : Share). s.parent) same ∙ none in
        ap (λ (o : Option ℕ). i ∷ option_map_or (links_among older) o []) none_here
    by_test false e again =
        let l = length-reverse older in
        let other = eqb-false i (length older + 1) e in
        let high = at_number-length (reverse older ++ x ∷ []) i m turned in
        let longer = length-append (reverse older) (x ∷ []) in
        let le : i ≤ length (reverse older) = omega arith in
        again (sym (at_number-behind (reverse older) x i le) ∙ turned) none

links-alone : (ms : List Share) (i : ℕ) (m : Share) → at_number ms i ≡ Some m → m.parent ≡ None → links ms i ≡ i ∷ []
links-alone ms i m is none =
    let P : List Share → Type 0 = λ xs. at_number xs i ≡ Some m in
    alone-among (reverse ms) i m (subst P (sym (reverse-reverse ms)) is) none

-- ---- the links lead up, and nothing else does

links-lead : (ms : List Share) → Chained ms → (owner n i : ℕ) (m : Share) → i ≤ n → at_number ms i ≡ Some m → m.owner ≡ owner → LeadsUp ms owner (Some i) (links ms i)
links-lead ms chained owner zero i m le is own = let low = at_number-low ms i m is in absurd (omega arith)
links-lead ms chained owner (suc n) i m le is own = by_parent m.parent refl (λ p q lt at same. links-lead ms chained owner n p q (omega arith) at same)
  where
    Leads : List ℕ → Type 0
    Leads l = LeadsUp ms owner (Some i) l

    by_parent : (o : Option ℕ) → m.parent ≡ o → ((p : ℕ) (q : Share) → p < i → at_number ms p ≡ Some q → q.owner ≡ owner → LeadsUp ms owner (Some p) (links ms p)) → LeadsUp ms owner (Some i) (links ms i)
    by_parent None e again =
        let P : List ℕ → Type 0 = λ l. LeadsUp ms owner (Some i) l in
        let Q : Option ℕ → Type 0 = λ o. LeadsUp ms owner o [] in
        subst P (sym (links-alone ms i m is e)) (refl, m, is, own, subst Q (sym e) tt)
    by_parent (Some p) e again =
        let r = chained i m is p e in
        let P : List ℕ → Type 0 = λ l. LeadsUp ms owner (Some i) l in
        let Q : Option ℕ → Type 0 = λ o. LeadsUp ms owner o (links ms p) in
        subst P (sym r.4) (refl, m, is, own, subst Q (sym e) (again p r.0 r.2 r.1 (sym r.3.0 ∙ own)))

pub leads-up : (host : List ℕ) (g : List Entry) (i : ℕ) (m : Share) → IsAnswered host g → at_number (made host g) i ≡ Some m → LeadsUp (made host g) m.owner (Some i) (links (made host g) i)
leads-up host g i m answered is = links-lead (made host g) (chained-all host g answered) m.owner i i m (omega arith) is refl

-- two lists that lead up from the same share are the same
leads-once : (ms : List Share) (owner other : ℕ) (first : Option ℕ) (chain more : List ℕ) → LeadsUp ms owner first chain → LeadsUp ms other first more → chain ≡ more
leads-once ms owner other None [] [] h k = refl
leads-once ms owner other None [] (j ∷ more) h k = absurd k
leads-once ms owner other None (i ∷ above) more h k = absurd h
leads-once ms owner other (Some first) [] more h k = absurd h
leads-once ms owner other (Some first) (i ∷ above) [] h k = absurd k
leads-once ms owner other (Some first) (i ∷ above) (j ∷ more) h k =
    let found : Some h.1 ≡ Some k.1 = sym h.2 ∙ k.2 in
    let row : h.1 ≡ k.1 = cc in
    let P : Share → Type 0 = λ x. LeadsUp ms other x.parent more in
    let tail : above ≡ more = leads-once ms owner other h.1.parent above more h.4 (subst P (sym row) k.4) in
    let head : i ≡ j = h.0 ∙ sym k.0 in
    cc

-- the share at which a list begins that leads up
leads-there : (ms : List Share) (owner i : ℕ) (chain : List ℕ) → LeadsUp ms owner (Some i) chain → (m : Share) × (at_number ms i ≡ Some m)
leads-there ms owner i [] h = absurd h
leads-there ms owner i (j ∷ above) h = (h.1, h.2)

pub leads-links : (host : List ℕ) (g : List Entry) (owner i : ℕ) (chain : List ℕ) → IsAnswered host g → LeadsUp (made host g) owner (Some i) chain → chain ≡ links (made host g) i
leads-links host g owner i chain answered h =
    let there = leads-there (made host g) owner i chain h in
    leads-once (made host g) owner there.0.owner (Some i) chain (links (made host g) i) h (leads-up host g i there.0 answered there.1)

-- ---- open links

not_yes : (b : Bool) → not b ≡ true → b ≡ false
not_yes true h = absurd (cc)
not_yes false h = refl

goes_on-open : (g : List Entry) (i : ℕ) → goes_on g i ≡ true → IsOpen g i
goes_on-open g i h =
    let r = both_true (not (is_closed g i)) (not (is_over g i)) h in
    (not_yes (is_closed g i) r.0, λ end is. ahead end is (not_yes (is_over g i) r.1))
  where
    ahead : (end : ℕ) → until g i ≡ Some end → is_over g i ≡ false → moment g < end
    ahead end is h =
        let P : Option ℕ → Type 0 = λ o. option_map_or (λ e. nat_le e (moment g)) o false ≡ false in
        leb-false end (moment g) (subst P is h)

open-goes_on : (g : List Entry) (i : ℕ) → IsOpen g i → goes_on g i ≡ true
open-goes_on g i h = rw (h.0, ahead (until g i) refl) refl
  where
    ahead : (o : Option ℕ) → until g i ≡ o → option_map_or (λ e. nat_le e (moment g)) (until g i) false ≡ false
    ahead None e = ap (λ (o : Option ℕ). option_map_or (λ e. nat_le e (moment g)) o false) e
    ahead (Some end) e = ap (λ (o : Option ℕ). option_map_or (λ e. nat_le e (moment g)) o false) e ∙ lt-leb end (moment g) (h.1 end e)

all-open : (g : List Entry) (chain : List ℕ) → list_all (goes_on g) chain ≡ true → AllByRecursion (IsOpen g) chain
all-open g [] h = tt
all-open g (i ∷ above) h =
    let r = both_true (goes_on g i) (list_all (goes_on g) above) h in
    (goes_on-open g i r.0, all-open g above r.1)

all-go_on : (g : List Entry) (chain : List ℕ) → AllByRecursion (IsOpen g) chain → list_all (goes_on g) chain ≡ true
all-go_on g [] h = refl
all-go_on g (i ∷ above) h = rw (open-goes_on g i h.0, all-go_on g above h.1) refl

-- a live share has a chain of open links
pub live-open : (host : List ℕ) (g : List Entry) (i : ℕ) (m : Share) → IsAnswered host g → at_number (made host g) i ≡ Some m → is_live host g i ≡ true → IsOpenChain host g i m (links (made host g) i)
live-open host g i m answered is live =
    let r = both_true (is_some (at_number (made host g) i)) (list_all (goes_on g) (links (made host g) i)) live in
    (is, leads-up host g i m answered is, all-open g (links (made host g) i) r.1)

-- a share with a chain of open links is live
pub open-live : (host : List ℕ) (g : List Entry) (i : ℕ) (m : Share) (chain : List ℕ) → IsAnswered host g → IsOpenChain host g i m chain → is_live host g i ≡ true
open-live host g i m chain answered h =
    let P : List ℕ → Type 0 = λ l. AllByRecursion (IsOpen g) l in
    let all : AllByRecursion (IsOpen g) (links (made host g) i) = subst P (leads-links host g m.owner i chain answered h.1) h.2 in
    rw (h.0, all-go_on g (links (made host g) i) all) refl

-- ---- what the links grant

carry-both : (w u moving r s : Bool) → ((w && u) && (moving || (r && s))) ≡ ((w && (moving || r)) && (u && (moving || s)))
carry-both false u moving r s = refl
carry-both true false moving r s = last (moving || r)
  where
    last : (b : Bool) → false ≡ (b && false)
    last true = refl
    last false = refl
carry-both true true true r s = refl
carry-both true true false r s = refl

suffices-both : (request : FileRequest) (a b : Rights) → suffices request (both a b) ≡ (suffices request a && suffices request b)
suffices-both (Dav methods.Get path body) a b = refl
suffices-both (Dav methods.Head path body) a b = refl
suffices-both (Dav methods.List0 path body) a b = refl
suffices-both (Dav methods.List1 path body) a b = refl
suffices-both (Dav methods.Put path body) a b = refl
suffices-both (Dav methods.Delete path body) a b = refl
suffices-both (Dav methods.Mkcol path body) a b = refl
suffices-both (Carry from to moving overwrite) a b = carry-both a.write b.write moving a.read b.read

pub suffices-all : (request : FileRequest) → suffices request all_rights ≡ true
suffices-all (Dav methods.Get path body) = refl
suffices-all (Dav methods.Head path body) = refl
suffices-all (Dav methods.List0 path body) = refl
suffices-all (Dav methods.List1 path body) = refl
suffices-all (Dav methods.Put path body) = refl
suffices-all (Dav methods.Delete path body) = refl
suffices-all (Dav methods.Mkcol path body) = refl
suffices-all (Carry from to true overwrite) = refl
suffices-all (Carry from to false overwrite) = refl

suffices-permitted : (host : List ℕ) (g : List Entry) (request : FileRequest) (chain : List ℕ) → suffices request (permitted (perms host g) chain) ≡ all_grant host g request chain
suffices-permitted host g request [] = suffices-all request
suffices-permitted host g request (i ∷ above) =
    suffices-both request (perms host g i) (permitted (perms host g) above)
    ∙ ap (λ b. suffices request (perms host g i) && b) (suffices-permitted host g request above)

-- what a share lets its guest do suffices where each of its links grants
pub suffices-chain : (host : List ℕ) (g : List Entry) (owner i : ℕ) (chain : List ℕ) (request : FileRequest) → IsAnswered host g → LeadsUp (made host g) owner (Some i) chain → suffices request (effective host g i) ≡ all_grant host g request chain
suffices-chain host g owner i chain request answered h =
    suffices-permitted host g request (links (made host g) i)
    ∙ ap (all_grant host g request) (sym (leads-links host g owner i chain answered h))
