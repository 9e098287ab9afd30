use Rattle.std.proofs.Common.{◌≡◌, ℕ, ◌+◌, List, [], ◌∷◌, ◌++◌, length, Bool, true, false, cond, not, Option, Some, None, refl, sym, ap, subst, ◌∙◌, arith}
use Rattle.std.proofs.Math.Bool.{beq}
use Rattle.std.specs.Prelude.{◌&&◌, ◌||◌, is_some}
use Rattle.std.specs.Bool.{Decides}
use Rattle.std.specs.Cmp.{booleans_Decides}
use Rattle.std.proofs.lemmas.Bool.Decides.{Decides-and, Decides-like}
use Rattle.std.proofs.lemmas.Slice.Eq.{bytes_eq-Decides}
use Rattle.ocm_types.specs.declared.addresses.Address.{Address}
use Rattle.ocm_types.specs.declared.letters.Offer.{Offer}
use Rattle.ocm_types.specs.declared.rights.Rights.{Rights}
use Rattle.ocm_rules.specs.Numbers.{same_text, number_from, number_of}
use Rattle.ocm_rules.specs.Equal.{same_address, same_rights, same_offer}
use Rattle.ocm_incoming.specs.declared.rows.Mark.{Mark}
use Rattle.ocm_incoming.specs.declared.rows.Record.{Record}
use Rattle.ocm_incoming.specs.declared.plans.OfferKey.{OfferKey}
use Rattle.ocm_incoming.specs.Keys.{same_mark, key_of, same_key}
use Rattle.ocm_incoming.specs.Lists.{offers_of}
use Rattle.ocm_incoming.specs.Index.{keys_of}

-- ---- keys that compare equal exactly where they are the same

pub text-Decides : (a b : List ℕ) → Decides (same_text a b) (a ≡ b)
text-Decides a b = bytes_eq-Decides a b

abbrev address_by : List ℕ → List ℕ → Address
address_by user host = record { user = user; host = host }

address_by-equal : (u v h k : List ℕ) → u ≡ v → h ≡ k → address_by u h ≡ address_by v k
address_by-equal u v h k e f = rw (e, f) refl

pub address-Decides : (a b : Address) → Decides (same_address a b) (a ≡ b)
address-Decides a b =
    let both = Decides-and (same_text a.user b.user) (same_text a.host b.host) (text-Decides a.user b.user) (text-Decides a.host b.host) in
    let from : (a.user ≡ b.user) × (a.host ≡ b.host) → a ≡ b = λ e. address_by-equal a.user b.user a.host b.host e.0 e.1 in
    let to : a ≡ b → (a.user ≡ b.user) × (a.host ≡ b.host) = λ e. (ap (λ (p : Address). p.user) e, ap (λ (p : Address). p.host) e) in
    Decides-like (same_address a b) from to both

abbrev mark_by : List ℕ → List ℕ → Mark
mark_by id secret = record { id = id; secret = secret }

mark_by-equal : (u v h k : List ℕ) → u ≡ v → h ≡ k → mark_by u h ≡ mark_by v k
mark_by-equal u v h k e f = rw (e, f) refl

pub mark-Decides : (a b : Mark) → Decides (same_mark a b) (a ≡ b)
mark-Decides a b =
    let both = Decides-and (same_text a.id b.id) (same_text a.secret b.secret) (text-Decides a.id b.id) (text-Decides a.secret b.secret) in
    let from : (a.id ≡ b.id) × (a.secret ≡ b.secret) → a ≡ b = λ e. mark_by-equal a.id b.id a.secret b.secret e.0 e.1 in
    let to : a ≡ b → (a.id ≡ b.id) × (a.secret ≡ b.secret) = λ e. (ap (λ (p : Mark). p.id) e, ap (λ (p : Mark). p.secret) e) in
    Decides-like (same_mark a b) from to both

abbrev key_by : Address → List ℕ → List ℕ → Address → Address → List ℕ → Bool → Bool → Bool → OfferKey
key_by with name id owner sender secret read write share = record { with = with; name = name; id = id; owner = owner; sender = sender; secret = secret; read = read; write = write; share = share }

key_by-equal : (a b : OfferKey) → a.with ≡ b.with → a.name ≡ b.name → a.id ≡ b.id → a.owner ≡ b.owner → a.sender ≡ b.sender → a.secret ≡ b.secret → a.read ≡ b.read → a.write ≡ b.write → a.share ≡ b.share → key_by a.with a.name a.id a.owner a.sender a.secret a.read a.write a.share ≡ key_by b.with b.name b.id b.owner b.sender b.secret b.read b.write b.share
key_by-equal a b e1 e2 e3 e4 e5 e6 e7 e8 e9 = rw (e1, e2, e3, e4, e5, e6, e7, e8, e9) refl

-- what two keys have in common, field by field
abbrev AreAlike : OfferKey → OfferKey → Type 0
AreAlike a b = (a.with ≡ b.with) × ((a.name ≡ b.name) × ((a.id ≡ b.id) × ((a.owner ≡ b.owner) × ((a.sender ≡ b.sender) × ((a.secret ≡ b.secret) × ((a.read ≡ b.read) × ((a.write ≡ b.write) × (a.share ≡ b.share))))))))

pub key-Decides : (a b : OfferKey) → Decides (same_key a b) (a ≡ b)
key-Decides a b =
    let d8 = Decides-and _ _ (booleans_Decides a.write b.write) (booleans_Decides a.share b.share) in
    let d7 = Decides-and _ _ (booleans_Decides a.read b.read) d8 in
    let d6 = Decides-and _ _ (text-Decides a.secret b.secret) d7 in
    let d5 = Decides-and _ _ (address-Decides a.sender b.sender) d6 in
    let d4 = Decides-and _ _ (address-Decides a.owner b.owner) d5 in
    let d3 = Decides-and _ _ (text-Decides a.id b.id) d4 in
    let d2 = Decides-and _ _ (text-Decides a.name b.name) d3 in
    let d1 = Decides-and _ _ (address-Decides a.with b.with) d2 in
    let from : AreAlike a b → a ≡ b = λ e. key_by-equal a b e.0 e.1.0 e.1.1.0 e.1.1.1.0 e.1.1.1.1.0 e.1.1.1.1.1.0 e.1.1.1.1.1.1.0 e.1.1.1.1.1.1.1.0 e.1.1.1.1.1.1.1.1 in
    let to : a ≡ b → AreAlike a b = λ e. (ap (λ (k : OfferKey). k.with) e, (ap (λ (k : OfferKey). k.name) e, (ap (λ (k : OfferKey). k.id) e, (ap (λ (k : OfferKey). k.owner) e, (ap (λ (k : OfferKey). k.sender) e, (ap (λ (k : OfferKey). k.secret) e, (ap (λ (k : OfferKey). k.read) e, (ap (λ (k : OfferKey). k.write) e, ap (λ (k : OfferKey). k.share) e)))))))) in
    Decides-like (same_key a b) from to d1

-- whether two things are the same does not depend on their order
Decides-sym : {X : Type 0} (eq : X → X → Bool) → ((a b : X) → Decides (eq a b) (a ≡ b)) → (a b : X) → eq a b ≡ eq b a
Decides-sym eq dec a b =
    elim (eq a b) as (λ t. eq a b ≡ t → t ≡ eq b a) [
      | true ↦ λ t. sym ((dec b a).1 (sym ((dec a b).0 t)))
      | false ↦ λ t.
          elim (eq b a) as (λ u. eq b a ≡ u → false ≡ u) [
            | true ↦ λ u. sym t ∙ (dec a b).1 (sym ((dec b a).0 u))
            | false ↦ λ u. refl
          ] refl
    ] refl

beq-within : (a b : Bool) → beq a b ≡ ((not b || a) && (not a || b))
beq-within true true = refl
beq-within true false = refl
beq-within false true = refl
beq-within false false = refl

and-pairs : (p1 p2 p3 q1 q2 q3 : Bool) → ((p1 && q1) && (p2 && q2) && (p3 && q3)) ≡ ((p1 && p2 && p3) && (q1 && q2 && q3))
and-pairs true true true q1 q2 q3 = refl
and-pairs false p2 p3 q1 q2 q3 = refl
and-pairs true false p3 true q2 q3 = refl
and-pairs true false p3 false q2 q3 = refl
and-pairs true true false true true q3 = refl
and-pairs true true false true false q3 = refl
and-pairs true true false false q2 q3 = refl

and-group : (a b c d e f g : Bool) → (a && (b && (c && (d && (e && (f && g)))))) ≡ (a && b && c && d && e && f && g)
and-group true true true true true true g = refl
and-group true true true true true false g = refl
and-group true true true true false f g = refl
and-group true true true false e f g = refl
and-group true true false d e f g = refl
and-group true false c d e f g = refl
and-group false b c d e f g = refl

and-left : (a b c : Bool) → (a && (b && c)) ≡ (a && b && c)
and-left true b c = refl
and-left false b c = refl

-- permissions are the same where each right is held by both or by none
same_rights-each : (a b : Rights) → (beq b.read a.read && (beq b.write a.write && beq b.share a.share)) ≡ same_rights a b
same_rights-each a b =
    let read = beq-within b.read a.read in
    let write = beq-within b.write a.write in
    let share = beq-within b.share a.share in
    and-left (beq b.read a.read) (beq b.write a.write) (beq b.share a.share) ∙ rw (read, write, share) (and-pairs (not a.read || b.read) (not a.write || b.write) (not a.share || b.share) (not b.read || a.read) (not b.write || a.write) (not b.share || a.share))

-- offers say the same exactly where they are equal in each field
pub same_key-offer : (a b : Offer) → same_key (key_of b) (key_of a) ≡ same_offer a b
same_key-offer a b =
    let with = Decides-sym same_address address-Decides b.with a.with in
    let owner = Decides-sym same_address address-Decides b.owner a.owner in
    let sender = Decides-sym same_address address-Decides b.sender a.sender in
    let name = Decides-sym same_text text-Decides b.name a.name in
    let id = Decides-sym same_text text-Decides b.id a.id in
    let secret = Decides-sym same_text text-Decides b.secret a.secret in
    let rights = same_rights-each a.perms b.perms in
    rw (with, owner, sender, name, id, secret, rights) (and-group (same_address a.with b.with) (same_text a.name b.name) (same_text a.id b.id) (same_address a.owner b.owner) (same_address a.sender b.sender) (same_text a.secret b.secret) (same_rights a.perms b.perms))

number_from-offers : (offer : Offer) (n : ℕ) (rows : List Record) → number_from (λ o. same_key o (key_of offer)) n (keys_of rows) ≡ number_from (same_offer offer) n (offers_of rows)
number_from-offers offer n [] = refl
number_from-offers offer n (r ∷ rows) =
    let one = same_key-offer offer r.offer in
    let rest = number_from-offers offer (n + 1) rows in
    rw (one, rest) refl

-- the first that says the same is the first equal offer
pub first_same : (offer : Offer) (rows : List Record) → number_of (λ o. same_key o (key_of offer)) (keys_of rows) ≡ number_of (same_offer offer) (offers_of rows)
first_same offer rows = number_from-offers offer 1 rows

-- ---- one more at the end

-- what the first option holds, or else what the second does
abbrev pub or_else : {X : Type 0} → Option X → Option X → Option X
or_else None o = o
or_else (Some x) o = Some x

number_from-step : (b : Bool) (n : ℕ) (longer shorter last : Option ℕ) → longer ≡ or_else shorter last → cond b (Some n) longer ≡ or_else (cond b (Some n) shorter) last
number_from-step true n longer shorter last e = refl
number_from-step false n longer shorter last e = e

-- the first that passes in a list with one more at its end
pub number_from-push : {X : Type 0} (p : X → Bool) (n : ℕ) (xs : List X) (x : X) (last : ℕ) → last ≡ n + length xs → number_from p n (xs ++ x ∷ []) ≡ or_else (number_from p n xs) (cond (p x) (Some last) None)
number_from-push p n [] x last e = let same : n ≡ last = omega arith in ap (λ m. cond (p x) (Some m) None) same
number_from-push p n (y ∷ ys) x last e = number_from-step (p y) n _ _ _ (number_from-push p (n + 1) ys x last (omega arith))

newest : (b : Bool) (number : ℕ) (at old : Option ℕ) → (b ≡ true → at ≡ old) → cond (b && not (is_some at)) (Some number) old ≡ or_else old (cond b (Some number) None)
newest true number at old h = rw (h refl) (new-only old)
  where
    new-only : (o : Option ℕ) → cond (not (is_some o)) (Some number) o ≡ or_else o (Some number)
    new-only None = refl
    new-only (Some i) = refl
newest false number at None h = refl
newest false number at (Some i) h = refl

-- an index in which one more key was noted, unless it was there
pub noted : {K : Type 0} (eq : K → K → Bool) → ((a b : K) → Decides (eq a b) (a ≡ b)) → (ks : List K) (k q : K) (number : ℕ) (at old new : Option ℕ) → number ≡ length ks + 1 → at ≡ number_of (λ j. eq j k) ks → old ≡ number_of (λ j. eq j q) ks → new ≡ cond (eq k q && not (is_some at)) (Some number) old → new ≡ number_of (λ j. eq j q) (ks ++ k ∷ [])
noted {K} eq dec ks k q number at old new n a o e =
    let pushed = number_from-push (λ j. eq j q) 1 ks k number (omega arith) in
    let found : eq k q ≡ true → at ≡ old = λ t.
    let P : K → Type 0 = λ x. at ≡ number_of (λ j. eq j x) ks in
    subst P ((dec k q).0 t) a ∙ sym o in
    e ∙ (newest (eq k q) number at old found ∙ (ap (λ x. or_else x (cond (eq k q) (Some number) None)) o ∙ sym pushed))
