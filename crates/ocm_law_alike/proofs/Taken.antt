-- What is gathered of nodes in any order is the same of all nodes that stand alike.
use Rattle.std.proofs.Common.{◌≡◌, List, [], ◌∷◌, Bool, true, false, not, refl, sym, ap, ◌∙◌}
use Rattle.std.specs.Prelude.{Option, Some, None, filter, if◌then◌else◌}
use Rattle.ocm_path.specs.Paths.{is_root}
use Rattle.ocm_entry.specs.declared.rows.Place.{Place}
use Rattle.ocm_entry.specs.declared.rows.Node.{Node}
use Rattle.ocm_entry.specs.declared.rows.Standing.{Standing}
use Rattle.ocm_rules.specs.Files.{same_place}
use Rattle.ocm_rules.specs.State.{node_at, EachOnce}
use Rattle.ocm_rules.proofs.Places.{same_place-equal, same_place-refl}
use Rattle.ocm_rules.proofs.Nodes.{node_at-filter, by_place}
use Rattle.ocm_rules.proofs.Once.{once-filter, other-way}

-- no node is a user's root
pub record IsRootless (ns : List Node) : Type 0 where
  pub none : (place : Place) → is_root place.path ≡ true → node_at ns place ≡ None

-- the same stands at each place, each place stands once, and none of them is a root
pub record StandAlike (ns others : List Node) : Type 0 where
  pub once : EachOnce ns
  pub apart : EachOnce others
  pub rootless : IsRootless others
  pub same : (place : Place) → node_at ns place ≡ node_at others place

-- the others without the node at a place
abbrev elsewhere : Place → List Node → List Node
elsewhere there others = filter (by_place (λ p. not (same_place there p))) others

elsewhere-at : (there : Place) (others : List Node) (place : Place) → same_place there place ≡ false → node_at (elsewhere there others) place ≡ node_at others place
elsewhere-at there others place h = node_at-filter (λ p. not (same_place there p)) others place ∙ rw h refl

nothing-elsewhere : (there : Place) (others : List Node) (place : Place) → same_place there place ≡ true → node_at (elsewhere there others) place ≡ None
nothing-elsewhere there others place h = node_at-filter (λ p. not (same_place there p)) others place ∙ rw h refl

none-either : (b : Bool) (o : Option Standing) → o ≡ None → (if b then o else None) ≡ None
none-either true o h = h
none-either false o h = refl

rootless-elsewhere : (there : Place) (others : List Node) → IsRootless others → IsRootless (elsewhere there others)
rootless-elsewhere there others h = record { none = λ place root. node_at-filter (λ p. not (same_place there p)) others place ∙ none-either (not (same_place there place)) (node_at others place) (h.none place root) }

-- where nothing stands, all stand elsewhere
all-elsewhere : (there : Place) (others : List Node) → node_at others there ≡ None → elsewhere there others ≡ others
all-elsewhere there [] h = refl
all-elsewhere there (n ∷ ns) h = by_test (all-elsewhere there ns) (same_place n.place there) refl h
  where
    by_test : (node_at ns there ≡ None → elsewhere there ns ≡ ns) → (b : Bool) → same_place n.place there ≡ b → (if b then Some n.standing else node_at ns there) ≡ None → elsewhere there (n ∷ ns) ≡ n ∷ ns
    by_test rest true k g = absurd (cc)
    by_test rest false k g = rw (other-way n.place there k) (ap (λ l. n ∷ l) (rest g))

-- ---- nodes that stand are below the roots

off-root : (place : Place) (others : List Node) (standing : Standing) → IsRootless others → node_at others place ≡ Some standing → is_root place.path ≡ false
off-root place others standing rootless h = by_test (is_root place.path) refl
  where
    by_test : (b : Bool) → is_root place.path ≡ b → b ≡ false
    by_test true k = absurd (let none = rootless.none place k in let both : None ≡ Some standing = sym none ∙ h in cc)
    by_test false k = refl

head-stands : (m : Node) (ms : List Node) → node_at (m ∷ ms) m.place ≡ Some m.standing
head-stands m ms = rw (same_place-refl m.place) refl

head-rootless : (m : Node) (ms : List Node) → IsRootless (m ∷ ms) → is_root m.place.path ≡ false
head-rootless m ms h = off-root m.place (m ∷ ms) m.standing h (head-stands m ms)

-- without the first, the others are rootless too
tail-rootless : (m : Node) (ms : List Node) → IsRootless (m ∷ ms) → IsRootless ms
tail-rootless m ms h = record { none = λ place root. by_test place (same_place m.place place) (h.none place root) }
  where
    by_test : (place : Place) (b : Bool) → (if b then Some m.standing else node_at ms place) ≡ None → node_at ms place ≡ None
    by_test place true g = absurd (cc)
    by_test place false g = g

-- ---- nodes that are taken one by one

-- a way to gather nodes one by one, in which two of different places below the roots can change their order
pub record IsGathered {A : Type 0} (gather : List Node → A) (more : Node → A → A) : Type 0 where
  pub cons : (n : Node) (ns : List Node) → gather (n ∷ ns) ≡ more n (gather ns)
  pub swap : (a b : Node) (x : A) → same_place a.place b.place ≡ false → is_root a.place.path ≡ false → is_root b.place.path ≡ false → more a (more b x) ≡ more b (more a x)

node-same : (m n : Node) → m.place ≡ n.place → m.standing ≡ n.standing → m ≡ n
node-same m n e f = λ i. record { place = e i; standing = f i }

some-same : (a b : Standing) → Some a ≡ Some b → a ≡ b
some-same a b h = cc

-- a node that stands among others can be taken first
taken-first : {A : Type 0} (gather : List Node → A) (more : Node → A → A) → IsGathered gather more → (n : Node) (others : List Node) → EachOnce others → IsRootless others
    → node_at others n.place ≡ Some n.standing → gather others ≡ more n (gather (elsewhere n.place others))
taken-first gather more way n [] once rootless h = absurd (cc)
taken-first gather more way n (m ∷ ms) once rootless h = by_test (taken-first gather more way n ms once.1 (tail-rootless m ms rootless)) (same_place m.place n.place) refl h
  where
    by_test : (node_at ms n.place ≡ Some n.standing → gather ms ≡ more n (gather (elsewhere n.place ms))) → (b : Bool) → same_place m.place n.place ≡ b → (if b then Some m.standing else node_at ms n.place) ≡ Some n.standing
        → gather (m ∷ ms) ≡ more n (gather (elsewhere n.place (m ∷ ms)))
    by_test further true k g =
        let e : m ≡ n = node-same m n (same_place-equal m.place n.place k) (some-same m.standing n.standing g) in
        let rest : elsewhere n.place (m ∷ ms) ≡ ms = ap (λ (k : Node). elsewhere k.place (m ∷ ms)) (sym e) ∙ rw (same_place-refl m.place) (all-elsewhere m.place ms once.0) in
        way.cons m ms ∙ ap (λ a. more a (gather ms)) e ∙ ap (λ l. more n (gather l)) (sym rest)
    by_test further false k g =
        let front : elsewhere n.place (m ∷ ms) ≡ m ∷ elsewhere n.place ms = rw (other-way m.place n.place k) refl in
        let below : is_root n.place.path ≡ false = off-root n.place (m ∷ ms) n.standing rootless h in
        way.cons m ms ∙ ap (more m) (further g) ∙ way.swap m n (gather (elsewhere n.place ms)) k (head-rootless m ms rootless) below
        ∙ ap (more n) (sym (way.cons m (elsewhere n.place ms)) ∙ ap gather (sym front))

none-left : (others : List Node) → ((place : Place) → None ≡ node_at others place) → others ≡ []
none-left [] h = refl
none-left (n ∷ ns) h = absurd (let both : None ≡ Some n.standing = h n.place ∙ head-stands n ns in cc)

-- what is left of nodes that stand alike, once the first is taken
left-alike : (n : Node) (ns others : List Node) → StandAlike (n ∷ ns) others → StandAlike ns (elsewhere n.place others)
left-alike n ns others h = record {
  once = h.once.1;
  apart = once-filter (λ p. not (same_place n.place p)) others h.apart;
  rootless = rootless-elsewhere n.place others h.rootless;
  same = λ place. by_test place (same_place n.place place) refl (h.same place);
}
  where
    by_test : (place : Place) (b : Bool) → same_place n.place place ≡ b → (if b then Some n.standing else node_at ns place) ≡ node_at others place → node_at ns place ≡ node_at (elsewhere n.place others) place
    by_test place true k g =
        let nothing : node_at ns place ≡ None = ap (node_at ns) (sym (same_place-equal n.place place k)) ∙ h.once.0 in
        nothing ∙ sym (nothing-elsewhere n.place others place k)
    by_test place false k g = g ∙ sym (elsewhere-at n.place others place k)

-- what is gathered of nodes is the same of others that stand alike
pub gathered-alike : {A : Type 0} (gather : List Node → A) (more : Node → A → A) → IsGathered gather more → (ns others : List Node) → StandAlike ns others → gather ns ≡ gather others
gathered-alike gather more way [] others h = ap gather (sym (none-left others h.same))
gathered-alike gather more way (n ∷ ns) others h =
    way.cons n ns ∙ ap (more n) (gathered-alike gather more way ns (elsewhere n.place others) (left-alike n ns others h))
    ∙ sym (taken-first gather more way n others h.apart h.rootless (sym (h.same n.place) ∙ head-stands n ns))
