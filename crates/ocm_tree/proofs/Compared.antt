-- As many nodes that all stand among others are those others.
use Rattle.std.proofs.Common.{◌≡◌, ℕ, zero, suc, ◌<◌, List, [], ◌∷◌, length, get_or, Bool, true, false, not, ◌&&◌, refl, sym, ap, ◌∙◌, arith}
use Rattle.std.specs.Prelude.{Option, Some, None, filter, if◌then◌else◌}
use Rattle.std.specs.List.{list_all}
use Rattle.std.specs.Cmp.Lexicographic.{bytes_decides}
use Rattle.ocm_entry.specs.declared.rows.Place.{Place}
use Rattle.ocm_entry.specs.declared.rows.Node.{Node}
use Rattle.ocm_entry.specs.declared.rows.Standing.{Standing}
use Rattle.ocm_entry.specs.declared.rows.Standing.TheVariants.{Collection, File}
use Rattle.ocm_rules.specs.Files.{same_place}
use Rattle.ocm_rules.specs.State.{node_at, EachOnce}
use Rattle.ocm_rules.proofs.Lists.{not_both, both_pass}
use Rattle.ocm_rules.proofs.Places.{same_place-equal, same_place-refl}
use Rattle.ocm_rules.proofs.Nodes.{node_at-filter, by_place}
use Rattle.ocm_rules.proofs.Once.{once-filter, other-way}
use Rattle.ocm_tree.specs.Comparing.{is_same, stands_among}
use Rattle.ocm_tree.specs.Tables.{Slots, somes}

-- what compares the same stands there
same-is : (standing : Standing) (o : Option Standing) → is_same standing o ≡ true → o ≡ Some standing
same-is Collection None h = absurd (cc)
same-is Collection (Some Collection) h = refl
same-is Collection (Some (File other)) h = absurd (cc)
same-is (File body) None h = absurd (cc)
same-is (File body) (Some Collection) h = absurd (cc)
same-is (File body) (Some (File other)) h = ap (λ b. Some (File b)) (sym ((bytes_decides body other).0 h))

-- all of these nodes stand among others
abbrev AreAmong : List Node → List Node → Type 0
AreAmong [] others = Unit {0}
AreAmong (n ∷ ns) others = (node_at others n.place ≡ Some n.standing) × AreAmong ns others

all-among : (slots : Slots) (others : List Node) → list_all (stands_among others) slots ≡ true → AreAmong (somes slots) others
all-among [] others h = tt
all-among (None ∷ slots) others h = all-among slots others h
all-among (Some n ∷ slots) others h =
    let both = both_pass (is_same n.standing (node_at others n.place)) (list_all (stands_among others) slots) h in
    (same-is n.standing (node_at others n.place) both.0, all-among slots others both.1)

-- the others without the node at a place
abbrev elsewhere : Place → List Node → List Node
elsewhere there others = filter (by_place (λ p. not (same_place there p))) others

elsewhere-at : (there : Place) (others : List Node) (place : Place) → same_place there place ≡ false → node_at (elsewhere there others) place ≡ node_at others place
elsewhere-at there others place h = node_at-filter (λ p. not (same_place there p)) others place ∙ rw h refl

-- where nothing stands, all stand elsewhere
all-elsewhere : (there : Place) (others : List Node) → node_at others there ≡ None → elsewhere there others ≡ others
all-elsewhere there [] h = refl
all-elsewhere there (n ∷ ns) h = by_test (all-elsewhere there ns) (same_place n.place there) refl h
  where
    by_test : (node_at ns there ≡ None → elsewhere there ns ≡ ns) → (b : Bool) → same_place n.place there ≡ b → (if b then Some n.standing else node_at ns there) ≡ None → elsewhere there (n ∷ ns) ≡ n ∷ ns
    by_test rest true k g = absurd (cc)
    by_test rest false k g = rw (other-way n.place there k) (ap (λ l. n ∷ l) (rest g))

-- where one stands, all others stand elsewhere
one-less : (there : Place) (others : List Node) (standing : Standing) → EachOnce others → node_at others there ≡ Some standing → length others ≡ suc (length (elsewhere there others))
one-less there [] standing once h = absurd (cc)
one-less there (n ∷ ns) standing once h = by_test (one-less there ns standing once.1) (same_place n.place there) refl h
  where
    by_test : (node_at ns there ≡ Some standing → length ns ≡ suc (length (elsewhere there ns))) → (b : Bool) → same_place n.place there ≡ b → (if b then Some n.standing else node_at ns there) ≡ Some standing → length (n ∷ ns) ≡ suc (length (elsewhere there (n ∷ ns)))
    by_test rest true k g =
        let e : n.place ≡ there = same_place-equal n.place there k in
        let here : elsewhere there (n ∷ ns) ≡ ns = ap (λ p. elsewhere p (n ∷ ns)) (sym e) ∙ rw (same_place-refl n.place) (all-elsewhere n.place ns once.0) in
        ap suc (ap length (sym here))
    by_test rest false k g = rw (other-way n.place there k) (ap suc (rest g))

-- the node at a place aside, the nodes that stand elsewhere stand among the others elsewhere
among-elsewhere : (n : Node) (ns others : List Node) → node_at ns n.place ≡ None → AreAmong ns others → AreAmong ns (elsewhere n.place others)
among-elsewhere n [] others h among = tt
among-elsewhere n (m ∷ ns) others h among = by_test (λ g. among-elsewhere n ns others g among.1) (same_place m.place n.place) refl h
  where
    by_test : (node_at ns n.place ≡ None → AreAmong ns (elsewhere n.place others)) → (b : Bool) → same_place m.place n.place ≡ b → (if b then Some m.standing else node_at ns n.place) ≡ None → AreAmong (m ∷ ns) (elsewhere n.place others)
    by_test rest true k g = absurd (cc)
    by_test rest false k g = (elsewhere-at n.place others m.place (other-way m.place n.place k) ∙ among.0, rest g)

none-left : {X : Type 0} (xs : List X) → 0 ≡ length xs → xs ≡ []
none-left [] h = refl
none-left (x ∷ xs) h = absurd (cc)

less-one : (a b c : ℕ) → suc a ≡ b → b ≡ suc c → a ≡ c
less-one a b c h k = omega (arith, h, k)

pub among-all : (ns others : List Node) → EachOnce ns → EachOnce others → length ns ≡ length others → AreAmong ns others → (place : Place) → node_at ns place ≡ node_at others place
among-all [] others once apart same among place = rw (none-left others same) refl
among-all (n ∷ ns) others once apart same among place =
    by_test (same_place n.place place) refl
    (among-all ns (elsewhere n.place others) once.1 (once-filter (λ p. not (same_place n.place p)) others apart)
    (less-one (length ns) (length others) (length (elsewhere n.place others)) same (one-less n.place others n.standing apart among.0))
    (among-elsewhere n ns others once.0 among.1) place)
  where
    by_test : (b : Bool) → same_place n.place place ≡ b → node_at ns place ≡ node_at (elsewhere n.place others) place → (if b then Some n.standing else node_at ns place) ≡ node_at others place
    by_test true h rest = rw (← (same_place-equal n.place place h)) (sym among.0)
    by_test false h rest = rest ∙ elsewhere-at n.place others place h

-- slots whose nodes all stand among as many others have what stands there
pub alike-from : (slots : Slots) (others : List Node) → EachOnce (somes slots) → EachOnce others → length (somes slots) ≡ length others → list_all (stands_among others) slots ≡ true
    → (place : Place) → node_at (somes slots) place ≡ node_at others place
alike-from slots others once apart same all place = among-all (somes slots) others once apart same (all-among slots others all) place

-- the node of a slot stands at its place
pub slot-stands : (slots : Slots) (i : ℕ) (other : Option Node) (n : Node) → EachOnce (somes slots) → i < length slots → get_or slots i other ≡ Some n → node_at (somes slots) n.place ≡ Some n.standing
slot-stands [] i other n once within e = absurd (omega (arith, within))
slot-stands (None ∷ slots) zero other n once within e = absurd (cc)
slot-stands (None ∷ slots) (suc i) other n once within e = slot-stands slots i other n once (omega (arith, within)) e
slot-stands (Some m ∷ slots) zero other n once within e = ap (λ (k : Node). node_at (m ∷ somes slots) k.place) (sym (node-of m n e)) ∙ rw (same_place-refl m.place) (ap (λ (k : Node). Some k.standing) (node-of m n e))
  where
    node-of : (a b : Node) → Some a ≡ Some b → a ≡ b
    node-of a b h = cc
slot-stands (Some m ∷ slots) (suc i) other n once within e = by_test (slot-stands slots i other n once.1 (omega (arith, within)) e) (same_place m.place n.place) refl
  where
    both : None ≡ Some n.standing → ⊥
    both h = cc

    by_test : node_at (somes slots) n.place ≡ Some n.standing → (b : Bool) → same_place m.place n.place ≡ b → (if b then Some m.standing else node_at (somes slots) n.place) ≡ Some n.standing
    by_test rest true h = absurd (both (sym once.0 ∙ ap (node_at (somes slots)) (same_place-equal m.place n.place h) ∙ rest))
    by_test rest false h = rest
