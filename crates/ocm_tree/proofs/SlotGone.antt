use Rattle.std.proofs.Common.{◌≡◌, ℕ, zero, suc, ◌+◌, ◌-◌, ◌≤◌, [], ◌∷◌, get_or, slice_set, Bool, true, false, cond, refl, sym, ap, ◌∙◌, arith}
use Rattle.std.specs.Prelude.{Option, Some, None, option_map, is_some, sum_by, if◌then◌else◌}
use Rattle.std.specs.HashMap as hash
use Rattle.std.proofs.lemmas.List.Sums.{sum_by-cons}
use Rattle.ocm_entry.specs.declared.rows.Place.{Place}
use Rattle.ocm_entry.specs.declared.rows.Standing.{Standing}
use Rattle.ocm_entry.specs.declared.rows.Node.{Node}
use Rattle.ocm_rules.specs.Files.{same_place, parent_of, size_of, total_size, child_count}
use Rattle.ocm_rules.specs.State.{node_at, EachOnce}
use Rattle.ocm_rules.proofs.Lists.{not_both}
use Rattle.ocm_rules.proofs.Places.{same_place-equal, same_place-refl}
use Rattle.ocm_tree.specs.Tables.{Index, Slots, somes, slot_of, counted, IsTable}
use Rattle.ocm_tree.proofs.Slots.{absent-slot}
use Rattle.ocm_tree.proofs.Leaves.{length-ones}

-- a sum once the node of a slot is gone
pub gone-sum : (w : Node → ℕ) (slots : Slots) (i : ℕ) (n : Node) → get_or slots i None ≡ Some n → sum_by w (somes (slice_set slots i None)) + w n ≡ sum_by w (somes slots)
gone-sum w [] i n g = absurd (cc)
gone-sum w (None ∷ slots) zero n g = absurd (cc)
gone-sum w (Some m ∷ slots) zero n g =
    let same : w m ≡ w n = let e : m ≡ n = cc in ap w e in
    let all = sum_by-cons w m (somes slots) in
    omega (arith, all, same)
gone-sum w (None ∷ slots) (suc i) n g = gone-sum w slots i n g
gone-sum w (Some m ∷ slots) (suc i) n g =
    let rest = gone-sum w slots i n g in
    let all = sum_by-cons w m (somes slots) in
    let less = sum_by-cons w m (somes (slice_set slots i None)) in
    omega (arith, rest, all, less)

stands-either : (b : Bool) (s : Standing) (o : Option Standing) → is_some o ≡ true → is_some (if b then Some s else o) ≡ true
stands-either true s o h = refl
stands-either false s o h = h

-- the node of a slot stands
pub slot-stands : (slots : Slots) (i : ℕ) (n : Node) → get_or slots i None ≡ Some n → is_some (node_at (somes slots) n.place) ≡ true
slot-stands [] i n g = absurd (cc)
slot-stands (None ∷ slots) zero n g = absurd (cc)
slot-stands (Some m ∷ slots) zero n g = let e : m ≡ n = cc in rw (e, same_place-refl n.place) refl
slot-stands (None ∷ slots) (suc i) n g = slot-stands slots i n g
slot-stands (Some m ∷ slots) (suc i) n g = stands-either (same_place m.place n.place) m.standing (node_at (somes slots) n.place) (slot-stands slots i n g)

-- what did not stand does not stand once a node is gone
gone-none : (slots : Slots) (i : ℕ) (p : Place) → node_at (somes slots) p ≡ None → node_at (somes (slice_set slots i None)) p ≡ None
gone-none [] i p h = refl
gone-none (None ∷ slots) zero p h = h
gone-none (None ∷ slots) (suc i) p h = gone-none slots i p h
gone-none (Some m ∷ slots) zero p h = by_test (same_place m.place p) h
  where
    by_test : (b : Bool) → (if b then Some m.standing else node_at (somes slots) p) ≡ None → node_at (somes slots) p ≡ None
    by_test true f = absurd (cc)
    by_test false f = f
gone-none (Some m ∷ slots) (suc i) p h = by_test (gone-none slots i p) (same_place m.place p) h
  where
    by_test : (node_at (somes slots) p ≡ None → node_at (somes (slice_set slots i None)) p ≡ None) → (b : Bool) → (if b then Some m.standing else node_at (somes slots) p) ≡ None
        → (if b then Some m.standing else node_at (somes (slice_set slots i None)) p) ≡ None
    by_test rest true f = absurd (cc)
    by_test rest false f = rest f

-- each place stands once, once a node is gone
gone-once : (slots : Slots) (i : ℕ) → EachOnce (somes slots) → EachOnce (somes (slice_set slots i None))
gone-once [] i h = tt
gone-once (None ∷ slots) zero h = h
gone-once (None ∷ slots) (suc i) h = gone-once slots i h
gone-once (Some m ∷ slots) zero h = h.1
gone-once (Some m ∷ slots) (suc i) h = (gone-none slots i m.place h.0, gone-once slots i h.1)

map-cond : (b : Bool) (o : Option ℕ) → option_map (λ k. k + 1) (cond b None o) ≡ cond b None (option_map (λ k. k + 1) o)
map-cond true o = refl
map-cond false o = refl

-- the others keep their slots
gone-slot : (slots : Slots) (i : ℕ) (n : Node) (q : Place) → EachOnce (somes slots) → get_or slots i None ≡ Some n → slot_of (slice_set slots i None) q ≡ cond (same_place n.place q) None (slot_of slots q)
gone-slot [] i n q h g = absurd (cc)
gone-slot (None ∷ slots) zero n q h g = absurd (cc)
gone-slot (None ∷ slots) (suc i) n q h g = ap (λ o. option_map (λ k. k + 1) o) (gone-slot slots i n q h g) ∙ map-cond (same_place n.place q) (slot_of slots q)
gone-slot (Some m ∷ slots) zero n q h g = let e : m ≡ n = cc in by_test e (same_place n.place q) refl
  where
    by_test : m ≡ n → (b : Bool) → same_place n.place q ≡ b → option_map (λ k. k + 1) (slot_of slots q) ≡ cond b None (if same_place m.place q then Some 0 else option_map (λ k. k + 1) (slot_of slots q))
    by_test e true t =
        let here : m.place ≡ q = ap (λ (x : Node). x.place) e ∙ same_place-equal n.place q t in
        let nothing : slot_of slots q ≡ None = absent-slot slots q (rw (← here) h.0) in
        rw nothing refl
    by_test e false t = let away : same_place m.place q ≡ false = ap (λ (x : Node). same_place x.place q) e ∙ t in rw away refl
gone-slot (Some m ∷ slots) (suc i) n q h g =
    by_tests (ap (λ o. option_map (λ k. k + 1) o) (gone-slot slots i n q h.1 g) ∙ map-cond (same_place n.place q) (slot_of slots q)) (same_place m.place q) refl (same_place n.place q) refl
  where
    by_tests : option_map (λ k. k + 1) (slot_of (slice_set slots i None) q) ≡ cond (same_place n.place q) None (option_map (λ k. k + 1) (slot_of slots q)) → (b : Bool) → same_place m.place q ≡ b → (c : Bool) → same_place n.place q ≡ c
        → (if b then Some 0 else option_map (λ k. k + 1) (slot_of (slice_set slots i None) q)) ≡ cond c None (if b then Some 0 else option_map (λ k. k + 1) (slot_of slots q))
    by_tests rest true s true t =
        let here : n.place ≡ m.place = same_place-equal n.place q t ∙ sym (same_place-equal m.place q s) in
        let nothing : is_some (node_at (somes slots) n.place) ≡ false = ap (λ (p : Place). is_some (node_at (somes slots) p)) here ∙ ap is_some h.0 in
        absurd (not_both (is_some (node_at (somes slots) n.place)) (slot-stands slots i n g) nothing)
    by_tests rest true s false t = refl
    by_tests rest false s c t = rest ∙ ap (λ b. cond b None (option_map (λ k. k + 1) (slot_of slots q))) t

-- the table, without what is known of where nodes lie, once the node of a slot is gone
pub gone-IsTable : (root : Standing) (slots : Slots) (i : ℕ) (n : Node) (older_places older_children places children : Index) (count total : ℕ) →
    IsTable root slots older_places older_children count total false → get_or slots i None ≡ Some n →
    ((q : Place) → hash.get same_place places q ≡ cond (same_place n.place q) None (hash.get same_place older_places q)) →
    ((q : Place) → counted (hash.get same_place children q) ≡ counted (hash.get same_place older_children q) - (if same_place (parent_of n.place) q then 1 else 0)) →
    IsTable root (slice_set slots i None) places children (count - 1) (total - size_of n.standing) false
gone-IsTable root slots i n older_places older_children places children count total h g found counts =
    let sizes : total_size (somes (slice_set slots i None)) + size_of n.standing ≡ total_size (somes slots) = gone-sum (λ (m : Node). size_of m.standing) slots i n g in
    let ones = gone-sum (λ m. 1) slots i n g in
    let first = length-ones (somes slots) in
    let second = length-ones (somes (slice_set slots i None)) in
    record {
      at_root = h.at_root;
      once = gone-once slots i h.once;
      found = λ q. found q ∙ ap (λ o. cond (same_place n.place q) None o) (h.found q) ∙ sym (gone-slot slots i n q h.once g);
      counts = λ q.
          let fewer : child_count (somes (slice_set slots i None)) q + (if same_place (parent_of n.place) q then 1 else 0) ≡ child_count (somes slots) q = gone-sum (λ (m : Node). cond (same_place (parent_of m.place) q) 1 0) slots i n g in
          let here = h.counts q in
          counts q ∙ omega (arith, fewer, here);
      adds_up = omega (arith, sizes, h.adds_up);
      counted_up = omega (arith, ones, first, second, h.counted_up);
      few = omega (arith, ones, first, second, h.few);
      light = omega (arith, sizes, h.light);
      lies = λ t. absurd (cc);
    }

-- what is taken of the count and of the sum is there
pub gone-one : (root : Standing) (slots : Slots) (i : ℕ) (n : Node) (places children : Index) (count total : ℕ) (rooted : Bool) → IsTable root slots places children count total rooted → get_or slots i None ≡ Some n → 1 ≤ count
gone-one root slots i n places children count total rooted h g =
    let ones = gone-sum (λ m. 1) slots i n g in
    let first = length-ones (somes slots) in
    omega (arith, ones, first, h.counted_up)

pub gone-bytes : (root : Standing) (slots : Slots) (i : ℕ) (n : Node) (places children : Index) (count total : ℕ) (rooted : Bool) → IsTable root slots places children count total rooted → get_or slots i None ≡ Some n → size_of n.standing ≤ total
gone-bytes root slots i n places children count total rooted h g =
    let sizes : total_size (somes (slice_set slots i None)) + size_of n.standing ≡ total_size (somes slots) = gone-sum (λ (m : Node). size_of m.standing) slots i n g in
    omega (arith, sizes, h.adds_up)
