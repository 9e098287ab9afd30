use Rattle.std.proofs.Common.{◌≡◌, ℕ, zero, suc, ◌+◌, ◌<◌, ◌≤◌, [], ◌∷◌, length, drop, get_or, Bool, true, false, refl, sym, ap, ◌∙◌, arith}
use Rattle.std.specs.Prelude.{Option, Some, None, option_map, is_some, if◌then◌else◌}
use Rattle.std.specs.Option.{option_or}
use Rattle.std.specs.HashMap as hash
use Rattle.std.specs.HashMap.{spare}
use Rattle.std.proofs.Math.Seq.{drop-cons}
use Rattle.ocm_entry.specs.declared.rows.Place.{Place}
use Rattle.ocm_entry.specs.declared.rows.Node.{Node}
use Rattle.ocm_rules.specs.Files.{same_place}
use Rattle.ocm_rules.proofs.Places.{same_place-refl}
use Rattle.ocm_tree.specs.Tables.{Index, Slots, slot_of}

-- the places of the nodes in the slots from this number on are numbered anew, and the others have their older numbers
pub record IsNumberedFrom (slots : Slots) (older places : Index) (left : ℕ) : Type 0 where
  pub within : left ≤ length slots
  pub no_less_room : spare older ≤ spare places
  pub numbers : (place : Place) → hash.get same_place places place ≡ option_or (option_map (λ i. i + left) (slot_of (drop left slots) place)) (hash.get same_place older place)

drop-next : (slots : Slots) (left i : ℕ) (s d : Option Node) → suc i ≡ left → left ≤ length slots → get_or slots i d ≡ s → drop i slots ≡ s ∷ drop left slots
drop-next slots left i s d e l g =
    let below : i < length slots = omega arith in
    rw (← e) (drop-cons slots i d below ∙ ap (λ x. x ∷ drop (suc i) slots) g)

added-to : (i left : ℕ) (o : Option ℕ) → suc i ≡ left → option_map (λ k. k + i) (option_map (λ k. k + 1) o) ≡ option_map (λ k. k + left) o
added-to i left None e = refl
added-to i left (Some k) e = ap Some (omega arith)

-- an empty slot has no number
pub numbered-none : (slots : Slots) (older places : Index) (left i : ℕ) (d : Option Node) → IsNumberedFrom slots older places left → suc i ≡ left → get_or slots i d ≡ None → IsNumberedFrom slots older places i
numbered-none slots older places left i d h e g = record {
  within = omega (arith, h.within);
  no_less_room = h.no_less_room;
  numbers = λ place.
      h.numbers place
      ∙ ap (λ o. option_or o (hash.get same_place older place))
      (sym (ap (λ l. option_map (λ k. k + i) (slot_of l place)) (drop-next slots left i None d e h.within g) ∙ added-to i left (slot_of (drop left slots) place) e));
}

some-or : (b : Bool) (i left : ℕ) (o : Option ℕ) (p : Option ℕ) → suc i ≡ left →
    (if b then Some i else option_or (option_map (λ k. k + left) o) p) ≡ option_or (option_map (λ k. k + i) (if b then Some 0 else option_map (λ k. k + 1) o)) p
some-or true i left o p e = ap Some (omega arith)
some-or false i left o p e = ap (λ x. option_or x p) (sym (added-to i left o e))

-- the node of a slot has the slot's number
pub numbered-some : (slots : Slots) (older places after : Index) (left i : ℕ) (d : Option Node) (n : Node) → IsNumberedFrom slots older places left → suc i ≡ left → get_or slots i d ≡ Some n →
    ((place : Place) → hash.get same_place after place ≡ (if same_place n.place place then Some i else hash.get same_place places place)) → spare places ≤ spare after → IsNumberedFrom slots older after i
numbered-some slots older places after left i d n h e g put room = record {
  within = omega (arith, h.within);
  no_less_room = omega (arith, h.no_less_room, room);
  numbers = λ place.
      put place
      ∙ ap (λ o. if same_place n.place place then Some i else o) (h.numbers place)
      ∙ some-or (same_place n.place place) i left (slot_of (drop left slots) place) (hash.get same_place older place) e
      ∙ ap (λ l. option_or (option_map (λ k. k + i) (slot_of l place)) (hash.get same_place older place)) (sym (drop-next slots left i (Some n) d e h.within g));
}

or-known : (o p : Option ℕ) → is_some p ≡ is_some o → option_or (option_map (λ i. i + 0) o) p ≡ o
or-known None None h = refl
or-known None (Some i) h = absurd (cc)
or-known (Some i) p h = ap Some (omega arith)

-- all are numbered anew
pub numbered-all : (slots : Slots) (older places : Index) (left : ℕ) → IsNumberedFrom slots older places left → left ≡ 0 →
    ((place : Place) → is_some (hash.get same_place older place) ≡ is_some (slot_of slots place)) → (place : Place) → hash.get same_place places place ≡ slot_of slots place
numbered-all slots older places left h e known place =
    h.numbers place
    ∙ ap (λ k. option_or (option_map (λ i. i + k) (slot_of (drop k slots) place)) (hash.get same_place older place)) e
    ∙ or-known (slot_of slots place) (hash.get same_place older place) (known place)

some-step : (b : Bool) (inner : Option ℕ) → is_some inner ≡ true → is_some (if b then Some 0 else option_map (λ i. i + 1) inner) ≡ true
some-step true inner h = refl
some-step false None h = h
some-step false (Some i) h = refl

mapped-some : (o : Option ℕ) → is_some o ≡ true → is_some (option_map (λ i. i + 1) o) ≡ true
mapped-some None h = h
mapped-some (Some i) h = refl

-- the place of a node has a slot
slot_of-some : (slots : Slots) (i : ℕ) (d : Option Node) (n : Node) → i < length slots → get_or slots i d ≡ Some n → is_some (slot_of slots n.place) ≡ true
slot_of-some [] i d n l g = absurd (omega arith)
slot_of-some (Some m ∷ slots) zero d n l g = let same : m ≡ n = cc in rw (same, same_place-refl n.place) refl
slot_of-some (None ∷ slots) zero d n l g = absurd (cc)
slot_of-some (None ∷ slots) (suc i) d n l g = mapped-some (slot_of slots n.place) (slot_of-some slots i d n (omega arith) g)
slot_of-some (Some m ∷ slots) (suc i) d n l g = some-step (same_place m.place n.place) (slot_of slots n.place) (slot_of-some slots i d n (omega arith) g)

or-some : (first later : Option ℕ) → is_some later ≡ true → is_some (option_or first later) ≡ true
or-some None later h = h
or-some (Some i) later h = refl

-- the place of a node keeps a number from step to step
pub numbered-known : (slots : Slots) (older places : Index) (left i : ℕ) (d : Option Node) (n : Node) → IsNumberedFrom slots older places left →
    ((place : Place) → is_some (hash.get same_place older place) ≡ is_some (slot_of slots place)) → suc i ≡ left → get_or slots i d ≡ Some n → is_some (hash.get same_place places n.place) ≡ true
numbered-known slots older places left i d n h known e g =
    ap is_some (h.numbers n.place)
    ∙ or-some (option_map (λ k. k + left) (slot_of (drop left slots) n.place)) (hash.get same_place older n.place) (known n.place ∙ slot_of-some slots i d n (omega (arith, h.within)) g)
