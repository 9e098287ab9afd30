use Rattle.std.proofs.Common.{◌≡◌, ℕ, zero, suc, ◌+◌, ◌<◌, List, [], ◌∷◌, ◌++◌, length, map, get_or, slice_set, Bool, true, false, not, refl, sym, ap, ◌∙◌, arith}
use Rattle.std.specs.Prelude.{Option, Some, None, is_some, filter, option_map, if◌then◌else◌}
use Rattle.ocm_entry.specs.declared.rows.Place.{Place}
use Rattle.ocm_entry.specs.declared.rows.Node.{Node}
use Rattle.ocm_rules.specs.Files.{same_place, is_at_or_above, parent_of}
use Rattle.ocm_rules.proofs.Places.{same_place-equal}
use Rattle.ocm_tree.specs.Tables.{Slots, somes, slot_of, cleared}
use Rattle.ocm_tree.specs.Orders.{numbers_where}
use Rattle.ocm_tree.specs.Standings.{numbers_in}
use Rattle.ocm_tree.specs.Listing.{listed, lies_in}
use Rattle.ocm_tree.specs.Tags.{parent_tag, tag_of}
use Rattle.ocm_tree.proofs.Slots.{shifted, somes-cleared, somes-filter, somes-push}
use Rattle.ocm_tree.proofs.SlotNumbers.{cleared-in, closed-in, more-in, push-in, somes-more}

map-more : {X Y : Type 0} (f : X → Y) (xs ys : List X) → map f (xs ++ ys) ≡ map f xs ++ map f ys
map-more f [] ys = refl
map-more f (x ∷ xs) ys = ap (λ l. f x ∷ l) (map-more f xs ys)

where-map : {X : Type 0} (p : X → Bool) (g : X → ℕ) (xs : List X) → numbers_where p xs (map g xs) ≡ map g (filter p xs)
where-map p g [] = refl
where-map p g (x ∷ xs) = by_test (where-map p g xs) (p x)
  where
    by_test : numbers_where p xs (map g xs) ≡ map g (filter p xs) → (b : Bool) → (if b then g x ∷ numbers_where p xs (map g xs) else numbers_where p xs (map g xs)) ≡ map g (if b then x ∷ filter p xs else filter p xs)
    by_test rest true = ap (λ l. g x ∷ l) rest
    by_test rest false = rest

-- the tags once nothing stands any more at a place and below it
pub tags-cleared : (there : Place) (slots : Slots) (tags : List ℕ) → length slots ≡ length tags → numbers_in slots tags ≡ map parent_tag (somes slots) →
    numbers_in (map (cleared there) slots) tags ≡ map parent_tag (somes (map (cleared there) slots))
tags-cleared there slots tags same h =
    let p : Node → Bool = λ n. not (is_at_or_above there n.place) in
    cleared-in there slots tags same
    ∙ (ap (numbers_where p (somes slots)) h ∙ (where-map p parent_tag (somes slots) ∙ sym (ap (map parent_tag) (somes-cleared there slots))))

-- the tags once one more node stands
pub tags-push : (slots : Slots) (tags : List ℕ) (n : Node) (tag : ℕ) → length slots ≡ length tags → tag ≡ parent_tag n → numbers_in slots tags ≡ map parent_tag (somes slots) →
    numbers_in (slots ++ Some n ∷ []) (tags ++ tag ∷ []) ≡ map parent_tag (somes (slots ++ Some n ∷ []))
tags-push slots tags n tag same e h =
    push-in slots tags n tag same
    ∙ (ap (λ l. l ++ tag ∷ []) h ∙ (ap (λ t. map parent_tag (somes slots) ++ t ∷ []) e ∙ (sym (map-more parent_tag (somes slots) (n ∷ [])) ∙ sym (ap (map parent_tag) (somes-push slots n)))))

first-same : (m k : ℕ) (ms ks : List ℕ) → m ∷ ms ≡ k ∷ ks → m ≡ k
first-same m k ms ks h = cc

rest-same : (m k : ℕ) (ms ks : List ℕ) → m ∷ ms ≡ k ∷ ks → ms ≡ ks
rest-same m k ms ks h = cc

-- the tags once a node is in the slot of another
pub tags-set : (slots : Slots) (tags : List ℕ) (n : Node) (i : ℕ) → length slots ≡ length tags → slot_of slots n.place ≡ Some i → numbers_in slots tags ≡ map parent_tag (somes slots) →
    numbers_in (slice_set slots i (Some n)) tags ≡ map parent_tag (somes (slice_set slots i (Some n)))
tags-set [] tags n i same e h = absurd (cc)
tags-set (s ∷ slots) [] n i same e h = absurd (omega arith)
tags-set (None ∷ slots) (t ∷ tags) n i same e h =
    let s = shifted (slot_of slots n.place) i e in
    rw (← s.1.1) (tags-set slots tags n s.0 (omega (arith, same)) s.1.0 h)
tags-set (Some x ∷ slots) (t ∷ tags) n i same e h =
    by_test (λ j f. tags-set slots tags n j (omega (arith, same)) f (rest-same t (parent_tag x) (numbers_in slots tags) (map parent_tag (somes slots)) h)) (same_place x.place n.place) refl e
  where
    tag : t ≡ parent_tag x
    tag = first-same t (parent_tag x) (numbers_in slots tags) (map parent_tag (somes slots)) h

    rest_tags : numbers_in slots tags ≡ map parent_tag (somes slots)
    rest_tags = rest-same t (parent_tag x) (numbers_in slots tags) (map parent_tag (somes slots)) h

    two : (a b : ℕ) (xs ys : List ℕ) → a ≡ b → xs ≡ ys → a ∷ xs ≡ b ∷ ys
    two a b xs ys p q = rw (p, q) refl

    by_test : ((j : ℕ) → slot_of slots n.place ≡ Some j → numbers_in (slice_set slots j (Some n)) tags ≡ map parent_tag (somes (slice_set slots j (Some n)))) → (b : Bool) → same_place x.place n.place ≡ b
        → (if b then Some 0 else option_map (λ k. k + 1) (slot_of slots n.place)) ≡ Some i
        → numbers_in (slice_set (Some x ∷ slots) i (Some n)) (t ∷ tags) ≡ map parent_tag (somes (slice_set (Some x ∷ slots) i (Some n)))
    by_test rest true k f =
        let z : 0 ≡ i = cc in
        let moved : parent_tag x ≡ parent_tag n = ap (λ (p : Place). tag_of (parent_of p)) (same_place-equal x.place n.place k) in
        rw (← z) (two t (parent_tag n) (numbers_in slots tags) (map parent_tag (somes slots)) (tag ∙ moved) rest_tags)
    by_test rest false k f =
        let s = shifted (slot_of slots n.place) i f in
        rw (← s.1.1) (two t (parent_tag x) (numbers_in (slice_set slots s.0 (Some n)) tags) (map parent_tag (somes (slice_set slots s.0 (Some n)))) tag (rest s.0 s.1.0))

-- the tags once the empty slots are gone
pub tags-closed : (slots : Slots) (tags : List ℕ) → length slots ≡ length tags → numbers_in slots tags ≡ map parent_tag (somes slots) →
    numbers_in (filter is_some slots) (numbers_in slots tags) ≡ map parent_tag (somes (filter is_some slots))
tags-closed slots tags same h = closed-in slots tags same ∙ (h ∙ sym (ap (map parent_tag) (somes-filter slots)))

-- the tags once more nodes stand
pub tags-more : (slots : Slots) (tags : List ℕ) (ns : List Node) (more : List ℕ) → length slots ≡ length tags → length ns ≡ length more → more ≡ map parent_tag ns → numbers_in slots tags ≡ map parent_tag (somes slots) →
    numbers_in (slots ++ map (λ (n : Node). Some n) ns) (tags ++ more) ≡ map parent_tag (somes (slots ++ map (λ (n : Node). Some n) ns))
tags-more slots tags ns more same also e h =
    more-in slots tags ns more same also
    ∙ (ap (λ l. l ++ more) h ∙ (ap (λ l. map parent_tag (somes slots) ++ l) e ∙ (sym (map-more parent_tag (somes slots) ns) ∙ sym (ap (map parent_tag) (somes-more slots ns)))))

-- the tag of the node of a slot
tag-at : (slots : Slots) (tags : List ℕ) (i : ℕ) (n : Node) (d : Option Node) → length slots ≡ length tags → numbers_in slots tags ≡ map parent_tag (somes slots) → i < length slots → get_or slots i d ≡ Some n → get_or tags i 0 ≡ parent_tag n
tag-at [] tags i n d same h l e = absurd (omega arith)
tag-at (s ∷ slots) [] i n d same h l e = absurd (omega arith)
tag-at (None ∷ slots) (t ∷ tags) zero n d same h l e = absurd (cc)
tag-at (Some x ∷ slots) (t ∷ tags) zero n d same h l e =
    let x-is : x ≡ n = cc in
    first-same t (parent_tag x) (numbers_in slots tags) (map parent_tag (somes slots)) h ∙ ap parent_tag x-is
tag-at (None ∷ slots) (t ∷ tags) (suc i) n d same h l e = tag-at slots tags i n d (omega (arith, same)) h (omega (arith, l)) e
tag-at (Some x ∷ slots) (t ∷ tags) (suc i) n d same h l e =
    tag-at slots tags i n d (omega (arith, same)) (rest-same t (parent_tag x) (numbers_in slots tags) (map parent_tag (somes slots)) h) (omega (arith, l)) e

-- the node of a slot with another tag lies elsewhere
pub listed-elsewhere : {X : Type 0} (f : Node → X) (place : Place) (slots : Slots) (tags : List ℕ) (i : ℕ) (d : Option Node) → length slots ≡ length tags → numbers_in slots tags ≡ map parent_tag (somes slots) → i < length slots →
    d ≡ get_or slots i d → (get_or tags i 0 ≡ tag_of place → ⊥) → listed f (lies_in place) d ≡ []
listed-elsewhere f place slots tags i None same h l e away = refl
listed-elsewhere f place slots tags i (Some n) same h l e away = by_test (lies_in place n) refl
  where
    by_test : (b : Bool) → lies_in place n ≡ b → (if b then f n ∷ [] else []) ≡ []
    by_test false k = refl
    by_test true k =
        let here : parent_tag n ≡ tag_of place = ap tag_of (same_place-equal (parent_of n.place) place k) in
        absurd (away (tag-at slots tags i n (Some n) same h l (sym e) ∙ here))
