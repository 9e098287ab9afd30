use Rattle.std.proofs.Common.{◌≡◌, ℕ, suc, ◌<◌, ◌≤◌, List, [], ◌∷◌, length, Bool, true, false, not, refl, sym, ap, ◌∙◌, subst, get_or, arith}
use Rattle.std.specs.Prelude.{filter, map, if◌then◌else◌, ⊤}
use Rattle.std.specs.Ordering.{is_lt, nat_cmp}
use Rattle.std.specs.Cmp.{IsStrictWeakOrder}
use Rattle.std.specs.Cmp.Lexicographic.{slice_cmp, nat_list_cmp_total}
use Rattle.std.specs.List.Sorted.{IsSortedBy, IsStableBy, ties}
use Rattle.std.proofs.lemmas.List.Sorted.{ranks_by, sorted_far}
use Rattle.ocm_entry.specs.declared.listings.DavChild.{DavChild}
use Rattle.ocm_entry.specs.declared.rows.Node.{Node}
use Rattle.ocm_rules.specs.Files.{is_before, in_order}
use Rattle.ocm_rules.proofs.Lists.{not_both, both_pass}
use Rattle.ocm_tree.specs.Listing.{child_of, name_of, put_child, in_order_of_names}
use Rattle.ocm_tree.proofs.Listed.{is_lt-names, put_child-map}

-- whether a child's name comes before that of another
abbrev pub before : DavChild → DavChild → Bool
before a b = is_before (name_of a) (name_of b)

-- whether a child's name compares as less than that of another
abbrev pub less : DavChild → DavChild → Bool
less a b = is_lt (slice_cmp nat_cmp (name_of a) (name_of b))

less-before : less ≡ before
less-before = λ i a b. is_lt-names (name_of a) (name_of b) i

-- names stand in an order
pub order-names : IsStrictWeakOrder before
order-names = subst IsStrictWeakOrder less-before (ranks_by nat_list_cmp_total name_of)

-- no child of these has a name before that of one
NoneBefore : DavChild → List DavChild → Type 0
NoneBefore child [] = ⊤
NoneBefore child (other ∷ others) = (before other child ≡ false) × NoneBefore child others

IsOrdered : List DavChild → Type 0
IsOrdered [] = ⊤
IsOrdered (child ∷ others) = NoneBefore child others × IsOrdered others

-- ---- one child put in order

none-put : (child new : DavChild) (others : List DavChild) → NoneBefore child others → before new child ≡ false → NoneBefore child (put_child new others)
unfolding NoneBefore
none-put child new [] none away = (away, tt)
none-put child new (other ∷ others) none away = by_test (none-put child new others none.1 away) (before other new)
  where
    by_test : NoneBefore child (put_child new others) → (b : Bool) → NoneBefore child (if b then other ∷ put_child new others else new ∷ other ∷ others)
    by_test rest true = (none.0, rest)
    by_test rest false = (away, none)

none-further : (child new : DavChild) (others : List DavChild) → NoneBefore child others → before child new ≡ false → NoneBefore new others
unfolding NoneBefore
none-further child new [] none away = tt
none-further child new (other ∷ others) none away = (order-names.chain other child new none.0 away, none-further child new others none.1 away)

ordered-put : (new : DavChild) (children : List DavChild) → IsOrdered children → IsOrdered (put_child new children)
unfolding NoneBefore IsOrdered
ordered-put new [] h = (tt, tt)
ordered-put new (child ∷ others) h = by_test (ordered-put new others h.1) (before child new) refl
  where
    by_test : IsOrdered (put_child new others) → (b : Bool) → before child new ≡ b → IsOrdered (if b then child ∷ put_child new others else new ∷ child ∷ others)
    by_test rest true e = (none-put child new others h.0 (order-names.one_way child new e), rest)
    by_test rest false e = ((e, none-further child new others h.0 e), h)

ordered-names : (children : List DavChild) → IsOrdered (in_order_of_names children)
unfolding IsOrdered
ordered-names [] = tt
ordered-names (child ∷ others) = ordered-put child (in_order_of_names others) (ordered-names others)

no-test : (b : Bool) → not b ≡ true → b ≡ false
no-test true h = sym h
no-test false h = refl

-- of two that tie neither comes before the other
tied : (a b : DavChild) → ties before a b ≡ true → (before a b ≡ false) × (before b a ≡ false)
tied a b h = let both = both_pass (not (before a b)) (not (before b a)) h in (no-test (before a b) both.0, no-test (before b a) both.1)

-- the children that tie with one, after one more is put in order
stable-put : (of new : DavChild) (children : List DavChild) → filter (ties before of) (put_child new children) ≡ filter (ties before of) (new ∷ children)
stable-put of new [] = refl
stable-put of new (child ∷ others) = by_test (stable-put of new others) (before child new) refl (ties before of child) refl (ties before of new) refl
  where
    rest : List DavChild
    rest = filter (ties before of) others

    by_test : filter (ties before of) (put_child new others) ≡ (if ties before of new then new ∷ rest else rest) → (b : Bool) → before child new ≡ b → (c : Bool) → ties before of child ≡ c → (d : Bool) → ties before of new ≡ d →
        filter (ties before of) (if b then child ∷ put_child new others else new ∷ child ∷ others) ≡ (if d then new ∷ (if c then child ∷ rest else rest) else (if c then child ∷ rest else rest))
    by_test h true e true f true g = absurd (not_both (before child new) e (order-names.chain child of new (tied of child f).1 (tied of new g).0))
    by_test h true e true f false g = rw (f, h, g) refl
    by_test h true e false f true g = rw (f, h, g) refl
    by_test h true e false f false g = rw (f, h, g) refl
    by_test h false e c f d g = rw (g, f) refl

stable-names : (of : DavChild) (children : List DavChild) → filter (ties before of) (in_order_of_names children) ≡ filter (ties before of) children
stable-names of [] = refl
stable-names of (child ∷ others) =
    stable-put of child (in_order_of_names others) ∙ ap (λ l. if ties before of child then child ∷ l else l) (stable-names of others)

-- ---- one order alone

itself : (child : DavChild) → before child child ≡ false
itself child = by_test (before child child) refl
  where
    by_test : (b : Bool) → before child child ≡ b → b ≡ false
    by_test true e = sym e ∙ order-names.one_way child child e
    by_test false e = refl

ties-itself : (child : DavChild) → ties before child child ≡ true
ties-itself child = rw (itself child) refl

-- where one of the children ties with another child, that one does not come before the first
first-least : (first of : DavChild) (children : List DavChild) → NoneBefore first children → (x : DavChild) (xs : List DavChild) → filter (ties before of) children ≡ x ∷ xs → before of first ≡ false
unfolding NoneBefore
first-least first of [] none x xs h = absurd (cc)
first-least first of (child ∷ others) none x xs h = by_test (first-least first of others none.1 x xs) (ties before of child) refl h
  where
    by_test : (filter (ties before of) others ≡ x ∷ xs → before of first ≡ false) → (b : Bool) → ties before of child ≡ b → (if b then child ∷ filter (ties before of) others else filter (ties before of) others) ≡ x ∷ xs → before of first ≡ false
    by_test later true e g = order-names.chain of child first (tied of child e).0 none.0
    by_test later false e g = later g

own-first : (child : DavChild) (others : List DavChild) → filter (ties before child) (child ∷ others) ≡ child ∷ filter (ties before child) others
own-first child others = rw (ties-itself child) refl

heads : (a b : DavChild) (xs ys : List DavChild) → a ∷ xs ≡ b ∷ ys → a ≡ b
heads a b xs ys h = cc

tails : (b : Bool) (a : DavChild) (xs ys : List DavChild) → (if b then a ∷ xs else xs) ≡ (if b then a ∷ ys else ys) → xs ≡ ys
tails true a xs ys h = cc
tails false a xs ys h = h

-- ordered children that stand alike wherever they tie are the same
alike : (ys zs : List DavChild) → IsOrdered ys → IsOrdered zs → ((of : DavChild) → filter (ties before of) ys ≡ filter (ties before of) zs) → ys ≡ zs
unfolding NoneBefore IsOrdered
alike [] [] h k same = refl
alike [] (z ∷ zs) h k same = let e = same z ∙ own-first z zs in absurd (cc)
alike (y ∷ ys) [] h k same = let e = sym (own-first y ys) ∙ same y in absurd (cc)
alike (y ∷ ys) (z ∷ zs) h k same =
    let later = first-least z y (z ∷ zs) (itself z, k.0) y (filter (ties before y) ys) (sym (same y) ∙ own-first y ys) in
    let earlier = first-least y z (y ∷ ys) (itself y, h.0) z (filter (ties before z) zs) (same z ∙ own-first z zs) in
    let tie : ties before y z ≡ true = rw (later, earlier) refl in
    let second : filter (ties before y) (z ∷ zs) ≡ z ∷ filter (ties before y) zs = rw tie refl in
    let head : y ≡ z = heads y z (filter (ties before y) ys) (filter (ties before y) zs) (sym (own-first y ys) ∙ same y ∙ second) in
    let rest : (of : DavChild) → filter (ties before of) ys ≡ filter (ties before of) zs =
    λ of. tails (ties before of y) y (filter (ties before of) ys) (filter (ties before of) zs) (same of ∙ ap (λ (w : DavChild). if ties before of w then w ∷ filter (ties before of) zs else filter (ties before of) zs) (sym head)) in
    ap (λ l. y ∷ l) (alike ys zs h.1 k.1 rest) ∙ ap (λ w. w ∷ zs) head

-- ---- what a sort leaves

none-from : (child : DavChild) (others : List DavChild) → ((i : ℕ) (d : DavChild) → i < length others → before (get_or others i d) child ≡ false) → NoneBefore child others
unfolding NoneBefore
none-from child [] far = tt
none-from child (other ∷ others) far = (far 0 other (omega arith), none-from child others (λ i d l. far (suc i) d (omega (arith, l))))

ordered-from : (children : List DavChild) → ((i j : ℕ) (d : DavChild) → i ≤ j → j < length children → before (get_or children j d) (get_or children i d) ≡ false) → IsOrdered children
unfolding IsOrdered
ordered-from [] far = tt
ordered-from (child ∷ others) far =
    (none-from child others (λ i d l. far 0 (suc i) d (omega arith) (omega (arith, l))), ordered-from others (λ i j d l m. far (suc i) (suc j) d (omega (arith, l)) (omega (arith, m))))

-- a stable sort by names puts children in the order of their names
pub sorted-names : (older sorted : List DavChild) → IsSortedBy before sorted → IsStableBy before older sorted → sorted ≡ in_order_of_names older
sorted-names older sorted up stable =
    alike sorted (in_order_of_names older) (ordered-from sorted (sorted_far before order-names sorted up)) (ordered-names older) (λ of. stable of ∙ sym (stable-names of older))

-- the order of the children is that of the nodes
pub in_order-map : (ns : List Node) → in_order_of_names (map child_of ns) ≡ map child_of (in_order ns)
in_order-map [] = refl
in_order-map (n ∷ ns) = ap (put_child (child_of n)) (in_order-map ns) ∙ put_child-map n (in_order ns)

-- the order in which names compare is a strict one
pub order-less : IsStrictWeakOrder less
order-less = ranks_by nat_list_cmp_total name_of

-- what a stable sort leaves that compares names
pub sorted-by_names : (older sorted : List DavChild) → IsSortedBy less sorted → IsStableBy less older sorted → sorted ≡ in_order_of_names older
sorted-by_names older sorted up stable = sorted-names older sorted (subst (λ lt. IsSortedBy lt sorted) less-before up) (subst (λ lt. IsStableBy lt older sorted) less-before stable)
