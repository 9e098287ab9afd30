use Rattle.std.proofs.Common.{◌≡◌, ℕ, zero, suc, ◌+◌, ◌-◌, ◌*◌, ◌≤◌, List, [], ◌∷◌, ◌++◌, length, take, drop, Bool, true, false, not, ◌&&◌, ◌||◌, refl, sym, ap, ◌∙◌, arith}
use Rattle.std.specs.Prelude.{Option, Some, None, filter, sum_by, nat_eq, nat_lt, if◌then◌else◌}
use Rattle.std.specs.List.{list_any}
use Rattle.std.specs.Option.{option_or, IsSomeAnd}
use Rattle.ocm_types.specs.declared.phases.Which.{Which}
use Rattle.ocm_types.specs.declared.phases.Which.TheVariants.{PathLength}
use Rattle.std.proofs.lemmas.Bool.Decides.{nat_tests}
use Rattle.std.proofs.lemmas.List.Sums.{sum_by-cons, sum_by-append}
use Rattle.std.proofs.lemmas.List.{length-drop}
use Rattle.ocm_path.specs.Paths.{Segments, is_root, parent, joined, path_text}
use Rattle.ocm_entry.specs.declared.rows.Place.{Place}
use Rattle.ocm_entry.specs.declared.rows.Node.{Node}
use Rattle.ocm_entry.specs.declared.rows.Standing.{Standing}
use Rattle.ocm_rules.specs.Files.{same_place, is_at_or_above, parent_of, moved, stays, size_of, total_size, child_count, copies, is_too_long, nodes_after, Carried, passed_by, path_limit, limit_of_carry}
use Rattle.ocm_rules.proofs.Places.{same_place-refl, same_place-equal, above-split}
use Rattle.ocm_rules.proofs.Nodes.{copies-one}
use Rattle.ocm_tree.specs.declared.amounts.Amount.{Amount}
use Rattle.ocm_tree.specs.declared.amounts.Amount.TheVariants.{Bytes, Nodes, Siblings}
use Rattle.ocm_tree.specs.Carries.{carried, weight, amount_of, makes_long_path}
use Rattle.ocm_tree.proofs.Removed.{append-nil, length-append}
use Rattle.ocm_tree.proofs.LimitNumbers.{none-within}

-- ---- which copies lie beside the first

length-take-less : (xs : Segments) (k : ℕ) → k ≤ length xs → length (take k xs) ≡ k
length-take-less xs k l = by_list xs k l
  where
    by_list : (ys : Segments) (j : ℕ) → j ≤ length ys → length (take j ys) ≡ j
    by_list [] zero l = refl
    by_list [] (suc j) l = absurd (omega arith)
    by_list (y ∷ ys) zero l = refl
    by_list (y ∷ ys) (suc j) l = let rest = by_list ys j (omega (arith, l)) in omega (arith, rest)

-- a path has a segment more than its parent, if it has one
pub length-parent : (path : Segments) → length (parent path) ≡ length path - 1
length-parent path = length-take-less path (length path - 1) (omega arith)

apart : (a b : Place) → (length a.path ≡ length b.path → ⊥) → same_place a b ≡ false
apart a b differ = by_test (same_place a b) refl
  where
    by_test : (c : Bool) → same_place a b ≡ c → c ≡ false
    by_test true e = absurd (differ (ap (λ (p : Place). length p.path) (same_place-equal a b e)))
    by_test false e = refl

abbrev at_path : ℕ → Segments → Place
at_path user path = record { user = user; path = path }

-- a copy lies beside the first where it is the first, or lies in the root to which the first was copied
pub beside : (user : ℕ) (to rest : Segments) → (nat_eq (length rest) 0 || (nat_eq (length rest) 1 && is_root to)) ≡ same_place (parent_of (at_path user (to ++ rest))) (parent_of (at_path user to))
beside user to [] = sym (ap (λ path. same_place (parent_of (at_path user path)) (parent_of (at_path user to))) (append-nil to) ∙ same_place-refl (parent_of (at_path user to)))
beside user [] (s ∷ []) = sym (same_place-refl (parent_of (at_path user [])))
beside user (t ∷ to) (s ∷ []) =
    let long = length-append (t ∷ to) (s ∷ []) in
    let first = length-parent ((t ∷ to) ++ s ∷ []) in
    let second = length-parent (t ∷ to) in
    let test : (nat_eq (length (s ∷ [])) 0 || (nat_eq (length (s ∷ [])) 1 && is_root (t ∷ to))) ≡ false = grind (arith, nat_tests) in
    test ∙ sym (apart (parent_of (at_path user ((t ∷ to) ++ s ∷ []))) (parent_of (at_path user (t ∷ to))) (λ e. omega (arith, long, first, second, e)))
beside user to (s ∷ r ∷ rest) =
    let long = length-append to (s ∷ r ∷ rest) in
    let first = length-parent (to ++ s ∷ r ∷ rest) in
    let second = length-parent to in
    let test : (nat_eq (length (s ∷ r ∷ rest)) 0 || (nat_eq (length (s ∷ r ∷ rest)) 1 && is_root to)) ≡ false = grind (arith, nat_tests) in
    test ∙ sym (apart (parent_of (at_path user (to ++ s ∷ r ∷ rest))) (parent_of (at_path user to)) (λ e. omega (arith, long, first, second, e)))

or-first : (b c : Bool) → b ≡ true → b ≡ (b || c)
or-first true c e = refl
or-first false c e = absurd (cc)

-- the copy of a place at another is the first where nothing follows
pub beside-first : (from to place : Place) (rest : ℕ) → rest ≡ length place.path - length from.path → rest ≡ 0 → nat_eq rest 0 ≡ same_place (parent_of (moved from to place)) (parent_of to)
beside-first from to place rest is none =
    let long : rest ≡ length (drop (length from.path) place.path) = is ∙ sym (length-drop (length from.path) place.path) in
    or-first (nat_eq rest 0) (nat_eq rest 1 && is_root to.path) (grind (arith, nat_tests))
    ∙ ap (λ k. nat_eq k 0 || (nat_eq k 1 && is_root to.path)) long
    ∙ beside to.user to.path (drop (length from.path) place.path)

-- ---- which copies have too long paths

length-append_bytes : (xs ys : List ℕ) → length (xs ++ ys) ≡ length xs + length ys
length-append_bytes [] ys = omega arith
length-append_bytes (x ∷ xs) ys = let rest = length-append_bytes xs ys in omega (arith, rest)

-- the segments of two paths, one behind the other
pub joined-append : (a b : Segments) → length (joined (a ++ b)) ≡ length (joined a) + length (joined b)
joined-append [] b = omega arith
joined-append (s ∷ a) b =
    let rest = joined-append a b in
    let first = length-append_bytes (47 ∷ s) (joined (a ++ b)) in
    let second = length-append_bytes (47 ∷ s) (joined a) in
    omega (arith, rest, first, second)

-- one segment has a byte more than its name
pub joined-one : (s : List ℕ) → length (joined (s ∷ [])) ≡ 1 + length s
joined-one s = let whole = length-append_bytes (47 ∷ s) [] in omega (arith, whole)

-- the text of a path is as long as its segments, or one byte longer
pub text-bounds : (path : Segments) → (length (joined path) ≤ length (path_text path)) × (length (path_text path) ≤ length (joined path) + 1)
text-bounds [] = (omega arith, omega arith)
text-bounds (s ∷ path) = by_test (is_root (s ∷ path)) (grind (arith, nat_tests))
  where
    by_test : (b : Bool) → b ≡ false → (length (joined (s ∷ path)) ≤ length (if b then 47 ∷ [] else joined (s ∷ path))) × (length (if b then 47 ∷ [] else joined (s ∷ path)) ≤ length (joined (s ∷ path)) + 1)
    by_test true e = absurd (cc)
    by_test false e = (omega arith, omega arith)

same-tests : (b c : Bool) → (b ≡ true → c ≡ true) → (c ≡ true → b ≡ true) → b ≡ c
same-tests true true h k = refl
same-tests true false h k = sym (h refl)
same-tests false true h k = k refl
same-tests false false h k = refl

-- the text of a path is too long where its segments are
pub long-text : (path : Segments) → nat_lt 2048 (length (path_text path)) ≡ nat_lt 2048 (length (joined path))
long-text [] = refl
long-text (s ∷ path) = by_test (is_root (s ∷ path)) (grind (arith, nat_tests))
  where
    by_test : (b : Bool) → b ≡ false → nat_lt 2048 (length (if b then 47 ∷ [] else joined (s ∷ path))) ≡ nat_lt 2048 (length (joined (s ∷ path)))
    by_test true e = absurd (cc)
    by_test false e = refl

-- whether the copy of a node has too long a path, by the lengths of three
pub long-path : (from to place : Place) → is_at_or_above from place ≡ true →
    nat_lt (2048 + length (joined from.path)) (length (joined to.path) + length (joined place.path)) ≡ nat_lt 2048 (length (path_text (moved from to place).path))
long-path from to place inside =
    let rest = drop (length from.path) place.path in
    let whole : length (joined place.path) ≡ length (joined from.path) + length (joined rest) = ap (λ p. length (joined p)) (above-split from place inside).1 ∙ joined-append from.path rest in
    let made = joined-append to.path rest in
    same-tests (nat_lt (2048 + length (joined from.path)) (length (joined to.path) + length (joined place.path))) (nat_lt 2048 (length (joined (to.path ++ rest))))
    (λ t. grind (arith, nat_tests, whole, made)) (λ t. grind (arith, nat_tests, whole, made))
    ∙ sym (long-text (to.path ++ rest))

any-step : (b : Bool) (x : Bool) (rest others : Bool) → others ≡ rest → (if b then (x || others) else others) ≡ ((b && x) || rest)
any-step true x rest others h = ap (λ o. x || o) h
any-step false x rest others h = h

any-if : (b : Bool) (n : Node) (ns : List Node) → list_any is_too_long (if b then n ∷ ns else ns) ≡ (if b then (is_too_long n || list_any is_too_long ns) else list_any is_too_long ns)
any-if true n ns = refl
any-if false n ns = refl

-- whether any copy has too long a path
pub any-too_long : (from to : Place) (ns : List Node) → list_any is_too_long (copies from to ns) ≡ list_any (makes_long_path from to) ns
any-too_long from to [] = refl
any-too_long from to (n ∷ ns) =
    ap (list_any is_too_long) (copies-one from to n ns (is_at_or_above from n.place) refl)
    ∙ any-if (is_at_or_above from n.place) (carried from to n) (copies from to ns)
    ∙ any-step (is_at_or_above from n.place) (is_too_long (carried from to n)) (list_any (makes_long_path from to) ns) (list_any is_too_long (copies from to ns)) (any-too_long from to ns)

-- ---- amounts

sum-if : (w : Node → ℕ) (b : Bool) (n : Node) (ns : List Node) → sum_by w (if b then n ∷ ns else ns) ≡ (if b then w n else 0) + sum_by w ns
sum-if w true n ns = sum_by-cons w n ns
sum-if w false n ns = omega arith

-- an amount of what stays and what is copied is the sum of what each node adds
pub amount-carried : (what : Amount) (from to : Place) (moving : Bool) (ns : List Node) →
    sum_by (weight what to) (filter (stays from to moving) ns) + sum_by (weight what to) (copies from to ns) ≡ sum_by (amount_of what from to moving) ns
amount-carried what from to moving [] = refl
amount-carried what from to moving (n ∷ ns) =
    let rest = amount-carried what from to moving ns in
    let stayed = sum-if (weight what to) (stays from to moving n) n (filter (stays from to moving) ns) in
    let copied = ap (sum_by (weight what to)) (copies-one from to n ns (is_at_or_above from n.place) refl) ∙ sum-if (weight what to) (is_at_or_above from n.place) (carried from to n) (copies from to ns) in
    let all = sum_by-cons (amount_of what from to moving) n ns in
    omega (arith, rest, stayed, copied, all)

-- an amount of the nodes after a copy or move
pub amount-after : (what : Amount) (from to : Place) (moving : Bool) (ns : List Node) →
    sum_by (weight what to) (nodes_after (Some (Carried from to moving)) ns) ≡ sum_by (amount_of what from to moving) ns
amount-after what from to moving ns = sum_by-append (weight what to) (filter (stays from to moving) ns) (copies from to ns) ∙ amount-carried what from to moving ns

-- how many nodes there are is the sum of one for each
pub length-weights : (to : Place) (ns : List Node) → sum_by (weight Nodes to) ns ≡ length ns
length-weights to [] = refl
length-weights to (n ∷ ns) = let rest = length-weights to ns in let all = sum_by-cons (weight Nodes to) n ns in omega (arith, rest, all)

weight-bound : (what : Amount) (to : Place) (n : Node) → weight what to n ≤ size_of n.standing + 1
weight-bound Bytes to n = omega arith
weight-bound Nodes to n = omega arith
weight-bound Siblings to n = by_test (same_place (parent_of n.place) (parent_of to))
  where
    by_test : (b : Bool) → (if b then 1 else 0) ≤ size_of n.standing + 1
    by_test true = omega arith
    by_test false = omega arith

either-bound : (b : Bool) (x most : ℕ) → x ≤ most → (if b then x else 0) ≤ most
either-bound true x most l = l
either-bound false x most l = omega arith

-- no amount is more than twice the bytes and the number of all nodes
pub amount-bound : (what : Amount) (from to : Place) (moving : Bool) (ns : List Node) → sum_by (amount_of what from to moving) ns ≤ 2 * (total_size ns + length ns)
amount-bound what from to moving [] = omega arith
amount-bound what from to moving (n ∷ ns) =
    let rest = amount-bound what from to moving ns in
    let all = sum_by-cons (amount_of what from to moving) n ns in
    let sizes = sum_by-cons (λ (m : Node). size_of m.standing) n ns in
    let stayed = either-bound (stays from to moving n) (weight what to n) (size_of n.standing + 1) (weight-bound what to n) in
    let copied = either-bound (is_at_or_above from n.place) (weight what to (carried from to n)) (size_of n.standing + 1) (weight-bound what to (carried from to n)) in
    omega (arith, rest, all, sizes, stayed, copied)

-- the limit on paths, by the nodes that are copied
pub path_limit-copies : (from to : Place) (ns : List Node) → path_limit (copies from to ns) ≡ (if list_any (makes_long_path from to) ns then Some PathLength else None)
path_limit-copies from to ns = ap (λ b. if b then Some PathLength else None) (any-too_long from to ns)

or-none : (first later : Option Which) → option_or first later ≡ None → (first ≡ None) × (later ≡ None)
or-none None later h = (refl, h)
or-none (Some which) later h = absurd (cc)

none-test : (b : Bool) → (if b then Some PathLength else None) ≡ None → b ≡ false
none-test true h = absurd (cc)
none-test false h = refl

-- where no limit is passed, no copy has too long a path
pub limit_of_carry-paths : (ns : List Node) (from to : Place) (moving : Bool) (o : Option Standing) →
    IsSomeAnd o (λ standing. limit_of_carry ns from to moving standing ≡ None) → list_any (makes_long_path from to) ns ≡ false
limit_of_carry-paths ns from to moving None h = absurd h
limit_of_carry-paths ns from to moving (Some standing) h =
    let after = nodes_after (Some (Carried from to moving)) ns in
    let both = or-none (passed_by after (record { place = to; standing = standing })) (path_limit (copies from to ns)) h in
    none-test (list_any (makes_long_path from to) ns) (sym (path_limit-copies from to ns) ∙ both.1)

-- where no limit is passed, no more nodes stand after a copy or move than may stand
pub limit_of_carry-few : (ns : List Node) (from to : Place) (moving : Bool) (o : Option Standing) →
    IsSomeAnd o (λ standing. limit_of_carry ns from to moving standing ≡ None) → length (nodes_after (Some (Carried from to moving)) ns) ≤ 65536
limit_of_carry-few ns from to moving None h = absurd h
limit_of_carry-few ns from to moving (Some standing) h =
    let after = nodes_after (Some (Carried from to moving)) ns in
    let both = or-none (passed_by after (record { place = to; standing = standing })) (path_limit (copies from to ns)) h in
    (none-within (size_of standing) (total_size after) (length after) (child_count after (parent_of to)) both.0).nodes

-- what passes two tests, one after the other
pub filter-both : {X : Type 0} (p q : X → Bool) (ns : List X) → filter p (filter q ns) ≡ filter (λ n. p n && q n) ns
filter-both p q [] = refl
filter-both p q (n ∷ ns) = by_tests (filter-both p q ns) (p n) refl (q n)
  where
    by_tests : filter p (filter q ns) ≡ filter (λ m. p m && q m) ns → (b : Bool) → p n ≡ b → (c : Bool) →
        filter p (if c then n ∷ filter q ns else filter q ns) ≡ (if (b && c) then n ∷ filter (λ m. p m && q m) ns else filter (λ m. p m && q m) ns)
    by_tests rest true e true = rw e (ap (λ ms. n ∷ ms) rest)
    by_tests rest true e false = rest
    by_tests rest false e true = rw e rest
    by_tests rest false e false = rest

-- what stays at a move is what stays once both places are cleared
pub stays-moving : (from to : Place) (ns : List Node) →
    filter (λ (n : Node). not (is_at_or_above to n.place)) (filter (λ (n : Node). not (is_at_or_above from n.place)) ns) ≡ filter (stays from to true) ns
stays-moving from to ns = filter-both (λ (n : Node). not (is_at_or_above to n.place)) (λ (n : Node). not (is_at_or_above from n.place)) ns

-- tests that agree pass the same
pub filter-alike : {X : Type 0} (p q : X → Bool) → ((n : X) → p n ≡ q n) → (ns : List X) → filter p ns ≡ filter q ns
filter-alike p q h [] = refl
filter-alike p q h (n ∷ ns) = rw (h n, filter-alike p q h ns) refl

pub and-true : (b : Bool) → b ≡ (b && true)
and-true true = refl
and-true false = refl

-- what stays at a copy is what stays once the second place is cleared
pub stays-copying : (from to : Place) (ns : List Node) → filter (λ (n : Node). not (is_at_or_above to n.place)) ns ≡ filter (stays from to false) ns
stays-copying from to ns = filter-alike (λ (n : Node). not (is_at_or_above to n.place)) (stays from to false) (λ n. and-true (not (is_at_or_above to n.place))) ns
