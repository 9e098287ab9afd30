use Rattle.std.proofs.Common.{◌≡◌, ℕ, zero, suc, ◌+◌, ◌<◌, ◌≤◌, List, [], ◌∷◌, ◌++◌, length, get_or, Bool, true, false, ◌&&◌, cond, leb, refl, sym, ap, ◌∙◌, arith, subst, slice_set, length-append, ◌⊎◌, inl, inr}
use Rattle.std.specs.Prelude.{nat_eq, nat_lt, nat_le, not, filter, count_by}
use Rattle.std.specs.List.{list_any, remove}
use Rattle.std.specs.List.Sorted.{IsNonDecreasingBy, IsPermutation}
use Rattle.std.proofs.lemmas.Bool.Decides.{nat_tests, leb_tells}
use Rattle.std.proofs.lemmas.List.{length-set}
use Rattle.std.proofs.lemmas.List.Sums.{sum_by-cons, sum_by-append}
use Rattle.std.proofs.lemmas.List.Sorted.{IsPermutation-remove, length_permutation, sum_by-IsPermutation}
use Rattle.std.proofs.lemmas.List.Edits.{length-remove, get_or-remove_below, get_or-remove_above}
use Rattle.ocm_rules.proofs.Lists.{both_pass}
use Rattle.ocm_tree.specs.declared.orders.NumberedNode.{NumberedNode}
use Rattle.ocm_tree.specs.Orders.{numbered, is_node, from_number, IsInOrder}
use Rattle.ocm_tree.proofs.Parted.{any-count, any-filter, any-alike, or-later, neither, no-earlier}

-- one where a node passes a test
abbrev pub one : (NumberedNode → Bool) → NumberedNode → ℕ
one p node = cond (p node) 1 0

abbrev pub node_of : ℕ → ℕ → NumberedNode
node_of number index = record { number = number; index = index }

-- how many nodes pass a test once one has another number
pub count-set : (p : NumberedNode → Bool) (from i at number : ℕ) (ns : List ℕ) → i < length ns → at ≡ from + i →
    count_by p (numbered from (slice_set ns i number)) + one p (node_of (get_or ns i 0) at) ≡ count_by p (numbered from ns) + one p (node_of number at)
count-set p from i at number [] l e = absurd (omega arith)
count-set p from zero at number (m ∷ ms) l e =
    let same : at ≡ from = omega arith in
    let new = sum_by-cons (one p) (node_of number from) (numbered (from + 1) ms) in
    let old = sum_by-cons (one p) (node_of m from) (numbered (from + 1) ms) in
    rw same (omega (arith, new, old))
count-set p from (suc i) at number (m ∷ ms) l e =
    let rest = count-set p (from + 1) i at number ms (omega (arith, l)) (omega arith) in
    let new = sum_by-cons (one p) (node_of m from) (numbered (from + 1) (slice_set ms i number)) in
    let old = sum_by-cons (one p) (node_of m from) (numbered (from + 1) ms) in
    omega (arith, rest, new, old)

-- the nodes with one more
pub numbered-push : (from at number : ℕ) (ns : List ℕ) → at ≡ from + length ns → numbered from (ns ++ number ∷ []) ≡ numbered from ns ++ node_of number at ∷ []
numbered-push from at number [] e = let same : at ≡ from = omega arith in rw same refl
numbered-push from at number (m ∷ ms) e = ap (λ rest. node_of m from ∷ rest) (numbered-push (from + 1) at number ms (omega arith))

is_node-own : (number index : ℕ) → is_node number index (node_of number index) ≡ true
is_node-own number index = grind (arith, nat_tests)

-- a node stands among all with its number
pub number-there : (from i at : ℕ) (ns : List ℕ) → i < length ns → at ≡ from + i → list_any (is_node (get_or ns i 0) at) (numbered from ns) ≡ true
number-there from i at [] l e = absurd (omega arith)
number-there from zero at (m ∷ ms) l e =
    let same : at ≡ from = omega arith in
    rw same (rw (is_node-own m from) refl)
number-there from (suc i) at (m ∷ ms) l e =
    or-later (is_node (get_or ms i 0) at (node_of m from)) (list_any (is_node (get_or ms i 0) at) (numbered (from + 1) ms)) (number-there (from + 1) i at ms (omega (arith, l)) (omega arith))

-- the order finds what the nodes have
pub found-in_order : (numbers : List ℕ) (order : List NumberedNode) → IsInOrder numbers order → (number index : ℕ) → list_any (is_node number index) order ≡ list_any (is_node number index) (numbered 0 numbers)
found-in_order numbers order is number index =
    any-count (is_node number index) order ∙ ap (nat_lt 0) (is.each number index) ∙ sym (any-count (is_node number index) (numbered 0 numbers))

-- the nodes of the order that have neither an earlier nor a later number are those with this number
pub found-nodes : (numbers : List ℕ) (order : List NumberedNode) → IsInOrder numbers order → (number index : ℕ) →
    list_any (λ (node : NumberedNode). nat_eq node.index index) (filter (λ (node : NumberedNode). nat_le node.number number) (from_number number order)) ≡ list_any (is_node number index) (numbered 0 numbers)
found-nodes numbers order is number index =
    let has : NumberedNode → Bool = λ node. nat_eq node.index index in
    let no_later : NumberedNode → Bool = λ node. nat_le node.number number in
    let no_earlier : NumberedNode → Bool = λ node. not (nat_lt node.number number) in
    any-filter has no_later (from_number number order)
    ∙ any-filter (λ node. no_later node && has node) no_earlier order
    ∙ any-alike (λ node. no_earlier node && (no_later node && has node)) (is_node number index) (λ node. neither node.number number (has node)) order
    ∙ found-in_order numbers order is number index

-- one more node with its number
pub added-in_order : (numbers : List ℕ) (order after : List NumberedNode) (number at : ℕ) → IsInOrder numbers order → at ≡ length numbers → IsPermutation (node_of number at ∷ order) after →
    IsNonDecreasingBy (λ (node : NumberedNode). node.number) after → IsInOrder (numbers ++ number ∷ []) after
added-in_order numbers order after number at is e permuted up =
    let length-one : length (numbers ++ number ∷ []) ≡ length numbers + 1 = simp length-append (omega arith) in
    record {
      each = λ n i.
          let old = sum_by-cons (one (is_node n i)) (node_of number at) order in
          let kept = sum_by-IsPermutation (one (is_node n i)) (node_of number at ∷ order) after permuted in
          let new = sum_by-append (one (is_node n i)) (numbered 0 numbers) (node_of number at ∷ []) in
          let same = is.each n i in
          rw (numbered-push 0 at number numbers (omega arith)) (omega (arith, old, kept, new, same));
      all = let longer = length_permutation (node_of number at ∷ order) after permuted in omega (arith, longer, length-one, is.all);
      sorted = up;
    }

-- a list without one of its items rises where it rose
pub rises-without : (xs : List NumberedNode) (i : ℕ) → i < length xs → IsNonDecreasingBy (λ (node : NumberedNode). node.number) xs → IsNonDecreasingBy (λ (node : NumberedNode). node.number) (remove xs i)
rises-without xs i within up a b d le l = by_order (leb_tells i a) (leb_tells i b)
  where
    shorter : length (remove xs i) + 1 ≡ length xs
    shorter = length-remove xs i within

    by_order : ((leb i a ≡ true) × (i ≤ a)) ⊎ ((leb i a ≡ false) × (a < i)) → ((leb i b ≡ true) × (i ≤ b)) ⊎ ((leb i b ≡ false) × (b < i)) → (get_or (remove xs i) a d).number ≤ (get_or (remove xs i) b d).number
    by_order (inl h) (inl k) = rw (get_or-remove_above xs i d a h.1 within, get_or-remove_above xs i d b k.1 within) (up (a + 1) (b + 1) d (omega (arith, le)) (omega (arith, shorter, l)))
    by_order (inl h) (inr k) = absurd (omega (arith, le, h.1, k.1))
    by_order (inr h) (inl k) = rw (get_or-remove_below xs i d a h.1 within, get_or-remove_above xs i d b k.1 within) (up a (b + 1) d (omega (arith, le)) (omega (arith, shorter, l)))
    by_order (inr h) (inr k) = rw (get_or-remove_below xs i d a h.1 within, get_or-remove_below xs i d b k.1 within) (up a b d le (omega (arith, shorter, l)))

-- a node is the one that the test names
node-same : (number index : ℕ) (node : NumberedNode) → is_node number index node ≡ true → node_of number index ≡ node
node-same number index node h =
    let both = both_pass (nat_eq node.number number) (nat_eq node.index index) h in
    let first : number ≡ node.number = grind (arith, nat_tests, both) in
    let second : index ≡ node.index = grind (arith, nat_tests, both) in
    rw (first, second) refl

-- where a node has another number in the place of its own, once it stands at its place in the order and no longer where it was
pub moved-in_order : (numbers : List ℕ) (order after : List NumberedNode) (i place number : ℕ) (gone : NumberedNode) → IsInOrder numbers order → i < length numbers → place < length order →
    gone ≡ get_or order place gone → is_node (get_or numbers i 0) i gone ≡ true → IsPermutation (node_of number i ∷ remove order place) after → IsNonDecreasingBy (λ (node : NumberedNode). node.number) after →
    IsInOrder (slice_set numbers i number) after
moved-in_order numbers order after i place number gone is within there at same put up =
    let length-numbers : length (slice_set numbers i number) ≡ length numbers = length-set numbers i number in
    let shorter = length-remove order place there in
    let permuted = IsPermutation-remove order place gone there at in
    let own : node_of (get_or numbers i 0) i ≡ gone = node-same (get_or numbers i 0) i gone same in
    record {
      each = λ n j.
          let p = is_node n j in
          let new = sum_by-cons (one p) (node_of number i) (remove order place) in
          let now = sum_by-IsPermutation (one p) (node_of number i ∷ remove order place) after put in
          let old = sum_by-cons (one p) gone (remove order place) in
          let kept = sum_by-IsPermutation (one p) order (gone ∷ remove order place) permuted in
          let set = count-set p 0 i i number numbers within (omega arith) in
          let set-own : count_by p (numbered 0 (slice_set numbers i number)) + one p gone ≡ count_by p (numbered 0 numbers) + one p (node_of number i) = subst (λ (x : NumberedNode). count_by p (numbered 0 (slice_set numbers i number)) + one p x ≡ count_by p (numbered 0 numbers) + one p (node_of number i)) own set in
          let each = is.each n j in
          omega (arith, new, now, old, kept, set-own, each);
      all = let longer = length_permutation (node_of number i ∷ remove order place) after put in omega (arith, longer, shorter, length-numbers, is.all);
      sorted = up;
    }

length-numbered : (from : ℕ) (ns : List ℕ) → length (numbered from ns) ≡ length ns
length-numbered from [] = refl
length-numbered from (m ∷ ms) = let rest = length-numbered (from + 1) ms in omega (arith, rest)

-- the nodes, sorted by their numbers
pub sorted-in_order : (numbers : List ℕ) (order : List NumberedNode) → IsPermutation (numbered 0 numbers) order → IsNonDecreasingBy (λ (node : NumberedNode). node.number) order → IsInOrder numbers order
sorted-in_order numbers order permuted up = record {
  each = λ number index. sum_by-IsPermutation (one (is_node number index)) (numbered 0 numbers) order permuted;
  all = length_permutation (numbered 0 numbers) order permuted ∙ length-numbered 0 numbers;
  sorted = up;
}

-- a node is found in the order by its number
pub own-in_order : (numbers : List ℕ) (order : List NumberedNode) (i older : ℕ) → IsInOrder numbers order → i < length numbers → older ≡ get_or numbers i 0 → list_any (is_node older i) order ≡ true
own-in_order numbers order i older is within e = rw e (found-in_order numbers order is (get_or numbers i 0) i ∙ number-there 0 i i numbers within (omega arith))

-- a node is found among those of its number and later ones
pub later-there : (number index : ℕ) (order : List NumberedNode) → list_any (is_node number index) order ≡ true → list_any (is_node number index) (from_number number order) ≡ true
later-there number index order h =
    any-filter (is_node number index) (λ (node : NumberedNode). not (nat_lt node.number number)) order
    ∙ any-alike (λ (node : NumberedNode). not (nat_lt node.number number) && is_node number index node) (is_node number index) (λ node. no-earlier node.number number (nat_eq node.index index)) order
    ∙ h
