use Rattle.std.proofs.Common.{◌≡◌, ℕ, ◌+◌, List, [], ◌∷◌, ◌++◌, length, map, slice_set, Bool, true, false, not, ◌&&◌, refl, ap, arith}
use Rattle.std.specs.Prelude.{Some, None, is_some, filter, nat_eq, option_map, if◌then◌else◌}
use Rattle.std.proofs.lemmas.List.{length-map}
use Rattle.ocm_entry.specs.declared.rows.Place.{Place}
use Rattle.ocm_entry.specs.declared.rows.Node.{Node}
use Rattle.ocm_rules.specs.Files.{same_place, is_at_or_above}
use Rattle.ocm_tree.specs.Tables.{Slots, somes, slot_of, slot_passes, cleared}
use Rattle.ocm_tree.specs.Orders.{numbers_where}
use Rattle.ocm_tree.specs.Standings.{numbers_in, first_by, first_in}
use Rattle.ocm_tree.proofs.Slots.{shifted}
use Rattle.ocm_tree.proofs.OriginLists.{numbers_with}

-- ---- the numbers of the nodes in slots

-- as many numbers as nodes
pub length-in : (slots : Slots) (ms : List ℕ) → length slots ≡ length ms → length (somes slots) ≡ length (numbers_in slots ms)
length-in [] ms same = refl
length-in (s ∷ slots) [] same = absurd (omega arith)
length-in (None ∷ slots) (m ∷ ms) same = length-in slots ms (omega (arith, same))
length-in (Some n ∷ slots) (m ∷ ms) same = let rest = length-in slots ms (omega (arith, same)) in omega (arith, rest)

-- the numbers of the slots that pass a test are those of the nodes that pass it
pub where-in : (test : Node → Bool) (slots : Slots) (ms : List ℕ) → length slots ≡ length ms → numbers_where (slot_passes test) slots ms ≡ numbers_where test (somes slots) (numbers_in slots ms)
where-in test [] ms same = refl
where-in test (s ∷ slots) [] same = absurd (omega arith)
where-in test (None ∷ slots) (m ∷ ms) same = where-in test slots ms (omega (arith, same))
where-in test (Some n ∷ slots) (m ∷ ms) same = by_test (where-in test slots ms (omega (arith, same))) (test n)
  where
    by_test : numbers_where (slot_passes test) slots ms ≡ numbers_where test (somes slots) (numbers_in slots ms) → (b : Bool) →
        (if b then m ∷ numbers_where (slot_passes test) slots ms else numbers_where (slot_passes test) slots ms) ≡ (if b then m ∷ numbers_where test (somes slots) (numbers_in slots ms) else numbers_where test (somes slots) (numbers_in slots ms))
    by_test rest true = ap (λ l. m ∷ l) rest
    by_test rest false = rest

-- the numbers once the slots of nodes at a place and below it are empty
pub cleared-in : (there : Place) (slots : Slots) (ms : List ℕ) → length slots ≡ length ms →
    numbers_in (map (cleared there) slots) ms ≡ numbers_where (λ (n : Node). not (is_at_or_above there n.place)) (somes slots) (numbers_in slots ms)
cleared-in there [] ms same = refl
cleared-in there (s ∷ slots) [] same = absurd (omega arith)
cleared-in there (None ∷ slots) (m ∷ ms) same = cleared-in there slots ms (omega (arith, same))
cleared-in there (Some n ∷ slots) (m ∷ ms) same = by_test (cleared-in there slots ms (omega (arith, same))) (is_at_or_above there n.place)
  where
    others : List ℕ
    others = numbers_where (λ (x : Node). not (is_at_or_above there x.place)) (somes slots) (numbers_in slots ms)

    by_test : numbers_in (map (cleared there) slots) ms ≡ others → (b : Bool) →
        numbers_in ((if b then None else Some n) ∷ map (cleared there) slots) (m ∷ ms) ≡ (if not b then m ∷ others else others)
    by_test rest true = rest
    by_test rest false = ap (λ l. m ∷ l) rest

-- one more slot
pub push-in : (slots : Slots) (ms : List ℕ) (n : Node) (number : ℕ) → length slots ≡ length ms → numbers_in (slots ++ Some n ∷ []) (ms ++ number ∷ []) ≡ numbers_in slots ms ++ number ∷ []
push-in [] [] n number same = refl
push-in [] (m ∷ ms) n number same = absurd (omega arith)
push-in (s ∷ slots) [] n number same = absurd (omega arith)
push-in (None ∷ slots) (m ∷ ms) n number same = push-in slots ms n number (omega (arith, same))
push-in (Some x ∷ slots) (m ∷ ms) n number same = ap (λ l. m ∷ l) (push-in slots ms n number (omega (arith, same)))

-- a node in the slot of another
pub set-in : (slots : Slots) (ms : List ℕ) (n : Node) (number i : ℕ) → length slots ≡ length ms → slot_of slots n.place ≡ Some i →
    numbers_in (slice_set slots i (Some n)) (slice_set ms i number) ≡ numbers_with (somes slots) (numbers_in slots ms) n.place number
set-in [] ms n number i same e = absurd (cc)
set-in (s ∷ slots) [] n number i same e = absurd (omega arith)
set-in (None ∷ slots) (m ∷ ms) n number i same e =
    let s = shifted (slot_of slots n.place) i e in
    rw (← s.1.1) (set-in slots ms n number s.0 (omega (arith, same)) s.1.0)
set-in (Some x ∷ slots) (m ∷ ms) n number i same e = by_test (λ j. set-in slots ms n number j (omega (arith, same))) (same_place x.place n.place) refl e
  where
    by_test : ((j : ℕ) → slot_of slots n.place ≡ Some j → numbers_in (slice_set slots j (Some n)) (slice_set ms j number) ≡ numbers_with (somes slots) (numbers_in slots ms) n.place number) → (b : Bool) → same_place x.place n.place ≡ b
        → (if b then Some 0 else option_map (λ k. k + 1) (slot_of slots n.place)) ≡ Some i
        → numbers_in (slice_set (Some x ∷ slots) i (Some n)) (slice_set (m ∷ ms) i number) ≡ (if b then number ∷ numbers_in slots ms else m ∷ numbers_with (somes slots) (numbers_in slots ms) n.place number)
    by_test rest true h f = let z : 0 ≡ i = cc in rw (← z) refl
    by_test rest false h f =
        let s = shifted (slot_of slots n.place) i f in
        rw (← s.1.1) (ap (λ l. m ∷ l) (rest s.0 s.1.0))

-- the nodes of more slots
pub somes-more : (slots : Slots) (ns : List Node) → somes (slots ++ map (λ (n : Node). Some n) ns) ≡ somes slots ++ ns
somes-more [] [] = refl
somes-more [] (n ∷ ns) = ap (λ l. n ∷ l) (somes-more [] ns)
somes-more (None ∷ slots) ns = somes-more slots ns
somes-more (Some x ∷ slots) ns = ap (λ l. x ∷ l) (somes-more slots ns)

-- the numbers of more slots
pub more-in : (slots : Slots) (ms : List ℕ) (ns : List Node) (more : List ℕ) → length slots ≡ length ms → length ns ≡ length more →
    numbers_in (slots ++ map (λ (n : Node). Some n) ns) (ms ++ more) ≡ numbers_in slots ms ++ more
more-in [] [] [] [] same also = refl
more-in [] [] [] (k ∷ more) same also = absurd (omega arith)
more-in [] [] (n ∷ ns) [] same also = absurd (omega arith)
more-in [] [] (n ∷ ns) (k ∷ more) same also = ap (λ l. k ∷ l) (more-in [] [] ns more refl (omega (arith, also)))
more-in [] (m ∷ ms) ns more same also = absurd (omega arith)
more-in (s ∷ slots) [] ns more same also = absurd (omega arith)
more-in (None ∷ slots) (m ∷ ms) ns more same also = more-in slots ms ns more (omega (arith, same)) also
more-in (Some x ∷ slots) (m ∷ ms) ns more same also = ap (λ l. m ∷ l) (more-in slots ms ns more (omega (arith, same)) also)

pub length-more : (slots : Slots) (ns : List Node) → length (slots ++ map (λ (n : Node). Some n) ns) ≡ length slots + length ns
length-more [] ns = let all = length-map ns (λ (n : Node). Some n) in omega (arith, all)
length-more (s ∷ slots) ns = let rest = length-more slots ns in omega (arith, rest)

-- ---- slots without the empty ones

pub closed-in : (slots : Slots) (ms : List ℕ) → length slots ≡ length ms → numbers_in (filter is_some slots) (numbers_in slots ms) ≡ numbers_in slots ms
closed-in [] ms same = refl
closed-in (s ∷ slots) [] same = absurd (omega arith)
closed-in (None ∷ slots) (m ∷ ms) same = closed-in slots ms (omega (arith, same))
closed-in (Some n ∷ slots) (m ∷ ms) same = ap (λ l. m ∷ l) (closed-in slots ms (omega (arith, same)))

pub length-closed : (slots : Slots) (ms : List ℕ) → length slots ≡ length ms → length (filter is_some slots) ≡ length (numbers_in slots ms)
length-closed [] ms same = refl
length-closed (s ∷ slots) [] same = absurd (omega arith)
length-closed (None ∷ slots) (m ∷ ms) same = length-closed slots ms (omega (arith, same))
length-closed (Some n ∷ slots) (m ∷ ms) same = let rest = length-closed slots ms (omega (arith, same)) in omega (arith, rest)

-- ---- what stands by an entry

-- the first slot with a number is that of the first node with it
pub first-in : (test : Node → Bool) (slots : Slots) (ms : List ℕ) (k : ℕ) → length slots ≡ length ms → first_in (slot_passes test) slots ms k ≡ first_by test (somes slots) (numbers_in slots ms) k
first-in test [] ms k same = refl
first-in test (s ∷ slots) [] k same = absurd (omega arith)
first-in test (None ∷ slots) (m ∷ ms) k same = by_number (first-in test slots ms k (omega (arith, same))) (nat_eq m k)
  where
    by_number : first_in (slot_passes test) slots ms k ≡ first_by test (somes slots) (numbers_in slots ms) k → (b : Bool) →
        (if (b && false) then None else first_in (slot_passes test) slots ms k) ≡ first_by test (somes slots) (numbers_in slots ms) k
    by_number rest true = rest
    by_number rest false = rest
first-in test (Some n ∷ slots) (m ∷ ms) k same = by_test (first-in test slots ms k (omega (arith, same))) (nat_eq m k && test n)
  where
    by_test : first_in (slot_passes test) slots ms k ≡ first_by test (somes slots) (numbers_in slots ms) k → (b : Bool) →
        (if b then Some n.standing else first_in (slot_passes test) slots ms k) ≡ (if b then Some n.standing else first_by test (somes slots) (numbers_in slots ms) k)
    by_test rest true = refl
    by_test rest false = rest
