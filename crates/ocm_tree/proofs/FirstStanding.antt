use Rattle.std.proofs.Common.{◌≡◌, ◌≢◌, ℕ, List, [], ◌∷◌, ◌++◌, length, Bool, true, false, not, ◌&&◌, refl, sym, ap, ◌∙◌, subst, append_assoc, length-append, arith}
use Rattle.std.specs.Prelude.{Option, Some, None, filter, nat_eq, if◌then◌else◌}
use Rattle.std.specs.Option.{option_or}
use Rattle.std.proofs.lemmas.Bool.Decides.{nat_tests}
use Rattle.ocm_entry.specs.declared.rows.Place.{Place}
use Rattle.ocm_entry.specs.declared.rows.Standing.{Standing}
use Rattle.ocm_entry.specs.declared.rows.Node.{Node}
use Rattle.ocm_rules.specs.Files.{Act, Placed, Gone, Carried, same_place, is_at_or_above, moved, with_node, copies, nodes_after}
use Rattle.ocm_rules.specs.State.{node_at, EachOnce}
use Rattle.ocm_law_origins.specs.Origins.{copied, origins_after, body_from}
use Rattle.ocm_tree.specs.Orders.{numbers_where}
use Rattle.ocm_tree.specs.Standings.{origins_of, is_left, is_copied, first_by}
use Rattle.ocm_rules.proofs.Places.{same_place-refl, same_place-equal}
use Rattle.ocm_rules.proofs.Nodes.{by_place, copies-one}
use Rattle.ocm_rules.proofs.Once.{once-carried, once-filter, once-with_node, other-way}
use Rattle.ocm_tree.proofs.Once.{once-middle}
use Rattle.ocm_tree.proofs.OriginLists.{origins-where, origins-append, origins-copied, origins-with, numbers_with, length-copies}
use Rattle.ocm_tree.proofs.Parted.{length-where}

-- what stands by the entry of this number, of nodes with these numbers
abbrev pub standing_by : List Node → List ℕ → ℕ → Option Standing
standing_by [] ms k = None
standing_by (n ∷ ns) [] k = None
standing_by (n ∷ ns) (m ∷ ms) k = if nat_eq m k then Some n.standing else standing_by ns ms k

-- ---- each node is found at its place

-- a node in the middle is found at its place, where each place stands once
found-middle : (xs : List Node) (n : Node) (ys : List Node) → node_at xs n.place ≡ None → node_at (xs ++ n ∷ ys) n.place ≡ Some n.standing
found-middle [] n ys h = rw (same_place-refl n.place) refl
found-middle (x ∷ xs) n ys h = by_test (found-middle xs n ys) (same_place x.place n.place) h
  where
    by_test : (node_at xs n.place ≡ None → node_at (xs ++ n ∷ ys) n.place ≡ Some n.standing) → (b : Bool) → (if b then Some x.standing else node_at xs n.place) ≡ None →
        (if b then Some x.standing else node_at (xs ++ n ∷ ys) n.place) ≡ Some n.standing
    by_test rest true g = absurd (cc)
    by_test rest false g = rest g

-- what stands by an entry, of some of the nodes
body-among : (xs ns : List Node) (ms : List ℕ) (k : ℕ) → length ns ≡ length ms → EachOnce (xs ++ ns) → body_from (xs ++ ns) (origins_of ns ms) k ≡ standing_by ns ms k
body-among xs [] ms k same once = refl
body-among xs (n ∷ ns) [] k same once = absurd (omega arith)
body-among xs (n ∷ ns) (m ∷ ms) k same once =
    let further : (xs ++ n ∷ []) ++ ns ≡ xs ++ n ∷ ns = append_assoc xs (n ∷ []) ns in
    let rest : body_from (xs ++ n ∷ ns) (origins_of ns ms) k ≡ standing_by ns ms k =
    subst (λ all. body_from all (origins_of ns ms) k ≡ standing_by ns ms k) further (body-among (xs ++ n ∷ []) ns ms k (omega (arith, same)) (subst EachOnce (sym further) once)) in
    let first = found-middle xs n ns (once-middle xs n ns once) in
    ap (λ (o : Option Standing). if nat_eq m k then o else body_from (xs ++ n ∷ ns) (origins_of ns ms) k) first ∙ ap (λ (o : Option Standing). if nat_eq m k then Some n.standing else o) rest

-- what stands by an entry
body-numbers : (ns : List Node) (ms : List ℕ) (k : ℕ) → length ns ≡ length ms → EachOnce ns → body_from ns (origins_of ns ms) k ≡ standing_by ns ms k
body-numbers ns ms k same once = body-among [] ns ms k same once

-- ---- what stands by an entry, once something is done

by-where : (test : Node → Bool) (ns : List Node) (ms : List ℕ) (k : ℕ) → standing_by (filter test ns) (numbers_where test ns ms) k ≡ first_by test ns ms k
by-where test [] ms k = refl
by-where test (n ∷ ns) [] k = by_test (test n)
  where
    none : (l : List Node) → standing_by l [] k ≡ None
    none [] = refl
    none (x ∷ l) = refl

    by_test : (b : Bool) → standing_by (if b then n ∷ filter test ns else filter test ns) [] k ≡ None
    by_test true = refl
    by_test false = none (filter test ns)
by-where test (n ∷ ns) (m ∷ ms) k = by_tests (by-where test ns ms k) (test n) (nat_eq m k)
  where
    by_tests : standing_by (filter test ns) (numbers_where test ns ms) k ≡ first_by test ns ms k → (b c : Bool) →
        standing_by (if b then n ∷ filter test ns else filter test ns) (if b then m ∷ numbers_where test ns ms else numbers_where test ns ms) k ≡ (if (nat_eq m k && b) then Some n.standing else first_by test ns ms k)
    by_tests rest true c = with_number (nat_eq m k)
      where
        with_number : (q : Bool) → (if q then Some n.standing else standing_by (filter test ns) (numbers_where test ns ms) k) ≡ (if (q && true) then Some n.standing else first_by test ns ms k)
        with_number true = refl
        with_number false = rest
    by_tests rest false c = with_number (nat_eq m k)
      where
        with_number : (q : Bool) → standing_by (filter test ns) (numbers_where test ns ms) k ≡ (if (q && false) then Some n.standing else first_by test ns ms k)
        with_number true = rest
        with_number false = rest

by-append : (ns others : List Node) (ms more : List ℕ) (k : ℕ) → length ns ≡ length ms → standing_by (ns ++ others) (ms ++ more) k ≡ option_or (standing_by ns ms k) (standing_by others more k)
by-append [] others [] more k same = refl
by-append [] others (m ∷ ms) more k same = absurd (omega arith)
by-append (n ∷ ns) others [] more k same = absurd (omega arith)
by-append (n ∷ ns) others (m ∷ ms) more k same = by_test (by-append ns others ms more k (omega (arith, same))) (nat_eq m k)
  where
    by_test : standing_by (ns ++ others) (ms ++ more) k ≡ option_or (standing_by ns ms k) (standing_by others more k) → (b : Bool) →
        (if b then Some n.standing else standing_by (ns ++ others) (ms ++ more) k) ≡ option_or (if b then Some n.standing else standing_by ns ms k) (standing_by others more k)
    by_test rest true = refl
    by_test rest false = rest

by-copies : (from to : Place) (ns : List Node) (ms : List ℕ) (k : ℕ) → length ns ≡ length ms →
    standing_by (copies from to ns) (numbers_where (λ (n : Node). is_at_or_above from n.place) ns ms) k ≡ first_by (λ (n : Node). is_at_or_above from n.place) ns ms k
by-copies from to [] ms k same = refl
by-copies from to (n ∷ ns) [] k same = absurd (omega arith)
by-copies from to (n ∷ ns) (m ∷ ms) k same =
    ap (λ nodes. standing_by nodes (numbers_where (λ (x : Node). is_at_or_above from x.place) (n ∷ ns) (m ∷ ms)) k) (copies-one from to n ns (is_at_or_above from n.place) refl)
    ∙ by_tests (by-copies from to ns ms k (omega (arith, same))) (is_at_or_above from n.place) (nat_eq m k) refl
  where
    below : Node → Bool
    below x = is_at_or_above from x.place

    by_tests : standing_by (copies from to ns) (numbers_where (λ (x : Node). is_at_or_above from x.place) ns ms) k ≡ first_by (λ (x : Node). is_at_or_above from x.place) ns ms k → (b c : Bool) → nat_eq m k ≡ c →
        standing_by (if b then (let copy : Node = record { place = moved from to n.place; standing = n.standing } in copy) ∷ copies from to ns else copies from to ns) (if b then m ∷ numbers_where (λ (x : Node). is_at_or_above from x.place) ns ms else numbers_where (λ (x : Node). is_at_or_above from x.place) ns ms) k
        ≡ (if (nat_eq m k && b) then Some n.standing else first_by (λ (x : Node). is_at_or_above from x.place) ns ms k)
    by_tests rest true true e = rw e refl
    by_tests rest true false e = rw e rest
    by_tests rest false true e = rw e rest
    by_tests rest false false e = rw e rest

-- nothing stands at a place among nodes of which none is at this place
first-away : (ns : List Node) (ms : List ℕ) (place : Place) (k : ℕ) → node_at ns place ≡ None → first_by (λ (n : Node). not (same_place place n.place)) ns ms k ≡ standing_by ns ms k
first-away [] ms place k h = refl
first-away (n ∷ ns) [] place k h = refl
first-away (n ∷ ns) (m ∷ ms) place k h = by_test (first-away ns ms place k) (same_place n.place place) refl h
  where
    by_test : (node_at ns place ≡ None → first_by (λ (x : Node). not (same_place place x.place)) ns ms k ≡ standing_by ns ms k) → (b : Bool) → same_place n.place place ≡ b → (if b then Some n.standing else node_at ns place) ≡ None →
        (if (nat_eq m k && not (same_place place n.place)) then Some n.standing else first_by (λ (x : Node). not (same_place place x.place)) ns ms k) ≡ (if nat_eq m k then Some n.standing else standing_by ns ms k)
    by_test rest true e g = absurd (cc)
    by_test rest false e g = rw (other-way n.place place e, rest g) (with_number (nat_eq m k))
      where
        with_number : (q : Bool) → (if (q && true) then Some n.standing else standing_by ns ms k) ≡ (if q then Some n.standing else standing_by ns ms k)
        with_number true = refl
        with_number false = refl

-- a node that stands with another number is passed by
by-with : (ns : List Node) (ms : List ℕ) (node : Node) (number k : ℕ) → number ≢ k → length ns ≡ length ms → EachOnce ns →
    standing_by (with_node ns node) (numbers_with ns ms node.place number) k ≡ first_by (λ (n : Node). not (same_place node.place n.place)) ns ms k
by-with [] ms node number k other same once = let no : nat_eq number k ≡ false = grind (arith, nat_tests) in rw no refl
by-with (n ∷ ns) [] node number k other same once = absurd (omega arith)
by-with (n ∷ ns) (m ∷ ms) node number k other same once =
    let no : nat_eq number k ≡ false = grind (arith, nat_tests) in
    by_test no (by-with ns ms node number k other (omega (arith, same)) once.1) (same_place n.place node.place) refl
  where
    by_test : nat_eq number k ≡ false → standing_by (with_node ns node) (numbers_with ns ms node.place number) k ≡ first_by (λ (x : Node). not (same_place node.place x.place)) ns ms k → (b : Bool) → same_place n.place node.place ≡ b →
        standing_by (if b then node ∷ ns else n ∷ with_node ns node) (if b then number ∷ ms else m ∷ numbers_with ns ms node.place number) k
        ≡ (if (nat_eq m k && not (same_place node.place n.place)) then Some n.standing else first_by (λ (x : Node). not (same_place node.place x.place)) ns ms k)
    by_test away rest true e =
        let same_as : n.place ≡ node.place = same_place-equal n.place node.place e in
        let here : same_place node.place n.place ≡ true = ap (same_place node.place) same_as ∙ same_place-refl node.place in
        let nothing : node_at ns node.place ≡ None = ap (node_at ns) (sym same_as) ∙ once.0 in
        rw (away, here) (with_number (nat_eq m k) (sym (first-away ns ms node.place k nothing)))
      where
        with_number : (q : Bool) → standing_by ns ms k ≡ first_by (λ (x : Node). not (same_place node.place x.place)) ns ms k → standing_by ns ms k ≡ (if (q && false) then Some n.standing else first_by (λ (x : Node). not (same_place node.place x.place)) ns ms k)
        with_number true h = h
        with_number false h = h
    by_test away rest false e = rw (other-way n.place node.place e, rest) (with_number (nat_eq m k))
      where
        with_number : (q : Bool) → (if q then Some n.standing else first_by (λ (x : Node). not (same_place node.place x.place)) ns ms k) ≡ (if (q && true) then Some n.standing else first_by (λ (x : Node). not (same_place node.place x.place)) ns ms k)
        with_number true = refl
        with_number false = refl

first-none : (ns : List Node) (ms : List ℕ) (k : ℕ) → first_by (λ n. false) ns ms k ≡ None
first-none [] ms k = refl
first-none (n ∷ ns) [] k = refl
first-none (n ∷ ns) (m ∷ ms) k = by_test (first-none ns ms k) (nat_eq m k)
  where
    by_test : first_by (λ x. false) ns ms k ≡ None → (q : Bool) → (if (q && false) then Some n.standing else first_by (λ x. false) ns ms k) ≡ None
    by_test rest true = rest
    by_test rest false = rest

or-nothing : (o : Option Standing) → option_or o None ≡ o
or-nothing None = refl
or-nothing (Some standing) = refl

left-alone : (test : Node → Bool) (ns : List Node) (ms : List ℕ) (k : ℕ) → option_or (first_by test ns ms k) (first_by (λ n. false) ns ms k) ≡ first_by test ns ms k
left-alone test ns ms k = ap (option_or (first_by test ns ms k)) (first-none ns ms k) ∙ or-nothing (first_by test ns ms k)

first-all : (ns : List Node) (ms : List ℕ) (k : ℕ) → first_by (λ n. true) ns ms k ≡ standing_by ns ms k
first-all [] ms k = refl
first-all (n ∷ ns) [] k = refl
first-all (n ∷ ns) (m ∷ ms) k = by_test (first-all ns ms k) (nat_eq m k)
  where
    by_test : first_by (λ x. true) ns ms k ≡ standing_by ns ms k → (q : Bool) → (if (q && true) then Some n.standing else first_by (λ x. true) ns ms k) ≡ (if q then Some n.standing else standing_by ns ms k)
    by_test rest true = refl
    by_test rest false = rest

-- as many numbers as nodes, once a node stands
pub length-with : (ns : List Node) (ms : List ℕ) (node : Node) (number : ℕ) → length ns ≡ length ms → length (with_node ns node) ≡ length (numbers_with ns ms node.place number)
length-with [] ms node number same = refl
length-with (n ∷ ns) [] node number same = absurd (omega arith)
length-with (n ∷ ns) (m ∷ ms) node number same = by_test (length-with ns ms node number (omega (arith, same))) (same_place n.place node.place)
  where
    by_test : length (with_node ns node) ≡ length (numbers_with ns ms node.place number) → (b : Bool) → length (if b then node ∷ ns else n ∷ with_node ns node) ≡ length (if b then number ∷ ms else m ∷ numbers_with ns ms node.place number)
    by_test rest true = same
    by_test rest false = omega (arith, rest)

-- what stands by an entry once something is done by another: what it put and stays where it stands, else what is copied
pub standing-after : (act : Option Act) (ns : List Node) (ms : List ℕ) (number k : ℕ) → number ≢ k → length ns ≡ length ms → EachOnce ns →
    body_from (nodes_after act ns) (origins_after act number (origins_of ns ms)) k ≡ option_or (first_by (is_left act) ns ms k) (first_by (is_copied act) ns ms k)
standing-after None ns ms number k other same once = body-numbers ns ms k same once ∙ (sym (first-all ns ms k) ∙ sym (left-alone (λ n. true) ns ms k))
standing-after (Some (Placed there standing)) ns ms number k other same once =
    let node : Node = record { place = there; standing = standing } in
    ap (λ os. body_from (with_node ns node) os k) (origins-with ns ms node number same)
    ∙ (body-numbers (with_node ns node) (numbers_with ns ms there number) k (length-with ns ms node number same) (once-with_node ns node once)
    ∙ (by-with ns ms node number k other same once ∙ sym (left-alone (is_left (Some (Placed there standing))) ns ms k)))
standing-after (Some (Gone there)) ns ms number k other same once =
    let keep : Place → Bool = λ p. not (is_at_or_above there p) in
    ap (λ os. body_from (filter (by_place keep) ns) os k) (origins-where keep ns ms same)
    ∙ (body-numbers (filter (by_place keep) ns) (numbers_where (by_place keep) ns ms) k (sym (length-where (by_place keep) ns ms same)) (once-filter keep ns once)
    ∙ (by-where (by_place keep) ns ms k ∙ sym (left-alone (is_left (Some (Gone there))) ns ms k)))
standing-after (Some (Carried from to moving)) ns ms number k other same once =
    let keep : Place → Bool = λ p. not (is_at_or_above to p) && not (moving && is_at_or_above from p) in
    let below : Node → Bool = λ n. is_at_or_above from n.place in
    let kept_same = length-where (by_place keep) ns ms same in
    let copied_same : length (copies from to ns) ≡ length (numbers_where below ns ms) = length-copies from to ns ∙ sym (length-where below ns ms same) in
    let all_same : length (filter (by_place keep) ns ++ copies from to ns) ≡ length (numbers_where (by_place keep) ns ms ++ numbers_where below ns ms) =
    length-append (filter (by_place keep) ns) (copies from to ns) ∙ (omega (arith, kept_same, copied_same) ∙ sym (length-append (numbers_where (by_place keep) ns ms) (numbers_where below ns ms))) in
    let origins : origins_after (Some (Carried from to moving)) number (origins_of ns ms) ≡ origins_of (filter (by_place keep) ns ++ copies from to ns) (numbers_where (by_place keep) ns ms ++ numbers_where below ns ms) =
    ap (λ os. os ++ copied from to (origins_of ns ms)) (origins-where keep ns ms same)
    ∙ (ap (λ os. origins_of (filter (by_place keep) ns) (numbers_where (by_place keep) ns ms) ++ os) (origins-copied from to ns ms same)
    ∙ sym (origins-append (filter (by_place keep) ns) (copies from to ns) (numbers_where (by_place keep) ns ms) (numbers_where below ns ms) (sym kept_same))) in
    ap (λ os. body_from (filter (by_place keep) ns ++ copies from to ns) os k) origins
    ∙ (body-numbers (filter (by_place keep) ns ++ copies from to ns) (numbers_where (by_place keep) ns ms ++ numbers_where below ns ms) k all_same (once-carried from to moving ns once)
    ∙ (by-append (filter (by_place keep) ns) (copies from to ns) (numbers_where (by_place keep) ns ms) (numbers_where below ns ms) k (sym kept_same)
    ∙ (ap (λ o. option_or o (standing_by (copies from to ns) (numbers_where below ns ms) k)) (by-where (by_place keep) ns ms k)
    ∙ ap (option_or (first_by (by_place keep) ns ms k)) (by-copies from to ns ms k same))))

-- what stays where it stands comes first
pub stands-left : (act : Option Act) (ns : List Node) (ms : List ℕ) (number k : ℕ) (standing : Standing) → number ≢ k → length ns ≡ length ms → EachOnce ns →
    Some standing ≡ first_by (is_left act) ns ms k → Some standing ≡ body_from (nodes_after act ns) (origins_after act number (origins_of ns ms)) k
stands-left act ns ms number k standing other same once left =
    sym (standing-after act ns ms number k other same once ∙ ap (λ o. option_or o (first_by (is_copied act) ns ms k)) (sym left))

-- what is copied stands where nothing stays
pub stands-copied : (act : Option Act) (ns : List Node) (ms : List ℕ) (number k : ℕ) (result : Option Standing) → number ≢ k → length ns ≡ length ms → EachOnce ns →
    None ≡ first_by (is_left act) ns ms k → result ≡ first_by (is_copied act) ns ms k → result ≡ body_from (nodes_after act ns) (origins_after act number (origins_of ns ms)) k
stands-copied act ns ms number k result other same once left copy =
    copy ∙ sym (standing-after act ns ms number k other same once ∙ ap (λ o. option_or o (first_by (is_copied act) ns ms k)) (sym left))
