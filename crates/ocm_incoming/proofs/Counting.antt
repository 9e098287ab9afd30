use Rattle.std.proofs.Common.{◌≡◌, ◌≢◌, ℕ, zero, suc, ◌+◌, ◌-◌, ◌<◌, ◌≤◌, List, [], ◌∷◌, ◌++◌, length, get_or, refl, sym, ap, subst, ◌∙◌, arith, Bool, true, false, ⊎_elim}
use Rattle.std.proofs.Math.ListN.{set}
use Rattle.std.proofs.Math.Seq.{get_or-append_seam}
use Rattle.std.specs.Prelude.{nat_eq, count_by, ◌&&◌}
use Rattle.std.proofs.lemmas.Bool.{cases_lt}
use Rattle.std.proofs.lemmas.Bool.Decides.{nat_tests}
use Rattle.std.proofs.lemmas.Grind.{get_or-set_at}
use Rattle.std.proofs.lemmas.List.{length-append, length-set, get_or_append_left, get_or-set_other, get_or_read_under}
use Rattle.std.proofs.lemmas.List.Sums.{sum_by-append, sum_by-set, get_or-le-sum_by, count_by-le-length}
use Rattle.ocm_rules.specs.State.{changed_at}
use Rattle.ocm_incoming.proofs.Changing.{set-changed}
use Rattle.ocm_incoming.specs.declared.tallies.Tag.{Tag}
use Rattle.ocm_incoming.specs.Groups.{one_if, counts_for, counted, recounted, IsNumberOf, IsTally}

-- one more at the end
pub count_by-push : {X : Type 0} (p : X → Bool) (xs : List X) (x : X) → count_by p (xs ++ x ∷ []) ≡ count_by p xs + one_if (p x)
count_by-push p xs x = let both = sum_by-append (λ y. one_if (p y)) xs (x ∷ []) in omega (arith, both)

-- a group has no count yet where it has a new number
get_or-more : (xs : List ℕ) (i : ℕ) → get_or (xs ++ 0 ∷ []) i 0 ≡ get_or xs i 0
get_or-more [] zero = refl
get_or-more [] (suc i) = refl
get_or-more (x ∷ xs) zero = refl
get_or-more (x ∷ xs) (suc i) = get_or-more xs i

one-cond : (b c : Bool) → b ≡ true → one_if (b && c) ≡ one_if c
one-cond true c e = refl
one-cond false c e = absurd (cc)

no-cond : (b c : Bool) → b ≡ false → one_if (b && c) ≡ 0
no-cond true c e = absurd (cc)
no-cond false c e = refl

pub one_if-le : (b : Bool) → one_if b ≤ 1
one_if-le true = omega arith
one_if-le false = omega arith

-- what a tag adds to the count of a group
adds-own : (group : ℕ) (tag : Tag) → tag.group ≡ group → one_if (counts_for group tag) ≡ one_if tag.counts
adds-own group tag e = one-cond (nat_eq tag.group group) tag.counts (grind (arith, nat_tests))

adds-none : (group : ℕ) (tag : Tag) → tag.group ≢ group → one_if (counts_for group tag) ≡ 0
adds-none group tag e = no-cond (nat_eq tag.group group) tag.counts (grind (arith, nat_tests))

-- ---- one member more

push-kept : (tags : List Tag) (counts : List ℕ) (tag : Tag) (place i : ℕ) → IsTally tags counts → place + 1 ≡ tag.group → tag.group ≤ length tags + 1 → get_or (set (counts ++ 0 ∷ []) place (get_or (counts ++ 0 ∷ []) place 0 + one_if tag.counts)) i 0 ≡ counted (tags ++ tag ∷ []) (i + 1)
push-kept tags counts tag place i tally e h =
    let long = length-append counts (0 ∷ []) in
    let within : place < length (counts ++ 0 ∷ []) = omega (arith, long, tally.each) in
    let pushed = count_by-push (counts_for (i + 1)) tags tag in
    let kept = tally.kept i in
    let before = get_or-more counts i in
    elim (nat_eq i place) as (λ b. nat_eq i place ≡ b → get_or (set (counts ++ 0 ∷ []) place (get_or (counts ++ 0 ∷ []) place 0 + one_if tag.counts)) i 0 ≡ counted (tags ++ tag ∷ []) (i + 1)) [
      | true ↦ λ (t : nat_eq i place ≡ true).
          let same : i ≡ place = grind (arith, nat_tests) in
          let here = get_or-set_at (counts ++ 0 ∷ []) place i (get_or (counts ++ 0 ∷ []) place 0 + one_if tag.counts) 0 same within in
          let own = adds-own (i + 1) tag (omega (arith, same, e)) in
          let at : get_or (counts ++ 0 ∷ []) place 0 ≡ get_or (counts ++ 0 ∷ []) i 0 = ap (λ k. get_or (counts ++ 0 ∷ []) k 0) (sym same) in
          rw (here, pushed, own, at, before, kept) refl
      | false ↦ λ (t : nat_eq i place ≡ false).
          let other : i ≢ place = grind (arith, nat_tests) in
          let none = adds-none (i + 1) tag (λ (g : tag.group ≡ i + 1). other (omega (arith, g, e))) in
          let there = get_or-set_other (counts ++ 0 ∷ []) place i (get_or (counts ++ 0 ∷ []) place 0 + one_if tag.counts) 0 other in
          rw (there, pushed, none, before, kept) (omega arith)
    ] refl

push-grouped : (tags : List Tag) (tag : Tag) (i : ℕ) (d : Tag) → ((j : ℕ) (d' : Tag) → j < length tags → IsNumberOf (length tags) (get_or tags j d').group) → IsNumberOf (length tags + 1) tag.group → i < length (tags ++ tag ∷ []) → IsNumberOf (length (tags ++ tag ∷ [])) (get_or (tags ++ tag ∷ []) i d).group
push-grouped tags tag i d each new h =
    let long : length (tags ++ tag ∷ []) ≡ length tags + 1 = omega (arith, length-append tags (tag ∷ [])) in
    ⊎_elim
    (λ (low : i < length tags).
    let old = each i d low in
    let at = get_or_append_left tags (tag ∷ []) d i low in
    rw (at, long) (record { from_one = old.from_one; within = omega (arith, old.within) }))
    (λ (high : length tags ≤ i).
    let end : i ≡ length tags = omega (arith, long) in
    let at = get_or-append_seam tags tag [] d in
    rw (end, at, long) new)
    (cases_lt i (length tags))

-- a tally with one more member
pub pushed-IsTally : (tags : List Tag) (counts : List ℕ) (tag : Tag) (place : ℕ) → IsTally tags counts → length tags < 65536 → place + 1 ≡ tag.group → tag.group ≤ length tags + 1 → IsTally (tags ++ tag ∷ []) (set (counts ++ 0 ∷ []) place (get_or (counts ++ 0 ∷ []) place 0 + one_if tag.counts))
pushed-IsTally tags counts tag place tally few e h = record {
  few = omega (arith, length-append tags (tag ∷ []));
  each = length-set (counts ++ 0 ∷ []) place _ ∙ omega (arith, length-append tags (tag ∷ []), length-append counts (0 ∷ []), tally.each);
  grouped = λ i d k. push-grouped tags tag i d tally.grouped (record { from_one = omega (arith, e); within = h }) k;
  kept = λ i. push-kept tags counts tag place i tally e h;
}

-- the count of a group has room for one more, and for the members that count
pub push-fits : (tags : List Tag) (counts : List ℕ) (place : ℕ) → IsTally tags counts → get_or (counts ++ 0 ∷ []) place 0 ≤ 65536
push-fits tags counts place tally =
    let kept = get_or-more counts place ∙ tally.kept place in
    omega (arith, kept, count_by-le-length (counts_for (place + 1)) tags, tally.few)

-- ---- a member that counts, or counts no more

-- the member of this place is among those that are counted for its group
pub set-least : (tags : List Tag) (counts : List ℕ) (index place : ℕ) (d : Tag) → IsTally tags counts → index < length tags → place + 1 ≡ (get_or tags index d).group → one_if (get_or tags index d).counts ≤ get_or counts place 0
set-least tags counts index place d tally h e =
    let own = adds-own (place + 1) (get_or tags index d) (sym e) in
    let least = get_or-le-sum_by (λ (t : Tag). one_if (counts_for (place + 1) t)) tags index d h in
    omega (arith, own, least, tally.kept place)

pub set-most : (tags : List Tag) (counts : List ℕ) (place : ℕ) → IsTally tags counts → get_or counts place 0 ≤ 65536
set-most tags counts place tally = omega (arith, tally.kept place, count_by-le-length (counts_for (place + 1)) tags, tally.few)

set-kept : (tags : List Tag) (counts : List ℕ) (index place i : ℕ) (new d : Tag) → IsTally tags counts → index < length tags → place + 1 ≡ (get_or tags index d).group → new.group ≡ (get_or tags index d).group → get_or (set counts place (get_or counts place 0 - one_if (get_or tags index d).counts + one_if new.counts)) i 0 ≡ counted (set tags index new) (i + 1)
set-kept tags counts index place i new d tally h e g =
    let old : Tag = get_or tags index d in
    let within : place < length counts = omega (arith, (tally.grouped index d h).within, tally.each, e) in
    let changed = sum_by-set (λ (t : Tag). one_if (counts_for (i + 1) t)) tags index new d h in
    let least = set-least tags counts index place d tally h e in
    let kept = tally.kept i in
    elim (nat_eq i place) as (λ b. nat_eq i place ≡ b → get_or (set counts place (get_or counts place 0 - one_if (get_or tags index d).counts + one_if new.counts)) i 0 ≡ counted (set tags index new) (i + 1)) [
      | true ↦ λ (t : nat_eq i place ≡ true).
          let same : i ≡ place = grind (arith, nat_tests) in
          let here = get_or-set_at counts place i (get_or counts place 0 - one_if (get_or tags index d).counts + one_if new.counts) 0 same within in
          let was = adds-own (i + 1) (get_or tags index d) (omega (arith, same, e)) in
          let is = adds-own (i + 1) new (omega (arith, same, e, g)) in
          let at : get_or counts place 0 ≡ get_or counts i 0 = ap (λ k. get_or counts k 0) (sym same) in
          rw here (omega (arith, changed, was, is, at, kept, least))
      | false ↦ λ (t : nat_eq i place ≡ false).
          let other : i ≢ place = grind (arith, nat_tests) in
          let was = adds-none (i + 1) (get_or tags index d) (λ (k : (get_or tags index d).group ≡ i + 1). other (omega (arith, k, e))) in
          let is = adds-none (i + 1) new (λ (k : new.group ≡ i + 1). other (omega (arith, k, e, g))) in
          let there = get_or-set_other counts place i (get_or counts place 0 - one_if (get_or tags index d).counts + one_if new.counts) 0 other in
          rw there (omega (arith, changed, was, is, kept))
    ] refl

set-grouped : (tags : List Tag) (index i : ℕ) (new d d' : Tag) → ((j : ℕ) (e : Tag) → j < length tags → IsNumberOf (length tags) (get_or tags j e).group) → index < length tags → new.group ≡ (get_or tags index d).group → i < length (set tags index new) → IsNumberOf (length (set tags index new)) (get_or (set tags index new) i d').group
set-grouped tags index i new d d' each h g k =
    let long = length-set tags index new in
    let low : i < length tags = rw long at k in
    elim (nat_eq i index) as (λ b. nat_eq i index ≡ b → IsNumberOf (length (set tags index new)) (get_or (set tags index new) i d').group) [
      | true ↦ λ (t : nat_eq i index ≡ true).
          let same : i ≡ index = grind (arith, nat_tests) in
          rw (long, get_or-set_at tags index i new d' same h, g) (each index d h)
      | false ↦ λ (t : nat_eq i index ≡ false).
          let other : i ≢ index = grind (arith, nat_tests) in
          rw (long, get_or-set_other tags index i new d' other) (each i d' low)
    ] refl

-- a tally with one member changed
pub set-IsTally : (tags : List Tag) (counts : List ℕ) (index place : ℕ) (new d : Tag) → IsTally tags counts → index < length tags → place + 1 ≡ (get_or tags index d).group → new.group ≡ (get_or tags index d).group → IsTally (set tags index new) (set counts place (get_or counts place 0 - one_if (get_or tags index d).counts + one_if new.counts))
set-IsTally tags counts index place new d tally h e g = record {
  few = rw length-set tally.few;
  each = length-set counts place _ ∙ (tally.each ∙ sym (length-set tags index new));
  grouped = λ i d' k. set-grouped tags index i new d d' tally.grouped h g k;
  kept = λ i. set-kept tags counts index place i new d tally h e g;
}

-- ---- what the code reads and writes

pub count-read : (counts more : List ℕ) (place count : ℕ) → more ≡ counts ++ 0 ∷ [] → place ≤ length counts → count ≡ get_or more place count → count ≡ get_or (counts ++ 0 ∷ []) place 0
count-read counts more place count m h r =
    let within : place < length more = rw m (omega (arith, length-append counts (0 ∷ []))) in
    let at = get_or_read_under more place (length more) count 0 r within refl in
    rw m at at

pub tally-pushed : (tags new : List Tag) (counts more : List ℕ) (group count weight : ℕ) (b : Bool) → IsTally tags counts → length tags < 65536 → 0 < group → group ≤ length tags + 1 → more ≡ counts ++ 0 ∷ [] → count ≡ get_or more (group - 1) count → weight ≡ one_if b → new ≡ tags ++ record { group = group; counts = b } ∷ [] → IsTally new (set more (group - 1) (count + weight))
tally-pushed tags new counts more group count weight b tally few low high m r w n =
    let at = count-read counts more (group - 1) count m (omega (arith, tally.each)) r in
    let tag : Tag = record { group = group; counts = b } in
    let done = pushed-IsTally tags counts tag (group - 1) tally few (omega arith) high in
    rw (n, m, at, w) done

pub count-fits : (counts : List ℕ) (tags : List Tag) (more : List ℕ) (group count weight : ℕ) (b : Bool) → IsTally tags counts → 0 < group → group ≤ length tags + 1 → more ≡ counts ++ 0 ∷ [] → count ≡ get_or more (group - 1) count → weight ≡ one_if b → count + weight ≤ 65537
count-fits counts tags more group count weight b tally low high m r w =
    let at = count-read counts more (group - 1) count m (omega (arith, tally.each)) r in
    let most = push-fits tags counts (group - 1) tally in
    let one = one_if-le b in
    omega (arith, at, most, one, w)

-- a tag and a count that were read
pub record IsRead (tags : List Tag) (counts : List ℕ) (index count weight : ℕ) (old : Tag) : Type 0 where
  pub tally : IsTally tags counts
  pub within : index < length tags
  pub tag : old ≡ get_or tags index old
  pub counted : count ≡ get_or counts (old.group - 1) count
  pub weighed : weight ≡ one_if old.counts

group-read : (tags : List Tag) (counts : List ℕ) (index count weight : ℕ) (old : Tag) → IsRead tags counts index count weight old → IsNumberOf (length tags) old.group
group-read tags counts index count weight old h =
    let there = h.tally.grouped index old h.within in
    let P : Tag → Type 0 = λ t. IsNumberOf (length tags) t.group in
    subst P (sym h.tag) there

place-read : (tags : List Tag) (counts : List ℕ) (index count weight : ℕ) (old : Tag) → IsRead tags counts index count weight old → old.group - 1 + 1 ≡ (get_or tags index old).group
place-read tags counts index count weight old h =
    let group = group-read tags counts index count weight old h in
    let low : old.group - 1 + 1 ≡ old.group = omega (arith, group.from_one) in
    low ∙ ap (λ (t : Tag). t.group) h.tag

zero-read : (tags : List Tag) (counts : List ℕ) (index count weight : ℕ) (old : Tag) → IsRead tags counts index count weight old → count ≡ get_or counts (old.group - 1) 0
zero-read tags counts index count weight old h =
    let group = group-read tags counts index count weight old h in
    get_or_read_under counts (old.group - 1) (length counts) count 0 h.counted (omega (arith, group.from_one, group.within, h.tally.each)) refl

pub read-least : (tags : List Tag) (counts : List ℕ) (index count weight : ℕ) (old : Tag) → IsRead tags counts index count weight old → weight ≤ count
read-least tags counts index count weight old h =
    let least = set-least tags counts index (old.group - 1) old h.tally h.within (place-read tags counts index count weight old h) in
    let at = zero-read tags counts index count weight old h in
    let weighs = h.weighed ∙ ap (λ (t : Tag). one_if t.counts) h.tag in
    omega (arith, least, at, weighs)

pub read-most : (tags : List Tag) (counts : List ℕ) (index count weight : ℕ) (old : Tag) (more : ℕ) (b : Bool) → IsRead tags counts index count weight old → more ≡ one_if b → count - weight + more ≤ 65537
read-most tags counts index count weight old more b h e =
    let at = zero-read tags counts index count weight old h in
    let most = set-most tags counts (old.group - 1) h.tally in
    let one = one_if-le b in
    omega (arith, at, most, one, e)

pub read-set : (tags : List Tag) (counts : List ℕ) (index count weight : ℕ) (old : Tag) (more : ℕ) (b : Bool) → IsRead tags counts index count weight old → more ≡ one_if b → IsTally (set tags index (record { group = old.group; counts = b })) (set counts (old.group - 1) (count - weight + more))
read-set tags counts index count weight old more b h e =
    let new : Tag = record { group = old.group; counts = b } in
    let at = zero-read tags counts index count weight old h in
    let weighs = h.weighed ∙ ap (λ (t : Tag). one_if t.counts) h.tag in
    let done = set-IsTally tags counts index (old.group - 1) new old h.tally h.within (place-read tags counts index count weight old h) (ap (λ (t : Tag). t.group) h.tag) in
    rw (at, weighs, e) done

pub read-changed : (tags : List Tag) (number : ℕ) (old : Tag) (b : Bool) → 0 < number → number ≤ length tags → old ≡ get_or tags (number - 1) old → set tags (number - 1) (record { group = old.group; counts = b }) ≡ changed_at number (recounted b) tags
read-changed tags number old b low high t = set-changed tags (number - 1) number (recounted b) (record { group = old.group; counts = b }) old (omega arith) (omega arith) (ap (recounted b) t)
