use Rattle.std.proofs.Common.{◌≡◌, ℕ, ◌+◌, ◌-◌, ◌<◌, ◌≤◌, [], ◌∷◌, ◌++◌, length, Bool, true, false, ◌&&◌, cond, Option, Some, None, refl, sym, ap, ◌∙◌, arith, slice_set}
use Rattle.std.specs.Prelude.{is_some, filter, not}
use Rattle.std.specs.HashMap as hash
use Rattle.ocm_entry.specs.declared.rows.Place.{Place}
use Rattle.ocm_entry.specs.declared.rows.Standing.{Standing}
use Rattle.ocm_entry.specs.declared.rows.Standing.TheVariants.{Collection}
use Rattle.ocm_entry.specs.declared.rows.Node.{Node}
use Rattle.ocm_rules.specs.Files.{same_place, is_at_or_above, parent_of, with_node, with_roots, size_of, total_size, child_count, limit_of}
use Rattle.ocm_rules.specs.State.{node_at}
use Rattle.ocm_rules.proofs.Lists.{both_pass}
use Rattle.ocm_rules.proofs.Places.{same_place-equal}
use Rattle.ocm_tree.specs.Tables.{Index, Slots, somes, slot_of, size_at, counted, IsTable}
use Rattle.ocm_rules.proofs.Once.{once-filter, once-with_node}
use Rattle.ocm_tree.proofs.NodeLists.{total_size-with_node, size_at-le-total_size, length-with_node, child_count-more}
use Rattle.ocm_tree.proofs.LimitNumbers.{limit_of-none}
use Rattle.ocm_tree.proofs.IndexNumbers.{push-with_node}
use Rattle.ocm_tree.proofs.Absent.{index_of-absent}
use Rattle.ocm_tree.proofs.Removed.{outside, length-outside, total_size-outside}
use Rattle.ocm_tree.proofs.Slots.{somes-set, slot_of-set, somes-push, slot_of-push, absent-slot, in-slot, somes-filter}
use Rattle.ocm_tree.proofs.Leaves.{rooted-with_node, rooted-outside}

-- the table once a node is in the slot of another
pub replaced-IsTable : (root : Standing) (slots : Slots) (n : Node) (i : ℕ) (places children : Index) (count total older : ℕ) (rooted : Bool) → IsTable root slots places children count total rooted →
    slot_of slots n.place ≡ Some i → limit_of (somes slots) n ≡ None → older ≡ size_at (node_at (somes slots) n.place) → IsTable root (slice_set slots i (Some n)) places children count (total - older + size_of n.standing) rooted
replaced-IsTable root slots n i places children count total older rooted h e l o =
    let ns = somes slots in
    let set = somes-set slots n i e in
    let r = in-slot slots n.place i e in
    let within = limit_of-none ns n l in
    let bound = size_at-le-total_size ns n.place in
    let sums = total_size-with_node ns n in
    let long : length (with_node ns n) ≡ length ns + 0 = rw r.1.stands at (length-with_node ns n) in
    record {
      at_root = h.at_root;
      once = rw set (once-with_node ns n h.once);
      found = λ place. h.found place ∙ sym (slot_of-set slots n i place e);
      counts = λ place.
          let after : child_count (with_node ns n) place ≡ child_count ns place + 0 = rw r.1.stands at (child_count-more ns n place) in
          rw set (h.counts place ∙ omega (arith, after));
      adds_up = rw set (omega (arith, h.adds_up, o, bound, sums));
      counted_up = rw set (omega (arith, h.counted_up, long));
      few = rw set within.nodes;
      light = rw set within.total;
      lies = λ t. rw set (rooted-with_node ns n (h.lies t) (h.lies t n.place (ap is_some r.1.stands)));
    }

counted-cond : (b : Bool) (count : ℕ) (kept : Option ℕ) → counted (cond b (Some count) kept) ≡ cond b count (counted kept)
counted-cond true count kept = refl
counted-cond false count kept = refl

add-cond : (b : Bool) (a c : ℕ) → (b ≡ true → a ≡ c) → cond b (a + 1) c ≡ c + cond b 1 0
add-cond true a c h = rw (h refl) refl
add-cond false a c h = omega arith

-- one more node behind the others
pub push-somes : (slots : Slots) (n : Node) → node_at (somes slots) n.place ≡ None → somes (slots ++ Some n ∷ []) ≡ with_node (somes slots) n
push-somes slots n e = somes-push slots n ∙ sym (push-with_node (somes slots) n (index_of-absent (somes slots) n.place e))

-- the table once one more node stands
pub added-IsTable : (root : Standing) (slots : Slots) (n : Node) (older_places older_children places children : Index) (count total : ℕ) (rooted lies : Bool) → IsTable root slots older_places older_children count total rooted →
    node_at (somes slots) n.place ≡ None → length (somes slots) < 65536 → total_size (somes slots) + size_of n.standing ≤ 268435456 →
    lies ≡ is_some (with_roots (node_at (somes slots)) (parent_of n.place)) →
    ((place : Place) → hash.get same_place places place ≡ cond (same_place n.place place) (Some (length slots)) (hash.get same_place older_places place)) →
    ((place : Place) → hash.get same_place children place ≡ cond (same_place (parent_of n.place) place) (Some (child_count (somes slots) (parent_of n.place) + 1)) (hash.get same_place older_children place)) →
    IsTable root (slots ++ Some n ∷ []) places children (count + 1) (total + size_of n.standing) (rooted && lies)
added-IsTable root slots n older_places older_children places children count total rooted lies h nothing few light where_lies put counted_up =
    let ns = somes slots in
    let set = push-somes slots n nothing in
    let sums : total_size (with_node ns n) + 0 ≡ total_size ns + size_of n.standing = rw nothing at (total_size-with_node ns n) in
    let longer : length (with_node ns n) ≡ length ns + 1 = rw nothing at (length-with_node ns n) in
    record {
      at_root = h.at_root;
      once = rw set (once-with_node ns n h.once);
      found = λ place. put place ∙ rw (h.found place) (sym (slot_of-push slots n place (absent-slot slots n.place nothing)));
      counts = λ place.
          let b = same_place (parent_of n.place) place in
          let same : b ≡ true → child_count ns (parent_of n.place) ≡ child_count ns place = λ t. ap (child_count ns) (same_place-equal (parent_of n.place) place t) in
          let after : child_count (with_node ns n) place ≡ child_count ns place + cond b 1 0 = rw nothing at (child_count-more ns n place) in
          rw set (rw (counted_up place, counted-cond b (child_count ns (parent_of n.place) + 1) (hash.get same_place older_children place), h.counts place)
          (add-cond b (child_count ns (parent_of n.place)) (child_count ns place) same ∙ sym after));
      adds_up = rw set (omega (arith, h.adds_up, sums));
      counted_up = rw set (omega (arith, h.counted_up, longer));
      few = rw set (omega (arith, longer, few));
      light = rw set (omega (arith, sums, light));
      lies = λ t. let both = both_pass rooted lies t in rw set (rooted-with_node ns n (h.lies both.0) (sym where_lies ∙ both.1));
    }

-- the table once what lies at a place and below it is gone
pub removed-IsTable : (root : Standing) (slots after : Slots) (there : Place) (older_places older_children places children : Index) (older_count older_total count total : ℕ) (rooted : Bool) →
    IsTable root slots older_places older_children older_count older_total rooted → somes after ≡ outside there (somes slots) →
    ((q : Place) → hash.get same_place places q ≡ slot_of after q) →
    ((q : Place) → counted (hash.get same_place children q) ≡ child_count (outside there (somes slots)) q) →
    count ≡ length (outside there (somes slots)) → total ≡ total_size (outside there (somes slots)) → IsTable root after places children count total rooted
removed-IsTable root slots after there older_places older_children places children older_count older_total count total rooted h set found counts number sum =
    let ns = somes slots in
    let fewer = length-outside there ns in
    let lighter = total_size-outside there ns in
    record {
      at_root = h.at_root;
      once = rw set (once-filter (λ p. not (is_at_or_above there p)) ns h.once);
      found = found;
      counts = λ q. rw set (counts q);
      adds_up = rw set sum;
      counted_up = rw set number;
      few = rw set (omega (arith, fewer, h.few));
      light = rw set (omega (arith, lighter, h.light));
      lies = λ t. rw set (rooted-outside there ns (h.lies t));
    }

-- the table once the empty slots are gone
pub closed-IsTable : (root : Standing) (slots : Slots) (older_places places children : Index) (count total : ℕ) (rooted : Bool) → IsTable root slots older_places children count total rooted →
    ((q : Place) → hash.get same_place places q ≡ slot_of (filter is_some slots) q) → IsTable root (filter is_some slots) places children count total rooted
closed-IsTable root slots older_places places children count total rooted h found = record {
  at_root = h.at_root;
  once = rw (somes-filter slots) h.once;
  found = found;
  counts = λ q. rw (somes-filter slots) (h.counts q);
  adds_up = rw (somes-filter slots) h.adds_up;
  counted_up = rw (somes-filter slots) h.counted_up;
  few = rw (somes-filter slots) h.few;
  light = rw (somes-filter slots) h.light;
  lies = λ t. rw (somes-filter slots) (h.lies t);
}

-- the same table with other indexes that find the same
pub same-IsTable : (root : Standing) (slots : Slots) (older_places older_children places children : Index) (count total : ℕ) (rooted : Bool) → IsTable root slots older_places older_children count total rooted →
    ((q : Place) → hash.get same_place places q ≡ hash.get same_place older_places q) → ((q : Place) → hash.get same_place children q ≡ hash.get same_place older_children q) → IsTable root slots places children count total rooted
same-IsTable root slots older_places older_children places children count total rooted h found counts = record {
  at_root = h.at_root;
  once = h.once;
  found = λ q. found q ∙ h.found q;
  counts = λ q. ap counted (counts q) ∙ h.counts q;
  adds_up = h.adds_up;
  counted_up = h.counted_up;
  few = h.few;
  light = h.light;
  lies = h.lies;
}

-- the table without what is known of where nodes lie
pub loose-IsTable : (root : Standing) (slots : Slots) (places children : Index) (count total : ℕ) (rooted : Bool) → IsTable root slots places children count total rooted → IsTable Collection slots places children count total false
loose-IsTable root slots places children count total rooted h = record {
  at_root = refl;
  once = h.once;
  found = h.found;
  counts = h.counts;
  adds_up = h.adds_up;
  counted_up = h.counted_up;
  few = h.few;
  light = h.light;
  lies = λ t. absurd (cc);
}

-- the table with other slots of the same nodes, where each place is found in the same slot
pub trimmed-IsTable : (root : Standing) (slots after : Slots) (places children : Index) (count total : ℕ) (rooted : Bool) → IsTable root slots places children count total rooted →
    somes after ≡ somes slots → ((q : Place) → slot_of after q ≡ slot_of slots q) → IsTable root after places children count total rooted
trimmed-IsTable root slots after places children count total rooted h set found = record {
  at_root = h.at_root;
  once = rw set h.once;
  found = λ q. h.found q ∙ sym (found q);
  counts = λ q. rw set (h.counts q);
  adds_up = rw set h.adds_up;
  counted_up = rw set h.counted_up;
  few = rw set h.few;
  light = rw set h.light;
  lies = λ t. rw set (h.lies t);
}
