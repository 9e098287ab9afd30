use Rattle.std.proofs.Common.{◌≡◌, ◌++◌, ◌∷◌, [], ◌∙◌, List, Some, map, length, length-append, sym, ap, subst, append_assoc, arith}
use Rattle.std.specs.Vec.Iter.{into_iter_items}
use Rattle.std.proofs.lemmas.List.{map-append}
use Rattle.std.proofs.lemmas.List.Sums.{sum_by-cons, sum_by-append}
use Rattle.ocm_entry.specs.declared.rows.Node.{Node}
use Rattle.ocm_rules.specs.Files.{size_of, total_size}
use Rattle.ocm_rules.specs.State.{EachOnce}
use Rattle.ocm_tree.specs.Tables.{Slots, somes}
use Rattle.ocm_tree.proofs.Once.{once-middle}
use Rattle.ocm_tree.proofs.SlotNumbers.{somes-more}
use Rattle.ocm_tree.proofs.nodes.NodeTable.add_all.Goals as goal

all-nodes : (first now : Slots) (given given_so_far rest : List Node) (node : Node) → now ≡ first ++ map (λ (n : Node). Some n) given_so_far → given ≡ given_so_far ++ node ∷ rest → somes first ++ given ≡ somes now ++ node ∷ rest
all-nodes first now given given_so_far rest node h e =
    ap (λ l. somes first ++ l) e ∙ (sym (append_assoc (somes first) given_so_far (node ∷ rest)) ∙ ap (λ l. l ++ node ∷ rest) (sym (ap somes h ∙ somes-more first given_so_far)))

pub add-requires-clause-absent : goal.add-requires-clause-absent
add-requires-clause-absent c =
    let at = c.loop-planned in
    let node = c.in-Some.planned in
    let rest = into_iter_items c.next.new.self in
    let steps : into_iter_items at.planned-iterator ≡ node ∷ rest = c.in-Some.ensures.steps.0 in
    let given : c.args.nodes.items ≡ at.yielded ++ node ∷ rest = sym c.into_iter-planned-iterator.ensures.into_iter_gives.0 ∙ sym at.invariant.0 ∙ ap (λ l. at.yielded ++ l) steps in
    let all = all-nodes c.args.self.now.slots at.self.slots c.args.nodes.items at.yielded rest node at.invariant.2 given in
    once-middle (somes at.self.slots) node rest (subst EachOnce all c.requires.once)

pub add-requires-clause-few : goal.add-requires-clause-few
add-requires-clause-few c =
    let at = c.loop-planned in
    let node = c.in-Some.planned in
    let rest = into_iter_items c.next.new.self in
    let steps : into_iter_items at.planned-iterator ≡ node ∷ rest = c.in-Some.ensures.steps.0 in
    let given : c.args.nodes.items ≡ at.yielded ++ node ∷ rest = sym c.into_iter-planned-iterator.ensures.into_iter_gives.0 ∙ sym at.invariant.0 ∙ ap (λ l. at.yielded ++ l) steps in
    let all = ap length (all-nodes c.args.self.now.slots at.self.slots c.args.nodes.items at.yielded rest node at.invariant.2 given) in
    let parts = length-append (somes at.self.slots) (node ∷ rest) in
    omega (arith, all, parts, c.requires.few)

pub add-requires-clause-light : goal.add-requires-clause-light
add-requires-clause-light c =
    let at = c.loop-planned in
    let node = c.in-Some.planned in
    let rest = into_iter_items c.next.new.self in
    let steps : into_iter_items at.planned-iterator ≡ node ∷ rest = c.in-Some.ensures.steps.0 in
    let given : c.args.nodes.items ≡ at.yielded ++ node ∷ rest = sym c.into_iter-planned-iterator.ensures.into_iter_gives.0 ∙ sym at.invariant.0 ∙ ap (λ l. at.yielded ++ l) steps in
    let all = ap total_size (all-nodes c.args.self.now.slots at.self.slots c.args.nodes.items at.yielded rest node at.invariant.2 given) in
    let parts = sum_by-append (λ (n : Node). size_of n.standing) (somes at.self.slots) (node ∷ rest) in
    let more = sum_by-cons (λ (n : Node). size_of n.standing) node rest in
    omega (arith, all, parts, more, c.requires.light)

pub loop-planned-preserved : goal.loop-planned-preserved
loop-planned-preserved c =
    let at = c.loop-planned in
    let node = c.in-Some.planned in
    let slots = c.args.self.now.slots in
    let steps = c.in-Some.ensures.steps in
    let long = ap length steps.0 in (
      append_assoc at.yielded (node ∷ []) (into_iter_items c.next.new.self) ∙ (ap (λ l. at.yielded ++ l) (sym steps.0) ∙ at.invariant.0),
      omega (arith, steps.1, long, at.invariant.1),
      c.add.ensures.slots
          ∙ (ap (λ l. l ++ Some node ∷ []) at.invariant.2
          ∙ (append_assoc slots (map (λ (n : Node). Some n) at.yielded) (Some node ∷ []) ∙ ap (λ l. slots ++ l) (sym (map-append (λ (n : Node). Some n) at.yielded (node ∷ []))))),
      omega (arith, long, at.invariant.3, c.add.ensures.room),
    )
