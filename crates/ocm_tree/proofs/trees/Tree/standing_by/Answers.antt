use Rattle.std.proofs.Common.{◌≡◌, ◌∙◌, Some, None, ap}
use Rattle.std.specs.Prelude.{Bool, option_copied}
use Rattle.ocm_entry.specs.declared.rows.Node.{Node}
use Rattle.ocm_tree.specs.Tables.{somes, slot_passes}
use Rattle.ocm_tree.specs.Changes.{act_of}
use Rattle.ocm_tree.specs.Standings.{first_by, is_copied, is_left, least_among, numbers_in, passes_at, standing_of}
use Rattle.ocm_tree.proofs.FirstAmong.{AreOf, least-first}
use Rattle.ocm_tree.proofs.FirstStanding.{stands-copied, stands-left}
use Rattle.ocm_tree.proofs.SlotNumbers.{first-in, length-in}
use Rattle.ocm_tree.proofs.trees.Tree.standing_by.Goals as goal

pub returns-in-Some : goal.returns-in-Some
returns-in-Some c =
    let slots = c.self.inside.table.slots in
    let numbers = c.self.inside.numbers.numbers in
    let found = c.nodes_of-found.result.now in
    let test : Node → Bool = is_left (act_of c.args.change.now) in
    let of : AreOf numbers c.args.number found = record { found = c.nodes_of-found.ensures } in
    let left : Some c.in-Some.standing.now ≡ first_by test (somes slots) (numbers_in slots numbers) c.args.number =
    c.in-Some.ensures
    ∙ (ap (λ ss. standing_of ss (least_among (passes_at (slot_passes test) ss) found None)) c.slots-slots.ensures.slots
    ∙ (least-first (slot_passes test) slots numbers c.args.number found c.self.invariant.same of ∙ first-in test slots numbers c.args.number c.self.invariant.same)) in
    rw (← c.self.view_is) (λ later other. stands-left (act_of c.args.change.now) (somes slots) (numbers_in slots numbers) later c.args.number c.in-Some.standing.now other (length-in slots numbers c.self.invariant.same) c.slots-slots.ensures.once left)

pub returns-in-None : goal.returns-in-None
returns-in-None c =
    let slots = c.self.inside.table.slots in
    let numbers = c.self.inside.numbers.numbers in
    let found = c.nodes_of-found.result.now in
    let act = act_of c.args.change.now in
    let of : AreOf numbers c.args.number found = record { found = c.nodes_of-found.ensures } in
    let left : None ≡ first_by (is_left act) (somes slots) (numbers_in slots numbers) c.args.number =
    c.in-None.ensures
    ∙ (ap (λ ss. standing_of ss (least_among (passes_at (slot_passes (is_left act)) ss) found None)) c.slots-slots.ensures.slots
    ∙ (least-first (slot_passes (is_left act)) slots numbers c.args.number found c.self.invariant.same of ∙ first-in (is_left act) slots numbers c.args.number c.self.invariant.same)) in
    let copy : option_copied c.first_standing-in-None.result ≡ first_by (is_copied act) (somes slots) (numbers_in slots numbers) c.args.number =
    c.first_standing-in-None.ensures
    ∙ (ap (λ ss. standing_of ss (least_among (passes_at (slot_passes (is_copied act)) ss) found None)) c.slots-slots.ensures.slots
    ∙ (least-first (slot_passes (is_copied act)) slots numbers c.args.number found c.self.invariant.same of ∙ first-in (is_copied act) slots numbers c.args.number c.self.invariant.same)) in
    rw (← c.self.view_is) (λ later other. stands-copied act (somes slots) (numbers_in slots numbers) later c.args.number (option_copied c.first_standing-in-None.result) other (length-in slots numbers c.self.invariant.same) c.slots-slots.ensures.once left copy)
