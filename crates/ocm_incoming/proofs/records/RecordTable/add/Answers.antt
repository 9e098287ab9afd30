use Rattle.std.proofs.Common.{arith, ap, sym, ◌∙◌}
use Rattle.std.proofs.lemmas.Grind.{common_steps}
use Rattle.ocm_incoming.proofs.RecordLists.{added-IsRecords}
use Rattle.ocm_incoming.specs.Keys.{key_of, mark_of}
use Rattle.ocm_incoming.proofs.records.RecordTable.add.Goals as goal

pub invariant_of-self : goal.invariant_of-self
invariant_of-self c =
    let items = c.push_reserved.ensures.items in
    let offer = sym c.parts-offer.ensures.offer in
    rw items (added-IsRecords c.self.inside.rows.items _ _ _ _ _ _ _ _ _ _ _ c.self.invariant (rw (← c.self.view_is) at c.requires.few) (grind (arith, common_steps)) (c.parts-offer.ensures.key ∙ ap key_of offer) (c.parts-offer.ensures.user ∙ ap (λ o. o.with.user) offer) (c.parts-offer.ensures.mark ∙ ap mark_of offer) (record { found = c.note.ensures.found }) (record { found = c.note-2.ensures.found }) (record { found = c.note-3.ensures.found }))
