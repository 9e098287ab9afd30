use Rattle.std.proofs.Common.{ap, ◌∙◌, arith, length}
use Rattle.std.proofs.lemmas.List.{length-append}
use Rattle.ocm_history_records.specs.Packed.{all_of}
use Rattle.ocm_history_records.proofs.Packing.{all-cleared, all-packed}
use Rattle.ocm_history_records.proofs.lists.KeptRecords.pack.Goals as goal

pub invariant_of-self-2 : goal.invariant_of-self-2
invariant_of-self-2 c =
    let all = ap length (all-packed c.self.inside.blocks.items c.push.new.self.items c.in_ok-block.block c.self.inside.newest.items c.in_ok-push.ensures.items (c.in_ok-block.ensures ∙ c.as_slice.ensures.value)) in
    let both = length-append (all_of c.self.inside.blocks.items) c.self.inside.newest.items in
    let cleared = ap length (all-cleared (all_of c.push.new.self.items) c.clear.new.self.items c.clear.ensures.items) in
    (omega (arith, all, both, c.self.invariant.0), omega (arith, c.self.invariant.1), omega (arith, all, both, cleared, c.self.invariant.2))

pub returns-clause-items : goal.returns-clause-items
returns-clause-items c =
    all-cleared (all_of c.push.new.self.items) c.clear.new.self.items c.clear.ensures.items
    ∙ all-packed c.self.inside.blocks.items c.push.new.self.items c.in_ok-block.block c.self.inside.newest.items c.in_ok-push.ensures.items (c.in_ok-block.ensures ∙ c.as_slice.ensures.value)
    ∙ ap (λ k. k.items) c.self.view_is
