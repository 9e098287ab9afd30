use Rattle.std.proofs.Common.{◌++◌, ◌∷◌, [], List, ℕ, ap, ◌∙◌, arith}
use Rattle.ocm_journal_area.specs.Areas.{records_in}
use Rattle.ocm_journal_area.proofs.Adding.{Holds, holds-more, length-pieces, pieces}
use Rattle.ocm_journal_area.proofs.area_records.AreaRecords.add.Goals as goal
use Rattle.ocm_journal_area.proofs.area_records.AreaRecords.add.Goals.{After-put-5}

-- what is written is the records with one more
written : (c : After-put-5) → Holds c.put-5.new.text.items (records_in c.self.inside.text.items ++ (c.args.front.now ++ c.args.middle.now ++ c.args.back.now) ∷ [])
written c =
    let front : List ℕ = c.args.front.now in
    let middle : List ℕ = c.args.middle.now in
    let back : List ℕ = c.args.back.now in
    let size = length-pieces front middle back in
    holds-more c.self.inside.text.items c.put-5.new.text.items (front ++ middle ++ back) c.self.invariant.0 c.self.invariant.1 (omega (arith, size, c.requires.some)) (omega (arith, size, c.requires.few))
    (pieces c.self.inside.text.items c.to_be_bytes.result front middle back c.put.new.text.items c.put-2.new.text.items c.put-3.new.text.items c.put-4.new.text.items c.put-5.new.text.items _
    (c.put.ensures.items ∙ ap (λ t. t ++ 1 ∷ []) c.in_ok-reserve.ensures.items) c.put-2.ensures.items c.put-3.ensures.items c.put-4.ensures.items c.put-5.ensures.items c.to_be_bytes.ensures (omega arith))

pub invariant_of-self-2 : goal.invariant_of-self-2
invariant_of-self-2 c = let w = written c in (w.are, w.bytes)

pub returns-clause-ok : goal.returns-clause-ok
returns-clause-ok c = (written c).records ∙ ap (λ rs. rs ++ (c.args.front.now ++ c.args.middle.now ++ c.args.back.now) ∷ []) c.self.view_is
