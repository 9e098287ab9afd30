use Rattle.std.proofs.Common.{◌∙◌, ◌++◌, sym, ap, arith, take, get_or}
use Rattle.std.specs.Prelude.{option_map, option_to_list}
use Rattle.std.proofs.lemmas.List.{take_more}
use Rattle.ocm_rules.specs.Numbers.{at_number}
use Rattle.ocm_outgoing.specs.declared.rows.Sent.{Sent}
use Rattle.ocm_outgoing.specs.Threads.{at_numbers}
use Rattle.ocm_outgoing.proofs.Reading.{at_numbers-push}
use Rattle.ocm_outgoing.proofs.walks.copies.Goals as goal

pub loop-number-preserved : goal.loop-number-preserved
loop-number-preserved c =
    let more = take_more c.args.numbers.now c.loop-number.number-index 0 (omega arith) in
    c.in_ok-copy_at.ensures ∙ (ap (λ front. front ++ option_to_list (option_map (λ (row : Sent). row.numbered) (at_number c.args.rows.now (get_or c.args.numbers.now c.loop-number.number-index 0)))) c.loop-number.invariant
    ∙ (sym (at_numbers-push c.args.rows.now (take c.loop-number.number-index c.args.numbers.now) (get_or c.args.numbers.now c.loop-number.number-index 0)) ∙ ap (at_numbers c.args.rows.now) (sym more)))
