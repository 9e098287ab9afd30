use Rattle.std.proofs.Common.{◌++◌, ◌∷◌, [], length, append_assoc, ap, ◌∙◌, arith}
use Rattle.std.proofs.lemmas.List.{length-append}
use Rattle.ocm_entry_bytes.specs.Spells.{counted, four_bytes}
use Rattle.ocm_history_records.proofs.Fields.{counted-long}
use Rattle.ocm_history_records.proofs.views.add_with_body.Goals as goal

pub returns-clause-text : goal.returns-clause-text
unfolding counted four_bytes
returns-clause-text c =
    let front = c.args.front.now in
    let body = c.args.body.now in
    c.in_ok-add.ensures.ok
    ∙ ap (λ r. c.args.texts.now ++ r ∷ []) (ap (λ n. front ++ n ++ body) c.to_be_bytes.ensures ∙ append_assoc front (four_bytes (length body)) body)

pub returns-clause-length : goal.returns-clause-length
returns-clause-length c =
    let both = length-append c.args.front.now (counted c.args.body.now) in
    let long = counted-long c.args.body.now in
    (omega arith, omega arith)

pub returns-then-saturating_add-clause-full : goal.returns-then-saturating_add-clause-full
returns-then-saturating_add-clause-full c = λ is.
    let both = length-append c.args.front.now (counted c.args.body.now) in
    let long = counted-long c.args.body.now in
    omega arith
