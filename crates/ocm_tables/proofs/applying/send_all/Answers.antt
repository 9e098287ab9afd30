use Rattle.std.proofs.Common.{◌∙◌, ◌++◌, ◌∷◌, [], length, length-append, append_assoc, sym, ap, arith}
use Rattle.std.specs.Prelude.{map}
use Rattle.std.specs.Vec.Iter.{into_iter_items}
use Rattle.std.proofs.lemmas.List.{map-append}
use Rattle.ocm_rules.specs.State.{new_sent_row}
use Rattle.ocm_tables.proofs.applying.send_all.Goals as goal

pub loop-message-preserved : goal.loop-message-preserved
loop-message-preserved c =
    let at = c.loop-message in
    let message = c.in-Some.message in
    let first = c.args.outbox.now.sent in
    let steps = c.in-Some.ensures.steps in
    let long = ap length steps.0 in
    let sent = c.push-number.ensures.sent in
    let longer = ap length sent in
    let both = length-append at.outbox.sent (new_sent_row message ∷ []) in (
      append_assoc at.yielded (message ∷ []) (into_iter_items c.next.new.self) ∙ (ap (λ l. at.yielded ++ l) (sym steps.0) ∙ at.invariant.0),
      omega (arith, steps.1, long, at.invariant.1),
      sent
          ∙ (ap (λ l. l ++ new_sent_row message ∷ []) at.invariant.2
          ∙ (append_assoc first (map new_sent_row at.yielded) (new_sent_row message ∷ []) ∙ ap (λ l. first ++ l) (sym (map-append new_sent_row at.yielded (message ∷ []))))),
      omega (arith, long, at.invariant.3, c.push-number.ensures.room),
      omega (arith, long, longer, both, at.invariant.4),
    )
