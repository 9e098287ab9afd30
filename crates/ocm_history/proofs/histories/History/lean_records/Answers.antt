use Rattle.std.proofs.Common.{◌≡◌, ◌+◌, ◌++◌, ◌∷◌, [], Err, ap, ◌∙◌, sym, subst, arith, refl, take}
use Rattle.std.specs.Prelude.{option_copied}
use Rattle.std.proofs.lemmas.Result.{err_from_is_err_and}
use Rattle.std.proofs.Math.Seq.{take-length}
use Rattle.ocm_history_records.specs.declared.faults.RecordFault.TheVariants.{TooLong}
use Rattle.ocm_history.specs.Histories.{home_of}
use Rattle.ocm_history_records.specs.Kept.{IsTooLong, is_tick_record, lean_asks, lean_text}
use Rattle.ocm_history.specs.Kept.{bodies_with}
use Rattle.ocm_history_records.proofs.Counting.{all-read, asks-more, newest-short, next-read, older-short}
use Rattle.ocm_history_records.proofs.Leaning.{with_record}
use Rattle.ocm_history.proofs.Memories.{body-with, change-lengths, records-done}
use Rattle.ocm_history.proofs.histories.History.lean_records.Goals as goal

pub loop-kept-preserved : goal.loop-kept-preserved
loop-kept-preserved c =
    let rs = c.args.self.now.records.items in
    let r = c.in-Some.kept in
    let next = next-read rs c.loop-kept.left c.next.new.self c.loop-kept.number r c.loop-kept.invariant.left c.in-Some.ensures in
    record {
      left = next.left;
      within = omega (arith, next.below);
      sizes = c.in_ok-add_asked.ensures.sizes c.loop-kept.invariant.sizes;
      lean = λ g ask form draft change.
          c.in_ok-add_asked.ensures.text
          ∙ ap (λ o. with_record (is_tick_record r) c.loop-kept.texts (lean_text r o)) (body-with c.args.self.now g ask c.args.planned.now form draft _ _ c.requires.few c.standing-standing.ensures.history change)
          ∙ ap (λ ts. with_record (is_tick_record r) ts (lean_text r (bodies_with (home_of c.args.self.now) g ask (c.loop-kept.number + 1)))) (c.loop-kept.invariant.lean g ask form draft change)
          ∙ sym (asks-more (bodies_with (home_of c.args.self.now) g ask) rs c.loop-kept.number r next.below next.is);
    }

pub returns-in_err-add_asked-clause-not_full : goal.returns-in_err-add_asked-clause-not_full
returns-in_err-add_asked-clause-not_full c = λ g ask form draft change is wrong.
    let rs = c.args.self.now.records.items in
    let r = c.in-Some.kept in
    let next = next-read rs c.loop-kept.left c.next.new.self c.loop-kept.number r c.loop-kept.invariant.left c.in-Some.ensures in
    let bodies = bodies_with (home_of c.args.self.now) g ask in
    let p = err_from_is_err_and c.from_residual-in_err-add_asked.result c.from_residual-in_err-add_asked.ensures.1 in
    let given = p.1 in
    let same = p.2 in
    let failed : c.add_asked.result ≡ Err TooLong = cc (c.in_err-add_asked.was) in
    let long = c.add_asked.ensures.full failed in
    older-short bodies rs c.args.newest.now c.loop-kept.number r next.below next.is long.0
    (change-lengths c.args.self.now g ask c.args.planned.now form draft c.args.newest.now change is)
    (subst (λ o. IsTooLong (lean_text r o)) (body-with c.args.self.now g ask c.args.planned.now form draft _ _ c.requires.few c.standing-standing.ensures.history change) long.1)

pub returns-in_err-add_text-clause-not_full : goal.returns-in_err-add_text-clause-not_full
returns-in_err-add_text-clause-not_full c = λ g ask form draft change is wrong.
    let rs = c.args.self.now.records.items in
    let whole = all-read rs c.loop-kept.left c.loop-kept.number c.loop-kept.invariant.left (rw c.in_default.is at c.next.ensures).0 c.loop-kept.invariant.within in
    let bodies = bodies_with (home_of c.args.self.now) g ask in
    let p = err_from_is_err_and c.from_residual-in_err-add_text.result c.from_residual-in_err-add_text.ensures.1 in
    let given = p.1 in
    let same = p.2 in
    let failed : c.add_text.result ≡ Err TooLong = cc (c.in_err-add_text.was) in
    newest-short bodies rs c.args.newest.now
    (change-lengths c.args.self.now g ask c.args.planned.now form draft c.args.newest.now change is)
    (subst (λ o. IsTooLong (lean_text c.args.newest.now o)) (body-with c.args.self.now g ask c.args.planned.now form draft _ _ c.requires.few c.standing-standing-2.ensures.history change ∙ ap (λ n. bodies (n + 1)) whole) (subst (λ r. IsTooLong (lean_text r (option_copied c.standing-standing-2.result))) c.view.ensures (c.add_text.ensures.full failed)))

pub returns-clause-lean : goal.returns-clause-lean
returns-clause-lean c = λ g ask form draft change is.
    let rs = c.args.self.now.records.items in
    let whole = all-read rs c.loop-kept.left c.loop-kept.number c.loop-kept.invariant.left (rw c.in_default.is at c.next.ensures).0 c.loop-kept.invariant.within in
    let bodies = bodies_with (home_of c.args.self.now) g ask in
    c.in_ok-add_text.ensures.text
    ∙ ap (λ r. c.loop-kept.texts ++ lean_text r (option_copied c.standing-standing-2.result) ∷ []) c.view.ensures
    ∙ ap (λ o. c.loop-kept.texts ++ lean_text c.args.newest.now o ∷ []) (body-with c.args.self.now g ask c.args.planned.now form draft _ _ c.requires.few c.standing-standing-2.ensures.history change ∙ ap (λ n. bodies (n + 1)) whole)
    ∙ records-done c.args.self.now g ask c.args.planned.now form draft c.args.newest.now rs c.loop-kept.texts change is refl
    (c.loop-kept.invariant.lean g ask form draft change ∙ ap (lean_asks bodies 1) (ap (λ n. take n rs) whole ∙ take-length rs))
