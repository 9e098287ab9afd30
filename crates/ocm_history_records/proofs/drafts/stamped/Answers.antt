use Rattle.std.proofs.Common.{◌≡◌, ◌∷◌, ◌++◌, drop, length, ap, subst, ◌∙◌, sym, arith}
use Rattle.std.specs.Prelude.{IfOk}
use Rattle.ocm_entry_bytes.specs.Spells.{eight_bytes, spelling}
use Rattle.ocm_history_records.proofs.Fields.{draft-length, stamp-other, stamp-tick}
use Rattle.ocm_history_records.proofs.drafts.stamped.Goals as goal
use Rattle.ocm_history_records.proofs.drafts.stamped.Goals.{then-not-is_tick+in_ok-add_ask, else-not-is_tick}

pub finish-requires-clause-few : goal.finish-requires-clause-few
unfolding eight_bytes
finish-requires-clause-few c =
    let ask = c.args.ask.now in
    let begun : c.add.new.self ≡ 0 ∷ 0 ∷ 0 ∷ 0 ∷ eight_bytes c.args.clock =
    c.in_ok-add.ensures.ok ∙ ap (λ t. t ++ c.to_be_bytes.result) c.in_ok-text.ensures ∙ ap (λ e. 0 ∷ 0 ∷ 0 ∷ 0 ∷ e) c.to_be_bytes.ensures in
    elim c.if-not-is_tick.branch [
      | then-not-is_tick+in_ok-add_ask w ↦
          let is = w.text-is ∙ w.in_ok-add_ask.ensures.ok ∙ ap (λ t. t ++ spelling ask) begun
          ∙ ap (λ e. 0 ∷ 0 ∷ 0 ∷ 0 ∷ e) (sym (stamp-other c.args.clock ask (sym c.is_tick.ensures.is ∙ w.if-not-is_tick.true))) in
          let len = draft-length 2 c.args.clock ask w.in_ok-add_ask.ensures.fits in
          omega (arith, ap length is, len.1)
      | else-not-is_tick w ↦
          let is = w.text-is ∙ begun ∙ ap (λ e. 0 ∷ 0 ∷ 0 ∷ 0 ∷ e) (sym (stamp-tick c.args.clock ask (sym c.is_tick.ensures.is ∙ w.if-not-is_tick.false))) in
          let len = draft-length 2 c.args.clock ask (c.is_tick.ensures.fits w.if-not-is_tick.false) in
          omega (arith, ap length is, len.1)
    ]

pub returns-clause-text : goal.returns-clause-text
unfolding eight_bytes
returns-clause-text c =
    let ask = c.args.ask.now in
    let begun : c.add.new.self ≡ 0 ∷ 0 ∷ 0 ∷ 0 ∷ eight_bytes c.args.clock =
    c.in_ok-add.ensures.ok ∙ ap (λ t. t ++ c.to_be_bytes.result) c.in_ok-text.ensures ∙ ap (λ e. 0 ∷ 0 ∷ 0 ∷ 0 ∷ e) c.to_be_bytes.ensures in
    elim c.if-not-is_tick.branch [
      | then-not-is_tick+in_ok-add_ask w ↦
          subst (λ t. IfOk c.finish.result (λ written. written ≡ t))
          (ap (drop 4) (w.text-is ∙ w.in_ok-add_ask.ensures.ok ∙ ap (λ t. t ++ spelling ask) begun)
          ∙ sym (stamp-other c.args.clock ask (sym c.is_tick.ensures.is ∙ w.if-not-is_tick.true))) c.finish.ensures
      | else-not-is_tick w ↦
          subst (λ t. IfOk c.finish.result (λ written. written ≡ t))
          (ap (drop 4) (w.text-is ∙ begun) ∙ sym (stamp-tick c.args.clock ask (sym c.is_tick.ensures.is ∙ w.if-not-is_tick.false))) c.finish.ensures
    ]
