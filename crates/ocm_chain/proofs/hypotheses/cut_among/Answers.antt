use Rattle.std.proofs.Common.{◌≡◌, ℕ, suc, ◌+◌, ◌<◌, ◌++◌, ◌∷◌, [], length, get_or, false, true, None, Vec, sym, ap, ◌∙◌, arith}
use Rattle.std.proofs.lemmas.Option.{slice_get-get_or}
use Rattle.std.proofs.lemmas.List.{append-nil}
use Rattle.ocm_chain.specs.declared.reaches.Reach.{Reach}
use Rattle.ocm_chain.specs.Hypotheses.{is_cut_among, reaches_of}
use Rattle.ocm_chain.proofs.Hypothesis.{filter-more, cut-here}
use Rattle.ocm_chain.proofs.hypotheses.cut_among.Goals as goal
use Rattle.ocm_chain.proofs.hypotheses.cut_among.Goals.{then-is_cut+in_ok-push, else-is_cut}

pub loop-index-preserved : goal.loop-index-preserved
loop-index-preserved c =
    let rows = c.args.rows.now in
    let after = c.args.after.now in
    let k = c.loop-index.index in
    let within : k < length rows = c.loop-index-test.true in
    let blank : Reach = record { live = false; effective = record { read = false; write = false; share = false }; end = None } in
    let at = slice_get-get_or rows k c.index-rows-index.result within in
    let there = slice_get-get_or after k blank (omega (arith, within, c.requires.as_many)) in
    let test = cut-here c.args.moment rows after k (get_or rows k c.index-rows-index.result) (get_or after k blank) at there ∙ sym c.is_cut.ensures in
    let next : k + 1 ≡ suc k = omega arith in
    elim c.if-is_cut.branch [
      | then-is_cut+in_ok-push w ↦
          let items = rw w.in_ok-push.was at w.push.ensures.items in
          filter-more (is_cut_among c.args.moment (reaches_of rows) after) k c.loop-index.numbers.items c.if-is_cut.numbers.items true (test ∙ w.if-is_cut.true) c.loop-index.invariant
          (ap (λ (v : Vec ℕ _). v.items) w.numbers-is ∙ (items ∙ ap (λ n. c.loop-index.numbers.items ++ n ∷ []) next))
      | else-is_cut w ↦
          filter-more (is_cut_among c.args.moment (reaches_of rows) after) k c.loop-index.numbers.items c.if-is_cut.numbers.items false (test ∙ w.if-is_cut.false) c.loop-index.invariant
          (ap (λ (v : Vec ℕ _). v.items) w.numbers-is ∙ sym (append-nil c.loop-index.numbers.items))
    ]
