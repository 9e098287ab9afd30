use Rattle.std.proofs.Common.{◌≡◌, ℕ, suc, ◌+◌, ◌<◌, ◌++◌, ◌∷◌, [], length, get_or, false, true, None, Vec, sym, ap, ◌∙◌, arith}
use Rattle.std.proofs.lemmas.Option.{slice_get-get_or}
use Rattle.std.proofs.lemmas.List.{append-nil}
use Rattle.ocm_types.specs.declared.rights.Rights.{Rights}
use Rattle.ocm_chain.specs.declared.answers.Change.{Change}
use Rattle.ocm_chain.specs.declared.reaches.Reach.{Reach}
use Rattle.ocm_chain.specs.Hypotheses.{change_among, is_told_among, reaches_of}
use Rattle.ocm_chain.proofs.Hypothesis.{changes-more, told-yes, told-no}
use Rattle.ocm_chain.proofs.hypotheses.changes_among.Goals as goal
use Rattle.ocm_chain.proofs.hypotheses.changes_among.Goals.{in-Some+in_ok-push-in-Some, in-None}

change-of : ℕ → Rights → Change
change-of i rights = record { id = i; perms = rights }

pub loop-index-preserved : goal.loop-index-preserved
unfolding change-of
loop-index-preserved c =
    let rows = c.args.rows.now in
    let after = c.args.after.now in
    let k = c.loop-index.index in
    let within : k < length rows = c.loop-index-test.true in
    let blank : Reach = record { live = false; effective = record { read = false; write = false; share = false }; end = None } in
    let row = get_or rows k c.index-rows-index.result in
    let reach = get_or after k blank in
    let at = slice_get-get_or rows k c.index-rows-index.result within in
    let there = slice_get-get_or after k blank (omega (arith, within, c.requires.as_many)) in
    let next : k + 1 ≡ suc k = omega arith in
    elim c.match-told.branch [
      | in-Some+in_ok-push-in-Some w ↦
          let items = rw w.in_ok-push-in-Some.was at w.push.ensures.items in
          let told = told-yes c.args.moment rows after k row reach w.in-Some.perms at there w.in-Some.ensures in
          changes-more (change_among after) (is_told_among c.args.moment (reaches_of rows) after) k c.loop-index.changes.items c.match-told.changes.items true told.0 c.loop-index.invariant
          (ap (λ (v : Vec Change _). v.items) w.changes-is ∙ (items ∙ (ap (λ n. c.loop-index.changes.items ++ change-of n w.in-Some.perms ∷ []) next ∙ ap (λ r. c.loop-index.changes.items ++ change-of (suc k) r ∷ []) told.1)))
      | in-None w ↦
          let none = told-no c.args.moment rows after k row reach at there w.in-None.ensures in
          changes-more (change_among after) (is_told_among c.args.moment (reaches_of rows) after) k c.loop-index.changes.items c.match-told.changes.items false none c.loop-index.invariant
          (ap (λ (v : Vec Change _). v.items) w.changes-is ∙ sym (append-nil c.loop-index.changes.items))
    ]
