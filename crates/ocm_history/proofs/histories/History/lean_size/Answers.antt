use Rattle.std.proofs.Common.{◌+◌, ℕ, List, Option, ap, ◌∙◌, arith, length, min, refl, take}
use Rattle.std.specs.Prelude.{option_copied}
use Rattle.std.proofs.Math.Seq.{take-length}
use Rattle.ocm_journal_image.specs.Layout.{blocks_size}
use Rattle.ocm_history_records.specs.declared.kept.KeptRecord.{KeptRecord}
use Rattle.ocm_history.specs.Histories.{home_of}
use Rattle.ocm_history_records.specs.Kept.{asked_size, lean_asks, lean_text}
use Rattle.ocm_history.specs.Kept.{bodies_with}
use Rattle.ocm_history_records.proofs.Counting.{all-read, next-read, size-more}
use Rattle.ocm_history.proofs.Memories.{body-with, size-done}
use Rattle.ocm_history.proofs.histories.History.lean_size.Goals as goal

-- the size of a record with a body
abbrev asked : KeptRecord → Option (List ℕ) → ℕ
asked r standing = min (asked_size r (5 + length (lean_text r standing))) 18446744073709551615

pub loop-kept-preserved : goal.loop-kept-preserved
loop-kept-preserved c =
    let rs = c.args.self.now.records.items in
    let r = c.in-Some.kept in
    let next = next-read rs c.loop-kept.left c.next.new.self c.loop-kept.number r c.loop-kept.invariant.left c.in-Some.ensures in
    record {
      left = next.left;
      within = omega (arith, next.below);
      size = λ g ask form draft change.
          size-more (bodies_with (home_of c.args.self.now) g ask) rs c.loop-kept.number r c.loop-kept.size c.asked_size.result c.saturating_add-size.result
          next.below next.is (c.loop-kept.invariant.size g ask form draft change)
          (c.asked_size.ensures ∙ ap (asked r) (body-with c.args.self.now g ask c.args.planned.now form draft _ _ c.requires.few c.standing-standing.ensures.history change))
          c.saturating_add-size.ensures;
    }

pub returns : goal.returns
returns c = λ g ask form draft change is.
    let rs = c.args.self.now.records.items in
    let whole = all-read rs c.loop-kept.left c.loop-kept.number c.loop-kept.invariant.left (rw c.in_default.is at c.next.ensures).0 c.loop-kept.invariant.within in
    size-done c.args.self.now g ask c.args.planned.now form draft c.args.newest.now rs c.loop-kept.size c.asked_size-2.result c.saturating_add.result change is refl
    (c.loop-kept.invariant.size g ask form draft change
    ∙ ap (λ xs. min (blocks_size (lean_asks (bodies_with (home_of c.args.self.now) g ask) 1 xs)) 18446744073709551615) (ap (λ n. take n rs) whole ∙ take-length rs))
    (c.asked_size-2.ensures ∙ ap (λ r. asked r (option_copied c.standing-standing-2.result)) c.view.ensures ∙ ap (asked c.args.newest.now) (body-with c.args.self.now g ask c.args.planned.now form draft _ _ c.requires.few c.standing-standing-2.ensures.history change ∙ ap (λ n. bodies_with (home_of c.args.self.now) g ask (n + 1)) whole))
    c.saturating_add.ensures
