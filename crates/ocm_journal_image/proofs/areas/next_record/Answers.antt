use Rattle.std.proofs.Common.{ℕ, ◌+◌, ◌-◌, List, length, take, drop, refl}
use Rattle.ocm_journal_image.proofs.RecordsRead.{next_is_taken}
use Rattle.ocm_journal_image.proofs.areas.next_record.Goals as goal

pub returns-in-Some : goal.returns-in-Some
returns-in-Some c =
    let rest : List ℕ = c.args.rest.now in
    let bytes : List ℕ = take (4 + c.in-Some.length - 4) (drop 4 (take (length rest - 1) (drop 1 rest))) in
    next_is_taken c.args.place c.in-Some.length rest bytes c.in-len1-up.len_at_least c.if-gate-ne1.false c.in-Some.ensures refl
