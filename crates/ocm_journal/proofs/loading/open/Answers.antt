use Rattle.std.proofs.Common.{◌⊎◌, ℕ, List, IfOk, is_some, inl, inr, sym, ◌∙◌, ap, subst}
use Rattle.ocm_journal_image.specs.Blank.{blank_of}
use Rattle.ocm_disk.specs.Disk.{Only}
use Rattle.ocm_journal.specs.Openings.{IsMadeAs, StaysAsItOpens}
use Rattle.ocm_journal.specs.Passing.{FailsWithDisk}
use Rattle.ocm_journal.proofs.AppendStands.{on_ok}
use Rattle.ocm_journal.proofs.Moving.{still, weaker, joined}
use Rattle.ocm_journal.proofs.Passing.{not_failed, some_calls, behind_same}
use Rattle.ocm_journal.proofs.loading.open.Goals as goal

pub returns-clause-any_moment : goal.returns-clause-any_moment
returns-clause-any_moment g c = λ tells faithful.
    let d = g.D.Disk in
    let P : List ℕ → Type 0 = λ x. d.may_leave c.args.disk.now x ⊎ StaysAsItOpens c.args.label.now c.args.area (d.seen c.args.disk.now) x in
    let good = sym c.is_err.ensures.value ∙ c.if-is_err.false in
    let durable = on_ok c.sync.result _ good (c.sync.ensures.durable tells) in
    let only_mid : Only (d.seen c.sync.new.self) (d.may_leave c.sync.new.self) = λ x left. durable x left ∙ sym c.sync.ensures.seen in
    let first = still d.moment d.left_since c.args.disk.now c.sync.new.self P (d.may_leave c.args.disk.now) (d.may_leave c.sync.new.self) (g.met.D.Disk.only_now c.args.disk.now) (λ x left. inl left) c.sync.ensures.time (c.sync.ensures.crash tells) in
    let last = weaker d.moment d.left_since c.sync.new.self c.open_synced.new.disk (StaysAsItOpens c.args.label.now c.args.area (d.seen c.sync.new.self)) P (c.open_synced.ensures.any_moment tells faithful only_mid) (λ x stays. inr (subst (λ (b : List ℕ). StaysAsItOpens c.args.label.now c.args.area b x) c.sync.ensures.seen stays)) in
    joined d.moment d.left_since c.args.disk.now c.sync.new.self c.open_synced.new.disk P first last

pub returns-then-is_err-clause-stays : goal.returns-then-is_err-clause-stays
returns-then-is_err-clause-stays g c = λ tells faithful. inl c.sync.ensures.seen

-- what it reads now is among what a crash from the sync on might leave
pub returns-clause-stays : goal.returns-clause-stays
returns-clause-stays g c = λ tells faithful.
    let d = g.D.Disk in
    let good = sym c.is_err.ensures.value ∙ c.if-is_err.false in
    let durable = on_ok c.sync.result _ good (c.sync.ensures.durable tells) in
    let only_mid : Only (d.seen c.sync.new.self) (d.may_leave c.sync.new.self) = λ x left. durable x left ∙ sym c.sync.ensures.seen in
    let leaves = c.open_synced.ensures.any_moment tells faithful only_mid in
    let now : List ℕ = d.seen c.open_synced.new.disk in
    let here = g.met.D.Disk.counts_now c.open_synced.new.disk (d.moment c.sync.new.self) now leaves.later (g.met.D.Disk.reads_an_image c.open_synced.new.disk) in
    subst (λ (b : List ℕ). StaysAsItOpens c.args.label.now c.args.area b now) c.sync.ensures.seen (leaves.each now here)

pub returns-clause-made : goal.returns-clause-made
returns-clause-made g c = λ tells faithful.
    let made : List ℕ → Type 0 = λ seen. IfOk c.open_synced.result (λ opened. IsMadeAs c.args.label.now c.args.area seen opened.form opened.area) in
    subst made c.sync.ensures.seen (c.open_synced.ensures.made tells faithful)

pub returns-clause-same : goal.returns-clause-same
returns-clause-same g c = λ tells faithful none.
    let d = g.D.Disk in
    c.open_synced.ensures.same tells faithful (ap (λ (l : List ℕ). blank_of c.args.label.now c.args.area l) c.sync.ensures.seen ∙ none) ∙ c.sync.ensures.seen

pub returns-clause-first : goal.returns-clause-first
returns-clause-first g c = λ tells faithful blank. c.open_synced.ensures.first tells faithful (ap (λ (l : List ℕ). is_some (blank_of c.args.label.now c.args.area l)) c.sync.ensures.seen ∙ blank)

pub returns-then-is_err-clause-unfailing : goal.returns-then-is_err-clause-unfailing
unfolding FailsWithDisk
returns-then-is_err-clause-unfailing g c = (tt, λ all. absurd (not_failed c.sync.result (some_calls g.D.Disk c.args.disk.now c.sync.new.self c.sync.result 1 c.sync.ensures.passes all).0 (sym c.is_err.ensures.value ∙ c.if-is_err.true)))

pub returns-clause-unfailing : goal.returns-clause-unfailing
returns-clause-unfailing g c = behind_same g.D.Disk c.args.disk.now c.sync.new.self c.open_synced.new.disk c.open_synced.result (on_ok c.sync.result _ (sym c.is_err.ensures.value ∙ c.if-is_err.false) c.sync.ensures.cause.passed) (λ all. (some_calls g.D.Disk c.args.disk.now c.sync.new.self c.sync.result 1 c.sync.ensures.passes all).1) c.open_synced.ensures.unfailing

pub returns-then-is_err-clause-synced : goal.returns-then-is_err-clause-synced
returns-then-is_err-clause-synced g c = λ tells faithful one. absurd (not_failed c.sync.result (c.sync.ensures.passes 0 one).0 (sym c.is_err.ensures.value ∙ c.if-is_err.true))

pub returns-clause-synced : goal.returns-clause-synced
returns-clause-synced g c = λ tells faithful one x left.
    let d = g.D.Disk in
    let good = sym c.is_err.ensures.value ∙ c.if-is_err.false in
    let durable = on_ok c.sync.result _ good (c.sync.ensures.durable tells) in
    let only_mid : Only (d.seen c.sync.new.self) (d.may_leave c.sync.new.self) = λ y was. durable y was ∙ sym c.sync.ensures.seen in
    let leaves = c.open_synced.ensures.any_moment tells faithful only_mid in
    let here = g.met.D.Disk.counts_now c.open_synced.new.disk (d.moment c.sync.new.self) x leaves.later left in
    subst (λ (b : List ℕ). StaysAsItOpens c.args.label.now c.args.area b x) c.sync.ensures.seen (leaves.each x here)
