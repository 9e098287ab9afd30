use Rattle.std.proofs.Common.{◌≡◌, ℕ, [], List, Some, is_some, inl, refl, sym, ◌∙◌, ap, subst}
use Rattle.std.proofs.lemmas.Result.{err_from_is_err_and}
use Rattle.ocm_disk.specs.Disk.{Only}
use Rattle.ocm_journal_image.specs.Blank.{blank_of, IsBlank}
use Rattle.ocm_journal.specs.Openings.{Opens}
use Rattle.ocm_journal.specs.Passing.{FailsWithDisk}
use Rattle.ocm_journal.proofs.AppendStands.{on_ok}
use Rattle.ocm_journal.proofs.Made.{made_stands}
use Rattle.ocm_journal.proofs.OfBlank.{made_of}
use Rattle.ocm_journal.proofs.Moving.{still, joined}
use Rattle.ocm_journal.proofs.Passing.{not_failed, with_room}
use Rattle.ocm_journal.proofs.loading.open_blank.Goals as goal

pub returns-then-is_err-clause-any_moment : goal.returns-then-is_err-clause-any_moment
returns-then-is_err-clause-any_moment g c = λ tells only blank.
    let d = g.D.Disk in
    let P = Opens c.args.label.now c.args.area [] in
    let text = c.as_slice.ensures ∙ c.in_ok-text.ensures in
    let at_mid : blank_of c.args.label.now c.args.area (d.seen c.room.new.self) ≡ Some c.args.blank = ap (λ (l : List ℕ). blank_of c.args.label.now c.args.area l) c.room.ensures.seen ∙ blank in
    let only_mid : Only (d.seen c.room.new.self) (d.may_leave c.room.new.self) = λ x left. only x (c.room.ensures.crash tells x left) ∙ sym c.room.ensures.seen in
    let is_blank : IsBlank c.args.label.now c.args.area (d.seen c.args.disk.now) = ap (λ o. is_some o) blank in
    let first = still d.moment d.left_since c.args.disk.now c.room.new.self P (d.may_leave c.args.disk.now) (d.may_leave c.room.new.self) (g.met.D.Disk.only_now c.args.disk.now) (λ x left. subst (λ (l : List ℕ). P l) (sym (only x left)) (inl (is_blank, refl))) c.room.ensures.time (c.room.ensures.crash tells) in
    joined d.moment d.left_since c.args.disk.now c.room.new.self c.make.new.disk P first (c.make.ensures.any_moment tells only_mid c.args.label.now c.args.area c.requires.label c.requires.area text at_mid)

pub returns-clause-any_moment : goal.returns-clause-any_moment
returns-clause-any_moment g c = λ tells only blank.
    let d = g.D.Disk in
    let P = Opens c.args.label.now c.args.area [] in
    let text = c.as_slice.ensures ∙ c.in_ok-text.ensures in
    let at_mid : blank_of c.args.label.now c.args.area (d.seen c.room.new.self) ≡ Some c.args.blank = ap (λ (l : List ℕ). blank_of c.args.label.now c.args.area l) c.room.ensures.seen ∙ blank in
    let only_mid : Only (d.seen c.room.new.self) (d.may_leave c.room.new.self) = λ x left. only x (c.room.ensures.crash tells x left) ∙ sym c.room.ensures.seen in
    let is_blank : IsBlank c.args.label.now c.args.area (d.seen c.args.disk.now) = ap (λ o. is_some o) blank in
    let first = still d.moment d.left_since c.args.disk.now c.room.new.self P (d.may_leave c.args.disk.now) (d.may_leave c.room.new.self) (g.met.D.Disk.only_now c.args.disk.now) (λ x left. subst (λ (l : List ℕ). P l) (sym (only x left)) (inl (is_blank, refl))) c.room.ensures.time (c.room.ensures.crash tells) in
    joined d.moment d.left_since c.args.disk.now c.room.new.self c.make.new.disk P first (c.make.ensures.any_moment tells only_mid c.args.label.now c.args.area c.requires.label c.requires.area text at_mid)

pub returns-clause-opens : goal.returns-clause-opens
returns-clause-opens g c = λ tells blank.
    let d = g.D.Disk in
    let text = c.as_slice.ensures ∙ c.in_ok-text.ensures in
    let at_mid : blank_of c.args.label.now c.args.area (d.seen c.room.new.self) ≡ Some c.args.blank = ap (λ (l : List ℕ). blank_of c.args.label.now c.args.area l) c.room.ensures.seen ∙ blank in
    let good = sym c.is_err.ensures.value ∙ c.if-is_err.false in
    let made = on_ok c.make.result _ good (c.make.ensures.made tells c.args.label.now c.args.area text at_mid) in
    made_stands c.args.label.now c.args.area c.made_form.result c.args.blank c.none.result (d.seen c.args.disk.now) (d.seen c.make.new.disk) c.made_form.ensures c.none.ensures blank made c.requires.label c.requires.area

pub returns-clause-made : goal.returns-clause-made
returns-clause-made g c = λ blank. made_of c.args.label.now (g.D.Disk.seen c.args.disk.now) c.args.area c.made_form.result c.args.blank blank c.made_form.ensures

pub returns-in_err-text-clause-unfailing : goal.returns-in_err-text-clause-unfailing
unfolding FailsWithDisk
returns-in_err-text-clause-unfailing g c = let p = err_from_is_err_and c.from_residual.result c.from_residual.ensures.1 in rw (p.1, p.2) (tt, λ all. (all, tt))

pub returns-in_err-room-clause-unfailing : goal.returns-in_err-room-clause-unfailing
unfolding FailsWithDisk
returns-in_err-room-clause-unfailing g c = let p = err_from_is_err_and c.from_residual-in_err-room.result c.from_residual-in_err-room.ensures.1 in rw (p.1, p.2) (tt, λ all. (λ n. c.room.ensures.passes n (all n), tt))

pub returns-then-is_err-clause-unfailing : goal.returns-then-is_err-clause-unfailing
unfolding FailsWithDisk
returns-then-is_err-clause-unfailing g c = (tt, λ all. absurd (not_failed c.make.result (with_room g.D.Disk c.room.new.self c.make.new.disk c.make.result c.make.ensures.passes c.in_ok-room.ensures.room (λ n. c.room.ensures.passes n (all n))).0 (sym c.is_err.ensures.value ∙ c.if-is_err.true)))

pub returns-clause-unfailing : goal.returns-clause-unfailing
unfolding FailsWithDisk
returns-clause-unfailing g c = (on_ok c.make.result _ (sym c.is_err.ensures.value ∙ c.if-is_err.false) c.make.ensures.cause.passed ∙ c.room.ensures.count, λ all. ((with_room g.D.Disk c.room.new.self c.make.new.disk c.make.result c.make.ensures.passes c.in_ok-room.ensures.room (λ n. c.room.ensures.passes n (all n))).1, tt))
