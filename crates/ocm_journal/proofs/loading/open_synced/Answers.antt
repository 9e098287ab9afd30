use Rattle.std.proofs.Common.{◌≡◌, ℕ, [], List, length, take, drop, Some, None, IfOk, is_some, inl, inr, sym, ◌∙◌, ap, subst}
use Rattle.std.proofs.lemmas.Result.{err_from_is_err_and}
use Rattle.ocm_disk.specs.Disk.{Only}
use Rattle.ocm_journal_image.specs.Blank.{blank_of, IsBlank}
use Rattle.std.specs.Prelude.{IfErr}
use Rattle.ocm_journal_image.specs.Reading.{header_of}
use Rattle.ocm_journal.specs.Openings.{Opens, IsMadeAs, IsSaidBy, StaysAsItOpens, opening, records_below, unless_blank}
use Rattle.ocm_journal.specs.Passing.{FailsWithDisk}
use Rattle.ocm_journal.proofs.Moving.{weaker, joined}
use Rattle.ocm_journal.proofs.OfBlank.{if_ok_each, none_made}
use Rattle.ocm_journal.proofs.OpenedImage.{front_is}
use Rattle.ocm_journal.proofs.Passing.{always, behind}
use Rattle.ocm_journal.proofs.loading.open_synced.Goals as goal

pub returns-in-Some-clause-any_moment : goal.returns-in-Some-clause-any_moment
returns-in-Some-clause-any_moment g c = λ tells faithful only.
    let d = g.D.Disk in
    let seen : List ℕ = d.seen c.args.disk.now in
    let was = c.open_blank.ensures.faithful faithful in
    let same : d.seen c.read_part.new.disk ≡ seen = c.read_part.ensures.seen was in
    let P = StaysAsItOpens c.args.label.now c.args.area seen in
    let front = front_is c.deref.result.now c.in_ok-front.front.items seen c.min.result c.deref.ensures.value (c.in_ok-front.ensures.bytes tells ∙ ap (λ (l : List ℕ). take c.min.result (drop 0 l)) same) c.in_ok-front.ensures.length in
    let size : length seen ≡ c.len-len.result = g.met.D.Disk.sizes c.args.disk.now tells ∙ sym c.len-len.ensures in
    let blank : blank_of c.args.label.now c.args.area seen ≡ Some c.in-Some.blank = sym (c.in_ok-blank.ensures.blank seen size front) ∙ c.in-Some.is in
    let is_blank : IsBlank c.args.label.now c.args.area seen = ap (λ o. is_some o) blank in
    let at_mid : blank_of c.args.label.now c.args.area (d.seen c.read_part.new.disk) ≡ Some c.in-Some.blank = ap (λ (l : List ℕ). blank_of c.args.label.now c.args.area l) same ∙ blank in
    let only_mid : Only (d.seen c.read_part.new.disk) (d.may_leave c.read_part.new.disk) = c.read_part.ensures.settled tells only in
    let first = weaker d.moment d.left_since c.args.disk.now c.read_part.new.disk (d.may_leave c.args.disk.now) P (c.read_part.ensures.any_moment tells was) (λ x left. inl (only x left)) in
    let last = weaker d.moment d.left_since c.read_part.new.disk c.open_blank.new.disk (Opens c.args.label.now c.args.area []) P (c.open_blank.ensures.any_moment tells only_mid at_mid) (λ x opens. inr (is_blank, opens)) in
    joined d.moment d.left_since c.args.disk.now c.read_part.new.disk c.open_blank.new.disk P first last

pub returns-in-Some-clause-made : goal.returns-in-Some-clause-made
returns-in-Some-clause-made g c = λ tells faithful.
    let d = g.D.Disk in
    let seen : List ℕ = d.seen c.args.disk.now in
    let was = c.open_blank.ensures.faithful faithful in
    let same : d.seen c.read_part.new.disk ≡ seen = c.read_part.ensures.seen was in
    let front = front_is c.deref.result.now c.in_ok-front.front.items seen c.min.result c.deref.ensures.value (c.in_ok-front.ensures.bytes tells ∙ ap (λ (l : List ℕ). take c.min.result (drop 0 l)) same) c.in_ok-front.ensures.length in
    let size : length seen ≡ c.len-len.result = g.met.D.Disk.sizes c.args.disk.now tells ∙ sym c.len-len.ensures in
    let blank : blank_of c.args.label.now c.args.area seen ≡ Some c.in-Some.blank = sym (c.in_ok-blank.ensures.blank seen size front) ∙ c.in-Some.is in
    let at_mid : blank_of c.args.label.now c.args.area (d.seen c.read_part.new.disk) ≡ Some c.in-Some.blank = ap (λ (l : List ℕ). blank_of c.args.label.now c.args.area l) same ∙ blank in
    subst (λ (l : List ℕ). IfOk c.open_blank.result (λ opened. IsMadeAs c.args.label.now c.args.area l opened.form opened.area)) same (c.open_blank.ensures.made at_mid)

pub returns-clause-made : goal.returns-clause-made
returns-clause-made g c = λ tells faithful.
    let d = g.D.Disk in
    let seen : List ℕ = d.seen c.args.disk.now in
    let was = c.open_image.ensures.faithful faithful in
    let same : d.seen c.read_part.new.disk ≡ seen = c.read_part.ensures.seen was in
    let front = front_is c.deref.result.now c.in_ok-front.front.items seen c.min.result c.deref.ensures.value (c.in_ok-front.ensures.bytes tells ∙ ap (λ (l : List ℕ). take c.min.result (drop 0 l)) same) c.in_ok-front.ensures.length in
    let size : length seen ≡ c.len-len.result = g.met.D.Disk.sizes c.args.disk.now tells ∙ sym c.len-len.ensures in
    let none : blank_of c.args.label.now c.args.area seen ≡ None = sym (c.in_ok-blank.ensures.blank seen size front) ∙ c.in-None.is in
    if_ok_each c.open_image.result _ (λ opened. none_made c.args.label.now seen c.args.area opened.form opened.area none)

pub returns-in-Some-clause-same : goal.returns-in-Some-clause-same
returns-in-Some-clause-same g c = λ tells faithful none.
    let d = g.D.Disk in
    let seen : List ℕ = d.seen c.args.disk.now in
    let was = c.open_blank.ensures.faithful faithful in
    let same : d.seen c.read_part.new.disk ≡ seen = c.read_part.ensures.seen was in
    let front = front_is c.deref.result.now c.in_ok-front.front.items seen c.min.result c.deref.ensures.value (c.in_ok-front.ensures.bytes tells ∙ ap (λ (l : List ℕ). take c.min.result (drop 0 l)) same) c.in_ok-front.ensures.length in
    let size : length seen ≡ c.len-len.result = g.met.D.Disk.sizes c.args.disk.now tells ∙ sym c.len-len.ensures in
    let blank : blank_of c.args.label.now c.args.area seen ≡ Some c.in-Some.blank = sym (c.in_ok-blank.ensures.blank seen size front) ∙ c.in-Some.is in
    absurd (let e = sym blank ∙ none in cc)

pub returns-clause-first : goal.returns-clause-first
returns-clause-first g c = λ tells faithful is_blank.
    let d = g.D.Disk in
    let seen : List ℕ = d.seen c.args.disk.now in
    let was = c.open_image.ensures.faithful faithful in
    let same : d.seen c.read_part.new.disk ≡ seen = c.read_part.ensures.seen was in
    let front = front_is c.deref.result.now c.in_ok-front.front.items seen c.min.result c.deref.ensures.value (c.in_ok-front.ensures.bytes tells ∙ ap (λ (l : List ℕ). take c.min.result (drop 0 l)) same) c.in_ok-front.ensures.length in
    let size : length seen ≡ c.len-len.result = g.met.D.Disk.sizes c.args.disk.now tells ∙ sym c.len-len.ensures in
    let none : blank_of c.args.label.now c.args.area seen ≡ None = sym (c.in_ok-blank.ensures.blank seen size front) ∙ c.in-None.is in
    absurd (let e = sym (ap (λ o. is_some o) none) ∙ is_blank in cc)

pub returns-in_err-front-clause-unfailing : goal.returns-in_err-front-clause-unfailing
unfolding FailsWithDisk
returns-in_err-front-clause-unfailing g c = let p = err_from_is_err_and c.from_residual.result c.from_residual.ensures.1 in rw (p.1, p.2) (tt, c.in_err-front.ensures.unfailing.1)

pub returns-in_err-blank-clause-unfailing : goal.returns-in_err-blank-clause-unfailing
unfolding FailsWithDisk
returns-in_err-blank-clause-unfailing g c = let p = err_from_is_err_and c.from_residual-in_err-blank.result c.from_residual-in_err-blank.ensures.1 in rw (p.1, p.2) (tt, λ all. ((c.in_ok-front.ensures.unfailing.1 all).0, tt))

pub returns-in-Some-clause-unfailing : goal.returns-in-Some-clause-unfailing
returns-in-Some-clause-unfailing g c = behind g.D.Disk c.args.disk.now c.read_part.new.disk c.open_blank.new.disk c.in_ok-front.front c.open_blank.result c.in_ok-front.ensures.unfailing c.open_blank.ensures.unfailing

pub returns-clause-unfailing : goal.returns-clause-unfailing
returns-clause-unfailing g c = behind g.D.Disk c.args.disk.now c.read_part.new.disk c.open_image.new.disk c.in_ok-front.front c.open_image.result c.in_ok-front.ensures.unfailing c.open_image.ensures.unfailing

pub returns-clause-durable : goal.returns-clause-durable
returns-clause-durable g c = λ tells only. always c.open_image.result (c.open_image.ensures.settled tells (c.read_part.ensures.settled tells only))

pub returns-clause-says : goal.returns-clause-says
returns-clause-says g c = λ tells faithful.
    let d = g.D.Disk in
    let label : List ℕ = c.args.label.now in
    let seen : List ℕ = d.seen c.args.disk.now in
    let mid : List ℕ = d.seen c.read_part.new.disk in
    let last : List ℕ = d.seen c.open_image.new.disk in
    let was = c.open_image.ensures.faithful faithful in
    let same : mid ≡ seen = c.read_part.ensures.seen was in
    let front = front_is c.deref.result.now c.in_ok-front.front.items seen c.min.result c.deref.ensures.value (c.in_ok-front.ensures.bytes tells ∙ ap (λ (l : List ℕ). take c.min.result (drop 0 l)) same) c.in_ok-front.ensures.length in
    let size : length seen ≡ c.len-len.result = g.met.D.Disk.sizes c.args.disk.now tells ∙ sym c.len-len.ensures in
    let none : blank_of label c.args.area seen ≡ None = sym (c.in_ok-blank.ensures.blank seen size front) ∙ c.in-None.is in
    let here = front_is c.deref-in-None.result.now c.in_ok-front.front.items mid c.min.result c.deref-in-None.ensures.value (c.in_ok-front.ensures.bytes tells) c.in_ok-front.ensures.length in
    let all : last ≡ seen = c.open_image.ensures.seen faithful ∙ same in
    let e : records_below label last (header_of (length last) last) ≡ opening label c.args.area seen =
    ap (λ (l : List ℕ). records_below label l (header_of (length l) l)) all ∙ sym (ap (λ o. unless_blank o (records_below label seen (header_of (length seen) seen))) none) in
    subst (λ r. IfErr c.open_image.result (IsSaidBy r)) e (c.open_image.ensures.says tells here)
