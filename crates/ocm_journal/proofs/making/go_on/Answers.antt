use Rattle.std.proofs.Common.{◌≡◌, ℕ, ◌+◌, ◌∷◌, [], List, length, ◌∙◌, ap, subst, arith, refl, inr}
use Rattle.ocm_disk.specs.Disk.{Torn}
use Rattle.ocm_journal.specs.Openings.{Opens}
use Rattle.ocm_journal.specs.Passing.{PassesWithDisk}
use Rattle.ocm_journal.proofs.Moving.{weaker, joined}
use Rattle.ocm_journal.proofs.Made.{in_go_on, gone_on}
use Rattle.ocm_journal.proofs.making.go_on.Goals as goal

pub returns-in_err-put-clause-any_moment : goal.returns-in_err-put-clause-any_moment
returns-in_err-put-clause-any_moment g c = λ tells only first label area label_size area_size is.
    let seen : List ℕ = g.D.Disk.seen c.args.disk.now in
    let size : length seen ≡ g.D.Disk.size c.args.disk.now = g.met.D.Disk.sizes c.args.disk.now tells in
    weaker g.D.Disk.moment g.D.Disk.left_since c.args.disk.now c.put.new.disk _ (Opens label area []) (c.put.ensures.any_moment tells only) (λ b torn. in_go_on label area seen b (omega (arith, size, c.requires.some)) (omega (arith, size, c.requires.few)) first (subst (λ n. Torn 1 n seen b) c.requires.text torn))

pub returns-clause-made : goal.returns-clause-made
returns-clause-made g c = λ tells first.
    let seen : List ℕ = g.D.Disk.seen c.args.disk.now in
    let size : length seen ≡ g.D.Disk.size c.args.disk.now = g.met.D.Disk.sizes c.args.disk.now tells in
    let stands = gone_on seen c.args.text.now (g.D.Disk.seen c.put.new.disk) (omega (arith, size, c.requires.some)) (omega (arith, size, c.requires.few)) first c.requires.text (c.in_ok-put.ensures.written tells) in
    c.finish.ensures.made tells c.args.text.now 0 stands

pub returns-clause-any_moment : goal.returns-clause-any_moment
returns-clause-any_moment g c = λ tells only first label area label_size area_size is.
    let seen : List ℕ = g.D.Disk.seen c.args.disk.now in
    let size : length seen ≡ g.D.Disk.size c.args.disk.now = g.met.D.Disk.sizes c.args.disk.now tells in
    let stands = gone_on seen c.args.text.now (g.D.Disk.seen c.put.new.disk) (omega (arith, size, c.requires.some)) (omega (arith, size, c.requires.few)) first c.requires.text (c.in_ok-put.ensures.written tells) in
    let before = weaker g.D.Disk.moment g.D.Disk.left_since c.args.disk.now c.put.new.disk _ (Opens label area []) (c.put.ensures.any_moment tells only) (λ b torn. in_go_on label area seen b (omega (arith, size, c.requires.some)) (omega (arith, size, c.requires.few)) first (subst (λ n. Torn 1 n seen b) c.requires.text torn)) in
    let last = c.finish.ensures.any_moment tells (c.in_ok-put.ensures.durable tells) label area 2 0 label_size area_size (inr refl) (stands ∙ ap (λ (l : List ℕ). 0 ∷ l) is) in
    joined g.D.Disk.moment g.D.Disk.left_since c.args.disk.now c.put.new.disk c.finish.new.disk (Opens label area []) before last

pub returns-in_err-put-clause-passes : goal.returns-in_err-put-clause-passes
unfolding PassesWithDisk
returns-in_err-put-clause-passes g c = λ all room. absurd (let ok = (c.in_err-put.ensures.passes 0 (all 2) (omega (arith, c.requires.text, room))).0 in cc)

pub returns-clause-passes : goal.returns-clause-passes
unfolding PassesWithDisk
returns-clause-passes g c = λ all room. c.finish.ensures.passes (λ n. (c.in_ok-put.ensures.passes n (all (n + 2)) (omega (arith, c.requires.text, room))).1) (omega (arith, room, c.in_ok-put.ensures.spare))
