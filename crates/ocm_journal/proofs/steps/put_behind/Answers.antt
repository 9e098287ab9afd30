use Rattle.std.proofs.Common.{◌≡◌, ◌≤◌, ◌+◌, ◌-◌, length, inl, inr, subst, arith}
use Rattle.std.proofs.lemmas.Bool.{cases_lt}
use Rattle.ocm_journal.proofs.CutShort.{text_cut_short, byte_cut_short}
use Rattle.ocm_journal.proofs.steps.put_behind.Goals as goal

pub returns-in_err-put-clause-passes : goal.returns-in_err-put-clause-passes
returns-in_err-put-clause-passes g c = λ n p fits. let e : n + 4 ≡ n + 2 + 2 = omega arith in let q = c.in_err-put.ensures.passes (n + 2) (subst (λ k. g.D.Disk.passes c.args.disk.now k) e p) fits in absurd (let ok = q.0 in cc)

pub returns-clause-passes : goal.returns-clause-passes
returns-clause-passes g c = λ n p fits. let e : n + 4 ≡ n + 2 + 2 = omega arith in let q = c.in_ok-put.ensures.passes (n + 2) (subst (λ k. g.D.Disk.passes c.args.disk.now k) e p) fits in c.put-2.ensures.passes n q.1 (omega (arith, c.requires.switch, c.in_ok-put.ensures.no_shorter))

pub returns-clause-calls : goal.returns-clause-calls
returns-clause-calls g c = λ n b. let e : n + 4 ≡ n + 2 + 2 = omega arith in c.put-2.ensures.calls n (c.in_ok-put.ensures.calls (n + 2) (subst (λ k. g.D.Disk.burnt c.args.disk.now k) e b))

pub returns-clause-fewer : goal.returns-clause-fewer
returns-clause-fewer g c = λ n few b.
    elim (cases_lt n 2) [
      | inl below ↦ absurd (let q = c.in_ok-put.ensures.fewer n below b in cc)
      | inr above ↦
          let e : n ≡ n - 2 + 2 = omega (arith, above) in
          c.put-2.ensures.fewer (n - 2) (omega (arith, few, above)) (c.in_ok-put.ensures.calls (n - 2) (subst (λ k. g.D.Disk.burnt c.args.disk.now k) e b))
    ]

pub returns-in_err-put-clause-cut_short : goal.returns-in_err-put-clause-cut_short
returns-in_err-put-clause-cut_short g c = λ tells only left p b fits.
    let d = g.D.Disk in
    let le : c.args.place ≤ length (d.seen c.args.disk.now) = omega (arith, c.requires.place, g.met.D.Disk.sizes c.args.disk.now tells) in
    elim (cases_lt left 2) [
      | inl below ↦ text_cut_short d c.args.place (d.seen c.args.disk.now) c.args.text.now le left c.args.switch c.args.byte c.put.new.disk below (c.put.ensures.cut_short tells only left p b fits)
      | inr above ↦
          let e : left ≡ left - 2 + 2 = omega (arith, above) in
          absurd (let q = c.in_err-put.ensures.passes (left - 2) (subst (λ k. d.passes c.args.disk.now k) e p) fits in let ok = q.0 in cc)
    ]

pub returns-clause-cut_short : goal.returns-clause-cut_short
returns-clause-cut_short g c = λ tells only left p b fits.
    let d = g.D.Disk in
    let le : c.args.place ≤ length (d.seen c.args.disk.now) = omega (arith, c.requires.place, g.met.D.Disk.sizes c.args.disk.now tells) in
    elim (cases_lt left 2) [
      | inl below ↦ absurd (let q = c.in_ok-put.ensures.fewer left below b in cc)
      | inr above ↦
          let e : left ≡ left - 2 + 2 = omega (arith, above) in
          let passes = c.in_ok-put.ensures.passes (left - 2) (subst (λ k. d.passes c.args.disk.now k) e p) fits in
          let burnt = c.in_ok-put.ensures.calls (left - 2) (subst (λ k. d.burnt c.args.disk.now k) e b) in
          let cut = c.put-2.ensures.cut_short tells (c.in_ok-put.ensures.durable tells) (left - 2) passes.1 burnt (omega (arith, c.requires.switch, c.in_ok-put.ensures.no_shorter)) in
          byte_cut_short d c.args.place (d.seen c.args.disk.now) c.args.text.now le left c.args.switch c.args.byte c.put.new.disk c.put-2.new.disk above (c.in_ok-put.ensures.written tells) cut
    ]
