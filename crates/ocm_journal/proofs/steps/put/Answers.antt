use Rattle.std.proofs.Common.{◌≡◌, ◌+◌, ℕ, List, inl, inr, sym, ◌∙◌, subst, arith, length, replicate}
use Rattle.ocm_disk.specs.Disk.{Holds}
use Rattle.std.proofs.lemmas.Bool.{cases_eq}
use Rattle.ocm_journal.proofs.Moving.{torn_now, wrote, then_synced}
use Rattle.ocm_journal.proofs.steps.put.Goals as goal

pub returns-in_err-write_at-clause-passes : goal.returns-in_err-write_at-clause-passes
returns-in_err-write_at-clause-passes g c = λ n p fits. let e : n + 2 ≡ n + 1 + 1 = omega arith in let q = c.in_err-write_at.ensures.passes (n + 1) (subst (λ k. g.D.Disk.passes c.args.disk.now k) e p) fits in absurd (let ok = q.0 in cc)

pub returns-in_err-sync-clause-passes : goal.returns-in_err-sync-clause-passes
returns-in_err-sync-clause-passes g c = λ n p fits. let e : n + 2 ≡ n + 1 + 1 = omega arith in let q = c.in_ok-write_at.ensures.passes (n + 1) (subst (λ k. g.D.Disk.passes c.args.disk.now k) e p) fits in let r = c.in_err-sync.ensures.passes n q.1 in absurd (let ok = r.0 in cc)

pub returns-in_err-sync-clause-any_moment : goal.returns-in_err-sync-clause-any_moment
returns-in_err-sync-clause-any_moment g c = λ tells only.
    let first = wrote g.D.Disk.moment g.D.Disk.left_since c.args.disk.now c.write_at.new.self c.args.place (length c.args.text.now) (g.D.Disk.seen c.args.disk.now) (g.D.Disk.may_leave c.args.disk.now) (g.D.Disk.may_leave c.write_at.new.self) (g.met.D.Disk.only_now c.args.disk.now) only c.write_at.ensures.time (c.write_at.ensures.crash tells) in
    then_synced g.D.Disk.moment g.D.Disk.left_since c.args.disk.now c.write_at.new.self c.sync.new.self _ _ _ first (torn_now _ _ _ _ _ only (c.write_at.ensures.crash tells)) c.sync.ensures.time (c.sync.ensures.crash tells)

pub returns-clause-any_moment : goal.returns-clause-any_moment
returns-clause-any_moment g c = λ tells only.
    let first = wrote g.D.Disk.moment g.D.Disk.left_since c.args.disk.now c.write_at.new.self c.args.place (length c.args.text.now) (g.D.Disk.seen c.args.disk.now) (g.D.Disk.may_leave c.args.disk.now) (g.D.Disk.may_leave c.write_at.new.self) (g.met.D.Disk.only_now c.args.disk.now) only c.write_at.ensures.time (c.write_at.ensures.crash tells) in
    then_synced g.D.Disk.moment g.D.Disk.left_since c.args.disk.now c.write_at.new.self c.sync.new.self _ _ _ first (torn_now _ _ _ _ _ only (c.write_at.ensures.crash tells)) c.sync.ensures.time (c.sync.ensures.crash tells)

pub returns-clause-calls : goal.returns-clause-calls
returns-clause-calls g c = λ n b. let e : n + 2 ≡ n + 1 + 1 = omega arith in c.sync.ensures.burns n (c.write_at.ensures.burns (n + 1) (subst (λ k. g.D.Disk.burnt c.args.disk.now k) e b))

pub returns-clause-fewer : goal.returns-clause-fewer
returns-clause-fewer g c = λ n few b.
    elim (cases_eq n 0) [
      | inl none ↦ absurd (let q = (c.in_ok-write_at.ensures.burnt (subst (λ k. g.D.Disk.burnt c.args.disk.now k) none b)).0 in cc)
      | inr some ↦
          let e : n ≡ 0 + 1 = omega (arith, few, some) in
          absurd (let q = (c.in_ok-sync.ensures.burnt (c.write_at.ensures.burns 0 (subst (λ k. g.D.Disk.burnt c.args.disk.now k) e b))).0 in cc)
    ]

pub returns-in_err-write_at-clause-cut_short : goal.returns-in_err-write_at-clause-cut_short
returns-in_err-write_at-clause-cut_short g c = λ tells only left p b fits.
    let d = g.D.Disk in
    let synced = c.write_at.ensures.synced ∙ only (d.synced c.args.disk.now) (g.met.D.Disk.synced_is_an_image c.args.disk.now) in
    let torn = only (d.torn c.args.disk.now) (g.met.D.Disk.torn_is_an_image c.args.disk.now) in
    record {
      none = λ none. let q = c.write_at.ensures.burnt (subst (λ k. d.burnt c.args.disk.now k) none b) in (q.2, synced, q.3 ∙ torn);
      one = λ one. absurd (let q = c.in_err-write_at.ensures.passes 0 (subst (λ k. d.passes c.args.disk.now k) one p) fits in let ok = q.0 in cc);
    }

pub returns-in_err-sync-clause-cut_short : goal.returns-in_err-sync-clause-cut_short
returns-in_err-sync-clause-cut_short g c = λ tells only left p b fits.
    let d = g.D.Disk in
    let synced = c.in_err-sync.ensures.not_synced ∙ c.write_at.ensures.synced ∙ only (d.synced c.args.disk.now) (g.met.D.Disk.synced_is_an_image c.args.disk.now) in
    let torn = only (d.torn c.args.disk.now) (g.met.D.Disk.torn_is_an_image c.args.disk.now) in
    record {
      none = λ none. absurd (let q = (c.in_ok-write_at.ensures.burnt (subst (λ k. d.burnt c.args.disk.now k) none b)).0 in cc);
      one = λ one. (
        subst (λ (l : List ℕ). Holds (d.seen c.args.disk.now) c.args.place c.args.text.now l) (sym c.sync.ensures.seen) (c.in_ok-write_at.ensures.written tells),
        synced,
        subst (λ (l : List ℕ). Holds l c.args.place (replicate (length c.args.text.now) 238) (d.torn c.sync.new.self)) torn (subst (λ (l : List ℕ). Holds (d.torn c.args.disk.now) c.args.place (replicate (length c.args.text.now) 238) l) (sym c.in_err-sync.ensures.still_torn) (c.in_ok-write_at.ensures.torn tells)),
      );
    }

pub returns-clause-cut_short : goal.returns-clause-cut_short
returns-clause-cut_short g c = λ tells only left p b fits.
    let d = g.D.Disk in
    record {
      none = λ none. absurd (let q = (c.in_ok-write_at.ensures.burnt (subst (λ k. d.burnt c.args.disk.now k) none b)).0 in cc);
      one = λ one. absurd (let q = (c.in_ok-sync.ensures.burnt (c.write_at.ensures.burns 0 (subst (λ k. d.burnt c.args.disk.now k) one b))).0 in cc);
    }
