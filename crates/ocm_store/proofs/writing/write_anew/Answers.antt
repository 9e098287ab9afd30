use Rattle.std.proofs.Common.{◌≡◌, ◌∙◌, ap, subst}
use Rattle.std.proofs.lemmas.Result.{IfErr-weaker, on_ok_weaker}
use Rattle.std.specs.Prelude.{Err, not}
use Rattle.ocm_history.specs.Histories.{home_of}
use Rattle.ocm_journal.specs.Journals.{StandsFor, area_of, disk_of, first_is_live, form_of}
use Rattle.ocm_journal.specs.LiveAreas.{HasLive}
use Rattle.ocm_rules.proofs.Lists.{not_both}
use Rattle.ocm_store.specs.Faults.{IsNoDiskFault}
use Rattle.ocm_store.specs.Stores.{IsWritten}
use Rattle.ocm_store.proofs.Journaling.{after-map, anew-live, before-live, err-both, on-both, renew-fits, renewed, renewed-moments, still-written, unchanged-moments}
use Rattle.ocm_store.proofs.writing.write_anew.Goals as goal

pub returns-in-Ok-clause-written : goal.returns-in-Ok-clause-written
returns-in-Ok-clause-written G c = λ tells g ask form draft change is w.
    let host = home_of c.args.history.now in
    let new = c.put_in_place.new.journal in
    on_ok_weaker c.put_in_place.result
    (λ p. renewed G.D.Disk c.args.history.now g ask c.args.planned.now form draft change new c.in-Ok.records (c.in-Ok.ensures.lean g ask form draft change is) p.0 p.1)
    (c.put_in_place.ensures.written tells host w.records w.holds)

pub returns-in-Ok-clause-unwritten : goal.returns-in-Ok-clause-unwritten
returns-in-Ok-clause-unwritten G c = λ tells g w.
    let host = home_of c.args.history.now in
    let old = c.args.journal.now in
    let new = c.put_in_place.new.journal in
    IfErr-weaker c.put_in_place.result
    (λ fault. IsNoDiskFault fault → (form_of new ≡ form_of old) × StandsFor G.D.Disk host w.records new)
    (λ fault. IsNoDiskFault fault → IsWritten G.D.Disk host g new)
    (λ fault p none. let q = p none in still-written G.D.Disk host g old new w q.0 q.1)
    (c.put_in_place.ensures.unwritten tells host w.records w.holds)

pub returns-in-Ok-clause-any_moment : goal.returns-in-Ok-clause-any_moment
returns-in-Ok-clause-any_moment G c = λ tells g ask form draft change is w.
    let host = home_of c.args.history.now in
    renewed-moments G.D.Disk c.args.history.now g ask c.args.planned.now form draft change c.args.journal.now c.put_in_place.new.journal c.in-Ok.records (c.in-Ok.ensures.lean g ask form draft change is) w
    (c.put_in_place.ensures.any_moment tells host w.records w.holds)

pub returns-in-Ok-clause-not_full : goal.returns-in-Ok-clause-not_full
returns-in-Ok-clause-not_full G c = λ g ask form draft change is fits full.
    renew-fits G.D.Disk c.args.history.now g ask c.args.planned.now form draft change (area_of c.args.journal.now) c.in-Ok.records (c.in-Ok.ensures.lean g ask form draft change is) fits (c.put_in_place.ensures.full full)

pub returns-in-Err-TooLong-clause-any_moment : goal.returns-in-Err-TooLong-clause-any_moment
returns-in-Err-TooLong-clause-any_moment G c = λ tells g ask form draft change is w.
    unchanged-moments G.D.Disk c.args.history.now g ask c.args.planned.now form draft change c.args.journal.now G.met.D.Disk.only_now w

pub returns-in-Err-NoMemory-clause-any_moment : goal.returns-in-Err-NoMemory-clause-any_moment
returns-in-Err-NoMemory-clause-any_moment G c = λ tells g ask form draft change is w.
    unchanged-moments G.D.Disk c.args.history.now g ask c.args.planned.now form draft change c.args.journal.now G.met.D.Disk.only_now w

pub returns-in-Err-TooLong-clause-not_full : goal.returns-in-Err-TooLong-clause-not_full
returns-in-Err-TooLong-clause-not_full G c = λ g ask form draft change is fits full. c.in-Err-TooLong.ensures.not_full g ask form draft change is (ap Err c.in-Err-TooLong.field-0-is)

pub returns-in-Err-TooLong-clause-not_made : goal.returns-in-Err-TooLong-clause-not_made
returns-in-Err-TooLong-clause-not_made G c = λ none left. (λ b. b, λ p. p)

pub returns-in-Err-NoMemory-clause-not_made : goal.returns-in-Err-NoMemory-clause-not_made
returns-in-Err-NoMemory-clause-not_made G c = λ none left. (λ b. b, λ p. p)

pub returns-in-Ok-clause-live : goal.returns-in-Ok-clause-live
returns-in-Ok-clause-live G c = λ tells g ask form draft live change is h.
    let host = home_of c.args.history.now in
    let new = c.put_in_place.new.journal in
    let are = c.in-Ok.ensures.lean g ask form draft change is in
    on-both c.put_in_place.result
    (λ first p. record { first = first ∙ ap not h.first; form = p.0; holds = subst (λ rs. StandsFor G.D.Disk host rs new) are p.1 })
    c.put_in_place.ensures.live (c.put_in_place.ensures.written tells host live.records h.holds)

pub returns-in-Ok-clause-still : goal.returns-in-Ok-clause-still
returns-in-Ok-clause-still G c = λ tells label live h.
    let old = c.args.journal.now in
    let new = c.put_in_place.new.journal in
    err-both c.put_in_place.result
    (λ fault. IsNoDiskFault fault → first_is_live new ≡ first_is_live old)
    (λ fault. IsNoDiskFault fault → (form_of new ≡ form_of old) × StandsFor G.D.Disk label live.records new)
    (λ fault. IsNoDiskFault fault → HasLive G.D.Disk label live new)
    (λ fault first p none. record { first = first none ∙ h.first; form = (p none).0 ∙ h.form; holds = (p none).1 })
    c.put_in_place.ensures.still (c.put_in_place.ensures.unwritten tells label live.records h.holds)

pub returns-in-Ok-clause-after_fault : goal.returns-in-Ok-clause-after_fault
returns-in-Ok-clause-after_fault G c = λ tells g ask form draft live left change is w h stopped pass burnt.
    let host = home_of c.args.history.now in
    let old = c.args.journal.now in
    let d = G.D.Disk in
    after-map d left _ _ _ _ _ _ (disk_of c.put_in_place.new.journal) h.first
    (before-live d c.args.history.now g ask c.args.planned.now form draft change old live h w)
    (anew-live d c.args.history.now g ask c.args.planned.now form draft change old live c.in-Ok.records (c.in-Ok.ensures.lean g ask form draft change is) h)
    (c.put_in_place.ensures.after_fault tells host live.records left h.holds stopped pass burnt)

pub returns-in-Err-TooLong-clause-after_fault : goal.returns-in-Err-TooLong-clause-after_fault
returns-in-Err-TooLong-clause-after_fault G c = λ tells g ask form draft live left change is w h stopped pass burnt. absurd (not_both _ stopped c.requires.goes)

pub returns-in-Err-NoMemory-clause-after_fault : goal.returns-in-Err-NoMemory-clause-after_fault
returns-in-Err-NoMemory-clause-after_fault G c = λ tells g ask form draft live left change is w h stopped pass burnt. absurd (not_both _ stopped c.requires.goes)
