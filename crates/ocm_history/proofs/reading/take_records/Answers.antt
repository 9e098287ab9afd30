use Rattle.std.proofs.Common.{◌++◌, ◌∷◌, [], List, length, append_assoc, refl, sym, ◌∙◌, ap, subst}
use Rattle.ocm_journal_image.specs.declared.readings.RawRecord.{RawRecord}
use Rattle.ocm_law_sessions.specs.Readings.{goes_on}
use Rattle.ocm_history.specs.Histories.{home_of}
use Rattle.ocm_history.specs.Replays.{GoesOn}
use Rattle.ocm_history.proofs.Going.{goes-home, opened-all, opened-next, opened-none, opened-refused}
use Rattle.ocm_history.proofs.reading.take_records.Goals as goal

pub loop-record-init : goal.loop-record-init
loop-record-init c = record { home = refl; taken = ([], c.left-left.ensures, opened-none _ _ _ c.requires) }

pub loop-record-preserved : goal.loop-record-preserved
loop-record-preserved c =
    let at = c.loop-record in
    let r : RawRecord = record { place = c.in-Some.record.place; bytes = c.in-Some.record.bytes.now } in
    let host = home_of c.args.history.now in
    let new = c.take_record.new.history in
    let front = at.invariant.taken.0 in
    record {
      home = c.in_ok-going.ensures.home ∙ at.invariant.home;
      taken = (
        front ++ r ∷ [],
        append_assoc front (r ∷ []) c.next.new.self ∙ (ap (λ l. front ++ l) (sym c.in-Some.ensures) ∙ at.invariant.taken.1),
        opened-next host c.args.form front r at.history new at.invariant.taken.2
            (goes-home at.history new host (home_of at.history) c.args.form r.bytes _ at.invariant.home
            (subst (λ b. GoesOn at.history new (λ k. goes_on (home_of at.history) c.args.form k r.bytes) b) c.if-not-going.false c.in_ok-going.ensures.goes_on)),
      );
    }

pub returns-then-not-going-clause-refused : goal.returns-then-not-going-clause-refused
returns-then-not-going-clause-refused c =
    let at = c.loop-record in
    let r : RawRecord = record { place = c.in-Some.record.place; bytes = c.in-Some.record.bytes.now } in
    let host = home_of c.args.history.now in
    let new = c.take_record.new.history in
    let front = at.invariant.taken.0 in
    opened-refused host c.args.form c.args.records.now front c.next.new.self r at.history new
    (sym at.invariant.taken.1 ∙ ap (λ l. front ++ l) c.in-Some.ensures) at.invariant.taken.2
    (goes-home at.history new host (home_of at.history) c.args.form r.bytes _ at.invariant.home
    (subst (λ b. GoesOn at.history new (λ k. goes_on (home_of at.history) c.args.form k r.bytes) b) c.if-not-going.true c.in_ok-going.ensures.goes_on))

pub returns-clause-opens : goal.returns-clause-opens
returns-clause-opens c =
    let at = c.loop-record in
    opened-all (home_of c.args.history.now) c.args.form at.invariant.taken.0 at.left c.args.records.now at.history
    at.invariant.taken.1 (ap (λ (l : List RawRecord). length l) (rw c.in_default.is at c.next.ensures)) at.invariant.taken.2
