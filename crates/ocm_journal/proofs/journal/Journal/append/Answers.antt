use Rattle.std.proofs.Common.{◌≡◌, ◌<◌, ◌+◌, [], ◌∷◌, ◌++◌, length, sym, ◌∙◌, ap, arith, append_assoc, length-append}
use Rattle.std.specs.Int.{w32, to_be_bytes}
use Rattle.ocm_journal_image.specs.Layout.{live_start}
use Rattle.ocm_journal.proofs.Appended.{blocks_size-push, length-record_text}
use Rattle.ocm_journal.proofs.AppendStands.{on_ok, append_moments, append_image, append_after_fault}
use Rattle.ocm_journal.proofs.Shut.{shut_behind}
use Rattle.ocm_journal.proofs.journal.Journal.append.Goals as goal

pub returns-then-is_err-clause-any_moment : goal.returns-then-is_err-clause-any_moment
returns-then-is_err-clause-any_moment g c = λ tells label records s.
    let inside : c.args.self.now.gate < length (g.D.Disk.seen c.args.self.now.disk) = omega (arith, c.args.self.now.inside, g.met.D.Disk.sizes c.args.self.now.disk tells) in
    append_moments g.D.Disk label records c.args.self.now c.args.framed.now c.as_written-text.result.now c.put_behind.new.disk (c.as_written-text.ensures) c.requires.size (omega (arith, c.if-self-size.false, c.len-size.ensures)) inside s (c.put_behind.ensures.any_moment tells s.durable)

pub returns-clause-any_moment : goal.returns-clause-any_moment
returns-clause-any_moment g c = λ tells label records s.
    let inside : c.args.self.now.gate < length (g.D.Disk.seen c.args.self.now.disk) = omega (arith, c.args.self.now.inside, g.met.D.Disk.sizes c.args.self.now.disk tells) in
    append_moments g.D.Disk label records c.args.self.now c.args.framed.now c.as_written-text.result.now c.put_behind.new.disk (c.as_written-text.ensures) c.requires.size (omega (arith, c.if-self-size.false, c.len-size.ensures)) inside s (c.put_behind.ensures.any_moment tells s.durable)

pub returns-clause-acknowledged : goal.returns-clause-acknowledged
returns-clause-acknowledged g c = λ tells label records s.
    let inside : c.args.self.now.gate < length (g.D.Disk.seen c.args.self.now.disk) = omega (arith, c.args.self.now.inside, g.met.D.Disk.sizes c.args.self.now.disk tells) in
    let good = sym c.is_err.ensures.value ∙ c.if-is_err.false in
    let after = append_image g.D.Disk label records c.args.self.now c.args.framed.now c.as_written-text.result.now c.put_behind.new.disk (c.as_written-text.ensures) c.requires.size (omega (arith, c.if-self-size.false, c.len-size.ensures)) inside s (g.D.Disk.seen c.put_behind.new.disk) (on_ok c.put_behind.result _ good (c.put_behind.ensures.switched tells)) in
    record {
      image = after.0;
      selector = s.selector;
      start = ap (λ k. live_start c.args.self.now.area k) after.1 ∙ s.start;
      gate = omega (arith, s.gate, blocks_size-push records c.args.framed.now);
      durable = on_ok c.put_behind.result _ good (c.put_behind.ensures.durable tells);
    }

pub returns-clause-calls : goal.returns-clause-calls
returns-clause-calls g c = λ left b.
    let good = sym c.is_err.ensures.value ∙ c.if-is_err.false in
    on_ok c.put_behind.result _ good (c.put_behind.ensures.calls left b)

pub returns-clause-fewer : goal.returns-clause-fewer
returns-clause-fewer g c = λ left few b.
    let good = sym c.is_err.ensures.value ∙ c.if-is_err.false in
    absurd (let bad = c.put_behind.ensures.fewer left few b in cc)

pub returns-then-is_err-clause-after_fault : goal.returns-then-is_err-clause-after_fault
returns-then-is_err-clause-after_fault g c = λ tells label records left s stopped p b.
    let inside : c.args.self.now.gate < length (g.D.Disk.seen c.args.self.now.disk) = omega (arith, c.args.self.now.inside, g.met.D.Disk.sizes c.args.self.now.disk tells) in
    let text = c.as_written-text.ensures in
    let size : length c.as_written-text.result.now ≡ length c.args.framed.now + 5 = omega (arith, ap length text, length-record_text c.args.framed.now) in
    append_after_fault g.D.Disk label records c.args.self.now c.args.framed.now c.as_written-text.result.now c.put_behind.new.disk text c.requires.size (omega (arith, c.if-self-size.false, c.len-size.ensures)) inside s left (c.put_behind.ensures.cut_short tells s.durable left p b (omega (arith, size, c.requires.room)))

pub returns-clause-shut : goal.returns-clause-shut
returns-clause-shut g c = λ tells.
    let inside : c.args.self.now.gate < length (g.D.Disk.seen c.args.self.now.disk) = omega (arith, c.args.self.now.inside, g.met.D.Disk.sizes c.args.self.now.disk tells) in
    let good = sym c.is_err.ensures.value ∙ c.if-is_err.false in
    let r = c.args.framed.now in
    let size = to_be_bytes w32 (length r) in
    let text = c.as_written-text.ensures ∙ sym (append_assoc size r (0 ∷ [])) in
    shut_behind (g.D.Disk.seen c.args.self.now.disk) (c.args.self.now.gate + 1) c.as_written-text.result.now c.args.self.now.gate 1 (g.D.Disk.seen c.put_behind.new.disk) (omega (arith, inside)) (omega (arith, inside)) (on_ok c.put_behind.result _ good (c.put_behind.ensures.switched tells)) (size ++ r) _ text (omega (arith, length-append size r)) (omega arith)
