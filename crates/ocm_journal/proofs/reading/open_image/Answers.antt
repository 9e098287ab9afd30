use Rattle.std.proofs.Common.{rules, ◌≡◌, ◌≤◌, ℕ, min, List, length, refl, sym, ◌∙◌, arith}
use Rattle.std.proofs.lemmas.Result.{err_from_is_err_and}
use Rattle.ocm_texts.specs.Hex.{AreBytes}
use Rattle.ocm_journal_image.specs.Reading.{live_bytes}
use Rattle.ocm_journal_image.proofs.ReadBack.{header_long}
use Rattle.ocm_journal.specs.Passing.{FailsWithDisk}
use Rattle.ocm_journal.proofs.OpenedImage.{if_ok, if_ok_both, if_err, front_header, front_stays, front_tells, starts_low, said_header, other_label, label_same, below_is, area_wanting, live_read, reads_area, says_area, image_opens}
use Rattle.ocm_journal.proofs.Passing.{always, image_fault, said_fault}
use Rattle.ocm_journal.proofs.reading.open_image.Goals as goal

pub returns-in_err-header-clause-says : goal.returns-in_err-header-clause-says
returns-in_err-header-clause-says g c = λ tells is.
    let seen : List ℕ = g.D.Disk.seen c.args.disk.now in
    let size : c.len-len.result ≡ length seen = c.len-len.ensures ∙ sym (g.met.D.Disk.sizes c.args.disk.now tells) in
    let front_are : AreBytes c.args.front.now = search rules in
    let few : length c.args.front.now ≡ min c.len-len.result 514 = omega (arith, c.requires.front, c.len-len.ensures) in
    let same = front_header seen c.args.front.now c.len-len.result size few is front_are in
    let p = err_from_is_err_and c.from_residual.result c.from_residual.ensures.1 in
    rw (p.1, p.2) (said_header c.args.label.now seen c.in_err-header.field-0.0 _ _ same c.in_err-header.ensures.reads)

pub returns-then-ne-clause-says : goal.returns-then-ne-clause-says
returns-then-ne-clause-says g c = λ tells is.
    let seen : List ℕ = g.D.Disk.seen c.args.disk.now in
    let size : c.len-len.result ≡ length seen = c.len-len.ensures ∙ sym (g.met.D.Disk.sizes c.args.disk.now tells) in
    let front_are : AreBytes c.args.front.now = search rules in
    let few : length c.args.front.now ≡ min c.len-len.result 514 = omega (arith, c.requires.front, c.len-len.ensures) in
    let same = front_header seen c.args.front.now c.len-len.result size few is front_are in
    other_label c.args.label.now seen c.as_slice.result.now c.in_ok-header.header _ _ same c.in_ok-header.ensures.reads c.as_slice.ensures c.if-ne.ensures

pub returns-then-start-len-clause-says : goal.returns-then-start-len-clause-says
returns-then-start-len-clause-says g c = λ tells is.
    let seen : List ℕ = g.D.Disk.seen c.args.disk.now in
    let size : c.len-len.result ≡ length seen = c.len-len.ensures ∙ sym (g.met.D.Disk.sizes c.args.disk.now tells) in
    let front_are : AreBytes c.args.front.now = search rules in
    let few : length c.args.front.now ≡ min c.len-len.result 514 = omega (arith, c.requires.front, c.len-len.ensures) in
    let same = front_header seen c.args.front.now c.len-len.result size few is front_are in
    let h = c.in_ok-header.header in
    let found = label_same c.args.label.now c.as_slice.result.now h c.as_slice.ensures c.if-ne.ensures in
    below_is c.args.label.now seen h _ _ same c.in_ok-header.ensures.reads found ∙ area_wanting h seen c.len-len.result c.start-start.result size c.start-start.ensures c.if-start-len.true

pub returns-clause-reads : goal.returns-clause-reads
returns-clause-reads g c = λ tells is.
    let old : List ℕ = g.D.Disk.seen c.args.disk.now in
    let seen : List ℕ = g.D.Disk.seen c.read_part.new.disk in
    let size : c.len-len.result ≡ length seen = c.len-len.ensures ∙ sym c.in_ok-bytes.ensures.size ∙ sym (g.met.D.Disk.sizes c.read_part.new.disk tells) in
    let front_are : AreBytes c.args.front.now = search rules in
    let h = c.in_ok-header.header in
    let long = header_long c.len-len.result c.args.front.now h c.in_ok-header.ensures.reads in
    let front_long : 512 ≤ length c.args.front.now = omega (arith, c.requires.front, c.len-len.ensures, long) in
    let low : 512 ≤ c.start-start.result = omega (arith, starts_low h, c.start-start.ensures) in
    let stays = front_stays old seen c.args.front.now c.start-start.result c.min.result low (c.in_ok-bytes.ensures.elsewhere tells) front_long is in
    let same = front_tells seen c.args.front.now c.len-len.result size front_long stays front_are in
    let found = label_same c.args.label.now c.as_slice.result.now h c.as_slice.ensures c.if-ne.ensures in
    let below = below_is c.args.label.now seen h _ _ same c.in_ok-header.ensures.reads found in
    let shown : c.in_ok-bytes.bytes.items ≡ live_bytes h seen = live_read h seen c.in_ok-bytes.bytes.items c.in_ok-bytes.bytes.items c.len-len.result c.start-start.result c.min.result size c.start-start.ensures c.min.ensures (c.in_ok-bytes.ensures.bytes tells) refl in
    if_ok c.open_area.result _ _ c.open_area.ensures.reads (λ o reads. reads_area c.args.label.now seen c.in_ok-bytes.bytes.items h c.len-len.result _ o.form o.gate o.records size below shown reads)

pub returns-clause-says : goal.returns-clause-says
returns-clause-says g c = λ tells is.
    let old : List ℕ = g.D.Disk.seen c.args.disk.now in
    let seen : List ℕ = g.D.Disk.seen c.read_part.new.disk in
    let size : c.len-len.result ≡ length seen = c.len-len.ensures ∙ sym c.in_ok-bytes.ensures.size ∙ sym (g.met.D.Disk.sizes c.read_part.new.disk tells) in
    let front_are : AreBytes c.args.front.now = search rules in
    let h = c.in_ok-header.header in
    let long = header_long c.len-len.result c.args.front.now h c.in_ok-header.ensures.reads in
    let front_long : 512 ≤ length c.args.front.now = omega (arith, c.requires.front, c.len-len.ensures, long) in
    let low : 512 ≤ c.start-start.result = omega (arith, starts_low h, c.start-start.ensures) in
    let stays = front_stays old seen c.args.front.now c.start-start.result c.min.result low (c.in_ok-bytes.ensures.elsewhere tells) front_long is in
    let same = front_tells seen c.args.front.now c.len-len.result size front_long stays front_are in
    let found = label_same c.args.label.now c.as_slice.result.now h c.as_slice.ensures c.if-ne.ensures in
    let below = below_is c.args.label.now seen h _ _ same c.in_ok-header.ensures.reads found in
    let shown : c.in_ok-bytes.bytes.items ≡ live_bytes h seen = live_read h seen c.in_ok-bytes.bytes.items c.in_ok-bytes.bytes.items c.len-len.result c.start-start.result c.min.result size c.start-start.ensures c.min.ensures (c.in_ok-bytes.ensures.bytes tells) refl in
    if_err c.open_area.result _ _ c.open_area.ensures.fault (λ e said. says_area seen c.in_ok-bytes.bytes.items h c.len-len.result _ e size below shown said)

pub returns-clause-opens : goal.returns-clause-opens
returns-clause-opens g c = λ tells is.
    let old : List ℕ = g.D.Disk.seen c.args.disk.now in
    let seen : List ℕ = g.D.Disk.seen c.read_part.new.disk in
    let size : c.len-len.result ≡ length seen = c.len-len.ensures ∙ sym c.in_ok-bytes.ensures.size ∙ sym (g.met.D.Disk.sizes c.read_part.new.disk tells) in
    let front_are : AreBytes c.args.front.now = search rules in
    let h = c.in_ok-header.header in
    let long = header_long c.len-len.result c.args.front.now h c.in_ok-header.ensures.reads in
    let front_long : 512 ≤ length c.args.front.now = omega (arith, c.requires.front, c.len-len.ensures, long) in
    let low : 512 ≤ c.start-start.result = omega (arith, starts_low h, c.start-start.ensures) in
    let stays = front_stays old seen c.args.front.now c.start-start.result c.min.result low (c.in_ok-bytes.ensures.elsewhere tells) front_long is in
    let found = label_same c.args.label.now c.as_slice.result.now h c.as_slice.ensures c.if-ne.ensures in
    let shown : c.in_ok-bytes.bytes.items ≡ live_bytes h seen = live_read h seen c.in_ok-bytes.bytes.items c.in_ok-bytes.bytes.items c.len-len.result c.start-start.result c.min.result size c.start-start.ensures c.min.ensures (c.in_ok-bytes.ensures.bytes tells) refl in
    let all = if_ok_both c.open_area.result _ _ (if_ok_both c.open_area.result _ _ c.open_area.ensures.reads c.open_area.ensures.header) c.open_area.ensures.bytes in
    if_ok c.open_area.result _ _ all (λ o f. image_opens c.args.label.now seen c.args.front.now c.in_ok-bytes.bytes.items h c.len-len.result o size front_long stays front_are c.in_ok-header.ensures.reads found shown f.1 f.0.0 f.0.1.0 f.0.1.1 f.0.1.2)

pub returns-in_err-header-clause-unfailing : goal.returns-in_err-header-clause-unfailing
unfolding FailsWithDisk
returns-in_err-header-clause-unfailing g c = let p = err_from_is_err_and c.from_residual.result c.from_residual.ensures.1 in rw (p.1, p.2) (tt, λ all. (all, image_fault c.in_err-header.field-0.0))

pub returns-then-ne-clause-unfailing : goal.returns-then-ne-clause-unfailing
unfolding FailsWithDisk
returns-then-ne-clause-unfailing g c = (tt, λ all. (all, tt))

pub returns-then-start-len-clause-unfailing : goal.returns-then-start-len-clause-unfailing
unfolding FailsWithDisk
returns-then-start-len-clause-unfailing g c = (tt, λ all. (all, tt))

pub returns-in_err-bytes-clause-unfailing : goal.returns-in_err-bytes-clause-unfailing
unfolding FailsWithDisk
returns-in_err-bytes-clause-unfailing g c = let p = err_from_is_err_and c.from_residual-in_err-bytes.result c.from_residual-in_err-bytes.ensures.1 in rw (p.1, p.2) (tt, c.in_err-bytes.ensures.unfailing.1)

pub returns-clause-unfailing : goal.returns-clause-unfailing
unfolding FailsWithDisk
returns-clause-unfailing g c = (always c.open_area.result c.in_ok-bytes.ensures.count, λ all. ((c.in_ok-bytes.ensures.unfailing.1 all).0, said_fault c.open_area.result _ c.open_area.ensures.fault))
