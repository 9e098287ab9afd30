use Rattle.std.proofs.Common.{inl, ◌≡◌, ◌≤◌, ◌<◌, ◌+◌, ◌-◌, ℕ, List, [], ◌∷◌, ◌++◌, length, replicate, refl, sym, subst, ◌∙◌, ap, arith, append_assoc, length-append}
use Rattle.ocm_disk.specs.Disk.{Only}
use Rattle.ocm_journal.proofs.AppendStands.{on_ok, stands_with}
use Rattle.ocm_journal.proofs.Moving.{still}
use Rattle.ocm_journal.proofs.RenewStands.{length-renewed, renewal_moments, renewal_image, renewal_after_fault}
use Rattle.ocm_journal_image.specs.Layout.{HoldsAt, IsImage, blocks, blocks_size}
use Rattle.ocm_journal.proofs.Shut.{byte_of_other, shut_behind, switch_held}
use Rattle.ocm_journal.proofs.journal.Journal.renew.Goals as goal

pub returns-in_err-room-clause-memory : goal.returns-in_err-room-clause-memory
returns-in_err-room-clause-memory g c = λ tells label before s none.
    let t = stands_with g.D.Disk label before c.args.self.now c.room.new.self c.room.ensures.seen (c.room.ensures.crash tells) s in
    record { image = t.0; selector = s.selector; start = t.1; gate = s.gate; durable = t.2 }

pub returns-in_err-room-clause-any_moment : goal.returns-in_err-room-clause-any_moment
returns-in_err-room-clause-any_moment g c = λ tells label before s.
    let d = g.D.Disk in
    let old = c.args.self.now in
    still d.moment d.left_since old.disk c.room.new.self _ (d.may_leave old.disk) (d.may_leave c.room.new.self) (g.met.D.Disk.only_now old.disk)
    (λ b left. inl (subst (λ (x : List ℕ). IsImage label old.area old.form before x) (sym (s.durable b left)) s.image)) c.room.ensures.time (c.room.ensures.crash tells)

pub put_behind-requires-clause-end : goal.put_behind-requires-clause-end
put_behind-requires-clause-end g c =
    let fits : 2 + blocks_size c.args.records ≤ c.args.self.now.area = c.if-not-fits.ensures.fits.0 refl in
    let size = length-renewed (c.other_area-other.result.0 - c.min-place.result) c.args.records c.in_ok-text.text c.as_slice.result.now c.as_slice.ensures c.in_ok-text.ensures in
    omega (arith, size, c.min-place.ensures, c.other_area-other.ensures.high, c.args.self.now.area_size.1, fits)

pub invariant_of-self-2-clause-gate_within : goal.invariant_of-self-2-clause-gate_within
invariant_of-self-2-clause-gate_within g c =
    let fits : 2 + blocks_size c.args.records ≤ c.args.self.now.area = c.if-not-fits.ensures.fits.0 refl in
    let size = length-renewed (c.other_area-other.result.0 - c.min-place.result) c.args.records c.in_ok-text.text c.in_ok-text.text refl c.in_ok-text.ensures in
    let len : c.len-2.result ≡ length c.in_ok-text.text = c.len-2.ensures in
    (omega (arith, size, len, c.min-place.ensures), omega (arith, size, len, c.min-place.ensures, fits))

pub returns-then-is_err-clause-any_moment : goal.returns-then-is_err-clause-any_moment
returns-then-is_err-clause-any_moment g c = λ tells label before s.
    let d = g.D.Disk in
    let fits : 2 + blocks_size c.args.records ≤ c.args.self.now.area = c.if-not-fits.ensures.fits.0 refl in
    let len_is : c.len.result ≡ length (d.seen c.args.self.now.disk) = c.len.ensures ∙ sym (g.met.D.Disk.sizes c.args.self.now.disk tells) in
    let inside : c.args.self.now.gate < c.len.result = omega (arith, c.args.self.now.inside, c.len.ensures) in
    renewal_moments g.D.Disk label before c.args.records c.args.self.now c.room.new.self c.other_area-other.result.0 c.other_area-other.result.1 c.min-place.result c.len.result c.in_ok-text.text c.as_slice.result.now c.other_area-other.ensures.second c.other_area-other.ensures.first c.fits.ensures.sizes fits len_is c.min-place.ensures inside c.as_slice.ensures c.in_ok-text.ensures c.room.ensures.seen s c.put_behind.new.disk (g.met.D.Disk.only_now c.args.self.now.disk) c.room.ensures.time (c.room.ensures.crash tells) (c.put_behind.ensures.any_moment tells)

pub returns-clause-any_moment : goal.returns-clause-any_moment
returns-clause-any_moment g c = λ tells label before s.
    let d = g.D.Disk in
    let fits : 2 + blocks_size c.args.records ≤ c.args.self.now.area = c.if-not-fits.ensures.fits.0 refl in
    let len_is : c.len.result ≡ length (d.seen c.args.self.now.disk) = c.len.ensures ∙ sym (g.met.D.Disk.sizes c.args.self.now.disk tells) in
    let inside : c.args.self.now.gate < c.len.result = omega (arith, c.args.self.now.inside, c.len.ensures) in
    renewal_moments g.D.Disk label before c.args.records c.args.self.now c.room.new.self c.other_area-other.result.0 c.other_area-other.result.1 c.min-place.result c.len.result c.in_ok-text.text c.as_slice.result.now c.other_area-other.ensures.second c.other_area-other.ensures.first c.fits.ensures.sizes fits len_is c.min-place.ensures inside c.as_slice.ensures c.in_ok-text.ensures c.room.ensures.seen s c.put_behind.new.disk (g.met.D.Disk.only_now c.args.self.now.disk) c.room.ensures.time (c.room.ensures.crash tells) (c.put_behind.ensures.any_moment tells)

pub returns-clause-acknowledged : goal.returns-clause-acknowledged
returns-clause-acknowledged g c = λ tells label before s.
    let d = g.D.Disk in
    let fits : 2 + blocks_size c.args.records ≤ c.args.self.now.area = c.if-not-fits.ensures.fits.0 refl in
    let len_is : c.len.result ≡ length (d.seen c.args.self.now.disk) = c.len.ensures ∙ sym (g.met.D.Disk.sizes c.args.self.now.disk tells) in
    let inside : c.args.self.now.gate < c.len.result = omega (arith, c.args.self.now.inside, c.len.ensures) in
    let good = sym c.is_err.ensures.value ∙ c.if-is_err.false in
    let new = renewal_image g.D.Disk label before c.args.records c.args.self.now c.room.new.self c.other_area-other.result.0 c.other_area-other.result.1 c.min-place.result c.len.result c.in_ok-text.text c.as_slice.result.now c.other_area-other.ensures.second c.other_area-other.ensures.first c.fits.ensures.sizes fits len_is c.min-place.ensures inside c.as_slice.ensures c.in_ok-text.ensures c.room.ensures.seen s (d.seen c.put_behind.new.disk) (on_ok c.put_behind.result _ good (c.put_behind.ensures.switched tells)) in
    let size = length-renewed (c.other_area-other.result.0 - c.min-place.result) c.args.records c.in_ok-text.text c.in_ok-text.text refl c.in_ok-text.ensures in
    let len : c.len-2.result ≡ length c.in_ok-text.text = c.len-2.ensures in
    record {
      image = new.0;
      selector = s.selector;
      start = new.1;
      gate = omega (arith, size, len, c.min-place.ensures);
      durable = on_ok c.put_behind.result _ good (c.put_behind.ensures.durable tells);
    }

pub returns-clause-calls : goal.returns-clause-calls
returns-clause-calls g c = λ left b.
    let good = sym c.is_err.ensures.value ∙ c.if-is_err.false in
    on_ok c.put_behind.result _ good (c.put_behind.ensures.calls left (c.room.ensures.burnt (left + 4) b))

pub returns-clause-fewer : goal.returns-clause-fewer
returns-clause-fewer g c = λ left few b.
    let good = sym c.is_err.ensures.value ∙ c.if-is_err.false in
    absurd (let bad = c.put_behind.ensures.fewer left few (c.room.ensures.burnt left b) in cc)

pub returns-then-is_err-clause-after_fault : goal.returns-then-is_err-clause-after_fault
returns-then-is_err-clause-after_fault g c = λ tells label before left s stopped p b.
    let d = g.D.Disk in
    let fits : 2 + blocks_size c.args.records ≤ c.args.self.now.area = c.if-not-fits.ensures.fits.0 refl in
    let len_is : c.len.result ≡ length (d.seen c.args.self.now.disk) = c.len.ensures ∙ sym (g.met.D.Disk.sizes c.args.self.now.disk tells) in
    let inside : c.args.self.now.gate < c.len.result = omega (arith, c.args.self.now.inside, c.len.ensures) in
    let only_mid : Only (d.seen c.room.new.self) (d.may_leave c.room.new.self) = λ x leaves. s.durable x (c.room.ensures.crash tells x leaves) ∙ sym c.room.ensures.seen in
    let room : c.min-place.result + length c.as_slice.result.now ≤ d.size c.room.new.self + d.spare c.room.new.self = omega (arith, c.in_ok-room.ensures.room, ap length c.as_slice.ensures) in
    renewal_after_fault g.D.Disk label before c.args.records c.args.self.now c.room.new.self c.other_area-other.result.0 c.other_area-other.result.1 c.min-place.result c.len.result c.in_ok-text.text c.as_slice.result.now c.other_area-other.ensures.second c.other_area-other.ensures.first c.fits.ensures.sizes fits len_is c.min-place.ensures inside c.as_slice.ensures c.in_ok-text.ensures c.room.ensures.seen s left c.put_behind.new.disk (c.put_behind.ensures.cut_short tells only_mid left (c.room.ensures.passes left p) (c.room.ensures.burnt left b) room)

pub returns-clause-shut : goal.returns-clause-shut
returns-clause-shut g c = λ tells.
    let d = g.D.Disk in
    let mid : ℕ = length (d.seen c.room.new.self) in
    let mid_is : mid ≡ d.size c.args.self.now.disk = ap (λ (l : List ℕ). length l) c.room.ensures.seen ∙ g.met.D.Disk.sizes c.args.self.now.disk tells in
    let inside : c.args.self.now.gate < mid = omega (arith, c.args.self.now.inside, mid_is) in
    let at : c.min-place.result ≤ mid = omega (arith, c.min-place.ensures, c.len.ensures, mid_is) in
    let low : 512 ≤ c.min-place.result = omega (arith, c.min-place.ensures, c.len.ensures, mid_is, inside, c.other_area-other.ensures.low, c.args.self.now.starts.0, c.args.self.now.gate_within.0) in
    let good = sym c.is_err.ensures.value ∙ c.if-is_err.false in
    let zeros : List ℕ = replicate (c.other_area-other.result.0 - c.min-place.result) 0 in
    let front : List ℕ = zeros ++ (2 ∷ blocks c.args.records) in
    let text : c.as_slice.result.now ≡ front ++ 0 ∷ [] = c.as_slice.ensures ∙ c.in_ok-text.ensures ∙ sym (append_assoc zeros (2 ∷ blocks c.args.records) (0 ∷ [])) in
    let size : length c.in_ok-text.text ≡ length front + 1 = ap (λ (l : List ℕ). length l) (sym c.as_slice.ensures ∙ text) ∙ length-append front (0 ∷ []) in
    let selector : c.args.self.now.selector ≤ 272 = c.args.self.now.selector_within.1 in
    shut_behind (d.seen c.room.new.self) c.min-place.result c.as_slice.result.now c.args.self.now.selector c.other_area-other.result.1 (d.seen c.put_behind.new.disk) at (omega (arith, selector, low, at)) (on_ok c.put_behind.result _ good (c.put_behind.ensures.switched tells)) front _ text (omega (arith, size, c.len-2.ensures)) (omega (arith, selector, low, size, c.len-2.ensures))

pub returns-clause-selected : goal.returns-clause-selected
returns-clause-selected g c = λ tells.
    let d = g.D.Disk in
    let mid : ℕ = length (d.seen c.room.new.self) in
    let mid_is : mid ≡ d.size c.args.self.now.disk = ap (λ (l : List ℕ). length l) c.room.ensures.seen ∙ g.met.D.Disk.sizes c.args.self.now.disk tells in
    let at : c.min-place.result ≤ mid = omega (arith, c.min-place.ensures, c.len.ensures, mid_is) in
    let low : c.args.self.now.selector ≤ mid = omega (arith, c.args.self.now.inside, mid_is, c.args.self.now.starts.0, c.args.self.now.gate_within.0, c.args.self.now.selector_within.1) in
    let good = sym c.is_err.ensures.value ∙ c.if-is_err.false in
    let held = switch_held (d.seen c.room.new.self) c.min-place.result c.as_slice.result.now c.args.self.now.selector c.other_area-other.result.1 (d.seen c.put_behind.new.disk) at low (on_ok c.put_behind.result _ good (c.put_behind.ensures.switched tells)) in
    subst (λ byte. HoldsAt (d.seen c.put_behind.new.disk) c.args.self.now.selector (byte ∷ [])) (byte_of_other c.args.self.now.start c.args.self.now.area c.other_area-other.result.0 c.other_area-other.result.1 c.args.self.now.area_size.0 c.other_area-other.ensures.second c.other_area-other.ensures.first) held
