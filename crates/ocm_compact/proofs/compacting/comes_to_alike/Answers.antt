use Rattle.std.proofs.Common.{◌≡◌, true, refl, sym, ap, ◌∙◌, Ok}
use Rattle.ocm_law_sessions.specs.Readings.{opened}
use Rattle.ocm_compact.specs.Replays.{home_of}
use Rattle.ocm_compact.proofs.Alike.{answers-from}
use Rattle.ocm_compact.proofs.compacting.comes_to_alike.Goals as goal

pub returns : goal.returns
returns c = λ yes k h.
    (let old = c.args.old.now in
    let whole = c.take_texts.ensures.opens (c.in_ok-taken.was ∙ ap (λ b. Ok b) c.if-not-taken.false) in
    let home : home_of c.new-new.result ≡ home_of old = c.new-new.ensures.home ∙ c.in_ok-host.ensures ∙ c.host.ensures in
    let also : home_of c.take_texts.new.self ≡ home_of old = c.take_texts.ensures.home ∙ home in
    let same : c.are_alike.result ≡ true = cc in
    record {
      least = whole.0;
      opens = ap (λ l. opened l 2 c.args.texts.now) (sym home) ∙ whole.1;
      alike = answers-from (home_of old) old c.take_texts.new.self k whole.0 refl also h whole.2 (c.are_alike.ensures same k whole.0 h whole.2);
    })
