use Rattle.std.proofs.Common.{◌≡◌, ◌≤◌, ◌++◌, ◌∷◌, [], length, ap, ◌∙◌, sym, subst}
use Rattle.std.specs.Prelude.{OnOk, option_copied}
use Rattle.ocm_entry_bytes.specs.Spells.{eight_bytes}
use Rattle.ocm_history_records.specs.declared.kept.KeptRecord.TheVariants as kinds
use Rattle.ocm_history_records.specs.Kept.{lean_text}
use Rattle.ocm_history_records.specs.Packed.{seen}
use Rattle.ocm_history_records.proofs.views.KeptView.add_to.Goals as goal
use Rattle.ocm_history_records.proofs.views.KeptView.add_to.Goals.{After-add_whole}

-- the text of a tick
told : (c : After-add_whole) → c.to_be_bytes.result ≡ lean_text c.args.self.now (option_copied c.args.standing)
unfolding eight_bytes
told c =
    let shown : c.args.self.now ≡ kinds.Tick c.in-Tick.clock = sym c.self.view_is ∙ ap (λ k. seen k c.self.inside.bytes.now) c.in-Tick.is in
    c.to_be_bytes.ensures ∙ sym (ap (λ r. lean_text r (option_copied c.args.standing)) shown)

pub returns-in-Tick-clause-text : goal.returns-in-Tick-clause-text
returns-in-Tick-clause-text c = subst (λ t. OnOk c.add_whole.result (c.add_whole.new.texts ≡ c.args.texts.now ++ t ∷ [])) (told c) c.add_whole.ensures.text

pub returns-in-Tick-clause-length : goal.returns-in-Tick-clause-length
returns-in-Tick-clause-length c = subst (λ t. OnOk c.add_whole.result ((1 ≤ length t) × (length t ≤ 2097152))) (told c) c.add_whole.ensures.length
