use Rattle.std.proofs.Common.{◌≡◌, [], ap, ◌∙◌, sym, arith}
use Rattle.std.specs.Prelude.{unwrap_or, option_copied}
use Rattle.std.proofs.lemmas.List.{length-append}
use Rattle.ocm_entry_bytes.specs.Spells.{counted}
use Rattle.ocm_history_records.specs.declared.kept.KeptRecord.TheVariants as kinds
use Rattle.ocm_history_records.specs.Packed.{seen}
use Rattle.ocm_history_records.proofs.Fields.{counted-long}
use Rattle.ocm_history_records.proofs.views.KeptView.asked_size.Goals as goal

pub returns-in-Put : goal.returns-in-Put
returns-in-Put c =
    let front = c.self.inside.bytes.now in
    let body = unwrap_or (option_copied c.args.standing) [] in
    let both = length-append front (counted body) in
    let long = counted-long body in
    let shown : c.args.self.now ≡ kinds.Put front = sym c.self.view_is ∙ ap (λ k. seen k front) c.in-Put.is in
    rw shown (omega arith)
