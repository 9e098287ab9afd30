use Rattle.std.proofs.Common.{sym, ap, ◌∙◌, ◌≡◌, true, length}
use Rattle.std.specs.List.{list_all}
use Rattle.ocm_tree.specs.Comparing.{stands_among}
use Rattle.ocm_tree.specs.Tables.{somes}
use Rattle.ocm_tree.proofs.Compared.{alike-from}
use Rattle.ocm_tree.proofs.comparing.stand_alike.Goals as goal

pub returns-then-len : goal.returns-then-len
returns-then-len c = λ yes place.
    let same : length (somes c.args.table.now.slots) ≡ length (somes c.args.other.now.slots) = sym c.len.ensures.len ∙ c.if-len.true ∙ c.len-2.ensures.len in
    let all : list_all (stands_among (somes c.args.other.now.slots)) c.args.table.now.slots ≡ true =
    ap (λ l. list_all (stands_among (somes c.args.other.now.slots)) l) (sym c.slots.ensures.slots) ∙ sym c.all_stand_in.ensures ∙ yes in
    alike-from c.args.table.now.slots (somes c.args.other.now.slots) c.slots.ensures.once c.slots-others.ensures.once same all place
