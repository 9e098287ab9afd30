use Rattle.std.proofs.Common.{List, sym, ap, ◌∙◌}
use Rattle.ocm_entry.specs.declared.rows.Node.{Node}
use Rattle.ocm_rules.specs.State.{node_at}
use Rattle.ocm_compact.proofs.Alike.{alike-from}
use Rattle.ocm_compact.proofs.comparing.are_alike.Goals as goal

pub returns-then-moment : goal.returns-then-moment
returns-then-moment c = λ yes k l h j.
    alike-from c.args.one.now c.args.other.now k l h j c.requires (c.same_texts.ensures c.if-not-same_texts.false) (sym c.moment.ensures.value ∙ c.if-moment.true ∙ c.moment-2.ensures.value)
    (λ place.
    ap (λ (ns : List Node). node_at ns place) (sym c.files.ensures) ∙ c.stands_as.ensures yes place ∙ ap (λ (ns : List Node). node_at ns place) c.files-then-moment.ensures)
