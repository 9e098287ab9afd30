use Rattle.std.proofs.Common.{◌≡◌, ℕ, ◌-◌, ◌≤◌, ◌∙◌, ap, sym, Bool, true, false, refl, arith}
use Rattle.std.specs.Prelude.{Option, Some, None, option_map, if◌then◌else◌, cond}
use Rattle.std.specs.HashMap as hash
use Rattle.ocm_entry.specs.declared.rows.Place.{Place}
use Rattle.ocm_rules.specs.Files.{same_place}
use Rattle.ocm_rules.proofs.Places.{same_place-equal}
use Rattle.ocm_tree.specs.Tables.{Index, counted}
use Rattle.ocm_tree.proofs.indexes.lessen.Goals as goal

less : (b : Bool) (o : Option ℕ) → counted (if b then option_map (λ count. count - 1) o else o) ≡ counted o - (if b then 1 else 0)
less true None = omega arith
less true (Some i) = refl
less false o = omega arith

none-left : (children : Index) (collection q : Place) (b : Bool) → same_place collection q ≡ b → counted (hash.get same_place children collection) ≤ 1 →
    counted (cond b None (hash.get same_place children q)) ≡ counted (hash.get same_place children q) - (if b then 1 else 0)
none-left children collection q true h few =
    let same : counted (hash.get same_place children q) ≡ counted (hash.get same_place children collection) = ap (λ (p : Place). counted (hash.get same_place children p)) (sym (same_place-equal collection q h)) in
    omega (arith, same, few)
none-left children collection q false h few = omega arith

pub returns-then-counted-gt1-clause-counts : goal.returns-then-counted-gt1-clause-counts
returns-then-counted-gt1-clause-counts c = λ q.
    ap counted (c.lessen_kept.ensures.counts q) ∙ less (same_place c.args.collection.now q) (hash.get same_place c.args.children.now q)

pub returns-else-counted-gt1-clause-counts : goal.returns-else-counted-gt1-clause-counts
returns-else-counted-gt1-clause-counts c = λ q.
    let count = c.counted.ensures ∙ ap counted c.get.ensures.value in
    ap counted (c.remove.ensures.updates.0 q) ∙ none-left c.args.children.now c.args.collection.now q (same_place c.args.collection.now q) refl (omega (arith, count))
