use Rattle.std.proofs.Common.{◌≡◌, ℕ, ◌-◌, ◌∙◌, ap, sym, subst, Bool, true, false, refl}
use Rattle.std.specs.Prelude.{Option, Some, None, option_map, if◌then◌else◌, cond}
use Rattle.std.specs.Option.{IsSome, option_copied_mut}
use Rattle.std.specs.HashMap as hash
use Rattle.ocm_entry.specs.declared.rows.Place.{Place}
use Rattle.ocm_rules.specs.Files.{same_place}
use Rattle.ocm_rules.proofs.Places.{same_place-equal}
use Rattle.ocm_tree.specs.Tables.{Index}
use Rattle.ocm_tree.proofs.indexes.lessen_kept.Goals as goal

less : (children : Index) (collection q : Place) (count v : ℕ) (o : Option ℕ) → hash.get same_place children collection ≡ Some count → v ≡ count - 1 →
    (b : Bool) → same_place collection q ≡ b → o ≡ cond b (Some v) (hash.get same_place children q) → o ≡ (if b then option_map (λ count. count - 1) (hash.get same_place children q) else hash.get same_place children q)
less children collection q count v o here e true h f =
    let there : hash.get same_place children q ≡ Some count = ap (hash.get same_place children) (sym (same_place-equal collection q h)) ∙ here in
    rw there (f ∙ ap Some e)
less children collection q count v o here e false h f = f

none-less : (children : Index) (collection q : Place) → hash.get same_place children collection ≡ None →
    (b : Bool) → same_place collection q ≡ b → hash.get same_place children q ≡ (if b then option_map (λ count. count - 1) (hash.get same_place children q) else hash.get same_place children q)
none-less children collection q here true h =
    let there : hash.get same_place children q ≡ None = ap (hash.get same_place children) (sym (same_place-equal collection q h)) ∙ here in
    rw there refl
none-less children collection q here false h = refl

pub returns-in-Some-clause-counts : goal.returns-in-Some-clause-counts
returns-in-Some-clause-counts c = λ q.
    let value : hash.get same_place c.args.children.now c.args.collection.now ≡ Some c.in-Some.count.now = sym c.get_mut.ensures.value ∙ ap option_copied_mut c.in-Some.is in
    let P : Option ℕ → Type 0 = λ o. IsSome o in
    let updates = (c.get_mut.follows.holds c.saturating_sub.result).3 (subst P (sym value) refl) in
    less c.args.children.now c.args.collection.now q c.in-Some.count.now c.saturating_sub.result _ value c.saturating_sub.ensures (same_place c.args.collection.now q) refl (updates.0 q)

pub returns-in_default-clause-counts : goal.returns-in_default-clause-counts
returns-in_default-clause-counts c = λ q.
    let value : hash.get same_place c.args.children.now c.args.collection.now ≡ None = sym c.get_mut.ensures.value ∙ ap option_copied_mut c.in_default.is in
    ap (λ (m : Index). hash.get same_place m q) c.get_mut.follows.holds-at-none
    ∙ none-less c.args.children.now c.args.collection.now q value (same_place c.args.collection.now q) refl
