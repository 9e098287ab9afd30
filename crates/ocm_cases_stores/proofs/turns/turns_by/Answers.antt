use Rattle.std.proofs.Common.{[], ◌∙◌, ap, sym, subst}
use Rattle.ocm_serve_store.specs.Following.{store_in}
use Rattle.ocm_store.specs.Stores.{IsLegalUnder, Stands, terms_of}
use Rattle.ocm_cases_stores.proofs.turns.turns_by.Goals as goal

-- a store that is followed from now on stands for what it stood for, and came to be by no calls
pub make-requires-clause-value : goal.make-requires-clause-value
make-requires-clause-value g c =
    let r = c.requires.stands in
    let same = ap (λ held. store_in held) c.new.ensures.held in
    let is = sym same in
    (r.0, tt, (subst (λ s. Stands _ s r.0 []) is r.1, same ∙ sym c.new.ensures.born), subst (λ s. IsLegalUnder (terms_of s) r.0 []) is r.2)
