-- What passes know, from the views of their seats.
use Rattle.std.proofs.Common.{◌≡◌, List, sym, ap, ◌∙◌, subst, true, Option, Some, None}
use Rattle.std.specs.Prelude.{is_some}
use Rattle.std.proofs.lemmas.Bool.{false≢true}
use Rattle.ocm_entry.specs.declared.entries.Entry.{Entry}
use Rattle.ocm_turn.specs.declared.view.View.{View}
use Rattle.ocm_turn.specs.Calls.{longer}
use Rattle.ocm_turn.specs.Passes.{the_some}
use Rattle.ocm_turn.specs.Steps.{joined, Sound}
use Rattle.ocm_turn.proofs.CallLemmas.{longer_either}
use Rattle.ocm_turn.proofs.ViewLemmas.{same_some}

-- equal options have one value
pub the_some_same : {A : Type 0} (a b : Option A) (p : is_some a ≡ true) (q : is_some b ≡ true) → a ≡ b → the_some a p ≡ the_some b q
the_some_same None b p q e = absurd (false≢true p)
the_some_same (Some x) None p q e = absurd (false≢true q)
the_some_same (Some x) (Some y) p q e = same_some x y e

module _ {G M : Type 0} (v w n : View G M) (is : n ≡ joined v w) (sound : Sound n) where
  -- two seats that could be joined have one base
  pub one_base : w.base ≡ v.base
  one_base = sym (ap (λ (u : View G M). u.met_base) is) ∙ (sound.met.0 ∙ ap (λ (u : View G M). u.base) is)

  -- and the same terms
  pub one_terms : w.terms ≡ v.terms
  one_terms = sym (ap (λ (u : View G M). u.met_terms) is) ∙ (sound.met.1 ∙ ap (λ (u : View G M). u.terms) is)

  module _ (legal : G → List Entry → List Entry → Type 0) (p : is_some v.terms ≡ true) (q : is_some w.terms ≡ true) (r : is_some n.terms ≡ true) where
    -- the longer of two legal histories is legal
    pub legal_joined : legal (the_some v.terms p) v.base v.seen → legal (the_some w.terms q) w.base w.seen → legal (the_some n.terms r) n.base n.seen
    legal_joined a b =
        let theirs : legal (the_some v.terms p) v.base w.seen = subst (λ (z : G × List Entry). legal z.0 z.1 w.seen) (λ i. (the_some_same w.terms v.terms q p one_terms i, one_base i)) b in
        let whole : legal (the_some v.terms p) v.base (longer v.seen w.seen) = longer_either (legal (the_some v.terms p) v.base) v.seen w.seen a theirs in
        subst (λ (z : G × List Entry × List Entry). legal z.0 z.1 z.2)
        (λ i. (the_some_same v.terms n.terms p r (sym (ap (λ (u : View G M). u.terms) is)) i, ap (λ (u : View G M). u.base) (sym is) i, ap (λ (u : View G M). u.seen) (sym is) i)) whole
