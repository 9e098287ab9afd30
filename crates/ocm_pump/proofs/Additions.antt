-- What calls add to the exchanges of a dial, one after another.
use Rattle.std.proofs.Common.{◌≡◌, ℕ, ◌+◌, ◌≤◌, List, [], ◌++◌, Option, Some, None, refl, sym, ap, ◌∙◌, append_assoc, arith}
use Rattle.std.specs.Prelude.{option_map}
use Rattle.ocm_base.specs.Outside.{Rose}
use Rattle.ocm_pump.specs.declared.exchanges.Exchange.{Exchange}
use Rattle.ocm_pump.specs.Exchanges.{Adds, Counts}

pub adds_none : (old : Option (List Exchange)) → Adds old old []
adds_none (Some before) = refl
adds_none None = refl

pub adds_more : (old between new : Option (List Exchange)) (first later : List Exchange) → Adds old between first → Adds between new later → Adds old new (later ++ first)
adds_more (Some before) between new first later e f =
    f ∙ ap (λ (o : Option (List Exchange)). option_map (λ (h : List Exchange). later ++ h) o) e ∙ ap Some (sym (append_assoc later first before))
adds_more None between new first later e f =
    f ∙ ap (λ (o : Option (List Exchange)). option_map (λ (h : List Exchange). later ++ h) o) e

-- a count that rose later rose
pub rose_later : (old between new : ℕ) → old ≤ between → Rose between new → Rose old new
rose_later old between new stays rose = omega arith

-- a count that grew twice grew by both
pub counts_none : (old : Option ℕ) → Counts old old 0
counts_none (Some before) = let e : before ≡ before + 0 = omega arith in ap Some e
counts_none None = refl

pub counts_more : (old between new : Option ℕ) (first later : ℕ) → Counts old between first → Counts between new later → Counts old new (first + later)
counts_more (Some before) between new first later e f =
    let both : (before + first) + later ≡ before + (first + later) = omega arith in
    f ∙ ap (λ (o : Option ℕ). option_map (λ (n : ℕ). n + later) o) e ∙ ap Some both
counts_more None between new first later e f = f ∙ ap (λ (o : Option ℕ). option_map (λ (n : ℕ). n + later) o) e
