-- The words of a command line, read as orders.
use Rattle.std.proofs.Common.{◌≡◌, Bool, true, false, List, [], ◌∷◌, Option, None, Result, Err, if◌then◌else◌, refl, sym, ap, subst, ◌∙◌, inl, inr}
use Rattle.std.specs.Prelude.{◌&&◌}
use Rattle.clap.specs.Words.{Row, Text, Kinds, matches_of, fault_of, is_simple_and_free}
use Rattle.clap.specs.Kinds.{HasKind}
use Rattle.clap.specs.Values.{kind_of}
use Rattle.clap.specs.declared.error.Error.{Error}
use Rattle.clap.specs.declared.error.kind.ErrorKind.TheVariants.{OutOfMemory}
use Rattle.clap.proofs.OnLiterals.{clap_on_literals}
use Rattle.ocm_serve_options.specs.declared.plans.Orders.{Orders}
use Rattle.ocm_serve_options.specs.declared.plans.PlanFault.{PlanFault}
use Rattle.ocm_serve_options.specs.declared.plans.PlanFault.TheVariants.{Usage, NoMemory}
use Rattle.ocm_serve_options.specs.Plans.{serve, asks_serve, is_none, orders_by, orders_of, Reads}

pub free : is_simple_and_free serve ≡ true
unfolding clap_on_literals
free = refl

-- other words order nothing
pub orders_none : (words : List Text) → asks_serve words ≡ false → orders_of words ≡ None
unfolding orders_of
orders_none words e = ap (λ (b : Bool). if b && is_none (fault_of serve words) then orders_by (matches_of serve words) else None) e

-- words that are refused have none
not_none : (words : List Text) (kinds : Kinds) → is_none kinds ≡ false → fault_of serve words ≡ kinds → orders_of words ≡ None
unfolding orders_of
not_none words kinds some e = both (asks_serve words) ∙ refl
  where
    both : (b : Bool) → (if b && is_none (fault_of serve words) then orders_by (matches_of serve words) else None) ≡ None
    both true = ap (λ (k : Kinds). if is_none k then orders_by (matches_of serve words) else None) e ∙ ap (λ (b : Bool). if b then orders_by (matches_of serve words) else None) some
    both false = refl

-- words that are taken have the orders by their options
pub orders_some : (words : List Text) (rows : List Row) (r : Result Orders PlanFault) → asks_serve words ≡ true → fault_of serve words ≡ [] → rows ≡ matches_of serve words → Reads r (orders_by rows) → Reads r (orders_of words)
unfolding orders_of
orders_some words rows r asks no_fault is read =
    subst (λ (o : Option Orders). Reads r o)
    (ap orders_by is ∙ sym (ap (λ (b : Bool). if b && is_none (fault_of serve words) then orders_by (matches_of serve words) else None) asks ∙ ap (λ (k : Kinds). if is_none k then orders_by (matches_of serve words) else None) no_fault)) read

refused : (words : List Text) (e : Error) (kinds : Kinds) → fault_of serve words ≡ kinds → HasKind kinds e → (kind_of e ≡ OutOfMemory → ⊥) → orders_of words ≡ None
refused words e kinds is (inl none) other = absurd (other none)
refused words e [] is (inr among) other = absurd among
refused words e (k ∷ kinds) is (inr among) other = not_none words (k ∷ kinds) refl is

pub orders_refused : (words : List Text) (e : Error) → HasKind (fault_of serve words) e → (kind_of e ≡ OutOfMemory → ⊥) → orders_of words ≡ None
orders_refused words e has other = refused words e (fault_of serve words) refl has other

pub orders_refused_by : (words : List Text) (e : Error) (fault : PlanFault) → HasKind (fault_of serve words) e → (fault ≡ Usage → kind_of e ≡ OutOfMemory → ⊥) → Reads (Err fault) (orders_of words)
orders_refused_by words e Usage has other = orders_refused words e has (other refl)
orders_refused_by words e NoMemory has other = tt
