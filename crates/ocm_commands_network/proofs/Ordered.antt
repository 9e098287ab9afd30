-- Orders have a worker at least.
use Rattle.std.proofs.Common.{◌≡◌, ℕ, ◌≤◌, List, Bool, true, false, Some, None, cond, subst, rules}
use Rattle.std.specs.Prelude.{◌&&◌, nat_le, codes}
use Rattle.std.proofs.lemmas.Option.{cond_some, none-some, option_and_then_some, same_Some}
use Rattle.clap.specs.Words.{Row, Text, matches_of, fault_of}
use Rattle.ocm_serve_options.specs.declared.plans.Orders.{Orders}
use Rattle.ocm_serve_options.specs.Plans.{asks_serve, choices_at, is_none, names_at, number_at, numbers_at, places_at, orders_by, orders_of, serve, workers_of}

least : (n w : ℕ) → workers_of n ≡ Some w → 1 ≤ w
least n w is = let k = cond_some (nat_le 1 n && nat_le n 64) n w is in subst (λ (m : ℕ). 1 ≤ m) k.1 (search (k.0, rules))

ordered : (rows : List Row) (orders : Orders) → orders_by rows ≡ Some orders → 1 ≤ orders.workers
unfolding orders_by numbers_at
ordered rows orders is =
    option_and_then_some _ (numbers_at rows) orders is
    (λ n at is2. option_and_then_some _ (choices_at rows) orders is2
    (λ choices chosen is3. option_and_then_some _ (names_at rows) orders is3
    (λ names of is4. option_and_then_some _ (places_at rows) orders is4
    (λ places there is5. subst (λ (p : Orders). 1 ≤ p.workers) (same_Some _ orders is5)
    (option_and_then_some _ (number_at (codes "workers") rows) n at
    (λ number at2 is6. option_and_then_some _ (workers_of number) n is6
    (λ workers of2 is7. option_and_then_some _ (number_at (codes "connections") rows) n is7
    (λ connections at3 is8. subst (λ m. 1 ≤ m.workers) (same_Some _ n is8) (least number workers of2)))))))))

pub orders-have-workers : (words : List Text) (orders : Orders) → orders_of words ≡ Some orders → 1 ≤ orders.workers
unfolding orders_of
orders-have-workers words orders is = taken (asks_serve words && is_none (fault_of serve words)) is
  where
    taken : (b : Bool) → cond b (orders_by (matches_of serve words)) None ≡ Some orders → 1 ≤ orders.workers
    taken true is = ordered (matches_of serve words) orders is
    taken false is = absurd (none-some orders is)
