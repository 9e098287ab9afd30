use Rattle.std.proofs.Common.{◌≡◌, ℕ, List, true, Some, None, subst, arith}
use Rattle.std.proofs.lemmas.Grind.{common_steps}
use Rattle.std.specs.Cmp.Lexicographic.{slice_cmp, nat_list_cmp_total}
use Rattle.std.specs.Ordering.{nat_cmp}
use Rattle.ocm_rules.specs.Numbers.{same_text}
use Rattle.ocm_chain.specs.declared.secrets.SecretEntry.{SecretEntry}
use Rattle.ocm_chain.specs.Indexes.{number_with}
use Rattle.ocm_chain.proofs.Search.{ascends-insert, found_by-insert, found_equal, secret_tests, text-same}
use Rattle.ocm_chain.proofs.secrets.SecretIndex.add.Goals as goal

pub invariant_of-self : goal.invariant_of-self
invariant_of-self g c =
    let items = rw c.unwrap.ensures at c.insert.ensures.items in
    let parted = rw (← c.self.view_is) at c.in-Err.ensures.absent in
    let entry : SecretEntry = record { secret = c.args.secret; number = c.args.number } in
    let up = ascends-insert (slice_cmp nat_cmp) nat_list_cmp_total (λ (e : SecretEntry). e.secret) c.self.inside.entries.items c.in-Err.place entry c.self.invariant.1 parted in
    (grind (arith, common_steps), rw items up)

pub returns-in-Err-clause-found : goal.returns-in-Err-clause-found
returns-in-Err-clause-found g c = λ s.
    let items = rw c.unwrap.ensures at c.insert.ensures.items in
    let entry : SecretEntry = record { secret = c.args.secret; number = c.args.number } in
    let fresh = rw (← c.self.view_is) at c.requires.fresh in
    let absent : same_text c.args.secret s ≡ true → number_with c.self.inside.entries.items s ≡ None =
    λ t. let P : List ℕ → Type 0 = λ k. number_with c.self.inside.entries.items k ≡ None in subst P (text-same c.args.secret s t) fresh in
    rw (items, ← c.self.view_is)
    (found_by-insert (λ (e : SecretEntry). same_text e.secret s) (λ (e : SecretEntry). e.number) c.self.inside.entries.items c.in-Err.place entry absent)

impossible : (n : ℕ) (found : _) → found ≡ Some n → found ≡ None → ⊥
impossible n found e f = cc

pub returns-in_default-clause-found : goal.returns-in_default-clause-found
returns-in_default-clause-found g c =
    let here = rw (← c.self.view_is) at c.in_default.ensures.found in
    let fresh = rw (← c.self.view_is) at c.requires.fresh in
    let found = found_equal (slice_cmp nat_cmp) nat_list_cmp_total (λ (e : SecretEntry). e.secret) (λ (e : SecretEntry). same_text e.secret c.args.secret) (λ (e : SecretEntry). e.number) c.self.inside.entries.items c.args.secret c.self.invariant.1 (λ e. secret_tests e.secret c.args.secret) _ here.0 here.1 here.2 in
    absurd (impossible _ _ found fresh)

pub returns-in_default-clause-len : goal.returns-in_default-clause-len
returns-in_default-clause-len g c =
    let here = rw (← c.self.view_is) at c.in_default.ensures.found in
    let fresh = rw (← c.self.view_is) at c.requires.fresh in
    let found = found_equal (slice_cmp nat_cmp) nat_list_cmp_total (λ (e : SecretEntry). e.secret) (λ (e : SecretEntry). same_text e.secret c.args.secret) (λ (e : SecretEntry). e.number) c.self.inside.entries.items c.args.secret c.self.invariant.1 (λ e. secret_tests e.secret c.args.secret) _ here.0 here.1 here.2 in
    absurd (impossible _ _ found fresh)
