use Rattle.std.proofs.Common.{sym}
use Rattle.std.specs.Cmp.Lexicographic.{slice_cmp, nat_list_cmp_total}
use Rattle.std.specs.Ordering.{nat_cmp}
use Rattle.ocm_rules.specs.Numbers.{same_text}
use Rattle.ocm_chain.specs.declared.secrets.SecretEntry.{SecretEntry}
use Rattle.ocm_chain.proofs.Search.{read-is, found_equal, found_parted, secret_tests}
use Rattle.ocm_chain.proofs.secrets.SecretIndex.find.Goals as goal

pub returns-in-Ok-clause-found : goal.returns-in-Ok-clause-found
returns-in-Ok-clause-found g c =
    let es = c.self.inside.entries.items in
    let secret = c.args.secret.now in
    let found = rw (← c.self.view_is) at c.in-Ok.ensures.found in
    let same = read-is es c.in-Ok.place found.0 c.index.result.now found.1 c.index.ensures in
    rw (← c.self.view_is, same)
    (sym (found_equal (slice_cmp nat_cmp) nat_list_cmp_total (λ (e : SecretEntry). e.secret) (λ (e : SecretEntry). same_text e.secret secret) (λ (e : SecretEntry). e.number) es secret c.self.invariant.1 (λ e. secret_tests e.secret secret) c.in-Ok.place found.0 found.1 found.2))

pub returns-in-Err-clause-found : goal.returns-in-Err-clause-found
returns-in-Err-clause-found g c =
    let secret = c.args.secret.now in
    sym (found_parted (slice_cmp nat_cmp) (λ (e : SecretEntry). e.secret) (λ (e : SecretEntry). same_text e.secret secret) (λ (e : SecretEntry). e.number) c.args.self.now.entries secret (λ e. secret_tests e.secret secret) c.in-Err.field-0 c.in-Err.ensures.absent)
