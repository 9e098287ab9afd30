use Rattle.std.proofs.Common.{◌≡◌, codes, Ok, refl, sym, ap, ◌∙◌}
use Rattle.url.specs.declared.host.Host.TheVariants.{Ipv4}
use Rattle.url.specs.Host.{host_text}
use Rattle.url.proofs.OnLiterals.{url_on_literals}
use Rattle.ocm_law_posts.specs.Names.{StandsInUrls, name_of}
use Rattle.ocm_law_posts.specs.Wrong.{first_address, number_host}
use Rattle.ocm_law_posts.proofs.wrong.a_number_is_read_as_an_address.Goals as goal

pub returns-clause-read : goal.returns-clause-read
unfolding url_on_literals
returns-clause-read c = refl

not_so : StandsInUrls (name_of number_host) → ⊥
unfolding url_on_literals
not_so h =
    let same : h.host ≡ Ipv4 first_address = let e : Ok h.host ≡ Ok (Ipv4 first_address) = sym h.read in cc in
    let text : host_text (Ipv4 first_address) ≡ codes "1" = ap host_text (sym same) ∙ h.same in
    absurd (cc)

pub returns-clause-other : goal.returns-clause-other
returns-clause-other c = not_so

pub returns-clause-site : goal.returns-clause-site
unfolding url_on_literals
returns-clause-site c = refl
