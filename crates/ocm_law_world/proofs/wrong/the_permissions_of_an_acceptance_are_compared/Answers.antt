use Rattle.std.proofs.Common.{◌++◌, ◌∷◌, [], refl}
use Rattle.ocm_entry.specs.declared.replies.Reply.TheVariants.{Done, Noticed}
use Rattle.ocm_rules.specs.Cases.{bob, first_bytes, offer_to_bob, our_host, root_path, to_read}
use Rattle.ocm_rules.specs.Shares.{own_share}
use Rattle.ocm_rules.specs.Users.{users}
use Rattle.ocm_law_world.specs.Cases.{acceptance_told, exaggerated, kept_in, story}
use Rattle.ocm_law_world.specs.Stories.{Return}
use Rattle.ocm_law_world.proofs.Unmade.{less}
use Rattle.ocm_law_world.proofs.wrong.the_permissions_of_an_acceptance_are_compared.Goals as goal

pub returns-clause-less : goal.returns-clause-less
returns-clause-less c =
    less (story (exaggerated ++ acceptance_told Noticed ∷ Return Done ∷ [])) offer_to_bob 1
    (own_share our_host (users (kept_in (story exaggerated) our_host)) 1 root_path bob to_read first_bytes) refl refl refl
