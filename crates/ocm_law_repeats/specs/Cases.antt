use Rattle.std.specs.Prelude.{List, [], ◌∷◌, codes}
use Rattle.ocm_types.specs.declared.letters.Offer.{Offer}
use Rattle.ocm_entry.specs.declared.asks.Ask.{Ask}
use Rattle.ocm_entry.specs.declared.asks.Ask.TheVariants as asks
use Rattle.ocm_entry.specs.declared.asks.Cmd.TheVariants as commands
use Rattle.ocm_rules.specs.Cases.{add_bob, bob_commands, change_for_bob, offer_to_bob, to_read, unshared_for_bob}

-- an offer with the id and the secret of another, under another name
abbrev pub renamed_offer : Offer
renamed_offer = record offer_to_bob { name = codes "g" }

-- bob declines an offer that then is shared no more, which changes nothing; another comes with its id and its secret
abbrev pub ended_before : List Ask
ended_before =
    add_bob
    ∷ asks.Offer offer_to_bob
    ∷ bob_commands (commands.Decline 1)
    ∷ unshared_for_bob
    ∷ asks.Offer renamed_offer
    ∷ []

-- bob is told other permissions for an offer; another comes with its id and its secret
abbrev pub told_before : List Ask
told_before =
    add_bob
    ∷ asks.Offer offer_to_bob
    ∷ change_for_bob 1 to_read
    ∷ asks.Offer renamed_offer
    ∷ []
