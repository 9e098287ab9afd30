-- The worked stories are stories: each event is a step.
use Rattle.std.proofs.Common.{[], ◌∷◌, ◌++◌, refl}
use Rattle.std.specs.Fmt.{digits}
use Rattle.ocm_entry_bytes.specs.Spells.{two_bytes, four_bytes, eight_bytes, text, rights, optional}
use Rattle.ocm_entry.specs.declared.refusals.Why.TheVariants.{NotPermitted, UnknownShare}
use Rattle.ocm_entry.specs.declared.replies.Reply.TheVariants.{Done, Noticed}
use Rattle.ocm_rules.specs.Answers.{refused}
use Rattle.ocm_rules.specs.Cases.{host_of_bob, our_host}
use Rattle.ocm_law_sessions.specs.Written.{record_of}
use Rattle.ocm_law_world.specs.World.{empty}
use Rattle.ocm_law_world.specs.Stories.{Crash, IsStory, Return}
use Rattle.ocm_law_world.specs.Cases.{acceptance_told, accepted, alice_abroad, confirmed_abroad, exaggerated, forged}

pub forged-story : IsStory empty (forged ++ acceptance_told (refused UnknownShare) ∷ Return Done ∷ [])
unfolding digits record_of two_bytes four_bytes eight_bytes text rights optional
forged-story = ((refl, refl), ((refl, refl), ((refl, (refl, refl, refl)), ((refl, (refl, refl, refl)), ((refl, (refl, refl, refl)), ((refl, (refl, refl, refl)), ((refl, refl, refl), ((refl, refl, refl), tt))))))))

pub exaggerated-story : IsStory empty (exaggerated ++ acceptance_told (refused NotPermitted) ∷ Return Done ∷ [])
unfolding digits record_of two_bytes four_bytes eight_bytes text rights optional
exaggerated-story = ((refl, refl), ((refl, refl), ((refl, (refl, refl, refl)), ((refl, (refl, refl, refl)), ((refl, (refl, refl, refl)), ((refl, (refl, refl, refl)), ((refl, (refl, refl, refl)), ((refl, refl, refl), ((refl, refl, refl), tt)))))))))

pub lost-story : IsStory empty (accepted ++ acceptance_told Noticed ∷ acceptance_told Noticed ∷ Return Done ∷ [])
unfolding digits record_of two_bytes four_bytes eight_bytes text rights optional
lost-story = ((refl, refl), ((refl, refl), ((refl, (refl, refl, refl)), ((refl, (refl, refl, refl)), ((refl, (refl, refl, refl)), ((refl, refl, refl), ((refl, (refl, refl, refl)), ((refl, refl, refl), ((refl, refl, refl), ((refl, refl, refl), tt))))))))))

pub crashed-story : IsStory empty (accepted ++ acceptance_told Noticed ∷ Crash host_of_bob ∷ Crash our_host ∷ Return Done ∷ [])
unfolding digits record_of two_bytes four_bytes eight_bytes text rights optional
crashed-story = ((refl, refl), ((refl, refl), ((refl, (refl, refl, refl)), ((refl, (refl, refl, refl)), ((refl, (refl, refl, refl)), ((refl, refl, refl), ((refl, (refl, refl, refl)), ((refl, refl, refl), (tt, (tt, ((refl, refl, refl), tt)))))))))))

pub abroad-story : IsStory alice_abroad confirmed_abroad
unfolding digits record_of two_bytes four_bytes eight_bytes text rights optional
abroad-story = ((refl, refl), ((refl, (refl, refl, refl)), ((refl, (refl, refl, refl)), ((refl, (refl, refl, refl)), (refl, ((refl, refl, refl), tt))))))
