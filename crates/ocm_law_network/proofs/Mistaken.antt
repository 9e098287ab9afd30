-- A page to another letter confirms what nobody made.
use Rattle.std.proofs.Common.{◌≡◌, ℕ, [], refl, sym, ap, ◌∙◌, subst, Some, None, codes}
use Rattle.std.specs.Prelude.{Option}
use Rattle.std.specs.Fmt.{digits}
use Rattle.std.specs.Option.{option_map_or}
use Rattle.json.proofs.Printed.Utf8.{IsUtf8-are_ascii}
use mathlib.Core.Logic.{inl, inr}
use Rattle.ocm_types.specs.declared.letters.Offer.{Offer}
use Rattle.ocm_types.specs.declared.phases.Phase.TheVariants.{Confirmed}
use Rattle.ocm_entry.specs.declared.rows.Share.{Share}
use Rattle.ocm_entry_bytes.specs.Spells.{two_bytes, four_bytes, eight_bytes, text, rights, optional}
use Rattle.ocm_rules.specs.Cases.{first_secret, host_of_bob, second_secret}
use Rattle.ocm_rules.specs.Messages.{phase}
use Rattle.ocm_rules.specs.Numbers.{at_number}
use Rattle.ocm_rules.specs.Offers.{offers}
use Rattle.ocm_rules.specs.Shares.{made, named}
use Rattle.ocm_rules.proofs.Searches.{some-same}
use Rattle.ocm_law_sessions.specs.Written.{record_of}
use Rattle.ocm_entry.specs.declared.replies.Reply.TheVariants.{Noticed}
use Rattle.ocm_dav_pages.specs.Pages.{page_of}
use Rattle.ocm_law_posts.specs.Letters.{IsLetter}
use Rattle.ocm_law_posts.specs.Posts.{post_shape}
use Rattle.ocm_law_world.specs.Cases.{kept_in}
use Rattle.ocm_law_world.specs.Guests.{IsMade}
use Rattle.ocm_law_world.specs.Stories.{Holds}
use Rattle.ocm_law_world.specs.World.{Session, World, kept_at}
use Rattle.ocm_law_network.specs.Network.{Along, IsLog, Post, RepliesAreTheirs, session_of, world_of}
use Rattle.ocm_law_network.specs.Cases.{IsSomePage, IsSomeReply, accepted_too, accepts_invented, alone, declined, declined_call, declines, invented, mistaken, post_home}
use Rattle.ocm_law_network.proofs.Reached.{log-made}
use Rattle.ocm_law_network.proofs.Worked.{comes, posts-so, replies, settles, shared-log, there}

declines-letter : IsLetter declines.letter
declines-letter = record {
  parts = record { has_id = refl; has_secret = refl };
  utf8 = (IsUtf8-are_ascii (codes "1") refl, (IsUtf8-are_ascii first_secret refl, tt));
  counted = refl;
}

accepts-letter : IsLetter accepts_invented.letter
accepts-letter = record {
  parts = (record { has_id = refl; has_secret = refl }, record { read = refl; fits = refl }, record { read = refl; fits = refl }, refl);
  utf8 = (IsUtf8-are_ascii (codes "2") refl, (IsUtf8-are_ascii second_secret refl, (IsUtf8-are_ascii (codes "alice") refl, (IsUtf8-are_ascii (codes "bob") refl, tt))));
  counted = refl;
}

declined-log : IsLog alone declined
unfolding digits record_of two_bytes four_bytes eight_bytes text rights optional
declined-log = (
  (replies _ _ _ (refl, refl, refl), refl, (post_home 1 declines, refl, comes 1 declines declines-letter)),
  (posts-so _ 1 declines declines-letter refl refl, ((replies _ _ _ (refl, refl, refl), refl, tt), ((replies _ _ _ (refl, refl, refl), refl, tt), shared-log))),
)

accepted-too-log : IsLog alone accepted_too
unfolding digits record_of two_bytes four_bytes eight_bytes text rights optional
accepted-too-log = (posts-so _ 2 accepts_invented accepts-letter refl refl, ((replies _ _ _ (refl, refl, refl), refl, tt), ((replies _ _ _ (refl, refl, refl), refl, tt), declined-log)))

pub mistaken-log : IsLog alone mistaken
unfolding digits record_of two_bytes four_bytes eight_bytes text rights optional
mistaken-log = ((replies _ _ _ (refl, refl, refl), settles accepted_too 2 accepts_invented refl refl refl), ((post_home 2 accepts_invented, refl), accepted-too-log))

-- what came back is the page by which alice's server replied to the first post
pub mistaken-pages : Along (IsSomeReply alone) mistaken
mistaken-pages = (
  tt,
  (
    (λ post posted ours. let to = ap (λ (p : Post). p.message.to) (some-same (post_home 2 accepts_invented) post posted) in
        subst (λ h. IsSomePage accepted_too h (page_of Noticed post_shape).bytes) to (record { connection = 1; call = declined_call; called = inr (inr (inr (inl refl))); is = refl })),
    ((λ ours. refl), (tt, (tt, (tt, ((λ ours. refl), (tt, (tt, (tt, (tt, (tt, (tt, (tt, tt)))))))))))),
  ),
)

no-share : (share : Share) → None ≡ Some share → ⊥
no-share share e = cc

-- where no share has the number that an offer names, the offer is not made
absent : (w : World) (offer : Offer) (id : ℕ) → named offer.id ≡ Some id → at_number (made offer.owner.host (kept_in w offer.owner.host)) id ≡ None → IsMade w offer → ⊥
absent w offer id names none (s, is, m) =
    let P : Option Session → Type 0 = λ o. at_number (made offer.owner.host (option_map_or (kept_at offer.owner.host) o [])) id ≡ None in
    let same : id ≡ m.id = some-same id m.id (sym names ∙ m.named) in
    no-share m.share (sym (subst P is none) ∙ ap (λ i. at_number (made offer.owner.host (kept_at offer.owner.host s)) i) same ∙ m.made)

pub mistaken-unmade : IsMade (world_of alone mistaken []) invented → ⊥
mistaken-unmade = absent (world_of alone mistaken []) invented 2 refl refl

mistaken-confirmed : Holds (λ (s : Session). (at_number (offers (kept_at host_of_bob s)) 2 ≡ Some invented) × (phase host_of_bob (kept_at host_of_bob s) 2 ≡ Confirmed)) (session_of mistaken host_of_bob)
mistaken-confirmed = (refl, refl)

pub mistaken-others : RepliesAreTheirs alone mistaken → ⊥
mistaken-others theirs =
    let s = there (λ (s : Session). (at_number (offers (kept_at host_of_bob s)) 2 ≡ Some invented) × (phase host_of_bob (kept_at host_of_bob s) 2 ≡ Confirmed)) (session_of mistaken host_of_bob) mistaken-confirmed in
    mistaken-unmade (log-made alone mistaken host_of_bob s.0 2 invented mistaken-log theirs s.1 s.2.0 s.2.1 refl)
