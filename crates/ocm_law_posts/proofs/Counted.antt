-- The changes of permissions that a server tells are counted from 1.
use Rattle.std.proofs.Common.{◌≡◌, ◌∷◌, Bool, true, false, refl, sym, subst}
use Rattle.std.proofs.lemmas.Bool.{le-leb}
use Rattle.ocm_types.specs.declared.letters.Letter.{Letter}
use Rattle.ocm_types.specs.declared.letters.Letter.TheVariants as letters
use Rattle.ocm_types.specs.declared.letters.Notice.TheVariants as notices
use Rattle.ocm_rules.specs.declared.rows.Message.{Message}
use Rattle.ocm_rules.specs.Messages.{is_change}
use Rattle.ocm_rules.specs.Views.{limits}
use Rattle.ocm_law_world.proofs.Changes.{changes-limited}
use Rattle.ocm_law_world.proofs.Hearing.{limit-counts}
use Rattle.ocm_law_posts.specs.Letters.{IsCounted, SentAreCounted}

uncounted : (letter : Letter) → is_change letter ≡ false → IsCounted letter
uncounted (letters.Offer offer) h = tt
uncounted (letters.Notice (notices.Changed id secret serial perms)) h = absurd (cc)
uncounted (letters.Notice (notices.Accepted id secret owner with perms)) h = refl
uncounted (letters.Notice (notices.Declined id secret)) h = refl
uncounted (letters.Notice (notices.Unshared id secret)) h = refl
uncounted (letters.Notice (notices.ReshareRequest id secret with sender_id asked)) h = refl
uncounted (letters.Notice (notices.ReshareUndo id secret)) h = refl

pub sent-counted : SentAreCounted
sent-counted host g number message sent = by_case (is_change message.letter) refl
  where
    by_case : (b : Bool) → is_change message.letter ≡ b → IsCounted message.letter
    by_case true is =
        let l = changes-limited host g number message sent is in
        subst (λ (m : Message). IsCounted m.letter) (sym l.message) (le-leb 1 (limits (l.limit ∷ l.before)) (limit-counts l.limit l.before l.is_limit))
    by_case false none = uncounted message.letter none
