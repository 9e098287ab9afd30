-- What is printed of a reply, and the reply of which something was printed.
use Rattle.std.proofs.Common.{◌≡◌, ℕ, List, [], ◌∷◌, ◌++◌, Bool, true, false, refl, sym, ap, ◌∙◌, append_assoc, Option, Some, None, ◌⊎◌}
use Rattle.std.specs.Prelude.{nat_eq, codes, decimal}
use Rattle.std.specs.Fmt.{digits}
use Rattle.std.specs.List.{flat_map}
use Rattle.std.proofs.lemmas.List.{append_cancel_left, append-nil}
use mathlib.Core.Logic.{inl, inr}
use Rattle.ocm_entry.specs.declared.asks.Ask.TheVariants as asks
use Rattle.ocm_entry.specs.declared.asks.Cmd.TheVariants as commands
use Rattle.ocm_entry.specs.declared.refusals.Why.{Why}
use Rattle.ocm_entry.specs.declared.refusals.Why.TheVariants as reasons
use Rattle.ocm_entry.specs.declared.replies.Reply.{Reply}
use Rattle.ocm_entry.specs.declared.replies.Reply.TheVariants as replies
use Rattle.ocm_entry.specs.declared.rows.Share.{Share}
use Rattle.ocm_rules.specs.Answers.{end_reply, local_reply, refused, reply_in}
use Rattle.ocm_rules.specs.History.{is_failure}
use Rattle.ocm_rules.specs.Users.{user_of_key}
use Rattle.ocm_rules.specs.Views.{View, is_live_in, share_of_owner}
use Rattle.ocm_rules.proofs.Lists.{not_both}
use Rattle.ocm_transcript.specs.Texts.{further, further_line, line_text, refusal_text, reply_lines, reply_text}

-- ---- what is printed

unauthorized : refusal_text reasons.Unauthorized ≡ codes "401 unauthorized"
unfolding digits
unauthorized = refl

pub unauthorized-text : (number : ℕ) (shown : Bool) → reply_lines number shown (refused reasons.Unauthorized) ≡ line_text number (codes "401 unauthorized")
unauthorized-text number shown = append-nil (line_text number (refusal_text reasons.Unauthorized)) ∙ ap (line_text number) unauthorized

pub no_memory-text : (number : ℕ) (shown : Bool) → reply_lines number shown replies.NoMemory ≡ line_text number (codes "500 no memory")
no_memory-text number shown = append-nil (line_text number (codes "500 no memory"))

-- ---- what printed `204`

-- a text begins with the digit 2
abbrev begins_with_two : List ℕ → Bool
begins_with_two [] = false
begins_with_two (b ∷ text) = nat_eq b 50

two : (text rest : List ℕ) → 32 ∷ (text ++ 10 ∷ []) ++ rest ≡ 32 ∷ (codes "204" ++ 10 ∷ []) → begins_with_two text ≡ true
two [] rest same = absurd (cc)
two (b ∷ text) rest same = let first : b ≡ 50 = cc in ap (λ x. nat_eq x 50) first

printed-two : (number : ℕ) (text rest : List ℕ) → line_text number text ++ rest ≡ line_text number (codes "204") → begins_with_two text ≡ true
printed-two number text rest same =
    two text rest
    (append_cancel_left (decimal number) (32 ∷ (text ++ 10 ∷ []) ++ rest) (32 ∷ (codes "204" ++ 10 ∷ [])) (sym (append_assoc (decimal number) (32 ∷ (text ++ 10 ∷ [])) rest) ∙ same))

-- no refusal does, and no reply that tells that the server could not do it
refusal-other : (why : Why) → begins_with_two (refusal_text why) ≡ false
unfolding digits
refusal-other (reasons.Limit which) = refl
refusal-other (reasons.OwnHost field) = refl
refusal-other _ = refl

failure-other : (reply : Reply) → is_failure reply ≡ true → begins_with_two (reply_text true reply) ≡ false
failure-other replies.JournalFull failed = refl
failure-other replies.NoMemory failed = refl
failure-other (replies.DiskFault count) failed = refl
failure-other (replies.Stopped count) failed = refl
failure-other _ failed = absurd (cc)

-- the end of a share is done, or refused
abbrev pub IsEnd : Reply → Type 0
IsEnd reply = (reply ≡ replies.Done) ⊎ ((why : Why) × (reply ≡ refused why))

end-reply : (o : Option Share) (live : Bool) → IsEnd (end_reply o live)
end-reply None live = inr (reasons.NotFound, refl)
end-reply (Some share) true = inl refl
end-reply (Some share) false = inr (reasons.WrongPhase, refl)

pub unshare-reply : (v : View) (key : List ℕ) (id : ℕ) → IsEnd (reply_in v (asks.Local key (commands.Unshare id)))
unshare-reply v key id = by_user (user_of_key v.users key)
  where
    by_user : (o : Option ℕ) → IsEnd (local_reply v o (commands.Unshare id))
    by_user None = inr (reasons.Unauthorized, refl)
    by_user (Some user) = end-reply (share_of_owner v user id) (is_live_in v id)

-- so an end that printed `204` was done
pub end-done : (number : ℕ) (reply answered : Reply) → IsEnd answered → (reply ≡ answered) ⊎ (is_failure reply ≡ true) → reply_lines number true reply ≡ line_text number (codes "204") → reply ≡ replies.Done
end-done number reply answered end (inr failed) printed =
    absurd (not_both (begins_with_two (reply_text true reply)) (printed-two number (reply_text true reply) (flat_map further_line (further reply)) printed) (failure-other reply failed))
end-done number reply answered (inl done_so) (inl given) printed = given ∙ done_so
end-done number reply answered (inr (why, refuses)) (inl given) printed =
    let same : reply ≡ refused why = given ∙ refuses in
    absurd (not_both (begins_with_two (reply_text true reply)) (printed-two number (reply_text true reply) (flat_map further_line (further reply)) printed) (ap (λ r. begins_with_two (reply_text true r)) same ∙ refusal-other why))
