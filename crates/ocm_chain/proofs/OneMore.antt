use Rattle.std.proofs.Common.{◌≡◌, ℕ, ◌+◌, ◌≤◌, List, [], ◌∷◌, ◌++◌, length, Bool, true, false, cond, refl, sym, ap, subst, ◌∙◌, arith}
use Rattle.std.specs.Prelude.{Option, Some, None}
use Rattle.std.proofs.lemmas.List.{length-append, map-append}
use Rattle.ocm_entry.specs.declared.rows.Share.{Share}
use Rattle.ocm_rules.specs.Answers.{is_for_request}
use Rattle.ocm_rules.specs.Numbers.{same_text, number_from, number_of}
use Rattle.ocm_rules.specs.Shares.{has_secret, share_of_secret}
use Rattle.ocm_chain.specs.declared.secrets.SecretEntry.{SecretEntry}
use Rattle.ocm_chain.specs.declared.requests.RequestEntry.{RequestEntry}
use Rattle.ocm_chain.specs.Indexes.{number_or, number_with, number_for}
use Rattle.ocm_chain.specs.Reaches.{IsChain}
use Rattle.ocm_chain.proofs.Search.{number_or-new, text-same}

number_from-step : (b : Bool) (n last : ℕ) (longer shorter : Option ℕ) (t : Bool) → longer ≡ number_or shorter t last → cond b (Some n) longer ≡ number_or (cond b (Some n) shorter) t last
number_from-step true n last longer shorter t e = refl
number_from-step false n last longer shorter t e = e

number_from-push : {X : Type 0} (p : X → Bool) (n : ℕ) (xs : List X) (x : X) (last : ℕ) → last ≡ n + length xs → number_from p n (xs ++ x ∷ []) ≡ number_or (number_from p n xs) (p x) last
number_from-push p n [] x last e = let same : n ≡ last = omega (arith, e) in ap (λ m. cond (p x) (Some m) None) same
number_from-push p n (y ∷ ys) x last e = number_from-step (p y) n last _ _ (p x) (number_from-push p (n + 1) ys x last (omega (arith, e)))

-- the first that passes, with one more behind
number_of-push : {X : Type 0} (p : X → Bool) (xs : List X) (x : X) → number_of p (xs ++ x ∷ []) ≡ number_or (number_of p xs) (p x) (length xs + 1)
number_of-push p xs x = number_from-push p 1 xs x (length xs + 1) (omega arith)

-- the indexes of the shares with one more
pub chain-more : (made : List Share) (secrets secrets_more : List SecretEntry) (requests requests_more : List RequestEntry) (owners : List ℕ) (share : Share) (number : ℕ) → IsChain made secrets requests owners
    → number ≡ length made + 1 → share_of_secret made share.secret ≡ None
    → ((s : List ℕ) → number_with secrets_more s ≡ cond (same_text share.secret s) (Some number) (number_with secrets s)) → length secrets_more ≡ length secrets + 1
    → ((p : ℕ) (s : List ℕ) → number_for requests_more p s ≡ number_or (number_for requests p s) (is_for_request p s share) number) → length requests_more ≤ length requests + 1
    → IsChain (made ++ share ∷ []) secrets_more requests_more (owners ++ share.owner ∷ [])
chain-more made secrets secrets_more requests requests_more owners share number h new fresh found as_many kept no_more =
    let longer = length-append made (share ∷ []) in
    record {
      by_secret = λ s. found s ∙ secret s;
      as_many = omega (arith, as_many, longer, h.as_many);
      no_more = omega (arith, no_more, longer, h.no_more);
      by_request = λ p s. kept p s ∙ (ap (λ o. number_or o (is_for_request p s share) number) (h.by_request p s)
          ∙ (ap (λ n. number_or (number_of (is_for_request p s) made) (is_for_request p s share) n) new ∙ sym (number_of-push (is_for_request p s) made share)));
      by_owner = ap (λ os. os ++ share.owner ∷ []) h.by_owner ∙ sym (map-append (λ (m : Share). m.owner) made (share ∷ []));
    }
  where
    absent : (s : List ℕ) → same_text share.secret s ≡ true → share_of_secret made s ≡ None
    absent s t = let P : List ℕ → Type 0 = λ k. share_of_secret made k ≡ None in subst P (text-same share.secret s t) fresh

    secret : (s : List ℕ) → cond (same_text share.secret s) (Some number) (number_with secrets s) ≡ share_of_secret (made ++ share ∷ []) s
    secret s =
        ap (λ o. cond (same_text share.secret s) (Some number) o) (h.by_secret s)
        ∙ (number_or-new (same_text share.secret s) number (share_of_secret made s) (absent s)
        ∙ (ap (λ n. number_or (share_of_secret made s) (same_text share.secret s) n) new ∙ sym (number_of-push (has_secret s) made share)))
