use Rattle.std.proofs.Common.{◌≡◌, ◌++◌, ℕ, List, [], ◌∷◌, ◌∙◌, ap, append_assoc}
use Rattle.ocm_journal_image.proofs.fresh.fresh_bytes.Goals as goal

joined : (m b b1 b2 b3 z f : List ℕ) → b ≡ m → b1 ≡ b ++ 1 ∷ [] → b2 ≡ b1 ++ z → b3 ≡ b2 ++ f → b3 ≡ m ++ 1 ∷ z ++ f
joined m b b1 b2 b3 z f is is1 is2 is3 = is3 ∙ ap (λ l. l ++ f) (is2 ∙ ap (λ l. l ++ z) (is1 ∙ ap (λ l. l ++ 1 ∷ []) is) ∙ append_assoc m (1 ∷ []) z)

pub returns : goal.returns
returns c = joined _ c.in_ok-bytes.bytes c.add.new.self c.add-2.new.self c.add-3.new.self _ _ c.in_ok-bytes.ensures c.in_ok-add.ensures.ok (c.in_ok-add-2.ensures.ok ∙ ap (λ l. c.add.new.self ++ l) (c.as_slice.ensures ∙ c.in_ok-passed_over.ensures)) c.in_ok-add-3.ensures.ok
