use Rattle.std.proofs.Common.{◌≡◌, ℕ, ◌+◌, ◌<◌, List, [], ◌∷◌, ◌++◌, length, get_or, map, Bool, cond, not, Some, refl, ap, ◌∙◌, arith}
use Rattle.std.proofs.Math.ListN.{set}
use Rattle.std.proofs.Math.Seq.{map-set_same}
use Rattle.std.specs.Prelude.{◌&&◌, is_some}
use Rattle.std.specs.HashMap as hash
use Rattle.std.proofs.lemmas.List.{map-append, length-map, length-append, length-set}
use Rattle.ocm_rules.specs.Numbers.{same_text}
use Rattle.ocm_incoming.specs.declared.rows.Mark.{Mark}
use Rattle.ocm_incoming.specs.declared.rows.Record.{Record}
use Rattle.ocm_incoming.specs.declared.plans.OfferKey.{OfferKey}
use Rattle.ocm_incoming.specs.Keys.{mark_of, same_mark, key_of, same_key}
use Rattle.ocm_incoming.specs.Lists.{users_of, marks_of}
use Rattle.ocm_incoming.specs.Index.{keys_of, NumbersBy, IsRecords}
use Rattle.ocm_incoming.proofs.Firsts.{text-Decides, mark-Decides, key-Decides, noted}

-- an index with one more key
pub record Notes {K : Type 0} (eq : K → K → Bool) (old new : NumbersBy K) (key : K) (number : ℕ) : Type 0 where
  pub found : (k : K) → hash.get eq new k ≡ cond (eq key k && not (is_some (hash.get eq old key))) (Some number) (hash.get eq old k)

next-number : {X Y : Type 0} (f : X → Y) (xs : List X) (n : ℕ) → n ≡ length xs + 1 → n ≡ length (map f xs) + 1
next-number f xs n e = rw length-map e

-- the table with one more row
pub added-IsRecords : (rows : List Record) (row : Record) (number : ℕ) (offers offers' : NumbersBy OfferKey) (users users' : NumbersBy (List ℕ)) (marks marks' : NumbersBy Mark) (key : OfferKey) (user : List ℕ) (mark : Mark) → IsRecords rows offers users marks → length rows < 65536 → number ≡ length rows + 1 → key ≡ key_of row.offer → user ≡ row.offer.with.user → mark ≡ mark_of row.offer → Notes same_key offers offers' key number → Notes same_text users users' user number → Notes same_mark marks marks' mark number → IsRecords (rows ++ row ∷ []) offers' users' marks'
added-IsRecords rows row number offers offers' users users' marks marks' key user mark table few n k u m by_offer by_user by_mark = record {
  few = omega (arith, length-append rows (row ∷ []));
  offers = λ q. noted same_key key-Decides (keys_of rows) key q number _ _ _ (next-number (λ (r : Record). key_of r.offer) rows number n) (table.offers key) (table.offers q) (by_offer.found q) ∙ rw (map-append, k) refl;
  users = λ q. noted same_text text-Decides (users_of rows) user q number _ _ _ (next-number (λ (r : Record). r.offer.with.user) rows number n) (table.users user) (table.users q) (by_user.found q) ∙ rw (map-append, u) refl;
  marks = λ q. noted same_mark mark-Decides (marks_of rows) mark q number _ _ _ (next-number (λ (r : Record). mark_of r.offer) rows number n) (table.marks mark) (table.marks q) (by_mark.found q) ∙ rw (map-append, m) refl;
}

-- the table with a row changed that says the same
pub set-IsRecords : (rows : List Record) (i : ℕ) (row d : Record) (offers : NumbersBy OfferKey) (users : NumbersBy (List ℕ)) (marks : NumbersBy Mark) → IsRecords rows offers users marks → row.offer ≡ (get_or rows i d).offer → IsRecords (set rows i row) offers users marks
set-IsRecords rows i row d offers users marks table e =
    let keys = map-set_same (λ (r : Record). key_of r.offer) rows i row d (ap key_of e) in
    let names = map-set_same (λ (r : Record). r.offer.with.user) rows i row d (ap (λ o. o.with.user) e) in
    let signs = map-set_same (λ (r : Record). mark_of r.offer) rows i row d (ap mark_of e) in
    record {
      few = rw length-set table.few;
      offers = λ q. rw keys (table.offers q);
      users = λ q. rw names (table.users q);
      marks = λ q. rw signs (table.marks q);
    }
