-- What is kept in memory makes the records of the lean list.
use Rattle.std.proofs.Common.{◌≡◌, ℕ, ◌+◌, List, ◌∷◌, [], ◌++◌, length, Bool, true, false, refl, ap, subst}
use Rattle.ocm_path.specs.Paths.{Segments}
use Rattle.ocm_entry.specs.declared.asks.Ask.{Ask}
use Rattle.ocm_entry.specs.declared.asks.Ask.TheVariants as asks
use Rattle.ocm_entry.specs.declared.asks.Method.TheVariants as methods
use Rattle.ocm_entry.specs.declared.entries.Entry.{Entry}
use Rattle.ocm_rules.specs.History.{kept}
use Rattle.ocm_rules.specs.Lean.{emptied_among, lean, still_stands}
use Rattle.ocm_law_origins.proofs.Bodies.{body-gone, body-put_by_entry}
use Rattle.ocm_law_sessions.specs.Sessions.{heard, would_change}
use Rattle.ocm_law_sessions.specs.Written.{ask_records, records_of}
use Rattle.ocm_core.specs.Standing.{body_of, standing_body}
use Rattle.ocm_history_records.specs.Kept.{kept_of, kept_records, lean_asks, lean_texts}
use Rattle.ocm_history_records.proofs.Leaning.{AreStanding, asks-emptied, body_if, texts-emptied}
use Rattle.ocm_history.specs.Kept.{bodies_with}

-- the body that stands by the number of an entry
standing-put : (host : List ℕ) (later before : List Entry) (e : Entry) (secret : List ℕ) (path : Segments) (body : List ℕ) → e.ask ≡ asks.Dav secret methods.Put path body
    → standing_body host (later ++ e ∷ before) (length before + 1) ≡ body_if (still_stands host (later ++ e ∷ before) (length before + 1)) body
standing-put host later before e secret path body is = by_test (still_stands host (later ++ e ∷ before) (length before + 1)) refl
  where
    by_test : (b : Bool) → still_stands host (later ++ e ∷ before) (length before + 1) ≡ b
        → standing_body host (later ++ e ∷ before) (length before + 1) ≡ body_if b body
    by_test true stands = ap body_of (body-put_by_entry host later before e secret body path is stands)
    by_test false gone = ap body_of (body-gone host (later ++ e ∷ before) (length before + 1) gone)

-- so all of a list's stand by their numbers
pub bodies-stand : (host : List ℕ) (k : List Entry) → AreStanding host k (standing_body host k)
bodies-stand host k = λ later before e secret path body is put.
    subst (λ l. standing_body host l (length before + 1) ≡ body_if (still_stands host l (length before + 1)) body) is (standing-put host later before e secret path body put)

pub asks-kept : (host : List ℕ) (g : List Entry) → lean_asks (standing_body host (kept host g)) 1 (kept_records (kept host g)) ≡ ask_records (emptied_among host (kept host g) (kept host g))
asks-kept host g = asks-emptied host (standing_body host (kept host g)) [] (kept host g) (kept host g) (bodies-stand host (kept host g)) refl

-- the records of the lean list with one entry more
pub texts-lean : (host : List ℕ) (g : List Entry) (ask : Ask) → would_change host g ask ≡ true
    → lean_texts (bodies_with host g ask) (kept_records (kept host g)) (kept_of host g ask) ≡ records_of (lean host (heard host g ask ∷ g))
texts-lean host g ask changes = texts-emptied host g ask (bodies_with host g ask) (bodies-stand host (heard host g ask ∷ kept host g)) changes
