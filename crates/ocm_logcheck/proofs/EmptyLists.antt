-- Which lines are true of the empty list.
use Rattle.std.proofs.Common.{◌≡◌, ℕ, ◌+◌, List, [], Bool, true, false, ◌&&◌, refl, sym, ap, ◌∙◌, arith, Option, Some, None}
use Rattle.std.specs.Prelude.{if◌then◌else◌, nat_eq, nat_le, unwrap_or}
use Rattle.std.specs.Option.{option_map_or}
use Rattle.std.proofs.lemmas.Bool.Decides.{nat_tests}
use Rattle.ocm_entry.specs.declared.asks.Ask.{Ask}
use Rattle.ocm_entry.specs.declared.asks.Ask.TheVariants.{Dav}
use Rattle.ocm_entry.specs.declared.entries.Entry.{Entry}
use Rattle.ocm_entry.specs.declared.refusals.Why.TheVariants.{Unauthorized}
use Rattle.ocm_entry.specs.declared.replies.Reply.{Reply}
use Rattle.ocm_entry.specs.declared.replies.Reply.TheVariants.{Refused}
use Rattle.ocm_rules.specs.History.{answer_kept}
use Rattle.ocm_law_sessions.specs.Readings.{with_moment}
use Rattle.ocm_access_log.specs.declared.lines.LogLine.{LogLine}
use Rattle.ocm_access_log.specs.Reads.{is_read}
use Rattle.ocm_access_log.specs.Truth.{end_of, has_status, is_true, is_true_after}

-- where there is no user, no secret is known
none-answer : (host : List ℕ) (ask : Ask) → is_read ask ≡ true → answer_kept host [] ask ≡ Refused Unauthorized
none-answer host (Dav secret method path body) read = refl
none-answer host _ read = absurd (cc)

-- whether a line has the status of the answer at its moment
abbrev is_answered : List ℕ → LogLine → Bool
is_answered host line = has_status line.status (answer_kept host (with_moment host line.moment []) line.ask)

at-none : (host : List ℕ) (line : LogLine) → is_read line.ask ≡ true → nat_eq line.moment 0 ≡ true → is_answered host line ≡ nat_eq line.status 401
at-none host line read first =
    let none : line.moment ≡ 0 = grind (arith, nat_tests) in
    ap (λ m. has_status line.status (answer_kept host (with_moment host m []) line.ask)) none ∙ ap (λ (r : Reply). has_status line.status r) (none-answer host line.ask read)

end-none : (host : List ℕ) (place : ℕ) → end_of host place [] ≡ []
end-none host place = by_test (nat_eq 0 (place + 1))
  where
    nothing : List Entry
    nothing = []

    by_test : (b : Bool) → unwrap_or (if b then Some nothing else None) nothing ≡ nothing
    by_test true = refl
    by_test false = refl

-- a line is true of the empty list at its only place and moment, with the status of an unknown secret
pub none-true : (host : List ℕ) (line : LogLine) → is_read line.ask ≡ true → is_true host [] line ≡ (nat_eq line.place 0 && nat_eq line.moment 0 && nat_eq line.status 401)
none-true host line read = by_place (nat_eq line.place 0) refl
  where
    by_moment : (b : Bool) → nat_eq line.moment 0 ≡ b → is_true_after host [] [] line ≡ (b && nat_eq line.status 401)
    by_moment true first =
        let low : nat_le 0 line.moment ≡ true = grind (arith, nat_tests) in
        let high : nat_le line.moment 0 ≡ true = grind (arith, nat_tests) in
        ap (λ a. a && nat_le line.moment 0 && is_answered host line) low ∙ ap (λ a. a && is_answered host line) high ∙ at-none host line read first
    by_moment false other =
        let low : nat_le 0 line.moment ≡ true = grind (arith, nat_tests) in
        let high : nat_le line.moment 0 ≡ false = grind (arith, nat_tests) in
        ap (λ a. a && nat_le line.moment 0 && is_answered host line) low ∙ ap (λ a. a && is_answered host line) high

    by_place : (b : Bool) → nat_eq line.place 0 ≡ b → is_true host [] line ≡ (b && nat_eq line.moment 0 && nat_eq line.status 401)
    by_place true first =
        let here : nat_eq 0 line.place ≡ true = grind (arith, nat_tests) in
        ap (λ c. option_map_or (λ q. is_true_after host q (end_of host line.place []) line) (if c then Some [] else None) false) here
        ∙ ap (λ q. is_true_after host [] q line) (end-none host line.place)
        ∙ by_moment (nat_eq line.moment 0) refl
    by_place false other =
        let none : nat_eq 0 line.place ≡ false = grind (arith, nat_tests) in
        ap (λ c. option_map_or (λ q. is_true_after host q (end_of host line.place []) line) (if c then Some [] else None) false) none

-- so it is alike for all hosts
pub none-alike : (host other : List ℕ) (line : LogLine) → is_read line.ask ≡ true → is_true host [] line ≡ is_true other [] line
none-alike host other line read = none-true host line read ∙ sym (none-true other line read)
