-- Where a range is cut, and what a span selects.
use Rattle.std.proofs.Common.{◌≡◌, ◌≢◌, ℕ, ◌+◌, ◌<◌, ◌^◌, true, List, ◌∷◌, ◌++◌, length, take, drop, get_or, Some, None, sym, ap, subst, ◌∙◌, arith}
use Rattle.std.specs.Prelude.{nat_le, nat_lt}
use Rattle.std.proofs.lemmas.Bool.{and_parts, leb-true}
use Rattle.std.proofs.lemmas.List.{take-append-drop, drop_more, get_or-take, length-take-le}
use Rattle.ocm_types.specs.Hosts.{cut_at_first}
use Rattle.ocm_types.proofs.HostTexts.{Lacks, Lacks-from_reads, cut_at_first-at, cut_at_first-none}
use Rattle.ocm_davmore.specs.declared.ranges.Span.{Span}
use Rattle.ocm_davmore.specs.declared.ranges.Span.TheVariants.{First}
use Rattle.ocm_davmore.specs.Ranges.{Selects, is_span}

-- bytes are cut at the place of the first separator
pub cut_at_place : (c : ℕ) (bytes : List ℕ) (i : ℕ) → i < length bytes → get_or bytes i 0 ≡ c → ((k : ℕ) → k < i → get_or bytes k 0 ≢ c) → cut_at_first c bytes ≡ (take i bytes, Some (drop (i + 1) bytes))
cut_at_place c bytes i inside here before =
    let lacks : Lacks c (take i bytes) =
    Lacks-from_reads c (take i bytes) (λ k below. let under : k < i = omega (arith, length-take-le i bytes (omega arith)) in λ e. before k under (sym (get_or-take i bytes k 0 under) ∙ e)) in
    let around : bytes ≡ take i bytes ++ c ∷ drop (i + 1) bytes =
    sym (take-append-drop i bytes) ∙ ap (λ (l : List ℕ). take i bytes ++ l) (drop_more bytes i 0 inside ∙ ap (λ (b : ℕ). b ∷ drop (i + 1) bytes) here) in
    ap (cut_at_first c) around ∙ cut_at_first-at c (take i bytes) (drop (i + 1) bytes) lacks

-- bytes without a separator are not cut
pub cut_nowhere : (c : ℕ) (bytes : List ℕ) → ((k : ℕ) → k < length bytes → get_or bytes k 0 ≢ c) → cut_at_first c bytes ≡ (bytes, None)
cut_nowhere c bytes none = cut_at_first-none c bytes (Lacks-from_reads c bytes none)

-- a span between two places selects the first of them, where the file reaches it
pub first_selected : (span : Span) (a b size : ℕ) → span ≡ First a b → is_span span ≡ true → Selects span size a
first_selected span a b size is sound =
    let parts = and_parts (nat_le a b) (nat_lt b (10 ^ 19)) (sym (ap is_span is) ∙ sound) in
    subst (λ (s : Span). Selects s size a) (sym is) (omega arith, leb-true a b parts.0)
