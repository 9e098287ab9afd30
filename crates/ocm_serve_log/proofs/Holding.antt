-- What a log holds, from step to step.
use Rattle.std.proofs.Common.{◌≡◌, ◌≤◌, ◌+◌, ℕ, zero, suc, List, [], ◌∷◌, ◌++◌, length, take, drop, Bool, true, false, Option, Some, None, refl, sym, ap, subst, ◌∙◌, arith, length-append, append_assoc, take-append-drop}
use Rattle.std.specs.Prelude.{◌⊎◌, IfSome}
use Rattle.std.proofs.lemmas.Grind.{flat_map-append}
use Rattle.std.proofs.lemmas.List.{append-nil}
use mathlib.Core.Logic.{inl, inr}
use Rattle.ocm_base.specs.Outside.{Appends, AppendsPart, Rose}
use Rattle.ocm_access_log.specs.declared.lines.LogLine.{LogLine}
use Rattle.ocm_serve_log.specs.declared.logs.Log.{Log}
use Rattle.ocm_access_log.specs.Written.{written, written_log}
use Rattle.ocm_serve_log.specs.Logs.{Gathers, Holds, IsFront, IsLog, capped}

both : (xs ys : List LogLine) → written_log (xs ++ ys) ≡ written_log xs ++ written_log ys
both xs ys = flat_map-append written xs ys

none-lost : (left_out : ℕ) (lost : List LogLine) → left_out ≡ capped (length lost) → left_out ≡ 0 → lost ≡ []
none-lost left_out [] counted none = refl
none-lost left_out (line ∷ lost) counted none = absurd (omega arith)

-- what was cut may stand before what is gathered or behind it, since there are not both
around : (held : List LogLine) (cut : List ℕ) → (held ≡ []) ⊎ (cut ≡ []) → cut ++ written_log held ≡ written_log held ++ cut
around held cut (inl none) = ap (λ (l : List LogLine). cut ++ written_log l) none ∙ append-nil cut ∙ sym (ap (λ (l : List LogLine). written_log l ++ cut) none)
around held cut (inr none) = ap (λ (b : List ℕ). b ++ written_log held) none ∙ sym (ap (λ (b : List ℕ). written_log held ++ b) none ∙ append-nil (written_log held))

-- ---- a write

-- what a sink that tells it has taken, where it took all that was gathered
all-taken : (before after : Option (List ℕ)) (put held : List LogLine) (cut gathered : List ℕ) → gathered ≡ written_log held → (held ≡ []) ⊎ (cut ≡ []) → Appends before after gathered
    → IfSome before (λ bytes. bytes ≡ written_log put ++ cut) → IfSome after (λ bytes. bytes ≡ written_log (put ++ held) ++ cut)
all-taken None after put held cut gathered gathers clean appends took = subst (λ (o : Option (List ℕ)). IfSome o (λ bytes. bytes ≡ written_log (put ++ held) ++ cut)) (sym appends) tt
all-taken (Some bytes) after put held cut gathered gathers clean appends took = subst (λ (o : Option (List ℕ)). IfSome o (λ bytes. bytes ≡ written_log (put ++ held) ++ cut)) (sym appends) (
    (λ i. took i ++ gathers i)
    ∙ append_assoc (written_log put) cut (written_log held)
    ∙ ap (λ (b : List ℕ). written_log put ++ b) (around held cut clean)
    ∙ sym (append_assoc (written_log put) (written_log held) cut)
    ∙ ap (λ (b : List ℕ). b ++ cut) (sym (both put held)))

-- all that was gathered was written, and let go
pub written_all : {K : Type 0} (taken : K → Option (List ℕ)) (faults : K → ℕ) (log now : Log K) (sink : K) (lines : List LogLine)
    → Appends (taken log.sink) (taken sink) log.gathered.items → faults log.sink ≤ faults sink
    → now.sink ≡ sink → (now.gathered.items ≡ []) × (now.waiting ≡ 0) → now.left_out ≡ log.left_out → now.out_of_memory ≡ log.out_of_memory
    → Holds taken faults log lines → Holds taken faults now lines
written_all {K} taken faults log now sink lines appends grows is empty same memory g =
    subst (λ (z : K × List ℕ × ℕ × ℕ × Bool). Gathers (taken z.0) (faults z.0) z.1 z.2 z.3 z.4 lines) (λ i. (sym is i, sym empty.0 i, sym empty.1 i, sym same i, sym memory i)) (record {
      put = g.put ++ g.held;
      held = [];
      lost = g.lost;
      all = append_assoc g.put g.held g.lost ∙ g.all;
      gathers = refl;
      waits = refl;
      counted = g.counted;
      cut = g.cut;
      took = all-taken (taken log.sink) (taken sink) g.put g.held g.cut log.gathered.items g.gathers g.clean appends g.took;
      within = g.within;
      clean = inl refl;
      cause = λ none enough. (let earlier : faults log.sink ≡ 0 = omega arith in g.cause earlier enough);
      short = g.short;
    })

-- where a sink took a part of it
part-taken : (before after : Option (List ℕ)) (put : List LogLine) (cut part : List ℕ) → Appends before after part
    → IfSome before (λ bytes. bytes ≡ written_log put ++ cut) → IfSome after (λ bytes. bytes ≡ written_log put ++ (cut ++ part))
part-taken None after put cut part appends took = subst (λ (o : Option (List ℕ)). IfSome o (λ bytes. bytes ≡ written_log put ++ (cut ++ part))) (sym appends) tt
part-taken (Some bytes) after put cut part appends took = subst (λ (o : Option (List ℕ)). IfSome o (λ bytes. bytes ≡ written_log put ++ (cut ++ part))) (sym appends)
    (ap (λ (b : List ℕ). b ++ part) took ∙ append_assoc (written_log put) cut part)

part-within : (held lost : List LogLine) (cut gathered : List ℕ) (n : ℕ) → gathered ≡ written_log held → (held ≡ []) ⊎ (cut ≡ []) → IsFront cut (written_log lost) → IsFront (cut ++ take n gathered) (written_log (held ++ lost))
part-within held lost cut gathered n gathers (inl none) within = (
  within.0,
  ap (λ (b : List ℕ). (cut ++ take n b) ++ within.0) (gathers ∙ ap written_log none)
      ∙ ap (λ (b : List ℕ). (cut ++ b) ++ within.0) (nothing n)
      ∙ ap (λ (b : List ℕ). b ++ within.0) (append-nil cut)
      ∙ within.1
      ∙ sym (ap (λ (l : List LogLine). written_log (l ++ lost)) none),
)
  where
    none-of : List ℕ
    none-of = []

    nothing : (n : ℕ) → take n none-of ≡ none-of
    nothing zero = refl
    nothing (suc n) = refl
part-within held lost cut gathered n gathers (inr none) within = (
  drop n gathered ++ written_log lost,
  ap (λ (b : List ℕ). (b ++ take n gathered) ++ (drop n gathered ++ written_log lost)) none
      ∙ sym (append_assoc (take n gathered) (drop n gathered) (written_log lost))
      ∙ ap (λ (b : List ℕ). b ++ written_log lost) (take-append-drop n gathered ∙ gathers)
      ∙ sym (both held lost),
)

-- a part of it was written, and the lines are left out
pub written_part : {K : Type 0} (taken : K → Option (List ℕ)) (faults : K → ℕ) (log now : Log K) (sink : K) (lines : List LogLine)
    → AppendsPart (taken log.sink) (taken sink) log.gathered.items → Rose (faults log.sink) (faults sink)
    → now.sink ≡ sink → (now.gathered.items ≡ []) × (now.waiting ≡ 0) → now.left_out ≡ capped (log.left_out + log.waiting) → now.out_of_memory ≡ log.out_of_memory
    → Holds taken faults log lines → Holds taken faults now lines
written_part {K} taken faults log now sink lines part rose is empty counts memory g =
    subst (λ (z : K × List ℕ × ℕ × ℕ × Bool). Gathers (taken z.0) (faults z.0) z.1 z.2 z.3 z.4 lines) (λ i. (sym is i, sym empty.0 i, sym empty.1 i, sym counts i, sym memory i)) (record {
      put = g.put;
      held = [];
      lost = g.held ++ g.lost;
      all = g.all;
      gathers = refl;
      waits = refl;
      counted = (let waits = g.waits in let counted = g.counted in let long = length-append g.held g.lost in omega arith);
      cut = g.cut ++ take part.0 log.gathered.items;
      took = part-taken (taken log.sink) (taken sink) g.put g.cut (take part.0 log.gathered.items) part.2 g.took;
      within = part-within g.held g.lost g.cut log.gathered.items part.0 g.gathers g.clean g.within;
      clean = inl refl;
      cause = λ none enough. absurd (omega arith);
      short = λ ran. (let some = g.short ran in omega arith);
    })

-- ---- a line more

longer : (cut : List ℕ) (lost : List LogLine) (line : LogLine) → IsFront cut (written_log lost) → IsFront cut (written_log (lost ++ line ∷ []))
longer cut lost line within = (
  within.0 ++ written_log (line ∷ []),
  sym (append_assoc cut within.0 (written_log (line ∷ []))) ∙ ap (λ (b : List ℕ). b ++ written_log (line ∷ [])) within.1 ∙ sym (both lost (line ∷ [])),
)

-- it is left out
pub passed_over : (taken : Option (List ℕ)) (faults : ℕ) (gathered : List ℕ) (waiting left_out count : ℕ) (out_of_memory now : Bool) (lines : List LogLine) (line : LogLine)
    → count ≡ capped (left_out + 1) → ((left_out ≡ 0 → ⊥) × (now ≡ out_of_memory)) ⊎ (now ≡ true)
    → Gathers taken faults gathered waiting left_out out_of_memory lines → Gathers taken faults gathered waiting count now (lines ++ line ∷ [])
passed_over taken faults gathered waiting left_out count out_of_memory now lines line counts why g = record {
  put = g.put;
  held = g.held;
  lost = g.lost ++ line ∷ [];
  all = ap (λ (l : List LogLine). g.put ++ l) (sym (append_assoc g.held g.lost (line ∷ []))) ∙ sym (append_assoc g.put (g.held ++ g.lost) (line ∷ [])) ∙ ap (λ (l : List LogLine). l ++ line ∷ []) g.all;
  gathers = g.gathers;
  waits = g.waits;
  counted = let counted = g.counted in let long = length-append g.lost (line ∷ []) in omega arith;
  cut = g.cut;
  took = g.took;
  within = longer g.cut g.lost line g.within;
  clean = g.clean;
  cause = λ none enough. caused none enough why;
  short = λ _. omega arith;
}
  where
    caused : faults ≡ 0 → now ≡ false → ((left_out ≡ 0 → ⊥) × (now ≡ out_of_memory)) ⊎ (now ≡ true) → count ≡ 0
    caused none enough (inl (some, same)) = absurd (some (g.cause none (sym same ∙ enough)))
    caused none enough (inr ran_out) = absurd (cc)

-- it is gathered
pub gathered_more : (taken : Option (List ℕ)) (faults : ℕ) (gathered more : List ℕ) (waiting now left_out : ℕ) (out_of_memory : Bool) (lines : List LogLine) (line : LogLine)
    → left_out ≡ 0 → more ≡ gathered ++ written line → now ≡ capped (waiting + 1)
    → Gathers taken faults gathered waiting left_out out_of_memory lines → Gathers taken faults more now left_out out_of_memory (lines ++ line ∷ [])
gathered_more taken faults gathered more waiting now left_out out_of_memory lines line none adds counts g = record {
  put = g.put;
  held = g.held ++ line ∷ [];
  lost = [];
  all = ap (λ (l : List LogLine). g.put ++ l) (append-nil (g.held ++ line ∷ [])) ∙ sym (append_assoc g.put g.held (line ∷ [])) ∙ ap (λ (l : List LogLine). l ++ line ∷ []) whole;
  gathers = adds ∙ ap (λ (b : List ℕ). b ++ written line) g.gathers ∙ sym (both g.held (line ∷ []) ∙ ap (λ (b : List ℕ). written_log g.held ++ b) (append-nil (written line)));
  waits = let waits = g.waits in let long = length-append g.held (line ∷ []) in omega arith;
  counted = none;
  cut = [];
  took = subst (λ (b : List ℕ). IfSome taken (λ bytes. bytes ≡ written_log g.put ++ b)) uncut g.took;
  within = ([], refl);
  clean = inr refl;
  cause = g.cause;
  short = g.short;
}
  where
    lost-none : g.lost ≡ []
    lost-none = none-lost left_out g.lost g.counted none

    whole : g.put ++ g.held ≡ lines
    whole = ap (λ (l : List LogLine). g.put ++ l) (sym (ap (λ (l : List LogLine). g.held ++ l) lost-none ∙ append-nil g.held)) ∙ g.all

    empty : (cut rest : List ℕ) → cut ++ rest ≡ [] → cut ≡ []
    empty [] rest is = refl
    empty (b ∷ cut) rest is = absurd (cc)

    uncut : g.cut ≡ []
    uncut = empty g.cut g.within.0 (g.within.1 ∙ ap written_log lost-none)

-- there is none
pub nothing_more : {K : Type 0} (taken : K → Option (List ℕ)) (faults : K → ℕ) (log : Log K) (lines more : List LogLine) → more ≡ [] → Holds taken faults log lines → Holds taken faults log (lines ++ more)
nothing_more taken faults log lines more none h = subst (Holds taken faults log) (sym (ap (λ (l : List LogLine). lines ++ l) none ∙ append-nil lines)) h

-- ---- the ends

-- a sink that has taken nothing holds the log of no call
pub begun : (taken : Option (List ℕ)) (faults : ℕ) (gathered : List ℕ) (waiting left_out : ℕ) (out_of_memory : Bool) → IfSome taken (λ bytes. bytes ≡ []) → gathered ≡ [] → waiting ≡ 0 → left_out ≡ 0 → out_of_memory ≡ false
    → Gathers taken faults gathered waiting left_out out_of_memory []
begun taken faults gathered waiting left_out out_of_memory fresh empty waits none enough = record {
  put = [];
  held = [];
  lost = [];
  all = refl;
  gathers = empty;
  waits = waits;
  counted = none;
  cut = [];
  took = fresh;
  within = ([], refl);
  clean = inl refl;
  cause = λ _ _. none;
  short = λ ran. absurd (cc);
}

-- what a log holds of which nothing is gathered is what its sink has taken
pub ended : (taken : Option (List ℕ)) (faults : ℕ) (gathered : List ℕ) (waiting left_out : ℕ) (out_of_memory : Bool) (lines : List LogLine) → waiting ≡ 0
    → Gathers taken faults gathered waiting left_out out_of_memory lines → IsLog taken faults left_out out_of_memory lines
ended taken faults gathered waiting left_out out_of_memory lines done g = record {
  put = g.put;
  lost = g.lost;
  all = ap (λ (l : List LogLine). g.put ++ (l ++ g.lost)) (sym (none-lost waiting g.held g.waits done)) ∙ g.all;
  counted = g.counted;
  cut = g.cut;
  took = g.took;
  within = g.within;
  cause = g.cause;
  short = g.short;
}
