-- Steps of reading a message from a source.
use Rattle.std.proofs.Common.{◌≡◌, ℕ, ◌+◌, ◌-◌, ◌≤◌, List, [], ◌++◌, length, take, drop, Bool, true, false, Option, Some, None, Result, Ok, Err, refl, sym, ap, ◌∙◌, subst, arith, append_assoc, append-nil, length-append, inl, inr}
use Rattle.std.specs.Prelude.{IfSome, IfOk, IfErr}
use Rattle.std.proofs.lemmas.List.{take-append-drop, length-take-le, drop-take, drop-drop, length-drop}
use Rattle.ocm_base.specs.Outside.{Flow, Came, IsDry, flow}
use Rattle.ocm_base.proofs.Pieces.{came_none, came_twice}
use Rattle.ocm_limits.specs.Limits.{most_body_bytes}
use Rattle.ocm_http_heads.specs.Endings.{of_head}
use Rattle.ocm_http.specs.Places.{past}
use Rattle.ocm_http.specs.Frames.{Frame, Given, Refused, Over, IsFrame}
use Rattle.ocm_http.specs.Stages.{Goes, Makes, Faults, Ends, Rest}
use Rattle.ocm_http.specs.Readers.{ReaderState, ReadingOf, MessageOf, Spends, ReadOf, NextOf, Under, Keeps, Settles, holding, settled, taken_at_most, with_held}
use Rattle.ocm_http.specs.declared.messages.Kind.{Kind}
use Rattle.ocm_http.specs.declared.messages.Kind.TheVariants.{Requests}
use Rattle.ocm_http.specs.declared.messages.Message.{Message}
use Rattle.ocm_http.specs.declared.messages.FrameFault.{FrameFault}
use Rattle.ocm_http.specs.declared.messages.FrameFault.TheVariants.{ReadFault, NoMemory}
use Rattle.ocm_http.specs.declared.stages.Rules.{Rules}
use Rattle.ocm_http.specs.declared.stages.Stage.{Stage}
use Rattle.ocm_http.specs.declared.stages.Stage.TheVariants as stage
use Rattle.ocm_http.proofs.Pieces.{past_twice}

-- ---- the window

pub skipped : (bytes : List ℕ) (from to n : ℕ) → n ≤ to - from → take (to - (from + n)) (drop (from + n) bytes) ≡ drop n (take (to - from) (drop from bytes))
skipped bytes from to n h =
    let size : to - from ≡ n + (to - (from + n)) = omega arith in
    ap (take (to - (from + n))) (sym (drop-drop n from bytes))
    ∙ sym (drop-take n (to - (from + n)) (drop from bytes))
    ∙ ap (λ k. drop n (take k (drop from bytes))) (sym size)

pub window_size : (bytes : List ℕ) (from to : ℕ) → from ≤ to → to ≤ length bytes → length (take (to - from) (drop from bytes)) ≡ to - from
window_size bytes from to h k =
    let behind : length (drop from bytes) ≡ length bytes - from = length-drop from bytes in
    length-take-le (to - from) (drop from bytes) (omega arith)

-- ---- a message under way

-- a source that told the same gave no bytes
pub came_same : (l k r s : Option (List ℕ)) → k ≡ l → s ≡ r → Came (flow l r) (flow k s) []
came_same l k r s e f = subst (λ (z : Option (List ℕ) × Option (List ℕ)). Came (flow l r) (flow z.0 z.1) []) (λ i. (sym e i, sym f i)) (came_none (flow l r))

pub under_start : (rules : Rules) (before : Flow) (held : List ℕ) → Under rules before before held held (stage.Head [] of_head) 0
under_start rules before held = record {
  got = [];
  gone = [];
  taken = came_none before;
  split = append-nil held;
  stands = (refl, refl, refl);
  counts = omega arith;
  spent_is = refl;
  rest = λ more ended frame r. subst (λ b. IsFrame rules.kind rules.max rules.place (b ++ more) ended frame) (sym (append-nil held)) r;
}

pub under_filled : (rules : Rules) (before mid after : Flow) (held left next : List ℕ) (at_stage : Stage) (spent : ℕ) (bytes : List ℕ)
    → Under rules before mid held left at_stage spent → Came mid after bytes → next ≡ left ++ bytes → Under rules before after held next at_stage spent
under_filled rules before mid after held left next at_stage spent bytes u takes more_left =
    let joined : held ++ (u.got ++ bytes) ≡ (held ++ u.got) ++ bytes = sym (append_assoc held u.got bytes) in
    record {
      got = u.got ++ bytes;
      gone = u.gone;
      taken = came_twice before mid after u.got bytes u.taken takes;
      split = joined ∙ (ap (λ l. l ++ bytes) u.split ∙ (append_assoc u.gone left bytes ∙ ap (λ l. u.gone ++ l) (sym more_left)));
      stands = u.stands;
      counts = u.counts;
      spent_is = u.spent_is;
      rest = λ more ended frame r.
          let front : next ++ more ≡ left ++ (bytes ++ more) = ap (λ l. l ++ more) more_left ∙ append_assoc left bytes more in
          let behind : (held ++ u.got) ++ (bytes ++ more) ≡ (held ++ (u.got ++ bytes)) ++ more = sym (append_assoc (held ++ u.got) bytes more) ∙ ap (λ l. l ++ more) (sym joined) in
          subst (λ b. IsFrame rules.kind rules.max rules.place b ended frame) behind
          (u.rest (bytes ++ more) ended frame (subst (λ b. Rest rules at_stage b ended frame) front r));
    }

parted : (held got gone left : List ℕ) (n : ℕ) → held ++ got ≡ gone ++ left → held ++ got ≡ (gone ++ take n left) ++ drop n left
parted held got gone left n h = h ∙ (ap (λ l. gone ++ l) (sym (take-append-drop n left)) ∙ sym (append_assoc gone (take n left) (drop n left)))

gone_size : (gone left : List ℕ) (n : ℕ) → n ≤ length left → length (gone ++ take n left) ≡ length gone + n
gone_size gone left n h = length-append gone (take n left) ∙ ap (λ k. length gone + k) (length-take-le n left h)

gone_count : (gone left : List ℕ) (n spent : ℕ) → n ≤ length left → spent ≡ past 0 (length gone) → past spent n ≡ past 0 (length (gone ++ take n left))
gone_count gone left n spent h s = ap (λ k. past k n) s ∙ (past_twice 0 (length gone) n ∙ ap (past 0) (sym (gone_size gone left n h)))

pub under_fed : (rules : Rules) (before after : Flow) (held left : List ℕ) (at_stage next : Stage) (spent n : ℕ)
    → Under rules before after held left at_stage spent → Goes rules at_stage next left n → Under rules before after held (drop n left) next (past spent n)
under_fed rules before after held left at_stage next spent n u goes =
    let size : length (u.gone ++ take n left) ≡ length u.gone + n = gone_size u.gone left n goes.within in
    let counts = u.counts in
    let spends = goes.spends in
    record {
      got = u.got;
      gone = u.gone ++ take n left;
      taken = u.taken;
      split = parted held u.got u.gone left n u.split;
      stands = goes.stands;
      counts = omega arith;
      spent_is = gone_count u.gone left n spent goes.within u.spent_is;
      rest = λ more ended frame r. u.rest more ended frame (goes.rest more ended frame r);
    }

-- what a frame is, with nothing behind
whole_frame : (rules : Rules) (before after : Flow) (held left : List ℕ) (at_stage : Stage) (spent : ℕ) (ended : Bool) (frame : Frame)
    → (u : Under rules before after held left at_stage spent) → Rest rules at_stage (left ++ []) ended frame → IsFrame rules.kind rules.max rules.place (held ++ u.got) ended frame
whole_frame rules before after held left at_stage spent ended frame u r =
    subst (λ b. IsFrame rules.kind rules.max rules.place b ended frame) (append-nil (held ++ u.got)) (u.rest [] ended frame r)

never : (P : Type 0) → (false ≡ true) → P
never P h = cc

pub under_given : (rules : Rules) (before after : Flow) (held left : List ℕ) (at_stage : Stage) (spent n : ℕ) (m : Message)
    → Under rules before after held left at_stage spent → Makes rules at_stage m left n
    → MessageOf rules.kind rules.max rules.place held before after (Given m (drop n left)) (drop n left) 0 (past spent n)
under_given rules before after held left at_stage spent n m u makes = record {
  ended = false;
  reading = record {
    got = u.got;
    taken = u.taken;
    told = λ h. never (IsDry after) h;
    is_frame = whole_frame rules before after held left at_stage spent false (Given m (drop n left)) u
        (subst (λ b. Rest rules at_stage (left ++ []) false (Given m b)) (append-nil (drop n left)) (makes.rest [] false));
  };
  of_message = u.gone ++ take n left;
  split = parted held u.got u.gone left n u.split;
  counted = gone_count u.gone left n spent makes.within u.spent_is;
}

pub under_ended : (rules : Rules) (before after : Flow) (held left : List ℕ) (at_stage : Stage) (spent : ℕ) (frame : Frame)
    → Under rules before after held left at_stage spent → left ≡ [] → IsDry after → Rest rules at_stage [] true frame
    → ReadingOf rules.kind rules.max rules.place held before after true frame
under_ended rules before after held left at_stage spent frame u none told r = record {
  got = u.got;
  taken = u.taken;
  told = λ _. told;
  is_frame = whole_frame rules before after held left at_stage spent true frame u (subst (λ b. Rest rules at_stage b true frame) (sym (append-nil left ∙ none)) r);
}

pub under_last : (rules : Rules) (before after : Flow) (held left : List ℕ) (at_stage : Stage) (spent : ℕ) (m : Message)
    → Under rules before after held left at_stage spent → left ≡ [] → IsDry after → Rest rules at_stage [] true (Given m [])
    → MessageOf rules.kind rules.max rules.place held before after (Given m left) left 0 spent
under_last rules before after held left at_stage spent m u none told r = record {
  ended = true;
  reading = record {
    got = u.got;
    taken = u.taken;
    told = λ _. told;
    is_frame = whole_frame rules before after held left at_stage spent true (Given m left) u
        (subst (λ b. Rest rules at_stage b true (Given m left)) (sym (append-nil left ∙ none)) (subst (λ b. Rest rules at_stage [] true (Given m b)) (sym none) r));
  };
  of_message = u.gone;
  split = u.split;
  counted = u.spent_is;
}

pub under_fault : (rules : Rules) (before after : Flow) (held left : List ℕ) (at_stage : Stage) (spent : ℕ) (fault : FrameFault)
    → Under rules before after held left at_stage spent → Faults rules at_stage left fault → ((fault ≡ NoMemory) → ⊥)
    → (ended : Bool) × ReadingOf rules.kind rules.max rules.place held before after ended (Refused fault)
under_fault rules before after held left at_stage spent fault u faults other = (
  false,
  record {
    got = u.got;
    taken = u.taken;
    told = λ h. never (IsDry after) h;
    is_frame = whole_frame rules before after held left at_stage spent false (Refused fault) u (faults.rest other [] false);
  },
)

pub under_spends : (rules : Rules) (before after : Flow) (held left : List ℕ) (at_stage : Stage) (spent : ℕ)
    → Under rules before after held left at_stage spent → length left ≤ 4096 → Spends rules.max held before after left spent
under_spends rules before after held left at_stage spent u few =
    let size : length held + length u.got ≡ length u.gone + length left = sym (length-append held u.got) ∙ (ap length u.split ∙ length-append u.gone left) in
    let counts = u.counts in
    record {
      got = u.got;
      taken = u.taken;
      few = omega arith;
      gone = u.gone;
      split = u.split;
      counted = u.spent_is;
    }

pub under_spent : (rules : Rules) (before after : Flow) (held left : List ℕ) (at_stage : Stage) (spent n : ℕ) (m : Message)
    → Under rules before after held left at_stage spent → length left ≤ 4096 → Makes rules at_stage m left n → Spends rules.max held before after (drop n left) (past spent n)
unfolding under_spends
under_spent rules before after held left at_stage spent n m u few makes =
    let all = under_spends rules before after held left at_stage spent u few in
    record {
      got = all.got;
      taken = all.taken;
      few = all.few;
      gone = u.gone ++ take n left;
      split = parted held u.got u.gone left n u.split;
      counted = gone_count u.gone left n spent makes.within u.spent_is;
    }

-- the count of a message's bytes, past the place where it began
pub placed : (kind : Kind) (max place : ℕ) (held : List ℕ) (before after : Flow) (frame : Frame) (left : List ℕ) (count : ℕ)
    → MessageOf kind max place held before after frame left 0 count → MessageOf kind max place held before after frame left place (past place count)
placed kind max place held before after frame left count m = record {
  ended = m.ended;
  reading = m.reading;
  of_message = m.of_message;
  split = m.split;
  counted = ap (past place) m.counted ∙ past_of_past place (length m.of_message);
}
  where
    past_of_past : (p n : ℕ) → past p (past 0 n) ≡ past p n
    past_of_past p n = grind arith

-- what the end of input makes of a message, where it makes one
pub ended_message : (rules : Rules) (before after : Flow) (held left : List ℕ) (at_stage : Stage) (spent : ℕ) (r : Result (Option Message) FrameFault)
    → Under rules before after held left at_stage spent → left ≡ [] → IsDry after → IfOk r (Ends rules at_stage)
    → IfOk r (λ o. IfSome o (λ m. MessageOf rules.kind rules.max rules.place held before after (Given m left) left 0 spent))
ended_message rules before after held left at_stage spent (Ok None) u none told ends = tt
ended_message rules before after held left at_stage spent (Ok (Some m)) u none told ends = under_last rules before after held left at_stage spent m u none told ends
ended_message rules before after held left at_stage spent (Err f) u none told ends = tt

pub ended_over : (rules : Rules) (before after : Flow) (held left : List ℕ) (at_stage : Stage) (spent : ℕ) (r : Result (Option Message) FrameFault)
    → Under rules before after held left at_stage spent → left ≡ [] → IsDry after → IfOk r (Ends rules at_stage)
    → IfOk r (λ o. o ≡ None → ReadingOf rules.kind rules.max rules.place held before after true Over)
ended_over rules before after held left at_stage spent (Ok None) u none told ends = λ _. under_ended rules before after held left at_stage spent Over u none told ends
ended_over rules before after held left at_stage spent (Ok (Some m)) u none told ends = λ h. cc
ended_over rules before after held left at_stage spent (Err f) u none told ends = tt

-- ---- what a reader holds

-- the bytes that were taken, and what is kept of them
abbrev pub Kept : ReaderState → ReaderState → Flow → Flow → Result (Option Message) FrameFault → Type 0
Kept old new before after result = (got : List ℕ) × Came before after got × (length got ≤ taken_at_most old.max) × Keeps old new got result

-- what was held and taken is gone or left
sizes : (max : ℕ) (held left : List ℕ) (before after : Flow) (count : ℕ) → (s : Spends max held before after left count)
    → length held + length s.got ≡ length s.gone + length left
sizes max held left before after count s = sym (length-append held s.got) ∙ (ap length s.split ∙ length-append s.gone left)

past_none : (place n : ℕ) → past place (past 0 n) ≡ past place n
past_none place n = grind arith

past_moved : (place held got gone left : ℕ) → held + got ≡ gone + left → past (past place (past 0 gone)) left ≡ past (past place held) got
past_moved place held got gone left e = grind arith

all_held : (old new : ReaderState) (before after : Flow) (count : ℕ) → (s : Spends old.max old.held before after new.held count) → new.gone ≡ past old.gone count
    → holding new ≡ past (holding old) (length s.got)
all_held old new before after count s e =
    ap (λ n. past n (length new.held)) (e ∙ ap (past old.gone) s.counted)
    ∙ past_moved old.gone (length old.held) (length s.got) (length s.gone) (length new.held) (sizes old.max old.held new.held before after count s)

pub kept_fault : (old new : ReaderState) (before after : Flow) (count : ℕ) (fault : FrameFault) → Spends old.max old.held before after new.held count
    → new.gone ≡ past old.gone count → new.place ≡ old.place → Kept old new before after (Err fault)
kept_fault old new before after count fault s e place = (s.got, s.taken, s.few, (all_held old new before after count s e, place))

pub kept_none : (old new : ReaderState) (before after : Flow) (count : ℕ) → Spends old.max old.held before after new.held count
    → new.gone ≡ past old.gone count → new.held ≡ [] → new.place ≡ past old.place count → Kept old new before after (Ok None)
kept_none old new before after count s e none place =
    let size = sizes old.max old.held new.held before after count s in
    let empty : length new.held ≡ 0 = ap length none in
    let all : length old.held + length s.got ≡ length s.gone = omega arith in (
      s.got,
      s.taken,
      s.few,
      (
        all_held old new before after count s e,
        none,
        place ∙ (ap (past old.place) s.counted ∙ (past_none old.place (length s.gone) ∙ ap (past old.place) (sym all))),
      ),
    )

pub kept_some : (old new : ReaderState) (before after : Flow) (count : ℕ) (m : Message) → Spends old.max old.held before after new.held count
    → new.gone ≡ 0 → length new.held ≤ 4096 → new.place ≡ past old.place count → Kept old new before after (Ok (Some m))
kept_some old new before after count m s e few place = (
  s.got,
  s.taken,
  s.few,
  (
    s.gone,
    s.split,
    place ∙ (ap (past old.place) s.counted ∙ past_none old.place (length s.gone)),
    ap (λ n. past n (length new.held)) e ∙ small (length new.held) few,
  ),
)
  where
    small : (n : ℕ) → n ≤ 4096 → past 0 n ≡ n
    small n h = grind arith

-- ---- all that a reading gave

ended_fault : (rules : Rules) (before after : Flow) (held left : List ℕ) (at_stage : Stage) (spent : ℕ) (r : Result (Option Message) FrameFault)
    → Under rules before after held left at_stage spent → left ≡ [] → IsDry after → IfErr r (λ f. Rest rules at_stage [] true (Refused f))
    → IfErr r (λ f. ((f ≡ ReadFault) → ⊥) → ((f ≡ NoMemory) → ⊥) → (ended : Bool) × ReadingOf rules.kind rules.max rules.place held before after ended (Refused f))
ended_fault rules before after held left at_stage spent (Ok o) u none told ends = tt
ended_fault rules before after held left at_stage spent (Err f) u none told ends = λ _ _. (true, under_ended rules before after held left at_stage spent (Refused f) u none told ends)

ended_empty : (left : List ℕ) (r : Result (Option Message) FrameFault) → left ≡ [] → IfOk r (λ o. o ≡ None → left ≡ [])
ended_empty left (Ok o) none = λ _. none
ended_empty left (Err f) none = tt

pub read_ended : (rules : Rules) (before after : Flow) (held left : List ℕ) (at_stage : Stage) (spent : ℕ) (r : Result (Option Message) FrameFault)
    → Under rules before after held left at_stage spent → length left ≤ 4096 → left ≡ [] → IsDry after → IfOk r (Ends rules at_stage) → IfErr r (λ f. Rest rules at_stage [] true (Refused f))
    → ReadOf rules.kind rules.max rules.place held before after left spent r
read_ended rules before after held left at_stage spent r u few none told ends refused = record {
  message = ended_message rules before after held left at_stage spent r u none told ends;
  over = ended_over rules before after held left at_stage spent r u none told ends;
  emptied = ended_empty left r none;
  fault = ended_fault rules before after held left at_stage spent r u none told refused;
  spends = under_spends rules before after held left at_stage spent u few;
}

pub read_failed : (rules : Rules) (before after : Flow) (held left : List ℕ) (at_stage : Stage) (spent : ℕ)
    → Under rules before after held left at_stage spent → length left ≤ 4096 → ReadOf rules.kind rules.max rules.place held before after left spent (Err ReadFault)
read_failed rules before after held left at_stage spent u few = record {
  message = tt;
  over = tt;
  emptied = tt;
  fault = λ other. absurd (other refl);
  spends = under_spends rules before after held left at_stage spent u few;
}

pub read_refused : (rules : Rules) (before after : Flow) (held left : List ℕ) (at_stage : Stage) (spent : ℕ) (fault : FrameFault)
    → Under rules before after held left at_stage spent → length left ≤ 4096 → Faults rules at_stage left fault → ReadOf rules.kind rules.max rules.place held before after left spent (Err fault)
read_refused rules before after held left at_stage spent fault u few faults = record {
  message = tt;
  over = tt;
  emptied = tt;
  fault = λ _ other. under_fault rules before after held left at_stage spent fault u faults other;
  spends = under_spends rules before after held left at_stage spent u few;
}

pub read_given : (rules : Rules) (before after : Flow) (held left : List ℕ) (at_stage : Stage) (spent n : ℕ) (m : Message)
    → Under rules before after held left at_stage spent → length left ≤ 4096 → Makes rules at_stage m left n
    → ReadOf rules.kind rules.max rules.place held before after (drop n left) (past spent n) (Ok (Some m))
read_given rules before after held left at_stage spent n m u few makes = record {
  message = under_given rules before after held left at_stage spent n m u makes;
  over = λ h. cc;
  emptied = λ h. cc;
  fault = tt;
  spends = under_spent rules before after held left at_stage spent n m u few makes;
}

-- ---- a reader that read

next_same : (old : ReaderState) (held : List ℕ) (before after : Flow) (count : ℕ) (r : Result (Option Message) FrameFault) → length held ≤ 4096
    → ReadOf old.kind old.max old.place old.held before after held count r → NextOf old (settled (with_held old held) count r) before after r
next_same old held before after count (Ok (Some m)) few read = record {
  message = placed old.kind old.max old.place old.held before after (Given m held) held count read.message;
  over = λ h. cc;
  fault = tt;
  taken = kept_some old (settled (with_held old held) count (Ok (Some m))) before after count m read.spends refl few refl;
}
next_same old held before after count (Ok None) few read = record {
  message = tt;
  over = read.over;
  fault = tt;
  taken = kept_none old (settled (with_held old held) count (Ok None)) before after count read.spends refl (read.emptied refl) refl;
}
next_same old held before after count (Err f) few read = record {
  message = tt;
  over = tt;
  fault = read.fault;
  taken = kept_fault old (settled (with_held old held) count (Err f)) before after count f read.spends refl refl;
}

-- what a reader answers of what was read
pub next_of : (old : ReaderState) (held : List ℕ) (before after : Flow) (count : ℕ) (read r : Result (Option Message) FrameFault) → length held ≤ 4096
    → ReadOf old.kind old.max old.place old.held before after held count read → Settles read r → NextOf old (settled (with_held old held) count r) before after r
next_of old held before after count read r few is settles = elim settles [
  | inl same ↦ subst (λ r. NextOf old (settled (with_held old held) count r) before after r) (sym same) (next_same old held before after count read few is)
  | inr lacks ↦ subst (λ r. NextOf old (settled (with_held old held) count r) before after r) (sym lacks) (record {
    message = tt;
    over = tt;
    fault = λ _ other. absurd (other refl);
    taken = kept_fault old (settled (with_held old held) count (Err NoMemory)) before after count NoMemory is.spends refl refl;
  })
]

-- the same, where the reader was this before and is that after
pub next_told : (old self new : ReaderState) (held : List ℕ) (before after : Flow) (count : ℕ) (read r : Result (Option Message) FrameFault) → old ≡ self → length held ≤ 4096
    → ReadOf old.kind old.max old.place old.held before after held count read → Settles read r → new ≡ settled (with_held old held) count r → NextOf self new before after r
next_told old self new held before after count read r same few is settles is_new =
    subst (λ (z : ReaderState × ReaderState). NextOf z.0 z.1 before after r) (λ i. (same i, sym is_new i)) (next_of old held before after count read r few is settles)

-- the same of a request whose head is these bytes
pub behind_told : (old self new : ReaderState) (text held : List ℕ) (before after : Flow) (count : ℕ) (read r : Result (Option Message) FrameFault) → old ≡ self → self.kind ≡ Requests → self.max ≡ most_body_bytes
    → length held ≤ 4096 → ReadOf Requests most_body_bytes old.place text before after held count read → Settles read r → new ≡ settled (with_held old held) count r → NextOf (with_held self text) new before after r
behind_told old self new text held before after count read r same kind max few is settles is_new =
    let kinds : Requests ≡ old.kind = sym (ap (λ (s : ReaderState). s.kind) same ∙ kind) in
    let maxes : most_body_bytes ≡ old.max = sym (ap (λ (s : ReaderState). s.max) same ∙ max) in
    let own : ReadOf old.kind old.max old.place text before after held count read =
    subst (λ (z : Kind × ℕ). ReadOf z.0 z.1 old.place text before after held count read) (λ i. (kinds i, maxes i)) is in
    next_told (with_held old text) (with_held self text) new held before after count read r (ap (λ s. with_held s text) same) few own settles is_new
