use Rattle.std.proofs.Common.{◌≡◌, ◌∙◌, ◌<◌, ◌+◌, ℕ, List, [], ◌∷◌, ◌++◌, map, take, get_or, length, ap, sym, arith}
use Rattle.std.proofs.lemmas.List.{map-append, take_more}
use Rattle.serde_json.specs.Data.{Data}
use Rattle.ocm_records.specs.Written.{note_data}
use Rattle.ocm_records.specs.declared.values.FieldNote.{FieldNote}
use Rattle.ocm_records.proofs.document_json.note_values.Goals as goal

one_more : {V : Type 0} → (view : V → Data) (made more : List V) (v : V) (notes : List FieldNote) (i : ℕ) (n : FieldNote)
    → more ≡ made ++ v ∷ [] → map view made ≡ map note_data (take i notes) → view v ≡ note_data n → n ≡ get_or notes i n → i < length notes
    → map view more ≡ map note_data (take (i + 1) notes)
one_more view made more v notes i n pushed before value is below =
    ap (map view) pushed
    ∙ (map-append view made (v ∷ [])
    ∙ (ap (λ front. front ++ view v ∷ []) before
    ∙ (ap (λ d. map note_data (take i notes) ++ d ∷ []) (value ∙ ap note_data is)
    ∙ (sym (map-append note_data (take i notes) (get_or notes i n ∷ []))
    ∙ ap (map note_data) (sym (take_more notes i n below))))))

pub loop-note-preserved : goal.loop-note-preserved
loop-note-preserved c =
    one_more _ _ _ _ _ _ c.note-item.result c.in_ok-push.ensures.items c.loop-note.invariant c.in_ok-value.ensures c.note-item.is (omega arith)
