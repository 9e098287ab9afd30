use Rattle.std.proofs.Common.{rules, refl}
use Rattle.atomic_table.specs.Table.{keeps}
use Rattle.ocm_cases_serve.proofs.notes.Notes.note.Goals as goal

pub load-requires : goal.load-requires
load-requires g c =
    let p = c.requires in
    (search rules, search rules, λ s _ _ _ _. (_, keeps, tt, tt, (record { bytes = p.0.bytes; moments = p.0.moments }, p.1, refl)))
